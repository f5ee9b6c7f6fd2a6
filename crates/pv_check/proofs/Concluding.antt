-- What a section concludes, by what is kept.
use Rattle.std.specs.Prelude.{◌≡◌, ◌↔◌, ℕ, suc, Bool, IsTrue, List, [], ◌∷◌, length, reverse, Some, slice_get, ◌==◌, refl}
use Rattle.std.specs.Bool.{Decides}
use Rattle.std.proofs.Math.ListN.{get_or}
use Rattle.std.proofs.Common.{sym, ap, ◌∙◌, subst, arith, take_all}
use Rattle.std.proofs.lemmas.List.{length-reverse}
use Rattle.std.proofs.lemmas.Option.{same_Some}
use Rattle.pv_graph.specs.Walks.{In}
use Rattle.pv_steps.specs.declared.step.Step.{Step}
use Rattle.pv_steps.specs.Steps.{OpenBlock, Stated, states, open_after, stated_at, AreOpen}
use Rattle.pv_steps.specs.Accepted.{LastStates}
use Rattle.pv_check.specs.Kept.{AreKept, number_of, blocks_at, open_now, opened_pairs, step_pairs}
use Rattle.pv_check.proofs.Deciding.{decides_map, decides_nat}
use Rattle.pv_check.proofs.Placed.{first_opened, self_open}
use Rattle.pv_check.proofs.Finding.{stated_is, around_is, step_pairs_are, inside_at}

pub open_is : (section : List Step) → open_now section ≡ blocks_at section (length section)
open_is section = ap (λ (q : List Step). open_after (reverse q)) (sym (take_all (length section) section (omega arith)))

-- an open block has a number
some_number : (section : List Step) (p : OpenBlock) (ps : List OpenBlock) → open_now section ≡ p ∷ ps → p.opened ≡ 0 → ⊥
some_number section p ps e z =
    let o = first_opened section (length section) (omega arith) p ps (subst (λ (q : List OpenBlock). AreOpen (p ∷ ps) q) (sym e ∙ open_is section) (self_open (p ∷ ps))) in
    let n = o.number in
    absurd (omega (arith, n, z))

pub none_open : (section : List Step) (n : ℕ) → n ≡ number_of (open_now section) → Decides (n == 0) (open_now section ≡ [])
none_open section n e = decides_map (decides_nat n 0) (λ z. go (open_now section) refl (sym e ∙ z)) (λ z. e ∙ ap number_of z)
  where
    go : (ps : List OpenBlock) → open_now section ≡ ps → number_of ps ≡ 0 → open_now section ≡ []
    go [] q z = q
    go (p ∷ ps) q z = absurd (some_number section p ps q z)

-- the last step states a pair exactly where the pair is among those that are read
pub last_is : (section : List Step) (innermost : List ℕ) (opened : List Bool) → AreKept section innermost opened → open_now section ≡ [] → (k : ℕ) → length section ≡ suc k → (s : Step) → slice_get section k ≡ Some s
    → (t : Bool) (a b : ℕ) → (IsTrue t ↔ In {A = ℕ × ℕ} (step_pairs s (opened_pairs section (get_or innermost k 0))) (a, b)) → IsTrue t ↔ LastStates (reverse section) a b
last_is section innermost opened kept none k l s e t a b h =
    let st : Stated = states s (suc k) (blocks_at section k) in
    let at : stated_at (reverse section) (length (reverse section)) ≡ Some st = ap (stated_at (reverse section)) (length-reverse section ∙ l) ∙ stated_is section k s e in
    let pairs : st.pairs ≡ step_pairs s (opened_pairs section (get_or innermost k 0)) =
    step_pairs_are section k (omega (arith, l)) s ∙ ap (λ (n : ℕ). step_pairs s (opened_pairs section n)) (sym (inside_at section innermost opened kept k (omega (arith, l)))) in
    let outside : st.around ≡ [] = around_is section k s e ∙ ap (blocks_at section) (sym l) ∙ sym (open_is section) ∙ none in (
      λ y. record { stated = st; last = at; outside = outside; states_ = subst (λ (q : List (ℕ × ℕ)). In {A = ℕ × ℕ} q (a, b)) (sym pairs) (h.0 y) },
      λ y. h.1 (subst (λ (q : List (ℕ × ℕ)). In {A = ℕ × ℕ} q (a, b)) (ap (λ (x : Stated). x.pairs) (same_Some _ _ (sym y.last ∙ at)) ∙ pairs) y.states_),
    )
