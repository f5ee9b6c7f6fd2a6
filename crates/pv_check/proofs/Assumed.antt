-- The nodes that the innermost ending block assumes to end.
use Rattle.std.specs.Prelude.{◌≡◌, ◌≢◌, ℕ, ◌-◌, ◌≤◌, Bool, List, [], ◌∷◌, length, Option, Some, None, slice_get, refl}
use Rattle.std.proofs.Math.ListN.{get_or}
use Rattle.std.proofs.Common.{sym, ap, ◌∙◌, arith}
use Rattle.std.proofs.lemmas.Option.{same_Some}
use Rattle.pv_steps.specs.declared.step.Step.{Step}
use Rattle.pv_steps.specs.declared.step.Step.TheVariants.{Open, Assume}
use Rattle.pv_steps.specs.Steps.{Block, OpenBlock, assumed_in, AreOpen}
use Rattle.pv_check.specs.Kept.{number_of, blocks_at, AreKept}
use Rattle.pv_check.specs.Inductions.{block_of, ending_nodes}
use Rattle.pv_check.proofs.Placed.{first_opened, self_open}
use Rattle.pv_check.proofs.Finding.{same_blocks}
use Rattle.pv_check.proofs.Fresh.{IsBlock, step_before, next_number}

by_step : (s : Step) (p : OpenBlock) (ps : List OpenBlock) → block_of s ≡ Some p.block → assumed_in (p ∷ ps) ≡ elim (ending_nodes s) [ Some nodes ↦ nodes | None ↦ assumed_in ps ]
by_step (Open d pairs) p ps h = ap (λ (b : Block). assumed_in (record { opened = p.opened; block = b } ∷ ps)) (sym (same_Some _ _ h))
by_step (Assume q nodes) p ps h = ap (λ (b : Block). assumed_in (record { opened = p.opened; block = b } ∷ ps)) (sym (same_Some _ _ h))
by_step s p ps h = absurd (cc)

-- around a block there are those that were open before it
outwards : (section : List Step) (n : ℕ) (s : Step) → IsBlock section n → n ≢ 0 → slice_get section (n - 1) ≡ Some s
    → assumed_in (blocks_at section n) ≡ elim (ending_nodes s) [ Some nodes ↦ nodes | None ↦ assumed_in (blocks_at section (number_of (blocks_at section (n - 1)))) ]
outwards section n s h some there = go (blocks_at section n) refl (self_open (blocks_at section n))
  where
    low : n - 1 ≤ length section
    low = let z = h.known in omega (arith, z)

    outer : blocks_at section (number_of (blocks_at section (n - 1))) ≡ blocks_at section (n - 1)
    outer = same_blocks section (n - 1) low (blocks_at section (n - 1)) (self_open (blocks_at section (n - 1)))

    go : (ps : List OpenBlock) → blocks_at section n ≡ ps → AreOpen ps (blocks_at section n)
        → assumed_in ps ≡ elim (ending_nodes s) [ Some nodes ↦ nodes | None ↦ assumed_in (blocks_at section (number_of (blocks_at section (n - 1)))) ]
    go [] e a = absurd (some (sym h.number ∙ ap number_of e))
    go (p ∷ ps) e a =
        let o = first_opened section n h.known p ps a in
        let at : o.k ≡ n - 1 = (let x = sym h.number ∙ ap number_of e ∙ o.number in omega (arith, x)) in
        let step : o.step ≡ s = same_Some _ _ (sym o.there ∙ ap (slice_get section) at ∙ there) in
        let rest : ps ≡ blocks_at section (number_of (blocks_at section (n - 1))) = o.outer_ ∙ ap (blocks_at section) at ∙ sym outer in
        by_step s p ps (ap block_of (sym step) ∙ o.block) ∙ ap (λ (qs : List OpenBlock). elim (ending_nodes s) [ Some nodes ↦ nodes | None ↦ assumed_in qs ]) rest

pub assumed_here : (section : List Step) (n : ℕ) (d : Step) (nodes : List ℕ) → IsBlock section n → n ≢ 0 → ending_nodes (get_or section (n - 1) d) ≡ Some nodes → assumed_in (blocks_at section n) ≡ nodes
assumed_here section n d nodes h some e =
    outwards section n (get_or section (n - 1) d) h some (step_before section n d h some) ∙ ap (λ (o : Option (List ℕ)). elim o [ Some ns ↦ ns | None ↦ assumed_in (blocks_at section (number_of (blocks_at section (n - 1)))) ]) e

pub assumed_next : (section : List Step) (innermost : List ℕ) (opened : List Bool) → AreKept section innermost opened → (n : ℕ) (d : Step) → IsBlock section n → n ≢ 0 → ending_nodes (get_or section (n - 1) d) ≡ None
    → assumed_in (blocks_at section n) ≡ assumed_in (blocks_at section (get_or innermost (n - 1) 0))
assumed_next section innermost opened kept n d h some e =
    outwards section n (get_or section (n - 1) d) h some (step_before section n d h some)
    ∙ ap (λ (o : Option (List ℕ)). elim o [ Some ns ↦ ns | None ↦ assumed_in (blocks_at section (number_of (blocks_at section (n - 1)))) ]) e
    ∙ ap (λ (m : ℕ). assumed_in (blocks_at section m)) (sym (next_number section innermost opened kept n h some))
