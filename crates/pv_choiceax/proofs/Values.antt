-- The values of choices, and of operations over them.
use Rattle.std.specs.Prelude.{◌≡◌, ◌↔◌, ℕ, Bool, true, false, List, [], ◌∷◌, ◌++◌, Option, Some, if◌then◌else◌}
use Rattle.std.specs.List.{AllZip}
use Rattle.std.proofs.Common.{sym, ap, ◌∙◌, subst}
use Rattle.std.proofs.lemmas.Option.{same_Some}
use Rattle.pv_value.specs.declared.world.World.{World}
use Rattle.pv_value.specs.declared.outcome.Input.{Input}
use Rattle.pv_value.specs.declared.outcome.Val.{Val}
use Rattle.pv_graph.specs.declared.node.Op.{Op}
use Rattle.pv_graph.specs.declared.node.Op.TheVariants as op
use Rattle.pv_graph.specs.Forms.{Form, form}
use Rattle.pv_graph.specs.Ops.{plain, shape}
use Rattle.pv_denote.specs.Denote.{Index, strict, truth, Value}
use Rattle.pv_denote.specs.Means.{IsTrueAt}
use Rattle.pv_denote.proofs.Cited.{value_once}
use Rattle.pv_pattern.proofs.Cited.{plain_is, phi_is}

pub form_two : (o : Option (Form ℕ)) (p : Op) (a b a' b' : ℕ) → o ≡ Some (form p (a ∷ b ∷ [])) → a ≡ a' → b ≡ b' → o ≡ Some (form p (a' ∷ b' ∷ []))
form_two o p a b a' b' e f g = cc

pub form_three : (o : Option (Form ℕ)) (p : Op) (a b c a' b' c' : ℕ) → o ≡ Some (form p (a ∷ b ∷ c ∷ [])) → a ≡ a' → b ≡ b' → c ≡ c' → o ≡ Some (form p (a' ∷ b' ∷ c' ∷ []))
form_three o p a b c a' b' c' e f g h = cc

-- ---- one kid for another that has its values

swapped : (Q : ℕ → Val → Type 0) (before : List ℕ) (k k' : ℕ) (after : List ℕ) (vs : List Val) → ((u : Val) → Q k u → Q k' u) → AllZip Q (before ++ (k ∷ after)) vs → AllZip Q (before ++ (k' ∷ after)) vs
swapped Q [] k k' after [] f h = absurd h
swapped Q [] k k' after (v ∷ vs) f h = (f v h.0, h.1)
swapped Q (b ∷ before) k k' after [] f h = absurd h
swapped Q (b ∷ before) k k' after (v ∷ vs) f h = (h.0, swapped Q before k k' after vs f h.1)

there : (Q : ℕ → Val → Type 0) (before : List ℕ) (k : ℕ) (after : List ℕ) (vs : List Val) → AllZip Q (before ++ (k ∷ after)) vs → (u : Val) × Q k u
there Q [] k after [] h = absurd h
there Q [] k after (v ∷ vs) h = (v, h.0)
there Q (b ∷ before) k after [] h = absurd h
there Q (b ∷ before) k after (v ∷ vs) h = there Q before k after vs h.1

module _ (view : ℕ → Option (Form ℕ)) (w : World) (x : Input) where
  truth_once : (t t' : Bool) (c : ℕ) (i : Index) → IsTrueAt (Value view w x) t c i → IsTrueAt (Value view w x) t' c i → t ≡ t'
  truth_once t t' c i h h' = same_Some t t' (sym h.2 ∙ ap truth (value_once view w x c i h.0 h'.0 h.1 h'.1) ∙ h'.2)

  -- a choice has the values of the kid that its test chooses
  pub chosen : (n c a b : ℕ) (i : Index) (v : Val) (t : Bool) → view n ≡ Some (form op.Phi (c ∷ a ∷ b ∷ [])) → IsTrueAt (Value view w x) t c i → Value view w x n i v ↔ Value view w x (if t then a else b) i v
  chosen n c a b i v t e h = (
    λ y. let p = (phi_is view w x n c a b i v e).0 y in subst (λ (q : Bool). Value view w x (if q then a else b) i v) (truth_once p.0 t c i p.1 h) p.2,
    λ y. (phi_is view w x n c a b i v e).1 (t, h, y),
  )

  -- an operation that needs the values of all its kids, over a choice at any of them
  pub over_choice : (o : Op) (before after : List ℕ) (l n r p q c a b : ℕ) (i : Index) (v : Val) → shape o ≡ plain
      → view l ≡ Some (form o (before ++ (n ∷ after))) → view n ≡ Some (form op.Phi (c ∷ a ∷ b ∷ [])) → view r ≡ Some (form op.Phi (c ∷ p ∷ q ∷ []))
      → view p ≡ Some (form o (before ++ (a ∷ after))) → view q ≡ Some (form o (before ++ (b ∷ after))) → Value view w x l i v ↔ Value view w x r i v
  over_choice o before after l n r p q c a b i v is el en er ep eq = (
    λ h.
        let d = (plain_is view w x l o (before ++ (n ∷ after)) i v el is).0 h in
        let u = there (λ k u. Value view w x k i u) before n after d.0 d.1 in
        let f = (phi_is view w x n c a b i u.0 en).0 u.1 in
        to d.0 d.1 d.2 f.0 f.1,
    λ h. let f = (phi_is view w x r c p q i v er).0 h in from f.0 f.1 f.2,
  )
    where
      to : (vs : List Val) → AllZip (λ k u. Value view w x k i u) (before ++ (n ∷ after)) vs → strict w x o vs ≡ Some v → (t : Bool) → IsTrueAt (Value view w x) t c i → Value view w x r i v
      to vs z s true t = (chosen r c p q i v true er t).1 ((plain_is view w x p o (before ++ (a ∷ after)) i v ep is).1 (vs, swapped (λ k u. Value view w x k i u) before n a after vs (λ u h. (chosen n c a b i u true en t).0 h) z, s))
      to vs z s false t = (chosen r c p q i v false er t).1 ((plain_is view w x q o (before ++ (b ∷ after)) i v eq is).1 (vs, swapped (λ k u. Value view w x k i u) before n b after vs (λ u h. (chosen n c a b i u false en t).0 h) z, s))

      from : (t : Bool) → IsTrueAt (Value view w x) t c i → Value view w x (if t then p else q) i v → Value view w x l i v
      from true t h =
          let d = (plain_is view w x p o (before ++ (a ∷ after)) i v ep is).0 h in
          (plain_is view w x l o (before ++ (n ∷ after)) i v el is).1 (d.0, swapped (λ k u. Value view w x k i u) before a n after d.0 (λ u h. (chosen n c a b i u true en t).1 h) d.1, d.2)
      from false t h =
          let d = (plain_is view w x q o (before ++ (b ∷ after)) i v eq is).0 h in
          (plain_is view w x l o (before ++ (n ∷ after)) i v el is).1 (d.0, swapped (λ k u. Value view w x k i u) before b n after d.0 (λ u h. (chosen n c a b i u false en t).1 h) d.1, d.2)
