-- The laws of the axioms on references, choices and tokens.
use Rattle.std.specs.Prelude.{◌≡◌, ◌≢◌, ◌↔◌, ℕ, ℤ, pos, Bool, true, false, List, [], ◌∷◌, Option, Some, slice_get, if◌then◌else◌, refl}
use Rattle.std.specs.List.{AllZip}
use Rattle.std.proofs.Common.{sym, ap, ◌∙◌, subst, arith}
use Rattle.std.proofs.lemmas.Option.{same_Some}
use Rattle.std.proofs.lemmas.Bool.Decides.{nat_tests}
use Rattle.pv_value.specs.Operations.{int}
use Rattle.pv_value.specs.declared.world.World.{World}
use Rattle.pv_value.specs.declared.outcome.Input.{Input}
use Rattle.pv_value.specs.declared.number.Num.TheVariants as num
use Rattle.pv_value.specs.declared.outcome.Val.{Val}
use Rattle.pv_value.specs.declared.outcome.Val.TheVariants as val
use Rattle.pv_graph.specs.declared.node.Op.{Op}
use Rattle.pv_graph.specs.declared.node.Op.TheVariants as op
use Rattle.pv_graph.specs.declared.node.OpSort.{OpSort}
use Rattle.pv_graph.specs.declared.node.OpSort.TheVariants as sort
use Rattle.pv_graph.specs.Forms.{Form, form}
use Rattle.pv_denote.specs.Denote.{Index, strict, truth, Value, same_ref}
use Rattle.pv_denote.specs.Means.{IsTrueAt}
use Rattle.pv_denote.specs.Typed.{IsOf}
use Rattle.pv_graph.specs.Walks.{IsSettled}
use Rattle.pv_graph.specs.Graphs.{Graph, form_at}
use Rattle.pv_denote.proofs.Cited.{den_makes, value_once, sort_law}
use Rattle.pv_graph.proofs.Cited.{HasSortAt, shape_takes, exactly_are}
use Rattle.pv_pattern.specs.Patterns.{fixed, var, settled}
use Rattle.pv_pattern.specs.Laws.{Setting, Law, Laws}
use Rattle.pv_pattern.proofs.Cited.{none_at, two_at, three_at, same_at, kids_sorted, settled_has, plain_is, phi_is}
use Rattle.pv_scalar.specs.Table.{rule, op0, op2, phi, both, zero_, one_, refs, choices, tokens}
use Rattle.pv_scalar.proofs.Terms.{const_has}

form_two : (o : Option (Form ℕ)) (p : Op) (a b a' b' : ℕ) → o ≡ Some (form p (a ∷ b ∷ [])) → a ≡ a' → b ≡ b' → o ≡ Some (form p (a' ∷ b' ∷ []))
form_two o p a b a' b' e f g = cc

form_three : (o : Option (Form ℕ)) (p : Op) (a b c a' b' c' : ℕ) → o ≡ Some (form p (a ∷ b ∷ c ∷ [])) → a ≡ a' → b ≡ b' → c ≡ c' → o ≡ Some (form p (a' ∷ b' ∷ c' ∷ []))
form_three o p a b c a' b' c' e f g h = cc

module _ (view : ℕ → Option (Form ℕ)) (w : World) (x : Input) where
  int_has : (n : ℕ) (c : ℤ) (i : Index) → view n ≡ Some (form (op.Int c) []) → Value view w x n i (val.Num (num.Int c))
  int_has n c i e = const_has view w x i (op.Int c) n (num.Int c) e refl

  -- ---- choices

  truth_once : (t t' : Bool) (c : ℕ) (i : Index) → IsTrueAt (Value view w x) t c i → IsTrueAt (Value view w x) t' c i → t ≡ t'
  truth_once t t' c i h h' = same_Some t t' (sym h.2 ∙ ap truth (value_once view w x c i h.0 h'.0 h.1 h'.1) ∙ h'.2)

  chosen : (n c a b : ℕ) (i : Index) (v : Val) (t : Bool) → view n ≡ Some (form op.Phi (c ∷ a ∷ b ∷ [])) → IsTrueAt (Value view w x) t c i → Value view w x n i v ↔ Value view w x (if t then a else b) i v
  chosen n c a b i v t e h = (
    λ y. let p = (phi_is view w x n c a b i v e).0 y in subst (λ (q : Bool). Value view w x (if q then a else b) i v) (truth_once p.0 t c i p.1 h) p.2,
    λ y. (phi_is view w x n c a b i v e).1 (t, h, y),
  )

  -- phi(c,phi(c,a,b),e) = phi(c,a,e)
  nested_first : (l n r c a b e : ℕ) (i : Index) (v : Val) → view l ≡ Some (form op.Phi (c ∷ n ∷ e ∷ [])) → view n ≡ Some (form op.Phi (c ∷ a ∷ b ∷ [])) → view r ≡ Some (form op.Phi (c ∷ a ∷ e ∷ []))
      → Value view w x l i v ↔ Value view w x r i v
  nested_first l n r c a b e i v el en er = (λ h. let p = (phi_is view w x l c n e i v el).0 h in to p.0 p.1 p.2, λ h. let p = (phi_is view w x r c a e i v er).0 h in from p.0 p.1 p.2)
    where
      to : (t : Bool) → IsTrueAt (Value view w x) t c i → Value view w x (if t then n else e) i v → Value view w x r i v
      to true t h = (chosen r c a e i v true er t).1 ((chosen n c a b i v true en t).0 h)
      to false t h = (chosen r c a e i v false er t).1 h

      from : (t : Bool) → IsTrueAt (Value view w x) t c i → Value view w x (if t then a else e) i v → Value view w x l i v
      from true t h = (chosen l c n e i v true el t).1 ((chosen n c a b i v true en t).1 h)
      from false t h = (chosen l c n e i v false el t).1 h

  -- phi(c,a,phi(c,b,e)) = phi(c,a,e)
  nested_second : (l n r c a b e : ℕ) (i : Index) (v : Val) → view l ≡ Some (form op.Phi (c ∷ a ∷ n ∷ [])) → view n ≡ Some (form op.Phi (c ∷ b ∷ e ∷ [])) → view r ≡ Some (form op.Phi (c ∷ a ∷ e ∷ []))
      → Value view w x l i v ↔ Value view w x r i v
  nested_second l n r c a b e i v el en er = (λ h. let p = (phi_is view w x l c a n i v el).0 h in to p.0 p.1 p.2, λ h. let p = (phi_is view w x r c a e i v er).0 h in from p.0 p.1 p.2)
    where
      to : (t : Bool) → IsTrueAt (Value view w x) t c i → Value view w x (if t then a else n) i v → Value view w x r i v
      to true t h = (chosen r c a e i v true er t).1 h
      to false t h = (chosen r c a e i v false er t).1 ((chosen n c b e i v false en t).0 h)

      from : (t : Bool) → IsTrueAt (Value view w x) t c i → Value view w x (if t then a else e) i v → Value view w x l i v
      from true t h = (chosen l c a n i v true el t).1 h
      from false t h = (chosen l c a n i v false el t).1 ((chosen n c b e i v false en t).1 h)

  -- phi(phi(c,a,b),y,z) = phi(c,phi(a,y,z),phi(b,y,z))
  over_choice : (l n r p q c a b y z : ℕ) (i : Index) (v : Val) → view l ≡ Some (form op.Phi (n ∷ y ∷ z ∷ [])) → view n ≡ Some (form op.Phi (c ∷ a ∷ b ∷ [])) → view r ≡ Some (form op.Phi (c ∷ p ∷ q ∷ []))
      → view p ≡ Some (form op.Phi (a ∷ y ∷ z ∷ [])) → view q ≡ Some (form op.Phi (b ∷ y ∷ z ∷ [])) → Value view w x l i v ↔ Value view w x r i v
  over_choice l n r p q c a b y z i v el en er ep eq = (
    λ h. let d = (phi_is view w x l n y z i v el).0 h in let f = (phi_is view w x n c a b i d.1.0 en).0 d.1.1 in to f.0 f.1 d.0 d.1.0 f.2 d.1.2 d.2,
    λ h. let f = (phi_is view w x r c p q i v er).0 h in from f.0 f.1 f.2,
  )
    where
      to : (t : Bool) → IsTrueAt (Value view w x) t c i → (s : Bool) (u : Val) → Value view w x (if t then a else b) i u → truth u ≡ Some s → Value view w x (if s then y else z) i v → Value view w x r i v
      to true t s u h e g = (chosen r c p q i v true er t).1 ((phi_is view w x p a y z i v ep).1 (s, (u, h, e), g))
      to false t s u h e g = (chosen r c p q i v false er t).1 ((phi_is view w x q b y z i v eq).1 (s, (u, h, e), g))

      from : (t : Bool) → IsTrueAt (Value view w x) t c i → Value view w x (if t then p else q) i v → Value view w x l i v
      from true t h = let d = (phi_is view w x p a y z i v ep).0 h in (phi_is view w x l n y z i v el).1 (d.0, (d.1.0, (chosen n c a b i d.1.0 true en t).1 d.1.1, d.1.2), d.2)
      from false t h = let d = (phi_is view w x q b y z i v eq).0 h in (phi_is view w x l n y z i v el).1 (d.0, (d.1.0, (chosen n c a b i d.1.0 false en t).1 d.1.1, d.1.2), d.2)

  -- ---- tokens

  both_of : (u t v : Val) → strict w x op.Both (u ∷ t ∷ []) ≡ Some v → (u ≡ val.Unit) × (t ≡ val.Unit) × (v ≡ val.Unit)
  unfolding strict
  both_of val.Unit val.Unit v e = (refl, refl, cc)
  both_of u t v e = absurd (cc)

  both_gives : strict w x op.Both (val.Unit ∷ val.Unit ∷ []) ≡ Some val.Unit
  unfolding strict
  both_gives = refl

  unit_gives : strict w x op.Unit [] ≡ Some val.Unit
  unfolding strict
  unit_gives = refl

  both_is : (n a b : ℕ) (i : Index) (v : Val) → view n ≡ Some (form op.Both (a ∷ b ∷ [])) → Value view w x n i v ↔ ((v ≡ val.Unit) × Value view w x a i val.Unit × Value view w x b i val.Unit)
  both_is n a b i v e = (to, from)
    where
      go : (vs : List Val) → AllZip (λ k u. Value view w x k i u) (a ∷ b ∷ []) vs → strict w x op.Both vs ≡ Some v → (v ≡ val.Unit) × Value view w x a i val.Unit × Value view w x b i val.Unit
      go (u ∷ t ∷ []) z s = let h = both_of u t v s in (h.2, subst (λ (y : Val). Value view w x a i y) h.0 z.0, subst (λ (y : Val). Value view w x b i y) h.1 z.1.0)
      go vs z s = absurd (assumption)

      to : Value view w x n i v → (v ≡ val.Unit) × Value view w x a i val.Unit × Value view w x b i val.Unit
      to h = let p = (plain_is view w x n op.Both (a ∷ b ∷ []) i v e refl).0 h in go p.0 p.1 p.2

      from : (v ≡ val.Unit) × Value view w x a i val.Unit × Value view w x b i val.Unit → Value view w x n i v
      from h = subst (λ (y : Val). Value view w x n i y) (sym h.0) ((plain_is view w x n op.Both (a ∷ b ∷ []) i val.Unit e refl).1 (val.Unit ∷ val.Unit ∷ [], (h.1, (h.2, tt)), both_gives))

  -- ---- references

  aeq_of : (u t v : Val) → strict w x op.Aeq (u ∷ t ∷ []) ≡ Some v → (a b : ℕ) × (u ≡ val.Num (num.Ref a)) × (t ≡ val.Num (num.Ref b)) × (v ≡ val.Num (num.Int (same_ref a b)))
  unfolding strict
  aeq_of (val.Num (num.Ref a)) (val.Num (num.Ref b)) v e = (a, b, refl, refl, cc)
  aeq_of u t v e = absurd (cc)

  aeq_gives : (a b : ℕ) → strict w x op.Aeq (val.Num (num.Ref a) ∷ val.Num (num.Ref b) ∷ []) ≡ Some (val.Num (num.Int (same_ref a b)))
  unfolding strict
  aeq_gives a b = refl

  aeq_is : (n p q : ℕ) (i : Index) (v : Val) → view n ≡ Some (form op.Aeq (p ∷ q ∷ [])) → Value view w x n i v ↔ ((a b : ℕ) × Value view w x p i (val.Num (num.Ref a)) × Value view w x q i (val.Num (num.Ref b)) × (v ≡ val.Num (num.Int (same_ref a b))))
  aeq_is n p q i v e = (to, from)
    where
      go : (vs : List Val) → AllZip (λ k u. Value view w x k i u) (p ∷ q ∷ []) vs → strict w x op.Aeq vs ≡ Some v
          → (a b : ℕ) × Value view w x p i (val.Num (num.Ref a)) × Value view w x q i (val.Num (num.Ref b)) × (v ≡ val.Num (num.Int (same_ref a b)))
      go (u ∷ t ∷ []) z s = let h = aeq_of u t v s in (h.0, h.1, subst (λ (y : Val). Value view w x p i y) h.2 z.0, subst (λ (y : Val). Value view w x q i y) h.3 z.1.0, h.4)
      go vs z s = absurd (assumption)

      to : Value view w x n i v → (a b : ℕ) × Value view w x p i (val.Num (num.Ref a)) × Value view w x q i (val.Num (num.Ref b)) × (v ≡ val.Num (num.Int (same_ref a b)))
      to h = let d = (plain_is view w x n op.Aeq (p ∷ q ∷ []) i v e refl).0 h in go d.0 d.1 d.2

      from : (a b : ℕ) × Value view w x p i (val.Num (num.Ref a)) × Value view w x q i (val.Num (num.Ref b)) × (v ≡ val.Num (num.Int (same_ref a b))) → Value view w x n i v
      from h = subst (λ (y : Val). Value view w x n i y) (sym h.4) ((plain_is view w x n op.Aeq (p ∷ q ∷ []) i (val.Num (num.Int (same_ref h.0 h.1))) e refl).1 (val.Num (num.Ref h.0) ∷ val.Num (num.Ref h.1) ∷ [], (h.2, (h.3, tt)), aeq_gives h.0 h.1))

  this_has : (n : ℕ) (i : Index) → view n ≡ Some (form op.This []) → Value view w x n i (val.Num (num.Ref x.this))
  unfolding strict
  this_has n i e = den_makes view w x n i (val.Num (num.Ref x.this)) op.This [] e ([], tt, refl)

  null_has : (n : ℕ) (i : Index) → view n ≡ Some (form op.Null []) → Value view w x n i (val.Num (num.Ref 0))
  unfolding strict
  null_has n i e = den_makes view w x n i (val.Num (num.Ref 0)) op.Null [] e ([], tt, refl)

  unit_has : (n : ℕ) (i : Index) → view n ≡ Some (form op.Unit []) → Value view w x n i val.Unit
  unit_has n i e = (plain_is view w x n op.Unit [] i val.Unit e refl).1 ([], tt, unit_gives)

ref_turned : (a b : ℕ) → same_ref a b ≡ same_ref b a
ref_turned a b = grind (arith, nat_tests)

ref_same : (a : ℕ) → same_ref a a ≡ pos 1
ref_same a = grind (arith, nat_tests)

ref_other : (a : ℕ) → a ≢ 0 → same_ref a 0 ≡ pos 0
ref_other a h = grind (arith, nat_tests)

-- ---- the laws

abbrev Same : Graph → World → Input → Index → Val → ℕ → ℕ → Type 0
Same g w x i v l r = Value (form_at g.nodes) w x l i v ↔ Value (form_at g.nodes) w x r i v

to_node : (g : Graph) (w : World) (x : Input) (i : Index) (v : Val) (l r n : ℕ) → r ≡ n → Same g w x i v l n → Same g w x i v l r
to_node g w x i v l r n e h = subst (λ (k : ℕ). Same g w x i v l k) (sym e) h

law_201 : Law (rule 201 (phi (zero_ int) (var 0) (var 1)) (var 1) [])
law_201 g assumed subst_ l r w x set is i v =
    let view = form_at g.nodes in
    let m = is.names in
    let y = three_at view m (fixed op.Phi) (zero_ int) (var 0) (var 1) l is.left in
    to_node g w x i v l r y.2 (same_at (slice_get m.vars 1) r y.2 is.right y.6)
    (chosen view w x l y.0 y.1 y.2 i v false y.3 (val.Num (num.Int (pos 0)), int_has view w x y.0 (pos 0) i (none_at view m (fixed (op.Int (pos 0))) y.0 y.4), refl))

law_202 : Law (rule 202 (phi (one_ int) (var 0) (var 1)) (var 0) [])
law_202 g assumed subst_ l r w x set is i v =
    let view = form_at g.nodes in
    let m = is.names in
    let y = three_at view m (fixed op.Phi) (one_ int) (var 0) (var 1) l is.left in
    to_node g w x i v l r y.1 (same_at (slice_get m.vars 0) r y.1 is.right y.5)
    (chosen view w x l y.0 y.1 y.2 i v true y.3 (val.Num (num.Int (pos 1)), int_has view w x y.0 (pos 1) i (none_at view m (fixed (op.Int (pos 1))) y.0 y.4), refl))

either_kid : (view : ℕ → Option (Form ℕ)) (w : World) (x : Input) (a : ℕ) (i : Index) (v : Val) (t : Bool) → Value view w x (if t then a else a) i v → Value view w x a i v
either_kid view w x a i v true h = h
either_kid view w x a i v false h = h

from_kid : (view : ℕ → Option (Form ℕ)) (w : World) (x : Input) (a : ℕ) (i : Index) (v : Val) (t : Bool) → Value view w x a i v → Value view w x (if t then a else a) i v
from_kid view w x a i v true h = h
from_kid view w x a i v false h = h

truth_there : (u : Val) → IsOf sort.I u → (t : Bool) × (truth u ≡ Some t)
truth_there (val.Num (num.Int n)) h = (_, refl)
truth_there u h = absurd h

law_203 : Law (rule 203 (phi (var 0) (var 1) (var 1)) (var 1) (settled 0 ∷ []))
law_203 g assumed subst_ l r w x set is i v =
    let view = form_at g.nodes in
    let m = is.names in
    let y = three_at view m (fixed op.Phi) (var 0) (var 1) (var 1) l is.left in
    let one : y.2 ≡ y.1 = same_at (slice_get m.vars 1) y.2 y.1 y.6 y.5 in
    let el : view l ≡ Some (form op.Phi (y.0 ∷ y.1 ∷ y.1 ∷ [])) = form_three (view l) op.Phi y.0 y.1 y.2 y.0 y.1 y.1 y.3 refl refl one in
    let calm = is.sides.0 in
    let two : calm.0 ≡ y.0 = same_at (slice_get m.vars 0) calm.0 y.0 calm.1 y.4 in
    let h = kids_sorted g w x assumed set l op.Phi (y.0 ∷ y.1 ∷ y.1 ∷ []) el in
    let s = first_sort g y.0 y.1 y.1 h.1 h.0 h.2 (shape_takes op.Phi h.1 h.0 h.3) in
    let u = settled_has g w x assumed set y.0 sort.I i s (subst (λ (k : ℕ). IsSettled view assumed k) two calm.2) in
    let t = truth_there u.0 u.2 in
    to_node g w x i v l r y.1 (same_at (slice_get m.vars 1) r y.1 is.right y.5) (
      λ z. either_kid view w x y.1 i v t.0 ((chosen view w x l y.0 y.1 y.1 i v t.0 el (u.0, u.1, t.1)).0 z),
      λ z. (chosen view w x l y.0 y.1 y.1 i v t.0 el (u.0, u.1, t.1)).1 (from_kid view w x y.1 i v t.0 z),
    )
  where
    first_sort : (g : Graph) (c a b : ℕ) (ss : List OpSort) (s : OpSort) → AllZip (HasSortAt g) (c ∷ a ∷ b ∷ []) ss → ss ≡ sort.I ∷ s ∷ s ∷ [] → HasSortAt g c sort.I
    first_sort g c a b ss s h e = (subst (λ (q : List OpSort). AllZip (HasSortAt g) (c ∷ a ∷ b ∷ []) q) e h).0

law_204 : Law (rule 204 (phi (var 0) (phi (var 0) (var 1) (var 2)) (var 3)) (phi (var 0) (var 1) (var 3)) [])
law_204 g assumed subst_ l r w x set is i v =
    let view = form_at g.nodes in
    let m = is.names in
    let y = three_at view m (fixed op.Phi) (var 0) (phi (var 0) (var 1) (var 2)) (var 3) l is.left in
    let n = three_at view m (fixed op.Phi) (var 0) (var 1) (var 2) y.1 y.5 in
    let z = three_at view m (fixed op.Phi) (var 0) (var 1) (var 3) r is.right in
    nested_first view w x l y.1 r y.0 n.1 n.2 y.2 i v y.3
    (form_three (view y.1) op.Phi n.0 n.1 n.2 y.0 n.1 n.2 n.3 (same_at (slice_get m.vars 0) n.0 y.0 n.4 y.4) refl refl)
    (form_three (view r) op.Phi z.0 z.1 z.2 y.0 n.1 y.2 z.3 (same_at (slice_get m.vars 0) z.0 y.0 z.4 y.4) (same_at (slice_get m.vars 1) z.1 n.1 z.5 n.5) (same_at (slice_get m.vars 3) z.2 y.2 z.6 y.6))

law_205 : Law (rule 205 (phi (var 0) (var 1) (phi (var 0) (var 2) (var 3))) (phi (var 0) (var 1) (var 3)) [])
law_205 g assumed subst_ l r w x set is i v =
    let view = form_at g.nodes in
    let m = is.names in
    let y = three_at view m (fixed op.Phi) (var 0) (var 1) (phi (var 0) (var 2) (var 3)) l is.left in
    let n = three_at view m (fixed op.Phi) (var 0) (var 2) (var 3) y.2 y.6 in
    let z = three_at view m (fixed op.Phi) (var 0) (var 1) (var 3) r is.right in
    nested_second view w x l y.2 r y.0 y.1 n.1 n.2 i v y.3
    (form_three (view y.2) op.Phi n.0 n.1 n.2 y.0 n.1 n.2 n.3 (same_at (slice_get m.vars 0) n.0 y.0 n.4 y.4) refl refl)
    (form_three (view r) op.Phi z.0 z.1 z.2 y.0 y.1 n.2 z.3 (same_at (slice_get m.vars 0) z.0 y.0 z.4 y.4) (same_at (slice_get m.vars 1) z.1 y.1 z.5 y.5) (same_at (slice_get m.vars 3) z.2 n.2 z.6 n.6))

law_206 : Law (rule 206 (phi (phi (var 0) (var 1) (var 2)) (var 3) (var 4)) (phi (var 0) (phi (var 1) (var 3) (var 4)) (phi (var 2) (var 3) (var 4))) [])
law_206 g assumed subst_ l r w x set is i v =
    let view = form_at g.nodes in
    let m = is.names in
    let y = three_at view m (fixed op.Phi) (phi (var 0) (var 1) (var 2)) (var 3) (var 4) l is.left in
    let n = three_at view m (fixed op.Phi) (var 0) (var 1) (var 2) y.0 y.4 in
    let z = three_at view m (fixed op.Phi) (var 0) (phi (var 1) (var 3) (var 4)) (phi (var 2) (var 3) (var 4)) r is.right in
    let p = three_at view m (fixed op.Phi) (var 1) (var 3) (var 4) z.1 z.5 in
    let q = three_at view m (fixed op.Phi) (var 2) (var 3) (var 4) z.2 z.6 in
    over_choice view w x l y.0 r z.1 z.2 n.0 n.1 n.2 y.1 y.2 i v y.3 n.3
    (form_three (view r) op.Phi z.0 z.1 z.2 n.0 z.1 z.2 z.3 (same_at (slice_get m.vars 0) z.0 n.0 z.4 n.4) refl refl)
    (form_three (view z.1) op.Phi p.0 p.1 p.2 n.1 y.1 y.2 p.3 (same_at (slice_get m.vars 1) p.0 n.1 p.4 n.5) (same_at (slice_get m.vars 3) p.1 y.1 p.5 y.5) (same_at (slice_get m.vars 4) p.2 y.2 p.6 y.6))
    (form_three (view z.2) op.Phi q.0 q.1 q.2 n.2 y.1 y.2 q.3 (same_at (slice_get m.vars 2) q.0 n.2 q.4 n.6) (same_at (slice_get m.vars 3) q.1 y.1 q.5 y.5) (same_at (slice_get m.vars 4) q.2 y.2 q.6 y.6))

law_210 : Law (rule 210 (both (var 0) (var 1)) (both (var 1) (var 0)) [])
law_210 g assumed subst_ l r w x set is i v =
    let view = form_at g.nodes in
    let m = is.names in
    let y = two_at view m (fixed op.Both) (var 0) (var 1) l is.left in
    let z = two_at view m (fixed op.Both) (var 1) (var 0) r is.right in
    let left = both_is view w x l y.0 y.1 i v y.2 in
    let right = both_is view w x r y.1 y.0 i v (form_two (view r) op.Both z.0 z.1 y.1 y.0 z.2 (same_at (slice_get m.vars 1) z.0 y.1 z.3 y.4) (same_at (slice_get m.vars 0) z.1 y.0 z.4 y.3)) in
    (λ h. let d = left.0 h in right.1 (d.0, d.2, d.1), λ h. let d = right.0 h in left.1 (d.0, d.2, d.1))

law_211 : Law (rule 211 (both (both (var 0) (var 1)) (var 2)) (both (var 0) (both (var 1) (var 2))) [])
law_211 g assumed subst_ l r w x set is i v =
    let view = form_at g.nodes in
    let m = is.names in
    let y = two_at view m (fixed op.Both) (both (var 0) (var 1)) (var 2) l is.left in
    let n = two_at view m (fixed op.Both) (var 0) (var 1) y.0 y.3 in
    let z = two_at view m (fixed op.Both) (var 0) (both (var 1) (var 2)) r is.right in
    let p = two_at view m (fixed op.Both) (var 1) (var 2) z.1 z.4 in
    let left = both_is view w x l y.0 y.1 i v y.2 in
    let inner = both_is view w x y.0 n.0 n.1 i val.Unit n.2 in
    let right = both_is view w x r n.0 z.1 i v (form_two (view r) op.Both z.0 z.1 n.0 z.1 z.2 (same_at (slice_get m.vars 0) z.0 n.0 z.3 n.3) refl) in
    let other = both_is view w x z.1 n.1 y.1 i val.Unit (form_two (view z.1) op.Both p.0 p.1 n.1 y.1 p.2 (same_at (slice_get m.vars 1) p.0 n.1 p.3 n.4) (same_at (slice_get m.vars 2) p.1 y.1 p.4 y.4)) in (
      λ h. let d = left.0 h in let f = inner.0 d.1 in right.1 (d.0, f.1, other.1 (refl, f.2, d.2)),
      λ h. let d = right.0 h in let f = other.0 d.2 in left.1 (d.0, inner.1 (refl, d.1, f.1), f.2),
    )

-- a kid of a both has the value Unit alone
is_unit : (v : Val) → IsOf sort.T v → v ≡ val.Unit
is_unit val.Unit h = refl
is_unit v h = absurd h

token_is : (g : Graph) (w : World) (x : Input) (assumed : List ℕ) → Setting g w x assumed → (n a b : ℕ) (i : Index) (v : Val) → form_at g.nodes n ≡ Some (form op.Both (a ∷ b ∷ [])) → Value (form_at g.nodes) w x b i v → v ≡ val.Unit
token_is g w x assumed set n a b i v e h =
    let d = kids_sorted g w x assumed set n op.Both (a ∷ b ∷ []) e in
    let same = exactly_are (sort.T ∷ sort.T ∷ []) sort.T d.1 d.0 d.3 in
    let s = subst (λ (q : List OpSort). AllZip (HasSortAt g) (a ∷ b ∷ []) q) (sym same.0) d.2 in
    is_unit v (sort_law g w x b sort.T i v set.made.graph set.sealed set.world set.input s.1.0 h)

law_212 : Law (rule 212 (both (var 0) (var 0)) (var 0) [])
law_212 g assumed subst_ l r w x set is i v =
    let view = form_at g.nodes in
    let m = is.names in
    let y = two_at view m (fixed op.Both) (var 0) (var 0) l is.left in
    let el : view l ≡ Some (form op.Both (y.0 ∷ y.0 ∷ [])) = form_two (view l) op.Both y.0 y.1 y.0 y.0 y.2 refl (same_at (slice_get m.vars 0) y.1 y.0 y.4 y.3) in
    let left = both_is view w x l y.0 y.0 i v el in
    to_node g w x i v l r y.0 (same_at (slice_get m.vars 0) r y.0 is.right y.3) (
      λ h. let d = left.0 h in subst (λ (u : Val). Value view w x y.0 i u) (sym d.0) d.1,
      λ h. let u = token_is g w x assumed set l y.0 y.0 i v el h in let z = subst (λ (u : Val). Value view w x y.0 i u) u h in left.1 (u, z, z),
    )

law_213 : Law (rule 213 (both (op0 op.Unit) (var 0)) (var 0) [])
law_213 g assumed subst_ l r w x set is i v =
    let view = form_at g.nodes in
    let m = is.names in
    let y = two_at view m (fixed op.Both) (op0 op.Unit) (var 0) l is.left in
    let left = both_is view w x l y.0 y.1 i v y.2 in
    to_node g w x i v l r y.1 (same_at (slice_get m.vars 0) r y.1 is.right y.4) (
      λ h. let d = left.0 h in subst (λ (u : Val). Value view w x y.1 i u) (sym d.0) d.2,
      λ h. let u = token_is g w x assumed set l y.0 y.1 i v y.2 h in left.1 (u, unit_has view w x y.0 i (none_at view m (fixed op.Unit) y.0 y.3), subst (λ (u : Val). Value view w x y.1 i u) u h),
    )

law_44 : Law (rule 44 (op2 op.Aeq (var 0) (var 1)) (op2 op.Aeq (var 1) (var 0)) [])
law_44 g assumed subst_ l r w x set is i v =
    let view = form_at g.nodes in
    let m = is.names in
    let y = two_at view m (fixed op.Aeq) (var 0) (var 1) l is.left in
    let z = two_at view m (fixed op.Aeq) (var 1) (var 0) r is.right in
    let left = aeq_is view w x l y.0 y.1 i v y.2 in
    let right = aeq_is view w x r y.1 y.0 i v (form_two (view r) op.Aeq z.0 z.1 y.1 y.0 z.2 (same_at (slice_get m.vars 1) z.0 y.1 z.3 y.4) (same_at (slice_get m.vars 0) z.1 y.0 z.4 y.3)) in
    let turn = λ (a b : ℕ). ap (λ (n : ℤ). val.Num (num.Int n)) (ref_turned a b) in
    (λ h. let d = left.0 h in right.1 (d.1, d.0, d.3, d.2, d.4 ∙ turn d.0 d.1), λ h. let d = right.0 h in left.1 (d.1, d.0, d.3, d.2, d.4 ∙ turn d.0 d.1))

is_ref : (v : Val) → IsOf sort.A v → (a : ℕ) × (v ≡ val.Num (num.Ref a))
is_ref (val.Num (num.Ref a)) h = (a, refl)
is_ref v h = absurd h

law_45 : Law (rule 45 (op2 op.Aeq (var 0) (var 0)) (one_ int) (settled 0 ∷ []))
law_45 g assumed subst_ l r w x set is i v =
    let view = form_at g.nodes in
    let m = is.names in
    let y = two_at view m (fixed op.Aeq) (var 0) (var 0) l is.left in
    let el : view l ≡ Some (form op.Aeq (y.0 ∷ y.0 ∷ [])) = form_two (view l) op.Aeq y.0 y.1 y.0 y.0 y.2 refl (same_at (slice_get m.vars 0) y.1 y.0 y.4 y.3) in
    let left = aeq_is view w x l y.0 y.0 i (val.Num (num.Int (pos 1))) el in
    let calm = is.sides.0 in
    let two : calm.0 ≡ y.0 = same_at (slice_get m.vars 0) calm.0 y.0 calm.1 y.3 in
    let d = kids_sorted g w x assumed set l op.Aeq (y.0 ∷ y.0 ∷ []) el in
    let same = exactly_are (sort.A ∷ sort.A ∷ []) sort.I d.1 d.0 d.3 in
    let s = subst (λ (q : List OpSort). AllZip (HasSortAt g) (y.0 ∷ y.0 ∷ []) q) (sym same.0) d.2 in
    let u = settled_has g w x assumed set y.0 sort.A i s.0 (subst (λ (k : ℕ). IsSettled view assumed k) two calm.2) in
    let a = is_ref u.0 u.2 in
    let k = subst (λ (u : Val). Value view w x y.0 i u) a.1 u.1 in
    let vl = left.1 (a.0, a.0, k, k, ap (λ (n : ℤ). val.Num (num.Int n)) (sym (ref_same a.0))) in
    let vr = int_has view w x r (pos 1) i (none_at view m (fixed (op.Int (pos 1))) r is.right) in (
      λ h. subst (λ (u : Val). Value view w x r i u) (value_once view w x l i (val.Num (num.Int (pos 1))) v vl h) vr,
      λ h. subst (λ (u : Val). Value view w x l i u) (value_once view w x r i (val.Num (num.Int (pos 1))) v vr h) vl,
    )

law_46 : Law (rule 46 (op2 op.Aeq (op0 op.This) (op0 op.Null)) (zero_ int) [])
law_46 g assumed subst_ l r w x set is i v =
    let view = form_at g.nodes in
    let m = is.names in
    let y = two_at view m (fixed op.Aeq) (op0 op.This) (op0 op.Null) l is.left in
    let left = aeq_is view w x l y.0 y.1 i (val.Num (num.Int (pos 0))) y.2 in
    let vl =
    left.1 (x.this, 0, this_has view w x y.0 i (none_at view m (fixed op.This) y.0 y.3), null_has view w x y.1 i (none_at view m (fixed op.Null) y.1 y.4), ap (λ (n : ℤ). val.Num (num.Int n)) (sym (ref_other x.this set.input.not_null))) in
    let vr = int_has view w x r (pos 0) i (none_at view m (fixed (op.Int (pos 0))) r is.right) in (
      λ h. subst (λ (u : Val). Value view w x r i u) (value_once view w x l i (val.Num (num.Int (pos 0))) v vl h) vr,
      λ h. subst (λ (u : Val). Value view w x l i u) (value_once view w x r i (val.Num (num.Int (pos 0))) v vr h) vl,
    )

pub ref_laws : Laws refs
ref_laws = (law_44, (law_45, (law_46, tt)))

pub choice_laws : Laws choices
choice_laws = (law_201, (law_202, (law_203, (law_204, (law_205, (law_206, tt))))))

pub token_laws : Laws tokens
token_laws = (law_210, (law_211, (law_212, (law_213, tt))))
