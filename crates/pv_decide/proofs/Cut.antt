-- A tree without the nodes after its root.
use Rattle.std.proofs.Common.{◌≡◌, ℕ, zero, suc, ◌+◌, ◌-◌, ◌<◌, List, [], ◌∷◌, length, take, Option, Some, slice_get, refl, sym, ap, subst, arith}
use Rattle.pv_decide.proofs.Words.{Exp, Site, Scope, TreeNode, Folds, at_leaf, at_test, at_nothing, at_dead, AreSound}
use Rattle.pv_decide.specs.declared.tree.Target.{Target}
use Rattle.pv_decide.specs.declared.tree.TreeNode.TheVariants as node

front_get : (nodes : List TreeNode) (c n : ℕ) (x : TreeNode) → n < c → slice_get nodes n ≡ Some x → slice_get (take c nodes) n ≡ Some x
front_get nodes zero n x less e = absurd (omega arith)
front_get [] (suc c) n x less e = absurd (cc)
front_get (y ∷ nodes) (suc c) zero x less e = e
front_get (y ∷ nodes) (suc c) (suc n) x less e = front_get nodes c n x (omega arith) e

whole_get : (nodes : List TreeNode) (c n : ℕ) (x : TreeNode) → slice_get (take c nodes) n ≡ Some x → slice_get nodes n ≡ Some x
whole_get nodes zero n x e = absurd (cc)
whole_get [] (suc c) n x e = e
whole_get (y ∷ nodes) (suc c) zero x e = e
whole_get (y ∷ nodes) (suc c) (suc n) x e = whole_get nodes c n x e

pub length_cut : (nodes : List TreeNode) (i : ℕ) → i < length nodes → length (take (suc i) nodes) ≡ suc i
length_cut [] i low = absurd (omega arith)
length_cut (y ∷ nodes) zero low = refl
length_cut (y ∷ nodes) (suc i) low = ap suc (length_cut nodes i (omega arith))

module _ (sites : List Site) (r : Scope) (t : Target) where
  pub cut_sound : (nodes : List TreeNode) (c : ℕ) → AreSound sites r t nodes → AreSound sites r t (take c nodes)
  cut_sound nodes c sound n x e = sound n x (whole_get nodes c n x e)

  module _ (leaf test : ℕ → ℕ → Exp) (dead : Option Exp) (nodes : List TreeNode) (sound : AreSound sites r t nodes) where
    cut_folds : (c n : ℕ) (q : Option Exp) → n < c → Folds nodes leaf test dead n q → Folds (take c nodes) leaf test dead n q
    cut_folds c n q less (at_leaf k b e z here is) = at_leaf n b e q (front_get nodes c n (node.Leaf b e) less here) is
    cut_folds c n q less (at_test k b e y m u v z here yes' no' j) =
        let f = sound n (node.Test b e y m) here in
        at_test n b e y m u v q (front_get nodes c n (node.Test b e y m) less here) (cut_folds c y u (omega (arith, f.2)) yes') (cut_folds c m v (omega (arith, f.3)) no') j
    cut_folds c n q less (at_nothing k z here is) = at_nothing n q (front_get nodes c n node.Nothing less here) is
    cut_folds c n q less (at_dead k z here is) = at_dead n q (front_get nodes c n node.Dead less here) is

  pub cut_last : (leaf test : ℕ → ℕ → Exp) (dead : Option Exp) (nodes : List TreeNode) (i : ℕ) (q : Option Exp) → AreSound sites r t nodes → i < length nodes → Folds nodes leaf test dead i q
      → Folds (take (i + 1) nodes) leaf test dead (length (take (i + 1) nodes) - 1) q
  cut_last leaf test dead nodes i q sound low fold =
      let one : i + 1 ≡ suc i = omega arith in
      let l : length (take (suc i) nodes) ≡ suc i = length_cut nodes i low in
      let last : i ≡ length (take (suc i) nodes) - 1 = omega arith in
      subst (λ (c : ℕ). Folds (take c nodes) leaf test dead (length (take c nodes) - 1) q) (sym one)
      (subst (λ (k : ℕ). Folds (take (suc i) nodes) leaf test dead k q) last (cut_folds leaf test dead nodes sound (suc i) i q (omega arith) fold))
