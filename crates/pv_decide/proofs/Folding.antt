-- Folds of nodes that grow.
use Rattle.std.proofs.Common.{◌≡◌, ◌≢◌, ℕ, zero, suc, List, [], ◌∷◌, ◌++◌, length, Option, Some, None, slice_get, inl, inr, refl, sym, ap, ◌∙◌, subst, subst₂, append-nil, append_assoc}
use Rattle.pv_decide.proofs.Words.{Result, Ok, Err, IfOk, Memory, Exp, Joins, TreeNode, Folds, at_leaf, at_test, at_nothing, at_dead, Grows, Pushed, HasNothing, HasDead, Joined, TestMade}
use Rattle.pv_decide.specs.declared.tree.TreeNode.TheVariants as node

-- growth
pub grows_refl : (a : List TreeNode) → Grows a a
grows_refl a = ([], sym (append-nil a))

pub grows_trans : (a b c : List TreeNode) → Grows a b → Grows b c → Grows a c
grows_trans a b c g h = (g.0 ++ h.0, h.1 ∙ ap (λ (x : List TreeNode). x ++ h.0) g.1 ∙ append_assoc a g.0 h.0)

pub pushed_grows : (a b : List TreeNode) (x : TreeNode) (n : ℕ) → Pushed a b x n → Grows a b
pushed_grows a b x n p = (x ∷ [], p.1)

pub front_get : (a more : List TreeNode) (n : ℕ) (x : TreeNode) → slice_get a n ≡ Some x → slice_get (a ++ more) n ≡ Some x
front_get [] more n x e = absurd (cc)
front_get (y ∷ a) more zero x e = e
front_get (y ∷ a) more (suc n) x e = front_get a more n x e

pub grows_get : (a b : List TreeNode) (n : ℕ) (x : TreeNode) → Grows a b → slice_get a n ≡ Some x → slice_get b n ≡ Some x
grows_get a b n x g e = subst (λ (c : List TreeNode). slice_get c n ≡ Some x) (sym g.1) (front_get a g.0 n x e)

last_get : (a : List TreeNode) (x : TreeNode) → slice_get (a ++ x ∷ []) (length a) ≡ Some x
last_get [] x = refl
last_get (y ∷ a) x = last_get a x

pub pushed_get : (a b : List TreeNode) (x : TreeNode) (n : ℕ) → Pushed a b x n → slice_get b n ≡ Some x
pushed_get a b x n p = subst₂ (λ (c : List TreeNode) (k : ℕ). slice_get c k ≡ Some x) (sym p.1) (sym p.0) (last_get a x)

joins_once : (c : Exp) (a b r q : Option Exp) → Joins c a b r → Joins c a b q → r ≡ q
joins_once c None b r q h k = h ∙ sym k
joins_once c (Some a) None r q h k = h ∙ sym k
joins_once c (Some a) (Some b) r q (inl h) (inl k) = h.1 ∙ sym k.1
joins_once c (Some a) (Some b) r q (inr h) (inr k) = h.1 ∙ sym k.1
joins_once c (Some a) (Some b) r q (inl h) (inr k) = absurd (k.0 h.0)
joins_once c (Some a) (Some b) r q (inr h) (inl k) = absurd (h.0 k.0)

-- a test whose sides give the same
joins_same : (c : Exp) (u r : Option Exp) → Joins c u u r → r ≡ u
joins_same c None r j = j
joins_same c (Some a) r (inl j) = j.1
joins_same c (Some a) r (inr j) = absurd (j.0 refl)

joins_left : (c : Exp) (u v r : Option Exp) → u ≡ None → Joins c u v r → r ≡ v
joins_left c u v r e j = subst (λ (u : Option Exp). Joins c u v r) e j

joins_right : (c : Exp) (u v r : Option Exp) → v ≡ None → Joins c u v r → r ≡ u
joins_right c u v r e j = only c u r (subst (λ (v : Option Exp). Joins c u v r) e j)
  where
    only : (c : Exp) (u r : Option Exp) → Joins c u None r → r ≡ u
    only c None r j = j
    only c (Some a) r j = j

module _ (leaf test : ℕ → ℕ → Exp) (dead : Option Exp) where
  pub folds_grow : (a b : List TreeNode) → Grows a b → (n : ℕ) (r : Option Exp) → Folds a leaf test dead n r → Folds b leaf test dead n r
  folds_grow a b g n r (at_leaf k l e q here is) = at_leaf n l e r (grows_get a b n (node.Leaf l e) g here) is
  folds_grow a b g n r (at_test k l t y m u v q here yes' no' j) =
      at_test n l t y m u v r (grows_get a b n (node.Test l t y m) g here) (folds_grow a b g y u yes') (folds_grow a b g m v no') j
  folds_grow a b g n r (at_nothing k q here is) = at_nothing n r (grows_get a b n node.Nothing g here) is
  folds_grow a b g n r (at_dead k q here is) = at_dead n r (grows_get a b n node.Dead g here) is

  same_node : (a : List TreeNode) (n : ℕ) (x y : TreeNode) → slice_get a n ≡ Some x → slice_get a n ≡ Some y → x ≡ y
  same_node a n x y p q = cc

  pub folds_once : (a : List TreeNode) (n : ℕ) (r q : Option Exp) → Folds a leaf test dead n r → Folds a leaf test dead n q → r ≡ q
  folds_once a n r q (at_leaf k l e z here is) (at_leaf k' l' e' z' here' is') = let s = same_node a n (node.Leaf l e) (node.Leaf l' e') here here' in let x : l ≡ l' = cc in let y : e ≡ e' = cc in cc
  folds_once a n r q (at_leaf k l e z here is) (at_test k' l' t y m u v z' here' yes' no' j) = absurd (let s = same_node a n (node.Leaf l e) (node.Test l' t y m) here here' in cc)
  folds_once a n r q (at_leaf k l e z here is) (at_nothing k' z' here' is') = absurd (let s = same_node a n (node.Leaf l e) node.Nothing here here' in cc)
  folds_once a n r q (at_leaf k l e z here is) (at_dead k' z' here' is') = absurd (let s = same_node a n (node.Leaf l e) node.Dead here here' in cc)
  folds_once a n r q (at_test k l t y m u v z here yes' no' j) (at_leaf k' l' e' z' here' is') = absurd (let s = same_node a n (node.Leaf l' e') (node.Test l t y m) here' here in cc)
  folds_once a n r q (at_test k l t y m u v z here yes' no' j) (at_test k' l' t' y' m' u' v' z' here' yes₂ no₂ j') =
      let s = same_node a n (node.Test l t y m) (node.Test l' t' y' m') here here' in
      let sl : l ≡ l' = cc in
      let st : t ≡ t' = cc in
      let sy : y ≡ y' = cc in
      let sm : m ≡ m' = cc in
      let eu : u ≡ u' = folds_once a y u u' yes' (subst (λ (y : ℕ). Folds a leaf test dead y u') (sym sy) yes₂) in
      let ev : v ≡ v' = folds_once a m v v' no' (subst (λ (m : ℕ). Folds a leaf test dead m v') (sym sm) no₂) in
      let jj : Joins (test l t) u v q = subst₂ (λ (l t : ℕ). Joins (test l t) u v q) (sym sl) (sym st) (subst₂ (λ (u v : Option Exp). Joins (test l' t') u v q) (sym eu) (sym ev) j') in
      joins_once (test l t) u v r q j jj
  folds_once a n r q (at_test k l t y m u v z here yes' no' j) (at_nothing k' z' here' is') = absurd (let s = same_node a n (node.Test l t y m) node.Nothing here here' in cc)
  folds_once a n r q (at_test k l t y m u v z here yes' no' j) (at_dead k' z' here' is') = absurd (let s = same_node a n (node.Test l t y m) node.Dead here here' in cc)
  folds_once a n r q (at_nothing k z here is) (at_leaf k' l' e' z' here' is') = absurd (let s = same_node a n node.Nothing (node.Leaf l' e') here here' in cc)
  folds_once a n r q (at_nothing k z here is) (at_test k' l' t y m u v z' here' yes' no' j) = absurd (let s = same_node a n node.Nothing (node.Test l' t y m) here here' in cc)
  folds_once a n r q (at_nothing k z here is) (at_nothing k' z' here' is') = is ∙ sym is'
  folds_once a n r q (at_nothing k z here is) (at_dead k' z' here' is') = absurd (let s = same_node a n node.Nothing node.Dead here here' in cc)
  folds_once a n r q (at_dead k z here is) (at_leaf k' l' e' z' here' is') = absurd (let s = same_node a n node.Dead (node.Leaf l' e') here here' in cc)
  folds_once a n r q (at_dead k z here is) (at_test k' l' t y m u v z' here' yes' no' j) = absurd (let s = same_node a n node.Dead (node.Test l' t y m) here here' in cc)
  folds_once a n r q (at_dead k z here is) (at_nothing k' z' here' is') = absurd (let s = same_node a n node.Dead node.Nothing here here' in cc)
  folds_once a n r q (at_dead k z here is) (at_dead k' z' here' is') = is ∙ sym is'

  pub gives_none : (a : List TreeNode) (n : ℕ) (r : Option Exp) → HasNothing a → n ≡ 0 → Folds a leaf test dead n r → r ≡ None
  gives_none a n r h z d = folds_once a n r None d (at_nothing n None (subst (λ (k : ℕ). slice_get a k ≡ Some node.Nothing) (sym z) h) refl)

-- what `test` answers
pub joined_same : (a : List TreeNode) (b t y m : ℕ) → y ≡ m → Joined a a b t y m m
joined_same a b t y m e = (
  grows_refl a,
  λ leaf test dead u v r p q j.
      let s : u ≡ v = folds_once leaf test dead a m u v (subst (λ (k : ℕ). Folds a leaf test dead k u) e p) q in
      subst (λ (r : Option Exp). Folds a leaf test dead m r) (sym (joins_same (test b t) v r (subst (λ (u : Option Exp). Joins (test b t) u v r) s j))) q,
)

pub joined_left : (a : List TreeNode) (b t y m : ℕ) → HasNothing a → y ≡ 0 → Joined a a b t y m m
joined_left a b t y m h e = (
  grows_refl a,
  λ leaf test dead u v r p q j.
      subst (λ (r : Option Exp). Folds a leaf test dead m r) (sym (joins_left (test b t) u v r (gives_none leaf test dead a y u h e p) j)) q,
)

pub joined_right : (a : List TreeNode) (b t y m : ℕ) → HasNothing a → m ≡ 0 → Joined a a b t y m y
joined_right a b t y m h e = (
  grows_refl a,
  λ leaf test dead u v r p q j.
      subst (λ (r : Option Exp). Folds a leaf test dead y r) (sym (joins_right (test b t) u v r (gives_none leaf test dead a m v h e q) j)) p,
)

pub joined_pushed : (a c : List TreeNode) (b t y m n : ℕ) → Pushed a c (node.Test b t y m) n → Joined a c b t y m n
joined_pushed a c b t y m n e = (
  pushed_grows a c (node.Test b t y m) n e,
  λ leaf test dead u v r p q j.
      let g = pushed_grows a c (node.Test b t y m) n e in
      at_test n b t y m u v r (pushed_get a c (node.Test b t y m) n e) (folds_grow leaf test dead a c g y u p) (folds_grow leaf test dead a c g m v q) j,
)

pub pushed_ok : (a c : List TreeNode) (b t y m : ℕ) (res : Result ℕ Memory) → IfOk res (λ n. Pushed a c (node.Test b t y m) n) → IfOk res (λ n. Joined a c b t y m n)
pushed_ok a c b t y m (Ok n) h = joined_pushed a c b t y m n h
pushed_ok a c b t y m (Err e) h = h

pub grows_dead : (a b : List TreeNode) → Grows a b → HasDead a → HasDead b
grows_dead a b g h = grows_get a b 1 node.Dead g h

pub made_ok : (a c : List TreeNode) (b t y m : ℕ) (res : Result ℕ Memory) → y ≢ m → y ≢ 0 → m ≢ 0 → IfOk res (λ n. Pushed a c (node.Test b t y m) n) → IfOk res (λ n. TestMade a c b t y m n)
made_ok a c b t y m (Ok n) p q r h = inr (p, q, r, h)
made_ok a c b t y m (Err e) p q r h = h
