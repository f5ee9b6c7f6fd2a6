-- What the nodes of a pattern's instance have as values.
use Rattle.std.specs.Prelude.{◌≡◌, ◌⊎◌, ◌↔◌, ℕ, suc, ◌<◌, List, [], ◌∷◌, length, Option, Some, refl}
use Rattle.std.specs.List.{AllZip}
use Rattle.std.proofs.Common.{inl, inr, sym, ap, ◌∙◌, subst, arith}
use Rattle.std.proofs.lemmas.Option.{slice_get_within, same_Some}
use Rattle.pv_value.specs.declared.number.Num.{Num}
use Rattle.pv_value.specs.declared.number.Num.TheVariants as num
use Rattle.pv_value.specs.declared.world.World.{World}
use Rattle.pv_value.specs.declared.outcome.Input.{Input}
use Rattle.pv_value.specs.declared.outcome.Val.{Val}
use Rattle.pv_value.specs.declared.outcome.Val.TheVariants as val
use Rattle.pv_graph.specs.declared.node.Op.{Op}
use Rattle.pv_graph.specs.declared.node.Op.TheVariants as op
use Rattle.pv_graph.specs.declared.node.OpSort.{OpSort}
use Rattle.pv_graph.specs.declared.node.OpSort.TheVariants as sort
use Rattle.pv_graph.specs.Ops.{Shape, plain, choice, shape, sort_over, HasSort}
use Rattle.pv_denote.specs.Typed.{IsOf}
use Rattle.pv_graph.specs.Forms.{Form, form}
use Rattle.pv_denote.specs.Denote.{Index, at_depth, strict, Value}
use Rattle.pv_denote.specs.Means.{Means, PassFrom}
use Rattle.pv_graph.specs.Walks.{IsSettled}
use Rattle.pv_graph.specs.Graphs.{Graph, form_at}
use Rattle.pv_denote.proofs.Cited.{den_makes, value_once, value_says, sort_law, settled_law}
use Rattle.pv_graph.proofs.Cited.{node_at, sort_there, tied, HasSortAt, shape_takes}
use Rattle.pv_pattern.specs.Patterns.{Head, Pattern, over, none, first}
use Rattle.pv_pattern.specs.Instances.{Names, head_op, constant_of, Stands}
use Rattle.pv_pattern.specs.Laws.{Setting}

-- ---- the kids at which a pattern's kids stand

pub none_at : (view : ℕ → Option (Form ℕ)) (m : Names) (h : Head) (n : ℕ) → Stands view m (over h none) n → view n ≡ Some (form (head_op m h) [])
none_at view m h n ([], e, t) = e
none_at view m h n ((k ∷ ks), e, t) = absurd t

pub one_at : (view : ℕ → Option (Form ℕ)) (m : Names) (h : Head) (p : Pattern) (n : ℕ) → Stands view m (over h (first p none)) n
    → (a : ℕ) × (view n ≡ Some (form (head_op m h) (a ∷ []))) × Stands view m p a
one_at view m h p n ([], e, t) = absurd t
one_at view m h p n ((a ∷ []), e, t) = (a, e, t.0)
one_at view m h p n ((a ∷ b ∷ ks), e, t) = absurd t.1

pub two_at : (view : ℕ → Option (Form ℕ)) (m : Names) (h : Head) (p q : Pattern) (n : ℕ) → Stands view m (over h (first p (first q none))) n
    → (a : ℕ) × (b : ℕ) × (view n ≡ Some (form (head_op m h) (a ∷ b ∷ []))) × Stands view m p a × Stands view m q b
two_at view m h p q n ([], e, t) = absurd t
two_at view m h p q n ((a ∷ []), e, t) = absurd t.1
two_at view m h p q n ((a ∷ b ∷ []), e, t) = (a, b, e, t.0, t.1.0)
two_at view m h p q n ((a ∷ b ∷ c ∷ ks), e, t) = absurd t.1.1

pub three_at : (view : ℕ → Option (Form ℕ)) (m : Names) (h : Head) (p q r : Pattern) (n : ℕ) → Stands view m (over h (first p (first q (first r none)))) n
    → (a : ℕ) × (b : ℕ) × (c : ℕ) × (view n ≡ Some (form (head_op m h) (a ∷ b ∷ c ∷ []))) × Stands view m p a × Stands view m q b × Stands view m r c
three_at view m h p q r n ([], e, t) = absurd t
three_at view m h p q r n ((a ∷ []), e, t) = absurd t.1
three_at view m h p q r n ((a ∷ b ∷ []), e, t) = absurd t.1.1
three_at view m h p q r n ((a ∷ b ∷ c ∷ []), e, t) = (a, b, c, e, t.0, t.1.0, t.1.1.0)
three_at view m h p q r n ((a ∷ b ∷ c ∷ d ∷ ks), e, t) = absurd t.1.1.1

-- a variable stands for one node
pub same_at : (o : Option ℕ) (a b : ℕ) → o ≡ Some a → o ≡ Some b → a ≡ b
same_at o a b e f = same_Some a b (sym e ∙ f)

-- ---- sorts

pub sorted_at : (g : Graph) (w : World) (x : Input) (assumed : List ℕ) → Setting g w x assumed → (n : ℕ) (o : Op) (ks : List ℕ) → form_at g.nodes n ≡ Some (form o ks)
    → (s : OpSort) × HasSortAt g n s × HasSort g.sorts o ks s
sorted_at g w x assumed set n o ks e =
    let is = set.made.graph in
    let node = node_at g.nodes n o ks e in
    let s = sort_there g is n (slice_get_within g.nodes n node.0 node.1) in
    let h = tied g set.sealed node.0 s.0 (is.sorted n node.0 s.0 node.1 s.1) in
    (s.0, s.1, subst (λ (y : Op). HasSort g.sorts y ks s.0) node.2 (subst (λ (zs : List ℕ). HasSort g.sorts node.0.op zs s.0) node.3 h))

-- ---- the loop operations

module _ (view : ℕ → Option (Form ℕ)) (w : World) (x : Input) where
  pub theta_first : (t d a b : ℕ) (i : Index) (v : Val) → view t ≡ Some (form (op.Theta d) (a ∷ b ∷ [])) → i d ≡ 0 → Value view w x t i v ↔ Value view w x a i v
  theta_first t d a b i v e z = (λ h. go (value_says view w x t i v (op.Theta d) (a ∷ b ∷ []) e h), λ h. den_makes view w x t i v (op.Theta d) (a ∷ b ∷ []) e (inl (z, h)))
    where
      go : ((i d ≡ 0) × Value view w x a i v) ⊎ ((k : ℕ) × (i d ≡ suc k) × Value view w x b (at_depth i d k) v) → Value view w x a i v
      go (inl h) = h.1
      go (inr h) = absurd (let y = h.1 in omega arith)

  pub theta_later : (t d a b : ℕ) (i : Index) (k : ℕ) (v : Val) → view t ≡ Some (form (op.Theta d) (a ∷ b ∷ [])) → i d ≡ suc k → Value view w x t i v ↔ Value view w x b (at_depth i d k) v
  theta_later t d a b i k v e z = (λ h. go (value_says view w x t i v (op.Theta d) (a ∷ b ∷ []) e h), λ h. den_makes view w x t i v (op.Theta d) (a ∷ b ∷ []) e (inr (k, z, h)))
    where
      go : ((i d ≡ 0) × Value view w x a i v) ⊎ ((l : ℕ) × (i d ≡ suc l) × Value view w x b (at_depth i d l) v) → Value view w x b (at_depth i d k) v
      go (inl h) = absurd (let y = h.0 in omega arith)
      go (inr h) = let y : h.0 ≡ k = (let u = h.1 in omega arith) in subst (λ (l : ℕ). Value view w x b (at_depth i d l) v) y h.2

  pub shift_is : (n d a : ℕ) (i : Index) (v : Val) → view n ≡ Some (form (op.Shift d) (a ∷ [])) → Value view w x n i v ↔ Value view w x a (at_depth i d (suc (i d))) v
  shift_is n d a i v e = (value_says view w x n i v (op.Shift d) (a ∷ []) e, den_makes view w x n i v (op.Shift d) (a ∷ []) e)

  pub eval_is : (n d a p : ℕ) (i : Index) (v : Val) → view n ≡ Some (form (op.Eval d) (a ∷ p ∷ [])) → Value view w x n i v ↔ ((k : ℕ) × Value view w x p i (val.Count k) × Value view w x a (at_depth i d k) v)
  eval_is n d a p i v e = (value_says view w x n i v (op.Eval d) (a ∷ p ∷ []) e, den_makes view w x n i v (op.Eval d) (a ∷ p ∷ []) e)

  -- the count at which an eval looks
  pub eval_at : (n d a p : ℕ) (i : Index) (k : ℕ) (v : Val) → view n ≡ Some (form (op.Eval d) (a ∷ p ∷ [])) → Value view w x p i (val.Count k) → Value view w x n i v ↔ Value view w x a (at_depth i d k) v
  eval_at n d a p i k v e c = (λ h. go ((eval_is n d a p i v e).0 h), λ h. (eval_is n d a p i v e).1 (k, c, h))
    where
      go : ((l : ℕ) × Value view w x p i (val.Count l) × Value view w x a (at_depth i d l) v) → Value view w x a (at_depth i d k) v
      go h = let y : h.0 ≡ k = (let z = value_once view w x p i (val.Count h.0) (val.Count k) h.1 c in cc) in subst (λ (l : ℕ). Value view w x a (at_depth i d l) v) y h.2

  pub phi_is : (n c a b : ℕ) (i : Index) (v : Val) → view n ≡ Some (form op.Phi (c ∷ a ∷ b ∷ [])) → Value view w x n i v ↔ Means w x (Value view w x) choice op.Phi (c ∷ a ∷ b ∷ []) i v
  phi_is n c a b i v e = (value_says view w x n i v op.Phi (c ∷ a ∷ b ∷ []) e, den_makes view w x n i v op.Phi (c ∷ a ∷ b ∷ []) e)

  pub pass_is : (n d c : ℕ) (i : Index) (v : Val) → view n ≡ Some (form (op.Pass d) (c ∷ [])) → Value view w x n i v ↔ PassFrom (Value view w x) d c i 0 v
  pass_is n d c i v e = (value_says view w x n i v (op.Pass d) (c ∷ []) e, den_makes view w x n i v (op.Pass d) (c ∷ []) e)

  pub plain_is : (n : ℕ) (o : Op) (ks : List ℕ) (i : Index) (v : Val) → view n ≡ Some (form o ks) → shape o ≡ plain → Value view w x n i v ↔ ((vs : List Val) × AllZip (λ k u. Value view w x k i u) ks vs × (strict w x o vs ≡ Some v))
  plain_is n o ks i v e is = (
    λ h. subst (λ (s : Shape). Means w x (Value view w x) s o ks i v) is (value_says view w x n i v o ks e h),
    λ h. den_makes view w x n i v o ks e (subst (λ (s : Shape). Means w x (Value view w x) s o ks i v) (sym is) h),
  )

  -- a zero counts 0, and nothing else
  pub zero_has : (n : ℕ) (i : Index) → view n ≡ Some (form op.Zero []) → Value view w x n i (val.Count 0)
  unfolding strict
  zero_has n i e = den_makes view w x n i (val.Count 0) op.Zero [] e ([], tt, refl)

  pub zero_says : (n : ℕ) (i : Index) (v : Val) → view n ≡ Some (form op.Zero []) → Value view w x n i v → v ≡ val.Count 0
  zero_says n i v e h = value_once view w x n i v (val.Count 0) h (zero_has n i e)

  pub succ_has : (n p : ℕ) (i : Index) (k : ℕ) → view n ≡ Some (form op.Succ (p ∷ [])) → Value view w x p i (val.Count k) → Value view w x n i (val.Count (suc k))
  unfolding strict
  succ_has n p i k e h = den_makes view w x n i (val.Count (suc k)) op.Succ (p ∷ []) e (val.Count k ∷ [], (h, tt), refl)

  succ_of : (v u : Val) → strict w x op.Succ (u ∷ []) ≡ Some v → (k : ℕ) × (u ≡ val.Count k) × (v ≡ val.Count (suc k))
  unfolding strict
  succ_of v (val.Count k) e = (k, refl, cc)
  succ_of v u e = absurd (cc)

  pub succ_says : (n p : ℕ) (i : Index) (v : Val) → view n ≡ Some (form op.Succ (p ∷ [])) → Value view w x n i v → (k : ℕ) × Value view w x p i (val.Count k) × (v ≡ val.Count (suc k))
  succ_says n p i v e h = let m = value_says view w x n i v op.Succ (p ∷ []) e h in go m.0 m.1 m.2
    where
      go : (vs : List Val) → AllZip (λ k u. Value view w x k i u) (p ∷ []) vs → strict w x op.Succ vs ≡ Some v → (k : ℕ) × Value view w x p i (val.Count k) × (v ≡ val.Count (suc k))
      go (u ∷ []) z s = let r = succ_of v u s in (r.0, subst (λ (y : Val). Value view w x p i y) r.1 z.0, r.2)
      go vs z s = absurd (assumption)

-- ---- constants

pub const_has : (view : ℕ → Option (Form ℕ)) (w : World) (x : Input) (i : Index) (o : Op) (a : ℕ) (n : Num) → view a ≡ Some (form o []) → constant_of o ≡ Some n → Value view w x a i (val.Num n)
unfolding strict
const_has view w x i (op.Int n) a m e s = den_makes view w x a i (val.Num m) (op.Int n) [] e ([], tt, ap (λ (q : Num). Some (val.Num q)) (same_Some (num.Int n) m s))
const_has view w x i (op.Long n) a m e s = den_makes view w x a i (val.Num m) (op.Long n) [] e ([], tt, ap (λ (q : Num). Some (val.Num q)) (same_Some (num.Long n) m s))
const_has view w x i o a m e s = absurd (cc)

-- ---- one and two kids

pub zip_one : (P : ℕ → Val → Type 0) (a : ℕ) (vs : List Val) → AllZip P (a ∷ []) vs → (r : Val) × P a r
zip_one P a (r ∷ []) h = (r, h.0)
zip_one P a vs h = absurd (assumption)

pub zip_two : (P : ℕ → Val → Type 0) (a b : ℕ) (vs : List Val) → AllZip P (a ∷ b ∷ []) vs → ((r : Val) × P a r) × ((r : Val) × P b r)
zip_two P a b (r ∷ s ∷ []) h = ((r, h.0), (s, h.1.0))
zip_two P a b vs h = absurd (assumption)

-- ---- settled nodes

-- the kids of a node have the sorts that its operation takes
pub kids_sorted : (g : Graph) (w : World) (x : Input) (assumed : List ℕ) → Setting g w x assumed → (n : ℕ) (o : Op) (ks : List ℕ) → form_at g.nodes n ≡ Some (form o ks)
    → (s : OpSort) × (ss : List OpSort) × AllZip (HasSortAt g) ks ss × (sort_over o ss ≡ Some s)
kids_sorted g w x assumed set n o ks e = let h = sorted_at g w x assumed set n o ks e in (h.0, h.2.sorts, h.2.kids_have, h.2.over)

-- a settled node has a value, of its sort
pub settled_has : (g : Graph) (w : World) (x : Input) (assumed : List ℕ) → Setting g w x assumed → (n : ℕ) (s : OpSort) (i : Index) → HasSortAt g n s → IsSettled (form_at g.nodes) assumed n
    → (v : Val) × Value (form_at g.nodes) w x n i v × IsOf s v
settled_has g w x assumed set n s i t calm =
    let lt : n < length g.nodes = (let y = slice_get_within g.sorts n s t in let z = set.made.graph.long in omega arith) in
    let h = settled_law g w x assumed n i set.made set.sealed set.world set.input set.ended lt calm in
    (h.0, h.1, sort_law g w x n s i h.0 set.made.graph set.sealed set.world set.input t h.1)

-- the kid of an eval that says where has a count, where it is settled
pub settled_count : (g : Graph) (w : World) (x : Input) (assumed : List ℕ) → Setting g w x assumed → (n d a p : ℕ) (i : Index) → form_at g.nodes n ≡ Some (form (op.Eval d) (a ∷ p ∷ []))
    → IsSettled (form_at g.nodes) assumed p → (k : ℕ) × Value (form_at g.nodes) w x p i (val.Count k)
settled_count g w x assumed set n d a p i e calm = let h = kids_sorted g w x assumed set n (op.Eval d) (a ∷ p ∷ []) e in go h.1 h.0 h.2 (shape_takes (op.Eval d) h.1 h.0 h.3)
  where
    counted : (v : Val) → IsOf sort.N v → Value (form_at g.nodes) w x p i v → (k : ℕ) × Value (form_at g.nodes) w x p i (val.Count k)
    counted (val.Count k) t h = (k, h)
    counted v t h = absurd (assumption)

    go : (ss : List OpSort) (u : OpSort) → AllZip (HasSortAt g) (a ∷ p ∷ []) ss → ss ≡ u ∷ sort.N ∷ [] → (k : ℕ) × Value (form_at g.nodes) w x p i (val.Count k)
    go (s ∷ t ∷ []) u h is =
        let y : t ≡ sort.N = cc in
        let z = settled_has g w x assumed set p sort.N i (subst (λ (q : OpSort). HasSortAt g p q) y h.1.0) calm in
        counted z.0 z.2 z.1
    go ss u h is = absurd (assumption)
