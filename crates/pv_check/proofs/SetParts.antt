-- A set of congruences is right where its lists are.
use Rattle.std.specs.Prelude.{◌≡◌, ◌≢◌, ◌⊎◌, ◌↔◌, ℕ, zero, suc, ◌<◌, ◌≤◌, Bool, true, false, List, [], ◌∷◌, length, Option, Some, None, slice_get, refl, if◌then◌else◌}
use Rattle.std.specs.List.{AllByRecursion}
use Rattle.std.proofs.Math.ListN.{get_or}
use Rattle.std.proofs.Common.{inl, inr, sym, ap, ◌∙◌, subst, arith}
use Rattle.std.proofs.lemmas.Bool.Decides.{nat_tests}
use Rattle.std.proofs.lemmas.Option.{same_Some, slice_get_within}
use Rattle.pv_graph.specs.declared.node.Op.{Op}
use Rattle.pv_graph.specs.declared.node.Op.TheVariants as op
use Rattle.pv_graph.specs.declared.node.OpSort.{OpSort}
use Rattle.pv_graph.specs.declared.node.Node.{Node}
use Rattle.pv_graph.specs.Nodes.{node_of}
use Rattle.pv_graph.specs.Ops.{shape, is_depth, sort_over, HasSort}
use Rattle.pv_graph.specs.Walks.{In}
use Rattle.pv_graph.specs.Graphs.{Graph, IsGraph, IsUnfinished}
use Rattle.pv_steps.specs.declared.step.Congruence.{Congruence}
use Rattle.pv_steps.specs.declared.step.Step.{Step}
use Rattle.pv_steps.specs.Steps.{OpenBlock}
use Rattle.pv_steps.specs.Right.{Is, looks_at, IsOutside, AreOutside, RightCongruence}
use Rattle.pv_check.specs.Sets.{AreAlike, LooksElsewhere, IsOutsideAt, KeepsDepth}
use Rattle.pv_check.proofs.Visible.{some_at}

-- ---- lists

pub all_in : {A : Type 0} (P : A → Type 0) (xs : List A) → AllByRecursion P xs → (x : A) → In xs x → P x
all_in P [] h x m = absurd m
all_in P (y ∷ ys) h x (inl e) = subst P e h.0
all_in P (y ∷ ys) h x (inr m) = all_in P ys h.1 x m

pub in_all : {A : Type 0} (P : A → Type 0) (xs : List A) → ((x : A) → In xs x → P x) → AllByRecursion P xs
in_all P [] h = tt
in_all P (y ∷ ys) h = (h y (inl refl), in_all P ys (λ x m. h x (inr m)))

pub all_get : {A : Type 0} (P : A → Type 0) (xs : List A) (i : ℕ) (d : A) → AllByRecursion P xs → i < length xs → P (get_or xs i d)
all_get P [] i d h low = absurd (omega (arith, low))
all_get P (y ∷ ys) zero d h low = h.0
all_get P (y ∷ ys) (suc i) d h low = all_get P ys i d h.1 (omega (arith, low))

-- ---- depths

depth_or : {A : Type 0} (t : Bool) (o : Option A) (s : A) → (if t then o else None) ≡ Some s → t ≡ true
depth_or true o s e = refl
depth_or false o s e = absurd (cc)

depth_of_sort : (o : Op) (d : ℕ) (ss : List OpSort) (s : OpSort) → looks_at (shape o) ≡ Some d → sort_over o ss ≡ Some s → is_depth d ≡ true
depth_of_sort (op.Theta e) d ss s h over = subst (λ (k : ℕ). is_depth k ≡ true) (same_Some _ _ h) (depth_or (is_depth e) _ s over)
depth_of_sort (op.Eval e) d ss s h over = subst (λ (k : ℕ). is_depth k ≡ true) (same_Some _ _ h) (depth_or (is_depth e) _ s over)
depth_of_sort (op.Pass e) d ss s h over = subst (λ (k : ℕ). is_depth k ≡ true) (same_Some _ _ h) (depth_or (is_depth e) _ s over)
depth_of_sort (op.Shift e) d ss s h over = subst (λ (k : ℕ). is_depth k ≡ true) (same_Some _ _ h) (depth_or (is_depth e) _ s over)
depth_of_sort o d ss s h over = absurd (cc)

-- a node looks at other iterations of a depth of loops alone
pub depth_of_node : (g : Graph) → IsGraph g → (n : ℕ) (o : Op) (kids : List ℕ) → Is g n o kids → (d : ℕ) → looks_at (shape o) ≡ Some d → (1 ≤ d) × (d < 17)
depth_of_node g graph n o kids is d h = bounds d (go (graph.sorted n (node_of o kids) s.0 is s.1))
  where
    s : (s : OpSort) × (slice_get g.sorts n ≡ Some s)
    s = let z = slice_get_within g.nodes n (node_of o kids) is in let y = graph.long in some_at g.sorts n (omega (arith, z, y))

    bounds : (d : ℕ) → is_depth d ≡ true → (1 ≤ d) × (d < 17)
    bounds d e = (grind (arith, nat_tests), grind (arith, nat_tests))

    go : HasSort g.sorts o kids s.0 ⊎ ((g.is_open ≡ true) × IsUnfinished (node_of o kids) s.0) → is_depth d ≡ true
    go (inl x) = depth_of_sort o d x.sorts s.0 h x.over
    go (inr x) = let u = x.1 in let e : d ≡ u.depth = same_Some _ _ (sym h ∙ ap (λ (q : Op). looks_at (shape q)) u.theta_) in subst (λ (k : ℕ). is_depth k ≡ true) (sym e) u.loop

-- ---- a set

outside_all : (before : List Step) (cs : List Congruence) (d : ℕ) → AreOutside before cs d → AllByRecursion (IsOutsideAt before d) cs
outside_all before cs d h = in_all (IsOutsideAt before d) cs (λ c m. in_all (IsOutside before d) c.reasons (h c m))

all_outside : (before : List Step) (cs : List Congruence) (d : ℕ) → AllByRecursion (IsOutsideAt before d) cs → AreOutside before cs d
all_outside before cs d h c m = all_in (IsOutside before d) c.reasons (all_in (IsOutsideAt before d) cs h c m)

module _ (g : Graph) (before : List Step) (inside : List OpenBlock) (cs : List Congruence) where
  decided : (o : Option ℕ) (d : ℕ) → (o ≡ Some d) ⊎ (o ≢ Some d)
  decided None d = inr (λ e. absurd (cc))
  decided (Some e) d = go e d (cases e d)
    where
      cases : (e d : ℕ) → (e ≡ d) ⊎ (e ≢ d)
      cases e d = grind arith

      go : (e d : ℕ) → (e ≡ d) ⊎ (e ≢ d) → ◌≡◌ {A = Option ℕ} (Some e) (Some d) ⊎ (Some e ≢ Some d)
      go e d (inl z) = inl (ap Some z)
      go e d (inr z) = inr (λ y. z (same_Some _ _ y))

  same_op : (n : ℕ) (o p : Op) (ks ls : List ℕ) → Is g n o ks → Is g n p ls → o ≡ p
  same_op n o p ks ls e f = ap (λ (x : Node). x.op) (same_Some _ _ (sym e ∙ f))

  keeps : (d : ℕ) (rest : List Congruence) → ((c : Congruence) → In rest c → RightCongruence g before inside cs c) → AllByRecursion (LooksElsewhere g d) rest ⊎ AllByRecursion (IsOutsideAt before d) cs
  keeps d [] h = inl tt
  keeps d (c ∷ rest) h = go (decided (looks_at (shape r.o)) d) (keeps d rest (λ x m. h x (inr m)))
    where
      r : RightCongruence g before inside cs c
      r = h c (inl refl)

      go : (looks_at (shape r.o) ≡ Some d) ⊎ (looks_at (shape r.o) ≢ Some d) → AllByRecursion (LooksElsewhere g d) rest ⊎ AllByRecursion (IsOutsideAt before d) cs
          → AllByRecursion (LooksElsewhere g d) (c ∷ rest) ⊎ AllByRecursion (IsOutsideAt before d) cs
      go (inl e) again = inr (outside_all before cs d (r.depth d e))
      go (inr e) (inr again) = inr again
      go (inr e) (inl again) = inl (λ l. e (ap (λ (q : Op). looks_at (shape q)) (same_op c.left r.o l.o r.lefts l.kids r.left l.is) ∙ l.depth), again)

  pub set_parts : IsGraph g → ((c : Congruence) → In cs c → RightCongruence g before inside cs c)
      ↔ (AllByRecursion (AreAlike g before inside cs) cs × ((d : ℕ) → 1 ≤ d → d < 17 → KeepsDepth g before cs d))
  set_parts graph = (
    λ h. (
      in_all (AreAlike g before inside cs) cs (λ c m. let r = h c m in record { o = r.o; lefts = r.lefts; rights = r.rights; left = r.left; right = r.right; kids = r.kids }),
      λ d low high. keeps d cs h,
    ),
    λ p c m.
        let a = all_in (AreAlike g before inside cs) cs p.0 c m in
        record {
          o = a.o;
          lefts = a.lefts;
          rights = a.rights;
          left = a.left;
          right = a.right;
          kids = a.kids;
          depth = λ d e. let b = depth_of_node g graph c.left a.o a.lefts a.left d e in out c m a d e (p.1 d b.0 b.1);
        },
  )
    where
      out : (c : Congruence) → In cs c → (a : AreAlike g before inside cs c) → (d : ℕ) → looks_at (shape a.o) ≡ Some d → KeepsDepth g before cs d → AreOutside before cs d
      out c m a d e (inl none) = absurd (all_in (LooksElsewhere g d) cs none c m (record { o = a.o; kids = a.lefts; is = a.left; depth = e }))
      out c m a d e (inr outside) = all_outside before cs d outside
