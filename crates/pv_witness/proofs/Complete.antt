-- The supports are complete: they cover each class of which the condition holds.
use Rattle.std.specs.Prelude.{◌≡◌, ℕ, zero, suc, Bool, List, [], ◌∷◌, length, Some, slice_get}
use Rattle.std.proofs.Common.{inl, inr, sym, ap, ◌∙◌, subst, arith}
use Rattle.std.proofs.lemmas.Option.{slice_get_within, same_Some}
use Rattle.pv_graph.specs.declared.node.Op.{Op}
use Rattle.pv_graph.specs.declared.node.Op.TheVariants as op
use Rattle.pv_graph.specs.Ops.{shape, theta}
use Rattle.pv_graph.specs.Walks.{In, open_kids}
use Rattle.pv_graph.specs.Graphs.{Graph}
use Rattle.pv_steps.specs.Facts.{View}
use Rattle.pv_heights.specs.Sides.{ClassHas}
use Rattle.pv_heights.specs.Conditions.{ClassNode, Settled, NotFree}
use Rattle.pv_heights.specs.Searches.{nodes, IsNode, OneClass}
use Rattle.pv_witness.specs.declared.condition.Condition.{Condition}
use Rattle.pv_witness.specs.declared.condition.Condition.TheVariants as condition
use Rattle.pv_marks.specs.Classes.{class_of}
use Rattle.pv_witness.specs.Conditions.{HoldsAt, HoldsOfClass, AreStarts}
use Rattle.pv_witness.specs.Supports.{HandsOn, counted, Covers, AreAllSupports}

-- nodes of one class have one class number
pub class_same : (numbers : List ℕ) (a b : ℕ) → OneClass numbers a b → class_of numbers a ≡ class_of numbers b
class_same numbers a b (c, x, y) = read numbers a c x ∙ sym (read numbers b c y)
  where
    read : (xs : List ℕ) (n c : ℕ) → slice_get xs n ≡ Some c → class_of xs n ≡ c
    read [] n c e = absurd (cc)
    read (x ∷ xs) zero c e = same_Some x c e
    read (x ∷ xs) (suc n) c e = read xs n c e

place_of : (ks : List ℕ) (k : ℕ) → In ks k → (j : ℕ) × (slice_get ks j ≡ Some k)
place_of [] k i = absurd i
place_of (x ∷ ks) k (inl e) = (0, ap Some e)
place_of (x ∷ ks) k (inr i) = let r = place_of ks k i in (suc r.0, r.1)

theta_of : (d : ℕ) (o : Op) → shape o ≡ theta d → o ≡ op.Theta d
theta_of d (op.Theta e) s = ap op.Theta (let z = s in cc)
theta_of d o s = absurd (cc)

module _ (view : View) (assumed : List ℕ) (h : Graph) (numbers : List ℕ) (k : Condition) (starts : List Bool) (list : List ℕ) (long : length numbers ≡ length h.nodes) (known : AreStarts view assumed h k starts) (all : AreAllSupports h numbers k starts list) where
  -- a node of the least graph of which it holds is marked
  by_node : (n t : ℕ) → ClassNode view (nodes h) (OneClass numbers) t n → HoldsAt view assumed k n → Covers numbers list (class_of numbers t)
  by_node n t c holds =
      let joins = c.joins in
      let lt = slice_get_within numbers n joins.0 joins.1 in
      subst (Covers numbers list) (class_same numbers n t joins) (all.started n (omega (arith, lt, long)) (known.least n (c.o, c.ks, c.is) holds))

  -- a node that hands it on from its kids' classes is ready
  by_kids : (t : ℕ) (o : Op) (ks : List ℕ) → ClassHas (nodes h) (IsNode h) (OneClass numbers) t o ks → HandsOn k o → ((j : ℕ) → In (counted k o ks) j → Covers numbers list (class_of numbers j)) → Covers numbers list (class_of numbers t)
  by_kids t o ks c passes each =
      subst (Covers numbers list) (class_same numbers c.thing t c.joins) (all.closed c.thing (record { o = o; ks = ks; is = c.has; passes = passes; kids = each }))

module _ (view : View) (assumed : List ℕ) (h : Graph) (numbers : List ℕ) (starts : List Bool) (list : List ℕ) (long : length numbers ≡ length h.nodes) where
  settled_covered : AreStarts view assumed h condition.Settled starts → AreAllSupports h numbers condition.Settled starts list → (n : ℕ) → Settled view assumed (nodes h) (IsNode h) (OneClass numbers) n → Covers numbers list (class_of numbers n)
  settled_covered known all t (Settled.by_node n _ c s) = by_node view assumed h numbers condition.Settled starts list long known all n t c s
  settled_covered known all t (Settled.by_kids _ o ks c passes each) =
      by_kids view assumed h numbers condition.Settled starts list long known all t o ks c passes (λ j i. let p = place_of ks j i in settled_covered known all j (each p.0 j p.1))

  free_covered : (d : ℕ) → AreStarts view assumed h (condition.NotFree d) starts → AreAllSupports h numbers (condition.NotFree d) starts list → (n : ℕ) → NotFree view d (nodes h) (IsNode h) (OneClass numbers) n → Covers numbers list (class_of numbers n)
  free_covered d known all t (NotFree.by_node n _ c s) = by_node view assumed h numbers (condition.NotFree d) starts list long known all n t c s
  free_covered d known all t (NotFree.by_kids _ o ks c passes each) =
      by_kids view assumed h numbers (condition.NotFree d) starts list long known all t o ks c (λ s. passes (theta_of d o s)) (λ j i. let p = place_of (open_kids d (shape o) ks) j i in free_covered d known all j (each p.0 j p.1))

  pub covered : (k : Condition) → AreStarts view assumed h k starts → AreAllSupports h numbers k starts list → (n : ℕ) → HoldsOfClass view assumed h numbers k n → Covers numbers list (class_of numbers n)
  covered condition.Settled known all n holds = settled_covered known all n holds
  covered (condition.NotFree d) known all n holds = free_covered d known all n holds
