-- A least graph has one cleared graph.
use Rattle.std.specs.Prelude.{◌≡◌, ◌<◌, ℕ, suc, List, [], ◌∷◌, length, slice_get, refl}
use Rattle.std.proofs.Common.{inl, inr, sym, ap, ap₂, ◌∙◌, subst, arith}
use Rattle.std.proofs.lemmas.Option.{same_Some}
use Rattle.pv_graph.specs.declared.node.Node.{Node}
use Rattle.pv_graph.specs.Calls.{IsSame}
use Rattle.pv_graph.specs.Walks.{In}
use Rattle.pv_graph.specs.Graphs.{Graph, form_at}
use Rattle.pv_alike.specs.Least.{Rooted, UnfoldsAs, IsLeastOf}
use Rattle.pv_alike.specs.Laws.{IsSameRooted}
use Rattle.pv_alike.proofs.Cited.{same_least_nodes}
use Rattle.pv_counted.specs.Counted.{AreCounted}
use Rattle.pv_counted.specs.Cleared.{IsDead, IsClearing, IsCleared}
use Rattle.pv_counted.specs.Laws.{ClearedOnce}
use Rattle.pv_counted.proofs.Least.{settled_more}

-- lists with the same elements are one
same_lists : {A : Type 0} → (xs ys : List A) → length xs ≡ length ys → ((i : ℕ) → i < length xs → slice_get xs i ≡ slice_get ys i) → xs ≡ ys
same_lists [] [] long each = refl
same_lists [] (y ∷ ys) long each = absurd (cc long)
same_lists (x ∷ xs) [] long each = absurd (cc long)
same_lists (x ∷ xs) (y ∷ ys) long each = ap₂ (λ z zs. z ∷ zs) (same_Some x y (each 0 (omega arith))) (same_lists xs ys (cc long) (λ i lt. each (suc i) (omega (arith, lt))))

-- all counted nodes of the one list are in the other
counted_within : (nodes : List Node) (counted others : List ℕ) → AreCounted nodes counted → AreCounted nodes others → (n : ℕ) → In counted n → In others n
counted_within nodes counted others are all n m = (all n).1 ((are n).0 m)

-- so that what is dead by the one is by the other
dead_there : (g : Graph) (counted others : List ℕ) → AreCounted g.nodes counted → AreCounted g.nodes others → (n : ℕ) → IsDead g counted n → IsDead g others n
dead_there g counted others are all n dead = (dead.0, settled_more (form_at g.nodes) counted others (counted_within g.nodes counted others are all) n dead.1)

-- a graph has one clearing
clearing_once : (g h k : Graph) (counted others : List ℕ) → AreCounted g.nodes counted → AreCounted g.nodes others → IsClearing g counted h → IsClearing g others k → h.nodes ≡ k.nodes
clearing_once g h k counted others are all c d = same_lists h.nodes k.nodes (c.long ∙ sym d.long) each
  where
    each : (n : ℕ) → n < length h.nodes → slice_get h.nodes n ≡ slice_get k.nodes n
    each n low =
        let lt : n < length g.nodes = (let z = c.long in omega (arith, z, low)) in
        elim (c.each n lt) [
          | inl x ↦ elim (d.each n lt) [
            | inl y ↦ x.1 ∙ sym y.1
            | inr y ↦ absurd (y.0 (dead_there g counted others are all n x.0))
          ]
          | inr x ↦ elim (d.each n lt) [
            | inl y ↦ absurd (x.0 (dead_there g others counted all are n y.0))
            | inr y ↦ x.1 ∙ sym y.1
          ]
        ]

-- .. and so has one that differs at most in being prepared
clearing_kept : (g k h : Graph) (counted : List ℕ) → IsSame g k → IsClearing k counted h → IsClearing g counted h
clearing_kept g k h counted same c =
    let d = subst (λ (x : Graph). IsClearing x counted h) same c in
    record { long = d.long; sorts = d.sorts; open_ = d.open_; base = d.base; each = d.each }

-- what is the cleared graph of a least graph is that of one that differs at most in being prepared
pub cleared_kept : (l k n : Rooted) → IsSameRooted l k → IsCleared k n → IsCleared l n
cleared_kept l k n same (counted, h, are, c, least) =
    let nodes : k.graph.nodes ≡ l.graph.nodes = ap (λ (g : Graph). g.nodes) same.graph in (
      counted,
      h,
      subst (λ (xs : List Node). AreCounted xs counted) nodes are,
      clearing_kept l.graph k.graph h counted same.graph c,
      subst (λ (a : ℕ). IsLeastOf h a l.second n) (sym same.first) (subst (λ (b : ℕ). IsLeastOf h k.first b n) (sym same.second) least),
    )

pub cleared_once : ClearedOnce
cleared_once l k m n same (counted, h, are, c, least) cleared =
    let (others, i, all, d, other) = cleared_kept l k n same cleared in
    let one = clearing_once l.graph h i counted others are all c d in
    (same_least_nodes h.nodes i.nodes l.first l.second l.first l.second m.graph.nodes n.graph.nodes m.first m.second n.first n.second least.least other.least).1
    (record { first = unfolds one l.first; second = unfolds one l.second })
  where
    unfolds : {xs ys : List Node} → xs ≡ ys → (a : ℕ) → UnfoldsAs xs a ys a
    unfolds {xs} e a = subst (λ (zs : List Node). UnfoldsAs xs a zs a) e (λ k. refl)
