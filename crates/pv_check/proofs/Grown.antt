-- What `add` does at a node step.
use Rattle.std.specs.Prelude.{◌≡◌, ◌≢◌, ◌⊎◌, ℕ, zero, suc, ◌+◌, ◌-◌, ◌<◌, ◌^◌, false, List, [], ◌∷◌, ◌++◌, length, Some, slice_get, refl}
use Rattle.std.specs.List.{AllByRecursion}
use Rattle.std.proofs.Common.{inl, inr, sym, ap, ◌∙◌, subst, arith}
use Rattle.std.proofs.lemmas.Option.{slice_get_within}
use Rattle.pv_graph.specs.declared.node.Op.{Op}
use Rattle.pv_graph.specs.declared.node.Node.{Node}
use Rattle.pv_graph.specs.Ops.{is_variable}
use Rattle.pv_graph.specs.Nodes.{node_of, IsAbsent}
use Rattle.pv_graph.specs.Graphs.{Graph}
use Rattle.pv_graph.specs.Calls.{IsSame, AreNodes, MayAdd, Added, appended}
use Rattle.pv_steps.specs.Right.{AddsNode}
use Rattle.pv_check.specs.Growth.{MayBeNext, NodeAdded}

pub sealed_may : (g : Graph) (o : Op) → g.is_open ≡ false → MayAdd g o
sealed_may g o e f = let z = sym e ∙ f in absurd (cc)

pub next_nodes : (g : Graph) (n : ℕ) (kids : List ℕ) → MayBeNext g n kids → AreNodes g kids
next_nodes g n kids h = subst (λ (m : ℕ). AllByRecursion (λ k. k < m) kids) h.0 h.1.1

pub not_next : (g : Graph) (n : ℕ) (o : Op) (kids : List ℕ) → (MayBeNext g n kids → ⊥) → (new : Graph) → AddsNode g n o kids new → ⊥
not_next g n o kids no' new a = no' (a.number, ((let r = a.room in room n r), subst (λ (m : ℕ). AllByRecursion (λ k. k < m) kids) (sym a.number) a.smaller))
  where
    room : (n : ℕ) → n + 1 < 2 ^ 32 → n < 2 ^ 32 - 1
    room n r = omega (arith, r)

at_last : (xs : List Node) (x y : Node) (m : ℕ) → slice_get (xs ++ x ∷ []) m ≡ Some y → (slice_get xs m ≡ Some y) ⊎ (m ≡ length xs)
at_last [] x y zero e = inr refl
at_last [] x y (suc m) e = absurd (cc)
at_last (z ∷ xs) x y zero e = inl e
at_last (z ∷ xs) x y (suc m) e = go (at_last xs x y m e)
  where
    go : (slice_get xs m ≡ Some y) ⊎ (m ≡ length xs) → (slice_get xs m ≡ Some y) ⊎ (suc m ≡ suc (length xs))
    go (inl h) = inl h
    go (inr h) = inr (ap suc h)

-- where it gives the number n, the node is new
pub is_new : (old new : Graph) (n : ℕ) (o : Op) (kids : List ℕ) → is_variable o ≡ false → MayBeNext old n kids → Added old new o kids n → NodeAdded old new n o kids
is_new old new n o kids plain_ h a = go a.grows
  where
    room : (n : ℕ) → n < 2 ^ 32 - 1 → n + 1 < 2 ^ 32
    room n r = omega (arith, r)

    go : IsSame old new ⊎ (IsAbsent old.nodes (node_of o kids) × (new ≡ appended old (node_of o kids) a.fits.0 new.is_prepared)) → NodeAdded old new n o kids
    go (inl same) =
        let there : slice_get old.nodes n ≡ Some (node_of o kids) = sym (ap (λ (g : Graph). slice_get g.nodes n) same) ∙ a.first.there in
        let low = slice_get_within old.nodes n (node_of o kids) there in
        let number = h.0 in
        absurd (omega (arith, low, number))
    go (inr grown) = (
      appended old (node_of o kids) a.fits.0 false,
      record { number = h.0; room = room n h.1.0; smaller = next_nodes old n kids h; fits = a.fits; ranged = a.graph.ranged n (node_of o kids) a.first.there; plain_ = plain_; absent = grown.0; grown = refl },
      grown.1,
    )

-- where it gives another one, the node was there
pub is_old : (old new : Graph) (n m : ℕ) (o : Op) (kids : List ℕ) → MayBeNext old n kids → Added old new o kids m → m ≢ n → (g : Graph) → AddsNode old n o kids g → ⊥
is_old old new n m o kids h a other g adds = go a.grows
  where
    go : IsSame old new ⊎ (IsAbsent old.nodes (node_of o kids) × (new ≡ appended old (node_of o kids) a.fits.0 new.is_prepared)) → ⊥
    go (inl same) = adds.absent m (sym (ap (λ (q : Graph). slice_get q.nodes m) same) ∙ a.first.there)
    go (inr grown) =
        let there : slice_get (old.nodes ++ node_of o kids ∷ []) m ≡ Some (node_of o kids) = sym (ap (λ (q : Graph). slice_get q.nodes m) grown.1) ∙ a.first.there in
        elim (at_last old.nodes (node_of o kids) (node_of o kids) m there) [ inl e ↦ adds.absent m e | inr e ↦ other (e ∙ sym h.0) ]
