-- A graph that grew from a well-made least graph is well made: it has no cycles but those of its base.
use Rattle.std.specs.Prelude.{◌≡◌, ◌⊎◌, ℕ, ◌<◌, ◌≤◌, List, ◌∷◌, length, Some, slice_get}
use Rattle.std.proofs.Common.{inl, inr, sym, ◌∙◌, subst, arith}
use Rattle.pv_graph.specs.declared.node.Node.{Node}
use Rattle.pv_graph.specs.Walks.{In, Move, Edge, Walk, stop, step, KeepsRule}
use Rattle.pv_graph.specs.Graphs.{Graph, form_of, form_at, IsGraph, IsWellMade, Extends}
use Rattle.pv_graph.proofs.Cited.{found, form_there, node_at}
use Rattle.pv_rounds.proofs.Cited.{get_in}

early_or_late : (n m : ℕ) → (n < m) ⊎ (m ≤ n)
early_or_late n m = grind arith

module _ (old new : Graph) (is : IsGraph new) (e : Extends old new) (base : new.base ≡ length old.nodes) where
  -- ---- steps

  -- a step goes to a kid
  kid_of : (n k : ℕ) (m : Move) → Edge (form_at new.nodes) n m k → (node : Node) × (slice_get new.nodes n ≡ Some node) × In node.kids k
  kid_of n k m h = let x = node_at new.nodes n h.o h.ks h.is in (x.0, x.1, subst (λ (zs : List ℕ). In zs k) (sym x.3) (get_in h.ks h.place k h.there))

  -- a step from the base ends in the base
  step_early : (n k : ℕ) (m : Move) → n < new.base → Edge (form_at new.nodes) n m k → k < new.base
  step_early n k m low h = let x = kid_of n k m h in is.early n k x.0 x.1 low x.2

  -- a step from a later node goes to a smaller one
  step_late : (n k : ℕ) (m : Move) → new.base ≤ n → Edge (form_at new.nodes) n m k → k < n
  step_late n k m high h = let x = kid_of n k m h in is.late n k x.0 x.1 high x.2

  -- a step from the base is one of the old graph
  step_old : (n k : ℕ) (m : Move) → n < new.base → Edge (form_at new.nodes) n m k → Edge (form_at old.nodes) n m k
  step_old n k m low h =
      let x = found old.nodes n (let z = base in omega (arith, low)) in
      let here : form_at old.nodes n ≡ Some (form_of x.0) = form_there old.nodes n x.0 x.1 in
      let there : form_at new.nodes n ≡ Some (form_of x.0) = form_there new.nodes n x.0 (e.nodes n x.0 x.1) in
      record { o = h.o; ks = h.ks; place = h.place; is = here ∙ sym there ∙ h.is; there = h.there; moves = h.moves }

  -- ---- walks

  walk_old : (n : ℕ) (ms : List Move) (o : ℕ) → n < new.base → Walk (form_at new.nodes) n ms o → Walk (form_at old.nodes) n ms o
  walk_old n ms o low (stop q) = stop q
  walk_old n ms o low (step q k r m ps h w) = step q k r m ps (step_old q k m low h) (walk_old k ps r (step_early q k m low h) w)

  -- a walk that ends at a later node goes down
  walk_down : (n : ℕ) (ms : List Move) (o : ℕ) → new.base ≤ o → Walk (form_at new.nodes) n ms o → o ≤ n
  walk_down n ms o high (stop q) = omega arith
  walk_down n ms o high (step q k r m ps h w) =
      let rest = walk_down k ps r high w in
      elim (early_or_late q new.base) [
        | inl low ↦ let z = step_early q k m low h in omega (arith, rest, high, z, low)
        | inr late ↦ let z = step_late q k m late h in omega (arith, rest, z)
      ]

  -- so no such walk that has a step comes back
  no_cycle : (n : ℕ) (m : Move) (ms : List Move) (o : ℕ) → new.base ≤ n → new.base ≤ o → Walk (form_at new.nodes) n (m ∷ ms) o → o < n
  no_cycle n m ms o late high (step q k r m' ps h w) = let rest = walk_down k ps r high w in let z = step_late q k m' late h in omega (arith, rest, z)

  pub grown_made : KeepsRule (form_at old.nodes) → IsWellMade new
  grown_made rule = record {
    graph = is;
    rule = λ n m ms w. elim (early_or_late n new.base) [
      | inl low ↦ rule n m ms (walk_old n (m ∷ ms) n low w)
      | inr late ↦ absurd (let z = no_cycle n m ms n late late w in omega (arith, z))
    ];
  }
