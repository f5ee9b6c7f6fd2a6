-- Which nodes those of a lemma have to be, where two nodes are to be its sides.
use Rattle.std.specs.Prelude.{◌≡◌, ◌⊎◌, ◌↔◌, ℕ, ◌<◌, false, List, [], length, Some, slice_get, Vec}
use Rattle.std.specs.declared.alloc.Global.{Global}
use Rattle.pv_graph.specs.declared.node.Op.{Op}
use Rattle.pv_graph.specs.declared.node.Op.TheVariants as op
use Rattle.pv_graph.specs.declared.node.OpSort.{OpSort}
use Rattle.pv_graph.specs.Ops.{is_variable}
use Rattle.pv_graph.specs.Forms.{form}
use Rattle.pv_graph.specs.Walks.{In}
use Rattle.pv_graph.specs.Graphs.{Graph, form_at}
use Rattle.pv_lemmas.specs.Lemmas.{IsUnder}

-- for each node of a lemma those that it has to be
abbrev pub Asked : Type 0
Asked = List (Vec ℕ Global)

abbrev pub IsAsked : Asked → ℕ → ℕ → Type 0
IsAsked asked p n = (list : Vec ℕ Global) × (slice_get asked p ≡ Some list) × In list.items n

-- of one more node it is noted that it has to be this one
abbrev pub Adds : Asked → Asked → ℕ → ℕ → Type 0
Adds old new p n = (q m : ℕ) → IsAsked new q m ↔ (IsAsked old q m ⊎ ((p ≡ q) × (n ≡ m)))

-- q and m stand at one place of these lists
abbrev pub ArePlaced : List ℕ → List ℕ → ℕ → ℕ → Type 0
ArePlaced kids are q m = (i : ℕ) × (slice_get kids i ≡ Some q) × (slice_get are i ≡ Some m)

-- of these kids it is noted that they have to be these, one by one
abbrev pub AddsAll : Asked → Asked → List ℕ → List ℕ → Type 0
AddsAll old new kids are = (q m : ℕ) → IsAsked new q m ↔ (IsAsked old q m ⊎ ArePlaced kids are q m)

-- what is needed of the graph of a lemma: variables have no kids, and kids are smaller
pub record IsInner (g : Graph) : Type 0 where
  pub alone : (p j : ℕ) (s : OpSort) (ks : List ℕ) → form_at g.nodes p ≡ Some (form (op.Var j s) ks) → ks ≡ []
  pub late : (p k : ℕ) (o : Op) (ks : List ℕ) → form_at g.nodes p ≡ Some (form o ks) → In ks k → k < p

-- node p of the lemma can be node n, where its kids are what is noted of them
pub data IsMet (inner : Graph) (nodes : List ℕ) (g : Graph) (asked : Asked) : ℕ → ℕ → Type 0 where
  at_variable : (p n j : ℕ) (s : OpSort) → form_at inner.nodes p ≡ Some (form (op.Var j s) []) → slice_get nodes j ≡ Some n → IsMet inner nodes g asked p n
  at_operation : (p n : ℕ) (o : Op) (ps ns : List ℕ) → is_variable o ≡ false → form_at inner.nodes p ≡ Some (form o ps) → form_at g.nodes n ≡ Some (form o ns) → length ps ≡ length ns
      → ((k m : ℕ) → ArePlaced ps ns k m → IsAsked asked k m) → IsMet inner nodes g asked p n

-- node p of the lemma can be node n; what is noted then of other nodes is of smaller ones, and needed
pub record Meets (inner : Graph) (nodes : List ℕ) (g : Graph) (old new : Asked) (p n : ℕ) : Type 0 where
  pub met : IsMet inner nodes g new p n
  pub grows : (q m : ℕ) → IsAsked old q m → IsAsked new q m
  pub only : (q m : ℕ) → IsAsked new q m → IsAsked old q m ⊎ ((q < p) × (IsUnder inner nodes g p n → IsUnder inner nodes g q m))

-- node p of the lemma is all that is noted of it
abbrev pub AreUnder : Graph → List ℕ → Graph → Asked → ℕ → Type 0
AreUnder inner nodes g asked p = (n : ℕ) → IsAsked asked p n → IsUnder inner nodes g p n

-- .. of each node that is noted of p
pub record MeetsAll (inner : Graph) (nodes : List ℕ) (g : Graph) (old new : Asked) (p : ℕ) : Type 0 where
  pub met : (n : ℕ) → IsAsked new p n → IsMet inner nodes g new p n
  pub grows : (q m : ℕ) → IsAsked old q m → IsAsked new q m
  pub only : (q m : ℕ) → IsAsked new q m → IsAsked old q m ⊎ ((q < p) × (AreUnder inner nodes g old p → IsUnder inner nodes g q m))

-- both sides of the lemma are these nodes
abbrev pub AreSides : Graph → List ℕ → Graph → (ℕ × ℕ) → (ℕ × ℕ) → Type 0
AreSides inner nodes g sides at = IsUnder inner nodes g sides.0 at.0 × IsUnder inner nodes g sides.1 at.1
