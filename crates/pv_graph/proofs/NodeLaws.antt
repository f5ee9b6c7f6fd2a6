-- Nodes of graphs, their kids and sorts; and graphs that grow keep their unfoldings.
use Rattle.std.specs.Prelude.{◌≡◌, ◌⊎◌, ℕ, zero, suc, ◌+◌, ◌<◌, ◌≤◌, true, false, List, [], ◌∷◌, length, Option, Some, None, slice_get, refl}
use Rattle.std.specs.List.{AllZip, range_with_len}
use Rattle.std.proofs.Common.{inl, inr, sym, ap, ◌∙◌, subst, arith}
use Rattle.std.proofs.lemmas.Option.{slice_get_within}
use Rattle.pv_value.specs.Spelled.{bind}
use Rattle.pv_graph.specs.declared.node.Op.{Op}
use Rattle.pv_graph.specs.declared.node.OpSort.{OpSort}
use Rattle.pv_graph.specs.declared.node.Node.{Node}
use Rattle.pv_graph.specs.Ops.{sort_over, HasSort}
use Rattle.pv_graph.specs.Forms.{Form, form}
use Rattle.pv_graph.proofs.Elements.{found}
use Rattle.pv_graph.specs.Unfold.{over, trees_of, tree_at, unfold_at}
use Rattle.pv_graph.specs.Walks.{In}
use Rattle.pv_graph.specs.Graphs.{Graph, form_of, form_at, IsUnfinished, IsRanged, IsGraph, Extends}
use Rattle.pv_graph.specs.Laws.{GrowthUnfolds}
use Rattle.pv_graph.proofs.Bisimulations.{Matched, Bisimulates, bisimulates_unfolds}

pub bind_some : {A B : Type 0} (o : Option A) (f : A → Option B) (b : B) → bind o f ≡ Some b → (a : A) × (o ≡ Some a) × (f a ≡ Some b)
bind_some None f b e = absurd (cc)
bind_some (Some a) f b e = (a, refl, e)

-- ---- elements

same_or_not_in : (a b : ℕ) → (a ≡ b) ⊎ (a ≡ b → ⊥)
same_or_not_in a b = grind arith

-- a number is in a list or not
pub in_or_not : (xs : List ℕ) (n : ℕ) → In xs n ⊎ (In xs n → ⊥)
in_or_not [] n = inr (λ h. h)
in_or_not (x ∷ xs) n = go (same_or_not_in x n) (in_or_not xs n)
  where
    go : (x ≡ n) ⊎ (x ≡ n → ⊥) → In xs n ⊎ (In xs n → ⊥) → In (x ∷ xs) n ⊎ (In (x ∷ xs) n → ⊥)
    go (inl e) b = inl (inl e)
    go (inr ne) (inl m) = inl (inr m)
    go (inr ne) (inr no') = inr (λ h. elim h [ inl e ↦ ne e | inr m ↦ no' m ])

first_or_later : (a k : ℕ) → a ≤ k → (a ≡ k) ⊎ (a + 1 ≤ k)
first_or_later a k low = grind arith

pub in_range : (a n k : ℕ) → a ≤ k → k < a + n → In (range_with_len a n) k
in_range a zero k low high = absurd (omega arith)
in_range a (suc n) k low high = elim (first_or_later a k low) [ inl e ↦ inl e | inr h ↦ inr (in_range (a + 1) n k h (omega arith)) ]

-- the node whose form it is
pub node_at : (nodes : List Node) (n : ℕ) (o : Op) (ks : List ℕ) → form_at nodes n ≡ Some (form o ks) → (node : Node) × (slice_get nodes n ≡ Some node) × (node.op ≡ o) × (node.kids ≡ ks)
node_at nodes n o ks e =
    let a = bind_some (slice_get nodes n) _ (form o ks) e in
    (a.0, a.1, (let z = a.2 in cc), (let z = a.2 in cc))

pub form_there : (nodes : List Node) (n : ℕ) (node : Node) → slice_get nodes n ≡ Some node → form_at nodes n ≡ Some (form_of node)
form_there nodes n node e = ap (λ (q : Option Node). bind q (λ y. Some (form_of y))) e

-- what a node unfolds to
pub unfold_of : (nodes : List Node) (n m : ℕ) (node : Node) → slice_get nodes n ≡ Some node → unfold_at (form_at nodes) (suc m) n ≡ over node.op (trees_of node.kids (unfold_at (form_at nodes) m))
unfolding unfold_at
unfold_of nodes n m node is = ap (λ (q : Option (Form ℕ)). tree_at q (unfold_at (form_at nodes) m)) (form_there nodes n node is)

pub low_or_high : (n m : ℕ) → (n < m) ⊎ (m ≤ n)
low_or_high n m = grind arith

-- kids are in the graph
pub kid_within : (g : Graph) → IsGraph g → (n k : ℕ) (node : Node) → slice_get g.nodes n ≡ Some node → In node.kids k → k < length g.nodes
kid_within g is n k node e m = go (low_or_high n g.base)
  where
    go : (n < g.base) ⊎ (g.base ≤ n) → k < length g.nodes
    go (inl h) = let z = is.early n k node e h m in let y = is.base in omega arith
    go (inr h) = let z = is.late n k node e h m in let y = slice_get_within g.nodes n node e in omega arith

-- ---- growth

-- the same node, of the old graph
abbrev pub Kept : Graph → ℕ → ℕ → Type 0
Kept old a b = (a ≡ b) × (b < length old.nodes)

all_kept : (old : Graph) (ks : List ℕ) → ((k : ℕ) → In ks k → k < length old.nodes) → AllZip (Kept old) ks ks
all_kept old [] h = tt
all_kept old (k ∷ ks) h = ((refl, h k (inl refl)), all_kept old ks (λ l m. h l (inr m)))

pub growth_pairs : (old new : Graph) → IsGraph old → Extends old new → Bisimulates (form_at new.nodes) (form_at old.nodes) (Kept old)
growth_pairs old new is grows a b t =
    let node = found old.nodes b t.1 in
    let after = grows.nodes b node.0 node.1 in
    let there : form_at new.nodes a ≡ Some (form_of node.0) = ap (form_at new.nodes) t.0 ∙ form_there new.nodes b node.0 after in
    let here : form_at old.nodes b ≡ Some (form_of node.0) = form_there old.nodes b node.0 node.1 in
    let paired : Matched (Kept old) (Some (form_of node.0)) (Some (form_of node.0)) = (refl, all_kept old node.0.kids (λ k m. kid_within old is b k node.0 node.1 m)) in
    subst (λ (p : Option (Form ℕ)). Matched (Kept old) p (form_at old.nodes b)) (sym there) (subst (λ (q : Option (Form ℕ)). Matched (Kept old) (Some (form_of node.0)) q) (sym here) paired)

pub growth_unfolds : GrowthUnfolds
growth_unfolds old new is grows n lt = bisimulates_unfolds (form_at new.nodes) (form_at old.nodes) (Kept old) (growth_pairs old new is grows) n n (refl, lt)

-- ---- sorts

-- node n has sort s
abbrev pub HasSortAt : Graph → ℕ → OpSort → Type 0
HasSortAt g n s = slice_get g.sorts n ≡ Some s

pub tied : (g : Graph) → g.is_open ≡ false → (node : Node) (s : OpSort) → HasSort g.sorts node.op node.kids s ⊎ ((g.is_open ≡ true) × IsUnfinished node s) → HasSort g.sorts node.op node.kids s
tied g closed node s (inl h) = h
tied g closed node s (inr h) = absurd (let z = h.0 in cc)

-- in a sealed graph each node's kids are as its operation takes them
pub graph_sorted : (g : Graph) → IsGraph g → g.is_open ≡ false → (n : ℕ) (s : OpSort) → HasSortAt g n s
    → (o : Op) × (ks : List ℕ) × (ss : List OpSort) × (form_at g.nodes n ≡ Some (form o ks)) × AllZip (HasSortAt g) ks ss × (sort_over o ss ≡ Some s) × IsRanged o
graph_sorted g is closed n s t =
    let short : n < length g.nodes = (let y = slice_get_within g.sorts n s t in let z = is.long in omega arith) in
    let node = found g.nodes n short in
    let h = tied g closed node.0 s (is.sorted n node.0 s node.1 t) in
    (node.0.op, node.0.kids, h.sorts, form_there g.nodes n node.0 node.1, h.kids_have, h.over, is.ranged n node.0 node.1)

pub sort_there : (g : Graph) → IsGraph g → (n : ℕ) → n < length g.nodes → (s : OpSort) × HasSortAt g n s
sort_there g is n lt = found g.sorts n (let z = is.long in omega arith)
