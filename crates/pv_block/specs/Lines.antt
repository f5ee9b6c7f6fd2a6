-- What lines compute: operations over what is given, and over what earlier lines have made. The same is said of sorts, of parts and of nodes.
use Rattle.std.specs.Prelude.{◌≡◌, ℕ, List, [], ◌∷◌, ◌++◌, Option, Some, None, slice_get, slice_index_or, if◌then◌else◌, refl}
use Rattle.std.specs.List.{AllZip}
use Rattle.pv_pool.specs.Readers.{◌>>=◌}
use Rattle.pv_graph.specs.declared.node.Op.{Op}
use Rattle.pv_graph.specs.declared.node.Node.{Node}
use Rattle.pv_graph.specs.declared.node.OpSort.{OpSort}
use Rattle.pv_graph.specs.Ops.{Shape, plain, shape, sort_over, HaveSorts}
use Rattle.pv_graph.specs.Graphs.{Graph}
use Rattle.pv_equations.specs.Flow.{Part, Parts, Of, NoPart, More}
use Rattle.pv_terms.specs.Reads.{Stand}
use Rattle.pv_terms.specs.Terms.{has_depth}
use Rattle.pv_block.specs.declared.line.Kid.{Kid}
use Rattle.pv_block.specs.declared.line.Kid.TheVariants.{Given, Made}
use Rattle.pv_block.specs.declared.line.Kids.{Kids}
use Rattle.pv_block.specs.declared.line.Kids.TheVariants.{WithHeap, Operands, Zero, One, Two, Three}
use Rattle.pv_block.specs.declared.line.Line.{Line}
use Rattle.pv_block.specs.Standing.{Entry, StandsFor}

abbrev pub line : Op → Kids → Line
line o ks = record { op = o; kids = ks }

-- ---- what lines make

abbrev pub pick : {A : Type 0} → List A → List A → Kid → Option A
pick given made (Given k) = slice_get given k
pick given made (Made k) = slice_get made k

abbrev pub but_first : {A : Type 0} → List A → Option (List A)
but_first [] = None
but_first (x ∷ xs) = Some xs

-- what an operation takes; the token where the block begins is given first, then the heap, then the operands
abbrev pub taken : {A : Type 0} → List A → List A → Kids → Option (List A)
taken given made WithHeap = but_first given
taken given made Operands = but_first given >>= but_first
taken given made Zero = Some []
taken given made (One a) = pick given made a >>= λ x. Some (x ∷ [])
taken given made (Two a b) = pick given made a >>= λ x. pick given made b >>= λ y. Some (x ∷ y ∷ [])
taken given made (Three a b c) = pick given made a >>= λ x. pick given made b >>= λ y. pick given made c >>= λ z. Some (x ∷ y ∷ z ∷ [])

-- what all lines make after those that made `made`, where f says what an operation makes of what it takes
abbrev pub all_made : {A : Type 0} → (Op → List A → Option A) → List A → List Line → List A → Option (List A)
all_made f given [] made = Some made
all_made f given (l ∷ ls) made = (taken given made l.kids >>= f l.op) >>= λ x. all_made f given ls (made ++ x ∷ [])

-- ---- their sorts

abbrev pub sort_made : Op → List OpSort → Option OpSort
sort_made o sorts = if has_depth o then None else sort_over o sorts

-- ---- their parts

abbrev pub parts_in : List Part → Parts
parts_in [] = NoPart
parts_in (p ∷ ps) = More p (parts_in ps)

abbrev pub part_over : (o : Op) (s : Shape) → shape o ≡ s → List Part → Option Part
part_over o plain e ps = Some (Of o e (parts_in ps))
part_over o s e ps = None

abbrev pub part_made : Op → List Part → Option Part
part_made o ps = part_over o (shape o) refl ps

-- ---- their nodes

abbrev pub node_at : List ℕ → List ℕ → Kid → ℕ
node_at given made (Given k) = slice_index_or given k 0
node_at given made (Made k) = slice_index_or made k 0

abbrev pub after_first : List ℕ → List ℕ
after_first [] = []
after_first (n ∷ ns) = ns

abbrev pub nodes_for : List ℕ → List ℕ → Kids → List ℕ
nodes_for given made WithHeap = after_first given
nodes_for given made Operands = after_first (after_first given)
nodes_for given made Zero = []
nodes_for given made (One a) = node_at given made a ∷ []
nodes_for given made (Two a b) = node_at given made a ∷ node_at given made b ∷ []
nodes_for given made (Three a b c) = node_at given made a ∷ node_at given made b ∷ node_at given made c ∷ []

-- node by node
abbrev pub Stands : Entry → List Node → List ℕ → List Part → Type 0
Stands at nodes ns ps = AllZip (StandsFor at nodes) ns ps

-- the given nodes have sorts over which the lines have theirs
pub record Fit (g : Graph) (given : List ℕ) (lines : List Line) : Type 0 where
  pub sorts : List OpSort
  pub given_have : HaveSorts g.sorts given sorts
  pub made : List OpSort
  pub are : all_made sort_made sorts lines [] ≡ Some made

-- these nodes are what the lines make of the given ones: in sorts, and in parts
pub record AreMade (old : Graph) (given : List ℕ) (lines : List Line) (new : Graph) (nodes : List ℕ) : Type 0 where
  pub sorts : (ss ts : List OpSort) → HaveSorts old.sorts given ss → all_made sort_made ss lines [] ≡ Some ts → HaveSorts new.sorts nodes ts
  pub stand : (at : Entry) (ps qs : List Part) → Stand at.nodes old.nodes → Stands at old.nodes given ps → all_made part_made ps lines [] ≡ Some qs → Stands at new.nodes nodes qs
