-- What the calls of a graph require and ensure. Above each group stands the Rust signature with its
-- clauses; out of memory is the one answer that no clause ties to a cause.
use Rattle.std.specs.Prelude.{◌≡◌, ◌≢◌, ◌⊎◌, ◌↔◌, IsTrue, ℕ, ◌+◌, ◌<◌, Bool, true, false, List, [], ◌∷◌, ◌++◌, length, Some, slice_get, slice_set, if◌then◌else◌}
use Rattle.std.specs.List.{AllByRecursion}
use Rattle.pv_graph.specs.declared.node.Op.{Op}
use Rattle.pv_graph.specs.declared.node.Op.TheVariants as op
use Rattle.pv_graph.specs.declared.node.OpSort.{OpSort}
use Rattle.pv_graph.specs.declared.node.Node.{Node}
use Rattle.pv_graph.specs.Nodes.{node_of, IsFirst, IsAbsent}
use Rattle.pv_graph.specs.Ops.{HasSort}
use Rattle.pv_graph.specs.Walks.{In, Free, IsSettled, Move, down, Walk}
use Rattle.pv_graph.specs.Graphs.{Graph, form_at, IsGraph}

-- equal graphs, of which nothing is said about being prepared
abbrev pub IsSame : Graph → Graph → Type 0
IsSame old new = new ≡ record old { is_prepared = new.is_prepared }

-- the numbers are those of nodes
abbrev pub AreNodes : Graph → List ℕ → Type 0
AreNodes g kids = AllByRecursion (λ k. k < length g.nodes) kids

-- ---- Graph::new(alloc: Global) -> Graph
--        ensures { result ≡ empty_graph }

abbrev pub empty_graph : Graph
empty_graph = record { nodes = []; sorts = []; is_open = true; base = 0; is_prepared = false }

-- ---- Graph::node(&self, n: NodeId) -> &Node
--        requires { n < length self.now.nodes }
--        ensures { slice_get self.now.nodes n ≡ Some result.now }
--      Graph::len(&self) -> u32
--        ensures len { result ≡ length self.now.nodes }
--        ensures graph { IsGraph self.now }
--      Graph::copy(&self, alloc: Global) -> Result<Graph, Memory>
--        ensures { IfOk result (λ copy. IsSame self.now copy) }

-- ---- Graph::add(&mut self, alloc: Global, op: Op, kids: &[NodeId]) -> Result<NodeId, GraphFault>
--        requires kids { AreNodes self.old kids.now }
--        requires closed { MayAdd self.old op }
--        ensures ok { IfOk result (λ n. Added self.old self.new op kids.now n) }
--        ensures few { IfOk result (λ n. n + 1 < 2 ^ 32) }
--        ensures sort { result ≡ Err GraphFault.Sort → FitsOver self.old op kids.now → ⊥ }
--        ensures err { OnErr result (IsSame self.old self.new) }

-- a theta is added to a sealed graph alone
abbrev pub MayAdd : Graph → Op → Type 0
MayAdd g o = g.is_open ≡ true → (d : ℕ) → o ≢ op.Theta d

-- the kids are of the number and the sorts that the operation takes
abbrev pub FitsOver : Graph → Op → List ℕ → Type 0
FitsOver g o kids = (s : OpSort) × HasSort g.sorts o kids s

-- the graph with a node of a sort after the others; the base of an open graph has all nodes
abbrev pub appended : Graph → Node → OpSort → Bool → Graph
appended g node s prepared =
    record { nodes = g.nodes ++ node ∷ []; sorts = g.sorts ++ s ∷ []; is_open = g.is_open; base = if g.is_open then length g.nodes + 1 else g.base; is_prepared = prepared }

-- the operation over the kids fits and has this number, which is its least; where it was new, it was added after the others
pub record Added (old new : Graph) (o : Op) (kids : List ℕ) (n : ℕ) : Type 0 where
  pub first : IsFirst new.nodes (node_of o kids) n
  pub fits : FitsOver old o kids
  pub grows : IsSame old new ⊎ (IsAbsent old.nodes (node_of o kids) × (new ≡ appended old (node_of o kids) fits.0 new.is_prepared))
  pub graph : IsGraph new

-- ---- Graph::theta(&mut self, alloc: Global, d: u32, sort: OpSort) -> Result<NodeId, Memory>
--        requires open { self.old.is_open ≡ true }
--        requires depth { IsTrue (is_depth d) }
--        requires sort { sort ≢ R }
--        ensures ok { IfOk result (λ n. Begun self.old self.new d sort n) }
--        ensures err { OnErr result (IsSame self.old self.new) }

-- a theta without kids was added after the others, whether there is one or not
pub record Begun (old new : Graph) (d : ℕ) (s : OpSort) (n : ℕ) : Type 0 where
  pub number : n ≡ length old.nodes
  pub grows : new ≡ appended old (node_of (op.Theta d) []) s new.is_prepared
  pub graph : IsGraph new

-- ---- Graph::tie(&mut self, alloc: Global, n: NodeId, first: NodeId, second: NodeId) -> Result<(), GraphFault>
--        requires open { IsOpenTheta self.old n }
--        requires kids { AreNodes self.old (first ∷ second ∷ []) }
--        ensures ok { OnOk result (Tied self.old self.new n first second) }
--        ensures sort { result ≡ Err GraphFault.Sort → HaveItsSort self.old n first second → ⊥ }
--        ensures err { OnErr result (IsSame self.old self.new) }

-- node n is a theta that is not tied
abbrev pub IsOpenTheta : Graph → ℕ → Type 0
IsOpenTheta g n = (d : ℕ) × (slice_get g.nodes n ≡ Some (node_of (op.Theta d) []))

-- two nodes have the sort of node n
abbrev pub HaveOneSort : List OpSort → ℕ → ℕ → ℕ → Type 0
HaveOneSort sorts n first second = (slice_get sorts first ≡ slice_get sorts n) × (slice_get sorts second ≡ slice_get sorts n)

-- both kids have the sort of node n
abbrev pub HaveItsSort : Graph → ℕ → ℕ → ℕ → Type 0
HaveItsSort g n first second = HaveOneSort g.sorts n first second

-- the theta has its kids, and all else is as it was
pub record Tied (old new : Graph) (n first second : ℕ) : Type 0 where
  pub theta_ : IsOpenTheta old n
  pub fits : HaveItsSort old n first second
  pub tied : new ≡ record old { nodes = slice_set old.nodes n (node_of (op.Theta theta_.0) (first ∷ second ∷ [])); is_prepared = new.is_prepared }
  pub graph : IsGraph new

-- ---- Graph::seal(&mut self) -> bool
--        requires { self.old.is_open ≡ true }
--        ensures yes { OnTrue result (IsFinished self.old × Sealed self.old self.new) }
--        ensures no { OnFalse result ((IsFinished self.old → ⊥) × IsSame self.old self.new) }

-- no theta is left without kids
abbrev pub IsFinished : Graph → Type 0
IsFinished g = (n : ℕ) → IsOpenTheta g n → ⊥

pub record Sealed (old new : Graph) : Type 0 where
  pub sealed : new ≡ record old { is_open = false; is_prepared = new.is_prepared }
  pub graph : IsGraph new

-- ---- Graph::of_base(alloc: Global, nodes: Vec<Node>) -> Result<Graph, GraphFault>
--        requires distinct { IsDistinct nodes.items }
--        requires cycles { LeavesNoSortOpen nodes.items }
--        ensures ok { IfOk result (λ g. IsBase g nodes.items) }
--        ensures sort { result ≡ Err GraphFault.Sort → (sorts : List OpSort) → AreSorts nodes.items sorts → ⊥ }

-- no two nodes have one operation and the same kids
abbrev pub IsDistinct : List Node → Type 0
IsDistinct nodes = (a b : ℕ) (node : Node) → slice_get nodes a ≡ Some node → slice_get nodes b ≡ Some node → a ≡ b

-- each cycle takes the second kid of some theta
abbrev pub LeavesNoSortOpen : List Node → Type 0
LeavesNoSortOpen nodes = (n : ℕ) (m : Move) (ms : List Move) → Walk (form_at nodes) n (m ∷ ms) n → (d : ℕ) × In (m ∷ ms) (down d)

-- a sort for each node, that its operation gives over the sorts of its kids
pub record AreSorts (nodes : List Node) (sorts : List OpSort) : Type 0 where
  pub long : length sorts ≡ length nodes
  pub each : (n : ℕ) (node : Node) (s : OpSort) → slice_get nodes n ≡ Some node → slice_get sorts n ≡ Some s → HasSort sorts node.op node.kids s

-- the sealed graph whose base is this list
pub record IsBase (g : Graph) (nodes : List Node) : Type 0 where
  pub nodes_ : g.nodes ≡ nodes
  pub sealed : g.is_open ≡ false
  pub base : g.base ≡ length nodes
  pub graph : IsGraph g

-- ---- Graph::free_marks(&self, alloc: Global, d: u32) -> Result<Vec<bool>, Memory>
--        ensures { IfOk result (λ marks. AreFreeMarks self.now d marks.items) }
--      Graph::settled_marks(&self, alloc: Global, assumed: &[NodeId]) -> Result<Vec<bool>, Memory>
--        ensures { IfOk result (λ marks. AreSettledMarks self.now assumed.now marks.items) }
--      Graph::free(&self, alloc: Global, n: NodeId, d: u32) -> Result<bool, Memory>
--        requires { n < length self.now.nodes }
--        ensures { IfOk result (λ yes. IsTrue yes ↔ IsFree self.now d n) }
--      Graph::meets_variable(&self, alloc: Global, n: NodeId, d: u32) -> Result<bool, Memory>
--        requires { n < length self.now.nodes }
--        ensures { IfOk result (λ yes. IsTrue yes ↔ MeetsVariable (form_at self.now.nodes) d n) }
--      Graph::settled(&self, alloc: Global, n: NodeId, assumed: &[NodeId]) -> Result<bool, Memory>
--        requires { n < length self.now.nodes }
--        ensures { IfOk result (λ yes. IsTrue yes ↔ IsSettledIn self.now assumed.now n) }
--      Graph::free_growing(&mut self, alloc: Global, n: NodeId, d: u32) -> Result<bool, Memory>
--        requires there { n < length self.old.nodes }
--        requires depth { IsTrue (is_depth d) }
--        ensures yes { IfOk result (λ yes. IsTrue yes ↔ IsFree self.old d n) }
--        ensures same { self.new ≡ self.old }
--      Graph::prepare(&mut self, alloc: Global) -> Result<(), Memory>
--        ensures ok { OnOk result (self.new ≡ record self.old { is_prepared = true }) }
--        ensures err { OnErr result (IsSame self.old self.new) }
--      Graph::free_now(&self, n: NodeId, d: u32) -> bool
--        requires prepared { self.now.is_prepared ≡ true }
--        requires there { n < length self.now.nodes }
--        ensures { IsTrue result ↔ IsFree self.now d n }
--      Graph::settled_now(&self, n: NodeId) -> bool
--        requires prepared { self.now.is_prepared ≡ true }
--        requires there { n < length self.now.nodes }
--        ensures { IsTrue result ↔ IsSettledIn self.now [] n }

abbrev pub IsFree : Graph → ℕ → ℕ → Type 0
IsFree g d n = Free (form_at g.nodes) d n

abbrev pub IsSettledIn : Graph → List ℕ → ℕ → Type 0
IsSettledIn g assumed n = IsSettled (form_at g.nodes) assumed n

-- a mark for each node, which says whether this is so of it
pub record AreMarksOf (g : Graph) (P : ℕ → Type 0) (marks : List Bool) : Type 0 where
  pub long : length marks ≡ length g.nodes
  pub says : (n : ℕ) (b : Bool) → slice_get marks n ≡ Some b → IsTrue b ↔ P n

abbrev pub AreFreeMarks : Graph → ℕ → List Bool → Type 0
AreFreeMarks g d marks = AreMarksOf g (IsFree g d) marks

abbrev pub AreSettledMarks : Graph → List ℕ → List Bool → Type 0
AreSettledMarks g assumed marks = AreMarksOf g (IsSettledIn g assumed) marks
