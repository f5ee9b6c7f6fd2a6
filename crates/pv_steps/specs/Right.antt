-- When a step is right, over the graph that the steps before it made, and by what they state.
use Rattle.std.specs.Prelude.{◌≡◌, ◌≢◌, ℕ, ◌+◌, ◌<◌, ◌^◌, false, true, List, [], ◌∷◌, length, Option, Some, None, slice_get, ⊤}
use Rattle.std.specs.List.{AllZip}
use Rattle.pv_graph.specs.declared.node.Op.{Op}
use Rattle.pv_graph.specs.declared.node.Op.TheVariants as op
use Rattle.pv_graph.specs.declared.node.OpSort.{OpSort}
use Rattle.pv_graph.specs.Ops.{Shape, theta, eval, pass, shift, shape, is_depth, is_variable}
use Rattle.pv_graph.specs.Walks.{In, IsClosed, Spine}
use Rattle.pv_graph.specs.Graphs.{Graph, form_at, IsRanged}
use Rattle.pv_graph.specs.Nodes.{node_of, IsAbsent}
use Rattle.pv_graph.specs.Calls.{AreNodes, FitsOver, appended}
use Rattle.pv_steps.specs.Steps.{Fact, Reason, Same, By, Pair, Congruence, Step, Node, Axiom, Use, Flip, Chain, Set, Open, Close, Assume, Finish, Block, Loop, Ending, OpenBlock, blocks, assumed_in, both_sides, open_after, numbered, Equality, equality_at, Shows}

-- node n is this operation over these kids
abbrev pub Is : Graph → ℕ → Op → List ℕ → Type 0
Is g n o kids = slice_get g.nodes n ≡ Some (node_of o kids)

-- the two nodes have one sort
abbrev pub AreOfOneSort : Graph → ℕ × ℕ → Type 0
AreOfOneSort g p = (s : OpSort) × (slice_get g.sorts p.0 ≡ Some s) × (slice_get g.sorts p.1 ≡ Some s)

-- no block has this depth
abbrev pub IsFresh : ℕ → List Block → Type 0
IsFresh d [] = ⊤
IsFresh d (Loop e pairs ∷ bs) = (d ≢ e) × IsFresh d bs
IsFresh d (Ending p nodes ∷ bs) = IsFresh d bs

-- the depth at whose other iterations an operation looks at its kids
abbrev pub looks_at : Shape → Option ℕ
looks_at (theta d) = Some d
looks_at (eval d) = Some d
looks_at (pass d) = Some d
looks_at (shift d) = Some d
looks_at s = None

-- ---- the graph grows

-- the node is new and no variable, it has the next number, its kids are smaller, and their sorts fit; its number stays in
-- the range of numbers of nodes, and its constant in that of its sort
pub record AddsNode (old : Graph) (n : ℕ) (o : Op) (kids : List ℕ) (new : Graph) : Type 0 where
  pub number : n ≡ length old.nodes
  pub room : n + 1 < 2 ^ 32
  pub smaller : AreNodes old kids
  pub fits : FitsOver old o kids
  pub ranged : IsRanged o
  pub plain_ : is_variable o ≡ false
  pub absent : IsAbsent old.nodes (node_of o kids)
  pub grown : new ≡ appended old (node_of o kids) fits.0 false

-- a node step adds its node, and no other step changes the graph
abbrev pub Grows : Step → Graph → Graph → Type 0
Grows (Node n o kids) old new = AddsNode old n o kids new
Grows s old new = new ≡ old

-- the graph after these steps, of which the last comes first; after a node step that isn't right there is none
abbrev pub GraphAfter : Graph → List Step → Graph → Type 0
GraphAfter g [] now = now ≡ g
GraphAfter g (s ∷ before) now = (old : Graph) × GraphAfter g before old × Grows s old now

-- ---- reasons

-- the reason says that a and b are equal
abbrev pub Gives : List Step → List OpenBlock → List (ℕ × ℕ) → Reason → ℕ → ℕ → Type 0
Gives before inside pairs Same a b = a ≡ b
Gives before inside pairs (By f) a b = Shows before inside f a b
Gives before inside pairs (Pair j) a b = numbered pairs j ≡ Some (a, b)

-- one reason for each kid
abbrev pub GiveAll : List Step → List OpenBlock → List (ℕ × ℕ) → List Reason → List ℕ → List ℕ → Type 0
GiveAll before inside pairs [] [] [] = ⊤
GiveAll before inside pairs (r ∷ rs) (k ∷ ks) (l ∷ ls) = Gives before inside pairs r k l × GiveAll before inside pairs rs ks ls
GiveAll before inside pairs rs ks ls = ⊥

-- the reason isn't a fact that is stated inside a block of this depth
abbrev pub IsOutside : List Step → ℕ → Reason → Type 0
IsOutside before d (By f) = (e : Equality) → equality_at before f ≡ Some e → IsFresh d (blocks e.around)
IsOutside before d r = ⊤

-- no reason of the step is a fact inside a block of this depth
abbrev pub AreOutside : List Step → List Congruence → ℕ → Type 0
AreOutside before cs d = (c : Congruence) → In cs c → (r : Reason) → In c.reasons r → IsOutside before d r

-- ---- the steps

-- two nodes of one operation with one set of parameters, and equal kids; an operation that looks at other iterations
-- of a loop takes no reason from inside a block of that loop
pub record RightCongruence (g : Graph) (before : List Step) (inside : List OpenBlock) (cs : List Congruence) (c : Congruence) : Type 0 where
  pub o : Op
  pub lefts : List ℕ
  pub rights : List ℕ
  pub left : Is g c.left o lefts
  pub right : Is g c.right o rights
  pub kids : GiveAll before inside (both_sides cs) c.reasons lefts rights
  pub depth : (d : ℕ) → looks_at (shape o) ≡ Some d → AreOutside before cs d

-- the two are equal at iteration 0, by a fact outside the block, and one iteration later, by any visible fact
pub record ClosesPair (g : Graph) (before : List Step) (d : ℕ) (inside outer : List OpenBlock) (p : ℕ × ℕ) (f : Fact × Fact) : Type 0 where
  pub zero_ : ℕ
  pub first_left : ℕ
  pub first_right : ℕ
  pub next_left : ℕ
  pub next_right : ℕ
  pub is_zero : Is g zero_ op.Zero []
  pub is_first_left : Is g first_left (op.Eval d) (p.0 ∷ zero_ ∷ [])
  pub is_first_right : Is g first_right (op.Eval d) (p.1 ∷ zero_ ∷ [])
  pub is_next_left : Is g next_left (op.Shift d) (p.0 ∷ [])
  pub is_next_right : Is g next_right (op.Shift d) (p.1 ∷ [])
  pub starts : Shows before outer f.0 first_left first_right
  pub goes_on : Shows before inside f.1 next_left next_right

-- the innermost block is an induction at this depth, and each of its pairs is shown
pub record RightClose (g : Graph) (before : List Step) (d : ℕ) (fs : List (Fact × Fact)) : Type 0 where
  pub opened : ℕ
  pub pairs : List (ℕ × ℕ)
  pub outer : List OpenBlock
  pub innermost : open_after before ≡ record { opened = opened; block = Loop d pairs } ∷ outer
  pub each : AllZip (ClosesPair g before d (open_after before) outer) pairs fs

-- an operation over kids that may have no value where the kids have one
abbrev pub IsPassOrCallEnd : Op → Type 0
IsPassOrCallEnd (op.Pass d) = ⊤
IsPassOrCallEnd (op.CallEnd s) = ⊤
IsPassOrCallEnd o = ⊥

-- a closed pass or callend on the spine of the token
pub record MayBeAssumed (g : Graph) (token n : ℕ) : Type 0 where
  pub o : Op
  pub kids : List ℕ
  pub is : Is g n o kids
  pub waits : IsPassOrCallEnd o
  pub closed : IsClosed (form_at g.nodes) n
  pub spine : Spine (form_at g.nodes) token n

-- node p is a root over these kids
pub record RootKids (g : Graph) (p : ℕ) : Type 0 where
  pub token : ℕ
  pub fault_ : ℕ
  pub result : ℕ
  pub heap : ℕ
  pub is : Is g p op.Root (token ∷ fault_ ∷ result ∷ heap ∷ [])

pub record RightAssume (g : Graph) (before : List Step) (p : ℕ) (nodes : List ℕ) : Type 0 where
  pub outside : open_after before ≡ []
  pub root : RootKids g p
  pub each : (n : ℕ) → In nodes n → MayBeAssumed g root.token n

-- the innermost block is one for p, and the kids of p and q are equal, the tokens by a reason outside the block
pub record RightFinish (g : Graph) (before : List Step) (p q : ℕ) (t f r h : Reason) : Type 0 where
  pub opened : ℕ
  pub nodes : List ℕ
  pub outer : List OpenBlock
  pub innermost : open_after before ≡ record { opened = opened; block = Ending p nodes } ∷ outer
  pub left : RootKids g p
  pub right : RootKids g q
  pub tokens : Gives before outer [] t left.token right.token
  pub faults : Gives before (open_after before) [] f left.fault_ right.fault_
  pub results : Gives before (open_after before) [] r left.result right.result
  pub heaps : Gives before (open_after before) [] h left.heap right.heap

-- by what two nodes are equal without facts: the axiom, or the lemma, with a number
pub data Rule : Type 0 where
  by_axiom : ℕ → Rule
  by_lemma : ℕ → Rule

-- the rules: over a graph, with some nodes assumed to end, the rule has the left side a and the right side b where these
-- nodes stand for its variables, and its conditions hold
abbrev pub Instances : Type 1
Instances = Graph → List ℕ → Rule → List ℕ → ℕ → ℕ → Type 0

-- a step is right over the graph that the steps before it made
abbrev pub RightOver : Instances → Graph → List Step → Step → Type 0
RightOver Instance g before (Node n o kids) = (new : Graph) × AddsNode g n o kids new
RightOver Instance g before (Axiom n a b nodes) = Instance g (assumed_in (open_after before)) (by_axiom n) nodes a b
RightOver Instance g before (Use n a b nodes) = Instance g (assumed_in (open_after before)) (by_lemma n) nodes a b
RightOver Instance g before (Flip a b f) = Shows before (open_after before) f b a
RightOver Instance g before (Chain a b f h) = (c : ℕ) × Shows before (open_after before) f a c × Shows before (open_after before) h c b
RightOver Instance g before (Set cs) = (c : Congruence) → In cs c → RightCongruence g before (open_after before) cs c
RightOver Instance g before (Open d pairs) =
    (is_depth d ≡ true) × IsFresh d (blocks (open_after before)) × ((p : ℕ × ℕ) → In pairs p → AreOfOneSort g p)
RightOver Instance g before (Close d fs) = RightClose g before d fs
RightOver Instance g before (Assume p nodes) = RightAssume g before p nodes
RightOver Instance g before (Finish p q t f r h) = RightFinish g before p q t f r h

-- a step is right after these, of which the last comes first: they made a graph, and the step is right over it
abbrev pub Right : Instances → Graph → List Step → Step → Type 0
Right Instance g before s = (now : Graph) × GraphAfter g before now × RightOver Instance now before s
