-- Thetas at iteration 0, and one iteration later; and the pairs of an induction, as they are stated outside its block and inside.
use Rattle.std.specs.Prelude.{◌≡◌, ℕ, suc, true, List, [], ◌∷◌, length, Some, slice_get}
use Rattle.std.specs.List.{AllZip}
use Rattle.pv_graph.specs.declared.node.Op.TheVariants as op
use Rattle.pv_graph.specs.declared.node.OpSort.{OpSort}
use Rattle.pv_graph.specs.declared.node.OpSort.TheVariants as sort
use Rattle.pv_graph.specs.declared.node.Node.{Node}
use Rattle.pv_graph.specs.Ops.{is_depth, but_root}
use Rattle.pv_steps.specs.declared.step.Fact.{Fact}
use Rattle.pv_steps.specs.Steps.{Loop, OpenBlock, outer_of, Shows}
use Rattle.pv_classes.specs.Blocks.{Block}
use Rattle.pv_classes.specs.Closest.{Is}
use Rattle.pv_classes.specs.Grounds.{Context, BlockGround}
use Rattle.pv_classes.specs.declared.join.Join.{Join}
use Rattle.pv_writer.specs.Written.{Written, inside, IsAt, IsFact, IsLater}
use Rattle.pv_explain.specs.declared.source.Source.{Source}
use Rattle.pv_explain.specs.declared.follow.Equal.{Equal}
use Rattle.pv_explain.specs.declared.follow.Line.{Line}
use Rattle.pv_explain.specs.declared.level.Level.{Level}
use Rattle.pv_explain.specs.declared.iteration.Unrolled.{Unrolled}
use Rattle.pv_explain.specs.declared.induction.Begun.{Begun}
use Rattle.pv_explain.specs.Copies.{IsCopied, HasCopy}
use Rattle.pv_explain.specs.Sections.{IsGiven}
use Rattle.pv_explain.specs.Lines.{LinkedBy}
use Rattle.pv_explain.specs.Named.{OfBlock, IsReady}
use Rattle.pv_explain.specs.Levels.{IsPlace}

-- ---- one theta

-- the node has these two kids
abbrev pub AreKids : List Node → ℕ → ℕ → ℕ → Type 0
AreKids nodes n p q = (node : Node) → slice_get nodes n ≡ Some node → node.kids ≡ p ∷ q ∷ []

-- node n is a theta of depth d
abbrev pub IsTheta : List Node → ℕ → ℕ → Type 0
IsTheta nodes d n = (p : ℕ) × (q : ℕ) × Is nodes n (op.Theta d) (p ∷ q ∷ [])

-- node x of the certificate's graph is a theta of depth d over a and b; it and node a have one sort, which isn't a root's
pub record IsThetaAt (w : Written) (d x a b : ℕ) : Type 0 where
  pub is : IsAt w x (op.Theta d) (a ∷ b ∷ [])
  pub first_is : (node : Node) × (slice_get w.graph.nodes a ≡ Some node)
  pub depth : is_depth d ≡ true
  pub s : OpSort
  pub proper : but_root s ≡ Some s
  pub sort_ : slice_get w.graph.sorts x ≡ Some s
  pub first : slice_get w.graph.sorts a ≡ Some s

-- node z of the certificate's graph is the number 0 of an iteration
pub record IsZero (w : Written) (z : ℕ) : Type 0 where
  pub is : IsAt w z op.Zero []
  pub sort_ : slice_get w.graph.sorts z ≡ Some sort.N

-- x at iteration 0 is a at iteration 0
pub record IsStart (w : Written) (d z x a : ℕ) (e : Equal) : Type 0 where
  pub zero_ : IsAt w z op.Zero []
  pub left : IsAt w e.left (op.Eval d) (x ∷ z ∷ [])
  pub right : IsAt w e.right (op.Eval d) (a ∷ z ∷ [])
  pub known : IsFact w e.fact e.left e.right

-- x one iteration later is b
pub record IsNext (w : Written) (d x b : ℕ) (e : Equal) : Type 0 where
  pub left : IsAt w e.left (op.Shift d) (x ∷ [])
  pub right : e.right ≡ b
  pub known : IsFact w e.fact e.left e.right

-- the theta x, its kids and its copy, which is the copy of the first kid at iteration 0, and that of the second one iteration later
pub record IsUnrolled (w : Written) (s : Source) (d z x : ℕ) (u : Unrolled) : Type 0 where
  pub theta_ : u.theta ≡ x
  pub is : Is s.graph.now.nodes x (op.Theta d) (u.first ∷ u.second ∷ [])
  pub copy_ : IsCopied s.map.now x u.copy
  pub a : ℕ
  pub b : ℕ
  pub first : IsCopied s.map.now u.first a
  pub second : IsCopied s.map.now u.second b
  pub start_ : IsStart w d z u.copy a u.start
  pub next_ : IsNext w d u.copy b u.next

-- ---- the pairs of an induction

-- the two are thetas of depth d that have copies, and whose first kids the lines of the level link
pub record MayBegin (s : Source) (level : Level) (d : ℕ) (pair : ℕ × ℕ) : Type 0 where
  pub p : ℕ
  pub q : ℕ
  pub r : ℕ
  pub s_ : ℕ
  pub left : Is s.graph.now.nodes pair.0 (op.Theta d) (p ∷ q ∷ [])
  pub right : Is s.graph.now.nodes pair.1 (op.Theta d) (r ∷ s_ ∷ [])
  pub linked : LinkedBy (length s.graph.now.nodes) level p r
  pub left_copy : HasCopy s.map.now pair.0
  pub right_copy : HasCopy s.map.now pair.1

-- what is stated of the two outside the induction; a fact outside, in the blocks `outer`, states that their copies are equal at iteration 0
pub record IsBegun (w : Written) (outer : List OpenBlock) (s : Source) (d z : ℕ) (pair : ℕ × ℕ) (b : Begun) : Type 0 where
  pub left : IsUnrolled w s d z pair.0 b.left
  pub right : IsUnrolled w s d z pair.1 b.right
  pub start_ : Shows w.before outer b.start b.left.start.left b.right.start.left

-- .. of each pair
abbrev pub AreBegun : Written → List OpenBlock → Source → ℕ → List (ℕ × ℕ) → List Begun → Type 0
AreBegun w outer s d pairs begun = (z : ℕ) × AllZip (IsBegun w outer s d z) pairs begun

-- the copies of the two nodes of each pair
abbrev pub both_copies : List Begun → List (ℕ × ℕ)
both_copies [] = []
both_copies (b ∷ begun) = (b.left.copy, b.right.copy) ∷ both_copies begun

-- the copies of the two are their second kids' one iteration later, and the lines of the level link these kids
pub record MayGoOn (w : Written) (s : Source) (level : Level) (b : Begun) : Type 0 where
  pub left : IsCopied s.map.now b.left.second b.left.next.right
  pub right : IsCopied s.map.now b.right.second b.right.next.right
  pub left_known : IsFact w b.left.next.fact b.left.next.left b.left.next.right
  pub right_known : IsFact w b.right.next.fact b.right.next.left b.right.next.right
  pub linked : LinkedBy (length s.graph.now.nodes) level b.left.second b.right.second

-- the pair's fact for iteration 0, and one that states that the copies are equal one iteration later
abbrev pub GoOn : Written → Begun → Fact × Fact → Type 0
GoOn w b f = (f.0 ≡ b.start) × IsFact w f.1 b.left.next.left b.right.next.left

-- the line of a pair, with its fact
abbrev pub line_of : Begun → Fact → Line
line_of b fact = record { first = b.left.theta; second = b.right.theta; left = b.left.copy; right = b.right.copy; fact = fact }

-- the lines of the pairs, in order, which are stated by one step
pub record AreLinesOf (step : ℕ) (begun : List Begun) (lines : List Line) : Type 0 where
  pub long : length lines ≡ length begun
  pub each : (i : ℕ) (l : Line) → slice_get lines i ≡ Some l → (b : Begun) × (slice_get begun i ≡ Some b) × (l ≡ line_of b (record { step = step; place = suc i }))

-- ---- the block of an induction

-- the block has its ground at such a place, and what it names has copies
pub record BlockStands (w : Written) (s : Source) (level : Level) (b : Block) : Type 0 where
  pub assumed : List ℕ
  pub ctx : Context
  pub before : List Join
  pub place : IsPlace w s level assumed ctx before
  pub ground : BlockGround s.graph.now.nodes (IsGiven s.graph.now assumed) ctx before b
  pub named : OfBlock (IsReady s) b

-- an induction at depth d over the copies of these pairs was opened
pub record Opens (old new : Written) (d : ℕ) (begun : List Begun) : Type 0 where
  pub later : IsLater old new
  pub opened : ℕ
  pub blocks_ : inside new ≡ record { opened = opened; block = Loop d (both_copies begun) } ∷ inside old

-- it is the innermost open block
abbrev pub IsInside : Written → ℕ → List Begun → Type 0
IsInside w d begun = (opened : ℕ) × (inside w ≡ record { opened = opened; block = Loop d (both_copies begun) } ∷ outer_of (inside w))

-- the innermost block was ended
pub record Ends (old new : Written) : Type 0 where
  pub later : IsLater old new
  pub blocks_ : inside new ≡ outer_of (inside old)
