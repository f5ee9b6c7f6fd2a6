-- The levels of a search: the outside of all inductions, and the inside of each.
use Rattle.std.specs.Prelude.{◌≡◌, ℕ, ◌<◌, List, [], ◌∷◌, ◌++◌, length, Some, slice_get}
use Rattle.std.specs.List.{Contains}
use Rattle.pv_graph.specs.Walks.{In}
use Rattle.pv_graph.specs.Graphs.{Graph}
use Rattle.pv_graph.specs.declared.node.OpSort.{OpSort}
use Rattle.pv_steps.specs.declared.step.Fact.{Fact}
use Rattle.pv_steps.specs.Steps.{blocks, assumed_in}
use Rattle.pv_steps.specs.Right.{IsFresh}
use Rattle.pv_classes.specs.declared.join.Join.{Join}
use Rattle.pv_classes.specs.Blocks.{Block}
use Rattle.pv_classes.specs.Grounds.{Context, depths, JoinGround, JoinsGround}
use Rattle.pv_classes.specs.Sorts.{JoinOneSort, PairOneSort}
use Rattle.pv_writer.specs.Written.{Written, inside, IsFact}
use Rattle.pv_explain.specs.declared.source.Source.{Source}
use Rattle.pv_explain.specs.declared.follow.Line.{Line}
use Rattle.pv_explain.specs.declared.level.Level.{Level}
use Rattle.pv_explain.specs.Sections.{IsGiven}
use Rattle.pv_explain.specs.Lines.{IsSource, IsLevel, AreStated, sides}
use Rattle.pv_explain.specs.Named.{OfCited, IsReady, AreReady}

-- the line is one of these, of a and b
pub record IsFound (lines : List Line) (a b : ℕ) (l : Line) : Type 0 where
  pub place : ℕ
  pub there : slice_get lines place ≡ Some l
  pub first : l.first ≡ a
  pub second : l.second ≡ b

-- the two nodes of each line are among the first n
abbrev pub AreLow : ℕ → List Line → Type 0
AreLow n lines = (l : Line) → Contains lines l → (l.first < n) × (l.second < n)

-- each of these pairs has a line
abbrev pub HaveLines : List (ℕ × ℕ) → List Line → Type 0
HaveLines pairs lines = (a b : ℕ) → Contains pairs (a, b) → (l : Line) × IsFound lines a b l

-- the two nodes of each join
abbrev pub ends_of : List Join → List (ℕ × ℕ)
ends_of [] = []
ends_of (j ∷ joins) = (j.first, j.second) ∷ ends_of joins

-- the pairs of the innermost induction
abbrev pub innermost : Context → List (ℕ × ℕ)
innermost [] = []
innermost (c ∷ ctx) = c.1

-- the pairs of each open induction are of nodes of one sort
abbrev pub PairsOneSort : List OpSort → Context → Type 0
PairsOneSort sorts [] = Unit {0}
PairsOneSort sorts (c ∷ ctx) = PairOneSort sorts c.1 × PairsOneSort sorts ctx

-- where joins are explained: the level's lines are those of the joins so far, and the pairs of the innermost induction are known; the open
-- blocks have no depth but those of the open inductions, and assume these nodes to end
pub record IsPlace (w : Written) (s : Source) (level : Level) (assumed : List ℕ) (ctx : Context) (before : List Join) : Type 0 where
  pub source : IsSource w s
  pub lines : IsLevel w s level
  pub ends : sides level.lines.items ≡ ends_of before
  pub known : AreStated w s.map.now level.known.items
  pub pairs : HaveLines (innermost ctx) level.known.items
  pub open_ : (d : ℕ) → (Contains (depths ctx) d → ⊥) → IsFresh d (blocks (inside w))
  pub assumes : assumed_in (inside w) ≡ assumed
  pub low : (e : ℕ) → In assumed e → e < s.graph.now.base
  pub one_sort : JoinOneSort s.graph.now.sorts before
  pub pairs_sort : PairsOneSort s.graph.now.sorts ctx

-- no induction is open, and the nodes that are assumed to end lie in the graph's base
pub record IsOutside (w : Written) (g : Graph) : Type 0 where
  pub fresh : (d : ℕ) → IsFresh d (blocks (inside w))
  pub low : (e : ℕ) → In (assumed_in (inside w)) e → e < g.base

-- the join has its ground at such a place, and what it names has copies
pub record JoinStands (w : Written) (s : Source) (level : Level) (blocks_ : List Block) (j : Join) : Type 0 where
  pub assumed : List ℕ
  pub ctx : Context
  pub before : List Join
  pub place : IsPlace w s level assumed ctx before
  pub ground : JoinGround s.graph.now.nodes (IsGiven s.graph.now assumed) ctx before blocks_ j
  pub named : OfCited (IsReady s) blocks_ j

-- each of these joins has its ground at such a place, after those before it, and what it names has copies
pub record JoinsStand (w : Written) (s : Source) (level : Level) (blocks_ : List Block) (joins : List Join) : Type 0 where
  pub assumed : List ℕ
  pub ctx : Context
  pub before : List Join
  pub place : IsPlace w s level assumed ctx before
  pub grounds : JoinsGround s.graph.now.nodes (IsGiven s.graph.now assumed) ctx before blocks_ joins
  pub named : AreReady s blocks_ joins

-- more is known at the level, and its lines stay
pub record LearnsAt (w : Written) (s : Source) (old new : Level) : Type 0 where
  pub forest_ : new.forest ≡ old.forest
  pub lines : new.lines.items ≡ old.lines.items
  pub more : List Line
  pub known_ : new.known.items ≡ old.known.items ++ more
  pub stated : AreStated w s.map.now new.known.items

-- the level has lines of these joins too, and more is known
pub record GrowsAt (w : Written) (s : Source) (old new : Level) (joins : List Join) : Type 0 where
  pub lines : IsLevel w s new
  pub ends : sides new.lines.items ≡ sides old.lines.items ++ ends_of joins
  pub more : List Line
  pub known_ : new.known.items ≡ old.known.items ++ more
  pub stated : AreStated w s.map.now new.known.items

-- the level has the lines of exactly these joins
pub record HasAll (w : Written) (s : Source) (level : Level) (joins : List Join) : Type 0 where
  pub lines : IsLevel w s level
  pub ends : sides level.lines.items ≡ ends_of joins

-- the last step states a = b, visible
pub record HasLast (w : Written) (a b : ℕ) : Type 0 where
  pub fact : Fact
  pub last : fact.step ≡ length w.before
  pub shows : IsFact w fact a b
