-- What the joins of a search rest on, from round to round.
use Rattle.std.specs.Prelude.{ℕ, Bool, List, [], map}
use Rattle.pv_graph.specs.Graphs.{Graph, IsGraph}
use Rattle.pv_classes.specs.declared.join.Join.{Join}
use Rattle.pv_classes.specs.Blocks.{Block}
use Rattle.pv_classes.specs.Calls.{Classes, IsNew}
use Rattle.pv_induct.specs.Inducts.{Inducts}
use Rattle.pv_heights.specs.Sides.{Match}
use Rattle.pv_rounds.specs.declared.owed.Owed.{Owed}
use Rattle.pv_rounds.specs.Owed.{AddsAll}
use Rattle.pv_rounds.specs.Joining.{join_of}
use Rattle.pv_rounds.specs.Searching.{MakesRound}
use Rattle.pv_grounds.specs.Grounds.{HaveGrounds}

-- all joins of the classes have their grounds by what is given in the graph
abbrev pub AreGrounded : Graph → List ℕ → Classes → Type 0
AreGrounded g assumed c = HaveGrounds g assumed [] [] c.blocks c.joins

-- new classes are grounded: they have no joins
abbrev pub NewAreGrounded : Type 0
NewAreGrounded = (g : Graph) (assumed : List ℕ) (c : Classes) → IsNew g.nodes c → AreGrounded g assumed c

-- the joins that a round owes have their grounds in its new graph, after any other joins
abbrev pub OwedHaveGrounds : Type 0
OwedHaveGrounds = (seen old new : Graph) (numbers assumed : List ℕ) (ms : List (Match ℕ)) (owed : List Owed) → AddsAll seen old new numbers assumed ms owed
    → (before : List Join) (blocks : List Block) → HaveGrounds new assumed [] before blocks (map join_of owed)

-- after `induct` grounded classes are grounded
abbrev pub InductKeepsGrounds : Type 0
InductKeepsGrounds = (g : Graph) (assumed : List ℕ) (old new : Classes) (found : Bool) → Inducts g.nodes old new found → AreGrounded g assumed old → AreGrounded g assumed new

-- after a round classes that were grounded in the old graph are grounded in the new one
abbrev pub RoundKeepsGrounds : Type 0
RoundKeepsGrounds = (old new : Graph) (assumed : List ℕ) (begun closed : Classes) → IsGraph old → MakesRound old new assumed begun closed
    → AreGrounded old assumed begun → AreGrounded new assumed closed
