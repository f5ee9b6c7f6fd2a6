-- What joins and blocks rest on, where a graph grows.
use Rattle.std.specs.Prelude.{ℕ, List}
use Rattle.pv_graph.specs.Graphs.{Graph, IsGraph, Extends}
use Rattle.pv_classes.specs.declared.join.Join.{Join}
use Rattle.pv_classes.specs.Blocks.{Block}
use Rattle.pv_classes.specs.Grounds.{Context, JoinsGround, BlockGround}
use Rattle.pv_explain.specs.Sections.{IsGiven}

-- these joins have their grounds by what is given in the graph, inside open inductions, after other joins, with blocks that they may name
abbrev pub HaveGrounds : Graph → List ℕ → Context → List Join → List Block → List Join → Type 0
HaveGrounds g assumed ctx before blocks joins = JoinsGround g.nodes (IsGiven g assumed) ctx before blocks joins

-- so has the block of an induction
abbrev pub HasGround : Graph → List ℕ → Context → List Join → Block → Type 0
HasGround g assumed ctx before b = BlockGround g.nodes (IsGiven g assumed) ctx before b

-- what is given in a graph is given in each that grew from it
abbrev pub GivenStays : Type 0
GivenStays = (old new : Graph) (assumed : List ℕ) → IsGraph old → Extends old new → (n : ℕ) (nodes : List ℕ) (a b : ℕ)
    → IsGiven old assumed n nodes a b → IsGiven new assumed n nodes a b

-- joins that have their grounds in a graph have them in each that grew from it
abbrev pub GroundsStay : Type 0
GroundsStay = (old new : Graph) (assumed : List ℕ) → IsGraph old → Extends old new → (ctx : Context) (before : List Join) (blocks : List Block) (joins : List Join)
    → HaveGrounds old assumed ctx before blocks joins → HaveGrounds new assumed ctx before blocks joins

-- and so do blocks
abbrev pub BlockStays : Type 0
BlockStays = (old new : Graph) (assumed : List ℕ) → IsGraph old → Extends old new → (ctx : Context) (before : List Join) (b : Block)
    → HasGround old assumed ctx before b → HasGround new assumed ctx before b
