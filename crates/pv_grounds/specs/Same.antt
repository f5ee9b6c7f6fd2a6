-- What nodes that a search joined mean.
use Rattle.std.specs.Prelude.{ℕ, ◌<◌, List, length}
use Rattle.pv_value.specs.declared.world.World.{World}
use Rattle.pv_value.specs.declared.outcome.Input.{Input}
use Rattle.pv_value.specs.Worlds.{IsWorld}
use Rattle.pv_value.specs.Inputs.{IsInput}
use Rattle.pv_graph.specs.Graphs.{Graph, form_at}
use Rattle.pv_denote.specs.Denote.{Index, SameAt}
use Rattle.pv_steps.specs.Facts.{HaveValues}
use Rattle.pv_heights.specs.Searches.{OneClass}
use Rattle.pv_rounds.specs.declared.search.Search.{Search}
use Rattle.pv_rounds.specs.Searching.{IsSearch}
use Rattle.pv_grounds.specs.Rounds.{AreGrounded}

-- a and b have the same values in each world and for each input in which these nodes have values
abbrev pub AreSameWhere : Graph → List ℕ → ℕ → ℕ → Type 0
AreSameWhere g assumed a b = (w : World) (x : Input) → IsWorld w → IsInput x → HaveValues (form_at g.nodes) w x assumed → (i : Index) → SameAt (form_at g.nodes) w x i a b

-- all joins of a search have their grounds by what is given where the nodes that count as ending are assumed to end
abbrev pub IsGroundedSearch : Search → Type 0
IsGroundedSearch s = AreGrounded s.graph s.endings.items s.classes

-- nodes of the least graph that are in one class of such a search are the same where the nodes that count as ending have values
abbrev pub ClassesSame : Type 0
ClassesSame = (g : Graph) (k : ℕ) (s : Search) (a b : ℕ) → IsSearch g k s → IsGroundedSearch s → a < length g.nodes → b < length g.nodes
    → OneClass s.classes.numbers a b → AreSameWhere g s.endings.items a b
