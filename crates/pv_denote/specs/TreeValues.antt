-- What finite trees mean: the trees are the nodes of one graph, in which the kids of a tree are those under its operation.
use Rattle.std.specs.Prelude.{List, [], ◌∷◌, Option, Some, None}
use Rattle.pv_value.specs.declared.world.World.{World}
use Rattle.pv_value.specs.declared.outcome.Input.{Input}
use Rattle.pv_value.specs.declared.outcome.Val.{Val}
use Rattle.pv_graph.specs.Forms.{Form, form}
use Rattle.pv_graph.specs.Unfold.{Tree, Trees, cut, over, none, first}
use Rattle.pv_denote.specs.Denote.{Index, Value}

abbrev pub list_of : Trees → List Tree
list_of none = []
list_of (first t ts) = t ∷ list_of ts

-- the operation at the top, and the trees under it
abbrev pub top_of : Tree → Option (Form Tree)
top_of cut = None
top_of (over o ts) = Some (form o (list_of ts))

-- the value of a tree in a world, at an input and an iteration of each loop
abbrev pub TreeValue : World → Input → Tree → Index → Val → Type 0
TreeValue w x t i v = Value top_of w x t i v
