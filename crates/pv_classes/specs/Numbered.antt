-- The nodes whose operation has a number.
use Rattle.std.specs.Prelude.{ℕ, suc, List, [], ◌∷◌, if◌then◌else◌, ◌==◌}
use Rattle.pv_graph.specs.declared.node.Node.{Node}
use Rattle.pv_pattern.specs.Numbers.{op_number}

-- of the nodes of a list, whose first is node n, those whose operation has this number, ascending
abbrev pub nodes_from : ℕ → ℕ → List Node → List ℕ
nodes_from number n [] = []
nodes_from number n (node ∷ nodes) = if op_number node.op == number then n ∷ nodes_from number (suc n) nodes else nodes_from number (suc n) nodes

abbrev pub nodes_with : ℕ → List Node → List ℕ
nodes_with number nodes = nodes_from number 0 nodes
