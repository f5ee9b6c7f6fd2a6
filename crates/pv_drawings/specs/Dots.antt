-- The Graphviz text of a graph with two roots, in its language DOT (https://graphviz.org/doc/info/lang.html).
use Rattle.std.specs.Prelude.{ℕ, suc, ◌==◌, if◌then◌else◌, List, [], ◌∷◌, ◌++◌, map, codes, decimal}
use Rattle.std.specs.List.{enumerate_from, flat_map}
use Rattle.pv_graph.specs.declared.node.Op.{Op}
use Rattle.pv_graph.specs.declared.node.Node.{Node}
use Rattle.pv_format.specs.Splits.{text_of}
use Rattle.pv_token.specs.Words.{spaced}
use Rattle.pv_cert.specs.Operations.{op_words}

-- a byte as it stands in a label, between quotes: what would end it, or stand for another byte, is escaped, so " (34), \ (92) and & (38)
abbrev pub label_byte : ℕ → List ℕ
label_byte b = if b == 34 then 92 ∷ 34 ∷ [] else if b == 92 then 92 ∷ 92 ∷ [] else if b == 38 then codes "&amp;" else b ∷ []

abbrev pub label_of : List ℕ → List ℕ
label_of text = flat_map label_byte text

-- a node, whose label has its number and the words of its operation
abbrev pub vertex_line : ℕ → Op → List ℕ
vertex_line n o = decimal n ++ (codes " [label=" ++ 34 ∷ (decimal n ++ (label_of (spaced (op_words o)) ++ 34 ∷ codes "]")))

-- an edge from node n to one of its kids, whose place is counted from 1 in the label
abbrev pub edge_line : ℕ → ℕ × ℕ → List ℕ
edge_line n p = decimal n ++ (codes " -> " ++ (decimal p.1 ++ (codes " [label=" ++ (decimal (suc p.0) ++ codes "]"))))

abbrev pub edge_lines : ℕ → List ℕ → List (List ℕ)
edge_lines n kids = map (edge_line n) (enumerate_from 0 kids)

-- a node with its number: the node, and an edge to each kid
abbrev pub node_lines : ℕ × Node → List (List ℕ)
node_lines p = vertex_line p.0 p.1.op ∷ edge_lines p.0 p.1.kids

-- a root: its name without a frame, and an edge to it
abbrev pub root_lines : List ℕ → ℕ → List (List ℕ)
root_lines name root = (name ++ codes " [shape=plaintext]") ∷ (name ++ (codes " -> " ++ decimal root)) ∷ []

-- the roots, and the nodes in the order of their numbers; the edges of a node are drawn from left to right in their order
abbrev pub dot_of : List Node → ℕ → ℕ → List ℕ
dot_of nodes first second =
    text_of
    (codes "digraph {"
    ∷ codes "ordering=out"
    ∷ (root_lines (codes "first") first ++ (root_lines (codes "second") second ++ (flat_map node_lines (enumerate_from 0 nodes) ++ codes "}" ∷ []))))
