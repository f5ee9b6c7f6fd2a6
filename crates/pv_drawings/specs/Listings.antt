-- The listing of a graph with two roots.
use Rattle.std.specs.Prelude.{ℕ, List, [], ◌∷◌, ◌++◌, map, codes, decimal}
use Rattle.std.specs.List.{enumerate_from}
use Rattle.pv_graph.specs.declared.node.Node.{Node}
use Rattle.pv_format.specs.Splits.{join, text_of}
use Rattle.pv_cert.specs.StepLines.{node_words}

-- a node with its number: the words that the `node` step of a certificate has for it after the first, N OP KIDS
abbrev pub node_line : ℕ × Node → List ℕ
node_line p = join 32 (node_words.spells (p.0, (p.1.op, p.1.kids)))

-- both roots
abbrev pub roots_line : ℕ → ℕ → List ℕ
roots_line first second = join 32 (codes "roots" ∷ decimal first ∷ decimal second ∷ [])

-- a line for each node, in the order of their numbers, and then the roots
abbrev pub listing_of : List Node → ℕ → ℕ → List ℕ
listing_of nodes first second = text_of (map node_line (enumerate_from 0 nodes) ++ roots_line first second ∷ [])
