-- The loops of a forest by their places.
use Rattle.std.specs.Prelude.{ℕ, List, Option}
use Rattle.pv_loops.specs.declared.forest.Forest.{Forest}
use Rattle.pv_loops.specs.declared.forest.TheConstants.{MAX_DEPTH}
use Rattle.pv_loops.specs.Ranks.{headers_from}

-- the headers of the loop at a place and of the loops around it, the innermost first
abbrev pub up : Forest → Option ℕ → List ℕ
up forest at = headers_from MAX_DEPTH forest.loops.items at
