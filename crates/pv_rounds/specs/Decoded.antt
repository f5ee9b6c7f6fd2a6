-- Matches of a list, decoded.
use Rattle.std.specs.Prelude.{◌<◌, ◌^◌, List, length}
use Rattle.pv_graph.specs.Walks.{In}
use Rattle.pv_pattern.specs.Patterns.{Axiom}
use Rattle.pv_match.specs.declared.found.Match as found
use Rattle.pv_saturate.specs.Choice.{AreNames}
use Rattle.pv_saturate.specs.declared.decoding.Decoded.{Decoded}
use Rattle.pv_saturate.specs.Decoding.{ShowsMatch, decoded_seen}

-- it has the names of its left side, and fewer than 2^32 kids and variables
pub record IsReady (d : Decoded) : Type 0 where
  pub names_ : AreNames d.names.items (decoded_seen d)
  pub few_kids : length d.kids.now < 2 ^ 32
  pub few_vars : length d.vars.now < 2 ^ 32

abbrev pub AreReady : List Decoded → Type 0
AreReady ds = (d : Decoded) → In ds d → IsReady d

-- each of these shows a match of the table
abbrev pub AreShown : List Axiom → List found.Match → Type 0
AreShown table list = (x : found.Match) → In list x → ShowsMatch table x
