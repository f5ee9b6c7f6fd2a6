-- The three classes of a chain, and how lines call them.
use Rattle.std.specs.Prelude.{ℕ, List, codes}
use Rattle.pv_links.specs.declared.stage.Stage.{Stage}
use Rattle.pv_links.specs.declared.stage.Stage.TheVariants.{First, Middle, Last}

-- where all three are given
abbrev pub ordinal_word : Stage → List ℕ
ordinal_word First = codes "first"
ordinal_word Middle = codes "second"
ordinal_word Last = codes "third"

-- where the first and the last are given
abbrev pub stage_word : Stage → List ℕ
stage_word First = codes "first"
stage_word Middle = codes "middle"
stage_word Last = codes "second"
