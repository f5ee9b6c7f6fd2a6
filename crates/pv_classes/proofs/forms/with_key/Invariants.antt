use Rattle.std.proofs.Common.{ℕ, take}
use Rattle.std.specs.List.{Contains}
use Rattle.pv_classes.specs.Keyed.{HasKey}
use Rattle.pv_classes.proofs.forms.with_key.Given as goal

abbrev pub invariant-loop-n : goal.invariant-loop-n
invariant-loop-n l = (m : ℕ) → Contains (take l.n-index l.list) m → HasKey l.g.nodes l.parts.labels l.key m → ⊥
