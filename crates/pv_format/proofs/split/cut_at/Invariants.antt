use Rattle.std.proofs.Common.{◌≡◌, ◌==◌, ◌++◌, take, drop}
use Rattle.std.specs.Option.{option_map}
use Rattle.pv_format.specs.Splits.{cut}
use Rattle.pv_format.proofs.split.cut_at.Given as goal

abbrev pub invariant-loop-i : goal.invariant-loop-i
invariant-loop-i l = option_map (λ p. (take l.i l.text ++ p.0, p.1)) (cut (λ b. b == l.byte) (drop l.i l.text)) ≡ cut (λ b. b == l.byte) l.text
