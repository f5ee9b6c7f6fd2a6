use Rattle.std.proofs.Common.{◌≡◌, ◌++◌, map, take}
use Rattle.pv_cert.specs.Lines.{step_line}
use Rattle.pv_format.specs.Splits.{text_of}
use Rattle.pv_cert.proofs.write.push_steps.Given as goal

abbrev pub invariant-loop-step : goal.invariant-loop-step
invariant-loop-step l = l.out.items ≡ l.fn.out.items ++ text_of (map step_line (take l.step-index l.list))
