use Rattle.std.proofs.Common.{◌≡◌, ◌++◌, ◌+◌, drop}
use Rattle.pv_cert.specs.Reading.{lemmas_lines}
use Rattle.pv_format.specs.Splits.{text_of}
use Rattle.pv_cert.proofs.write.push_lemmas.Given as goal

-- the text so far and that of the lemmas which are left
abbrev pub invariant-loop-k : goal.invariant-loop-k
invariant-loop-k l = l.out.items ++ text_of (lemmas_lines (l.k + 1) (drop l.k l.list)) ≡ l.fn.out.items ++ text_of (lemmas_lines 1 l.list)
