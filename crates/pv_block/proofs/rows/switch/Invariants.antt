use Rattle.std.proofs.Common.{◌≡◌, ◌++◌, length, drop}
use Rattle.pv_block.proofs.Words.{case_lines, case_tests, case_exits}
use Rattle.pv_block.proofs.rows.switch.Given as goal

abbrev pub invariant-loop-case : goal.invariant-loop-case
invariant-loop-case l = record {
  lines : case_lines 0 l.cases ≡ l.lines.items ++ case_lines (length l.lines.items) (drop l.case-index l.cases);
  tests : case_tests 0 l.cases ≡ l.tests.items ++ case_tests (length l.lines.items) (drop l.case-index l.cases);
  exits : case_exits l.default l.cases ≡ l.exits.items ++ case_exits l.default (drop l.case-index l.cases);
}
