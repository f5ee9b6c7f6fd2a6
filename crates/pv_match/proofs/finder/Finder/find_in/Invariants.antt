use Rattle.std.proofs.Common.{◌≤◌, ℕ, List, length, map, take}
use Rattle.pv_pattern.specs.Seen.{axiom_seen}
use Rattle.pv_marks.specs.Marks.{AreClassMarks}
use Rattle.pv_match.specs.All.{AreMatchesOf}
use Rattle.pv_match.proofs.finder.Finder.find_in.Given as goal

abbrev pub invariant-loop-n : goal.invariant-loop-n
invariant-loop-n g l = record {
  few : length l.set.keys ≤ l.self.limit;
  found : (assumed : List ℕ) → AreClassMarks l.self.reader.graph.now l.self.reader.numbers.now assumed l.self.marks.now
      → AreMatchesOf l.self.reader.graph.now l.self.reader.numbers.now assumed (map axiom_seen l.self.table.now) (take l.n-index l.items) l.set.keys;
}
