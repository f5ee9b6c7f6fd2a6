use Rattle.std.proofs.Common.{◌≤◌, ℕ, List, length, map, take}
use Rattle.pv_pattern.specs.Seen.{axiom_seen}
use Rattle.pv_marks.specs.Marks.{AreClassMarks}
use Rattle.pv_match.specs.All.{AreMatchesOf, AreMatchesWhere}
use Rattle.pv_match.specs.Gathering.{TriedAt}
use Rattle.pv_match.proofs.finder.Finder.find_at.Given as goal

abbrev pub invariant-loop-place : goal.invariant-loop-place
invariant-loop-place l = record {
  few : length l.found.keys ≤ l.self.limit;
  tried : (assumed before : List ℕ) → AreClassMarks l.self.reader.graph.now l.self.reader.numbers.now assumed l.self.marks.now
      → AreMatchesOf l.self.reader.graph.now l.self.reader.numbers.now assumed (map axiom_seen l.self.table.now) before l.initial.found.keys
      → AreMatchesWhere l.self.reader.graph.now l.self.reader.numbers.now assumed (TriedAt (map axiom_seen l.self.table.now) before (take l.place-index l.places) l.n) l.found.keys;
}
