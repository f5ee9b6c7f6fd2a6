use Rattle.std.proofs.Common.{◌*◌, ◌+◌, map, drop, take, length}
use Rattle.pv_graph.specs.Walks.{In}
use Rattle.pv_pattern.specs.Binding.{names}
use Rattle.pv_pattern.specs.Seen.{listed, seen}
use Rattle.pv_marks.specs.Classes.{class_of}
use Rattle.pv_match.specs.declared.reader.Start.{Start}
use Rattle.pv_match.specs.Standing.{StandsIn}
use Rattle.pv_match.specs.Bindings.{AddsWhere}
use Rattle.pv_match.specs.Reading.{reads}
use Rattle.pv_match.proofs.Sizes.{size, sizes}
use Rattle.pv_match.proofs.Extending.{Extends, Goes, TakenFrom}
use Rattle.pv_match.proofs.reader.Reader.+extend.Given as goal

abbrev pub invariant-extend-loop-start : goal.invariant-extend-loop-start
invariant-extend-loop-start l =
    AddsWhere l.self.graph.now l.self.numbers.now l.initial.found.items l.found.items l.from (λ m. (s : Start) × In (take l.start-index l.start-items) s × TakenFrom l.self.graph.now l.self.numbers.now (seen l.pattern) s m)
    (names (seen l.pattern)) (reads (length l.from.vars.items) (seen l.pattern))

abbrev pub invariant-extend_all-loop-b : goal.invariant-extend_all-loop-b
invariant-extend_all-loop-b l =
    Extends l.self.graph.now l.self.numbers.now (take l.b-index l.b-items) l.next.items (λ m. StandsIn l.self.graph.now l.self.numbers.now m (seen l.pattern) (class_of l.self.numbers.now l.kid)) (names (seen l.pattern)) (λ n. reads n (seen l.pattern))

abbrev pub invariant-extend_all-loop-pattern : goal.invariant-extend_all-loop-pattern
invariant-extend_all-loop-pattern l =
    Goes l.self.graph.now l.self.numbers.now l.from (listed (map seen l.patterns)) (map (class_of l.self.numbers.now) l.kids) l.bindings.items (listed (map seen (drop l.pattern-index l.patterns))) (map (class_of l.self.numbers.now) l.rest)

abbrev pub decreases-extend : goal.decreases-extend
decreases-extend l = 2 * size (seen l.pattern.now)

abbrev pub decreases-extend_all : goal.decreases-extend_all
decreases-extend_all l = 2 * sizes (listed (map seen l.patterns.now)) + 1
