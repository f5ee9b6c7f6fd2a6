use Rattle.std.proofs.Common.{◌<◌, ◌-◌, length, get_or, arith}
use Rattle.std.proofs.lemmas.Option.{slice_get-get_or}
use Rattle.pv_graph.proofs.Knowing.{until}
use Rattle.pv_graph.proofs.known.count_until.Goals as goal

pub returns-then-numbers-count-clause-until : goal.returns-then-numbers-count-clause-until
returns-then-numbers-count-clause-until c =
    let lt : c.loop-count.count - 1 < length c.args.numbers.now = omega (arith, c.loop-count.invariant, c.loop-count-test.true) in
    until c.args.numbers.now c.loop-count.count (get_or c.args.numbers.now (c.loop-count.count - 1) 0) c.args.n c.requires (slice_get-get_or c.args.numbers.now (c.loop-count.count - 1) 0 lt) c.if-numbers-count.true
