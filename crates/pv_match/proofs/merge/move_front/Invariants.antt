use Rattle.std.proofs.Common.{◌≡◌, ◌++◌, take, drop}
use Rattle.pv_match.proofs.merge.move_front.Given as goal

abbrev pub invariant-loop : goal.invariant-loop
invariant-loop g l = record {
  moved : l.list.items ≡ l.fn.list.items ++ take l.counter l.fn.queue.items;
  rest : l.queue.items ≡ drop l.counter l.fn.queue.items;
}
