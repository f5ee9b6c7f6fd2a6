use Rattle.std.proofs.Common.{◌≡◌, ◌++◌, ◌/◌, ◌^◌, drop}
use Rattle.pv_refute.specs.Tries.{arguments}
use Rattle.pv_refute.proofs.tries.arguments.Given as goal

abbrev pub invariant-loop-t : goal.invariant-loop-t
invariant-loop-t l = record {
  rest : l.rest ≡ l.n / 8 ^ l.t-index;
  args : l.args.items ++ arguments l.n l.t-index (drop l.t-index l.types) ≡ arguments l.n 0 l.types;
}
