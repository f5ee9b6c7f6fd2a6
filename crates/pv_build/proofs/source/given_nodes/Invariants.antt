use Rattle.std.proofs.Common.{◌≡◌, take}
use Rattle.pv_build.proofs.Words.{number, given_nodes}
use Rattle.pv_build.proofs.source.given_nodes.Given as goal

abbrev pub invariant-loop-source : goal.invariant-loop-source
invariant-loop-source l = l.given.items ≡ given_nodes (take l.source-index l.sources) (number l.slot)
