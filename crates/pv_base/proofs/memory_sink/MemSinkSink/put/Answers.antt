use Rattle.std.proofs.Common.{◌≡◌, ◌++◌, List, ℕ, Some, ap, take, arith}
use Rattle.std.proofs.lemmas.Grind.{common_steps}
use Rattle.pv_base.proofs.memory_sink.MemSinkSink.put.Goals as goal

pub returns-clause-err : goal.returns-clause-err
returns-clause-err c =
    let filled : c.extend_from_slice-2.new.self.items ≡ c.args.self.now.sent ++ take c.self.inside.room c.args.bytes.now = grind (arith, common_steps) in
    (c.self.inside.room, ap (λ (xs : List ℕ). Some xs) filled)
