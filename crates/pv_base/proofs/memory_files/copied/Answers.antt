use Rattle.pv_base.proofs.Kept.{are_bytes}
use Rattle.pv_base.proofs.memory_files.copied.Goals as goal

pub returns-then-bytes-limit-clause-bytes : goal.returns-then-bytes-limit-clause-bytes
returns-then-bytes-limit-clause-bytes c = are_bytes c.args.bytes.now (λ i. (c.type_inv.bytes i).fits)

pub returns-clause-bytes : goal.returns-clause-bytes
returns-clause-bytes c = are_bytes c.args.bytes.now (λ i. (c.type_inv.bytes i).fits)
