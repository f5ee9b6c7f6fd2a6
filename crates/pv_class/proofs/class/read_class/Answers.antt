use Rattle.std.proofs.Common.{arith}
use Rattle.pv_class.proofs.Outcomes.{head_long, head_fails, pool_fails, tail_fails, all_read}
use Rattle.pv_class.proofs.class.read_class.Goals as goal

pub read_pool-requires : goal.read_pool-requires
read_pool-requires c = head_long c.args.bytes.now (c.in_default.field-0.now, c.in_default.ensures)

pub returns-in-Err : goal.returns-in-Err
returns-in-Err c = rw c.in_file.ensures (head_fails c.args.bytes.now (λ i. (c.type_inv.bytes i).fits) (omega arith) c.in-Err.stop c.in-Err.ensures)

pub returns-in-Err-read_pool : goal.returns-in-Err-read_pool
returns-in-Err-read_pool c = rw c.of_pool.ensures (pool_fails c.args.bytes.now (λ i. (c.type_inv.bytes i).fits) (omega arith) c.in-Err-read_pool.fault (c.in_default.field-0.now, c.in_default.ensures) c.in-Err-read_pool.ensures.exact)

pub returns-in-Ok-tail_at : goal.returns-in-Ok-tail_at
returns-in-Ok-tail_at c =
    all_read c.args.bytes.now (λ i. (c.type_inv.bytes i).fits) (omega arith) c.in-Ok.read.0 c.in-Ok.read.1 c.in-Ok-tail_at.methods (c.in_default.field-0.now, c.in_default.ensures) c.in-Ok.ensures.exact (rw (c.split_at.ensures.back, c.in-Ok-tail_at.ensures.end) at c.in-Ok-tail_at.ensures.read)

pub returns-in-Err-tail_at : goal.returns-in-Err-tail_at
returns-in-Err-tail_at c = rw c.in_file-in-Err-tail_at.ensures (tail_fails c.args.bytes.now (λ i. (c.type_inv.bytes i).fits) (omega arith) c.in-Ok.read.0 c.in-Ok.read.1 c.in-Err-tail_at.stop (c.in_default.field-0.now, c.in_default.ensures) c.in-Ok.ensures.exact (rw c.split_at.ensures.back at c.in-Err-tail_at.ensures.read))
