use Rattle.pv_base.proofs.Cited.{are_bytes}
use Rattle.pv_top.proofs.top.law_bytes.Goals as goal

pub returns : goal.returns
returns c = are_bytes c.args.bytes.now (λ i. (c.type_inv.bytes i).fits)
