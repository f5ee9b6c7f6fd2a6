use Rattle.pv_format.specs.SplitLaws.{body_found}
use Rattle.pv_chain.proofs.lines.body_of.Goals as goal

pub returns : goal.returns
returns c = body_found c.args.text.now c.as_slice.result.now c.strip_suffix.result c.as_slice.ensures c.strip_suffix.ensures.cases
