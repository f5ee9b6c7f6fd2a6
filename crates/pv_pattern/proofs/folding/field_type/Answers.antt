use Rattle.pv_graph.proofs.Cited.{field_read}
use Rattle.pv_pattern.proofs.folding.field_type.Goals as goal

pub returns : goal.returns
returns c = field_read c.args.desc.now c.read_field_type.result c.read_field_type.ensures
