use Rattle.pv_denote.proofs.Readings.{field_found, field_missing}
use Rattle.pv_denote.proofs.heap_ops.field_type.Goals as goal

pub returns-in-Some : goal.returns-in-Some
returns-in-Some c = field_found _ _ c.in-Some.t c.bytes.ensures c.in-Some.ensures

pub returns-in-None : goal.returns-in-None
returns-in-None c = field_missing _ _ c.bytes.ensures c.in-None.ensures
