use Rattle.std.proofs.Common.{◌∙◌}
use Rattle.pv_value.specs.Descriptors.{IsFieldType}
use Rattle.pv_class.specs.Deciding.{is_field_type}
use Rattle.pv_class.specs.CheckLaws.{field_decides}
use Rattle.pv_listing.proofs.Tests.{tells_found}
use Rattle.pv_listing.proofs.name.is_field_type.Goals as goal

pub returns : goal.returns
returns c = c.is_some.ensures ∙ tells_found (is_field_type c.args.text.now) (IsFieldType c.args.text.now) c.read_field_type.result (field_decides c.args.text.now) c.read_field_type.ensures
