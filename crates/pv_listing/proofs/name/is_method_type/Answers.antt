use Rattle.std.proofs.Common.{◌∙◌}
use Rattle.pv_value.specs.Descriptors.{IsMethodType}
use Rattle.pv_class.specs.Deciding.{is_method_type}
use Rattle.pv_class.specs.CheckLaws.{method_decides}
use Rattle.pv_listing.proofs.Tests.{tells_found}
use Rattle.pv_listing.proofs.name.is_method_type.Goals as goal

pub returns : goal.returns
returns c = c.is_some.ensures ∙ tells_found (is_method_type c.args.text.now) (IsMethodType c.args.text.now) c.in_ok-read_descriptor.field-0 (method_decides c.args.text.now) c.in_ok-read_descriptor.ensures
