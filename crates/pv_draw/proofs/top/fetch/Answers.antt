use Rattle.std.proofs.Common.{Err, ap, ◌∙◌}
use Rattle.pv_draw.proofs.Fetching.{too_long}
use Rattle.pv_draw.proofs.top.fetch.Goals as goal

pub returns-in-Err-TooLong-clause-content : goal.returns-in-Err-TooLong-clause-content
returns-in-Err-TooLong-clause-content g c = too_long (g.F.Files.held c.args.files.now) c.args.name.now _ c.fetch.result (c.in-Err-TooLong.is ∙ ap Err c.in-Err-TooLong.field-0-is) c.fetch.ensures.content
