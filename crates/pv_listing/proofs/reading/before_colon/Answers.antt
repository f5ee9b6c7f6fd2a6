use Rattle.pv_listing.proofs.Tests.{colon_found}
use Rattle.pv_listing.proofs.reading.before_colon.Goals as goal

pub returns : goal.returns
returns c = colon_found c.args.word.now c.as_slice.result.now c.strip_suffix.result c.as_slice.ensures c.strip_suffix.ensures.cases
