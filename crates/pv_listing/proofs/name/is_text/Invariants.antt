use Rattle.std.proofs.Common.{◌≡◌, drop}
use Rattle.pv_pool.specs.TextTests.{is_text_from}
use Rattle.pv_listing.proofs.name.is_text.Given as goal

abbrev pub invariant-loop-byte : goal.invariant-loop-byte
invariant-loop-byte l = is_text_from (drop l.byte-index l.bytes) l.before ≡ is_text_from l.bytes 0
