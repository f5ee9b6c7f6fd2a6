use Rattle.std.proofs.Common.{◌≡◌, drop}
use Rattle.std.specs.List.{list_all}
use Rattle.pv_listing.specs.WordReading.{is_label_byte}
use Rattle.pv_listing.proofs.name.is_label.Given as goal

abbrev pub invariant-loop-byte : goal.invariant-loop-byte
invariant-loop-byte l = list_all is_label_byte (drop l.byte-index l.word) ≡ list_all is_label_byte l.word
