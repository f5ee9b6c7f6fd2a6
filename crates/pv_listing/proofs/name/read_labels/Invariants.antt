use Rattle.std.proofs.Common.{◌≡◌, ◌++◌, drop}
use Rattle.std.specs.Option.{option_map}
use Rattle.pv_format.specs.Reading.{read_each}
use Rattle.pv_format.specs.Seen.{texts}
use Rattle.pv_listing.specs.WordReading.{read_label}
use Rattle.pv_listing.proofs.name.read_labels.Given as goal

abbrev pub invariant-loop-word : goal.invariant-loop-word
invariant-loop-word l = option_map (λ more. l.list.items ++ more) (read_each read_label (texts (drop l.word-index l.words))) ≡ read_each read_label (texts l.words)
