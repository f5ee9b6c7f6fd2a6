-- Lines of words, with a blank between two of them.
use Rattle.std.specs.Prelude.{◌≢◌, []}
use Rattle.pv_format.specs.Formats.{Format}
use Rattle.pv_format.specs.Combinators.{within, parts, blank, also}
use Rattle.pv_token.specs.Words.{Sentence, AreSomeWords, NoFeed}
use Rattle.pv_token.specs.LineLaws

abbrev pub line : {A : Type 0} (w : Sentence A) → ((a : A) → w.spells a ≢ []) → Format NoFeed A
line w some = within (parts blank) (also AreSomeWords w (λ a fits. (some a, w.proper a fits))) LineLaws.are_parts LineLaws.no_feed
