-- Lines at the front of a text, each with its line feed.
use Rattle.std.specs.Prelude.{ℕ, [], ◌∷◌, ◌++◌}
use Rattle.pv_format.specs.Formats.{Format, Front}
use Rattle.pv_token.specs.Words.{NoFeed}
use Rattle.pv_chain.specs.FedReading.{take_fed}
use Rattle.pv_chain.specs.FedLaws

abbrev pub Any : ℕ → Type 0
Any b = Unit {0}

-- one line
abbrev pub fed : {A : Type 0} → Format NoFeed A → Front Any A
fed w = record {
  fits = w.fits;
  spells = λ a. w.spells a ++ 10 ∷ [];
  takes = take_fed w.reads;
  again = FedLaws.fed_again w;
  back = FedLaws.fed_back w;
  proper = λ a fits. FedLaws.any (w.spells a ++ 10 ∷ []);
}
