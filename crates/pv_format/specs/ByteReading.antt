-- What the readers of single items of bytes answer.
use Rattle.std.specs.Prelude.{◌≡◌, ℕ, List, Option}
use Rattle.std.specs.Int.{Width}
use Rattle.std.specs.Option.{option_map}
use Rattle.std.specs.Result.{result_ok}
use Rattle.pv_format.specs.Grammars.{Grammar}
use Rattle.pv_format.specs.Grammars as bytes
use Rattle.pv_format.specs.GrammarReading.{read}

-- the only fault is that the bytes end within an item
abbrev pub cut : ℕ → Unit {0}
cut left = tt

abbrev pub number : Width → Grammar (Unit {0}) ℕ
number w = bytes.number 0 cut w

abbrev pub run : ℕ → Grammar (Unit {0}) (List ℕ)
run n = bytes.run 0 cut n

-- what a function returned, seen by view, is what is read, or None where the bytes are cut
abbrev pub Found : {X A : Type 0} → (X → A × List ℕ) → Option X → Grammar (Unit {0}) A → List ℕ → Type 0
Found view result g bytes = option_map view result ≡ result_ok (read g bytes)
