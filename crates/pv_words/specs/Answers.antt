-- What is read of the words of a command.
use Rattle.std.specs.Prelude.{Bool, List, Option, Some, None, map, option_map}
use Rattle.std.specs.Borrow.{Bor}
use Rattle.pv_words.specs.Words.{Text, Command, Give}
use Rattle.pv_words.specs.declared.words.Shape.{Shape}
use Rattle.pv_words.specs.declared.words.Words.{Words}

abbrev pub texts : List (Bor Text) → List Text
texts words = map (λ w. w.now) words

abbrev pub command_of : Shape → Command
command_of s = record { flags = texts s.flags.now; names = texts s.options.now; count = s.arguments }

-- the flags, options and arguments that the words give, None where they give none
abbrev pub Reads : Command → List Text → Option Words → Type 0
Reads c words (Some w) = Give c words w.flags (map (option_map (λ s. s.now)) w.options) (texts w.arguments)
Reads c words None = (flags : List Bool) (options : List (Option Text)) (arguments : List Text) → Give c words flags options arguments → ⊥
