-- The words of the code are those of the definitions.
use Rattle.std.specs.Prelude.{List, [], ◌∷◌}
use Rattle.pv_value.specs.Operations as operations
use Rattle.pv_denote.specs.declared.word.Word.{Word}
use Rattle.pv_denote.specs.declared.word.Word.TheVariants.{Int, Long}
use Rattle.pv_denote.specs.declared.word.Operands.{Operands}
use Rattle.pv_denote.specs.declared.word.Operands.TheVariants.{One, Two}

abbrev pub word_of : Word → operations.Word
word_of Int = operations.int
word_of Long = operations.long

abbrev pub words_of : Operands → List operations.Word
words_of (One w) = word_of w ∷ []
words_of (Two v w) = word_of v ∷ word_of w ∷ []
