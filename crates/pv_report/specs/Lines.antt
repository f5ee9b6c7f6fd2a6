-- The lines of a report: words, with a blank between two of them.
use Rattle.std.specs.Prelude.{ℕ, List, [], ◌∷◌, ◌++◌, codes, decimal}
use Rattle.pv_class.specs.declared.file.Method.{Method}
use Rattle.pv_class.specs.declared.fault.ClassFault.{ClassFault}
use Rattle.pv_class.specs.declared.fault.ClassFault.TheVariants as fault
use Rattle.pv_class.specs.declared.fault.PoolWord.{PoolWord}
use Rattle.pv_class.specs.declared.fault.PoolWord.TheVariants as pool
use Rattle.pv_frame.specs.declared.cause.CauseKind.{CauseKind}
use Rattle.pv_frame.specs.declared.cause.CauseKind.TheVariants as kind
use Rattle.pv_token.specs.Words.{spaced}
use Rattle.pv_token.specs.Spellings.{shown_bytes}
use Rattle.pv_report.specs.declared.verdict.Side.{Side}
use Rattle.pv_report.specs.declared.verdict.Side.TheVariants as side
use Rattle.pv_report.specs.declared.verdict.Verdict.{Verdict}
use Rattle.pv_report.specs.declared.verdict.Verdict.TheVariants as verdict

abbrev pub side_word : Side → List ℕ
side_word side.First = codes "first"
side_word side.Second = codes "second"

abbrev pub kind_word : CauseKind → List ℕ
kind_word kind.Handler = codes "handler"
kind_word kind.Monitor = codes "monitor"
kind_word kind.LongCode = codes "long-code"
kind_word kind.Slots = codes "slots"
kind_word kind.Float = codes "float"
kind_word kind.Code = codes "code"
kind_word kind.Subroutine = codes "subroutine"
kind_word kind.Dynamic = codes "dynamic"
kind_word kind.Allocation = codes "allocation"
kind_word kind.Constant = codes "constant"
kind_word kind.Types = codes "types"
kind_word kind.Blocks = codes "blocks"
kind_word kind.Irreducible = codes "irreducible"
kind_word kind.Depth = codes "depth"

-- a word and the place where it holds
abbrev pub word_at : List ℕ → ℕ → List (List ℕ)
word_at word at = word ∷ codes "at" ∷ decimal at ∷ []

-- a cause is said with the address of its instruction, 0 where it is in no single one
abbrev pub verdict_words : Verdict → List (List ℕ)
verdict_words verdict.Missing = codes "missing" ∷ []
verdict_words (verdict.NoCode s) = codes "nocode" ∷ side_word s ∷ []
verdict_words (verdict.Refused s cause) = codes "refused" ∷ side_word s ∷ word_at (kind_word cause.kind) cause.at
verdict_words verdict.Equivalent = codes "equivalent" ∷ []
verdict_words verdict.Apart = codes "unknown" ∷ codes "apart" ∷ []
verdict_words (verdict.Rounds n) = codes "unknown" ∷ codes "rounds" ∷ decimal n ∷ []
verdict_words (verdict.Budget k) = codes "unknown" ∷ codes "budget" ∷ decimal k ∷ []

abbrev pub pool_word : PoolWord → List ℕ
pool_word pool.Tag = codes "pool-tag"
pool_word pool.Utf8 = codes "pool-utf8"
pool_word pool.Reference = codes "pool-reference"

-- a fault with its place; no file is answered out of memory
abbrev pub fault_words : ClassFault → List (List ℕ)
fault_words (fault.Truncated at) = word_at (codes "truncated") at
fault_words (fault.Magic at) = word_at (codes "magic") at
fault_words (fault.Version at) = word_at (codes "version") at
fault_words (fault.Pool word at) = word_at (pool_word word) at
fault_words (fault.Descriptor at) = word_at (codes "descriptor") at
fault_words (fault.Code at) = word_at (codes "code") at
fault_words (fault.Duplicate at) = word_at (codes "duplicate") at
fault_words (fault.Trailing at) = word_at (codes "trailing") at
fault_words (fault.TooLong at) = word_at (codes "too-long") at
fault_words fault.Memory = codes "out" ∷ codes "of" ∷ codes "memory" ∷ []

-- words as a text
abbrev pub in_words : List (List ℕ) → List ℕ
in_words [] = []
in_words (word ∷ words) = word ++ spaced words

-- what is said of a method, after its name and its descriptor as they are shown
abbrev pub method_line : List ℕ → List ℕ → List (List ℕ) → List ℕ
method_line name desc words = in_words (shown_bytes name ∷ shown_bytes desc ∷ words)

-- .. without the line feed
abbrev pub line_of : Method → Verdict → List ℕ
line_of m v = method_line m.name m.desc (verdict_words v)

-- every line ends with one line feed
abbrev pub line_text : List ℕ → List ℕ
line_text line = line ++ 10 ∷ []

-- a file that has no reading, with its fault
abbrev pub bad_class : Side → ClassFault → List ℕ
bad_class s f = line_text (in_words (codes "bad" ∷ codes "class" ∷ side_word s ∷ fault_words f))
