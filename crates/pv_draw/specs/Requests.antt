-- What the words of the command line ask for: `graphs [--dot] A B NAME DESC`.
use Rattle.std.specs.Prelude.{◌≡◌, ℕ, Bool, true, false, List, [], ◌∷◌, Option, Some, None, codes}
use Rattle.pv_token.specs.Spellings.{AreBytes, shown_bytes}
use Rattle.pv_words.specs.Words as words
use Rattle.pv_words.specs.Words.{Give}
use Rattle.pv_draw.specs.declared.answer.Signature.{Signature}
use Rattle.pv_draw.specs.declared.request.Form.{Form}
use Rattle.pv_draw.specs.declared.request.Form.TheVariants.{Listing, Dot}

-- the least graph of two methods in a form: that of the first file with this name and descriptor, and its partner in the second
pub record Request : Type 0 where
  pub form : Form
  pub first : List ℕ
  pub second : List ℕ
  pub signature : Signature

-- the program has the flag `--dot`, no options and four arguments
abbrev pub graphs_words : words.Command
graphs_words = record { flags = codes "dot" ∷ []; names = []; count = 4 }

-- as Graphviz text, where the flag is given
abbrev pub form_by : Bool → Form
form_by true = Dot
form_by false = Listing

-- a word is a text as it is shown
pub record IsShown (word text : List ℕ) : Type 0 where
  pub bytes : AreBytes text
  pub shown : word ≡ shown_bytes text

-- the words ask for this
pub record AskFor (words : List (List ℕ)) (r : Request) : Type 0 where
  pub dot : Bool
  pub name : List ℕ
  pub desc : List ℕ
  pub given : Give graphs_words words (dot ∷ []) [] (r.first ∷ r.second ∷ name ∷ desc ∷ [])
  pub form : r.form ≡ form_by dot
  pub name_is : IsShown name r.signature.name
  pub desc_is : IsShown desc r.signature.desc

-- what the words ask for, None where they ask for nothing
abbrev pub IsRequest : List (List ℕ) → Option Request → Type 0
IsRequest words (Some r) = AskFor words r
IsRequest words None = (r : Request) → AskFor words r → ⊥
