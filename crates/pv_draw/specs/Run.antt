-- What the program says, asks and answers.
use Rattle.std.specs.Prelude.{◌≡◌, ◌⊎◌, ℕ, List, [], ◌∷◌, take, Option, Some, None, codes}
use Rattle.std.specs.FinMap.{get}
use Rattle.pv_base.specs.Stored.{Stored, AreBytes}
use Rattle.pv_base.specs.Outside.{more}
use Rattle.pv_base.specs.declared.outside.Asked.{Asked}
use Rattle.pv_base.specs.declared.outside.Asked.TheVariants.{Fetch}
use Rattle.pv_report.specs.declared.status.Status.{Status}
use Rattle.pv_report.specs.declared.status.Status.TheVariants as status
use Rattle.pv_report.specs.Lines.{line_text}
use Rattle.pv_draw.specs.Requests.{Request}
use Rattle.pv_draw.specs.Drawn.{Drawn}

-- ---- what is said

-- the store, where what it holds is known, has these bytes under the name
abbrev pub Holds : Option Stored → List ℕ → List ℕ → Type 0
Holds None name bytes = Unit {0}
Holds (Some m) name bytes = get m name ≡ Some bytes

-- the answer to a request: what is said of the bytes that the store has under the names of its two files
pub record IsDrawnFor (held : Option Stored) (r : Request) (text : List ℕ) (s : Status) : Type 0 where
  pub first : List ℕ
  pub second : List ℕ
  pub first_held : Holds held r.first first
  pub second_held : Holds held r.second second
  pub first_bytes : AreBytes first
  pub second_bytes : AreBytes second
  pub drawn : Drawn r.form r.signature first second text s

-- the line on words that ask for nothing
abbrev pub bad_words : List ℕ
bad_words = line_text (codes "bad words")

abbrev pub IsAnswer : Option Stored → Option Request → List ℕ → Status → Type 0
IsAnswer held None text s = (text ≡ bad_words) × (s ≡ status.BadWords)
IsAnswer held (Some r) text s = IsDrawnFor held r text s

-- the sink took the text, and the status goes with it; or it failed, and took a front of the text
abbrev pub Puts : Option (List ℕ) → Option (List ℕ) → List ℕ → Status → Status → Type 0 → Type 0
Puts old new text meant result rose = ((result ≡ meant) × (new ≡ more old text)) ⊎ ((result ≡ status.WriteFault) × rose × ((n : ℕ) × (new ≡ more old (take n text))))

-- the answer to what the words ask for was said
abbrev pub SaysAnswer : Option Stored → Option Request → Option (List ℕ) → Option (List ℕ) → Type 0 → Status → Type 0
SaysAnswer held r old new rose result = (text : List ℕ) × (meant : Status) × IsAnswer held r text meant × Puts old new text meant result rose

-- What is said, and with which status: nothing where a file can't be read, as a count of the store's failures shows, or where memory ran
-- out; else the answer.
abbrev pub Answered : Option Stored → Option Request → Option (List ℕ) → Option (List ℕ) → Type 0 → Type 0 → Status → Type 0
Answered held r old new files_rose write_rose status.Memory = new ≡ old
Answered held (Some r) old new files_rose write_rose status.ReadFault = files_rose × (new ≡ old)
Answered held r old new files_rose write_rose result = SaysAnswer held r old new write_rose result

-- ---- what is asked

-- the fetches for a request, in their order
abbrev pub fetch_calls : Request → List Asked
fetch_calls r = Fetch r.first ∷ Fetch r.second ∷ []

-- some bytes stand under the name
abbrev pub IsThere : Option Stored → List ℕ → Type 0
IsThere held name = (bytes : List ℕ) × Holds held name bytes

-- The record of calls grows by both fetches. Where one of them fails, it grows by those up to this one, and the name before it is there;
-- where memory runs out, by the first n, for some n.
abbrev pub AskedFor : Option Stored → Request → Option (List Asked) → Option (List Asked) → Status → Type 0
AskedFor held r old new status.ReadFault = (new ≡ more old (Fetch r.first ∷ [])) ⊎ (IsThere held r.first × (new ≡ more old (fetch_calls r)))
AskedFor held r old new status.Memory = (n : ℕ) × (new ≡ more old (take n (fetch_calls r)))
AskedFor held r old new s = new ≡ more old (fetch_calls r)

-- words that ask for nothing fetch nothing
abbrev pub CallsFor : Option Stored → Option Request → Option (List Asked) → Option (List Asked) → Status → Type 0
CallsFor held None old new s = new ≡ old
CallsFor held (Some r) old new s = AskedFor held r old new s
