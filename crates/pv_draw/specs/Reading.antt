-- What is read of words, fetched and found, as private functions say it.
use Rattle.std.specs.Prelude.{◌≡◌, ◌⊎◌, ℕ, Bool, List, [], ◌∷◌, Option, Some, None, Result, Ok, Err}
use Rattle.pv_alike.specs.Least.{Rooted}
use Rattle.pv_base.specs.Stored.{Stored, AreBytes}
use Rattle.pv_base.specs.Outside.{more}
use Rattle.pv_base.specs.declared.outside.Asked.{Asked}
use Rattle.pv_class.specs.declared.file.ClassFile.{ClassFile}
use Rattle.pv_report.specs.declared.pair.Fetched.{Fetched}
use Rattle.pv_report.specs.declared.status.Status.{Status}
use Rattle.pv_report.specs.declared.status.Status.TheVariants as status
use Rattle.pv_report.specs.declared.verdict.Verdict.{Verdict}
use Rattle.pv_report.specs.Judging.{IsFetched}
use Rattle.pv_words.specs.Words.{Give}
use Rattle.pv_draw.specs.declared.answer.Signature.{Signature}
use Rattle.pv_draw.specs.declared.request.Form.{Form}
use Rattle.pv_draw.specs.declared.request.Given.{Given}
use Rattle.pv_draw.specs.declared.top.Fault.{Fault}
use Rattle.pv_draw.specs.declared.top.Fault.TheVariants as fault
use Rattle.pv_draw.specs.Requests.{Request, form_by, graphs_words, IsShown}
use Rattle.pv_draw.specs.Drawn.{Drawn, IsLack, HasLeast}
use Rattle.pv_draw.specs.Run.{AskedFor, Holds, fetch_calls}

-- ---- words

-- the words give this, None where they give nothing
abbrev pub AreGiven : List (List ℕ) → Option Given → Type 0
AreGiven words (Some g) = (dot : Bool) × Give graphs_words words (dot ∷ []) [] (g.first.now ∷ g.second.now ∷ g.name.now ∷ g.desc.now ∷ []) × (g.form ≡ form_by dot)
AreGiven words None = (dot : List Bool) (options : List (Option (List ℕ))) (arguments : List (List ℕ)) → Give graphs_words words dot options arguments → ⊥

-- two words show these texts, None where one of them shows nothing
abbrev pub IsSignatureOf : List ℕ → List ℕ → Option Signature → Type 0
IsSignatureOf name desc (Some s) = IsShown name s.name × IsShown desc s.desc
IsSignatureOf name desc None = (s : Signature) → IsShown name s.name → IsShown desc s.desc → ⊥

-- what is asked for
abbrev pub request_of : Given → Signature → Request
request_of g s = record { form = g.form; first = g.first.now; second = g.second.now; signature = s }

-- ---- files

-- bytes that the store has under the name were fetched
abbrev pub HoldsFetched : Option Stored → List ℕ → Fetched → Type 0
HoldsFetched held name fetched = (bytes : List ℕ) × Holds held name bytes × AreBytes bytes × IsFetched fetched bytes

-- a fetch failed, or memory ran out
abbrev pub IsCause : Fault → Type 0 → Type 0
IsCause fault.Read rose = rose
IsCause fault.Memory rose = Unit {0}

-- a call is in the record; one for which memory runs out may not be
abbrev pub AsksOne : {T : Type 0} → Option (List Asked) → Option (List Asked) → Asked → Result T Fault → Type 0
AsksOne old new call (Err fault.Memory) = (new ≡ old) ⊎ (new ≡ more old (call ∷ []))
AsksOne old new call result = new ≡ more old (call ∷ [])

-- ---- the answer

-- what is said of the bytes that were fetched
abbrev pub DrawsFetched : Form → Signature → Fetched → Fetched → List ℕ → Status → Type 0
DrawsFetched form s first second text status = (a b : List ℕ) → IsFetched first a → IsFetched second b → Drawn form s a b text status

-- the least graph of the methods with this name and descriptor, or why there is none
abbrev pub IsLeastFor : ClassFile → ClassFile → Signature → Result Rooted Verdict → Type 0
IsLeastFor first second s (Ok l) = HasLeast first second s l
IsLeastFor first second s (Err v) = IsLack first second s v

-- the status that goes with a fault
abbrev pub status_of : Fault → Status
status_of fault.Read = status.ReadFault
status_of fault.Memory = status.Memory

-- all that is to be fetched for a request was asked for, or some of it
abbrev pub AsksFor : {T : Type 0} → Option Stored → Option Request → Option (List Asked) → Option (List Asked) → Result T Fault → Type 0
AsksFor held None old new result = new ≡ old
AsksFor held (Some r) old new (Ok x) = new ≡ more old (fetch_calls r)
AsksFor held (Some r) old new (Err f) = AskedFor held r old new (status_of f)

-- words that ask for nothing fetch nothing, so that no fetch fails
abbrev pub IsCauseFor : Option Request → Fault → Type 0 → Type 0
IsCauseFor None fault.Read rose = ⊥
IsCauseFor r f rose = IsCause f rose
