-- What the program says and asks, by what its words ask for.
use Rattle.std.proofs.Common.{◌≡◌, ℕ, List, Option, Some, None, Result, Ok, Err, refl, sym, subst}
use Rattle.std.specs.Prelude.{IfErr, IfOk}
use Rattle.pv_base.specs.Stored.{Stored}
use Rattle.pv_base.specs.declared.outside.Asked.{Asked}
use Rattle.pv_report.specs.declared.pair.Fetched.{Fetched}
use Rattle.pv_report.specs.declared.pair.Pair.{Pair}
use Rattle.pv_report.specs.declared.pair.BadClass.{BadClass}
use Rattle.pv_report.specs.declared.report.Answer.{Answer}
use Rattle.pv_report.specs.declared.status.Status.{Status}
use Rattle.pv_report.specs.declared.status.Status.TheVariants as status
use Rattle.pv_report.specs.declared.verdict.Verdict.{Verdict}
use Rattle.pv_report.specs.Judging.{ReadsPair}
use Rattle.pv_report.specs.Lines.{bad_class}
use Rattle.pv_report.proofs.Cited.{bad_pair}
use Rattle.pv_alike.specs.Least.{Rooted}
use Rattle.pv_draw.specs.declared.answer.Signature.{Signature}
use Rattle.pv_draw.specs.declared.request.Form.{Form}
use Rattle.pv_draw.specs.declared.top.Fault.{Fault}
use Rattle.pv_draw.specs.Requests.{IsRequest, Request}
use Rattle.pv_draw.specs.Drawn.{Drawn, IsLack, HasLeast, drawing, lack_line}
use Rattle.pv_draw.specs.Run.{IsAnswer, IsDrawnFor, bad_words}
use Rattle.pv_draw.specs.Reading.{AsksFor, DrawsFetched, IsCause, IsCauseFor}
use Rattle.pv_draw.proofs.Asking.{one_request}

-- ---- two files that were fetched

-- one of them has no reading
pub bad_file : (form : Form) (s : Signature) (first second : Fetched) (bad : BadClass) (text : List ℕ) (x : Status) → ReadsPair first second (Err bad) → text ≡ bad_class bad.side bad.fault → x ≡ status.BadClass → DrawsFetched form s first second text x
bad_file form s first second bad text x read e is a b p q = subst (λ (y : Status). Drawn form s a b text y) (sym is) (bad_pair a b bad.side bad.fault text (read a b p q) e)

-- both have one, and this is the least graph
pub draws : (form : Form) (s : Signature) (first second : Fetched) (pair : Pair) (l : Rooted) (text : List ℕ) → ReadsPair first second (Ok pair) → HasLeast pair.first pair.second s l → text ≡ drawing form l → DrawsFetched form s first second text status.AllEquivalent
draws form s first second pair l text read is e a b p q = let both = read a b p q in (pair.first, pair.second, both.0, both.1, (l, is, e))

-- .. or this says why there is none
pub lacks : (form : Form) (s : Signature) (first second : Fetched) (pair : Pair) (v : Verdict) (text : List ℕ) → ReadsPair first second (Ok pair) → IsLack pair.first pair.second s v → text ≡ lack_line s v → DrawsFetched form s first second text status.Others
lacks form s first second pair v text read is e a b p q = let both = read a b p q in (pair.first, pair.second, both.0, both.1, (v, is, e))

-- ---- the request of the words

-- what is so for a request of these words is so for each
for_each : (P : Option Request → Type 0) (words : List (List ℕ)) (r : Option Request) → IsRequest words r → P r → (q : Option Request) → IsRequest words q → P q
for_each P words r is p q it = subst P (one_request words r q is it) p

module _ (held : Option Stored) (words : List (List ℕ)) (old new : Option (List Asked)) (r : Result Answer Fault) where
  -- they ask for nothing
  pub bad_answer : IsRequest words None → IfOk r (λ a. a.text.items ≡ bad_words) → IfOk r (λ a. a.status ≡ status.BadWords) → IfOk r (λ a. (q : Option Request) → IsRequest words q → IsAnswer held q a.text.items a.status)
  bad_answer none text is = by r text is
    where
      by : (x : Result Answer Fault) → IfOk x (λ a. a.text.items ≡ bad_words) → IfOk x (λ a. a.status ≡ status.BadWords) → IfOk x (λ a. (q : Option Request) → IsRequest words q → IsAnswer held q a.text.items a.status)
      by (Ok a) e d = for_each (λ (q : Option Request). IsAnswer held q a.text.items a.status) words None none (e, d)
      by (Err f) e d = tt

  pub nothing_asked : IsRequest words None → (q : Option Request) → IsRequest words q → AsksFor held q old old r
  nothing_asked none = for_each (λ (q : Option Request). AsksFor held q old old r) words None none (by r)
    where
      by : (x : Result Answer Fault) → AsksFor held None old old x
      by (Ok a) = refl
      by (Err f) = refl

  -- they ask for this
  pub each_answer : (q : Request) → IsRequest words (Some q) → IfOk r (λ a. IsDrawnFor held q a.text.items a.status) → IfOk r (λ a. (p : Option Request) → IsRequest words p → IsAnswer held p a.text.items a.status)
  each_answer q is drawn = by r drawn
    where
      by : (x : Result Answer Fault) → IfOk x (λ a. IsDrawnFor held q a.text.items a.status) → IfOk x (λ a. (p : Option Request) → IsRequest words p → IsAnswer held p a.text.items a.status)
      by (Ok a) h = for_each (λ (p : Option Request). IsAnswer held p a.text.items a.status) words (Some q) is h
      by (Err f) h = tt

  pub each_cause : (q : Request) (rose : Type 0) → IsRequest words (Some q) → IfErr r (λ f. IsCause f rose) → IfErr r (λ f. (p : Option Request) → IsRequest words p → IsCauseFor p f rose)
  each_cause q rose is cause = by r cause
    where
      by : (x : Result Answer Fault) → IfErr x (λ f. IsCause f rose) → IfErr x (λ f. (p : Option Request) → IsRequest words p → IsCauseFor p f rose)
      by (Ok a) h = tt
      by (Err f) h = for_each (λ (p : Option Request). IsCauseFor p f rose) words (Some q) is h

  pub each_asked : (q : Request) → IsRequest words (Some q) → AsksFor held (Some q) old new r → (p : Option Request) → IsRequest words p → AsksFor held p old new r
  each_asked q is asks = for_each (λ (p : Option Request). AsksFor held p old new r) words (Some q) is asks
