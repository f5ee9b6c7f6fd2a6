-- What is fetched for a request, and what is said of it.
use Rattle.std.proofs.Common.{◌≡◌, ◌⊎◌, ℕ, zero, suc, ◌<◌, ◌≤◌, List, [], ◌∷◌, length, Option, Some, None, Result, Err, inl, inr, refl, sym, ap, subst, ◌∙◌, arith}
use Rattle.std.proofs.lemmas.List.{append-nil}
use Rattle.std.specs.Global.{Vec}
use Rattle.pv_base.specs.Stored.{Stored, AreBytes}
use Rattle.pv_base.specs.Outside.{FetchGives, Rose, more, rose_earlier}
use Rattle.pv_base.specs.declared.outside.Asked.{Asked}
use Rattle.pv_base.specs.declared.outside.Asked.TheVariants.{Fetch}
use Rattle.pv_base.specs.declared.outside.FileFault.{FileFault}
use Rattle.pv_base.specs.declared.outside.FileFault.TheVariants as file
use Rattle.pv_base.proofs.Cited.{more_more}
use Rattle.pv_report.specs.declared.pair.Fetched.{Fetched}
use Rattle.pv_report.specs.declared.status.Status.{Status}
use Rattle.pv_draw.specs.declared.top.Fault.{Fault}
use Rattle.pv_draw.specs.declared.top.Fault.TheVariants as fault
use Rattle.pv_draw.specs.Requests.{Request}
use Rattle.pv_draw.specs.Run.{AskedFor, Holds, IsDrawnFor, IsThere, fetch_calls}
use Rattle.pv_draw.specs.Reading.{AsksFor, AsksOne, DrawsFetched, HoldsFetched, IsCause, status_of}

-- ---- a file that is too long

long_list : (n : ℕ) → (bytes : List ℕ) × AreBytes bytes × (n < length bytes)
long_list zero = (0 ∷ [], (omega arith, tt), omega arith)
long_list (suc n) = let l = long_list n in (0 ∷ l.0, (omega arith, l.1), omega (arith, l.2))

-- it has bytes, where the store tells them, and may have any else
pub too_long : (held : Option Stored) (name : List ℕ) (limit : ℕ) (r : Result (Vec ℕ) FileFault) → r ≡ Err file.TooLong → FetchGives held name limit r → (bytes : List ℕ) × Holds held name bytes × AreBytes bytes × (limit < length bytes)
too_long None name limit r e h = let l = long_list limit in (l.0, tt, l.1, l.2)
too_long (Some m) name limit r e h = subst (λ (x : Result (Vec ℕ) FileFault). FetchGives (Some m) name limit x) e h

-- ---- two fetches

more_nothing : {A : Type 0} (o : Option (List A)) → o ≡ more o []
more_nothing None = refl
more_nothing (Some xs) = ap Some (sym (append-nil xs))

-- both are answered
pub both_asked : (r : Request) (old mid new : Option (List Asked)) → mid ≡ more old (Fetch r.first ∷ []) → new ≡ more mid (Fetch r.second ∷ []) → new ≡ more old (fetch_calls r)
both_asked r old mid new first second = second ∙ ap (λ (o : Option (List Asked)). more o (Fetch r.second ∷ [])) first ∙ more_more old (Fetch r.first ∷ []) (Fetch r.second ∷ [])

-- the first isn't
pub first_unanswered : (held : Option Stored) (r : Request) (old new : Option (List Asked)) (f : Fault) → AsksOne {T = Fetched} old new (Fetch r.first) (Err f) → AskedFor held r old new (status_of f)
first_unanswered held r old new fault.Read asks = inl asks
first_unanswered held r old new fault.Memory (inl same) = (0, same ∙ more_nothing old)
first_unanswered held r old new fault.Memory (inr one) = (1, one)

-- the second isn't
pub second_unanswered : (held : Option Stored) (r : Request) (old mid new : Option (List Asked)) (f : Fault) → IsThere held r.first → mid ≡ more old (Fetch r.first ∷ []) → AsksOne {T = Fetched} mid new (Fetch r.second) (Err f) → AskedFor held r old new (status_of f)
second_unanswered held r old mid new fault.Read there first asks = inr (there, both_asked r old mid new first asks)
second_unanswered held r old mid new fault.Memory there first (inl same) = (1, same ∙ first)
second_unanswered held r old mid new fault.Memory there first (inr one) = (2, both_asked r old mid new first one)

-- where the answer is a fault, some fetches were asked for
pub some_asked : {T : Type 0} (held : Option Stored) (r : Request) (old new : Option (List Asked)) (answer : Result T Fault) (f cause : Fault) → answer ≡ Err f → f ≡ cause → AskedFor held r old new (status_of cause) → AsksFor held (Some r) old new answer
some_asked {T} held r old new answer f cause is same asks = subst (λ (x : Result T Fault). AsksFor held (Some r) old new x) (sym is) (subst (λ (x : Fault). AskedFor held r old new (status_of x)) (sym same) asks)

-- a count that rose since, rose since before
pub cause_since : (f : Fault) (old mid new : ℕ) → old ≤ mid → IsCause f (Rose mid new) → IsCause f (Rose old new)
cause_since fault.Read old mid new le rose = rose_earlier old mid new le rose
cause_since fault.Memory old mid new le rose = tt

-- what is said of what was fetched is the answer
pub drawn_for : (held : Option Stored) (r : Request) (first second : Fetched) (text : List ℕ) (s : Status) → HoldsFetched held r.first first → HoldsFetched held r.second second → DrawsFetched r.form r.signature first second text s → IsDrawnFor held r text s
drawn_for held r first second text s one two draws = record {
  first = one.0;
  second = two.0;
  first_held = one.1;
  second_held = two.1;
  first_bytes = one.2;
  second_bytes = two.2;
  drawn = draws one.0 two.0 one.3 two.3;
}
