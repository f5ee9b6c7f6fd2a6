-- What the record of calls is after the fetches of a command.
use Rattle.std.proofs.Common.{◌≡◌, ◌+◌, ◌<◌, ◌≤◌, ℕ, zero, suc, List, [], ◌∷◌, ◌++◌, length, get_or, map, take, Option, Some, None, Err, inl, inr, refl, sym, ap, subst, ◌∙◌, arith, length-append}
use Rattle.std.proofs.lemmas.Option.{slice_get-get_or}
use Rattle.std.proofs.lemmas.List.{append-nil, map-append, take_at}
use Rattle.std.specs.Prelude.{slice_get}
use Rattle.std.specs.List.{AllByRecursion, AllZip}
use Rattle.pv_base.specs.Stored.{Stored}
use Rattle.pv_base.specs.Outside.{Rose, more, rose_earlier}
use Rattle.pv_base.proofs.Cited.{more_more}
use Rattle.pv_base.specs.declared.outside.Asked.{Asked}
use Rattle.pv_base.specs.declared.outside.Asked.TheVariants.{Fetch}
use Rattle.pv_report.specs.declared.status.Status.{Status}
use Rattle.pv_report.specs.declared.status.Status.TheVariants as status
use Rattle.pv_top.specs.Run.{IsThere, GrewBy}
use Rattle.pv_report.specs.declared.pair.Fetched.{Fetched}
use Rattle.pv_report.proofs.Cited.{take_next, zip_next}
use Rattle.pv_top.specs.declared.top.Wanted.{Wanted}
use Rattle.pv_top.specs.Fetching.{Asks, FetchesOf, HoldsWanted, ReadFailed, wanted_names}

pub more_nothing : {A : Type 0} (o : Option (List A)) → o ≡ more o []
more_nothing None = refl
more_nothing (Some xs) = ap Some (sym (append-nil xs))

-- no fetch yet
pub grew_none : (old : Option (List Asked)) → GrewBy old old []
grew_none old = more_nothing old

-- calls, and more calls
pub grew_more : (old mid new : Option (List Asked)) (front rest : List Asked) → GrewBy old mid front → new ≡ more mid rest → GrewBy old new (front ++ rest)
grew_more old mid new front rest p q = q ∙ ap (λ (o : Option (List Asked)). more o rest) p ∙ more_more old front rest

-- one fetch more
pub grew_next : (old mid new : Option (List Asked)) (front : List (List ℕ)) (name : List ℕ) → GrewBy old mid (map Fetch front) → new ≡ more mid (Fetch name ∷ []) → GrewBy old new (map Fetch (front ++ name ∷ []))
grew_next old mid new front name p q = grew_more old mid new (map Fetch front) (Fetch name ∷ []) p q ∙ ap (more old) (sym (map-append Fetch front (name ∷ [])))

-- the front of names, and one more
take_front : (front rest : List (List ℕ)) → take (length front) (front ++ rest) ≡ front
take_front front rest = take_at front rest (length front) refl

take_one_more : (front rest : List (List ℕ)) (name : List ℕ) → take (suc (length front)) (front ++ name ∷ rest) ≡ front ++ name ∷ []
take_one_more [] rest name = refl
take_one_more (x ∷ front) rest name = ap (λ (xs : List (List ℕ)). x ∷ xs) (take_one_more front rest name)

abbrev Grew : Option (List Asked) → Option (List Asked) → List (List ℕ) → Type 0
Grew old new names = GrewBy old new (map Fetch names)

-- a fetch that isn't answered is the last of a command
pub asked_next : (T : Type 0) (held : Option Stored) (old mid new : Option (List Asked)) (front rest : List (List ℕ)) (name : List ℕ) (s : Status) (rose : Type 0) → Grew old mid front → AllByRecursion (IsThere held) front → ReadFailed s rose
    → Asks {T = T} mid new (Fetch name) (Err s) → FetchesOf held old new (front ++ name ∷ rest) s
asked_next T held old mid new front rest name status.ReadFault rose p there failed q = (
  length front,
  omega (arith, length-append front (name ∷ rest)),
  subst (AllByRecursion (IsThere held)) (sym (take_front front (name ∷ rest))) there,
  subst (Grew old new) (sym (take_one_more front rest name)) (grew_next old mid new front name p q),
)
asked_next T held old mid new front rest name status.Memory rose p there failed (inl e) = (
  length front,
  omega (arith, length-append front (name ∷ rest)),
  subst (Grew old new) (sym (take_front front (name ∷ rest))) (e ∙ p),
)
asked_next T held old mid new front rest name status.Memory rose p there failed (inr e) = (
  suc (length front),
  omega (arith, length-append front (name ∷ rest)),
  subst (Grew old new) (sym (take_one_more front rest name)) (grew_next old mid new front name p e),
)
asked_next T held old mid new front rest name _ rose p there failed q = absurd failed

-- ---- the files of a command so far

-- these are the fetches so far, and what they gave
pub record AskedSoFar (held : Option Stored) (old now : Option (List Asked)) (front : List Wanted) (fetched : List Fetched) : Type 0 where
  pub grew : GrewBy old now (map Fetch (wanted_names front))
  pub holds : AllZip (HoldsWanted held) front fetched

pub asked_nothing : (held : Option Stored) (old : Option (List Asked)) → AskedSoFar held old old [] []
asked_nothing held old = record { grew = grew_none old; holds = tt }

names_push : (front : List Wanted) (w : Wanted) → wanted_names (front ++ w ∷ []) ≡ wanted_names front ++ w.name.now ∷ []
names_push front w = map-append (λ (v : Wanted). v.name.now) front (w ∷ [])

pub asked_one_more : (held : Option Stored) (old mid new : Option (List Asked)) (all : List Wanted) (k : ℕ) (fetched : List Fetched) (d : Wanted) (x : Fetched) (now : Option Stored) → k < length all → AskedSoFar held old mid (take k all) fetched → now ≡ held → HoldsWanted now (get_or all k d) x
    → new ≡ more mid (Fetch (get_or all k d).name.now ∷ []) → AskedSoFar held old new (take (k + 1) all) (fetched ++ x ∷ [])
asked_one_more held old mid new all k fetched d x now lt so same holds asked =
    let w = get_or all k d in
    let at = slice_get-get_or all k d lt in
    record {
      grew = subst (λ (names : List (List ℕ)). GrewBy old new (map Fetch names)) (sym (ap wanted_names (take_next all k w at) ∙ names_push (take k all) w)) (grew_next old mid new (wanted_names (take k all)) w.name.now so.grew asked);
      holds = zip_next (HoldsWanted held) all k fetched w x at so.holds (subst (λ (h : Option Stored). HoldsWanted h w x) same holds);
    }

there_of : (held : Option Stored) (front : List Wanted) (fetched : List Fetched) → AllZip (HoldsWanted held) front fetched → AllByRecursion (IsThere held) (wanted_names front)
there_of held [] [] h = tt
there_of held (w ∷ front) (x ∷ fetched) h = let one = h.0 in ((one.0, one.1), there_of held front fetched h.1)
there_of held _ _ h = absurd h

names_around : (all : List Wanted) (k : ℕ) (w : Wanted) → slice_get all k ≡ Some w → (rest : List (List ℕ)) × (wanted_names all ≡ wanted_names (take k all) ++ w.name.now ∷ rest)
names_around [] k w at = absurd (cc at)
names_around (v ∷ all) zero w at = let same : v ≡ w = cc at in (wanted_names all, ap (λ (z : Wanted). z.name.now ∷ wanted_names all) same)
names_around (v ∷ all) (suc k) w at = let rest = names_around all k w at in (rest.0, ap (λ (ns : List (List ℕ)). v.name.now ∷ ns) rest.1)

-- a fetch that isn't answered is the last
pub asked_at : (T : Type 0) (held : Option Stored) (old mid new : Option (List Asked)) (all : List Wanted) (k : ℕ) (fetched : List Fetched) (d : Wanted) (s : Status) (rose : Type 0) → k < length all → AskedSoFar held old mid (take k all) fetched → ReadFailed s rose
    → Asks {T = T} mid new (Fetch (get_or all k d).name.now) (Err s) → FetchesOf held old new (wanted_names all) s
asked_at T held old mid new all k fetched d s rose lt so failed asks =
    let w = get_or all k d in
    let around = names_around all k w (slice_get-get_or all k d lt) in
    subst (λ (names : List (List ℕ)). FetchesOf held old new names s) (sym around.1) (asked_next T held old mid new (wanted_names (take k all)) around.0 w.name.now s rose so.grew (there_of held (take k all) fetched so.holds) failed asks)

-- a count that rose since, rose since before
pub failed_since : (s : Status) (old mid new : ℕ) → old ≤ mid → ReadFailed s (Rose mid new) → ReadFailed s (Rose old new)
failed_since status.ReadFault old mid new le failed = rose_earlier old mid new le failed
failed_since status.Memory old mid new le failed = tt
failed_since _ old mid new le failed = absurd failed
