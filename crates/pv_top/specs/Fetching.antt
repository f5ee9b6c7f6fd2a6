-- What the fetches of a command give, and what its reply places and says.
use Rattle.std.specs.Prelude.{◌≡◌, ◌≢◌, ◌⊎◌, true, false, ℕ, ◌<◌, ◌≤◌, List, [], ◌∷◌, Option, Some, None, Result, Ok, Err, length, map, suc, take, slice_get}
use Rattle.std.specs.Global.{Vec}
use Rattle.std.specs.List.{AllByRecursion, AllZip}
use Rattle.pv_base.specs.Stored.{Stored, AreBytes}
use Rattle.pv_base.specs.Outside.{OnlyAt, more}
use Rattle.pv_base.specs.declared.outside.Asked.{Asked}
use Rattle.pv_base.specs.declared.outside.Asked.TheVariants.{Fetch, Place}
use Rattle.pv_report.specs.Options.{Limits}
use Rattle.pv_report.specs.declared.pair.Fetched.{Fetched}
use Rattle.pv_report.specs.declared.report.Answer.{Answer}
use Rattle.pv_report.specs.declared.status.Status.{Status}
use Rattle.pv_report.specs.declared.status.Status.TheVariants as status
use Rattle.pv_report.specs.Judging.{IsFetched, IsFetchedWithin}
use Rattle.pv_sections.specs.declared.certificate.TheConstants.{LONGEST_CERT}
use Rattle.pv_sections.specs.Certified.{IsCertificateFor}
use Rattle.pv_links.specs.Composed.{IsChainFor}
use Rattle.pv_links.specs.Reading.{AreContents}
use Rattle.pv_migrate.specs.Migrated.{IsMigrated}
use Rattle.pv_maker.specs.Classes.{IsMade}
use Rattle.pv_top.specs.declared.words.Command.{Command}
use Rattle.pv_top.specs.declared.top.Wanted.{Wanted}
use Rattle.pv_top.specs.declared.top.Placed.{Placed}
use Rattle.pv_top.specs.Promise.{Holds}
use Rattle.pv_top.specs.Words.{fetches, made_line, placed_names}
use Rattle.pv_top.specs.Run.{IsAnswer, IsBad, IsPlaced, IsThere, GrewBy, Says, insert_each}

-- ---- fetches

-- bytes that the store has under the name were fetched, within the limit
abbrev pub HoldsFetched : Option Stored → List ℕ × ℕ → Fetched → Type 0
HoldsFetched held f fetched = (bytes : List ℕ) × Holds held f.0 bytes × AreBytes bytes × IsFetchedWithin f.1 fetched bytes

-- .. under the name that is wanted
abbrev pub HoldsWanted : Option Stored → Wanted → Fetched → Type 0
HoldsWanted held w fetched = HoldsFetched held (w.name.now, w.limit) fetched

abbrev pub wanted_names : List Wanted → List (List ℕ)
wanted_names all = map (λ w. w.name.now) all

abbrev pub HoldAll : Option Stored → List (List ℕ × ℕ) → List Fetched → Type 0
HoldAll held all fetched = AllZip (HoldsFetched held) all fetched

-- fetches with these limits gave these bytes
abbrev pub AreFetched : List (List ℕ × ℕ) → List Fetched → List (List ℕ) → Type 0
AreFetched [] [] [] = Unit {0}
AreFetched (f ∷ all) (x ∷ fetched) (bytes ∷ contents) = IsFetchedWithin f.1 x bytes × AreFetched all fetched contents
AreFetched all fetched contents = ⊥

abbrev pub ReadFailed : Status → Type 0 → Type 0
ReadFailed status.ReadFault rose = rose
ReadFailed status.Memory rose = Unit {0}
ReadFailed s rose = ⊥

-- a call is in the record; one for which memory runs out may not be
abbrev pub Asks : {T : Type 0} → Option (List Asked) → Option (List Asked) → Asked → Result T Status → Type 0
Asks old new call (Err status.Memory) = (new ≡ old) ⊎ (new ≡ more old (call ∷ []))
Asks old new call result = new ≡ more old (call ∷ [])

-- fetches of these names are in the record; where one of them fails, those up to this one, and the names before it are there; where memory
-- runs out, the first n of them
abbrev pub FetchesOf : Option Stored → Option (List Asked) → Option (List Asked) → List (List ℕ) → Status → Type 0
FetchesOf held old new names status.Memory = (n : ℕ) × (n ≤ length names) × GrewBy old new (map Fetch (take n names))
FetchesOf held old new names status.ReadFault = (n : ℕ) × (n < length names) × AllByRecursion (IsThere held) (take n names) × GrewBy old new (map Fetch (take (suc n) names))
FetchesOf held old new names s = GrewBy old new (map Fetch names)

abbrev pub AsksAll : {T : Type 0} → Option Stored → Option (List Asked) → Option (List Asked) → List (List ℕ) → Result T Status → Type 0
AsksAll held old new names (Ok x) = GrewBy old new (map Fetch names)
AsksAll held old new names (Err s) = FetchesOf held old new names s

-- ---- the reply

-- what a command answers to what was fetched
abbrev pub AnswersFetched : Command (List ℕ) → List Fetched → List ℕ → Status → Type 0
AnswersFetched c fetched text s = (contents : List (List ℕ)) → AreFetched (fetches c) fetched contents → IsAnswer c contents text s

-- a name and bytes
abbrev pub placed_of : Placed → List ℕ × List ℕ
placed_of p = (p.name.now, p.bytes.items)

abbrev pub contents_of : List Placed → List (List ℕ × List ℕ)
contents_of placed = map placed_of placed

abbrev pub names_in : List (List ℕ × List ℕ) → List (List ℕ)
names_in placed = map (λ p. p.0) placed

abbrev pub bytes_in : List (List ℕ × List ℕ) → List (List ℕ)
bytes_in placed = map (λ p. p.1) placed

-- bytes, if any, under this name
abbrev pub named_as : List ℕ → Option (Vec ℕ) → List (List ℕ × List ℕ)
named_as name None = []
named_as name (Some v) = (name, v.items) ∷ []

-- what a command places, by the bytes of its files and the status of its answer; nothing, where it has no name for it or one of its
-- files is bad
abbrev pub Places : Command (List ℕ) → List (List ℕ) → Status → List (List ℕ × List ℕ) → Type 0
Places c contents s [] = (placed_names c ≡ []) ⊎ IsBad s
Places c contents s (p ∷ placed) = (placed_names c ≡ names_in (p ∷ placed)) × IsPlaced c contents (bytes_in (p ∷ placed)) × (IsBad s → ⊥)

-- .. by what was fetched
abbrev pub PlacesFetched : Command (List ℕ) → List Fetched → Status → List (List ℕ × List ℕ) → Type 0
PlacesFetched c fetched s placed = (contents : List (List ℕ)) → AreFetched (fetches c) fetched contents → Places c contents s placed

-- the certificate for two files that were fetched, under this name; nothing, where one of them has no reading
abbrev pub ShowsIn : Limits → List ℕ → Fetched → Fetched → Status → List (List ℕ × List ℕ) → Type 0
ShowsIn limits name first second s (p ∷ []) = (p.0 ≡ name) × ((a b : List ℕ) → IsFetched first a → IsFetched second b → IsCertificateFor limits a b p.1) × (s ≢ status.BadClass)
ShowsIn limits name first second s [] = s ≡ status.BadClass
ShowsIn limits name first second s _ = ⊥

-- the chain of three files and two certificates that were fetched, under this name; nothing, where one of them is bad
abbrev pub ComposesIn : List ℕ → (first second third one two : Fetched) → Status → List (List ℕ × List ℕ) → Type 0
ComposesIn name first second third one two s (p ∷ []) = (p.0 ≡ name) × ((a b c x y : List ℕ) → AreContents first second third one two a b c x y → IsChainFor a b c x y p.1) × (s ≡ status.AllEquivalent)
ComposesIn name first second third one two s [] = s ≢ status.AllEquivalent
ComposesIn name first second third one two s _ = ⊥

-- the certificate of version 2 for the one of version 1 that was fetched, under this name; nothing, where that has no reading
abbrev pub MigratesIn : List ℕ → Fetched → Status → List (List ℕ × List ℕ) → Type 0
MigratesIn name cert s (p ∷ []) = (p.0 ≡ name) × ((old : List ℕ) → IsFetchedWithin LONGEST_CERT cert old → IsMigrated old p.1) × (s ≡ status.AllEquivalent)
MigratesIn name cert s [] = s ≢ status.AllEquivalent
MigratesIn name cert s _ = ⊥

-- what is said where two classes were made
abbrev pub IsMadeAnswer : ℕ → Answer → Type 0
IsMadeAnswer count a = (a.text.items ≡ made_line count) × (a.status ≡ status.AllEquivalent)

-- these two classes, under these names
abbrev pub MakesIn : (seed count : ℕ) → (first second : List ℕ) → List (List ℕ × List ℕ) → Type 0
MakesIn seed count first second (p ∷ q ∷ []) = (p.0 ≡ first) × (q.0 ≡ second) × IsMade seed count false p.1 × IsMade seed count true q.1
MakesIn seed count first second placed = ⊥

-- ---- how it is given

-- a place failed
abbrev pub PlaceFailed : Status → Type 0 → Type 0
PlaceFailed status.WriteFault rose = rose
PlaceFailed status.Memory rose = Unit {0}
PlaceFailed s rose = ⊥

-- the store, where what it holds is known, has these bytes under these names, and nothing else changed
abbrev pub PlacesIn : Option Stored → Option Stored → List (List ℕ × List ℕ) → Type 0
PlacesIn None None placed = Unit {0}
PlacesIn (Some old) (Some new) placed = new ≡ insert_each old (names_in placed) (bytes_in placed)
PlacesIn _ _ placed = ⊥

-- only what it has under the name may have changed
abbrev pub ChangesAt : Option Stored → Option Stored → List ℕ → Type 0
ChangesAt None None name = Unit {0}
ChangesAt (Some old) (Some new) name = OnlyAt name old new
ChangesAt _ _ name = ⊥

-- places are in the record
abbrev pub PlaceCalls : Option (List Asked) → Option (List Asked) → List (List ℕ × List ℕ) → Type 0
PlaceCalls old new placed = GrewBy old new (map Place (names_in placed))

-- .. up to the one of number n, which failed; where memory ran out in it, it may be missing
abbrev pub PlaceCallsTo : Option (List Asked) → Option (List Asked) → List (List ℕ × List ℕ) → ℕ → Status → Type 0
PlaceCallsTo old new placed n status.Memory = PlaceCalls old new (take n placed) ⊎ PlaceCalls old new (take (suc n) placed)
PlaceCallsTo old new placed n s = PlaceCalls old new (take (suc n) placed)

-- all of these were placed
pub record AllPlaced (held now : Option Stored) (old new : Option (List Asked)) (placed : List (List ℕ × List ℕ)) : Type 0 where
  pub holds : PlacesIn held now placed
  pub calls : PlaceCalls old new placed

-- the place of number n was cut off
pub record PlaceCut (held now : Option Stored) (old new : Option (List Asked)) (placed : List (List ℕ × List ℕ)) (s : Status) (rose : Type 0) : Type 0 where
  pub failed : PlaceFailed s rose
  pub n : ℕ
  pub one : List ℕ × List ℕ
  pub next : slice_get placed n ≡ Some one
  pub between : Option Stored
  pub front : PlacesIn held between (take n placed)
  pub changes : ChangesAt between now one.0
  pub calls : PlaceCallsTo old new placed n s

abbrev pub PlacesEach : {T : Type 0} → Option Stored → Option Stored → Option (List Asked) → Option (List Asked) → List (List ℕ × List ℕ) → Result T Status → Type 0 → Type 0
PlacesEach held now old new placed (Ok x) rose = AllPlaced held now old new placed
PlacesEach held now old new placed (Err s) rose = PlaceCut held now old new placed s rose

-- the text is said, once what there is to place is placed; where that fails, nothing is
abbrev pub Gives : Option Stored → Option Stored → Option (List Asked) → Option (List Asked) → List (List ℕ × List ℕ) → Option (List ℕ) → Option (List ℕ) → List ℕ → Status → Status → Type 0 → Type 0 → Type 0
Gives held now old new placed before after text meant result files_rose write_rose = (AllPlaced held now old new placed × Says before after text meant result write_rose) ⊎ (PlaceCut held now old new placed result files_rose × (after ≡ before))
