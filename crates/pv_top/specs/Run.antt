-- What the top call says, asks and leaves, by the command that its words are.
use Rattle.std.specs.Prelude.{◌≡◌, ◌≢◌, ◌⊎◌, true, false, ℕ, suc, ◌<◌, List, [], ◌∷◌, ◌++◌, length, map, take, slice_get, Option, Some, None}
use Rattle.std.specs.List.{AllByRecursion, AllZip}
use Rattle.std.specs.FinMap.{insert}
use Rattle.pv_base.specs.Stored.{Stored, AreBytes}
use Rattle.pv_base.specs.Outside.{OnlyAt, more}
use Rattle.pv_base.specs.declared.outside.Asked.{Asked}
use Rattle.pv_base.specs.declared.outside.Asked.TheVariants.{Fetch, Place}
use Rattle.pv_report.specs.declared.status.Status.{Status}
use Rattle.pv_report.specs.declared.status.Status.TheVariants as status
use Rattle.pv_report.specs.Report.{Judged}
use Rattle.pv_differences.specs.Refuted.{Refuted}
use Rattle.pv_sections.specs.Certified.{IsCertificateFor}
use Rattle.pv_sections.specs.Ruled.{Ruled}
use Rattle.pv_links.specs.Composed.{Composed, IsChainFor}
use Rattle.pv_links.specs.Ruled.{ChainRuled}
use Rattle.pv_migrate.specs.Migrated.{IsMigrated, Migrated}
use Rattle.pv_maker.specs.Classes.{IsMade}
use Rattle.pv_report.specs.declared.verdict.Graphs.{Graphs}
use Rattle.pv_report.specs.declared.verdict.Graphs.TheVariants.{Least, LeastOrCleared}
use Rattle.pv_top.specs.declared.words.Mode.{Mode}
use Rattle.pv_top.specs.declared.words.Mode.TheVariants.{Counted}
use Rattle.pv_top.specs.declared.words.Command.{Command}
use Rattle.pv_top.specs.declared.words.Command.TheVariants.{Validate, Check, Compose, CheckChain, Migrate, Refute, Make}
use Rattle.pv_top.specs.Words.{fetches, names_of, placed_names, made_line, bad_words}
use Rattle.pv_top.specs.Promise.{Holds}

-- ---- what is said

-- the text was taken, and the status goes with it; or the sink failed, and took a front of the text
abbrev pub Puts : Option (List ℕ) → Option (List ℕ) → List ℕ → Status → Status → Type 0 → Type 0
Puts old new text meant result rose = ((result ≡ meant) × (new ≡ more old text)) ⊎ ((result ≡ status.WriteFault) × rose × ((n : ℕ) × (new ≡ more old (take n text))))

-- an empty text is not put, so that nothing of it can fail
abbrev pub Says : Option (List ℕ) → Option (List ℕ) → List ℕ → Status → Status → Type 0 → Type 0
Says old new [] meant result rose = (result ≡ meant) × (new ≡ old)
Says old new (b ∷ text) meant result rose = Puts old new (b ∷ text) meant result rose

-- the graphs in which a search may find roots equal
abbrev pub graphs_in : Mode (List ℕ) → Graphs
graphs_in Counted = LeastOrCleared
graphs_in mode = Least

-- the text that a command answers to the bytes of its files, and the status that goes with it
abbrev pub IsAnswer : Command (List ℕ) → List (List ℕ) → List ℕ → Status → Type 0
IsAnswer (Validate a b axioms rounds budget mode) (x ∷ y ∷ []) text s = Judged (record { limits = record { axioms = axioms; rounds = rounds; budget = budget }; graphs = graphs_in mode }) x y text s
IsAnswer (Check a b cert) (x ∷ y ∷ z ∷ []) text s = Ruled x y z text s
IsAnswer (Compose a b c x y out) (j ∷ k ∷ l ∷ m ∷ n ∷ []) text s = Composed j k l m n text s
IsAnswer (CheckChain a c chain) (x ∷ y ∷ z ∷ []) text s = ChainRuled x y z text s
IsAnswer (Migrate cert out) (x ∷ []) text s = Migrated x text s
IsAnswer (Refute a b tries steps) (x ∷ y ∷ []) text s = Refuted (record { tries = tries; steps = steps }) x y text s
IsAnswer (Make seed count a b) [] text s = (text ≡ made_line count) × (s ≡ status.AllEquivalent)
IsAnswer c contents text s = ⊥

-- the bytes that the store had under the names of a command's files
abbrev pub AreContents : Option Stored → Command (List ℕ) → List (List ℕ) → Type 0
AreContents held c contents = AllZip (λ (f : List ℕ × ℕ) (bytes : List ℕ). Holds held f.0 bytes) (fetches c) contents

-- what the command answers to them was said
pub record SaidOf (held : Option Stored) (c : Command (List ℕ)) (old new : Option (List ℕ)) (write_rose : Type 0) (result : Status) : Type 0 where
  pub contents : List (List ℕ)
  pub are_held : AreContents held c contents
  pub are_bytes : AllByRecursion AreBytes contents
  pub text : List ℕ
  pub meant : Status
  pub answer : IsAnswer c contents text meant
  pub says : Says old new text meant result write_rose

-- the status of an answer that a file is no class, or no certificate or chain, or not one for the others
abbrev pub IsBad : Status → Type 0
IsBad status.BadClass = Unit {0}
IsBad status.BadCert = Unit {0}
IsBad s = ⊥

-- so it is of one of the command's files, as its answer says
pub record HasBadFile (held : Option Stored) (c : Command (List ℕ)) : Type 0 where
  pub contents : List (List ℕ)
  pub are_held : AreContents held c contents
  pub text : List ℕ
  pub meant : Status
  pub bad : IsBad meant
  pub answer : IsAnswer c contents text meant

-- the command places something, and this failed before anything was said
abbrev pub FailsToPlace : Command (List ℕ) → Option (List ℕ) → Option (List ℕ) → Type 0 → Type 0
FailsToPlace c old new files_rose = (placed_names c ≢ []) × files_rose × (new ≡ old)

-- What is said: that the words are no command; or that of a command, where no call of the files failed and memory didn't run out, else
-- nothing.
abbrev pub Answered : Option Stored → Option (Command (List ℕ)) → Option (List ℕ) → Option (List ℕ) → Type 0 → Type 0 → Status → Type 0
Answered held c old new files_rose write_rose status.Memory = new ≡ old
Answered held None old new files_rose write_rose result = Says old new bad_words status.BadWords result write_rose
Answered held (Some c) old new files_rose write_rose status.ReadFault = files_rose × (new ≡ old)
Answered held (Some c) old new files_rose write_rose status.WriteFault = FailsToPlace c old new files_rose ⊎ SaidOf held c old new write_rose status.WriteFault
Answered held (Some c) old new files_rose write_rose result = SaidOf held c old new write_rose result

-- ---- what is asked

-- the fetches of a command, in their order
abbrev pub fetch_calls : Command (List ℕ) → List Asked
fetch_calls c = map Fetch (names_of c)

-- and then its places
abbrev pub all_calls : Command (List ℕ) → List Asked
all_calls c = fetch_calls c ++ map Place (placed_names c)

-- some bytes stand under the name
abbrev pub IsThere : Option Stored → List ℕ → Type 0
IsThere held name = (bytes : List ℕ) × Holds held name bytes

-- the record of calls grew by these
abbrev pub GrewBy : Option (List Asked) → Option (List Asked) → List Asked → Type 0
GrewBy old new calls = new ≡ more old calls

-- .. by the fetches of a command, and its places up to one that failed
abbrev pub AskedToPlace : Command (List ℕ) → Option (List Asked) → Option (List Asked) → Type 0
AskedToPlace c old new = (n : ℕ) × (n < length (placed_names c)) × GrewBy old new (fetch_calls c ++ map Place (take (suc n) (placed_names c)))

-- where the sink failed: by all calls, or by the fetches alone, since a file of the command is bad
abbrev pub AskedUnsaid : Option Stored → Command (List ℕ) → Option (List Asked) → Option (List Asked) → Type 0
AskedUnsaid held c old new = GrewBy old new (all_calls c) ⊎ (HasBadFile held c × GrewBy old new (fetch_calls c))

-- The record of calls grows by all calls of the command; by its fetches alone, where a file of it is bad. Where a fetch fails,
-- it grows by those up to this one, and the names before it are there; where a place fails, by the calls up to this one; and where
-- memory runs out, by the first n calls, for some n.
abbrev pub AskedFor : Option Stored → Command (List ℕ) → Option (List Asked) → Option (List Asked) → Type 0 → Status → Type 0
AskedFor held c old new write_rose status.Memory = (n : ℕ) × GrewBy old new (take n (all_calls c))
AskedFor held c old new write_rose status.ReadFault = (n : ℕ) × (n < length (names_of c)) × AllByRecursion (IsThere held) (take n (names_of c)) × GrewBy old new (map Fetch (take (suc n) (names_of c)))
AskedFor held c old new write_rose status.AllEquivalent = GrewBy old new (all_calls c)
AskedFor held c old new write_rose status.Others = GrewBy old new (all_calls c)
AskedFor held c old new write_rose status.WriteFault = AskedToPlace c old new ⊎ (write_rose × AskedUnsaid held c old new)
AskedFor held c old new write_rose result = GrewBy old new (fetch_calls c)

-- Words that are no command ask nothing.
abbrev pub CallsFor : Option Stored → Option (Command (List ℕ)) → Option (List Asked) → Option (List Asked) → Type 0 → Status → Type 0
CallsFor held None old new write_rose result = new ≡ old
CallsFor held (Some c) old new write_rose result = AskedFor held c old new write_rose result

-- ---- what is left

-- the bytes that a command places under its names, by the bytes of its files
abbrev pub IsPlaced : Command (List ℕ) → List (List ℕ) → List (List ℕ) → Type 0
IsPlaced (Validate a b axioms rounds budget mode) (x ∷ y ∷ []) (bytes ∷ []) = IsCertificateFor (record { axioms = axioms; rounds = rounds; budget = budget }) x y bytes
IsPlaced (Compose a b c x y out) (j ∷ k ∷ l ∷ m ∷ n ∷ []) (bytes ∷ []) = IsChainFor j k l m n bytes
IsPlaced (Migrate cert out) (x ∷ []) (bytes ∷ []) = IsMigrated x bytes
IsPlaced (Make seed count a b) [] (plain ∷ twin ∷ []) = IsMade seed count false plain × IsMade seed count true twin
IsPlaced c contents bytes = ⊥

-- a store after bytes were placed under names, one after the other
abbrev pub insert_each : Stored → List (List ℕ) → List (List ℕ) → Stored
insert_each m (name ∷ names) (bytes ∷ more) = insert_each (insert m name bytes) names more
insert_each m names more = m

-- these names hold what the command places for what the store had under the names of its files, and nothing else changed
pub record HoldsPlaced (old new : Stored) (c : Command (List ℕ)) (names : List (List ℕ)) : Type 0 where
  pub contents : List (List ℕ)
  pub are_held : AreContents (Some old) c contents
  pub bytes : List (List ℕ)
  pub placed : IsPlaced c contents bytes
  pub new_is : new ≡ insert_each old names bytes

-- .. if any
abbrev pub HoldsFront : Stored → Stored → Command (List ℕ) → List (List ℕ) → Type 0
HoldsFront old new c [] = new ≡ old
HoldsFront old new c (name ∷ names) = HoldsPlaced old new c (name ∷ names)

-- a place was cut off: the names before it hold what the command places, and besides these only its own may have changed
pub record IsCutOff (old new : Stored) (c : Command (List ℕ)) : Type 0 where
  pub n : ℕ
  pub name : List ℕ
  pub next : slice_get (placed_names c) n ≡ Some name
  pub between : Stored
  pub front : HoldsFront old between c (take n (placed_names c))
  pub changes : OnlyAt name between new

-- where the sink failed, the command had placed what it places; or one of its files is bad, and nothing changed
abbrev pub LeavesUnsaid : Command (List ℕ) → Stored → Stored → Type 0
LeavesUnsaid c old new = HoldsPlaced old new c (placed_names c) ⊎ (HasBadFile (Some old) c × (new ≡ old))

-- A report leaves what the command places under its names. A place that fails, and want of memory, cut it off. Else nothing changes.
abbrev pub LeavesAt : Command (List ℕ) → Stored → Stored → Type 0 → Type 0 → Status → Type 0
LeavesAt c old new files_rose write_rose status.AllEquivalent = HoldsPlaced old new c (placed_names c)
LeavesAt c old new files_rose write_rose status.Others = HoldsPlaced old new c (placed_names c)
LeavesAt c old new files_rose write_rose status.WriteFault = (files_rose × IsCutOff old new c) ⊎ (write_rose × LeavesUnsaid c old new)
LeavesAt c old new files_rose write_rose status.Memory = IsCutOff old new c
LeavesAt c old new files_rose write_rose result = new ≡ old

-- the same, where what the store holds is known, as it is afterwards too
abbrev pub LeavesKnown : Command (List ℕ) → Option Stored → Option Stored → Type 0 → Type 0 → Status → Type 0
LeavesKnown c None None files_rose write_rose result = Unit {0}
LeavesKnown c (Some old) (Some new) files_rose write_rose result = LeavesAt c old new files_rose write_rose result
LeavesKnown c old new files_rose write_rose result = ⊥

abbrev pub LeavesBy : List (List ℕ) → Command (List ℕ) → Option Stored → Option Stored → Type 0 → Type 0 → Status → Type 0
LeavesBy [] c old new files_rose write_rose result = new ≡ old
LeavesBy (name ∷ names) c old new files_rose write_rose result = LeavesKnown c old new files_rose write_rose result

-- what the store holds after the call: a command that places nothing, and words that are no command, change nothing
abbrev pub Leaves : Option (Command (List ℕ)) → Option Stored → Option Stored → Type 0 → Type 0 → Status → Type 0
Leaves None old new files_rose write_rose result = new ≡ old
Leaves (Some c) old new files_rose write_rose result = LeavesBy (placed_names c) c old new files_rose write_rose result
