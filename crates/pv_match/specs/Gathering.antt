-- How the matches of a table are gathered, node by node in sets, and put together as ordered lists, up to a limit.
use Rattle.std.specs.Prelude.{◌≡◌, ◌⊎◌, ℕ, suc, ◌≤◌, Bool, true, false, List, length, Some, slice_get, Result, Ok}
use Rattle.std.specs.Bool.{OnTrue, OnFalse}
use Rattle.pv_graph.specs.Walks.{In}
use Rattle.pv_graph.specs.Graphs.{Graph}
use Rattle.pv_pattern.specs.Patterns.{Axiom}
use Rattle.pv_match.specs.declared.found.Match.{Match}
use Rattle.pv_match.specs.declared.found.Param.{Param}
use Rattle.pv_match.specs.declared.gathered.Gathered.{Gathered}
use Rattle.pv_match.specs.Matches.{IsMatch}
use Rattle.pv_match.specs.All.{AreMatchesOf, AreMatchesWhere}
use Rattle.std.specs.List.Sorted.{IsStrictlySortedBy}
use Rattle.pv_match.specs.declared.found.Matches as answers
use Rattle.pv_match.specs.declared.found.Matches.TheVariants.{All, More}
use Rattle.pv_match.specs.Orders.{match_cmp, AreOne}

-- ---- sets and lists that gain others

-- it has one for each match of the list
abbrev pub HasOne : List Match → Match → Type 0
HasOne set x = (y : Match) × In set y × AreOne x y

-- it holds matches of one list or of another alone
abbrev pub AreFrom : List Match → List Match → List Match → Type 0
AreFrom old more new = (x : Match) → In new x → In old x ⊎ In more x

-- it holds what was held before, some of a list, and nothing else
pub record GathersSome (old more new : List Match) : Type 0 where
  pub each : AreFrom old more new
  pub kept : (x : Match) → In old x → In new x

-- .. and all of the list
pub record GathersAll (old more new : List Match) : Type 0 where
  pub some_ : GathersSome old more new
  pub has : (x : Match) → In more x → HasOne new x

-- .. and all of the list but what is still to come
pub record IsGathering (old more set rest : List Match) : Type 0 where
  pub some_ : GathersSome old more set
  pub within : (x : Match) → In rest x → In more x
  pub has : (x : Match) → In more x → In rest x ⊎ HasOne set x

-- ---- the matches of a table

-- one of the axioms at these places
abbrev pub IsTried : List Axiom → List ℕ → Axiom → Type 0
IsTried table places a = (i : ℕ) × In places i × (slice_get table i ≡ Some a)

-- all axioms at the nodes before, and those at some places at the node at hand
abbrev pub TriedAt : List Axiom → List ℕ → List ℕ → ℕ → Axiom → ℕ → Type 0
TriedAt table before places n a m = (In table a × In before m) ⊎ (IsTried table places a × (m ≡ n))

-- one more match than the limit
pub record AreTooMany (g : Graph) (numbers assumed : List ℕ) (table : List Axiom) (limit : ℕ) (list : List Match) : Type 0 where
  pub long : length list ≡ suc limit
  pub each : (x : Match) → In list x → (a : Axiom) × In table a × (x.axiom ≡ a.number) × IsMatch g numbers assumed a x.params.items x.classes.items

-- the set has one more match than the limit, or exactly the matches at the nodes before and those of the axioms at some places at the
-- node at hand
abbrev pub Tries : Graph → List ℕ → List ℕ → List Axiom → ℕ → List ℕ → List ℕ → ℕ → Bool → List Match → Type 0
Tries g numbers assumed table limit before places n over set = OnTrue over (AreTooMany g numbers assumed table limit set) × OnFalse over (AreMatchesWhere g numbers assumed (TriedAt table before places n) set)

-- the set has one more match than the limit, or exactly the matches at these nodes
abbrev pub Finds : Graph → List ℕ → List ℕ → List Axiom → ℕ → List ℕ → Bool → List Match → Type 0
Finds g numbers assumed table limit items over set = OnTrue over (AreTooMany g numbers assumed table limit set) × OnFalse over (AreMatchesOf g numbers assumed table items set)

-- what is found at these nodes: one more match than the limit; or exactly the matches there, no more than the limit; in their order
abbrev pub IsFound : Graph → List ℕ → List ℕ → List Axiom → ℕ → List ℕ → answers.Matches → Type 0
IsFound g numbers assumed table limit items (All list) = AreMatchesOf g numbers assumed table items list.items × IsStrictlySortedBy match_cmp list.items × (length list.items ≤ limit)
IsFound g numbers assumed table limit items (More n) = (n ≡ suc limit) × (list : List Match) × AreTooMany g numbers assumed table limit list × IsStrictlySortedBy match_cmp list

-- ---- all matches of a table

-- exactly the matches of a table
pub record AreMatchesAll (g : Graph) (numbers assumed : List ℕ) (table : List Axiom) (list : List Match) : Type 0 where
  pub each : (x : Match) → In list x → (a : Axiom) × In table a × (x.axiom ≡ a.number) × IsMatch g numbers assumed a x.params.items x.classes.items
  pub all : (a : Axiom) (params : List Param) (classes : List ℕ) → In table a → IsMatch g numbers assumed a params classes → (x : Match) × In list x × (x.axiom ≡ a.number) × (x.params.items ≡ params) × (x.classes.items ≡ classes)

-- the set has one more match than the limit, or exactly the matches of the table
abbrev pub FindsAll : Graph → List ℕ → List ℕ → List Axiom → ℕ → Bool → List Match → Type 0
FindsAll g numbers assumed table limit over set = OnTrue over (AreTooMany g numbers assumed table limit set) × OnFalse over (AreMatchesAll g numbers assumed table set)

-- what is found of a table: one more match than the limit; or exactly its matches, no more than the limit; in their order
abbrev pub IsFoundAll : Graph → List ℕ → List ℕ → List Axiom → ℕ → answers.Matches → Type 0
IsFoundAll g numbers assumed table limit (All list) = AreMatchesAll g numbers assumed table list.items × IsStrictlySortedBy match_cmp list.items × (length list.items ≤ limit)
IsFoundAll g numbers assumed table limit (More n) = (n ≡ suc limit) × (list : List Match) × AreTooMany g numbers assumed table limit list × IsStrictlySortedBy match_cmp list

-- the matches that were gathered, or how many they are where they are too many
abbrev pub IsListing : Gathered → answers.Matches → Type 0
IsListing got (All list) = (got.is_over ≡ false) × (list.items ≡ got.list.items)
IsListing got (More n) = (got.is_over ≡ true) × (n ≡ length got.list.items)

-- ---- pieces

-- each part that isn't out of memory has what is found at the items of its number
abbrev pub AreParts : {E : Type 0} → Graph → List ℕ → List ℕ → List Axiom → ℕ → (ℕ → List ℕ) → List (Result Gathered E) → Type 0
AreParts g numbers assumed table limit items parts = (k : ℕ) (got : Gathered) → slice_get parts k ≡ Some (Ok got) → Finds g numbers assumed table limit (items k) got.is_over got.list.items
