-- From bindings to matches: what a binding says of the parameters, the classes and the conditions.
use Rattle.std.specs.Prelude.{◌≡◌, ◌↔◌, ℕ, Bool, true, false, ◌&&◌, IsTrue, List, [], ◌∷◌, ◌++◌, map, length, Some, flat_map, slice_get, ◌≤◌}
use Rattle.std.specs.List.{AllByRecursion}
use Rattle.pv_graph.specs.Walks.{In}
use Rattle.pv_graph.specs.Graphs.{Graph, form_at}
use Rattle.pv_pattern.specs.declared.names.NameId.{NameId}
use Rattle.pv_pattern.specs.declared.names.NameId.TheVariants.{Operation}
use Rattle.pv_pattern.specs.Patterns.{Pattern, Side, Axiom, variables}
use Rattle.pv_pattern.specs.Instances.{Names}
use Rattle.pv_pattern.specs.Binding.{names, side_names}
use Rattle.pv_pattern.specs.Found.{kids_of}
use Rattle.pv_marks.specs.Classes.{class_of}
use Rattle.pv_marks.specs.Marks.{AreClassMarks, HasBit}
use Rattle.pv_match.specs.declared.binding.Named.{Named}
use Rattle.pv_match.specs.declared.binding.Binding.{Binding}
use Rattle.pv_match.specs.declared.found.Param.{Param}
use Rattle.pv_match.specs.declared.found.Match.{Match}
use Rattle.pv_match.specs.Matches.{HoldsIn, StartsAt, Fits, IsMatchAt}
use Rattle.pv_match.specs.Parameters.{name_params, is_among, once_more}
use Rattle.pv_match.specs.Bindings.{ShowsAt, Agrees, SomeAgrees, bound, IsPlace}

-- some names stand for what the node shows
abbrev pub CanShow : Graph → List ℕ → Named → Type 0
CanShow g numbers x = (m : Names) × ShowsAt g numbers m x.name x.node

-- the node shows the name, and these are its parameters, after others
pub record AddsParams (g : Graph) (numbers : List ℕ) (x : Named) (old new : List Param) : Type 0 where
  pub shows : CanShow g numbers x
  pub params : (m : Names) → ShowsAt g numbers m x.name x.node → new ≡ old ++ name_params m x.name

abbrev pub ShowsNothing : Graph → List ℕ → Named → Type 0
ShowsNothing g numbers x = (m : Names) → ShowsAt g numbers m x.name x.node → ⊥

-- all names of a binding are shown, and these are their parameters
pub record AreShown (g : Graph) (numbers : List ℕ) (b : Binding) (params : List Param) : Type 0 where
  pub each : (x : Named) → In b.names.items x → CanShow g numbers x
  pub are : (m : Names) → Agrees g numbers m b → params ≡ flat_map (name_params m) (bound b)

abbrev pub NoneAgree : Graph → List ℕ → Binding → Type 0
NoneAgree g numbers b = (m : Names) → Agrees g numbers m b → ⊥

-- the classes of the kids of the operation that a binding has for a family
pub record AreKids (g : Graph) (numbers : List ℕ) (b : Binding) (kids : List ℕ) : Type 0 where
  pub some_ : is_among (bound b) Operation ≡ true → (n : ℕ) × IsPlace b Operation n × (kids ≡ map (class_of numbers) (kids_of (form_at g.nodes n)))
  pub none : is_among (bound b) Operation ≡ false → kids ≡ []

-- ---- conditions

abbrev pub all_among : List NameId → List NameId → Bool
all_among ms [] = true
all_among ms (n ∷ ns) = is_among ms n && all_among ms ns

-- the class that a binding has for a variable has a bit
abbrev pub HasAt : List ℕ → Binding → ℕ → ℕ → Type 0
HasAt marks b j q = (c : ℕ) × (slice_get b.vars.items j ≡ Some c) × HasBit marks q c

-- the depth that a binding has, which is one
abbrev pub IsDepthOf : Graph → List ℕ → Binding → ℕ → Type 0
IsDepthOf g numbers b d = (1 ≤ d) × (d ≤ 16) × ((m : Names) → Agrees g numbers m b → m.depth ≡ d)

-- names that agree with a binding of all variables
pub record Completes (g : Graph) (numbers : List ℕ) (m : Names) (b : Binding) : Type 0 where
  pub agrees : Agrees g numbers m b
  pub long : length m.vars ≡ length b.vars.items

-- whether a condition holds, which names what is bound
abbrev pub Sided : Graph → List ℕ → List ℕ → Binding → Side → Bool → Type 0
Sided g numbers marks b s answer =
    (assumed : List ℕ) (m : Names) → AreClassMarks g numbers assumed marks → Completes g numbers m b → all_among (bound b) (side_names s) ≡ true → (IsTrue answer ↔ HoldsIn g numbers assumed m s)

abbrev pub all_sides_among : List NameId → List Side → Bool
all_sides_among ms [] = true
all_sides_among ms (s ∷ ss) = all_among ms (side_names s) && all_sides_among ms ss

abbrev pub AllSided : Graph → List ℕ → List ℕ → Binding → List Side → Bool → Type 0
AllSided g numbers marks b ss answer =
    (assumed : List ℕ) (m : Names) → AreClassMarks g numbers assumed marks → Completes g numbers m b → all_sides_among (bound b) ss ≡ true → (IsTrue answer ↔ AllByRecursion (HoldsIn g numbers assumed m) ss)

-- ---- a node

-- exactly the bindings under which the left side starts at the node
pub record AreReadAt (g : Graph) (numbers : List ℕ) (left : Pattern) (n : ℕ) (bs : List Binding) : Type 0 where
  pub exact : (m : Names) → SomeAgrees g numbers m bs ↔ StartsAt g numbers m left n
  pub shape : (x : Binding) → In bs x → (bound x ≡ once_more [] (names left)) × (length x.vars.items ≡ variables left)

-- exactly the matches of an axiom whose left side starts at the node
pub record AreMatchesAt (g : Graph) (numbers assumed : List ℕ) (a : Axiom) (n : ℕ) (list : List Match) : Type 0 where
  pub each : (x : Match) → In list x → (x.axiom ≡ a.number) × IsMatchAt g numbers assumed a n x.params.items x.classes.items
  pub all : (params : List Param) (classes : List ℕ) → IsMatchAt g numbers assumed a n params classes → (x : Match) × In list x × (x.params.items ≡ params) × (x.classes.items ≡ classes)

-- what a binding of a left side gives: a match, for all names that agree, or none
pub record Matched (g : Graph) (numbers assumed : List ℕ) (a : Axiom) (b : Binding) (x : Match) : Type 0 where
  pub number : x.axiom ≡ a.number
  pub each : (n : ℕ) (bs : List Binding) → AreReadAt g numbers a.left n bs → In bs b → IsMatchAt g numbers assumed a n x.params.items x.classes.items
  pub are : (m : Names) (params : List Param) (classes : List ℕ) → Agrees g numbers m b → Fits g numbers assumed a params classes m → (x.params.items ≡ params) × (x.classes.items ≡ classes)

abbrev pub NotMatched : Graph → List ℕ → List ℕ → Axiom → Binding → Type 0
NotMatched g numbers assumed a b = (m : Names) (params : List Param) (classes : List ℕ) → Agrees g numbers m b → Fits g numbers assumed a params classes m → ⊥
