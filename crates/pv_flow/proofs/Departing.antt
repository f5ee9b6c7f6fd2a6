-- Where instructions go, and the exits of their blocks.
use Rattle.std.proofs.Common.{◌≡◌, ℕ, suc, ◌<◌, Bool, true, false, List, [], ◌∷◌, ◌++◌, map, refl, sym, ap, subst, inl, inr, arith}
use Rattle.std.specs.Prelude.{◌⊎◌, ◌↔◌, Contains}
use Rattle.std.specs.List.{All, AllByRecursion}
use Rattle.std.proofs.lemmas.List.Elements.{All-from_recursion, Contains-append_left, Contains-push, Contains-append_cases}
use Rattle.pv_insn.specs.declared.insn.Case.{Case}
use Rattle.pv_frame.specs.declared.action.Action.{Action}
use Rattle.pv_frame.specs.declared.action.Action.TheVariants as act
use Rattle.pv_frame.specs.Effects.{successors}
use Rattle.pv_frame.proofs.Cited.{all_parts, contains_first, contains_more, contains_cases, contains_none}
use Rattle.pv_flow.specs.Exits.{Departure, Goes, Returns, Throws, branches_on_no, branched, departures, ends_block, targets}
use Rattle.pv_flow.specs.Finding.{GoesBelow}

-- ---- the places among departures

places_of : List Departure → List ℕ
places_of [] = []
places_of (Goes place ∷ ds) = place ∷ places_of ds
places_of (Returns ∷ ds) = places_of ds
places_of (Throws ∷ ds) = places_of ds

place_among : (ds : List Departure) (j : ℕ) → Contains ds (Goes j) → Contains (places_of ds) j
unfolding places_of
place_among [] j among = absurd (contains_none (Goes j) among)
place_among (Goes place ∷ ds) j among = elim (contains_cases (Goes place) (Goes j) ds among) [
  | inl e ↦ let same : place ≡ j = cc in subst (λ (i : ℕ). Contains (place ∷ places_of ds) i) same (contains_first place (places_of ds))
  | inr more ↦ contains_more place j (places_of ds) (place_among ds j more)
]
place_among (Returns ∷ ds) j among = elim (contains_cases Returns (Goes j) ds among) [ inl e ↦ absurd (cc) | inr more ↦ place_among ds j more ]
place_among (Throws ∷ ds) j among = elim (contains_cases Throws (Goes j) ds among) [ inl e ↦ absurd (cc) | inr more ↦ place_among ds j more ]

among_places : (ds : List Departure) (j : ℕ) → Contains (places_of ds) j → Contains ds (Goes j)
unfolding places_of
among_places [] j among = absurd (contains_none j among)
among_places (Goes place ∷ ds) j among = elim (contains_cases place j (places_of ds) among) [
  | inl e ↦ subst (λ (i : ℕ). Contains (Goes place ∷ ds) (Goes i)) e (contains_first (Goes place) ds)
  | inr more ↦ contains_more (Goes place) (Goes j) ds (among_places ds j more)
]
among_places (Returns ∷ ds) j among = contains_more Returns (Goes j) ds (among_places ds j among)
among_places (Throws ∷ ds) j among = contains_more Throws (Goes j) ds (among_places ds j among)

places_of-switch : (cases : List Case) (default : ℕ) → places_of (map (λ c. Goes c.target) cases ++ Goes default ∷ []) ≡ map (λ c. c.target) cases ++ default ∷ []
unfolding places_of
places_of-switch [] default = refl
places_of-switch (c ∷ cases) default = ap (λ (places : List ℕ). c.target ∷ places) (places_of-switch cases default)

-- ---- lists with the same members

abbrev SameMembers : List ℕ → List ℕ → Type 0
SameMembers xs ys = (j : ℕ) → Contains xs j ↔ Contains ys j

same_list : (xs : List ℕ) → SameMembers xs xs
same_list xs j = (λ h. h, λ h. h)

two_turned : (x y j : ℕ) → Contains (x ∷ y ∷ []) j → Contains (y ∷ x ∷ []) j
two_turned x y j among = elim (contains_cases x j (y ∷ []) among) [
  | inl e ↦ (1, omega arith, e)
  | inr more ↦ elim (contains_cases y j [] more) [ inl e ↦ (0, omega arith, e) | inr none ↦ absurd (contains_none j none) ]
]

last_first : (xs : List ℕ) (x : ℕ) → SameMembers (xs ++ x ∷ []) (x ∷ xs)
last_first xs x j = (forth, back)
  where
    forth : Contains (xs ++ x ∷ []) j → Contains (x ∷ xs) j
    forth among = elim (Contains-append_cases xs (x ∷ []) j among) [
      | inl within ↦ contains_more x j xs within
      | inr last ↦ elim (contains_cases x j [] last) [ inl e ↦ (0, omega arith, e) | inr none ↦ absurd (contains_none j none) ]
    ]

    back : Contains (x ∷ xs) j → Contains (xs ++ x ∷ []) j
    back among = elim (contains_cases x j xs among) [
      | inl e ↦ subst (λ (i : ℕ). Contains (xs ++ x ∷ []) i) e (Contains-push xs x)
      | inr within ↦ Contains-append_left xs (x ∷ []) j within
    ]

-- ---- departures and successors

branch_places : (b : Bool) (t n : ℕ) → SameMembers (places_of (branched b t n)) (t ∷ n ∷ [])
unfolding places_of
branch_places false t n = same_list (t ∷ n ∷ [])
branch_places true t n = λ j. (two_turned n t j, two_turned t n j)

-- a place that several exits go to is one member
once_or_twice : (n : ℕ) → SameMembers (n ∷ n ∷ []) (n ∷ [])
once_or_twice n j = (λ among. elim (contains_cases n j (n ∷ []) among) [ inl e ↦ (0, omega arith, e) | inr more ↦ more ], λ among. contains_more n j (n ∷ []) among)

once_or_thrice : (n : ℕ) → SameMembers (n ∷ n ∷ n ∷ []) (n ∷ [])
once_or_thrice n j = (
  λ among. elim (contains_cases n j (n ∷ n ∷ []) among) [ inl e ↦ (0, omega arith, e) | inr more ↦ (once_or_twice n j).0 more ],
  λ among. contains_more n j (n ∷ n ∷ []) ((once_or_twice n j).1 among),
)

same_places : (k : ℕ) (a : Action) → SameMembers (places_of (departures k a)) (successors k a)
unfolding places_of
same_places k (act.Branch t target) = branch_places (branches_on_no t) target (suc k)
same_places k (act.Switch default cases) = subst (λ (places : List ℕ). SameMembers places (default ∷ map (λ c. c.target) cases)) (sym (places_of-switch cases default)) (last_first (map (λ c. c.target) cases) default)
same_places k act.StoreRef = once_or_twice (suc k)
same_places k (act.Cast class) = once_or_twice (suc k)
same_places k (act.InstanceOf class) = once_or_thrice (suc k)
same_places k a = same_list (successors k a)

-- the places to which the exits of an instruction go are those to which it may lead
pub goes_to_successors : (k : ℕ) (a : Action) (j : ℕ) → Contains (departures k a) (Goes j) ↔ Contains (successors k a) j
goes_to_successors k a j =
    (λ h. (same_places k a j).0 (place_among (departures k a) j h), λ h. among_places (departures k a) j ((same_places k a j).1 h))

-- an instruction that ends no block has the next one as its only successor, and its only exit goes there
pub goes_on : (k : ℕ) (a : Action) → ends_block a ≡ false → (successors k a ≡ suc k ∷ []) × (departures k a ≡ Goes (suc k) ∷ [])
goes_on k act.Nop e = (refl, refl)
goes_on k (act.Push n) e = (refl, refl)
goes_on k (act.Literal text) e = (refl, refl)
goes_on k (act.Load s i) e = (refl, refl)
goes_on k (act.Store s i) e = (refl, refl)
goes_on k (act.Increase i n) e = (refl, refl)
goes_on k (act.Move m) e = (refl, refl)
goes_on k (act.Scalar op) e = (refl, refl)
goes_on k (act.GetStatic t f) e = (refl, refl)
goes_on k (act.PutStatic t f) e = (refl, refl)
goes_on k a e = absurd (cc)

only_next : (k j : ℕ) → Contains (suc k ∷ []) j → j ≡ suc k
only_next k j among = elim (contains_cases (suc k) j [] among) [ inl e ↦ sym e | inr none ↦ absurd (contains_none j none) ]

-- an instruction leads to its targets and to the next one alone
pub target_or_next : (k : ℕ) (a : Action) (j : ℕ) → Contains (successors k a) j → Contains (targets a) j ⊎ (j ≡ suc k)
target_or_next k (act.Branch t target) j among = elim (contains_cases target j (suc k ∷ []) among) [
  | inl e ↦ inl (0, omega arith, e)
  | inr more ↦ inr (only_next k j more)
]
target_or_next k (act.Jump target) j among = inl among
target_or_next k (act.Switch default cases) j among = inl among
target_or_next k (act.Give s) j among = absurd (contains_none j among)
target_or_next k act.Throw j among = absurd (contains_none j among)
target_or_next k a j among = inr (only_next k j among)

-- ---- bounds

pub all_from_contains : {A : Type 0} (P : A → Type 0) (xs : List A) → ((x : A) → Contains xs x → P x) → AllByRecursion P xs
all_from_contains P [] f = tt
all_from_contains P (x ∷ xs) f = (f x (contains_first x xs), all_from_contains P xs (λ y among. f y (contains_more x y xs among)))

pub goes_below : (n k : ℕ) (a : Action) → ((j : ℕ) → Contains (successors k a) j → j < n) → AllByRecursion (GoesBelow n) (departures k a)
goes_below n k a below = all_from_contains (GoesBelow n) (departures k a) each
  where
    each : (d : Departure) → Contains (departures k a) d → GoesBelow n d
    each (Goes j) among = below j ((goes_to_successors k a j).0 among)
    each Returns among = tt
    each Throws among = tt

cases_below : (n : ℕ) (cases : List Case) → AllByRecursion (GoesBelow n) (map (λ c. Goes c.target) cases) → AllByRecursion (λ (c : Case). c.target < n) cases
cases_below n [] all = tt
cases_below n (c ∷ cases) all = (all.0, cases_below n cases all.1)

-- where a switch goes to places below a number, its targets are below it
pub switch_below : (n default : ℕ) (cases : List Case) → AllByRecursion (GoesBelow n) (map (λ c. Goes c.target) cases ++ Goes default ∷ []) → All (λ (c : Case). c.target < n) cases × (default < n)
switch_below n default cases all =
    let parts = all_parts (GoesBelow n) (map (λ (c : Case). Goes c.target) cases) (Goes default) [] all in
    (All-from_recursion (λ (c : Case). c.target < n) cases (cases_below n cases parts.0), parts.1)
