-- What each element of a list gives: as a loop finds it, and as a relation says it.
use Rattle.std.proofs.Common.{◌≡◌, ◌↔◌, ◌⊎◌, inl, inr, ℕ, ◌+◌, ◌≤◌, ◌<◌, List, [], ◌∷◌, ◌++◌, map, length, get_or, drop, Option, Some, None, Result, Ok, Err, refl, sym, ap, ◌∙◌, append_assoc}
use Rattle.std.specs.List.{AllZip, AllByRecursion}
use Rattle.std.specs.Result.{result_ok}
use Rattle.std.proofs.lemmas.List.{append-nil, at_drop_more, at_drop_all}
use Rattle.pv_format.proofs.Cited.{ok_some}
use Rattle.pv_insn.specs.Targets.{with_front, before, each}

-- ---- as a loop finds it

pub regroup : {A E : Type 0} (front more : List A) (others : Result (List A) E) → with_front front (with_front more others) ≡ with_front (front ++ more) others
regroup front more (Ok others) = ap Ok (sym (append_assoc front more others))
regroup front more (Err e) = refl

pub none_before : {A E : Type 0} (others : Result (List A) E) → with_front [] others ≡ others
none_before (Ok others) = refl
none_before (Err e) = refl

-- what the elements so far gave, and what those that are left give, is all
abbrev pub EachSoFar : {A B : Type 0} → (A → Option B) → List A → ℕ → List B → Type 0
EachSoFar f xs i front = with_front front (each f (drop i xs)) ≡ each f xs

pub each_on : {A B : Type 0} (f : A → Option B) (xs : List A) (i : ℕ) (front : List B) (d : A) (y : B) → i < length xs → f (get_or xs i d) ≡ Some y → EachSoFar f xs i front → EachSoFar f xs (i + 1) (front ++ y ∷ [])
unfolding each
each_on f xs i front d y lt gives s = sym (regroup front (y ∷ []) (each f (drop (i + 1) xs))) ∙ ap (λ o. with_front front (before (get_or xs i d) o (each f (drop (i + 1) xs)))) (sym gives) ∙ ap (with_front front) (sym (at_drop_more (each f) xs i d lt)) ∙ s

pub each_ends : {A B : Type 0} (f : A → Option B) (xs : List A) (i : ℕ) (front : List B) (d : A) → i < length xs → f (get_or xs i d) ≡ None → EachSoFar f xs i front → each f xs ≡ Err (get_or xs i d)
unfolding each
each_ends f xs i front d lt gives s = sym s ∙ ap (with_front front) (at_drop_more (each f) xs i d lt) ∙ rw gives refl

pub each_done : {A B : Type 0} (f : A → Option B) (xs : List A) (i : ℕ) (front : List B) → length xs ≤ i → EachSoFar f xs i front → each f xs ≡ Ok front
unfolding each
each_done f xs i front le s = sym s ∙ ap (with_front front) (at_drop_all (each f) xs i le) ∙ ap Ok (append-nil front)

-- ---- what elements give by a relation

-- a function that may fail gives just what is related
abbrev pub Finds : {A B : Type 0} → (A → Option B) → (A → B → Type 0) → Type 0
Finds {A} {B} f R = (x : A) (y : B) → (f x ≡ Some y) ↔ R x y

before_ok : {A B : Type 0} (x : A) (o : Option B) (others : Result (List B) A) (ys : List B) → before x o others ≡ Ok ys → (z : B) × (zs : List B) × (o ≡ Some z) × (others ≡ Ok zs) × (z ∷ zs ≡ ys)
before_ok x None others ys e = absurd cc
before_ok x (Some y) (Ok zs) ys e = (y, zs, refl, refl, cc)
before_ok x (Some y) (Err astray) ys e = absurd cc

pub each_ok : {A B : Type 0} (f : A → Option B) (R : A → B → Type 0) → Finds f R → (xs : List A) (ys : List B) → (each f xs ≡ Ok ys) ↔ AllZip R xs ys
unfolding each
each_ok f R finds [] [] = (λ e. tt, λ z. refl)
each_ok f R finds [] (y ∷ ys) = (λ e. absurd (cc (e)), λ z. absurd z)
each_ok f R finds (x ∷ xs) [] = (λ e. let b = before_ok x (f x) (each f xs) [] e in let no = b.4 in absurd (cc (no)), λ z. absurd z)
each_ok f R finds (x ∷ xs) (y ∷ ys) = (
  λ e.
      let b = before_ok x (f x) (each f xs) (y ∷ ys) e in
      let head : b.0 ≡ y = cc (b.4) in
      let tail : b.1 ≡ ys = cc (b.4) in
      ((finds x y).0 (b.2 ∙ ap Some head), (each_ok f R finds xs ys).0 (b.3 ∙ ap Ok tail)),
  λ z. rw ((finds x y).1 z.0, (each_ok f R finds xs ys).1 z.1) refl,
)

pub each_finds : {A B : Type 0} (f : A → Option B) (R : A → B → Type 0) → Finds f R → Finds (λ xs. result_ok (each f xs)) (AllZip R)
each_finds f R finds xs ys = (λ e. (each_ok f R finds xs ys).0 (ok_some (each f xs) ys e), λ z. ap result_ok ((each_ok f R finds xs ys).1 z))

some_or_none : {B : Type 0} (o : Option B) → ((y : B) × (o ≡ Some y)) ⊎ (o ≡ None)
some_or_none (Some y) = inl (y, refl)
some_or_none None = inr refl

-- the first that gives nothing, where those that give something have a property
pub record Stray {A : Type 0} (P : A → Type 0) (xs : List A) (here : A) : Type 0 where
  pub before : List A
  pub after : List A
  pub parts : xs ≡ before ++ here ∷ after
  pub good : AllByRecursion P before
  pub bad : P here → ⊥

module _ {A B : Type 0} (f : A → Option B) (P : A → Type 0) (has : (x : A) (y : B) → f x ≡ Some y → P x) (total : (x : A) → P x → f x ≡ None → ⊥) where
  before_err : (x : A) (o : Option B) (others : Result (List B) A) (a : A) → before x o others ≡ Err a → ((o ≡ None) × (x ≡ a)) ⊎ ((y : B) × (o ≡ Some y) × (others ≡ Err a))
  before_err x None others a e = inl (refl, cc)
  before_err x (Some y) (Ok zs) a e = absurd cc
  before_err x (Some y) (Err astray) a e = inr (y, refl, cc)

  pub each_strays : (xs : List A) (here : A) → each f xs ≡ Err here → Stray P xs here
  unfolding each
  each_strays [] here e = absurd (cc)
  each_strays (x ∷ xs) here e =
      elim (before_err x (f x) (each f xs) here e) [
        | inl (none, is) ↦ record { before = []; after = xs; parts = ap (λ (z : A). z ∷ xs) is; good = tt; bad = λ p. total here p (ap f (sym is) ∙ none) }
        | inr (y, some, h) ↦ let s = each_strays xs here h in record { before = x ∷ s.before; after = s.after; parts = ap (λ (u : List A). x ∷ u) s.parts; good = (has x y some, s.good); bad = s.bad }
      ]

  pub strays_each : (front : List A) (here : A) (after : List A) → AllByRecursion P front → (P here → ⊥) → each f (front ++ here ∷ after) ≡ Err here
  unfolding each
  strays_each [] here after good bad = elim (some_or_none (f here)) [ inl (y, some) ↦ absurd (bad (has here y some)) | inr none ↦ rw none refl ]
  strays_each (x ∷ front) here after good bad =
      elim (some_or_none (f x)) [
        | inl (y, some) ↦ rw (some, strays_each front here after good.1 bad) refl
        | inr none ↦ absurd (total x good.0 none)
      ]

-- ---- what holds of each element

pub zip_left : {A B : Type 0} (R : A → B → Type 0) (P : A → Type 0) → ((x : A) (y : B) → R x y → P x) → (xs : List A) (ys : List B) → AllZip R xs ys → AllByRecursion P xs
zip_left R P f [] ys h = tt
zip_left R P f (x ∷ xs) [] h = absurd h
zip_left R P f (x ∷ xs) (y ∷ ys) h = (f x y h.0, zip_left R P f xs ys h.1)

pub zip_right : {A B : Type 0} (R : A → B → Type 0) (P : B → Type 0) → ((x : A) (y : B) → R x y → P y) → (xs : List A) (ys : List B) → AllZip R xs ys → AllByRecursion P ys
zip_right R P f xs [] h = tt
zip_right R P f [] (y ∷ ys) h = absurd h
zip_right R P f (x ∷ xs) (y ∷ ys) h = (f x y h.0, zip_right R P f xs ys h.1)

pub zipped : {A B : Type 0} (R : A → B → Type 0) (xs : List A) → AllByRecursion (λ x. (y : B) × R x y) xs → (ys : List B) × AllZip R xs ys
zipped R [] h = ([], tt)
zipped R (x ∷ xs) h = let z = zipped R xs h.1 in (h.0.0 ∷ z.0, (h.0.1, z.1))

pub map_all : {A B : Type 0} (P : B → Type 0) (f : A → B) (xs : List A) → AllByRecursion (λ x. P (f x)) xs → AllByRecursion P (map f xs)
map_all P f [] h = tt
map_all P f (x ∷ xs) h = (h.0, map_all P f xs h.1)

pub all_mapped : {A B : Type 0} (P : A → Type 0) (Q : B → Type 0) (f : A → B) → ((x : A) → Q (f x) → P x) → (xs : List A) → AllByRecursion Q (map f xs) → AllByRecursion P xs
all_mapped P Q f to [] h = tt
all_mapped P Q f to (x ∷ xs) h = (to x h.0, all_mapped P Q f to xs h.1)
