-- What the pieces gather, put together in their order, is what is gathered at all items.
use Rattle.std.specs.Prelude.{◌≡◌, ℕ, zero, suc, ◌<◌, ◌≤◌, Bool, true, false, List, [], ◌∷◌, ◌++◌, length, Result, Ok, Some, slice_get, refl}
use Rattle.std.specs.List.{flat_map}
use Rattle.std.specs.Bool.{OnTrue, OnFalse}
use Rattle.std.proofs.Common.{inl, inr, sym, ap, ◌∙◌, subst, arith}
use Rattle.std.proofs.lemmas.List.{length-append}
use Rattle.pv_graph.specs.Walks.{In}
use Rattle.pv_graph.specs.Graphs.{Graph}
use Rattle.pv_pattern.specs.Patterns.{Axiom}
use Rattle.pv_pieces.specs.Cut.{joined, nth_piece}
use Rattle.pv_pieces.proofs.Cited.{joined_whole}
use Rattle.pv_match.specs.declared.found.Match.{Match}
use Rattle.pv_match.specs.declared.gathered.Gathered.{Gathered}
use Rattle.pv_match.specs.Matches.{IsMatch}
use Rattle.pv_match.specs.Reading.{AreReadable}
use Rattle.pv_match.specs.All.{AreMatchesOf}
use Rattle.pv_match.specs.Gathering.{AreFrom, GathersAll, AreTooMany, AreParts, Finds}
use Rattle.pv_match.proofs.AllOf.{pieces}
use Rattle.pv_match.proofs.Gathers.{match_from, where_gathered}

-- ---- the pieces of the items, one after another, are the items

each_alone : {X : Type 0} (xs : List X) → flat_map (λ (x : X). x ∷ []) xs ≡ xs
each_alone [] = refl
each_alone (x ∷ xs) = ap (λ (l : List _). x ∷ l) (each_alone xs)

joined_alone : {X : Type 0} (f : ℕ → List X) (k : ℕ) → joined (λ (i : ℕ). flat_map (λ (x : X). x ∷ []) (f i)) k ≡ joined f k
joined_alone f zero = refl
joined_alone f (suc k) = ap (λ (l : List _). l ++ flat_map (λ (x : _). x ∷ []) (f k)) (joined_alone f k) ∙ ap (λ (l : List _). joined f k ++ l) (each_alone (f k))

pub whole_items : {X : Type 0} (xs : List X) (w : ℕ) → 0 < w → joined (nth_piece xs w) w ≡ xs
whole_items xs w some = sym (joined_alone (nth_piece xs w) w) ∙ (joined_whole (λ (x : _). x ∷ []) xs w some ∙ each_alone xs)

-- ---- one part more

at_seam : {X : Type 0} (front : List X) (x : X) (rest : List X) → slice_get (front ++ x ∷ rest) (length front) ≡ Some x
at_seam [] x rest = refl
at_seam (y ∷ front) x rest = at_seam front x rest

one_more : {X : Type 0} (front : List X) (x : X) → length (front ++ x ∷ []) ≡ suc (length front)
one_more front x = omega (arith, length-append front (x ∷ []))

pub on_true : (b : Bool) (P : Type 0) → b ≡ true → OnTrue b P → P
on_true b P e h = subst (λ (v : Bool). OnTrue v P) e h

pub on_false : (b : Bool) (P : Type 0) → b ≡ false → OnFalse b P → P
on_false b P e h = subst (λ (v : Bool). OnFalse v P) e h

-- what a union says that is over, and one that isn't
pub grown_over : (over : Bool) (limit : ℕ) (old more new : List Match) → over ≡ true → OnTrue over ((length new ≡ suc limit) × AreFrom old more new) → (length new ≡ suc limit) × AreFrom old more new
grown_over over limit old more new e h = on_true over ((length new ≡ suc limit) × AreFrom old more new) e h

pub grown_within : (over : Bool) (limit : ℕ) (old more new : List Match) → over ≡ false → OnFalse over ((length new ≤ limit) × GathersAll old more new) → (length new ≤ limit) × GathersAll old more new
grown_within over limit old more new e h = on_false over ((length new ≤ limit) × GathersAll old more new) e h

-- what is found where there are too many
pub finds_over : (g : Graph) (numbers assumed : List ℕ) (table : List Axiom) (limit : ℕ) (items : List ℕ) (over : Bool) (set : List Match) → over ≡ true → AreTooMany g numbers assumed table limit set → Finds g numbers assumed table limit items over set
finds_over g numbers assumed table limit items true set e many = (many, tt)
finds_over g numbers assumed table limit items false set e many = absurd (cc)

-- .. and where there are not
pub finds_within : (g : Graph) (numbers assumed : List ℕ) (table : List Axiom) (limit : ℕ) (items : List ℕ) (over : Bool) (set : List Match) → over ≡ false → AreMatchesOf g numbers assumed table items set → Finds g numbers assumed table limit items over set
finds_within g numbers assumed table limit items true set e are = absurd (cc)
finds_within g numbers assumed table limit items false set e are = (tt, are)

module _ (g : Graph) (numbers assumed : List ℕ) (table : List Axiom) (limit : ℕ) (items : ℕ → List ℕ) (readable : AreReadable table) where
  -- a match of a list is one of an axiom of the table
  match_of : (at : List ℕ) (list : List Match) → AreMatchesOf g numbers assumed table at list → (x : Match) → In list x → (a : Axiom) × In table a × (x.axiom ≡ a.number) × IsMatch g numbers assumed a x.params.items x.classes.items
  match_of at list is x i =
      let r = is.each x i in
      (r.0, r.2.0, r.3, match_from g numbers assumed table readable r.0 r.1 x.params.items x.classes.items r.2.0 r.4)

  -- where all parts are a front, one part and a rest
  module _ {E : Type 0} (all front rest : List (Result Gathered E)) (got : Gathered) (cut : front ++ Ok got ∷ rest ≡ all) (are : AreParts g numbers assumed table limit items all) where
    here : Finds g numbers assumed table limit (items (length front)) got.is_over got.list.items
    here = are (length front) got (subst (λ (l : List (Result Gathered E)). slice_get l (length front) ≡ Some (Ok got)) cut (at_seam front (Ok got) rest))

    -- a part that has too many shows that all together have
    pub over_here : got.is_over ≡ true → AreTooMany g numbers assumed table limit got.list.items
    over_here over = on_true got.is_over (AreTooMany g numbers assumed table limit got.list.items) over here.0

    -- a part that has all its matches is one more
    pub all_here : got.is_over ≡ false → (old new : List Match) → AreMatchesOf g numbers assumed table (joined items (length front)) old → GathersAll old got.list.items new
        → AreMatchesOf g numbers assumed table (joined items (length (front ++ Ok got ∷ []))) new
    all_here within old new is gathers =
        let this = on_false got.is_over (AreMatchesOf g numbers assumed table (items (length front)) got.list.items) within here.1 in
        subst (λ (k : ℕ). AreMatchesOf g numbers assumed table (joined items k) new) (sym (one_more front (Ok got)))
        (where_gathered g numbers assumed table (λ a n. In table a × In (joined items (length front) ++ items (length front)) n) old got.list.items new
        (pieces g numbers assumed table (joined items (length front)) (items (length front)) old got.list.items is this) gathers)

    -- .. and where that is more than the limit, all together are
    pub union_over : got.is_over ≡ false → (old new : List Match) → AreMatchesOf g numbers assumed table (joined items (length front)) old → length new ≡ suc limit → AreFrom old got.list.items new
        → AreTooMany g numbers assumed table limit new
    union_over within old new is long gathers =
        let this = on_false got.is_over (AreMatchesOf g numbers assumed table (items (length front)) got.list.items) within here.1 in
        record {
          long = long;
          each = λ x i. elim (gathers x i) [
            | inl j ↦ match_of (joined items (length front)) old is x j
            | inr j ↦ match_of (items (length front)) got.list.items this x j
          ];
        }
