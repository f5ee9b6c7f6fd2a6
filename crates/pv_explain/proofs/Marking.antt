-- Marks on the joins of paths.
use Rattle.std.specs.Prelude.{◌≡◌, ◌⊎◌, ℕ, zero, suc, ◌+◌, ◌<◌, ◌≤◌, Bool, true, List, [], ◌∷◌, length, Some, slice_get}
use Rattle.std.specs.List.{AllByRecursion, AllZip}
use Rattle.std.proofs.Common.{inl, inr, refl, sym, ap, ◌∙◌, subst, arith}
use Rattle.std.proofs.Math.ListN.{get_or}
use Rattle.std.proofs.lemmas.Option.{get_or_from_slice_get, same_Some, slice_get_within}
use Rattle.pv_paths.specs.declared.forest.Way.{Way}
use Rattle.pv_paths.specs.Paths.{AreTops, Joined, Leads, join_of}
use Rattle.pv_paths.specs.declared.forest.Way.TheVariants.{Forth, Back}
use Rattle.pv_classes.proofs.Elements.{found}
use Rattle.pv_explain.specs.Needed.{AreBefore, LinkedByMarked, LinkedToTops, StillLinked}
use Rattle.pv_explain.specs.Marks.{IsMarked, MarksMore}

-- ---- marks

pub more_refl : (before : ℕ) (needed : List Bool) → MarksMore before needed needed
more_refl before needed = record { long = refl; stay = λ k h. h; rest = λ k low h. h }

pub more_trans : (before : ℕ) (old then new : List Bool) → MarksMore before old then → MarksMore before then new → MarksMore before old new
more_trans before old then new g h = record {
  long = h.long ∙ g.long;
  stay = λ k m. h.stay k (g.stay k m);
  rest = λ k low m. g.rest k low (h.rest k low m);
}

-- .. before a greater number
pub more_wider : (few many : ℕ) (old new : List Bool) → few ≤ many → MarksMore few old new → MarksMore many old new
more_wider few many old new less h = record { long = h.long; stay = h.stay; rest = λ k low m. h.rest k (omega arith) m }

pub links_more : (f : Joined) (old new : List Bool) (before up a b : ℕ) → MarksMore up old new → LinkedByMarked f old before a b → LinkedByMarked f new before a b
links_more f old new before up a b more h = record { second = h.second; path = h.path; leads = h.leads; crossed = λ k w e. more.stay (join_of w) (h.crossed k w e) }

-- ---- paths

-- the joins on a path that leads through joins before a number are before it
pub path_before : (ends : List (ℕ × ℕ)) (before : ℕ) (path : List Way) (a b : ℕ) → Leads ends before path a b → AreBefore before path
path_before ends before [] a b h k w e = absurd (let z = slice_get_within {A = Way} [] k w e in omega (arith, z))
path_before ends before (Forth i ∷ ws) a b h zero w e = subst (λ (v : Way). join_of v < before) (same e) h.1.0
  where
    same : Some (Forth i) ≡ Some w → Forth i ≡ w
    same f = cc
path_before ends before (Back i ∷ ws) a b h zero w e = subst (λ (v : Way). join_of v < before) (same e) h.1.0
  where
    same : Some (Back i) ≡ Some w → Back i ≡ w
    same f = cc
path_before ends before (v ∷ ws) a b h (suc k) w e = path_before ends before ws h.0 b h.2 k w e

-- one way more
pub crossed_next : (old new : List Bool) (path : List Way) (before i : ℕ) (v : Way) → MarksMore before old new → get_or path i v ≡ v → IsMarked new (join_of v)
    → ((k : ℕ) (w : Way) → k < i → slice_get path k ≡ Some w → IsMarked old (join_of w)) → (k : ℕ) (w : Way) → k < i + 1 → slice_get path k ≡ Some w → IsMarked new (join_of w)
crossed_next old new path before i v more here marked earlier k w low e = elim (split k low) [ inl h ↦ more.stay (join_of w) (earlier k w h e) | inr h ↦ subst (λ (u : Way). IsMarked new (join_of u)) (same h) marked ]
  where
    split : (k : ℕ) → k < i + 1 → (k < i) ⊎ (k ≡ i)
    split k h = grind arith

    same : k ≡ i → v ≡ w
    same h = sym here ∙ ap (λ (m : ℕ). get_or path m v) (sym h) ∙ get_or_from_slice_get path k w v e

-- ---- tops

-- one node more whose top is linked to it
pub tops_next : (f : Joined) (old new nodes : List Bool) (tops : List ℕ) (before n top : ℕ) (is : Bool) → MarksMore before old new → slice_get nodes n ≡ Some is → slice_get tops n ≡ Some top → (is ≡ true → LinkedByMarked f new before n top)
    → ((k r : ℕ) → k < n → IsMarked nodes k → slice_get tops k ≡ Some r → LinkedByMarked f old before k r) → (k r : ℕ) → k < n + 1 → IsMarked nodes k → slice_get tops k ≡ Some r → LinkedByMarked f new before k r
tops_next f old new nodes tops before n top is more on at here earlier k r low m e = elim (split k low) [
  | inl h ↦ links_more f old new before before k r more (earlier k r h m e)
  | inr h ↦
      subst (λ (i : ℕ). LinkedByMarked f new before i r) (sym h)
      (subst (LinkedByMarked f new before n) (same_Some top r (sym at ∙ ap (slice_get tops) (sym h) ∙ e)) (here (same_Some is true (sym on ∙ ap (slice_get nodes) (sym h) ∙ m))))
]
  where
    split : (i : ℕ) → i < n + 1 → (i < n) ⊎ (i ≡ n)
    split i h = grind arith

-- nodes that joins before a number link have one top, to which marked ones link both
pub still_linked : (f : Joined) (needed nodes : List Bool) (before count : ℕ) (tops : List ℕ) → AreTops f before count tops → length nodes ≡ count → LinkedToTops f needed before nodes tops → StillLinked f needed before nodes
still_linked f needed nodes before count tops are long linked a b p q path =
    let r = found tops a (let z = slice_get_within nodes a true p in let y = are.long in omega (arith, z, y, long)) in
    let s = found tops b (let z = slice_get_within nodes b true q in let y = are.long in omega (arith, z, y, long)) in
    (r.0, linked a r.0 p r.1, subst (LinkedByMarked f needed before b) (sym (are.one a b r.0 s.0 path r.1 s.1)) (linked b s.0 q s.1))

-- ---- lists

pub zip_of : (R : ℕ → ℕ → Type 0) (xs ys : List ℕ) → length xs ≡ length ys → ((k : ℕ) → k < length xs → R (get_or xs k 0) (get_or ys k 0)) → AllZip R xs ys
zip_of R [] [] e h = tt
zip_of R [] (y ∷ ys) e h = absurd (omega (arith, e))
zip_of R (x ∷ xs) [] e h = absurd (omega (arith, e))
zip_of R (x ∷ xs) (y ∷ ys) e h = (h 0 (omega arith), zip_of R xs ys (omega (arith, e)) (λ k low. h (suc k) (omega (arith, low))))

pub all_of : {A : Type 0} (P : A → Type 0) (xs : List A) (d : A) → ((k : ℕ) → k < length xs → P (get_or xs k d)) → AllByRecursion P xs
all_of P [] d h = tt
all_of P (x ∷ xs) d h = (h 0 (omega arith), all_of P xs d (λ k low. h (suc k) (omega (arith, low))))
