-- What is placed, one after the other.
use Rattle.std.proofs.Common.{◌≡◌, ◌<◌, ◌≤◌, ◌+◌, ℕ, suc, List, [], ◌∷◌, ◌++◌, length, get_or, map, take, Option, Some, None, Err, inl, inr, refl, sym, ap, subst, ◌∙◌, add-one}
use Rattle.std.specs.Prelude.{slice_get, option_map}
use Rattle.std.specs.FinMap.{insert}
use Rattle.std.proofs.lemmas.List.{map-append, take-map}
use Rattle.std.proofs.lemmas.Option.{slice_get-get_or, slice_get-map}
use Rattle.pv_base.specs.Stored.{Stored}
use Rattle.pv_base.specs.Outside.{Rose, more, rose_earlier}
use Rattle.pv_base.specs.declared.outside.Asked.{Asked}
use Rattle.pv_base.specs.declared.outside.Asked.TheVariants.{Place}
use Rattle.pv_report.specs.declared.status.Status.{Status}
use Rattle.pv_report.specs.declared.status.Status.TheVariants as status
use Rattle.pv_report.proofs.Cited.{take_next}
use Rattle.pv_top.specs.declared.top.Placed.{Placed}
use Rattle.pv_top.specs.Run.{GrewBy, insert_each}
use Rattle.pv_top.specs.Fetching.{AllPlaced, Asks, ChangesAt, PlaceCalls, PlaceCallsTo, PlaceCut, PlaceFailed, PlacesIn, bytes_in, contents_of, names_in, placed_of}
use Rattle.pv_top.proofs.Asking.{grew_more, more_nothing}

-- a count that rose since, rose since before
pub place_failed_since : (s : Status) (old mid new : ℕ) → old ≤ mid → PlaceFailed s (Rose mid new) → PlaceFailed s (Rose old new)
place_failed_since status.WriteFault old mid new le failed = rose_earlier old mid new le failed
place_failed_since status.Memory old mid new le failed = tt
place_failed_since _ old mid new le failed = absurd failed

-- ---- nothing so far

nothing_in : (held : Option Stored) → PlacesIn held held []
nothing_in None = tt
nothing_in (Some m) = refl

pub nothing_placed : (held : Option Stored) (asked : Option (List Asked)) → AllPlaced held held asked asked []
nothing_placed held asked = record { holds = nothing_in held; calls = more_nothing asked }

-- ---- one more

insert_last : (m : Stored) (front : List (List ℕ × List ℕ)) (p : List ℕ × List ℕ) → insert_each m (names_in (front ++ p ∷ [])) (bytes_in (front ++ p ∷ [])) ≡ insert (insert_each m (names_in front) (bytes_in front)) p.0 p.1
insert_last m [] p = refl
insert_last m (q ∷ front) p = insert_last (insert m q.0 q.1) front p

one_in : (held mid now : Option Stored) (front : List (List ℕ × List ℕ)) (p : List ℕ × List ℕ) → PlacesIn held mid front → PlacesIn mid now (p ∷ []) → PlacesIn held now (front ++ p ∷ [])
one_in None None None front p so one = tt
one_in (Some m) (Some b) (Some k) front p so one = one ∙ ap (λ (x : Stored). insert x p.0 p.1) so ∙ sym (insert_last m front p)
one_in None None (Some k) front p so one = absurd one
one_in None (Some b) now front p so one = absurd so
one_in (Some m) None now front p so one = absurd so
one_in (Some m) (Some b) None front p so one = absurd one

calls_last : (front : List (List ℕ × List ℕ)) (p : List ℕ × List ℕ) → map Place (names_in (front ++ p ∷ [])) ≡ map Place (names_in front) ++ Place p.0 ∷ []
calls_last [] p = refl
calls_last (q ∷ front) p = ap (λ (calls : List Asked). Place q.0 ∷ calls) (calls_last front p)

one_called : (old mid new : Option (List Asked)) (front : List (List ℕ × List ℕ)) (p : List ℕ × List ℕ) → PlaceCalls old mid front → new ≡ more mid (Place p.0 ∷ []) → PlaceCalls old new (front ++ p ∷ [])
one_called old mid new front p so one = subst (GrewBy old new) (sym (calls_last front p)) (grew_more old mid new (map Place (names_in front)) (Place p.0 ∷ []) so one)

-- .. of those in a list
contents_next : (all : List Placed) (k : ℕ) (w : Placed) → slice_get all k ≡ Some w → contents_of (take (k + 1) all) ≡ contents_of (take k all) ++ placed_of w ∷ []
contents_next all k w at = ap contents_of (take_next all k w at) ∙ map-append placed_of (take k all) (w ∷ [])

item_at : (all : List Placed) (k : ℕ) (w : Placed) → w ≡ get_or all k w → k < length all → slice_get all k ≡ Some w
item_at all k w is lt = slice_get-get_or all k w lt ∙ ap (λ (x : Placed). Some x) (sym is)

pub placed_next : (held mid now : Option Stored) (old asked new : Option (List Asked)) (all : List Placed) (k : ℕ) (w : Placed) → w ≡ get_or all k w → k < length all → AllPlaced held mid old asked (contents_of (take k all)) → PlacesIn mid now (placed_of w ∷ [])
    → new ≡ more asked (Place w.name.now ∷ []) → AllPlaced held now old new (contents_of (take (k + 1) all))
placed_next held mid now old asked new all k w is lt so holds call =
    let next = contents_next all k w (item_at all k w is lt) in
    let front : List (List ℕ × List ℕ) = contents_of (take k all) in
    record {
      holds = subst (PlacesIn held now) (sym next) (one_in held mid now front (placed_of w) so.holds holds);
      calls = subst (PlaceCalls old new) (sym next) (one_called old asked new front (placed_of w) so.calls call);
    }

-- ---- one that was cut off

cut_calls : (T : Type 0) (old asked new : Option (List Asked)) (all : List (List ℕ × List ℕ)) (k : ℕ) (p : List ℕ × List ℕ) (s : Status) (rose : Type 0) → PlaceCalls old asked (take k all) → take (suc k) all ≡ take k all ++ p ∷ [] → PlaceFailed s rose
    → Asks {T = T} asked new (Place p.0) (Err s) → PlaceCallsTo old new all k s
cut_calls T old asked new all k p status.WriteFault rose so next failed asks = subst (PlaceCalls old new) (sym next) (one_called old asked new (take k all) p so asks)
cut_calls T old asked new all k p status.Memory rose so next failed (inl e) = inl (e ∙ so)
cut_calls T old asked new all k p status.Memory rose so next failed (inr e) = inr (subst (PlaceCalls old new) (sym next) (one_called old asked new (take k all) p so e))
cut_calls T old asked new all k p _ rose so next failed asks = absurd failed

pub place_cut : (T : Type 0) (held mid now : Option Stored) (old asked new : Option (List Asked)) (all : List Placed) (k : ℕ) (w : Placed) (s : Status) (before between after : ℕ) → w ≡ get_or all k w → k < length all → before ≤ between → AllPlaced held mid old asked (contents_of (take k all))
    → PlaceFailed s (Rose between after) → ChangesAt mid now w.name.now → Asks {T = T} asked new (Place w.name.now) (Err s) → PlaceCut held now old new (contents_of all) s (Rose before after)
place_cut T held mid now old asked new all k w s before between after is lt le so failed changes asks =
    let at = item_at all k w is lt in
    let front : contents_of (take k all) ≡ take k (contents_of all) = sym (take-map placed_of k all) in
    let next : take (suc k) (contents_of all) ≡ take k (contents_of all) ++ placed_of w ∷ [] =
    ap (λ (n : ℕ). take n (contents_of all)) (sym (add-one k)) ∙ take-map placed_of (k + 1) all ∙ contents_next all k w at ∙ ap (λ (x : List (List ℕ × List ℕ)). x ++ placed_of w ∷ []) front
    in
    record {
      failed = place_failed_since s before between after le failed;
      n = k;
      one = placed_of w;
      next = slice_get-map placed_of all k ∙ ap (option_map placed_of) at;
      between = mid;
      front = subst (PlacesIn held mid) front so.holds;
      changes = changes;
      calls = cut_calls T old asked new (contents_of all) k (placed_of w) s (Rose between after) (subst (PlaceCalls old asked) front so.calls) next failed asks;
    }
