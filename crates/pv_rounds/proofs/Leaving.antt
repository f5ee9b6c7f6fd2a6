-- The matches of a list that aren't known, one after another, and all of them, decoded.
use Rattle.std.specs.Prelude.{◌≡◌, ◌⊎◌, ℕ, ◌+◌, ◌<◌, Bool, true, false, List, [], ◌∷◌, ◌++◌, length, map, take, Option, Some, None, refl}
use Rattle.std.specs.Bool.{◌==◌, OnTrue}
use Rattle.std.specs.Ordering.{ordering_index}
use Rattle.std.specs.declared.cmp.Ordering.{Ordering}
use Rattle.std.specs.declared.cmp.Ordering.TheVariants.{Less, Equal, Greater}
use Rattle.std.specs.List.{AllZip}
use Rattle.std.proofs.Common.{inl, inr, sym, ap, ◌∙◌, subst, get_or}
use Rattle.std.proofs.lemmas.List.{take_more, map-append}
use Rattle.pv_graph.specs.Walks.{In}
use Rattle.pv_graph.specs.Graphs.{Graph}
use Rattle.pv_pattern.specs.Patterns.{Axiom}
use Rattle.pv_heights.specs.Sides.{Match}
use Rattle.pv_match.specs.declared.found.Match as found
use Rattle.pv_match.specs.Orders.{match_cmp, AreOne}
use Rattle.pv_match.proofs.Ordered.{ordered}
use Rattle.pv_saturate.specs.declared.decoding.Decoded.{Decoded}
use Rattle.pv_saturate.specs.Decoding.{IsDecoded, decoded_seen}
use Rattle.pv_rounds.specs.Known.{IsKnown, StandsAt, Stands, EachStands, IsLeft, others, LeavesKnown}
use Rattle.pv_rounds.proofs.Adding.{zip_push}

-- ---- a match at a place

equal_index : (o : Ordering) → (ordering_index o == 1) ≡ true → o ≡ Equal
equal_index Less e = absurd (cc)
equal_index Equal e = refl
equal_index Greater e = absurd (cc)

on_true_when : (b : Bool) (P : Type 0) → (b ≡ true → P) → OnTrue b P
on_true_when true P f = f refl
on_true_when false P f = tt

pub known_here : (known : List found.Match) (x y : found.Match) (o : Ordering) (b : Bool) → In known x → o ≡ match_cmp x y → b ≡ (ordering_index o == 1) → OnTrue b (IsKnown known y)
known_here known x y o b i e f = on_true_when b (IsKnown known y) (λ t. (x, i, (ordered.exact x y).0 (sym e ∙ equal_index o (sym f ∙ t))))

-- ---- one more

others_none : (os : List (Option (Match ℕ))) → others (os ++ None ∷ []) ≡ others os
others_none [] = refl
others_none (None ∷ os) = others_none os
others_none (Some d ∷ os) = ap (λ (ms : List (Match ℕ)). d ∷ ms) (others_none os)

others_some : (os : List (Option (Match ℕ))) (e : Match ℕ) → others (os ++ Some e ∷ []) ≡ others os ++ e ∷ []
others_some [] e = refl
others_some (None ∷ os) e = others_some os e
others_some (Some d ∷ os) e = ap (λ (ms : List (Match ℕ)). d ∷ ms) (others_some os e)

pub leaves_none : (table : List Axiom) (known : List found.Match) → LeavesKnown table known [] []
leaves_none table known = record { each = []; is = tt; are = refl }

module _ (table : List Axiom) (known list : List found.Match) (i : ℕ) (x : found.Match) (lt : i < length list) (e : x ≡ get_or list i x) where
  more : take (i + 1) list ≡ take i list ++ x ∷ []
  more = take_more list i x lt ∙ ap (λ (y : found.Match). take i list ++ y ∷ []) (sym e)

  pub leaves_known : (new : List (Match ℕ)) → LeavesKnown table known (take i list) new → IsKnown known x → LeavesKnown table known (take (i + 1) list) new
  leaves_known new l k = record {
    each = l.each ++ None ∷ [];
    is = subst (λ (xs : List found.Match). AllZip (IsLeft table known) xs (l.each ++ None ∷ [])) (sym more) (zip_push (IsLeft table known) (take i list) l.each x None l.is k);
    are = l.are ∙ sym (others_none l.each);
  }

  pub leaves_other : (new : List Decoded) (d : Decoded) → LeavesKnown table known (take i list) (map decoded_seen new) → IsDecoded table x (decoded_seen d) → LeavesKnown table known (take (i + 1) list) (map decoded_seen (new ++ d ∷ []))
  leaves_other new d l k = record {
    each = l.each ++ Some (decoded_seen d) ∷ [];
    is = subst (λ (xs : List found.Match). AllZip (IsLeft table known) xs (l.each ++ Some (decoded_seen d) ∷ [])) (sym more)
        (zip_push (IsLeft table known) (take i list) l.each x (Some (decoded_seen d)) l.is k);
    are = map-append decoded_seen new (d ∷ []) ∙ (ap (λ (ms : List (Match ℕ)). ms ++ decoded_seen d ∷ []) l.are ∙ sym (others_some l.each (decoded_seen d)));
  }

-- ---- all of them

-- what stands of a match stands of each that is one with it
pub one_stands : (g : Graph) (numbers : List ℕ) (table : List Axiom) (y x : found.Match) → AreOne y x → Stands g numbers table y → Stands g numbers table x
one_stands g numbers table y x one s = (
  s.0,
  (λ h k. s.1 h (record {
    shows = record { number = one.0 ∙ k.shows.number; params = one.1 ∙ k.shows.params; classes = one.2 ∙ k.shows.classes };
    view = k.view;
    assumed = k.assumed;
    graph = k.graph;
    numbers = k.numbers;
    is = k.is;
  })),
  s.2,
)

-- all matches of a list, decoded, of which each one stands or is among some
pub record StandOrAre (g : Graph) (numbers : List ℕ) (table : List Axiom) (list : List found.Match) (new : List (Match ℕ)) : Type 0 where
  pub all : List (Match ℕ)
  pub decoded : AllZip (IsDecoded table) list all
  pub among : (m : Match ℕ) → In new m → In all m
  pub rest : (m : Match ℕ) → In all m → StandsAt g numbers m ⊎ In new m

module _ (g : Graph) (numbers : List ℕ) (table : List Axiom) (known : List found.Match) (stand : EachStands g numbers table known) where
  gather : (list : List found.Match) (os : List (Option (Match ℕ))) → AllZip (IsLeft table known) list os → StandOrAre g numbers table list (others os)
  gather [] [] z = record { all = []; decoded = tt; among = λ m i. absurd i; rest = λ m i. absurd i }
  gather [] (o ∷ os) z = absurd z
  gather (x ∷ list) [] z = absurd z
  gather (x ∷ list) (None ∷ os) z =
      let r = gather list os z.1 in
      let s = one_stands g numbers table z.0.0 x z.0.2 (stand z.0.0 z.0.1) in
      record {
        all = s.0 ∷ r.all;
        decoded = (s.1, r.decoded);
        among = λ m i. inr (r.among m i);
        rest = λ m i. elim i [ inl e ↦ inl (subst (StandsAt g numbers) e s.2) | inr j ↦ r.rest m j ];
      }
  gather (x ∷ list) (Some d ∷ os) z =
      let r = gather list os z.1 in
      record {
        all = d ∷ r.all;
        decoded = (z.0, r.decoded);
        among = λ m i. elim i [ inl e ↦ inl e | inr j ↦ inr (r.among m j) ];
        rest = λ m i. elim i [
          | inl e ↦ inr (inl e)
          | inr j ↦ elim (r.rest m j) [ inl s ↦ inl s | inr k ↦ inr (inr k) ]
        ];
      }

  pub stand_or_are : (list : List found.Match) (new : List (Match ℕ)) → LeavesKnown table known list new → StandOrAre g numbers table list new
  stand_or_are list new l = subst (StandOrAre g numbers table list) (sym l.are) (gather list l.each l.is)
