-- Orders in which each node comes after its earlier kids: one node more, and the ranks that they give.
use Rattle.std.specs.Prelude.{◌≡◌, ◌⊎◌, ℕ, ◌+◌, ◌<◌, ◌≤◌, Bool, true, false, List, [], ◌∷◌, ◌++◌, length, take, drop, Some, slice_get}
use Rattle.std.specs.List.{Contains, list_any}
use Rattle.std.proofs.Common.{inl, inr, sym, ap, ◌∙◌, subst, arith, eqb, true≢false, refl, take_all, get_or}
use Rattle.std.proofs.lemmas.Option.{slice_get_within, none-some, same_Some, slice_get-get_or}
use Rattle.std.proofs.lemmas.List.{take-append-le, take-append-drop, take_more, length-take-le}
use Rattle.std.proofs.lemmas.List.Elements.{Contains-push_cases}
use Rattle.pv_list.proofs.Cited.{place_of, contains_at}
use Rattle.pv_graph.specs.declared.node.Op.{Op}
use Rattle.pv_graph.specs.declared.node.Node.{Node}
use Rattle.pv_graph.specs.Walks.{In}
use Rattle.pv_graph.specs.Graphs.{form_at}
use Rattle.pv_alike.specs.Partition.{IsRank, earlier_kids}
use Rattle.pv_graph.proofs.Cited.{node_at, push_cases}
use Rattle.pv_alike.specs.BottomUp.{HasKids, IsUpward, IsBottomUp}
use Rattle.pv_alike.proofs.Places.{get_before, apart_push}
use Rattle.pv_alike.proofs.Seen.{has_found, found_has}
use Rattle.pv_alike.proofs.Closed.{apart_low}

-- ---- lists

pub contains_or_not : (xs : List ℕ) (n : ℕ) → Contains xs n ⊎ (Contains xs n → ⊥)
contains_or_not xs n = by (list_any (eqb n) xs) refl
  where
    by : (t : Bool) → list_any (eqb n) xs ≡ t → Contains xs n ⊎ (Contains xs n → ⊥)
    by true e = inl (has_found xs n e)
    by false e = inr (λ there. true≢false (sym (found_has xs n there) ∙ e))

-- a front has what the list has at its places
pub front_get : (xs : List ℕ) (i p n : ℕ) → slice_get (take i xs) p ≡ Some n → slice_get xs p ≡ Some n
front_get xs i p n at =
    ap (λ (ys : List ℕ). slice_get ys p) (sym (take-append-drop i xs)) ∙ get_before (take i xs) (drop i xs) p (slice_get_within (take i xs) p n at) ∙ at

pub front_contains : (xs : List ℕ) (i n : ℕ) → Contains (take i xs) n → Contains xs n
front_contains xs i n there = let at = place_of (take i xs) n there in contains_at xs n at.0 (front_get xs i at.0 n at.1)

-- what one element more adds to a front
pub front_cases : (xs : List ℕ) (i k n : ℕ) → slice_get xs i ≡ Some k → Contains (take (i + 1) xs) n → Contains (take i xs) n ⊎ (k ≡ n)
front_cases xs i k n at there =
    let one : get_or xs i k ≡ k = same_Some (get_or xs i k) k (sym (slice_get-get_or xs i k (slice_get_within xs i k at)) ∙ at) in
    let more : take (i + 1) xs ≡ take i xs ++ k ∷ [] = take_more xs i k (slice_get_within xs i k at) ∙ ap (λ (x : ℕ). take i xs ++ x ∷ []) one in
    Contains-push_cases (take i xs) k n (subst (λ (ys : List ℕ). Contains ys n) more there)

-- ---- orders

pub upward_none : (g : List Node) → IsUpward g []
upward_none g = record { apart = λ p q n e f. absurd (none-some n e); after = λ p n e. absurd (none-some n e) }

pub upward_push : (g : List Node) (order : List ℕ) (n : ℕ) (node : Node) → IsUpward g order → (Contains order n → ⊥) → slice_get g n ≡ Some node → HasKids order node → IsUpward g (order ++ n ∷ [])
upward_push g order n node up new is kids = record {
  apart = apart_push order n up.apart new;
  after = λ p m at. elim (push_cases order n m p at) [
    | inl old ↦
        let h = up.after p m old in
        let lt = slice_get_within order p m old in
        let front : take p (order ++ n ∷ []) ≡ take p order = take-append-le p order (n ∷ []) (omega arith) in
        (h.0, h.1, subst (λ (seen : List ℕ). HasKids seen h.0) (sym front) h.2)
    | inr last ↦
        let front : take p (order ++ n ∷ []) ≡ order = ap (λ (i : ℕ). take i (order ++ n ∷ [])) last.0 ∙ take-append-le (length order) order (n ∷ []) (omega arith) ∙ take_all (length order) order (omega arith) in
        (node, ap (slice_get g) (sym last.1) ∙ is, subst (λ (seen : List ℕ). HasKids seen node) (sym front) kids)
  ];
}

-- its nodes are no more than those of the graph
pub upward_low : (g : List Node) (order : List ℕ) (p n : ℕ) → IsUpward g order → slice_get order p ≡ Some n → n < length g
upward_low g order p n up at = let h = up.after p n at in slice_get_within g n h.0 h.1

pub upward_few : (g : List Node) (order : List ℕ) → IsUpward g order → length order ≤ length g
upward_few g order up = apart_low order (length g) up.apart (λ p n at. upward_low g order p n up at)

-- kids stand at earlier places
pub kid_before : (g : List Node) (order : List ℕ) (p n k : ℕ) (node : Node) → IsUpward g order → slice_get order p ≡ Some n → slice_get g n ≡ Some node → In (earlier_kids node.op node.kids) k → (q : ℕ) × (q < p) × (slice_get order q ≡ Some k)
kid_before g order p n k node up at is m =
    let h = up.after p n at in
    let one : node ≡ h.0 = same_Some node h.0 (sym is ∙ h.1) in
    let kids : HasKids (take p order) node = subst (λ (x : Node). HasKids (take p order) x) (sym one) h.2 in
    let there = place_of (take p order) k (kids k m) in
    let lt : there.0 < length (take p order) = slice_get_within (take p order) there.0 k there.1 in
    (there.0, omega (arith, length-take-le p order (let z = slice_get_within order p n at in omega arith)), front_get order p there.0 k there.1)

-- ---- ranks

module _ (g : List Node) (order : List ℕ) (is : IsBottomUp g order) where
  rank_by : (n : ℕ) → Contains order n ⊎ (Contains order n → ⊥) → ℕ
  rank_by n (inl there) = (place_of order n there).0
  rank_by n (inr none) = 0

  -- the place of a node is its rank
  pub rank_in : ℕ → ℕ
  rank_in n = rank_by n (contains_or_not order n)

  rank_is : (n p : ℕ) (z : Contains order n ⊎ (Contains order n → ⊥)) → slice_get order p ≡ Some n → rank_by n z ≡ p
  unfolding rank_by
  rank_is n p (inl there) at = let y = place_of order n there in is.up.apart y.0 p n y.1 at
  rank_is n p (inr none) at = absurd (none (contains_at order n p at))

  pub rank_falls : IsRank (form_at g) rank_in
  unfolding rank_in
  rank_falls n k o ks a m =
      let node = node_at g n o ks a in
      let at = place_of order n (is.all n (slice_get_within g n node.0 node.1)) in
      let kids : earlier_kids node.0.op node.0.kids ≡ earlier_kids o ks = ap (λ (x : Op). earlier_kids x node.0.kids) node.2 ∙ ap (earlier_kids o) node.3 in
      let before = kid_before g order at.0 n k node.0 is.up at.1 node.1 (subst (λ (zs : List ℕ). In zs k) (sym kids) m) in
      let here = rank_is n at.0 (contains_or_not order n) at.1 in
      let there = rank_is k before.0 (contains_or_not order k) before.2 in
      omega (arith, before.1, here, there)
