-- Orders that hold the kids of their nodes.
use Rattle.std.proofs.Common.{◌≡◌, ℕ, ◌<◌, ◌≤◌, ◌^◌, Bool, true, false, List, [], length, get_or, slice_get, Some, sym, ap, ◌∙◌, subst, arith, eqb, refl}
use Rattle.std.specs.List.{All, Contains, IsDistinct}
use Rattle.std.proofs.lemmas.Bool.Decides.{Decides-eqb}
use Rattle.std.proofs.lemmas.Option.{slice_get_within, slice_get-get_or, same_Some}
use Rattle.std.proofs.lemmas.List.Elements.{All-from_recursion}
use Rattle.std.proofs.lemmas.Map.Keys.{IsDistinct-from_apart}
use Rattle.std.proofs.lemmas.Map.Steps.{length-le_from_distinct_below}
use Rattle.pv_list.proofs.Cited.{place_of, contains_at}
use Rattle.pv_graph.specs.declared.node.Node.{Node}
use Rattle.pv_alike.specs.Visits.{Visits}
use Rattle.pv_alike.specs.Renumbered.{IsClosed}
use Rattle.pv_alike.proofs.Places.{Apart, apart_none}
use Rattle.pv_alike.proofs.Orders.{visits_apart, visits_closed}
use Rattle.pv_alike.proofs.Seen.{has_found}

-- with a node its kids are visited
pub closed_visits : (g : List Node) (order todo : List ℕ) → Visits g order [] todo → IsClosed g order
closed_visits g order todo visits n there =
    let has = visits_closed g order todo visits n there in
    (has.0, has.1, All-from_recursion (Contains order) has.0.kids has.2)

-- the nodes of the order are in the graph
pub closed_low : (g : List Node) (order : List ℕ) (p n : ℕ) → IsClosed g order → slice_get order p ≡ Some n → n < length g
closed_low g order p n closed at = let has = closed n (contains_at order n p at) in slice_get_within g n has.0 has.1

-- and their kids in the order
pub closed_kids : (g : List Node) (order : List ℕ) (p n : ℕ) (node : Node) → IsClosed g order → slice_get order p ≡ Some n → slice_get g n ≡ Some node → All (Contains order) node.kids
closed_kids g order p n node closed at is =
    let has = closed n (contains_at order n p at) in
    let one : has.0 ≡ node = same_Some has.0 node (sym has.1 ∙ is) in
    subst (λ (y : Node). All (Contains order) y.kids) one has.2

-- a list without doubles, by tests
pub distinct_apart : (xs : List ℕ) → Apart xs → IsDistinct eqb xs
distinct_apart xs apart = IsDistinct-from_apart eqb xs (λ i j d lt lt'. differ i j d lt lt' (eqb (get_or xs i d) (get_or xs j d)) refl)
  where
    differ : (i j d : ℕ) → i < j → j < length xs → (b : Bool) → eqb (get_or xs i d) (get_or xs j d) ≡ b → b ≡ false
    differ i j d lt lt' false e = refl
    differ i j d lt lt' true e =
        let same : get_or xs i d ≡ get_or xs j d = (Decides-eqb (get_or xs i d) (get_or xs j d)).0 e in
        let one : i ≡ j = apart i j (get_or xs j d) (slice_get-get_or xs i d (omega arith) ∙ ap Some same) (slice_get-get_or xs j d lt') in
        absurd (omega arith)

-- numbers below a bound, none twice, are no more than the bound
pub apart_low : (xs : List ℕ) (n : ℕ) → Apart xs → ((p x : ℕ) → slice_get xs p ≡ Some x → x < n) → length xs ≤ n
apart_low xs n apart low =
    length-le_from_distinct_below xs n (distinct_apart xs apart) (λ x found. let at = place_of xs x (has_found xs x found) in low at.0 x at.1)

-- the order is no longer than the graph
pub order_small : (g : List Node) (order todo : List ℕ) → length g < 2 ^ 32 → Visits g order [] todo → length order < 2 ^ 32
order_small g order todo small visits =
    let le : length order ≤ length g =
    apart_low order (length g) (visits_apart g order [] todo visits apart_none)
    (λ p n at. let has = visits_closed g order todo visits n (contains_at order n p at) in slice_get_within g n has.0 has.1) in
    omega arith
