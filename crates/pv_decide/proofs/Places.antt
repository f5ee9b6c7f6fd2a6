-- Places of blocks in an order.
use Rattle.std.proofs.Common.{◌≡◌, ◌≢◌, ℕ, zero, suc, ◌<◌, Bool, List, [], ◌∷◌, length, Some, slice_get, ⊎_elim, sym, ap, subst, if◌then◌else◌}
use Rattle.pv_decide.proofs.Words.{eqb_tells, slice_get_within, Site, IsAround, GoesTo, place_of, AreOrdered}

place_get : (ys : List ℕ) (x k : ℕ) → slice_get ys k ≡ Some x → slice_get ys (place_of ys x) ≡ Some x
place_get [] x k e = absurd (cc)
place_get (y ∷ ys) x k e = ⊎_elim
    (λ z. subst (λ (t : Bool). slice_get (y ∷ ys) (if t then 0 else suc (place_of ys x)) ≡ Some x) (sym z.0) (ap Some z.1))
    (λ z. subst (λ (t : Bool). slice_get (y ∷ ys) (if t then 0 else suc (place_of ys x)) ≡ Some x) (sym z.0) (rest k (λ j e. place_get ys x j e) e z.1))
    (eqb_tells y x)
  where
    rest : (k : ℕ) → ((j : ℕ) → slice_get ys j ≡ Some x → slice_get ys (place_of ys x) ≡ Some x) → slice_get (y ∷ ys) k ≡ Some x → y ≢ x → slice_get ys (place_of ys x) ≡ Some x
    rest zero ih e ne = absurd (ne (let z : y ≡ x = cc in z))
    rest (suc k) ih e ne = ih k e

module _ (sites : List Site) (order : List ℕ) (ordered : AreOrdered sites order) where
  -- a block stands at its place
  pub at_place : (b : ℕ) → b < length sites → slice_get order (place_of order b) ≡ Some b
  at_place b low = let z = ordered.each b low in place_get order b z.0 z.1

  pub place_is : (k b : ℕ) → slice_get order k ≡ Some b → place_of order b ≡ k
  place_is k b e = ordered.once (place_of order b) k b (place_get order b k e) e

  pub place_low : (b : ℕ) → b < length sites → place_of order b < length order
  place_low b low = slice_get_within order (place_of order b) b (at_place b low)

  pub same_place : (b m : ℕ) → b < length sites → m < length sites → place_of order b ≡ place_of order m → b ≡ m
  same_place b m lb lm e =
      let p : slice_get order (place_of order m) ≡ Some b = subst (λ (k : ℕ). slice_get order k ≡ Some b) e (at_place b lb) in
      let q : slice_get order (place_of order m) ≡ Some m = at_place m lm in
      cc

  -- an edge that doesn't go back goes to a later block
  pub goes_on : (b m : ℕ) → b < length sites → m < length sites → GoesTo sites b m → (IsAround sites b m → ⊥) → place_of order b < place_of order m
  goes_on b m lb lm goes un = ⊎_elim (λ z. z) (λ z. absurd (un z)) (ordered.forward (place_of order b) (place_of order m) b m (at_place b lb) (at_place m lm) goes)
