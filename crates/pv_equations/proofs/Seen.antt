-- Where an exit lands, seen from a region.
use Rattle.std.proofs.Common.{◌≡◌, ℕ, ◌<◌, List, ◌∷◌, ◌++◌, refl, sym, ap, ◌∙◌, subst}
use Rattle.pv_equations.proofs.Words.{Heads, Kind, Dest, To, End, Flow, Target, Node, Back, Finish, Returning, Leaving, Place, On, Header, Ended, Lands, beside, enters, again, header, leaves, gone, Seen}
use Rattle.pv_equations.proofs.Lands.{lands_once}

-- targets that the walk hasn't met at m
abbrev pub Later : (ℕ → ℕ) → Target → ℕ → Type 0
Later rank (Node n) m = rank m < rank n
Later rank Back m = Unit {0}
Later rank Finish m = Unit {0}
Later rank Returning m = Unit {0}
Later rank Leaving m = Unit {0}

-- where an exit lands inside the region
pub lands_around : (R A : List ℕ) (b : ℕ) (F : List ℕ) (p : Place) → Lands R b A F p → (G : List ℕ) (m : ℕ) → p ≡ On G m → (A ≡ G ++ R) × (b ≡ m)
lands_around R A b F p (beside H e n) G m z = (let y = z in e ∙ ap (λ (K : List ℕ). K ++ R) (let q : H ≡ G = cc in q), cc)
lands_around R A b F p (enters H e) G m z = (e ∙ ap (λ (K : List ℕ). K ++ R) (let q : b ∷ H ≡ G = cc in q), cc)
lands_around R A b F p (again h H y e) G m z = absurd (cc)
lands_around R A b F p (header B e d) G m z = absurd (cc)
lands_around R A b F p (leaves h H q n d) G m z = lands_around R A b H q d G m z
lands_around R A b F p (gone n) G m z = absurd (cc)

lands_heads : (R A : List ℕ) (b : ℕ) (F : List ℕ) (p : Place) → Lands R b A F p → p ≡ Header → Heads R b
lands_heads R A b F p (beside H e n) z = absurd (cc)
lands_heads R A b F p (enters H e) z = absurd (cc)
lands_heads R A b F p (again h H y e) z = absurd (cc)
lands_heads R A b F p (header B e d) z = (B, e)
lands_heads R A b F p (leaves h H q n d) z = lands_heads R A b H q d z
lands_heads R A b F p (gone n) z = absurd (cc)

pub seen_once : (f : Flow) (R F : List ℕ) (d : Dest) (p q : Place) → Seen f R F d p → Seen f R F d q → p ≡ q
seen_once f R F (To m) p q h k = lands_once R (f.around m) m F p q h k
seen_once f R F (End m) p q h k = h ∙ sym k

pub seen_to : (f : Flow) (R F : List ℕ) (d : Dest) (G : List ℕ) (m : ℕ) → Seen f R F d (On G m) → (d ≡ To m) × (f.around m ≡ G ++ R)
seen_to f R F (To n) G m h =
    let o = lands_around R (f.around n) n F _ h G m refl in
    (ap To o.1, subst (λ (k : ℕ). f.around k ≡ G ++ R) o.1 o.0)
seen_to f R F (End n) G m h = absurd (cc)

pub seen_heads : (f : Flow) (R F : List ℕ) (d : Dest) → Seen f R F d Header → (m : ℕ) × (d ≡ To m) × Heads R m
seen_heads f R F (To n) h = (n, refl, lands_heads R (f.around n) n F _ h refl)
seen_heads f R F (End n) h = absurd (cc)

pub seen_ended : (f : Flow) (R F : List ℕ) (d : Dest) (k : Kind) → Seen f R F d (Ended k) → d ≡ End k
seen_ended f R F (To n) k h = absurd (lands_ended R (f.around n) n F _ h k refl)
  where
    lands_ended : (R A : List ℕ) (b : ℕ) (F : List ℕ) (p : Place) → Lands R b A F p → (k : Kind) → p ≡ Ended k → ⊥
    lands_ended R A b F p (beside H e n) k z = absurd (cc)
    lands_ended R A b F p (enters H e) k z = absurd (cc)
    lands_ended R A b F p (again h H y e) k z = absurd (cc)
    lands_ended R A b F p (header B e d) k z = absurd (cc)
    lands_ended R A b F p (leaves h H q n d) k z = lands_ended R A b H q d k z
    lands_ended R A b F p (gone n) k z = absurd (cc)
seen_ended f R F (End n) k h = cc
