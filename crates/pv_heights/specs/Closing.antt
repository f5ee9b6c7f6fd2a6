-- How a closing with inductions runs over any system, one induction in another. A program's closing is such a run, and what a run
-- joins is what is joined (`run-sound` and `run-full` of proofs/Induct).
use Rattle.std.specs.Prelude.{◌≡◌, ◌⊎◌, ℕ, ◌<◌, List, [], ◌∷◌, length, Some, slice_get}
use Rattle.std.specs.List.{AllZip}
use Rattle.pv_graph.specs.declared.node.Op.{Op}
use Rattle.pv_graph.specs.declared.node.Op.TheVariants as op
use Rattle.pv_graph.specs.Walks.{In}
use Rattle.pv_heights.specs.Systems.{System, IsOutside, AreThetas, Joined, Subset, Relation}

-- what J joins, and these pairs
abbrev pub With : {A : Type 0} → (A → A → Type 0) → List (A × A) → A → A → Type 0
With J pairs a b = J a b ⊎ In pairs (a, b)

-- d is greater than each of the depths
abbrev pub IsAbove : List ℕ → ℕ → Type 0
IsAbove depths d = (e : ℕ) → In depths e → e < d

-- an induction at depth d: of each pair the first kids are related by First, and the second kids by Second
pub record IsInduction (S : System) (Member : Subset S) (depths : List ℕ) (d : ℕ) (pairs : List (S.Thing × S.Thing)) (First Second : Relation S) : Type 0 where
  pub above : IsAbove depths d
  pub thetas : (x y : S.Thing) → In pairs (x, y) → AreThetas S Member d x y
  pub first : (x y p q r s : S.Thing) → In pairs (x, y) → S.Has x (op.Theta d) (p ∷ q ∷ []) → S.Has y (op.Theta d) (r ∷ s ∷ []) → First p r
  pub second : (x y p q r s : S.Thing) → In pairs (x, y) → S.Has x (op.Theta d) (p ∷ q ∷ []) → S.Has y (op.Theta d) (r ∷ s ∷ []) → Second q s

-- F holds what is given, is an equivalence on the members, and a congruence where no operation looks at a fixed depth
pub record IsClosedUnder (S : System) (Member : Subset S) (depths : List ℕ) (Given F : Relation S) : Type 0 where
  pub given : (a b : S.Thing) → Given a b → F a b
  pub same : (a : S.Thing) → Member a → F a a
  pub flip : (a b : S.Thing) → F b a → F a b
  pub chain : (a b c : S.Thing) → F a b → F b c → F a c
  pub kids : (a b : S.Thing) (o : Op) (ks ls : List S.Thing) → Member a → Member b → S.Has a o ks → S.Has b o ls → IsOutside {A = S.Thing} depths [] o → AllZip F ks ls → F a b

-- the least such relation: what a closing without inductions joins
pub data Closest (S : System) (Member : Subset S) (depths : List ℕ) (Given : Relation S) : S.Thing → S.Thing → Type 0 where
  given : (a b : S.Thing) → Given a b → Closest S Member depths Given a b
  same : (a : S.Thing) → Member a → Closest S Member depths Given a a
  flip : (a b : S.Thing) → Closest S Member depths Given b a → Closest S Member depths Given a b
  chain : (a b c : S.Thing) → Closest S Member depths Given a b → Closest S Member depths Given b c → Closest S Member depths Given a c
  kids : (a b : S.Thing) (o : Op) (ks ls : List S.Thing) → Member a → Member b → S.Has a o ks → S.Has b o ls → IsOutside {A = S.Thing} depths [] o → length ks ≡ length ls
      → ((j : ℕ) (k l : S.Thing) → slice_get ks j ≡ Some k → slice_get ls j ≡ Some l → Closest S Member depths Given k l) → Closest S Member depths Given a b

mutual
  -- a closing with inductions comes from what is given to F: it stops where F is closed and, at each depth above the fixed
  -- ones, the pairs that are left are joined
  pub data Run (S : System) (Member : Subset S) : List ℕ → Relation S → Relation S → Type 1 where
    done : (depths : List ℕ) (Given F : Relation S) (Left : ℕ → Relation S) → Grows S Member depths Given F → IsClosedUnder S Member depths Given F
        → ((d : ℕ) → IsAbove depths d → Kept S Member depths d F (Left d)) → ((d : ℕ) → IsAbove depths d → (x y : S.Thing) → Left d x y → F x y) → Run S Member depths Given F

  -- F is what it has joined so far: a closing without inductions; then, again and again, the pairs of an induction whose
  -- inner closing comes to G, and another closing
  pub data Grows (S : System) (Member : Subset S) : List ℕ → Relation S → Relation S → Type 1 where
    begin : (depths : List ℕ) (Given F : Relation S) → ((a b : S.Thing) → F a b → Joined S Member depths Given [] a b) → Grows S Member depths Given F
    join : (depths : List ℕ) (Given F G Next : Relation S) (d : ℕ) (pairs : List (S.Thing × S.Thing)) → Grows S Member depths Given F → Run S Member (d ∷ depths) (With F pairs) G
        → IsInduction S Member depths d pairs F G → ((a b : S.Thing) → Next a b → Joined S Member depths (With F pairs) [] a b) → Grows S Member depths Given Next

  -- the pairs at depth d that are left: at first all thetas with joined first kids; then those of which the second kids
  -- are joined in the inner closing of some pairs that holds all that were left
  pub data Kept (S : System) (Member : Subset S) : List ℕ → ℕ → Relation S → Relation S → Type 1 where
    all : (depths : List ℕ) (d : ℕ) (F Left : Relation S)
        → ((x y p q r s : S.Thing) → Member x → Member y → S.Has x (op.Theta d) (p ∷ q ∷ []) → S.Has y (op.Theta d) (r ∷ s ∷ []) → F p r → Left x y) → Kept S Member depths d F Left
    some : (depths : List ℕ) (d : ℕ) (F Left G Next : Relation S) (pairs : List (S.Thing × S.Thing)) → Kept S Member depths d F Left → Run S Member (d ∷ depths) (With F pairs) G
        → ((x y : S.Thing) → Left x y → G x y)
        → ((x y p q r s : S.Thing) → Left x y → S.Has x (op.Theta d) (p ∷ q ∷ []) → S.Has y (op.Theta d) (r ∷ s ∷ []) → G q s → Next x y) → Kept S Member depths d F Next
