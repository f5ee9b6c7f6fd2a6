-- Things that have an operation and kids, and which of them are joined: the least equivalence that holds some given pairs, is a
-- congruence, and holds the pairs of each induction.
use Rattle.std.specs.Prelude.{◌≡◌, ◌⊎◌, ℕ, ◌<◌, List, [], ◌∷◌, length, Some, slice_get}
use Rattle.pv_graph.specs.declared.node.Op.{Op}
use Rattle.pv_graph.specs.declared.node.Op.TheVariants as op
use Rattle.pv_graph.specs.Ops.{shape}
use Rattle.pv_graph.specs.Walks.{In}
use Rattle.pv_steps.specs.Right.{looks_at}

-- things, each with an operation over kids: the terms over a least graph, or the nodes of a graph that grew from it; and which
-- thing each node of the least graph is
pub record System : Type 1 where
  pub Thing : Type 0
  pub Has : Thing → Op → List Thing → Type 0
  pub node : ℕ → Thing

-- some of the things
abbrev pub Subset : System → Type 1
Subset S = S.Thing → Type 0

-- a relation between things
abbrev pub Relation : System → Type 1
Relation S = S.Thing → S.Thing → Type 0

-- the hypothesis of an open induction: its depth, and the pairs that are taken as joined inside it
pub record Hypothesis (A : Type 0) : Type 0 where
  pub depth : ℕ
  pub pairs : List (A × A)

-- d is one of the depths, or that of an open induction
abbrev pub IsFixed : {A : Type 0} → List ℕ → List (Hypothesis A) → ℕ → Type 0
IsFixed depths [] d = In depths d
IsFixed depths (b ∷ bs) d = (b.depth ≡ d) ⊎ IsFixed depths bs d

-- the operation is no theta, eval, pass or shift of such a depth
abbrev pub IsOutside : {A : Type 0} → List ℕ → List (Hypothesis A) → Op → Type 0
IsOutside depths bs o = (d : ℕ) → looks_at (shape o) ≡ Some d → IsFixed depths bs d → ⊥

-- a is theta(p, q) and b is theta(r, s) at depth d, and both are members
pub record AreThetas (S : System) (Member : Subset S) (d : ℕ) (a b : S.Thing) : Type 0 where
  pub p : S.Thing
  pub q : S.Thing
  pub r : S.Thing
  pub s : S.Thing
  pub is_left : Member a
  pub is_right : Member b
  pub left : S.Has a (op.Theta d) (p ∷ q ∷ [])
  pub right : S.Has b (op.Theta d) (r ∷ s ∷ [])

-- which members are joined where these depths are fixed and these pairs given, inside some open inductions, the innermost first
pub data Joined (S : System) (Member : Subset S) (depths : List ℕ) (Given : Relation S) : List (Hypothesis S.Thing) → S.Thing → S.Thing → Type 0 where
  given : (bs : List (Hypothesis S.Thing)) (a b : S.Thing) → Given a b → Joined S Member depths Given bs a b
  -- an equivalence
  same : (bs : List (Hypothesis S.Thing)) (a : S.Thing) → Member a → Joined S Member depths Given bs a a
  flip : (bs : List (Hypothesis S.Thing)) (a b : S.Thing) → Joined S Member depths Given bs b a → Joined S Member depths Given bs a b
  chain : (bs : List (Hypothesis S.Thing)) (a b c : S.Thing) → Joined S Member depths Given bs a b → Joined S Member depths Given bs b c → Joined S Member depths Given bs a c
  -- a congruence: one operation over joined kids, where it looks at no other iteration of a fixed depth
  kids : (bs : List (Hypothesis S.Thing)) (a b : S.Thing) (o : Op) (ks ls : List S.Thing) → Member a → Member b → S.Has a o ks → S.Has b o ls → IsOutside depths bs o → length ks ≡ length ls
      → ((j : ℕ) (k l : S.Thing) → slice_get ks j ≡ Some k → slice_get ls j ≡ Some l → Joined S Member depths Given bs k l) → Joined S Member depths Given bs a b
  -- inside an induction, what is joined outside it, and its pairs
  outer : (b : Hypothesis S.Thing) (bs : List (Hypothesis S.Thing)) (x y : S.Thing) → Joined S Member depths Given bs x y → Joined S Member depths Given (b ∷ bs) x y
  assumed : (b : Hypothesis S.Thing) (bs : List (Hypothesis S.Thing)) (x y : S.Thing) → In b.pairs (x, y) → Joined S Member depths Given (b ∷ bs) x y
  -- the pairs of an induction: thetas of one depth greater than every fixed one, whose first kids are joined, and whose second
  -- kids are joined inside the induction
  induction : (b : Hypothesis S.Thing) (bs : List (Hypothesis S.Thing)) → ((d : ℕ) → IsFixed depths bs d → d < b.depth)
      → ((x y : S.Thing) → In b.pairs (x, y) → AreThetas S Member b.depth x y)
      → ((x y p q r s : S.Thing) → In b.pairs (x, y) → S.Has x (op.Theta b.depth) (p ∷ q ∷ []) → S.Has y (op.Theta b.depth) (r ∷ s ∷ []) → Joined S Member depths Given bs p r)
      → ((x y p q r s : S.Thing) → In b.pairs (x, y) → S.Has x (op.Theta b.depth) (p ∷ q ∷ []) → S.Has y (op.Theta b.depth) (r ∷ s ∷ []) → Joined S Member depths Given (b ∷ bs) q s)
      → (x y : S.Thing) → In b.pairs (x, y) → Joined S Member depths Given bs x y
