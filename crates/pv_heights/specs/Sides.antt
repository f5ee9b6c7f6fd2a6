-- The sides of an axiom: in which class of things one stands, and which thing it is.
use Rattle.std.specs.Prelude.{◌≡◌, List, [], ◌∷◌, length, Option, Some, slice_get}
use Rattle.pv_graph.specs.declared.node.Op.{Op}
use Rattle.pv_pattern.specs.Patterns.{Pattern, Axiom}
use Rattle.pv_heights.specs.Systems.{System, Subset, Relation}
use Rattle.pv_heights.specs.Filled.{Params, Hole, kid, variable, Filled, at, of, Parts, no_part, part, filled}

-- an axiom with a substitution: what its names stand for, and a thing for each kid of its family and for each of its variables. Whether it
-- matches is said in Matches
pub record Match (A : Type 0) : Type 0 where
  pub entry : Axiom
  pub params : Params
  pub kids : List A
  pub vars : List A

-- the thing at a hole
abbrev pub thing_at : {A : Type 0} → Match A → Hole → Option A
thing_at m (kid i) = slice_get m.kids i
thing_at m (variable j) = slice_get m.vars j

-- a side of its axiom with the names filled in
abbrev pub side : {A : Type 0} → Match A → Pattern → Option Filled
side m p = filled m.params (length m.kids) p

-- ---- over classes: Member says which things there are, and Joins which of them are of one class. The class of a thing is named by
-- the thing

-- the class of t holds a member with this operation and these kids
pub record ClassHas (S : System) (Member : Subset S) (Joins : Relation S) (t : S.Thing) (o : Op) (ks : List S.Thing) : Type 0 where
  pub thing : S.Thing
  pub is : Member thing
  pub joins : Joins thing t
  pub has : S.Has thing o ks

abbrev mutual
  -- the side stands in the class of t: a hole stands in the class of its thing, and an operation in the class of a member that has
  -- it and whose kids lie in the classes in which its parts stand
  pub InClass : (S : System) → Subset S → Relation S → Match S.Thing → Filled → S.Thing → Type 0
  InClass S Member Joins m (at x) t = (u : S.Thing) × (thing_at m x ≡ Some u) × Joins u t
  InClass S Member Joins m (of o ps) t = (ks : List S.Thing) × ClassHas S Member Joins t o ks × AllInClass S Member Joins m ps ks

  pub AllInClass : (S : System) → Subset S → Relation S → Match S.Thing → Parts → List S.Thing → Type 0
  AllInClass S Member Joins m no_part [] = Unit {0}
  AllInClass S Member Joins m no_part (k ∷ ks) = ⊥
  AllInClass S Member Joins m (part s ss) [] = ⊥
  AllInClass S Member Joins m (part s ss) (k ∷ ks) = InClass S Member Joins m s k × AllInClass S Member Joins m ss ks

-- a side of its axiom, with the names filled in, stands in the class of t
abbrev pub StandsIn : (S : System) → Subset S → Relation S → Match S.Thing → Pattern → S.Thing → Type 0
StandsIn S Member Joins m p t = (s : Filled) × (side m p ≡ Some s) × InClass S Member Joins m s t

-- ---- over things

abbrev mutual
  -- t is the side: the thing at the hole, or a member with its operation over kids that are its parts
  pub IsSide : (S : System) → Subset S → Match S.Thing → Filled → S.Thing → Type 0
  IsSide S Member m (at x) t = thing_at m x ≡ Some t
  IsSide S Member m (of o ps) t = (ks : List S.Thing) × Member t × S.Has t o ks × AreSides S Member m ps ks

  pub AreSides : (S : System) → Subset S → Match S.Thing → Parts → List S.Thing → Type 0
  AreSides S Member m no_part [] = Unit {0}
  AreSides S Member m no_part (k ∷ ks) = ⊥
  AreSides S Member m (part s ss) [] = ⊥
  AreSides S Member m (part s ss) (k ∷ ks) = IsSide S Member m s k × AreSides S Member m ss ks

-- t is a side of its axiom, with the names filled in
abbrev pub IsSideOf : (S : System) → Subset S → Match S.Thing → Pattern → S.Thing → Type 0
IsSideOf S Member m p t = (s : Filled) × (side m p ≡ Some s) × IsSide S Member m s t
