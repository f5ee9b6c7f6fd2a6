-- One round over any system: what it may add for the matches, and what it joins. A search need not make the right side of a match over
-- each term of its classes: one instance over chosen things is enough, since all others are joined to it by congruence.
use Rattle.std.specs.Prelude.{◌≡◌, ◌⊎◌, ℕ, List, length, Some, slice_get}
use Rattle.std.specs.List.{AllZip}
use Rattle.pv_graph.specs.declared.node.Op.{Op}
use Rattle.pv_pattern.specs.Patterns.{Pattern, Axiom}
use Rattle.pv_steps.specs.Facts.{View}
use Rattle.pv_heights.specs.Systems.{System, Subset, Relation}
use Rattle.pv_heights.specs.Filled.{Filled, at, of, Parts, no_part, part}
use Rattle.pv_heights.specs.Sides.{Match, side, StandsIn, IsSide, IsSideOf}
use Rattle.pv_heights.specs.Matches.{IsMatch}
use Rattle.pv_heights.specs.Heights.{Corresponds}

-- p is the second side, or a part of it
abbrev mutual
  pub IsPart : Filled → Filled → Type 0
  IsPart p (at x) = p ≡ at x
  IsPart p (of o ps) = (p ≡ of o ps) ⊎ IsPartOf p ps

  pub IsPartOf : Filled → Parts → Type 0
  IsPartOf p no_part = ⊥
  IsPartOf p (part s ss) = IsPart p s ⊎ IsPartOf p ss

-- a is a copy of u, a member: it is u itself, or a later thing with the operation of u over copies of things that are joined to the
-- kids of u
pub data Copy (S : System) (Member : Subset S) (Joins : Relation S) (Later : Subset S) : S.Thing → S.Thing → Type 0 where
  itself : (a u : S.Thing) → Member u → a ≡ u → Copy S Member Joins Later a u
  again : (a u : S.Thing) (o : Op) (ks ls ms : List S.Thing) → Later a → S.Has a o ks → Member u → S.Has u o ls → length ks ≡ length ms
      → ((j : ℕ) (k m : S.Thing) → slice_get ks j ≡ Some k → slice_get ms j ≡ Some m → Copy S Member Joins Later k m) → AllZip Joins ms ls → Copy S Member Joins Later a u

-- s is a copy of a thing of the class of x
pub record ClassCopy (S : System) (Member : Subset S) (Joins : Relation S) (Later : Subset S) (x s : S.Thing) : Type 0 where
  pub thing : S.Thing
  pub is : Member thing
  pub joins : Joins x thing
  pub copy : Copy S Member Joins Later s thing

-- n is the match m over a copy of some thing of each of its classes
abbrev pub IsChoice : (S : System) → Subset S → Relation S → Subset S → Match S.Thing → Match S.Thing → Type 0
IsChoice S Member Joins Later m n = Corresponds (ClassCopy S Member Joins Later) m n

-- a and b are the two sides of the match m, made over such copies
pub record IsInstanceOf (S : System) (Member : Subset S) (Joins : Relation S) (Later : Subset S) (m : Match S.Thing) (a b : S.Thing) : Type 0 where
  pub chosen : Match S.Thing
  pub is_chosen : IsChoice S Member Joins Later m chosen
  pub left : IsSideOf S Later chosen m.entry.left a
  pub right : IsSideOf S Later chosen m.entry.right b

-- a serves as a side of the match m: it is a member in whose class the side stands, or the side itself over the choice n
abbrev pub ServesAsSide : (S : System) → Subset S → Relation S → Subset S → Match S.Thing → Match S.Thing → Pattern → S.Thing → Type 0
ServesAsSide S Member Joins Later m n p a = (Member a × StandsIn S Member Joins m p a) ⊎ IsSideOf S Later n p a

-- a and b serve as the two sides of the match m
pub record AreSidesOf (S : System) (Member : Subset S) (Joins : Relation S) (Later : Subset S) (m : Match S.Thing) (a b : S.Thing) : Type 0 where
  pub chosen : Match S.Thing
  pub is_chosen : IsChoice S Member Joins Later m chosen
  pub left : ServesAsSide S Member Joins Later m chosen m.entry.left a
  pub right : ServesAsSide S Member Joins Later m chosen m.entry.right b

-- a is a part of a side of the match m, made over such copies: the thing of an inner side of the whole one
pub record IsMadePart (S : System) (Member : Subset S) (Joins : Relation S) (Later : Subset S) (m : Match S.Thing) (a : S.Thing) : Type 0 where
  pub chosen : Match S.Thing
  pub is_chosen : IsChoice S Member Joins Later m chosen
  pub whole : Filled
  pub is_whole : (side m m.entry.left ≡ Some whole) ⊎ (side m m.entry.right ≡ Some whole)
  pub inner : Filled
  pub is_inner : IsPart inner whole
  pub is : IsSide S Later chosen inner a

-- one round: the later things are the members, parts of sides of matches, and copies; what is given to the closing is what was joined,
-- and for each match two things that serve as its sides, and nothing else
pub record IsRoundOn (view : View) (assumed : List ℕ) (table : List Axiom) (S : System) (Member : Subset S) (Joins : Relation S) (Later : Subset S) (Given : Relation S) : Type 0 where
  pub kept : (a : S.Thing) → Member a → Later a
  pub made : (a : S.Thing) → Later a → Member a ⊎ ((m : Match S.Thing) × IsMatch view assumed table S Member Joins m × IsMadePart S Member Joins Later m a) ⊎ ((u : S.Thing) × Copy S Member Joins Later a u)
  pub joined : (a b : S.Thing) → Joins a b → Given a b
  pub full : (m : Match S.Thing) → IsMatch view assumed table S Member Joins m → (a : S.Thing) × (b : S.Thing) × AreSidesOf S Member Joins Later m a b × Given a b
  pub given : (a b : S.Thing) → Given a b → (Member a × Member b × Joins a b) ⊎ ((m : Match S.Thing) × IsMatch view assumed table S Member Joins m × AreSidesOf S Member Joins Later m a b)
