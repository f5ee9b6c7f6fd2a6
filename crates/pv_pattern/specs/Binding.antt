-- Axioms whose left side binds all that they name: a depth, symbols, kinds, constants, and the operation of a family.
use Rattle.std.specs.Prelude.{ℕ, Bool, true, false, ◌&&◌, ◌||◌, List, [], ◌∷◌, ◌++◌, Option, Some, None, IsTrue}
use Rattle.pv_pattern.specs.declared.names.NameId.{NameId}
use Rattle.pv_pattern.specs.declared.names.NameId.TheVariants.{Depth, Symbol, Kind, Constant, Operation}
use Rattle.pv_pattern.specs.Patterns.{Atom, number, named, By, by_symbol, by_kind, Each, bare, shifted, evaluated, Pattern, var, constant, fold, narrowed, over, over_each, Patterns, none, first, Side, settled, not_free, symbols_differ, kinds_differ, not_byte, constants_differ, Axiom}
use Rattle.pv_pattern.specs.Found.{head_name, is_name, same_name}

abbrev pub listed_name : Option NameId → List NameId
listed_name None = []
listed_name (Some m) = m ∷ []

-- ---- what a side names

abbrev pub atoms_names : List Atom → List NameId
atoms_names [] = []
atoms_names (number c ∷ atoms) = atoms_names atoms
atoms_names (named j ∷ atoms) = Constant j ∷ atoms_names atoms

abbrev pub by_name : By → NameId
by_name (by_symbol s) = Symbol s
by_name (by_kind k) = Kind k

abbrev pub each_names : Each → List NameId
each_names bare = []
each_names shifted = Depth ∷ []
each_names (evaluated j) = Depth ∷ []

abbrev mutual
  pub names : Pattern → List NameId
  names (var j) = []
  names (constant j) = Constant j ∷ []
  names (fold o atoms) = atoms_names atoms
  names (narrowed t p) = by_name t ∷ names p
  names (over h ps) = listed_name (head_name h) ++ names_in ps
  names (over_each n e) = Operation ∷ each_names e

  pub names_in : Patterns → List NameId
  names_in none = []
  names_in (first p ps) = names p ++ names_in ps

abbrev pub side_names : Side → List NameId
side_names (settled j) = []
side_names (not_free j) = Depth ∷ []
side_names (symbols_differ s t) = Symbol s ∷ Symbol t ∷ []
side_names (kinds_differ k l) = Kind k ∷ Kind l ∷ []
side_names (not_byte k) = Kind k ∷ []
side_names (constants_differ j k) = Constant j ∷ Constant k ∷ []

abbrev pub sides_names : List Side → List NameId
sides_names [] = []
sides_names (s ∷ ss) = side_names s ++ sides_names ss

-- ---- what it binds: a name that some node of it shows

abbrev mutual
  pub binds : Pattern → NameId → Bool
  binds (var j) m = false
  binds (constant j) m = same_name (Constant j) m
  binds (fold o atoms) m = false
  binds (narrowed t p) m = false
  binds (over h ps) m = is_name (head_name h) m || binds_in ps m
  binds (over_each n e) m = same_name Operation m

  pub binds_in : Patterns → NameId → Bool
  binds_in none m = false
  binds_in (first p ps) m = binds p m || binds_in ps m

abbrev pub binds_all : Pattern → List NameId → Bool
binds_all p [] = true
binds_all p (m ∷ ms) = binds p m && binds_all p ms

abbrev pub BindsItsNames : Axiom → Type 0
BindsItsNames a = IsTrue (binds_all a.left (names a.left ++ (names a.right ++ sides_names a.sides)))
