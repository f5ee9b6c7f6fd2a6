-- The test of an axiom's sorts: whether what its left side tells gives its right side the same sort.
use Rattle.std.specs.Prelude.{Bool, true, false, ◌&&◌, List, [], ◌∷◌, Option, Some, None}
use Rattle.pv_value.specs.declared.number.Num.TheVariants as num
use Rattle.pv_value.specs.Operations.{Word, int, long, takes, gives}
use Rattle.pv_graph.specs.declared.node.OpSort.TheVariants.{N, R}
use Rattle.pv_graph.specs.Ops.{word_sort}
use Rattle.pv_pattern.specs.Patterns.{Atom, number, named, By, by_symbol, by_kind, Each, bare, shifted, evaluated, Pattern, var, constant, fold, narrowed, over, over_each, Patterns, none, first, Axiom}
use Rattle.pv_instances.specs.Facts.{Said, whole, is, field, element, same_said, Gives, any, gives_, unsaid, head_gives, head_takes, Fact, variable, word, depth, symbol, family, whole_is, has_fact, head_tells, tells}

-- the head gives the sort that is said, by what is known
abbrev pub gives_said : List Fact → Gives → Said → Bool
gives_said known any (is R) = false
gives_said known any s = true
gives_said known (gives_ t) whole = has_fact known (whole_is t)
gives_said known (gives_ t) s = same_said t s
gives_said known unsaid s = false

abbrev pub all_known : List Fact → List Fact → Bool
all_known known [] = true
all_known known (f ∷ fs) = has_fact known f && all_known known fs

abbrev pub atom_fits : List Fact → Word → Atom → Bool
atom_fits known int (number (num.Int c)) = true
atom_fits known long (number (num.Long c)) = true
atom_fits known w (number c) = false
atom_fits known w (named j) = has_fact known (word j (is (word_sort w)))

abbrev pub atoms_fit : List Fact → List Word → List Atom → Bool
atoms_fit known (w ∷ []) (a ∷ []) = atom_fits known w a
atoms_fit known (w ∷ v ∷ []) (a ∷ b ∷ []) = atom_fits known w a && atom_fits known v b
atoms_fit known ws atoms = false

abbrev pub by_said : By → Said
by_said (by_symbol k) = field k
by_said (by_kind k) = element k

abbrev pub by_tells : By → List Fact
by_tells (by_symbol k) = symbol k ∷ []
by_tells (by_kind k) = []

abbrev pub each_fits : List Fact → Each → Bool
each_fits known bare = true
each_fits known shifted = has_fact known depth
each_fits known (evaluated j) = has_fact known depth && has_fact known (variable j (is N))

abbrev mutual
  -- what is known gives the side the sort that is said
  pub fits : List Fact → Pattern → Said → Bool
  fits known (var j) s = has_fact known (variable j s)
  fits known (constant j) s = has_fact known (word j s)
  fits known (fold o atoms) s = same_said (is (word_sort (gives o))) s && atoms_fit known (takes o) atoms
  fits known (narrowed t p) s = same_said (by_said t) s && all_known known (by_tells t) && fits known p s
  fits known (over h ps) s = gives_said known (head_gives h) s && all_known known (head_tells h) && fit_all known ps (head_takes h s)
  fits known (over_each n e) s = has_fact known (family n s) && each_fits known e

  pub fit_all : List Fact → Patterns → List Said → Bool
  fit_all known none [] = true
  fit_all known none (s ∷ ss) = false
  fit_all known (first p ps) [] = false
  fit_all known (first p ps) (s ∷ ss) = fits known p s && fit_all known ps ss

-- the sort that the left side's head gives
abbrev pub said_by : Gives → Option Said
said_by any = Some whole
said_by (gives_ s) = Some s
said_by unsaid = None

abbrev pub keeps_sort_at : Option Said → Axiom → Bool
keeps_sort_at None a = false
keeps_sort_at (Some s) a = fits (tells a.left s) a.right s

abbrev pub head_said : Pattern → Option Said
head_said (over h ps) = said_by (head_gives h)
head_said p = None

-- the left side of the axiom gives the right one its sort
abbrev pub keeps_sort : Axiom → Bool
keeps_sort a = keeps_sort_at (head_said a.left) a

abbrev pub keep_sorts : List Axiom → Bool
keep_sorts [] = true
keep_sorts (a ∷ table) = keeps_sort a && keep_sorts table
