-- What the left side of an axiom tells of the sorts of its variables, symbols and constants.
use Rattle.std.specs.Prelude.{◌≡◌, ℕ, Bool, true, false, ◌&&◌, ◌||◌, List, [], ◌∷◌, ◌++◌, map, Option, Some, None, slice_get, ◌==◌}
use Rattle.pv_value.specs.declared.number.Num.{Num}
use Rattle.pv_value.specs.declared.number.Num.TheVariants as num
use Rattle.pv_value.specs.Operations.{takes, gives}
use Rattle.pv_graph.specs.declared.node.Op.{Op}
use Rattle.pv_graph.specs.declared.node.Op.TheVariants as op
use Rattle.pv_graph.specs.declared.node.OpSort.{OpSort}
use Rattle.pv_graph.specs.declared.node.OpSort.TheVariants.{I, L, A, N, F, T, H}
use Rattle.pv_graph.specs.Ops.{same_sort, word_sort, field_sort, kind_sort, is_depth, sort_over}
use Rattle.pv_pattern.specs.Patterns.{Head, fixed, theta_d, eval_d, pass_d, shift_d, getstatic, putstatic, getfield, putfield, load, store, bare, Pattern, var, constant, fold, narrowed, over, over_each, Patterns, none, first}
use Rattle.pv_pattern.specs.Numbers.{op_number}
use Rattle.pv_heights.specs.Filled.{Params}

-- the sort of a constant; a reference is none
abbrev pub num_sort : Num → Option OpSort
num_sort (num.Int c) = Some I
num_sort (num.Long c) = Some L
num_sort (num.Ref r) = None

-- a sort as a table can say it: that of the whole left side, this one, that of a symbol's field, or that of the elements of a kind
pub data Said : Type 0 where
  whole : Said
  is : OpSort → Said
  field : ℕ → Said
  element : ℕ → Said

abbrev pub same_said : Said → Said → Bool
same_said whole whole = true
same_said (is s) (is t) = same_sort s t
same_said (field j) (field k) = j == k
same_said (element j) (element k) = j == k
same_said s t = false

-- the sort that is said, where the whole has sort r
abbrev pub sort_said : Params → OpSort → Said → Option OpSort
sort_said m r whole = Some r
sort_said m r (is s) = Some s
sort_said m r (field k) = field_sort (m.symbols k)
sort_said m r (element k) = Some (kind_sort (m.kinds k))

-- ---- what operations give and take, as far as a table says it

-- the sort of an operation's value: any but a root's, for an operation that hands on that of a kid; this one; or not said
pub data Gives : Type 0 where
  any : Gives
  gives_ : Said → Gives
  unsaid : Gives

abbrev pub op_gives : Op → Gives
op_gives (op.Int c) = gives_ (is I)
op_gives (op.Long c) = gives_ (is L)
op_gives op.Null = gives_ (is A)
op_gives op.This = gives_ (is A)
op_gives op.Unit = gives_ (is T)
op_gives op.Zero = gives_ (is N)
op_gives op.Succ = gives_ (is N)
op_gives op.Both = gives_ (is T)
op_gives op.Phi = any
op_gives (op.Scalar o) = gives_ (is (word_sort (gives o)))
op_gives op.Aeq = gives_ (is I)
op_gives op.Thrown = gives_ (is F)
op_gives op.IsClear = gives_ (is I)
op_gives op.Length = gives_ (is I)
op_gives o = unsaid

abbrev pub head_gives : Head → Gives
head_gives (fixed o) = op_gives o
head_gives theta_d = any
head_gives eval_d = any
head_gives pass_d = gives_ (is N)
head_gives shift_d = any
head_gives (getstatic k) = gives_ (field k)
head_gives (putstatic k) = gives_ (is H)
head_gives (getfield k) = gives_ (field k)
head_gives (putfield k) = gives_ (is H)
head_gives (load k) = gives_ (element k)
head_gives (store k) = gives_ (is H)

abbrev pub op_takes : Op → Said → List Said
op_takes op.Succ s = is N ∷ []
op_takes op.Both s = is T ∷ is T ∷ []
op_takes op.Phi s = is I ∷ s ∷ s ∷ []
op_takes (op.Scalar o) s = map (λ w. is (word_sort w)) (takes o)
op_takes op.Aeq s = is A ∷ is A ∷ []
op_takes op.Thrown s = is A ∷ []
op_takes op.IsClear s = is F ∷ []
op_takes op.Length s = is A ∷ []
op_takes o s = []

-- the sorts of the kids, where the value has a sort that is said
abbrev pub head_takes : Head → Said → List Said
head_takes (fixed o) s = op_takes o s
head_takes theta_d s = s ∷ s ∷ []
head_takes eval_d s = s ∷ is N ∷ []
head_takes pass_d s = is I ∷ []
head_takes shift_d s = s ∷ []
head_takes (getstatic k) s = is H ∷ []
head_takes (putstatic k) s = is H ∷ field k ∷ []
head_takes (getfield k) s = is H ∷ is A ∷ []
head_takes (putfield k) s = is H ∷ is A ∷ field k ∷ []
head_takes (load k) s = is H ∷ is A ∷ is I ∷ []
head_takes (store k) s = is H ∷ is A ∷ is I ∷ element k ∷ []

-- ---- what a left side tells

-- a variable or a constant has a sort; the depth is one of loops; a symbol is that of a field which has a sort; the operation of
-- the family has this number, and its value a sort; the sort of the whole left side is this one
pub data Fact : Type 0 where
  variable : ℕ → Said → Fact
  word : ℕ → Said → Fact
  depth : Fact
  symbol : ℕ → Fact
  family : ℕ → Said → Fact
  whole_is : Said → Fact

abbrev pub same_fact : Fact → Fact → Bool
same_fact (variable j s) (variable k t) = j == k && same_said s t
same_fact (word j s) (word k t) = j == k && same_said s t
same_fact depth depth = true
same_fact (symbol j) (symbol k) = j == k
same_fact (family m s) (family n t) = m == n && same_said s t
same_fact (whole_is s) (whole_is t) = same_said s t
same_fact a b = false

abbrev pub has_fact : List Fact → Fact → Bool
has_fact [] f = false
has_fact (g ∷ gs) f = same_fact g f || has_fact gs f

-- the fact holds
abbrev pub Tells : Params → List OpSort → List OpSort → OpSort → Fact → Type 0
Tells m kids vars r (variable j s) = slice_get vars j ≡ sort_said m r s
Tells m kids vars r (word j s) = num_sort (m.constants j) ≡ sort_said m r s
Tells m kids vars r depth = is_depth m.depth ≡ true
Tells m kids vars r (symbol k) = (s : OpSort) × (field_sort (m.symbols k) ≡ Some s)
Tells m kids vars r (family n s) = ((op_number m.op_ == n) ≡ true) × (sort_over m.op_ kids ≡ sort_said m r s)
Tells m kids vars r (whole_is s) = sort_said m r s ≡ Some r

-- what an operation's head tells
abbrev pub head_tells : Head → List Fact
head_tells (fixed o) = []
head_tells theta_d = depth ∷ []
head_tells eval_d = depth ∷ []
head_tells pass_d = depth ∷ []
head_tells shift_d = depth ∷ []
head_tells (getstatic k) = symbol k ∷ []
head_tells (putstatic k) = symbol k ∷ []
head_tells (getfield k) = symbol k ∷ []
head_tells (putfield k) = symbol k ∷ []
head_tells (load k) = []
head_tells (store k) = []

-- an operation that gives a sort of its own, where its value has that of the whole, tells which this is
abbrev pub whole_tells : Gives → Said → List Fact
whole_tells (gives_ t) whole = whole_is t ∷ []
whole_tells g s = []

abbrev mutual
  -- what a side tells that has a sort
  pub tells : Pattern → Said → List Fact
  tells (var j) s = variable j s ∷ []
  tells (constant j) s = word j s ∷ []
  tells (fold o atoms) s = []
  tells (narrowed t p) s = []
  tells (over h ps) s = whole_tells (head_gives h) s ++ (head_tells h ++ tell_all ps (head_takes h s))
  tells (over_each n bare) s = family n s ∷ []
  tells (over_each n e) s = []

  pub tell_all : Patterns → List Said → List Fact
  tell_all none ss = []
  tell_all (first p ps) [] = []
  tell_all (first p ps) (s ∷ ss) = tells p s ++ tell_all ps ss
