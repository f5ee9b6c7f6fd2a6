-- What a pattern has, and what the names of a left side stand for by a list of parameters.
use Rattle.std.specs.Prelude.{◌≡◌, ℕ, true, pos, List, ◌∷◌, flat_map, ◌==◌, slice_get, unwrap_or, if◌then◌else◌, Some}
use Rattle.pv_value.specs.declared.heap.Kind as kinds
use Rattle.pv_value.specs.declared.heap.Kind.TheVariants as kind
use Rattle.pv_value.specs.declared.name.Sym.{Sym}
use Rattle.pv_value.specs.declared.number.Num.{Num}
use Rattle.pv_value.specs.declared.number.Num.TheVariants as num
use Rattle.pv_pattern.specs.declared.names.NameId.{NameId}
use Rattle.pv_pattern.specs.declared.names.NameId.TheVariants as name
use Rattle.pv_pattern.specs.Patterns.{Pattern, var, constant, fold, narrowed, over, over_each, Patterns, none, first}
use Rattle.pv_graph.specs.Walks.{In}
use Rattle.pv_graph.specs.declared.node.Op.{Op}
use Rattle.pv_pattern.specs.Found.{empty_symbol, or_unit}
use Rattle.pv_pattern.specs.Numbers.{op_number}
use Rattle.pv_heights.specs.Filled.{Params, named, number_op}
use Rattle.pv_heights.specs.Matches.{AgreeOn}
use Rattle.pv_match.specs.declared.found.Param.{Param}
use Rattle.pv_match.specs.declared.found.Param.TheVariants as param
use Rattle.pv_match.specs.Reading.{is_told}
use Rattle.pv_match.specs.Parameters.{name_params}
use Rattle.pv_saturate.specs.Operations.{op_of, count_of}

abbrev mutual
  -- the number of the operation of the pattern's family, the last one; else this number
  pub family_in : ℕ → Pattern → ℕ
  family_in n (var j) = n
  family_in n (constant j) = n
  family_in n (fold o atoms) = n
  family_in n (narrowed t p) = family_in n p
  family_in n (over h ps) = families_in n ps
  family_in n (over_each k e) = k

  pub families_in : ℕ → Patterns → ℕ
  families_in n none = n
  families_in n (first p ps) = families_in (family_in n p) ps

-- ---- what the first of some parameters says

abbrev pub depth_of : List Param → ℕ
depth_of (param.Depth d ∷ ps) = d
depth_of ps = 0

abbrev pub symbol_of : List Param → Sym
symbol_of (param.Symbol s ∷ ps) = s
symbol_of ps = empty_symbol

abbrev pub kind_of : List Param → kinds.Kind
kind_of (param.Kind k ∷ ps) = k
kind_of ps = kind.Int

abbrev pub constant_of : List Param → Num
constant_of (param.Int c ∷ ps) = num.Int c
constant_of (param.Long c ∷ ps) = num.Long c
constant_of ps = num.Int (pos 0)

-- what any name stands for whose own parameters these are; the operation has this number
abbrev pub told : ℕ → List Param → Params
told family own = record {
  depth = depth_of own;
  symbols = λ s. symbol_of own;
  kinds = λ k. kind_of own;
  constants = λ j. constant_of own;
  op_ = or_unit (op_of family own);
}

-- how many parameters a name has
abbrev pub own_count : ℕ → NameId → ℕ
own_count family name.Operation = count_of family
own_count family i = 1

-- ---- one name

-- element k is this one, and others are as they were, where d stands for those that aren't there
abbrev pub IsPut : {A : Type 0} → A → List A → List A → ℕ → A → Type 0
IsPut d old new k x = (t : ℕ) → unwrap_or (slice_get new t) d ≡ (if t == k then x else unwrap_or (slice_get old t) d)

-- the name stands for what its own parameters say, and each name for what it stood for where that is no other
pub record IsTold (family : ℕ) (own : List Param) (i : NameId) (old new : Params) : Type 0 where
  pub now : (m : Params) → AgreeOn m (told family own) i → AgreeOn m new i
  pub kept : (m : Params) → AgreeOn m (told family own) i → (j : NameId) → AgreeOn m old j → AgreeOn m new j

-- ---- all names

-- a constant is an int or a long, and the operation has this number, which is that of no constant, text, argument or variable
abbrev pub HasOwn : Params → ℕ → NameId → Type 0
HasOwn m family (name.Constant j) = (o : Op) × (number_op (m.constants j) ≡ Some o)
HasOwn m family name.Operation = (op_number m.op_ ≡ family) × (is_told family ≡ true)
HasOwn m family i = Unit {0}

-- p says of these names what each m says whose parameters these are
pub record AreTold (family : ℕ) (names : List NameId) (list : List Param) (p : Params) : Type 0 where
  pub all : (m : Params) → ((i : NameId) → In names i → HasOwn m family i) → flat_map (name_params (named m)) names ≡ list → (i : NameId) → In names i → AgreeOn m p i
