-- Operations on numbers give the same by the machine and by the graph.
use Rattle.std.proofs.Common.{◌≡◌, ℕ, ℤ, pos, List, [], ◌∷◌, Option, Some, refl, ap, ◌∙◌, inl, inr}
use Rattle.pv_outcomes.proofs.Words.{map, AllZip, Num, ScalarOp, World, Input, Val, bind, sort_of, sort_of_word, number_of, value_of, computed, shape, value_sort, Sort, numbers, operand, scalar_on, scalar_value, PartsAre, Cell, cell_sort, parts_of, InRange, StackIs}
use Rattle.pv_value.specs.declared.number.Num.TheVariants as num
use Rattle.pv_value.specs.declared.outcome.Val.TheVariants as val
use Rattle.pv_value.specs.Operations as operation
use Rattle.pv_machine.specs.Machine as machine
use Rattle.pv_denote.specs.Denote as denote
use Rattle.pv_outcomes.proofs.Ranges.{value_range}

abbrev pub numbers_of : List Num → List Val
numbers_of [] = []
numbers_of (n ∷ ns) = val.Num n ∷ numbers_of ns

pub numbers_back : (nums : List Num) → numbers (numbers_of nums) ≡ Some nums
numbers_back [] = refl
numbers_back (n ∷ nums) = ap (λ (o : Option (List Num)). bind o (λ ns. Some (n ∷ ns))) (numbers_back nums)

operand_is : (t : operation.Word) (n : Num) → sort_of n ≡ sort_of_word t → operand t (val.Num n) ≡ Some (number_of n)
operand_is operation.int (num.Int n) e = refl
operand_is operation.long (num.Long n) e = refl
operand_is operation.int n e = absurd (cc)
operand_is operation.long n e = absurd (cc)

num_of_is : (t : operation.Word) (n : ℤ) → denote.num_of t n ≡ machine.num_of t n
num_of_is operation.int n = refl
num_of_is operation.long n = refl

-- the value of an operation over numbers of the sorts that it takes
pub record Computes (o : ScalarOp) (nums : List Num) : Type 0 where
  pub value : Num
  pub machine : computed o nums ≡ Some value
  pub graph : scalar_value o (numbers_of nums) ≡ Some (val.Num value)
  pub sort : sort_of value ≡ sort_of_word (operation.gives o)
  pub range : InRange value

abbrev ended : ScalarOp → Option ℤ → Option Val
ended o n = bind n (λ n. Some (val.Num (denote.num_of (operation.gives o) n)))

pub computes_one : (o : ScalarOp) (a : Num) (t : operation.Word) → operation.takes o ≡ t ∷ [] → sort_of a ≡ sort_of_word t → Computes o (a ∷ [])
computes_one o a t e s = record {
  value = value_of o (number_of a) (pos 0);
  machine = refl;
  graph = ap (λ (ts : List operation.Word). ended o (scalar_on o ts (val.Num a ∷ []))) e
      ∙ ap (λ (n : Option ℤ). ended o (bind n (λ n. Some (operation.scalar_of o n (pos 0))))) (operand_is t a s)
      ∙ ap (λ (n : Num). Some (val.Num n)) (num_of_is (operation.gives o) (operation.scalar_of o (number_of a) (pos 0)));
  sort = value_sort o (number_of a) (pos 0);
  range = value_range o (number_of a) (pos 0);
}

pub computes_two : (o : ScalarOp) (a b : Num) (t u : operation.Word) → operation.takes o ≡ t ∷ u ∷ [] → sort_of a ≡ sort_of_word t → sort_of b ≡ sort_of_word u → Computes o (a ∷ b ∷ [])
computes_two o a b t u e s r = record {
  value = value_of o (number_of a) (number_of b);
  machine = refl;
  graph = ap (λ (ts : List operation.Word). ended o (scalar_on o ts (val.Num a ∷ val.Num b ∷ []))) e
      ∙ ap (λ (n : Option ℤ). ended o (bind n (λ n. bind (operand u (val.Num b)) (λ m. Some (operation.scalar_of o n m))))) (operand_is t a s)
      ∙ ap (λ (m : Option ℤ). ended o (bind m (λ m. Some (operation.scalar_of o (number_of a) m)))) (operand_is u b r)
      ∙ ap (λ (n : Num). Some (val.Num n)) (num_of_is (operation.gives o) (operation.scalar_of o (number_of a) (number_of b)));
  sort = value_sort o (number_of a) (number_of b);
  range = value_range o (number_of a) (number_of b);
}

pub computes : (o : ScalarOp) (nums : List Num) → map sort_of nums ≡ map sort_of_word (operation.takes o) → Computes o nums
computes o nums e = elim (shape o) [
  | inl (t, is) ↦ of_one nums t is (e ∙ ap (map sort_of_word) is)
  | inr (t, u, is) ↦ of_two nums t u is (e ∙ ap (map sort_of_word) is)
]
  where
    of_one : (nums : List Num) (t : operation.Word) → operation.takes o ≡ t ∷ [] → map sort_of nums ≡ sort_of_word t ∷ [] → Computes o nums
    of_one [] t is e = absurd (cc)
    of_one (a ∷ []) t is e = computes_one o a t is (cc)
    of_one (a ∷ b ∷ nums) t is e = absurd (cc)

    of_two : (nums : List Num) (t u : operation.Word) → operation.takes o ≡ t ∷ u ∷ [] → map sort_of nums ≡ sort_of_word t ∷ sort_of_word u ∷ [] → Computes o nums
    of_two [] t u is e = absurd (cc)
    of_two (a ∷ []) t u is e = absurd (cc)
    of_two (a ∷ b ∷ []) t u is e = computes_two o a b t u is (cc) (cc)
    of_two (a ∷ b ∷ c ∷ nums) t u is e = absurd (cc)

module _ (w : World) (x : Input) (σ : ℕ → Val) where
  pub parts_are : (nums : List Num) (cells : List Cell) → AllZip (λ n c. StackIs w x σ n c) nums cells → PartsAre w x σ (parts_of cells) (numbers_of nums)
  parts_are [] [] h = refl
  parts_are [] (c ∷ cells) h = absurd h
  parts_are (n ∷ nums) [] h = absurd h
  parts_are (n ∷ nums) (c ∷ cells) h = (val.Num n, numbers_of nums, h.0.is, parts_are nums cells h.1, refl)

  -- the sorts of the numbers are those of the cells
  pub sorts_are : (nums : List Num) (cells : List Cell) → AllZip (λ n c. StackIs w x σ n c) nums cells → map sort_of nums ≡ map cell_sort cells
  sorts_are [] [] h = refl
  sorts_are [] (c ∷ cells) h = absurd h
  sorts_are (n ∷ nums) [] h = absurd h
  sorts_are (n ∷ nums) (c ∷ cells) h = ap (λ (s : Sort). s ∷ map sort_of nums) h.0.sort ∙ ap (λ (ss : List Sort). c.sort ∷ ss) (sorts_are nums cells h.1)
