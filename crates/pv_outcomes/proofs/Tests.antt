-- Tests: what their parts say where their operands have values.
use Rattle.std.proofs.Common.{◌≡◌, ℕ, suc, ℤ, pos, Bool, true, false, not, List, [], ◌∷◌, Some, refl, subst, inl, inr, arith, ◌==◌, if◌then◌else◌}
use Rattle.pv_outcomes.proofs.Words.{int_lt, map, w32, int_eq, AllZip, nat_tests, Num, World, Input, Fault, Val, sort_of, sort_of_word, test_takes, some_of, number_of, compares, tested, truth, is_clear, Part, Of, NoPart, More, Exit, Chain, PartIs, Chooses, Cell, null_part, int_part, StackIs, ieq, ilt, aeq, is_zero, compared, test_part}
use Rattle.std.specs.Int.{int_wrap}
use Rattle.pv_value.specs.declared.number.Num.TheVariants as num
use Rattle.pv_value.specs.declared.outcome.Val.TheVariants as val
use Rattle.pv_value.specs.Operations as operation
use Rattle.pv_frame.specs.declared.action.Comparison.{Comparison}
use Rattle.pv_frame.specs.declared.action.Comparison.TheVariants as comparison
use Rattle.pv_frame.specs.declared.action.Test.{Test}
use Rattle.pv_frame.specs.declared.action.Test.TheVariants as test
use Rattle.pv_graph.specs.declared.node.Op.TheVariants as op
use Rattle.pv_denote.specs.Denote.{strict}
use Rattle.pv_equations.specs.Flow as flow

twice : (b : Bool) → b ≡ not (not b)
twice true = refl
twice false = refl

bit_says : (b : Bool) → truth (val.Num (num.Int (int_wrap w32 (operation.truth b)))) ≡ Some b
unfolding int_wrap
bit_says true = refl
bit_says false = refl

no_bit : (b : Bool) → int_eq (int_wrap w32 (operation.truth b)) (pos 0) ≡ not b
unfolding int_wrap
no_bit true = refl
no_bit false = refl

ref_says : (b : Bool) → truth (val.Num (num.Int (if b then pos 1 else pos 0))) ≡ Some b
ref_says true = refl
ref_says false = refl

pub suc_not_zero : (n : ℕ) → (suc n == 0) ≡ false
suc_not_zero n = grind (arith, nat_tests)

module _ (w : World) (x : Input) (σ : ℕ → Val) where
  abbrev Is : Part → Val → Type 0
  Is q v = PartIs w x σ q v

  -- the part of a test has a value, which says so
  pub record Tests (t : Part) (b : Bool) : Type 0 where
    pub value : Val
    pub is : PartIs w x σ t value
    pub says : truth value ≡ Some b

  pub yes : (t : Part) (e : Exit) (rest : Chain) → Tests t true → Chooses w x σ (flow.Test t e rest) e
  yes t e rest h = (h.value, h.is, inl (h.says, refl))

  pub no : (t : Part) (d e : Exit) (rest : Chain) → Tests t false → Chooses w x σ rest e → Chooses w x σ (flow.Test t d rest) e
  no t d e rest h c = (h.value, h.is, inr (h.says, c))

  pub same_test : (t : Part) (b c : Bool) → b ≡ c → Tests t b → Tests t c
  same_test t b c e h = subst (Tests t) e h

  pub ieq_tests : (a b : Part) (m n : ℤ) → Is a (val.Num (num.Int m)) → Is b (val.Num (num.Int n)) → Tests (ieq a b) (int_eq m n)
  unfolding strict
  ieq_tests a b m n h k = record {
    value = val.Num (num.Int (int_wrap w32 (operation.truth (int_eq m n))));
    is = (val.Num (num.Int m) ∷ val.Num (num.Int n) ∷ [], (val.Num (num.Int m), val.Num (num.Int n) ∷ [], h, (val.Num (num.Int n), [], k, refl, refl), refl), refl);
    says = bit_says (int_eq m n);
  }

  pub ilt_tests : (a b : Part) (m n : ℤ) → Is a (val.Num (num.Int m)) → Is b (val.Num (num.Int n)) → Tests (ilt a b) (int_lt m n)
  unfolding strict
  ilt_tests a b m n h k = record {
    value = val.Num (num.Int (int_wrap w32 (operation.truth (int_lt m n))));
    is = (val.Num (num.Int m) ∷ val.Num (num.Int n) ∷ [], (val.Num (num.Int m), val.Num (num.Int n) ∷ [], h, (val.Num (num.Int n), [], k, refl, refl), refl), refl);
    says = bit_says (int_lt m n);
  }

  pub aeq_tests : (a b : Part) (m n : ℕ) → Is a (val.Num (num.Ref m)) → Is b (val.Num (num.Ref n)) → Tests (aeq a b) (m == n)
  unfolding strict
  aeq_tests a b m n h k = record {
    value = val.Num (num.Int (if m == n then pos 1 else pos 0));
    is = (val.Num (num.Ref m) ∷ val.Num (num.Ref n) ∷ [], (val.Num (num.Ref m), val.Num (num.Ref n) ∷ [], h, (val.Num (num.Ref n), [], k, refl, refl), refl), refl);
    says = ref_says (m == n);
  }

  pub int_is : (n : ℤ) → Is (int_part n) (val.Num (num.Int n))
  unfolding strict
  int_is n = ([], refl, refl)

  -- the test that an int isn't less than another asks whether the test that it is gives 0
  pub not_less_tests : (a b : Part) (m n : ℤ) → Is a (val.Num (num.Int m)) → Is b (val.Num (num.Int n)) → Tests (ieq (ilt a b) (int_part (pos 0))) (not (int_lt m n))
  unfolding strict
  not_less_tests a b m n h k =
      let bit : Is (ilt a b) (val.Num (num.Int (int_wrap w32 (operation.truth (int_lt m n))))) = (val.Num (num.Int m) ∷ val.Num (num.Int n) ∷ [], (val.Num (num.Int m), val.Num (num.Int n) ∷ [], h, (val.Num (num.Int n), [], k, refl, refl), refl), refl) in
      same_test (ieq (ilt a b) (int_part (pos 0))) _ _ (no_bit (int_lt m n)) (ieq_tests (ilt a b) (int_part (pos 0)) (int_wrap w32 (operation.truth (int_lt m n))) (pos 0) bit (int_is (pos 0)))

  pub null_is : Is null_part (val.Num (num.Ref 0))
  unfolding strict
  null_is = ([], refl, refl)

  pub null_tests : (a : Part) (r : ℕ) → Is a (val.Num (num.Ref r)) → Tests (aeq a null_part) (r == 0)
  null_tests a r h = aeq_tests a null_part r 0 h null_is

  pub zero_tests : (t : operation.Word) (q : Part) (n : Num) → sort_of n ≡ sort_of_word t → Is q (val.Num n) → Tests (is_zero t q) (int_eq (number_of n) (pos 0))
  unfolding strict
  zero_tests operation.int q (num.Int n) e h = ieq_tests q (int_part (pos 0)) n (pos 0) h (int_is (pos 0))
  zero_tests operation.long q (num.Long n) e h = record {
    value = val.Num (num.Int (int_wrap w32 (operation.truth (int_eq n (pos 0)))));
    is = (val.Num (num.Long n) ∷ val.Num (num.Long (pos 0)) ∷ [], (val.Num (num.Long n), val.Num (num.Long (pos 0)) ∷ [], h, (val.Num (num.Long (pos 0)), [], ([], refl, refl), refl, refl), refl), refl);
    says = bit_says (int_eq n (pos 0));
  }
  zero_tests operation.int q n e h = absurd (cc)
  zero_tests operation.long q n e h = absurd (cc)

  -- a fault is none, or one
  pub clear_tests : (q : Part) (f : Fault) (b : Bool) → Is q (val.Fault f) → truth (val.Num (num.Int (is_clear f))) ≡ Some b → Tests (Of op.IsClear refl (More q NoPart)) b
  unfolding strict
  clear_tests q f b h e = record { value = val.Num (num.Int (is_clear f)); is = (val.Fault f ∷ [], (val.Fault f, [], h, refl, refl), refl); says = e }

  -- what a branch asks
  abbrev pub asked : Part × Bool → Bool → Bool
  asked t b = if t.1 then b else not b

  compared_tests : (c : Comparison) (a b : Part) (m n : ℤ) → Is a (val.Num (num.Int m)) → Is b (val.Num (num.Int n)) → Tests (compared c a b).0 (asked (compared c a b) (compares c m n))
  compared_tests comparison.Eq a b m n h k = ieq_tests a b m n h k
  compared_tests comparison.Ne a b m n h k = same_test (ieq a b) _ _ (twice (int_eq m n)) (ieq_tests a b m n h k)
  compared_tests comparison.Lt a b m n h k = ilt_tests a b m n h k
  compared_tests comparison.Ge a b m n h k = same_test (ilt a b) _ _ (twice (int_lt m n)) (ilt_tests a b m n h k)
  compared_tests comparison.Gt a b m n h k = ilt_tests b a n m k h
  compared_tests comparison.Le a b m n h k = same_test (ilt b a) _ _ (twice (int_lt n m)) (ilt_tests b a n m k h)

  pub record Asks (nums : List Num) (t : Test) (q : Part × Bool) : Type 0 where
    pub holds : Bool
    pub machine : tested t nums ≡ Some holds
    pub tests : Tests q.0 (asked q holds)

  pub branch_asks : (t : Test) (nums : List Num) (cells : List Cell) (q : Part × Bool) → AllZip (λ n c. StackIs w x σ n c) nums cells → map sort_of nums ≡ test_takes t → test_part t cells ≡ Some q → Asks nums t q
  branch_asks (test.Zero c) (num.Int a ∷ []) (d ∷ []) q all es e =
      subst (Asks (num.Int a ∷ []) (test.Zero c)) (some_of _ _ e) (record { holds = _; machine = refl; tests = compared_tests c d.part (int_part (pos 0)) a (pos 0) all.0.is (int_is (pos 0)) })
  branch_asks (test.Ints c) (num.Int a ∷ num.Int b ∷ []) (d ∷ f ∷ []) q all es e =
      subst (Asks (num.Int a ∷ num.Int b ∷ []) (test.Ints c)) (some_of _ _ e) (record { holds = _; machine = refl; tests = compared_tests c d.part f.part a b all.0.is all.1.0.is })
  branch_asks test.Same (num.Ref a ∷ num.Ref b ∷ []) (d ∷ f ∷ []) q all es e = subst (Asks (num.Ref a ∷ num.Ref b ∷ []) test.Same) (some_of _ _ e) (record { holds = _; machine = refl; tests = aeq_tests d.part f.part a b all.0.is all.1.0.is })
  branch_asks test.Other (num.Ref a ∷ num.Ref b ∷ []) (d ∷ f ∷ []) q all es e =
      subst (Asks (num.Ref a ∷ num.Ref b ∷ []) test.Other) (some_of _ _ e) (record { holds = _; machine = refl; tests = same_test (aeq d.part f.part) _ _ (twice (a == b)) (aeq_tests d.part f.part a b all.0.is all.1.0.is) })
  branch_asks test.Null (num.Ref a ∷ []) (d ∷ []) q all es e = subst (Asks (num.Ref a ∷ []) test.Null) (some_of _ _ e) (record { holds = _; machine = refl; tests = null_tests d.part a all.0.is })
  branch_asks test.NonNull (num.Ref a ∷ []) (d ∷ []) q all es e =
      subst (Asks (num.Ref a ∷ []) test.NonNull) (some_of _ _ e) (record { holds = _; machine = refl; tests = same_test (aeq d.part null_part) _ _ (twice (a == 0)) (null_tests d.part a all.0.is) })
  branch_asks t nums cells q all es e = absurd (cc)
