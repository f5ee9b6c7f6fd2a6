-- The row of each action is its chain, and has its sorts.
use Rattle.std.proofs.Common.{◌≡◌, ℕ, ℤ, suc, true, List, [], ◌∷◌, ◌++◌, length, Option, Some, None, refl, ap, sym, subst, ◌∙◌}
use Rattle.pv_block.proofs.Words.{map, option_map, slice_get, AllByRecursion, ◌>>=◌, bind, JType, Descriptor, Sym, Sort, Action, sort_of_word, takes, test_takes, sorts_of_result, some_of, no_some, Op, OpSort, I, L, A, F, T, H, CallSorts, exactly, sort_over, Part, Parts, Of, NoPart, More, Exit, Chain, Leave, int_part, null_part, call_parts, after_call, with_result, acted_on, to, throw, ieq, aeq, is_zero, given_chain, chain_with, last_chain, ends_method, Kid, Given, Made, Zero, One, Two, op_sort, IsPlain, GivesResult, line, pick, taken, all_made, sort_made, parts_in, part_made, case_lines, case_tests, case_exits, branch, switch, unless_zero, unless_thrown, unless_null_or_thrown, row_for, chain_by, row_chain, WayFits, RowFits, cell_part, given_parts}
use Rattle.pv_value.specs.Reading.{field_at}
use Rattle.pv_value.specs.Spelled.{params_at}
use Rattle.pv_value.specs.declared.descriptor.JType.TheVariants as jtype
use Rattle.pv_value.specs.declared.operation.ScalarOp.TheVariants.{Ieq}
use Rattle.pv_value.specs.Operations as operation
use Rattle.pv_insn.specs.declared.insn.Case.{Case}
use Rattle.pv_frame.specs.declared.action.Comparison.TheVariants as comparison
use Rattle.pv_frame.specs.declared.action.Test.{Test}
use Rattle.pv_frame.specs.declared.action.Test.TheVariants as test
use Rattle.pv_frame.specs.declared.action.Action.TheVariants as act
use Rattle.pv_graph.specs.declared.node.Op.TheVariants as op
use Rattle.pv_equations.specs.Flow as flow
use Rattle.pv_runs.specs.Held as parts
use Rattle.pv_runs.specs.Chains as chains
use Rattle.pv_block.specs.Ran.{result_sort}
use Rattle.pv_block.specs.Rows as rows
use Rattle.pv_block.proofs.Sorts.{exactly_same, taken_by_call, call_sorted}
use Rattle.pv_block.proofs.ByEffect.{in_cells}

-- ---- branches

branched : (t : Test) (target next : ℕ) (h : parts.Held) (cells : List parts.Cell) (x : Chain) → option_map (λ y. chains.branch y (to target h) (to next h)) (chains.test_part t cells) ≡ Some x → row_chain (branch t target next) (given_parts h cells) h (Some h) ≡ Some x
branched (test.Zero comparison.Eq) target next h (c ∷ []) x e = e
branched (test.Zero comparison.Ne) target next h (c ∷ []) x e = e
branched (test.Zero comparison.Lt) target next h (c ∷ []) x e = e
branched (test.Zero comparison.Ge) target next h (c ∷ []) x e = e
branched (test.Zero comparison.Gt) target next h (c ∷ []) x e = e
branched (test.Zero comparison.Le) target next h (c ∷ []) x e = e
branched (test.Ints comparison.Eq) target next h (c ∷ d ∷ []) x e = e
branched (test.Ints comparison.Ne) target next h (c ∷ d ∷ []) x e = e
branched (test.Ints comparison.Lt) target next h (c ∷ d ∷ []) x e = e
branched (test.Ints comparison.Ge) target next h (c ∷ d ∷ []) x e = e
branched (test.Ints comparison.Gt) target next h (c ∷ d ∷ []) x e = e
branched (test.Ints comparison.Le) target next h (c ∷ d ∷ []) x e = e
branched test.Same target next h (c ∷ d ∷ []) x e = e
branched test.Other target next h (c ∷ d ∷ []) x e = e
branched test.Null target next h (c ∷ []) x e = e
branched test.NonNull target next h (c ∷ []) x e = e
branched t target next h cells x e = no_some x e

-- ---- switches

at_end : {A : Type 0} (xs : List A) (x : A) (ys : List A) → slice_get (xs ++ x ∷ ys) (length xs) ≡ Some x
at_end [] x ys = refl
at_end (z ∷ xs) x ys = at_end xs x ys

after_end : {A : Type 0} (xs : List A) (x y : A) (ys : List A) → slice_get (xs ++ x ∷ y ∷ ys) (suc (length xs)) ≡ Some y
after_end [] x y ys = refl
after_end (z ∷ xs) x y ys = after_end xs x y ys

two_more : {A : Type 0} (xs : List A) (x y : A) → length ((xs ++ x ∷ []) ++ y ∷ []) ≡ suc (suc (length xs))
two_more [] x y = refl
two_more (z ∷ xs) x y = ap suc (two_more xs x y)

two_put : {A : Type 0} (xs : List A) (x y : A) (ys : List A) → ((xs ++ x ∷ []) ++ y ∷ []) ++ ys ≡ xs ++ x ∷ y ∷ ys
two_put [] x y ys = refl
two_put (z ∷ xs) x y ys = ap (λ l. z ∷ l) (two_put xs x y ys)

none_more : {A : Type 0} (xs : List A) → xs ≡ xs ++ []
none_more [] = refl
none_more (z ∷ xs) = ap (λ l. z ∷ l) (none_more xs)

module _ {A : Type 0} (f : Op → List A → Option A) (given : List A) (p : A) (key test : ℤ → A) where
  -- what the lines of cases make
  abbrev case_values : List Case → List A
  case_values [] = []
  case_values (c ∷ cs) = key c.key ∷ test c.key ∷ case_values cs

  cases_made : slice_get given 2 ≡ Some p → ((n : ℤ) → f (op.Int n) [] ≡ Some (key n)) → ((n : ℤ) → f (op.Scalar Ieq) (p ∷ key n ∷ []) ≡ Some (test n)) → (cases : List Case) (k : ℕ) (made : List A) → length made ≡ k
      → all_made f given (case_lines k cases) made ≡ Some (made ++ case_values cases)
  cases_made x y z [] k made e = ap Some (none_more made)
  cases_made x y z (c ∷ cs) k made e =
      let i = key c.key in
      let t = test c.key in
      let one = made ++ i ∷ [] in
      let rest = λ (v : A). all_made f given (case_lines (suc (suc k)) cs) (one ++ v ∷ []) in
      let at_k : slice_get one k ≡ Some i = subst (λ (k : ℕ). slice_get one k ≡ Some i) e (at_end made i []) in
      let two_kids : taken given one (Two (Given 2) (Made k)) ≡ Some (p ∷ i ∷ []) = ap (λ (o : Option A). o >>= λ v. slice_get one k >>= λ w. Some (v ∷ w ∷ [])) x ∙ ap (λ (o : Option A). o >>= λ w. Some (p ∷ w ∷ [])) at_k in
      ap (λ (o : Option A). o >>= λ v. all_made f given (line (op.Scalar Ieq) (Two (Given 2) (Made k)) ∷ case_lines (suc (suc k)) cs) (made ++ v ∷ [])) (y c.key)
      ∙ ap (λ (o : Option (List A)). (o >>= f (op.Scalar Ieq)) >>= rest) two_kids
      ∙ ap (λ (o : Option A). o >>= rest) (z c.key)
      ∙ cases_made x y z cs (suc (suc k)) (one ++ t ∷ []) (two_more made i t ∙ ap (λ n. suc (suc n)) e)
      ∙ ap Some (two_put made i t (case_values cs))

  cases_picked : (P : A → Type 0) → ((n : ℤ) → P (test n)) → (cases : List Case) (k : ℕ) (made : List A) → length made ≡ k → AllByRecursion (λ j. (v : A) × (pick given (made ++ case_values cases) j ≡ Some v) × P v) (case_tests k cases)
  cases_picked P h [] k made e = tt
  cases_picked P h (c ∷ cs) k made e =
      let i = key c.key in
      let t = test c.key in (
        (t, subst (λ (k : ℕ). slice_get (made ++ i ∷ t ∷ case_values cs) (suc k) ≡ Some t) e (after_end made i t (case_values cs)), h c.key),
        subst (λ (l : List A). AllByRecursion (λ j. (v : A) × (pick given l j ≡ Some v) × P v) (case_tests (suc (suc k)) cs)) (two_put made i t (case_values cs)) (cases_picked P h cs (suc (suc k)) ((made ++ i ∷ []) ++ t ∷ []) (two_more made i t ∙ ap (λ n. suc (suc n)) e)),
      )

module _ (given : List Part) (p : Part) (h g : parts.Held) (default : ℕ) where
  abbrev values : List Case → List Part
  values cs = case_values part_made given p int_part (λ n. ieq p (int_part n)) cs

  cases_leave : (cases : List Case) (k : ℕ) (made : List Part) → length made ≡ k → chain_by given (made ++ values cases) h (Some g) (case_tests k cases) (case_exits default cases) ≡ Some (chains.switch p default cases g)
  cases_leave [] k made e = refl
  cases_leave (c ∷ cs) k made e =
      let i = int_part c.key in
      let t = ieq p i in
      let picked : slice_get (made ++ i ∷ t ∷ values cs) (suc k) ≡ Some t = subst (λ (k : ℕ). slice_get (made ++ i ∷ t ∷ values cs) (suc k) ≡ Some t) e (after_end made i t (values cs)) in
      let rest : chain_by given (made ++ i ∷ t ∷ values cs) h (Some g) (case_tests (suc (suc k)) cs) (case_exits default cs) ≡ Some (chains.switch p default cs g) =
      subst (λ (l : List Part). chain_by given l h (Some g) (case_tests (suc (suc k)) cs) (case_exits default cs) ≡ Some (chains.switch p default cs g)) (two_put made i t (values cs))
      (cases_leave cs (suc (suc k)) ((made ++ i ∷ []) ++ t ∷ []) (two_more made i t ∙ ap (λ n. suc (suc n)) e)) in
      ap (λ (o : Option Part). o >>= λ q. chain_by given (made ++ i ∷ t ∷ values cs) h (Some g) (case_tests (suc (suc k)) cs) (case_exits default cs) >>= λ r. Some (flow.Test q (to c.target g) r)) picked
      ∙ ap (λ (o : Option Chain). o >>= λ r. Some (flow.Test t (to c.target g) r)) rest

switched : (default : ℕ) (cases : List Case) (h g : parts.Held) (y : parts.Cell) → row_chain (switch default cases) (given_parts h (y ∷ [])) h (Some g) ≡ Some (chains.switch y.part default cases g)
switched default cases h g y =
    ap (λ (o : Option (List Part)). o >>= λ made. chain_by (given_parts h (y ∷ [])) made h (Some g) (case_tests 0 cases) (case_exits default cases))
    (cases_made part_made (given_parts h (y ∷ [])) y.part int_part (λ n. ieq y.part (int_part n)) refl (λ n. refl) (λ n. refl) cases 0 [] refl)
    ∙ cases_leave (given_parts h (y ∷ [])) y.part h g default cases 0 [] refl

-- ---- calls

abbrev clear_chain : Sym → Parts → parts.Held → Exit → Chain
clear_chain f ps g next = flow.Test (Of op.IsClear refl (More (Of (op.CallFault f) refl ps) NoPart)) next (Leave (throw (Of (op.CallFault f) refl ps) g))

thrown_after : (r : Option JType) (p : Part) (h : parts.Held) (f : Sym) (cells : List parts.Cell) → throw p (with_result h f cells r) ≡ throw p (after_call h f cells)
thrown_after None p h f cells = refl
thrown_after (Some t) p h f cells = refl

called : (r : Option JType) (f : Sym) (h g : parts.Held) (cells : List parts.Cell) (next : Exit) → Some (with_result h f cells r) ≡ Some g → clear_chain f (More h.heap (parts_in (map cell_part cells))) g next ≡ chains.unless_thrown f h cells next
called r f h g cells next e =
    ap (λ (ps : Parts). clear_chain f (More h.heap ps) g next) (in_cells cells)
    ∙ ap (λ (g : parts.Held). clear_chain f (call_parts h cells) g next) (sym (some_of _ _ e))
    ∙ ap (λ (x : Exit). flow.Test (Of op.IsClear refl (More (Of (op.CallFault f) refl (call_parts h cells)) NoPart)) next (Leave x)) (thrown_after r (Of (op.CallFault f) refl (call_parts h cells)) h f cells)

-- ---- the chain of an action is its row

divided : (v : operation.Word) (next : ℕ) (h g : parts.Held) (y w : parts.Cell) (x : Chain) → Some (flow.Test (is_zero v w.part) (throw (Of op.FArith refl NoPart) h) (Leave (to next g))) ≡ Some x → row_chain (unless_zero (sort_of_word v) next) (given_parts h (y ∷ w ∷ [])) h (Some g) ≡ Some x
divided operation.int next h g y w x e = e
divided operation.long next h g y w x e = e

module _ (result : Option JType) (next : ℕ) where
  -- AN ACTION THAT GOES ON
  pub goes_by_row : (a : Action) (h g : parts.Held) (cells : List parts.Cell) (x : Chain) → acted_on a h cells ≡ Some g → chain_with result a h cells (to next g) ≡ Some x → row_chain (row_for result next a) (given_parts h cells) h (Some g) ≡ Some x
  goes_by_row (act.Branch t target) h g cells x acts e =
      let same = some_of _ _ acts in
      subst (λ (k : parts.Held). row_chain (branch t target next) (given_parts h cells) h (Some k) ≡ Some x) same (branched t target next h cells x (subst (λ (k : parts.Held). chain_with result (act.Branch t target) h cells (to next k) ≡ Some x) (sym same) e))
  goes_by_row (act.Jump target) h g cells x acts e = ap (λ (k : parts.Held). Some (Leave (to target k))) (sym (some_of _ _ acts)) ∙ e
  goes_by_row (act.Switch default cases) h g (y ∷ []) x acts e = switched default cases h g y ∙ ap (λ (k : parts.Held). Some (chains.switch y.part default cases k)) (sym (some_of _ _ acts)) ∙ e
  goes_by_row (act.Divide o) h g (y ∷ w ∷ []) x acts e = divided (operation.gives o) next h g y w x e
  goes_by_row (act.GetField t f) h g (y ∷ []) x acts e = e
  goes_by_row (act.PutField t f) h g (y ∷ w ∷ []) x acts e = e
  goes_by_row act.Length h g (y ∷ []) x acts e = e
  goes_by_row (act.LoadElement k) h g (y ∷ w ∷ []) x acts e = e
  goes_by_row (act.StoreElement k) h g (y ∷ w ∷ v ∷ []) x acts e = e
  goes_by_row act.StoreRef h g (y ∷ w ∷ v ∷ []) x acts e = e
  goes_by_row (act.Cast class) h g (y ∷ []) x acts e = e
  goes_by_row (act.InstanceOf class) h g (y ∷ []) x acts e =
      subst (λ (k : parts.Held). chain_with result (act.InstanceOf class) h (y ∷ []) (to next k) ≡ Some x → row_chain (row_for result next (act.InstanceOf class)) (given_parts h (y ∷ [])) h (Some k) ≡ Some x) (some_of _ _ acts) (λ e. e) e
  goes_by_row (act.Call d f) h g cells x acts e = ap Some (called d.result f h g cells (to next g) acts) ∙ e
  goes_by_row (act.CallOn d f) h g (y ∷ cells) x acts e = ap (λ (c : Chain). Some (flow.Test (aeq y.part null_part) (throw (Of op.FNull refl NoPart) h) c)) (called d.result f h g (y ∷ cells) (to next g) acts) ∙ e
  goes_by_row act.Nop h g cells x acts e = e
  goes_by_row (act.Push n) h g cells x acts e = e
  goes_by_row (act.Literal text) h g cells x acts e = e
  goes_by_row (act.Load s k) h g cells x acts e = e
  goes_by_row (act.Store s k) h g cells x acts e = e
  goes_by_row (act.Increase k by) h g cells x acts e = e
  goes_by_row (act.Move m) h g cells x acts e = e
  goes_by_row (act.Scalar o) h g cells x acts e = e
  goes_by_row (act.GetStatic t f) h g cells x acts e = e
  goes_by_row (act.PutStatic t f) h g cells x acts e = e
  goes_by_row a h g cells x acts e = no_some x e

  -- AN ACTION THAT ENDS THE METHOD
  pub ends_by_row : (a : Action) (h : parts.Held) (o : Option parts.Held) (cells : List parts.Cell) (x : Chain) → ends_method a ≡ true → last_chain result a h cells ≡ Some x → row_chain (row_for result next a) (given_parts h cells) h o ≡ Some x
  ends_by_row (act.Give s) h o cells x ends e = given_by_row result cells e
    where
      given_by_row : (r : Option JType) (cells : List parts.Cell) → given_chain r h cells ≡ Some x → row_chain (rows.give r) (given_parts h cells) h o ≡ Some x
      given_by_row None [] e = e
      given_by_row (Some jtype.Z) (c ∷ []) e = e
      given_by_row (Some jtype.B) (c ∷ []) e = e
      given_by_row (Some jtype.C) (c ∷ []) e = e
      given_by_row (Some jtype.S) (c ∷ []) e = e
      given_by_row (Some jtype.I) (c ∷ []) e = e
      given_by_row (Some jtype.J) (c ∷ []) e = e
      given_by_row (Some jtype.F) (c ∷ []) e = e
      given_by_row (Some jtype.D) (c ∷ []) e = e
      given_by_row (Some jtype.A) (c ∷ []) e = e
      given_by_row r cells e = no_some x e
  ends_by_row act.Throw h o (c ∷ []) x ends e = e
  ends_by_row act.Throw h o [] x ends e = no_some x e
  ends_by_row act.Throw h o (c ∷ d ∷ cells) x ends e = no_some x e
  ends_by_row a h o cells x ends e = absurd (cc)

-- ---- the sorts of a row

divide_fits : (v : operation.Word) (next : ℕ) (s : Sort) → RowFits (T ∷ H ∷ map op_sort (map sort_of_word (v ∷ v ∷ []))) s (unless_zero (sort_of_word v) next)
divide_fits operation.int next s = record { made = I ∷ I ∷ F ∷ []; are = refl; tests = (refl, tt); exits = (refl, (tt, tt)) }
divide_fits operation.long next s = record { made = L ∷ I ∷ F ∷ []; are = refl; tests = (refl, tt); exits = (refl, (tt, tt)) }

branch_fits : (t : Test) (target next : ℕ) (s : Sort) → RowFits (T ∷ H ∷ map op_sort (test_takes t)) s (branch t target next)
branch_fits (test.Zero comparison.Eq) target next s = record { made = I ∷ I ∷ []; are = refl; tests = (refl, tt); exits = (tt, (tt, tt)) }
branch_fits (test.Zero comparison.Ne) target next s = record { made = I ∷ I ∷ []; are = refl; tests = (refl, tt); exits = (tt, (tt, tt)) }
branch_fits (test.Zero comparison.Lt) target next s = record { made = I ∷ I ∷ []; are = refl; tests = (refl, tt); exits = (tt, (tt, tt)) }
branch_fits (test.Zero comparison.Ge) target next s = record { made = I ∷ I ∷ []; are = refl; tests = (refl, tt); exits = (tt, (tt, tt)) }
branch_fits (test.Zero comparison.Gt) target next s = record { made = I ∷ I ∷ []; are = refl; tests = (refl, tt); exits = (tt, (tt, tt)) }
branch_fits (test.Zero comparison.Le) target next s = record { made = I ∷ I ∷ []; are = refl; tests = (refl, tt); exits = (tt, (tt, tt)) }
branch_fits (test.Ints comparison.Eq) target next s = record { made = I ∷ []; are = refl; tests = (refl, tt); exits = (tt, (tt, tt)) }
branch_fits (test.Ints comparison.Ne) target next s = record { made = I ∷ []; are = refl; tests = (refl, tt); exits = (tt, (tt, tt)) }
branch_fits (test.Ints comparison.Lt) target next s = record { made = I ∷ []; are = refl; tests = (refl, tt); exits = (tt, (tt, tt)) }
branch_fits (test.Ints comparison.Ge) target next s = record { made = I ∷ []; are = refl; tests = (refl, tt); exits = (tt, (tt, tt)) }
branch_fits (test.Ints comparison.Gt) target next s = record { made = I ∷ []; are = refl; tests = (refl, tt); exits = (tt, (tt, tt)) }
branch_fits (test.Ints comparison.Le) target next s = record { made = I ∷ []; are = refl; tests = (refl, tt); exits = (tt, (tt, tt)) }
branch_fits test.Same target next s = record { made = I ∷ []; are = refl; tests = (refl, tt); exits = (tt, (tt, tt)) }
branch_fits test.Other target next s = record { made = I ∷ []; are = refl; tests = (refl, tt); exits = (tt, (tt, tt)) }
branch_fits test.Null target next s = record { made = A ∷ I ∷ []; are = refl; tests = (refl, tt); exits = (tt, (tt, tt)) }
branch_fits test.NonNull target next s = record { made = A ∷ I ∷ []; are = refl; tests = (refl, tt); exits = (tt, (tt, tt)) }

abbrev case_sorts : List Case → List OpSort
case_sorts cs = case_values sort_made (T ∷ H ∷ I ∷ []) I (λ n. I) (λ n. I) cs

switch_fits : (default : ℕ) (cases : List Case) (s : Sort) → RowFits (T ∷ H ∷ I ∷ []) s (switch default cases)
switch_fits default cases s = record {
  made = case_sorts cases;
  are = cases_made sort_made (T ∷ H ∷ I ∷ []) I (λ n. I) (λ n. I) refl (λ n. refl) (λ n. refl) cases 0 [] refl;
  tests = tests (case_tests 0 cases) (cases_picked sort_made (T ∷ H ∷ I ∷ []) I (λ n. I) (λ n. I) (λ t. t ≡ I) (λ n. refl) cases 0 [] refl);
  exits = exits cases;
}
  where
    tests : (ks : List Kid) → AllByRecursion (λ j. (v : OpSort) × (pick (T ∷ H ∷ I ∷ []) (case_sorts cases) j ≡ Some v) × (v ≡ I)) ks → AllByRecursion (λ j. pick (T ∷ H ∷ I ∷ []) (case_sorts cases) j ≡ Some I) ks
    tests [] h = tt
    tests (k ∷ ks) h = (h.0.1 ∙ ap Some h.0.2, tests ks h.1)

    exits : (cs : List Case) → AllByRecursion (WayFits (T ∷ H ∷ I ∷ []) (case_sorts cases) s) (case_exits default cs)
    exits [] = (tt, tt)
    exits (c ∷ cs) = (tt, exits cs)

store_fits : (next : ℕ) (s : Sort) → RowFits (T ∷ H ∷ A ∷ I ∷ A ∷ []) s (rows.stores_ref next)
unfolding params_at field_at
store_fits next s = record { made = A ∷ I ∷ I ∷ I ∷ I ∷ I ∷ I ∷ I ∷ H ∷ I ∷ F ∷ F ∷ A ∷ F ∷ []; are = refl; tests = (refl, (refl, (refl, (refl, (refl, tt))))); exits = (refl, (refl, (refl, (tt, (tt, (refl, tt)))))) }

cast_fits : (class : List ℕ) (next : ℕ) (s : Sort) → RowFits (T ∷ H ∷ A ∷ []) s (rows.unless_other class next)
unfolding params_at field_at
cast_fits class next s = record { made = A ∷ I ∷ H ∷ I ∷ A ∷ F ∷ []; are = refl; tests = (refl, (refl, tt)); exits = (tt, (tt, (refl, tt))) }

ask_fits : (class : List ℕ) (next : ℕ) (s : Sort) → RowFits (T ∷ H ∷ A ∷ []) s (rows.asks_class class next)
unfolding params_at field_at
ask_fits class next s = record { made = I ∷ A ∷ I ∷ H ∷ I ∷ []; are = refl; tests = (refl, (refl, tt)); exits = (tt, (refl, (tt, tt))) }

fault_over : (d : Descriptor) (f : Sym) → IsPlain (act.Call d f) → sort_over (op.CallFault f) (taken_by_call d) ≡ Some F
fault_over d f p = ap (λ (o : Option CallSorts). bind o (λ c. exactly c.kids F (taken_by_call d))) (call_sorted d f p) ∙ exactly_same (taken_by_call d) F

call_fits : (d : Descriptor) (f : Sym) (next : ℕ) (s : Sort) → IsPlain (act.Call d f) → RowFits (T ∷ taken_by_call d) s (unless_thrown f next)
call_fits d f next s p = record {
  made = F ∷ I ∷ [];
  are = ap (λ (o : Option OpSort). o >>= λ x. all_made sort_made (T ∷ taken_by_call d) (line op.IsClear (One (Made 0)) ∷ []) (x ∷ [])) (fault_over d f p);
  tests = (refl, tt);
  exits = (tt, (refl, tt));
}

receiver_fits : (d : Descriptor) (f : Sym) (next : ℕ) (s : Sort) → IsPlain (act.CallOn d f) → RowFits (T ∷ taken_by_call d) s (unless_null_or_thrown f next)
receiver_fits d f next s p =
    let ss = T ∷ taken_by_call d in
    let object : slice_get ss 2 ≡ Some A = subst (λ (d : Descriptor). slice_get (T ∷ taken_by_call d) 2 ≡ Some A) (sym p.0.1.1) refl in
    record {
      made = F ∷ A ∷ I ∷ F ∷ I ∷ [];
      are =
          ap (λ (o : Option OpSort). o >>= λ x. all_made sort_made ss (line op.Null Zero ∷ line op.Aeq (Two (Given 2) (Made 1)) ∷ line op.FNull Zero ∷ line op.IsClear (One (Made 0)) ∷ []) (x ∷ [])) (fault_over d f (p.0.0, p.1))
          ∙ ap (λ (o : Option OpSort). ((o >>= λ x. Some (x ∷ A ∷ [])) >>= sort_made op.Aeq) >>= λ x. all_made sort_made ss (line op.FNull Zero ∷ line op.IsClear (One (Made 0)) ∷ []) (F ∷ A ∷ x ∷ [])) object;
      tests = (refl, (refl, tt));
      exits = (refl, (tt, (refl, tt)));
    }

give_fits : (r : Option JType) → RowFits (T ∷ H ∷ map op_sort (sorts_of_result r)) (result_sort r) (rows.give r)
give_fits None = record { made = []; are = refl; tests = tt; exits = (refl, tt) }
give_fits (Some jtype.Z) = record { made = I ∷ I ∷ []; are = refl; tests = tt; exits = (refl, tt) }
give_fits (Some jtype.B) = record { made = I ∷ []; are = refl; tests = tt; exits = (refl, tt) }
give_fits (Some jtype.C) = record { made = I ∷ []; are = refl; tests = tt; exits = (refl, tt) }
give_fits (Some jtype.S) = record { made = I ∷ []; are = refl; tests = tt; exits = (refl, tt) }
give_fits (Some t) = record { made = []; are = refl; tests = tt; exits = (refl, tt) }

-- A ROW FITS THE OPERANDS OF ITS ACTION
pub row_fits : (r : Option JType) (next : ℕ) (a : Action) → IsPlain a → GivesResult r a → RowFits (T ∷ H ∷ map op_sort (takes a)) (result_sort r) (row_for r next a)
row_fits r next (act.Branch t target) p v = branch_fits t target next (result_sort r)
row_fits r next (act.Switch default cases) p v = switch_fits default cases (result_sort r)
row_fits r next (act.Divide o) p v = subst (λ (ws : List operation.Word). RowFits (T ∷ H ∷ map op_sort (map sort_of_word ws)) (result_sort r) (unless_zero (sort_of_word (operation.gives o)) next)) (sym p.0) (divide_fits (operation.gives o) next (result_sort r))
row_fits r next (act.GetField t f) p v = record { made = A ∷ I ∷ F ∷ []; are = refl; tests = (refl, tt); exits = (refl, (tt, tt)) }
row_fits r next (act.PutField t f) p v = record { made = A ∷ I ∷ F ∷ []; are = refl; tests = (refl, tt); exits = (refl, (tt, tt)) }
row_fits r next act.Length p v = record { made = A ∷ I ∷ F ∷ []; are = refl; tests = (refl, tt); exits = (refl, (tt, tt)) }
row_fits r next (act.LoadElement k) p v = record { made = A ∷ I ∷ I ∷ I ∷ I ∷ I ∷ F ∷ F ∷ []; are = refl; tests = (refl, (refl, (refl, tt))); exits = (refl, (refl, (tt, (refl, tt)))) }
row_fits r next (act.StoreElement k) p v = record { made = A ∷ I ∷ I ∷ I ∷ I ∷ I ∷ F ∷ F ∷ []; are = refl; tests = (refl, (refl, (refl, tt))); exits = (refl, (refl, (tt, (refl, tt)))) }
row_fits r next act.StoreRef p v = store_fits next (result_sort r)
row_fits r next (act.Cast class) p v = cast_fits class next (result_sort r)
row_fits r next (act.InstanceOf class) p v = ask_fits class next (result_sort r)
row_fits r next (act.Call d f) p v = call_fits d f next (result_sort r) p
row_fits r next (act.CallOn d f) p v = receiver_fits d f next (result_sort r) p
row_fits r next (act.Give s) p v = subst (λ (ss : List Sort). RowFits (T ∷ H ∷ map op_sort ss) (result_sort r) (rows.give r)) (sym v) (give_fits r)
row_fits r next act.Throw p v = record { made = A ∷ I ∷ F ∷ F ∷ []; are = refl; tests = (refl, tt); exits = (refl, (refl, tt)) }
row_fits r next a p v = record { made = []; are = refl; tests = tt; exits = (tt, tt) }
