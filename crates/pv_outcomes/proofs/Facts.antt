-- Casts, type tests and stores of references at the end of a block: what the world tells of types at the heap of the input decides.
use Rattle.std.proofs.Common.{◌≡◌, ◌≢◌, ℕ, zero, suc, ℤ, pos, Bool, true, false, not, List, [], ◌∷◌, Option, Some, None, refl, ap, sym, subst, ◌∙◌, lit<, ◌==◌, if◌then◌else◌}
use Rattle.pv_outcomes.proofs.Words.{int_lt, Num, Sym, Heap, JType, Descriptor, World, Input, Outcome, Returned, Threw, Val, bind, IsMethodType, IsOfResult, IsWorld, length_of, literal_of, reply, method_type_once, method_spelled, Program, State, Now, throws, pushes, element_fault, store_fault, unless, cast, result_part, reply_result, truth, Part, Parts, Of, NoPart, More, Exit, Chain, Leave, PartIs, PartsAre, Chooses, Held, null_part, int_part, push, to, throw, two_parts, ieq, ilt, aeq, start_part, is_part, fits_part, thrown_literal, with_held, unless_other, asks_class, unless_unfit, stores_ref}
use Rattle.pv_value.specs.declared.number.Num.TheVariants as num
use Rattle.pv_value.specs.declared.descriptor.JType.TheVariants.{Z}
use Rattle.pv_value.specs.declared.outcome.Fault.TheVariants as fault
use Rattle.pv_value.specs.declared.outcome.Val.TheVariants as val
use Rattle.pv_types.specs.Facts as types
use Rattle.pv_types.specs.Facts.{IsTold, tells}
use Rattle.pv_types.proofs.Cited.{is_told, fits_told}
use Rattle.pv_frame.specs.declared.sort.Sort.TheVariants as sort
use Rattle.pv_graph.specs.declared.node.Op.TheVariants as op
use Rattle.pv_denote.specs.Denote.{strict}
use Rattle.pv_equations.specs.Flow as flow
use Rattle.pv_outcomes.proofs.Values.{numbers_of, numbers_back}
use Rattle.pv_outcomes.proofs.Acts.{M, Goes, pushed_goes}
use Rattle.pv_outcomes.proofs.Tests.{Tests, yes, no, same_test, suc_not_zero, ilt_tests, not_less_tests, null_tests, int_is}
use Rattle.pv_outcomes.proofs.Lasts.{Leaves, thrown, goes_next, after_no, null_first, some_first, length_read, index_fault, not_index}

-- ---- the value of a fact

-- the result of a call under a symbol of facts is an int, which tells the fact
record Told (s : Sym) (o : Option Outcome) (h : Heap) : Type 0 where
  int : ℤ
  is : result_part s o h ≡ Some (val.Num (num.Int int))
  says : truth (val.Num (num.Int int)) ≡ Some (tells o)

result_is : (s : Sym) (t : IsTold s) (o : Option Outcome) (h : Heap) → result_part s o h ≡ Some (val.Num (reply_result Z o))
result_is s (d, typed, z) o h =
    ap (λ (m : Option Descriptor). bind m (λ d. bind d.result (λ t. Some (val.Num (reply_result t o))))) ((method_spelled s.desc d).1 typed)
    ∙ ap (λ (r : Option JType). bind r (λ t. Some (val.Num (reply_result t o)))) z

-- in a well-formed world a reply under such a symbol is an int
of_boolean : (s : Sym) (t : IsTold s) (d : Descriptor) → IsMethodType s.desc d → (r : Option Num) → IsOfResult d.result r → IsOfResult (Some Z) r
of_boolean s t d typed r h =
    let same : d ≡ t.0 = method_type_once s.desc d t.0 typed t.1 in
    subst (λ (z : Option JType). IsOfResult z r) (ap (λ (d : Descriptor). d.result) same ∙ t.2) h

module _ (w : World) (x : Input) (σ : ℕ → Val) (world : IsWorld w) where
  told : (s : Sym) → IsTold s → (h : Heap) (nums : List Num) (o : Option Outcome) → reply w s h nums ≡ o → Told s o h
  told s t h nums None e = record { int = pos 0; is = result_is s t None h; says = refl }
  told s t h nums (Some (Returned None g)) e = record { int = pos 0; is = result_is s t (Some (Returned None g)) h; says = refl }
  told s t h nums (Some (Returned (Some (num.Int n)) g)) e = record { int = n; is = result_is s t (Some (Returned (Some (num.Int n)) g)) h; says = refl }
  told s t h nums (Some (Returned (Some (num.Long n)) g)) e = let k = (world.calls _ (Returned (Some (num.Long n)) g) e).reply in absurd (of_boolean s t k.0.0 k.0.1 (Some (num.Long n)) k.0.2)
  told s t h nums (Some (Returned (Some (num.Ref n)) g)) e = let k = (world.calls _ (Returned (Some (num.Ref n)) g) e).reply in absurd (of_boolean s t k.0.0 k.0.1 (Some (num.Ref n)) k.0.2)
  told s t h nums (Some (Threw f g)) e = record { int = pos 0; is = result_is s t (Some (Threw f g)) h; says = refl }

  start_is : PartIs w x σ start_part (val.Heap x.heap)
  unfolding strict
  start_is = ([], refl, refl)

  -- a test of a fact, asked at the heap of the input
  told_tests : (s : Sym) → IsTold s → (nums : List Num) (ps : Parts) → PartsAre w x σ ps (val.Heap x.heap ∷ numbers_of nums) → Tests w x σ (Of (op.CallRes s) refl ps) (tells (reply w s x.heap nums))
  unfolding strict
  told_tests s t nums ps args =
      let k = told s t x.heap nums (reply w s x.heap nums) refl in
      record {
        value = val.Num (num.Int k.int);
        is = (val.Heap x.heap ∷ numbers_of nums, args, ap (λ (ns : Option (List Num)). bind ns (λ args. result_part s (reply w s x.heap args) x.heap)) (numbers_back nums) ∙ k.is);
        says = k.says;
      }

  is_tests : (class : List ℕ) (r : ℕ) (o : Part) → PartIs w x σ o (val.Num (num.Ref r)) → Tests w x σ (is_part class o) (types.is w x.heap class r)
  is_tests class r o i =
      told_tests (types.is_sym class) (is_told class) (num.Ref r ∷ []) (two_parts start_part o)
      (val.Heap x.heap, val.Num (num.Ref r) ∷ [], start_is, (val.Num (num.Ref r), [], i, refl, refl), refl)

  fits_tests : (r n : ℕ) (a v : Part) → PartIs w x σ a (val.Num (num.Ref r)) → PartIs w x σ v (val.Num (num.Ref n)) → Tests w x σ (fits_part a v) (types.fits w x.heap r n)
  fits_tests r n a v i j =
      told_tests types.fits_sym fits_told (num.Ref r ∷ num.Ref n ∷ []) (More start_part (two_parts a v))
      (val.Heap x.heap, val.Num (num.Ref r) ∷ val.Num (num.Ref n) ∷ [], start_is, (val.Num (num.Ref r), val.Num (num.Ref n) ∷ [], i, (val.Num (num.Ref n), [], j, refl, refl), refl), refl)

  literal_fault : (text : List ℕ) → PartIs w x σ (thrown_literal text) (val.Fault (fault.Thrown (literal_of w text)))
  unfolding strict
  literal_fault text = (val.Num (num.Ref (literal_of w text)) ∷ [], (val.Num (num.Ref (literal_of w text)), [], ([], refl, refl), refl, refl), refl)

not_clear : (r : ℕ) → fault.Thrown r ≢ fault.Clear
not_clear r e = absurd (cc)

-- ---- the last action

module _ (p : Program) (w : World) (x : Input) (σ : ℕ → Val) (world : IsWorld w) where
  some_tests : (o : Part) (r : ℕ) → PartIs w x σ o (val.Num (num.Ref (suc r))) → Tests w x σ (aeq o null_part) false
  some_tests o r i = same_test w x σ (aeq o null_part) (suc r == 0) false (suc_not_zero r) (null_tests w x σ o (suc r) i)

  -- the exits of two tests
  first_of : (a b : Part) (c d e : Exit) → Tests w x σ a true → Chooses w x σ (flow.Test a c (flow.Test b d (Leave e))) c
  first_of a b c d e t = yes w x σ a c (flow.Test b d (Leave e)) t

  second_of : (a b : Part) (c d e : Exit) → Tests w x σ a false → Tests w x σ b true → Chooses w x σ (flow.Test a c (flow.Test b d (Leave e))) d
  second_of a b c d e t u = no w x σ a c d (flow.Test b d (Leave e)) t (yes w x σ b d (Leave e) u)

  last_of : (a b : Part) (c d e : Exit) → Tests w x σ a false → Tests w x σ b false → Chooses w x σ (flow.Test a c (flow.Test b d (Leave e))) e
  last_of a b c d e t u = no w x σ a c e (flow.Test b d (Leave e)) t (no w x σ b d e (Leave e) u refl)

  is_asked : (class : List ℕ) (s : State) (h : Held) (o : Part) (r : ℕ) → M p w x σ s h → PartIs w x σ o (val.Num (num.Ref r)) → Tests w x σ (is_part class o) (types.is w s.heap0 class r)
  is_asked class s h o r m i = subst (λ (g : Heap). Tests w x σ (is_part class o) (types.is w g class r)) (sym m.start) (is_tests w x σ world class r o i)

  fits_asked : (s : State) (h : Held) (r n : ℕ) (a v : Part) → M p w x σ s h → PartIs w x σ a (val.Num (num.Ref r)) → PartIs w x σ v (val.Num (num.Ref n)) → Tests w x σ (fits_part a v) (types.fits w s.heap0 r n)
  fits_asked s h r n a v m i j = subst (λ (g : Heap). Tests w x σ (fits_part a v) (types.fits w g r n)) (sym m.start) (fits_tests w x σ world r n a v i j)

  -- ---- casts

  abbrev cast_chain : List ℕ → State → Held → Part → Chain
  cast_chain class s h o = unless_other class o h (to (suc s.at) (push h sort.Ref o))

  -- null is pushed again
  pub cast_null : (class : List ℕ) (s : State) (h : Held) (o : Part) → M p w x σ s h → PartIs w x σ o (val.Num (num.Ref 0)) → Leaves p w x σ (cast_chain class s h o) (Some (pushes s (num.Ref 0)))
  cast_null class s h o m i =
      let next : Exit = to (suc s.at) (push h sort.Ref o) in
      goes_next p w x σ (cast_chain class s h o) s (push h sort.Ref o) (Some (pushes s (num.Ref 0))) (pushed_goes p w x σ s h sort.Ref o (num.Ref 0) (Some (pushes s (num.Ref 0))) m refl tt i refl)
      (first_of (aeq o null_part) (is_part class o) next next (throw (thrown_literal types.cast_text) h) (null_tests w x σ o 0 i))

  -- an object of the class is pushed again, and another one throws
  pub cast_leaves : (class : List ℕ) (s : State) (h : Held) (o : Part) (r : ℕ) → M p w x σ s h → PartIs w x σ o (val.Num (num.Ref (suc r))) → Leaves p w x σ (cast_chain class s h o) (Some (cast w s class (suc r)))
  cast_leaves class s h o r m i = go (types.is w s.heap0 class (suc r)) (is_asked class s h o (suc r) m i)
    where
      go : (b : Bool) → Tests w x σ (is_part class o) b → Leaves p w x σ (cast_chain class s h o) (Some (if b then pushes s (num.Ref (suc r)) else throws s (fault.Thrown (literal_of w types.cast_text))))
      go true t =
          let next : Exit = to (suc s.at) (push h sort.Ref o) in
          goes_next p w x σ (cast_chain class s h o) s (push h sort.Ref o) (Some (pushes s (num.Ref (suc r)))) (pushed_goes p w x σ s h sort.Ref o (num.Ref (suc r)) (Some (pushes s (num.Ref (suc r)))) m refl tt i refl)
          (second_of (aeq o null_part) (is_part class o) next next (throw (thrown_literal types.cast_text) h) (some_tests o r i) t)
      go false t =
          let next : Exit = to (suc s.at) (push h sort.Ref o) in
          thrown p w x σ (cast_chain class s h o) s h (thrown_literal types.cast_text) (fault.Thrown (literal_of w types.cast_text)) m (literal_fault w x σ world types.cast_text) (not_clear (literal_of w types.cast_text))
          (last_of (aeq o null_part) (is_part class o) next next (throw (thrown_literal types.cast_text) h) (some_tests o r i) t)

  -- ---- type tests

  -- what is held after a type test that gives this number
  abbrev given : Held → ℤ → Held
  given h n = push h sort.Int (int_part n)

  abbrev asks_chain : List ℕ → State → Held → Part → Chain
  asks_chain class s h o = asks_class class o h (to (suc s.at) (given h (pos 0)))

  bit_goes : (s : State) (h : Held) (b : Bool) → M p w x σ s h → Goes p w x σ s (given h (if b then pos 1 else pos 0)) (Some (pushes s (num.Int (if b then pos 1 else pos 0))))
  bit_goes s h true m = pushed_goes p w x σ s h sort.Int (int_part (pos 1)) (num.Int (pos 1)) (Some (pushes s (num.Int (pos 1)))) m refl (record { sfits = lit< tt }) (int_is w x σ (pos 1)) refl
  bit_goes s h false m = pushed_goes p w x σ s h sort.Int (int_part (pos 0)) (num.Int (pos 0)) (Some (pushes s (num.Int (pos 0)))) m refl (record { sfits = lit< tt }) (int_is w x σ (pos 0)) refl

  -- null is of no class
  pub asks_null : (class : List ℕ) (s : State) (h : Held) (o : Part) → M p w x σ s h → PartIs w x σ o (val.Num (num.Ref 0)) → Leaves p w x σ (asks_chain class s h o) (Some (pushes s (num.Int (pos 0))))
  asks_null class s h o m i =
      let none : Exit = to (suc s.at) (given h (pos 0)) in
      goes_next p w x σ (asks_chain class s h o) s (given h (pos 0)) (Some (pushes s (num.Int (pos 0)))) (bit_goes s h false m)
      (first_of (aeq o null_part) (is_part class o) none (with_held (given h (pos 1)) none) none (null_tests w x σ o 0 i))

  pub asks_leaves : (class : List ℕ) (s : State) (h : Held) (o : Part) (r : ℕ) → M p w x σ s h → PartIs w x σ o (val.Num (num.Ref (suc r)))
      → Leaves p w x σ (asks_chain class s h o) (Some (pushes s (num.Int (if types.is w s.heap0 class (suc r) then pos 1 else pos 0))))
  asks_leaves class s h o r m i = go (types.is w s.heap0 class (suc r)) (is_asked class s h o (suc r) m i)
    where
      go : (b : Bool) → Tests w x σ (is_part class o) b → Leaves p w x σ (asks_chain class s h o) (Some (pushes s (num.Int (if b then pos 1 else pos 0))))
      go true t =
          let none : Exit = to (suc s.at) (given h (pos 0)) in
          goes_next p w x σ (asks_chain class s h o) s (given h (pos 1)) (Some (pushes s (num.Int (pos 1)))) (bit_goes s h true m)
          (second_of (aeq o null_part) (is_part class o) none (with_held (given h (pos 1)) none) none (some_tests o r i) t)
      go false t =
          let none : Exit = to (suc s.at) (given h (pos 0)) in
          goes_next p w x σ (asks_chain class s h o) s (given h (pos 0)) (Some (pushes s (num.Int (pos 0)))) (bit_goes s h false m)
          (last_of (aeq o null_part) (is_part class o) none (with_held (given h (pos 1)) none) none (some_tests o r i) t)

  -- ---- stores of references

  abbrev Unfit : Part → Part → State → Held → Held → Chain
  Unfit a v s h g = unless_unfit a v h (to (suc s.at) g)

  -- null is stored, and a reference that fits, and another one throws
  unfit_leaves : (s : State) (h : Held) (r n : ℕ) (a v : Part) (g : Held) (now : Option Now) → M p w x σ s h → PartIs w x σ a (val.Num (num.Ref r)) → PartIs w x σ v (val.Num (num.Ref n)) → Goes p w x σ s g now
      → Leaves p w x σ (Unfit a v s h g) (unless s (store_fault w s.heap0 r n) now)
  unfit_leaves s h r zero a v g now m i j y =
      let next : Exit = to (suc s.at) g in
      goes_next p w x σ (Unfit a v s h g) s g now y (first_of (aeq v null_part) (fits_part a v) next next (throw (thrown_literal types.store_text) h) (null_tests w x σ v 0 j))
  unfit_leaves s h r (suc n) a v g now m i j y = go (types.fits w s.heap0 r (suc n)) (fits_asked s h r (suc n) a v m i j)
    where
      go : (b : Bool) → Tests w x σ (fits_part a v) b → Leaves p w x σ (Unfit a v s h g) (unless s (if b then None else Some (fault.Thrown (literal_of w types.store_text))) now)
      go true t =
          let next : Exit = to (suc s.at) g in
          goes_next p w x σ (Unfit a v s h g) s g now y (second_of (aeq v null_part) (fits_part a v) next next (throw (thrown_literal types.store_text) h) (some_tests v n j) t)
      go false t =
          let next : Exit = to (suc s.at) g in
          thrown p w x σ (Unfit a v s h g) s h (thrown_literal types.store_text) (fault.Thrown (literal_of w types.store_text)) m (literal_fault w x σ world types.store_text) (not_clear (literal_of w types.store_text))
          (last_of (aeq v null_part) (fits_part a v) next next (throw (thrown_literal types.store_text) h) (some_tests v n j) t)

  abbrev long : Part → Part
  long a = Of op.Length refl (More a NoPart)

  abbrev out : Held → Exit
  out h = throw (Of op.FIndex refl NoPart) h

  -- .. after the tests of the index
  abbrev Above : Part → Part → Part → State → Held → Held → Chain
  Above a j v s h g = flow.Test (ieq (ilt j (long a)) (int_part (pos 0))) (out h) (Unfit a v s h g)

  abbrev Outside : Part → Part → Part → State → Held → Held → Chain
  Outside a j v s h g = flow.Test (ilt j (int_part (pos 0))) (out h) (Above a j v s h g)

  -- a null array throws, an index out of range, and a reference that doesn't fit; else it is stored
  pub stores_leaves : (s : State) (h : Held) (r : ℕ) (i : ℤ) (n : ℕ) (a j v : Part) (g : Held) (now : Option Now)
      → M p w x σ s h → PartIs w x σ a (val.Num (num.Ref r)) → PartIs w x σ j (val.Num (num.Int i)) → PartIs w x σ v (val.Num (num.Ref n)) → Goes p w x σ s g now
      → Leaves p w x σ (stores_ref a j v h (to (suc s.at) g)) (unless s (element_fault w r i) (unless s (store_fault w s.heap0 r n) now))
  stores_leaves s h zero i n a j v g now m y z u goes = null_first p w x σ s h a (Outside a j v s h g) m y
  stores_leaves s h (suc r) i n a j v g now m y z u goes =
      some_first p w x σ h a r (Outside a j v s h g) _ y
      (go (int_lt i (pos 0)) (int_lt i (length_of w (suc r))) (ilt_tests w x σ j (int_part (pos 0)) i (pos 0) z (int_is w x σ (pos 0))) (not_less_tests w x σ j (long a) i (length_of w (suc r)) z (length_read p w x σ (suc r) a y)))
    where
      go : (b c : Bool) → Tests w x σ (ilt j (int_part (pos 0))) b → Tests w x σ (ieq (ilt j (long a)) (int_part (pos 0))) (not c)
          → Leaves p w x σ (Outside a j v s h g) (unless s (if b then Some fault.Index else if c then None else Some fault.Index) (unless s (store_fault w s.heap0 (suc r) n) now))
      go true c t k = thrown p w x σ (Outside a j v s h g) s h (Of op.FIndex refl NoPart) fault.Index m (index_fault p w x σ) (not_index p w x σ) (yes w x σ (ilt j (int_part (pos 0))) (out h) (Above a j v s h g) t)
      go false true t k =
          after_no p w x σ (ilt j (int_part (pos 0))) (Of op.FIndex refl NoPart) h (Above a j v s h g) _ t
          (after_no p w x σ (ieq (ilt j (long a)) (int_part (pos 0))) (Of op.FIndex refl NoPart) h (Unfit a v s h g) _ k (unfit_leaves s h (suc r) n a v g now m y u goes))
      go false false t k =
          after_no p w x σ (ilt j (int_part (pos 0))) (Of op.FIndex refl NoPart) h (Above a j v s h g) _ t
          (thrown p w x σ (Above a j v s h g) s h (Of op.FIndex refl NoPart) fault.Index m (index_fault p w x σ) (not_index p w x σ) (yes w x σ (ieq (ilt j (long a)) (int_part (pos 0))) (out h) (Unfit a v s h g) k))
