-- What the last action of a block does: the machine takes the exit that the tests choose.
use Rattle.std.proofs.Common.{◌≡◌, ◌≢◌, ℕ, zero, suc, ℤ, pos, Bool, true, false, not, List, [], ◌∷◌, Option, Some, None, refl, ap, sym, subst, ◌∙◌, ◌==◌, if◌then◌else◌}
use Rattle.pv_outcomes.proofs.Words.{int_lt, int_eq, Num, Sym, Heap, Elem, JType, ScalarOp, World, Input, Fault, Outcome, Returned, Threw, Val, field_type, read, written, length_of, shown, kept, field_place, element_type, Case, sort_of, sort_of_word, Program, some_of, State, Now, running, ended, goes, throws, pushes, number_of, value_of, divided, branches, target_of, element_fault, unless, Part, Slot, Of, NoPart, More, Kind, Return, Throw, Dest, To, End, Exit, Chain, Leave, PartIs, Chooses, Waits, IsOutcome, slots, Cell, Held, unit_part, null_part, int_part, parts_of, push, StackIs, to, throw, give, end_slots, ieq, ilt, aeq, is_zero, branch, switch, unless_null, within}
use Rattle.std.proofs.lemmas.Cmp.{int_eq_equiv}
use Rattle.pv_value.specs.declared.number.Num.TheVariants as num
use Rattle.pv_value.specs.declared.heap.Kind.{Kind as ElementKind}
use Rattle.pv_value.specs.declared.outcome.Fault.TheVariants as fault
use Rattle.pv_value.specs.declared.outcome.Val.TheVariants as val
use Rattle.pv_value.specs.Operations as operation
use Rattle.pv_graph.specs.declared.node.Op.TheVariants as op
use Rattle.pv_denote.specs.Denote.{strict}
use Rattle.pv_equations.specs.Flow as flow
use Rattle.pv_outcomes.proofs.Values.{numbers_of, computes_two, Computes}
use Rattle.pv_outcomes.proofs.Acts.{M, Goes, scalar_goes, scalar_strict}
use Rattle.pv_outcomes.proofs.Tests.{Tests, yes, no, same_test, suc_not_zero, ieq_tests, ilt_tests, null_tests, zero_tests, int_is}

flip : (m n : ℤ) → int_eq m n ≡ int_eq n m
flip m n = int_eq_equiv.symm m n

module _ (p : Program) (w : World) (x : Input) (σ : ℕ → Val) where
  -- an end of the method with this outcome, by an exit
  pub record EndsSo (e : Exit) (o : Outcome) : Type 0 where
    pub kind : Kind
    pub dest : e.dest ≡ End kind
    pub slots : ℕ → Val
    pub parts : (s : ℕ) → PartIs w x σ (e.slots s) (slots s)
    pub outcome : IsOutcome kind slots o

  -- the exit that the tests choose is the one that the machine takes; or it waits for a call that isn't in the table
  pub data Leaves (c : Chain) : Option Now → Type 0 where
    comes : (m : ℕ) (g : Held) (t : State) → Chooses w x σ c (to m g) → t.at ≡ m → M p w x σ t g → Leaves c (Some (running t))
    over : (e : Exit) (o : Outcome) → Chooses w x σ c e → EndsSo e o → Leaves c (Some (ended o))
    waits : Waits w x σ c → Leaves c None

  unit_is : PartIs w x σ unit_part val.Unit
  unfolding strict
  unit_is = ([], refl, refl)

  throw_slots : Fault → Heap → ℕ → Val
  throw_slots f h = slots val.Unit (val.Fault f) val.Unit (val.Heap h) (λ n. val.Unit)

  throw_parts : (s : State) (h : Held) (q : Part) (f : Fault) → M p w x σ s h → PartIs w x σ q (val.Fault f) → (n : ℕ) → PartIs w x σ (end_slots h.token q unit_part h.heap n) (throw_slots f s.heap n)
  unfolding throw_slots
  throw_parts s h q f m i zero = m.token
  throw_parts s h q f m i (suc zero) = i
  throw_parts s h q f m i (suc (suc zero)) = unit_is
  throw_parts s h q f m i (suc (suc (suc zero))) = m.heap
  throw_parts s h q f m i (suc (suc (suc (suc n)))) = unit_is

  -- it throws
  pub thrown : (c : Chain) (s : State) (h : Held) (q : Part) (f : Fault) → M p w x σ s h → PartIs w x σ q (val.Fault f) → f ≢ fault.Clear → Chooses w x σ c (throw q h) → Leaves c (Some (throws s f))
  unfolding throw_slots
  thrown c s h q f m i n ch = over (throw q h) (Threw f s.heap) ch (record { kind = Throw; dest = refl; slots = throw_slots f s.heap; parts = throw_parts s h q f m i; outcome = (f, s.heap, n, refl, refl, refl) })

  give_slots : Val → Heap → ℕ → Val
  give_slots r h = slots val.Unit (val.Fault fault.Clear) r (val.Heap h) (λ n. val.Unit)

  give_parts : (s : State) (h : Held) (q : Part) (v : Val) → M p w x σ s h → PartIs w x σ q v → (n : ℕ) → PartIs w x σ ((give q h).slots n) (give_slots v s.heap n)
  unfolding give_slots strict
  give_parts s h q v m i zero = m.token
  give_parts s h q v m i (suc zero) = ([], refl, refl)
  give_parts s h q v m i (suc (suc zero)) = i
  give_parts s h q v m i (suc (suc (suc zero))) = m.heap
  give_parts s h q v m i (suc (suc (suc (suc n)))) = unit_is

  -- it returns
  pub given_back : (c : Chain) (s : State) (h : Held) (q : Part) (n : Num) → M p w x σ s h → PartIs w x σ q (val.Num n) → Chooses w x σ c (give q h) → Leaves c (Some (ended (Returned (Some n) s.heap)))
  unfolding give_slots
  given_back c s h q n m i ch = over (give q h) (Returned (Some n) s.heap) ch (record { kind = Return; dest = refl; slots = give_slots (val.Num n) s.heap; parts = give_parts s h q (val.Num n) m i; outcome = (s.heap, Some n, refl, refl, refl, refl) })

  pub given_none : (c : Chain) (s : State) (h : Held) → M p w x σ s h → Chooses w x σ c (give unit_part h) → Leaves c (Some (ended (Returned None s.heap)))
  unfolding give_slots
  given_none c s h m ch = over (give unit_part h) (Returned None s.heap) ch (record { kind = Return; dest = refl; slots = give_slots val.Unit s.heap; parts = give_parts s h unit_part val.Unit m unit_is; outcome = (s.heap, None, refl, refl, refl, refl) })

  -- it goes to a place
  pub goes_there : (c : Chain) (s : State) (h : Held) (m : ℕ) → M p w x σ s h → Chooses w x σ c (to m h) → Leaves c (Some (goes s m))
  goes_there c s h m y ch = comes m h (record s { at = m }) ch refl (record { stack = y.stack; locals = y.locals; heap = y.heap; token = y.token; start = y.start })

  -- it goes on to the next place
  pub goes_next : (c : Chain) (s : State) (g : Held) (now : Option Now) → Goes p w x σ s g now → Chooses w x σ c (to (suc s.at) g) → Leaves c now
  goes_next c s g now r ch = subst (Leaves c) (sym r.is) (comes (suc s.at) g r.next ch r.there r.matches)

  pub branch_leaves : (q : Part × Bool) (s : State) (h : Held) (target : ℕ) (b : Bool) → M p w x σ s h → Tests w x σ q.0 (if q.1 then b else not b) → Leaves (branch q (to target h) (to (suc s.at) h)) (Some (branches s target b))
  branch_leaves (t, true) s h target true m y = goes_there _ s h target m (yes w x σ t (to target h) (Leave (to (suc s.at) h)) y)
  branch_leaves (t, true) s h target false m y = goes_there _ s h (suc s.at) m (no w x σ t (to target h) (to (suc s.at) h) (Leave (to (suc s.at) h)) y refl)
  branch_leaves (t, false) s h target true m y = goes_there _ s h target m (no w x σ t (to (suc s.at) h) (to target h) (Leave (to target h)) y refl)
  branch_leaves (t, false) s h target false m y = goes_there _ s h (suc s.at) m (yes w x σ t (to (suc s.at) h) (Leave (to target h)) y)

  -- a switch chooses the target of the first case with the key
  pub switch_chooses : (q : Part) (n : ℤ) (default : ℕ) (cases : List Case) (h : Held) → PartIs w x σ q (val.Num (num.Int n)) → Chooses w x σ (switch q default cases h) (to (target_of default cases n) h)
  switch_chooses q n default [] h i = refl
  switch_chooses q n default (c ∷ cases) h i = go (int_eq c.key n) refl (switch_chooses q n default cases h i)
    where
      go : (b : Bool) → int_eq c.key n ≡ b → Chooses w x σ (switch q default cases h) (to (target_of default cases n) h) → Chooses w x σ (switch q default (c ∷ cases) h) (to (if b then c.target else target_of default cases n) h)
      go true e rest = yes w x σ (ieq q (int_part c.key)) (to c.target h) (switch q default cases h) (same_test w x σ _ _ true (flip n c.key ∙ e) (ieq_tests w x σ q (int_part c.key) n c.key i (int_is w x σ c.key)))
      go false e rest = no w x σ (ieq q (int_part c.key)) (to c.target h) (to (target_of default cases n) h) (switch q default cases h) (same_test w x σ _ _ false (flip n c.key ∙ e) (ieq_tests w x σ q (int_part c.key) n c.key i (int_is w x σ c.key))) rest

  pub null_fault : PartIs w x σ (Of op.FNull refl NoPart) (val.Fault fault.Null)
  unfolding strict
  null_fault = ([], refl, refl)

  pub index_fault : PartIs w x σ (Of op.FIndex refl NoPart) (val.Fault fault.Index)
  unfolding strict
  index_fault = ([], refl, refl)

  arith_fault : PartIs w x σ (Of op.FArith refl NoPart) (val.Fault fault.Arith)
  unfolding strict
  arith_fault = ([], refl, refl)

  pub not_null : fault.Null ≢ fault.Clear
  not_null e = absurd (cc)

  pub not_index : fault.Index ≢ fault.Clear
  not_index e = absurd (cc)

  not_arith : fault.Arith ≢ fault.Clear
  not_arith e = absurd (cc)

  -- where the first test is false, the others decide
  pub after_no : (t q : Part) (h : Held) (rest : Chain) (now : Option Now) → Tests w x σ t false → Leaves rest now → Leaves (flow.Test t (throw q h) rest) now
  after_no t q h rest now n (comes m g u ch at y) = comes m g u (no w x σ t (throw q h) (to m g) rest n ch) at y
  after_no t q h rest now n (over e o ch k) = over e o (no w x σ t (throw q h) e rest n ch) k
  after_no t q h rest now n (waits r) = waits ((λ u i. ((Throw, refl), (n.value, n.is, n.says))), r)

  -- null throws, whatever the other tests are
  pub null_first : (s : State) (h : Held) (q : Part) (rest : Chain) → M p w x σ s h → PartIs w x σ q (val.Num (num.Ref 0)) → Leaves (flow.Test (aeq q null_part) (throw (Of op.FNull refl NoPart) h) rest) (Some (throws s fault.Null))
  null_first s h q rest m i = thrown _ s h (Of op.FNull refl NoPart) fault.Null m null_fault not_null (yes w x σ (aeq q null_part) (throw (Of op.FNull refl NoPart) h) rest (null_tests w x σ q 0 i))

  -- .. and where it isn't null they decide
  pub some_first : (h : Held) (q : Part) (r : ℕ) (rest : Chain) (now : Option Now) → PartIs w x σ q (val.Num (num.Ref (suc r))) → Leaves rest now → Leaves (flow.Test (aeq q null_part) (throw (Of op.FNull refl NoPart) h) rest) now
  some_first h q r rest now i l = after_no (aeq q null_part) (Of op.FNull refl NoPart) h rest now (same_test w x σ (aeq q null_part) (suc r == 0) false (suc_not_zero r) (null_tests w x σ q (suc r) i)) l

  pub null_leaves : (s : State) (h : Held) (q : Part) (e : Exit) → M p w x σ s h → PartIs w x σ q (val.Num (num.Ref 0)) → Leaves (unless_null q h e) (Some (throws s fault.Null))
  null_leaves s h q e m i = null_first s h q (Leave e) m i

  pub some_leaves : (q : Part) (h : Held) (r : ℕ) (e : Exit) → PartIs w x σ q (val.Num (num.Ref (suc r))) → Chooses w x σ (unless_null q h e) e
  some_leaves q h r e i = no w x σ (aeq q null_part) (throw (Of op.FNull refl NoPart) h) e (Leave e) (same_test w x σ _ _ false (suc_not_zero r) (null_tests w x σ q (suc r) i)) refl

  pub divide_leaves : (o : ScalarOp) (s : State) (h : Held) (a b : Num) (c d : Cell) → operation.takes o ≡ operation.gives o ∷ operation.gives o ∷ [] → M p w x σ s h → StackIs w x σ a c → StackIs w x σ b d
      → sort_of a ≡ sort_of_word (operation.gives o) → sort_of b ≡ sort_of_word (operation.gives o)
      → Leaves (flow.Test (is_zero (operation.gives o) d.part) (throw (Of op.FArith refl NoPart) h) (Leave (to (suc s.at) (push h (sort_of_word (operation.gives o)) (Of (op.Scalar o) refl (parts_of (c ∷ d ∷ [])))))))
      (divided s o (a ∷ b ∷ []))
  divide_leaves o s h a b c d two m i j e f = go (int_eq (number_of b) (pos 0)) (zero_tests w x σ (operation.gives o) d.part b f j.is)
    where
      r : Computes o (a ∷ b ∷ [])
      r = computes_two o a b (operation.gives o) (operation.gives o) two e f

      value : (now : Option Now) → now ≡ Some (pushes s (value_of o (number_of a) (number_of b))) → Goes p w x σ s (push h (sort_of_word (operation.gives o)) (Of (op.Scalar o) refl (parts_of (c ∷ d ∷ [])))) now
      value now is = scalar_goes p w x σ s h o (a ∷ b ∷ []) (c ∷ d ∷ []) now m (i, (j, tt)) r.value (scalar_strict p w x σ o (numbers_of (a ∷ b ∷ [])) (val.Num r.value) r.graph) r.sort r.range (is ∙ ap (λ (n : Num). Some (pushes s n)) (some_of _ _ r.machine))

      go : (z : Bool) → Tests w x σ (is_zero (operation.gives o) d.part) z
          → Leaves (flow.Test (is_zero (operation.gives o) d.part) (throw (Of op.FArith refl NoPart) h) (Leave (to (suc s.at) (push h (sort_of_word (operation.gives o)) (Of (op.Scalar o) refl (parts_of (c ∷ d ∷ [])))))))
          (Some (if z then throws s fault.Arith else pushes s (value_of o (number_of a) (number_of b))))
      go true t = thrown (flow.Test (is_zero (operation.gives o) d.part) (throw (Of op.FArith refl NoPart) h) (Leave (to (suc s.at) (push h (sort_of_word (operation.gives o)) (Of (op.Scalar o) refl (parts_of (c ∷ d ∷ []))))))) s h (Of op.FArith refl NoPart) fault.Arith m arith_fault not_arith (yes w x σ (is_zero (operation.gives o) d.part) (throw (Of op.FArith refl NoPart) h) (Leave (to (suc s.at) (push h (sort_of_word (operation.gives o)) (Of (op.Scalar o) refl (parts_of (c ∷ d ∷ [])))))) t)
      go false t = goes_next (flow.Test (is_zero (operation.gives o) d.part) (throw (Of op.FArith refl NoPart) h) (Leave (to (suc s.at) (push h (sort_of_word (operation.gives o)) (Of (op.Scalar o) refl (parts_of (c ∷ d ∷ []))))))) s (push h (sort_of_word (operation.gives o)) (Of (op.Scalar o) refl (parts_of (c ∷ d ∷ [])))) _ (value (Some (pushes s (value_of o (number_of a) (number_of b)))) refl) (no w x σ (is_zero (operation.gives o) d.part) (throw (Of op.FArith refl NoPart) h) (to (suc s.at) (push h (sort_of_word (operation.gives o)) (Of (op.Scalar o) refl (parts_of (c ∷ d ∷ []))))) (Leave (to (suc s.at) (push h (sort_of_word (operation.gives o)) (Of (op.Scalar o) refl (parts_of (c ∷ d ∷ [])))))) t refl)

  pub field_read : (s : State) (h : Held) (t : JType) (f : Sym) (r : ℕ) (q : Part) (n : Num) → M p w x σ s h → PartIs w x σ q (val.Num (num.Ref r)) → field_type f.desc ≡ Some t → shown t (read s.heap (field_place w r f)) ≡ Some n
      → PartIs w x σ (Of (op.GetField f) refl (More h.heap (More q NoPart))) (val.Num n)
  unfolding strict
  field_read s h t f r q n m j e i = (val.Heap s.heap ∷ val.Num (num.Ref r) ∷ [], (val.Heap s.heap, val.Num (num.Ref r) ∷ [], m.heap, (val.Num (num.Ref r), [], j, refl, refl), refl), rw e (rw i refl))

  pub length_read : (r : ℕ) (q : Part) → PartIs w x σ q (val.Num (num.Ref r)) → PartIs w x σ (Of op.Length refl (More q NoPart)) (val.Num (num.Int (length_of w r)))
  unfolding strict
  length_read r q i = (val.Num (num.Ref r) ∷ [], (val.Num (num.Ref r), [], i, refl, refl), refl)

  pub element_read : (s : State) (h : Held) (k : ElementKind) (r : ℕ) (i : ℤ) (a j : Part) (n : Num) → M p w x σ s h → PartIs w x σ a (val.Num (num.Ref r)) → PartIs w x σ j (val.Num (num.Int i)) → shown (element_type w k r) (read s.heap (Elem k r i)) ≡ Some n
      → PartIs w x σ (Of (op.Load k) refl (More h.heap (More a (More j NoPart)))) (val.Num n)
  unfolding strict
  element_read s h k r i a j n m y z e = (
    val.Heap s.heap ∷ val.Num (num.Ref r) ∷ val.Num (num.Int i) ∷ [],
    (val.Heap s.heap, val.Num (num.Ref r) ∷ val.Num (num.Int i) ∷ [], m.heap, (val.Num (num.Ref r), val.Num (num.Int i) ∷ [], y, (val.Num (num.Int i), [], z, refl, refl), refl), refl),
    rw e refl,
  )

  pub field_written : (s : State) (h : Held) (t : JType) (f : Sym) (r : ℕ) (q u : Part) (n : Num) (k : ℤ) → M p w x σ s h → PartIs w x σ q (val.Num (num.Ref r)) → PartIs w x σ u (val.Num n) → field_type f.desc ≡ Some t → kept t n ≡ Some k
      → PartIs w x σ (Of (op.PutField f) refl (More h.heap (More q (More u NoPart)))) (val.Heap (written s.heap (field_place w r f) k))
  unfolding strict
  field_written s h t f r q u n k m i j e z = (
    val.Heap s.heap ∷ val.Num (num.Ref r) ∷ val.Num n ∷ [],
    (val.Heap s.heap, val.Num (num.Ref r) ∷ val.Num n ∷ [], m.heap, (val.Num (num.Ref r), val.Num n ∷ [], i, (val.Num n, [], j, refl, refl), refl), refl),
    rw e (rw z refl),
  )

  pub element_written : (s : State) (h : Held) (y : ElementKind) (r : ℕ) (i : ℤ) (a j u : Part) (n : Num) (k : ℤ) → M p w x σ s h → PartIs w x σ a (val.Num (num.Ref r)) → PartIs w x σ j (val.Num (num.Int i)) → PartIs w x σ u (val.Num n) → kept (element_type w y r) n ≡ Some k
      → PartIs w x σ (Of (op.Store y) refl (More h.heap (More a (More j (More u NoPart))))) (val.Heap (written s.heap (Elem y r i) k))
  unfolding strict
  element_written s h y r i a j u n k m d e f z = (
    val.Heap s.heap ∷ val.Num (num.Ref r) ∷ val.Num (num.Int i) ∷ val.Num n ∷ [],
    (
      val.Heap s.heap,
      val.Num (num.Ref r) ∷ val.Num (num.Int i) ∷ val.Num n ∷ [],
      m.heap,
      (val.Num (num.Ref r), val.Num (num.Int i) ∷ val.Num n ∷ [], d, (val.Num (num.Int i), val.Num n ∷ [], e, (val.Num n, [], f, refl, refl), refl), refl),
      refl,
    ),
    rw z refl,
  )

  -- an access of an element: within the array it goes on, and else it throws
  pub within_leaves : (s : State) (h : Held) (r : ℕ) (i : ℤ) (a j : Part) (g : Held) (now : Option Now) → M p w x σ s h → PartIs w x σ a (val.Num (num.Ref r)) → PartIs w x σ j (val.Num (num.Int i)) → Goes p w x σ s g now
      → Leaves (within a j h (to (suc s.at) g)) (unless s (element_fault w r i) now)
  within_leaves s h zero i a j g now m y z r = thrown _ s h (Of op.FNull refl NoPart) fault.Null m null_fault not_null (yes w x σ (aeq a null_part) (throw (Of op.FNull refl NoPart) h) (flow.Test (ilt j (int_part (pos 0))) (throw (Of op.FIndex refl NoPart) h) (flow.Test (ilt j (Of op.Length refl (More a NoPart))) (to (suc s.at) g) (Leave (throw (Of op.FIndex refl NoPart) h)))) (null_tests w x σ a 0 y))
  within_leaves s h (suc r) i a j g now m y z n = go (int_lt i (pos 0)) (int_lt i (length_of w (suc r))) (ilt_tests w x σ j (int_part (pos 0)) i (pos 0) z (int_is w x σ (pos 0))) (ilt_tests w x σ j (Of op.Length refl (More a NoPart)) i (length_of w (suc r)) z (length_read (suc r) a y))
    where
      first : Tests w x σ (aeq a null_part) false
      first = same_test w x σ (aeq a null_part) (suc r == 0) false (suc_not_zero r) (null_tests w x σ a (suc r) y)

      go : (b c : Bool) → Tests w x σ (ilt j (int_part (pos 0))) b → Tests w x σ (ilt j (Of op.Length refl (More a NoPart))) c
          → Leaves (within a j h (to (suc s.at) g)) (unless s (if b then Some fault.Index else if c then None else Some fault.Index) now)
      go true c t u = thrown (within a j h (to (suc s.at) g)) s h (Of op.FIndex refl NoPart) fault.Index m index_fault not_index (no w x σ (aeq a null_part) (throw (Of op.FNull refl NoPart) h) (throw (Of op.FIndex refl NoPart) h) (flow.Test (ilt j (int_part (pos 0))) (throw (Of op.FIndex refl NoPart) h) (flow.Test (ilt j (Of op.Length refl (More a NoPart))) (to (suc s.at) g) (Leave (throw (Of op.FIndex refl NoPart) h)))) first (yes w x σ (ilt j (int_part (pos 0))) (throw (Of op.FIndex refl NoPart) h) (flow.Test (ilt j (Of op.Length refl (More a NoPart))) (to (suc s.at) g) (Leave (throw (Of op.FIndex refl NoPart) h))) t))
      go false true t u = goes_next (within a j h (to (suc s.at) g)) s g now n (no w x σ (aeq a null_part) (throw (Of op.FNull refl NoPart) h) (to (suc s.at) g) (flow.Test (ilt j (int_part (pos 0))) (throw (Of op.FIndex refl NoPart) h) (flow.Test (ilt j (Of op.Length refl (More a NoPart))) (to (suc s.at) g) (Leave (throw (Of op.FIndex refl NoPart) h)))) first (no w x σ (ilt j (int_part (pos 0))) (throw (Of op.FIndex refl NoPart) h) (to (suc s.at) g) (flow.Test (ilt j (Of op.Length refl (More a NoPart))) (to (suc s.at) g) (Leave (throw (Of op.FIndex refl NoPart) h))) t (yes w x σ (ilt j (Of op.Length refl (More a NoPart))) (to (suc s.at) g) (Leave (throw (Of op.FIndex refl NoPart) h)) u)))
      go false false t u = thrown (within a j h (to (suc s.at) g)) s h (Of op.FIndex refl NoPart) fault.Index m index_fault not_index (no w x σ (aeq a null_part) (throw (Of op.FNull refl NoPart) h) (throw (Of op.FIndex refl NoPart) h) (flow.Test (ilt j (int_part (pos 0))) (throw (Of op.FIndex refl NoPart) h) (flow.Test (ilt j (Of op.Length refl (More a NoPart))) (to (suc s.at) g) (Leave (throw (Of op.FIndex refl NoPart) h)))) first (no w x σ (ilt j (int_part (pos 0))) (throw (Of op.FIndex refl NoPart) h) (throw (Of op.FIndex refl NoPart) h) (flow.Test (ilt j (Of op.Length refl (More a NoPart))) (to (suc s.at) g) (Leave (throw (Of op.FIndex refl NoPart) h))) t (no w x σ (ilt j (Of op.Length refl (More a NoPart))) (to (suc s.at) g) (throw (Of op.FIndex refl NoPart) h) (Leave (throw (Of op.FIndex refl NoPart) h)) u refl)))
