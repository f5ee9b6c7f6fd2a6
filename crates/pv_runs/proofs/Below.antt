-- What a block computes names only the slots of what is held at its beginning.
use Rattle.std.proofs.Common.{◌≡◌, ℕ, zero, suc, pos, ◌+◌, ◌*◌, ◌<◌, ◌≤◌, Bool, true, false, List, [], ◌∷◌, length, Option, Some, None, refl, ap, subst, inl, inr, arith, if◌then◌else◌}
use Rattle.pv_runs.proofs.Words.{◌==◌, slice_get, slice_set, AllZip, AllByRecursion, ◌>>=◌, Sym, JType, Case, Sort, Comparison, Test, Action, Program, Frame, fits, is_wide, popped, moved, has_room, first_cleared, set_local, takes, some_of, no_some, if_some, Part, Parts, Slot, Exit, Chain, Leave, InChain, NamesBelow, AllBelow, InTests, local_place, stack_place, local_slot, stack_slot, Cell, Held, cell_sort, number_part, parts_of, unset, local_part, stack_part, local_cells, stack_cells, held_at, int_part, push, of_cell, local_cell, increased_cell, unit_part, clear_part, after_call, with_result, acted_on, acted, to, throw, give, compared, branch, switch, test_part, end_slots, fault_part, is_zero, narrowed_part, unless_thrown, unless_null, within, with_held, stores_ref, chain_with, given_chain, last_chain, ends_method, chain_of, acted_along}
use Rattle.pv_value.specs.declared.number.Num.{Num}
use Rattle.pv_value.specs.declared.number.Num.TheVariants as num
use Rattle.pv_value.specs.declared.descriptor.JType.TheVariants as jtype
use Rattle.pv_value.specs.Operations as operation
use Rattle.pv_frame.specs.declared.sort.Sort.TheVariants as sort
use Rattle.pv_frame.specs.declared.action.Comparison.TheVariants as comparison
use Rattle.pv_frame.specs.declared.action.Test.TheVariants as test
use Rattle.pv_frame.specs.declared.action.Action.TheVariants as act
use Rattle.pv_equations.specs.Flow as flow
use Rattle.pv_runs.proofs.Options.{mapped, bound}
use Rattle.pv_runs.proofs.Related.{popped_both, moved_both, taken_found, lists_found}
use Rattle.pv_runs.proofs.Turns.{turns_both}

-- ---- numbers of slots

local_number : (k : ℕ) → local_slot k ≡ 2 * k + 4
local_number k = let e = place k in omega (arith, e)
  where
    place : (k : ℕ) → local_place k ≡ 2 * k
    place zero = refl
    place (suc k) = let e = place k in omega (arith, e)

stack_number : (j : ℕ) → stack_slot j ≡ 2 * j + 5
stack_number j = let e = place j in omega (arith, e)
  where
    place : (j : ℕ) → stack_place j ≡ 2 * j + 1
    place zero = refl
    place (suc j) = let e = place j in omega (arith, e)

module _ (n : ℕ) where
  -- the parts of some cells name slots below n
  abbrev pub CellsBelow : List Cell → Type 0
  CellsBelow cells = AllByRecursion (λ c. NamesBelow n c.part) cells

  -- .. and all parts that are held
  pub record HeldBelow (h : Held) : Type 0 where
    pub stack : CellsBelow h.stack
    pub locals : CellsBelow h.locals
    pub heap : NamesBelow n h.heap
    pub token : NamesBelow n h.token

  abbrev pub ExitBelow : Exit → Type 0
  ExitBelow e = (s : ℕ) → NamesBelow n (e.slots s)

  -- .. and those of a chain
  abbrev pub ChainBelow : Chain → Type 0
  ChainBelow (Leave e) = ExitBelow e
  ChainBelow (flow.Test t e rest) = NamesBelow n t × ExitBelow e × ChainBelow rest

  -- ---- cells

  abbrev Same : Cell → Cell → Type 0
  Same c d = (c ≡ d) × NamesBelow n d.part

  with_itself : (cells : List Cell) → CellsBelow cells → AllZip Same cells cells
  with_itself [] b = tt
  with_itself (c ∷ cells) b = ((refl, b.0), with_itself cells b.1)

  of_second : (xs ys : List Cell) → AllZip Same xs ys → CellsBelow ys
  of_second [] [] z = tt
  of_second [] (y ∷ ys) z = absurd z
  of_second (x ∷ xs) [] z = absurd z
  of_second (x ∷ xs) (y ∷ ys) z = (z.0.1, of_second xs ys z.1)

  popped_below : (sorts : List Sort) (stack : List Cell) (q : List Cell × List Cell) → CellsBelow stack → popped cell_sort sorts stack ≡ Some q → CellsBelow q.0 × CellsBelow q.1
  popped_below sorts stack q b e =
      let both = popped_both Same cell_sort cell_sort (λ x y r. ap cell_sort r.0) sorts stack stack (with_itself stack b) in
      let f = taken_found Same (popped cell_sort sorts stack) (popped cell_sort sorts stack) q both e in
      (of_second f.0.0 q.0 f.2, of_second f.0.1 q.1 f.3)

  moved_below : (m : _) (stack : List Cell) (after : List Cell) → CellsBelow stack → moved cell_sort m stack ≡ Some after → CellsBelow after
  moved_below m stack after b e =
      let both = moved_both Same cell_sort cell_sort (λ x y r. ap cell_sort r.0) m stack stack (with_itself stack b) in
      let f = lists_found Same (moved cell_sort m stack) (moved cell_sort m stack) after both e in
      of_second f.0 after f.2

  parts_below : (cells : List Cell) → CellsBelow cells → AllBelow n (parts_of cells)
  parts_below [] b = tt
  parts_below (c ∷ cells) b = (b.0, parts_below cells b.1)

  local_below : (locals : List Cell) → CellsBelow locals → (k : ℕ) → NamesBelow n (local_part locals k)
  local_below [] b k = tt
  local_below (c ∷ locals) b zero = b.0
  local_below (c ∷ locals) b (suc k) = local_below locals b.1 k

  stack_below : (stack : List Cell) → CellsBelow stack → (j : ℕ) → NamesBelow n (stack_part stack j)
  stack_below [] b j = tt
  stack_below (c ∷ stack) b j = elim (j == length stack) as (λ t. NamesBelow n (if t then c.part else stack_part stack j)) [ true ↦ b.0 | false ↦ stack_below stack b.1 j ]

  found_below : (locals : List Cell) (k : ℕ) (s : Sort) (c : Cell) → CellsBelow locals → (slice_get locals k >>= of_cell s) ≡ Some c → NamesBelow n c.part
  found_below [] k s c b e = no_some c e
  found_below (d ∷ locals) zero s c b e = subst (λ (c : Cell). NamesBelow n c.part) (if_some (fits d.sort s) d c e).1 b.0
  found_below (d ∷ locals) (suc k) s c b e = found_below locals k s c b.1 e

  replaced_below : (locals : List Cell) (k : ℕ) (c : Cell) → CellsBelow locals → NamesBelow n c.part → CellsBelow (slice_set locals k c)
  replaced_below [] k c b x = tt
  replaced_below (d ∷ locals) zero c b x = (x, b.1)
  replaced_below (d ∷ locals) (suc k) c b x = (b.0, replaced_below locals k c b.1 x)

  cleared_below : (locals : List Cell) → CellsBelow locals → CellsBelow (first_cleared unset locals)
  cleared_below [] b = tt
  cleared_below (d ∷ locals) b = (tt, b.1)

  stored_below : (k : ℕ) (c : Cell) (locals : List Cell) → CellsBelow locals → NamesBelow n c.part → CellsBelow (set_local cell_sort unset k c locals)
  stored_below k c [] b x = tt
  stored_below zero c (d ∷ locals) b x = (x, elim (is_wide c.sort) as (λ t. CellsBelow (if t then first_cleared unset locals else locals)) [ true ↦ cleared_below locals b.1 | false ↦ b.1 ])
  stored_below (suc zero) c (d ∷ locals) b x = (elim (is_wide d.sort) as (λ t. NamesBelow n (if t then unset else d).part) [ true ↦ tt | false ↦ b.0 ], stored_below zero c locals b.1 x)
  stored_below (suc (suc k)) c (d ∷ locals) b x = (b.0, stored_below (suc k) c locals b.1 x)

  -- ---- actions

  below_of : (h g : Held) → HeldBelow h → h ≡ g → HeldBelow g
  below_of h g b e = subst HeldBelow e b

  push_below : (h : Held) (s : Sort) (q : Part) → HeldBelow h → NamesBelow n q → HeldBelow (push h s q)
  push_below h s q b x = record { stack = (x, b.stack); locals = b.locals; heap = b.heap; token = b.token }

  heap_below : (h : Held) (q : Part) → HeldBelow h → NamesBelow n q → HeldBelow (record h { heap = q })
  heap_below h q b x = record { stack = b.stack; locals = b.locals; heap = x; token = b.token }

  number_below : (m : Num) → NamesBelow n (number_part m)
  number_below (num.Int m) = tt
  number_below (num.Long m) = tt
  number_below (num.Ref r) = tt

  called_below : (h : Held) (f : Sym) (cells : List Cell) → 0 < n → HeldBelow h → CellsBelow cells → HeldBelow (after_call h f cells)
  called_below h f cells z b c = let args = parts_below cells c in record { stack = b.stack; locals = b.locals; heap = (b.heap, args); token = (z, ((b.heap, args), tt)) }

  result_below : (h : Held) (f : Sym) (cells : List Cell) (r : Option JType) → 0 < n → HeldBelow h → CellsBelow cells → HeldBelow (with_result h f cells r)
  result_below h f cells None z b c = called_below h f cells z b c
  result_below h f cells (Some t) z b c = push_below (after_call h f cells) _ _ (called_below h f cells z b c) (b.heap, parts_below cells c)

  acted_below : (a : Action) (h g : Held) (cells : List Cell) → 0 < n → HeldBelow h → CellsBelow cells → acted_on a h cells ≡ Some g → HeldBelow g
  acted_below act.Nop h g cells z b c e = below_of h g b (some_of _ _ e)
  acted_below (act.Push m) h g cells z b c e = below_of _ g (push_below h _ (number_part m) b (number_below m)) (some_of _ _ e)
  acted_below (act.Literal text) h g cells z b c e = below_of _ g (push_below h _ _ b tt) (some_of _ _ e)
  acted_below (act.Load s k) h g cells z b c e =
      let q = mapped (λ (c : Cell). push h s c.part) (local_cell h k s) g e in
      below_of (push h s q.0.part) g (push_below h s q.0.part b (found_below h.locals k s q.0 b.locals q.1)) q.2
  acted_below (act.Store s k) h g (x ∷ []) z b c e =
      below_of (record h { locals = set_local cell_sort unset k x h.locals }) g (record { stack = b.stack; locals = stored_below k x h.locals b.locals c.0; heap = b.heap; token = b.token })
      (if_some (has_room x.sort k h.locals) (record h { locals = set_local cell_sort unset k x h.locals }) g e).1
  acted_below (act.Increase k by) h g cells z b c e =
      let q = mapped (λ (c : Cell). record h { locals = slice_set h.locals k (increased_cell by c) }) (local_cell h k sort.Int) g e in
      below_of (record h { locals = slice_set h.locals k (increased_cell by q.0) }) g
      (record { stack = b.stack; locals = replaced_below h.locals k (increased_cell by q.0) b.locals (found_below h.locals k sort.Int q.0 b.locals q.1, (tt, tt)); heap = b.heap; token = b.token }) q.2
  acted_below (act.Move m) h g cells z b c e =
      let q = mapped (λ (stack : List Cell). record h { stack = stack }) (moved cell_sort m h.stack) g e in
      below_of (record h { stack = q.0 }) g (record { stack = moved_below m h.stack q.0 b.stack q.1; locals = b.locals; heap = b.heap; token = b.token }) q.2
  acted_below (act.Scalar o) h g cells z b c e = below_of _ g (push_below h _ _ b (parts_below cells c)) (some_of _ _ e)
  acted_below (act.Divide o) h g cells z b c e = below_of _ g (push_below h _ _ b (parts_below cells c)) (some_of _ _ e)
  acted_below (act.Branch t target) h g cells z b c e = below_of h g b (some_of _ _ e)
  acted_below (act.Jump target) h g cells z b c e = below_of h g b (some_of _ _ e)
  acted_below (act.Switch default cases) h g cells z b c e = below_of h g b (some_of _ _ e)
  acted_below (act.GetStatic t f) h g cells z b c e = below_of _ g (push_below h _ _ b (b.heap, tt)) (some_of _ _ e)
  acted_below (act.PutStatic t f) h g cells z b c e = below_of _ g (heap_below h _ b (b.heap, parts_below cells c)) (some_of _ _ e)
  acted_below (act.GetField t f) h g cells z b c e = below_of _ g (push_below h _ _ b (b.heap, parts_below cells c)) (some_of _ _ e)
  acted_below (act.PutField t f) h g cells z b c e = below_of _ g (heap_below h _ b (b.heap, parts_below cells c)) (some_of _ _ e)
  acted_below (act.LoadElement k) h g cells z b c e = below_of _ g (push_below h _ _ b (b.heap, parts_below cells c)) (some_of _ _ e)
  acted_below (act.StoreElement k) h g cells z b c e = below_of _ g (heap_below h _ b (b.heap, parts_below cells c)) (some_of _ _ e)
  acted_below act.StoreRef h g cells z b c e = below_of _ g (heap_below h _ b (b.heap, parts_below cells c)) (some_of _ _ e)
  acted_below (act.Cast class) h g (o ∷ []) z b c e = below_of _ g (push_below h _ _ b c.0) (some_of _ _ e)
  acted_below (act.InstanceOf class) h g (o ∷ []) z b c e = below_of _ g (push_below h _ _ b tt) (some_of _ _ e)
  acted_below act.Length h g cells z b c e = below_of _ g (push_below h _ _ b (parts_below cells c)) (some_of _ _ e)
  acted_below (act.Call d f) h g cells z b c e = below_of _ g (result_below h f cells d.result z b c) (some_of _ _ e)
  acted_below (act.CallOn d f) h g cells z b c e = below_of _ g (result_below h f cells d.result z b c) (some_of _ _ e)
  acted_below a h g cells z b c e = absurd (cc)

  -- ---- chains

  to_below : (m : ℕ) (h : Held) → HeldBelow h → ExitBelow (to m h)
  to_below m h b zero = b.token
  to_below m h b (suc zero) = tt
  to_below m h b (suc (suc zero)) = tt
  to_below m h b (suc (suc (suc zero))) = b.heap
  to_below m h b (suc (suc (suc (suc i)))) =
      turns_both (λ (q r : Part). NamesBelow n q) (local_part h.locals) (stack_part h.stack) (local_part h.locals) (stack_part h.stack) (local_below h.locals b.locals) (stack_below h.stack b.stack) i

  ends_below : (token fault result heap : Part) → NamesBelow n token → NamesBelow n fault → NamesBelow n result → NamesBelow n heap → (s : ℕ) → NamesBelow n (end_slots token fault result heap s)
  ends_below token fault result heap a b c d zero = a
  ends_below token fault result heap a b c d (suc zero) = b
  ends_below token fault result heap a b c d (suc (suc zero)) = c
  ends_below token fault result heap a b c d (suc (suc (suc zero))) = d
  ends_below token fault result heap a b c d (suc (suc (suc (suc i)))) = tt

  throw_below : (fault : Part) (h : Held) → NamesBelow n fault → HeldBelow h → ExitBelow (throw fault h)
  throw_below fault h f b = ends_below h.token fault unit_part h.heap b.token f tt b.heap

  give_below : (result : Part) (h : Held) → NamesBelow n result → HeldBelow h → ExitBelow (give result h)
  give_below result h r b = ends_below h.token clear_part result h.heap b.token tt r b.heap

  compared_below : (c : Comparison) (x y : Part) → NamesBelow n x → NamesBelow n y → NamesBelow n (compared c x y).0
  compared_below comparison.Eq x y a b = (a, (b, tt))
  compared_below comparison.Ne x y a b = (a, (b, tt))
  compared_below comparison.Lt x y a b = (a, (b, tt))
  compared_below comparison.Ge x y a b = (a, (b, tt))
  compared_below comparison.Gt x y a b = (b, (a, tt))
  compared_below comparison.Le x y a b = (b, (a, tt))

  test_below : (t : Test) (cells : List Cell) (q : Part × Bool) → CellsBelow cells → test_part t cells ≡ Some q → NamesBelow n q.0
  test_below (test.Zero c) (x ∷ []) q b e = subst (λ (q : Part × Bool). NamesBelow n q.0) (some_of _ q e) (compared_below c x.part _ b.0 tt)
  test_below (test.Ints c) (x ∷ y ∷ []) q b e = subst (λ (q : Part × Bool). NamesBelow n q.0) (some_of _ q e) (compared_below c x.part y.part b.0 b.1.0)
  test_below test.Same (x ∷ y ∷ []) q b e = subst (λ (q : Part × Bool). NamesBelow n q.0) (some_of _ q e) (b.0, (b.1.0, tt))
  test_below test.Other (x ∷ y ∷ []) q b e = subst (λ (q : Part × Bool). NamesBelow n q.0) (some_of _ q e) (b.0, (b.1.0, tt))
  test_below test.Null (x ∷ []) q b e = subst (λ (q : Part × Bool). NamesBelow n q.0) (some_of _ q e) (b.0, (tt, tt))
  test_below test.NonNull (x ∷ []) q b e = subst (λ (q : Part × Bool). NamesBelow n q.0) (some_of _ q e) (b.0, (tt, tt))
  test_below t cells q b e = absurd (cc)

  branch_below : (t : Part) (b : Bool) (taken next : Exit) → NamesBelow n t → ExitBelow taken → ExitBelow next → ChainBelow (branch (t, b) taken next)
  branch_below t true taken next x y z = (x, y, z)
  branch_below t false taken next x y z = (x, z, y)

  switch_below : (x : Part) (default : ℕ) (cases : List Case) (h : Held) → NamesBelow n x → HeldBelow h → ChainBelow (switch x default cases h)
  switch_below x default [] h a b = to_below default h b
  switch_below x default (c ∷ cases) h a b = ((a, (tt, tt)), to_below c.target h b, switch_below x default cases h a b)

  zero_below : (w : operation.Word) (y : Part) → NamesBelow n y → NamesBelow n (is_zero w y)
  zero_below operation.int y a = (a, (tt, tt))
  zero_below operation.long y a = (a, (tt, tt))

  narrowed_below : (t : JType) (x : Part) → NamesBelow n x → NamesBelow n (narrowed_part t x)
  narrowed_below jtype.Z x a = (a, (tt, tt))
  narrowed_below jtype.B x a = (a, tt)
  narrowed_below jtype.C x a = (a, tt)
  narrowed_below jtype.S x a = (a, tt)
  narrowed_below t x a = a

  chain_of_same : (c d : Chain) → ChainBelow c → Some c ≡ Some d → ChainBelow d
  chain_of_same c d b e = subst ChainBelow (some_of c d e) b

  null_below : (o : Part) (h : Held) (next : Exit) → NamesBelow n o → HeldBelow h → ExitBelow next → ChainBelow (unless_null o h next)
  null_below o h next x b y = ((x, (tt, tt)), throw_below _ h tt b, y)

  within_below : (a i : Part) (h : Held) (next : Exit) → NamesBelow n a → NamesBelow n i → HeldBelow h → ExitBelow next → ChainBelow (within a i h next)
  within_below a i h next x y b z =
      ((x, (tt, tt)), throw_below _ h tt b, ((y, (tt, tt)), throw_below _ h tt b, ((y, ((x, tt), tt)), z, throw_below _ h tt b)))

  -- whatever stands at the exit otherwise
  with_below : (h : Held) (next : Exit) → HeldBelow h → ExitBelow (with_held h next)
  with_below h next b = to_below 0 h b

  stores_below : (a i v : Part) (h : Held) (next : Exit) → NamesBelow n a → NamesBelow n i → NamesBelow n v → HeldBelow h → ExitBelow next → ChainBelow (stores_ref a i v h next)
  stores_below a i v h next x y u b z = (
    (x, (tt, tt)),
    throw_below _ h tt b,
    (
      (y, (tt, tt)),
      throw_below _ h tt b,
      (
        ((y, ((x, tt), tt)), (tt, tt)),
        throw_below _ h tt b,
        ((u, (tt, tt)), z, ((tt, (x, (u, tt))), z, throw_below _ h (tt, tt) b)),
      ),
    ),
  )

  thrown_below : (f : Sym) (h : Held) (cells : List Cell) (next : Exit) → 0 < n → HeldBelow h → CellsBelow cells → ExitBelow next → ChainBelow (unless_thrown f h cells next)
  thrown_below f h cells next z b x y =
      let args = parts_below cells x in
      (((b.heap, args), tt), y, throw_below (fault_part f h cells) (after_call h f cells) (b.heap, args) (called_below h f cells z b x))

  next_below : (r : Option JType) (a : Action) (h : Held) (cells : List Cell) (next : Exit) (c : Chain) → 0 < n → HeldBelow h → CellsBelow cells → ExitBelow next → chain_with r a h cells next ≡ Some c → ChainBelow c
  next_below r (act.Branch t target) h cells next c z b x y e =
      let q = mapped (λ (x : Part × Bool). branch x (to target h) next) (test_part t cells) c e in
      subst ChainBelow q.2 (branch_below q.0.0 q.0.1 (to target h) next (test_below t cells q.0 x q.1) (to_below target h b) y)
  next_below r (act.Jump target) h cells next c z b x y e = chain_of_same _ c (to_below target h b) e
  next_below r (act.Switch default cases) h (i ∷ []) next c z b x y e = chain_of_same _ c (switch_below i.part default cases h x.0 b) e
  next_below r (act.Divide o) h (i ∷ j ∷ []) next c z b x y e = chain_of_same _ c (zero_below (operation.gives o) j.part x.1.0, throw_below _ h tt b, y) e
  next_below r (act.GetField t f) h (o ∷ []) next c z b x y e = chain_of_same _ c (null_below o.part h next x.0 b y) e
  next_below r (act.PutField t f) h (o ∷ v ∷ []) next c z b x y e = chain_of_same _ c (null_below o.part h next x.0 b y) e
  next_below r act.Length h (a ∷ []) next c z b x y e = chain_of_same _ c (null_below a.part h next x.0 b y) e
  next_below r (act.LoadElement k) h (a ∷ i ∷ []) next c z b x y e = chain_of_same _ c (within_below a.part i.part h next x.0 x.1.0 b y) e
  next_below r (act.StoreElement k) h (a ∷ i ∷ v ∷ []) next c z b x y e = chain_of_same _ c (within_below a.part i.part h next x.0 x.1.0 b y) e
  next_below r act.StoreRef h (a ∷ i ∷ v ∷ []) next c z b x y e = chain_of_same _ c (stores_below a.part i.part v.part h next x.0 x.1.0 x.1.1.0 b y) e
  next_below r (act.Cast class) h (o ∷ []) next c z b x y e = chain_of_same _ c ((x.0, (tt, tt)), y, ((tt, (x.0, tt)), y, throw_below _ h (tt, tt) b)) e
  next_below r (act.InstanceOf class) h (o ∷ []) next c z b x y e = chain_of_same _ c ((x.0, (tt, tt)), y, ((tt, (x.0, tt)), with_below (push h sort.Int (int_part (pos 1))) next (push_below h sort.Int (int_part (pos 1)) b tt), y)) e
  next_below r (act.Call d f) h cells next c z b x y e = chain_of_same _ c (thrown_below f h cells next z b x y) e
  next_below r (act.CallOn d f) h (o ∷ cells) next c z b x y e = chain_of_same _ c ((x.0, (tt, tt)), throw_below _ h tt b, thrown_below f h (o ∷ cells) next z b x y) e
  next_below r act.Nop h cells next c z b x y e = chain_of_same _ c y e
  next_below r (act.Push m) h cells next c z b x y e = chain_of_same _ c y e
  next_below r (act.Literal text) h cells next c z b x y e = chain_of_same _ c y e
  next_below r (act.Load s k) h cells next c z b x y e = chain_of_same _ c y e
  next_below r (act.Store s k) h cells next c z b x y e = chain_of_same _ c y e
  next_below r (act.Increase k by) h cells next c z b x y e = chain_of_same _ c y e
  next_below r (act.Move m) h cells next c z b x y e = chain_of_same _ c y e
  next_below r (act.Scalar o) h cells next c z b x y e = chain_of_same _ c y e
  next_below r (act.GetStatic t f) h cells next c z b x y e = chain_of_same _ c y e
  next_below r (act.PutStatic t f) h cells next c z b x y e = chain_of_same _ c y e
  next_below r a h cells next c z b x y e = absurd (cc)

  given_below : (r : Option JType) (h : Held) (cells : List Cell) (c : Chain) → HeldBelow h → CellsBelow cells → given_chain r h cells ≡ Some c → ChainBelow c
  given_below (Some t) h (q ∷ []) c b x e = chain_of_same _ c (give_below (narrowed_part t q.part) h (narrowed_below t q.part x.0) b) e
  given_below None h [] c b x e = chain_of_same _ c (give_below unit_part h tt b) e
  given_below r h cells c b x e = absurd (cc)

  last_below : (r : Option JType) (a : Action) (h : Held) (cells : List Cell) (k : ℕ) (c : Chain) → 0 < n → HeldBelow h → CellsBelow cells
      → (if ends_method a then last_chain r a h cells else acted_on a h cells >>= λ g. chain_with r a h cells (to (suc k) g)) ≡ Some c → ChainBelow c
  last_below r (act.Give s) h cells k c z b x e = given_below r h cells c b x e
  last_below r act.Throw h (q ∷ []) k c z b x e = chain_of_same _ c ((x.0, (tt, tt)), throw_below _ h tt b, throw_below _ h (x.0, tt) b) e
  last_below r act.Throw h [] k c z b x e = absurd (cc)
  last_below r act.Throw h (q ∷ y ∷ cells) k c z b x e = absurd (cc)
  last_below r a h cells k c z b x e =
      let q = bound (acted_on a h cells) (λ g. chain_with r a h cells (to (suc k) g)) c e in
      next_below r a h cells (to (suc k) q.0) c z b x (to_below (suc k) q.0 (acted_below a h q.0 cells z b x q.1)) q.2

  -- ---- blocks

  without : (h : Held) (stack : List Cell) → HeldBelow h → CellsBelow stack → HeldBelow (record h { stack = stack })
  without h stack b x = record { stack = x; locals = b.locals; heap = b.heap; token = b.token }

  pub along_below : (p : Program) (m k : ℕ) (h g : Held) → 0 < n → HeldBelow h → acted_along p m k h ≡ Some g → HeldBelow g
  along_below p zero k h g z b e = below_of h g b (some_of h g e)
  along_below p (suc m) k h g z b e =
      let x = bound (slice_get p.actions k) (λ a. acted a h >>= λ g. acted_along p m (suc k) g) g e in
      let y = bound (acted x.0 h) (λ g. acted_along p m (suc k) g) g x.2 in
      let q = bound (popped cell_sort (takes x.0) h.stack) (λ q. acted_on x.0 (record h { stack = q.1 }) q.0) y.0 y.1 in
      let both = popped_below (takes x.0) h.stack q.0 b.stack q.1 in
      along_below p m (suc k) y.0 g z (acted_below x.0 (record h { stack = q.0.1 }) y.0 q.0.0 z (without h q.0.1 b both.1) both.0 q.2) y.2

  pub chain_below : (r : Option JType) (k : ℕ) (a : Action) (h : Held) (c : Chain) → 0 < n → HeldBelow h → chain_of r k a h ≡ Some c → ChainBelow c
  chain_below r k a h c z b e =
      let x = bound (popped cell_sort (takes a) h.stack) (λ x. (if ends_method a then last_chain r a (record h { stack = x.1 }) x.0 else acted_on a (record h { stack = x.1 }) x.0 >>= λ g. chain_with r a (record h { stack = x.1 }) x.0 (to (suc k) g))) c e in
      let both = popped_below (takes a) h.stack x.0 b.stack x.1 in
      last_below r a (record h { stack = x.0.1 }) x.0.0 k c z (without h x.0.1 b both.1) both.0 x.2

  -- ---- where a block begins

  local_cells_below : (k : ℕ) (sorts : List Sort) → 2 * (k + length sorts) + 4 ≤ n → CellsBelow (local_cells k sorts)
  local_cells_below k [] le = tt
  local_cells_below k (s ∷ sorts) le = (let e = local_number k in omega (arith, e), local_cells_below (suc k) sorts (omega arith))

  stack_cells_below : (sorts : List Sort) → 2 * length sorts + 4 ≤ n → CellsBelow (stack_cells sorts)
  stack_cells_below [] le = tt
  stack_cells_below (s ∷ sorts) le = (let e = stack_number (length sorts) in omega (arith, e), stack_cells_below sorts (omega arith))

  pub start_below : (f : Frame) → 2 * length f.locals + 4 ≤ n → 2 * length f.stack + 4 ≤ n → HeldBelow (held_at f)
  start_below f l s = record { stack = stack_cells_below f.stack s; locals = local_cells_below 0 f.locals (omega arith); heap = omega arith; token = omega arith }

-- each exit and each test of such a chain
pub exit_below : (n : ℕ) (c : Chain) (e : Exit) → ChainBelow n c → InChain c e → ExitBelow n e
exit_below n (Leave x) e b i = subst (ExitBelow n) i b
exit_below n (flow.Test t x c) e b (inl i) = subst (ExitBelow n) i b.1
exit_below n (flow.Test t x c) e b (inr i) = exit_below n c e b.2 i

pub tested_below : (n : ℕ) (c : Chain) (t : Part) → ChainBelow n c → InTests c t → NamesBelow n t
tested_below n (Leave x) t b i = absurd i
tested_below n (flow.Test u x c) t b (inl i) = subst (NamesBelow n) i b.0
tested_below n (flow.Test u x c) t b (inr i) = tested_below n c t b.2 i
