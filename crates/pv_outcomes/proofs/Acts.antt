-- What an action that only goes on does: the machine's next state matches what the block has computed.
use Rattle.std.proofs.Common.{◌≡◌, ℕ, suc, ℤ, Bool, true, List, [], ◌∷◌, Option, Some, None, refl, ap, sym, subst, ◌∙◌, inl}
use Rattle.pv_outcomes.proofs.Words.{map, option_map, if◌then◌else◌, slice_set, AllZip, ◌+ℤ◌, w32, SFits-int_wrap, ◌>>=◌, Num, Sym, JType, ScalarOp, World, Input, Val, field_type, read, written, shown, kept, static_place, Sort, Action, Program, literal_of, Taken, popped, moved, has_room, set_local, sort_of, sort_of_local, sort_of_type, sort_of_word, takes, some_of, if_some, popped_sorts, State, Now, running, next, pushes, stored, increased, done, performed, shown_gives, kept_some, no_nums, one_num, Part, Of, NoPart, More, PartIs, Cell, Held, cell_sort, unset, number_part, parts_of, push, local_cell, increased_cell, acted_on, acted, IsClean, IsSimple, lists_found, mapped, moved_both, popped_both, taken_found, InRange, StackIs, LocalIs, Matches}
use Rattle.pv_value.specs.declared.number.Num.TheVariants as num
use Rattle.pv_value.specs.declared.outcome.Val.TheVariants as val
use Rattle.pv_value.specs.Operations as operation
use Rattle.pv_frame.specs.declared.sort.Sort.TheVariants as sort
use Rattle.pv_frame.specs.declared.action.Action.TheVariants as act
use Rattle.pv_frame.specs.declared.action.Move.{Move}
use Rattle.pv_denote.specs.Denote as denote
use Rattle.pv_graph.specs.declared.node.Op.TheVariants as op
use Rattle.pv_denote.specs.Denote.{strict}
use Rattle.pv_outcomes.proofs.Ranges.{shown_range}
use Rattle.pv_outcomes.proofs.Locals.{set_local_is, room_as, local_is, set_is}
use Rattle.pv_outcomes.proofs.Values.{numbers_of, parts_are, computes}

module _ (p : Program) (w : World) (x : Input) (σ : ℕ → Val) where
  abbrev pub M : State → Held → Type 0
  M s h = Matches w x σ s h

  abbrev pub Operands : List Num → List Cell → Type 0
  Operands nums cells = AllZip (λ n c. StackIs w x σ n c) nums cells

  -- the next state is at the next place, and matches
  pub record Goes (s : State) (g : Held) (now : Option Now) : Type 0 where
    pub next : State
    pub is : now ≡ Some (running next)
    pub there : next.at ≡ suc s.at
    pub matches : M next g

  pub number_is : (n : Num) → IsClean (act.Push n) → PartIs w x σ (number_part n) (val.Num n)
  unfolding strict
  number_is (num.Int n) c = ([], refl, refl)
  number_is (num.Long n) c = ([], refl, refl)
  number_is (num.Ref r) c = ([], refl, ap (λ (r : ℕ). Some (val.Num (num.Ref r))) (sym c))

  number_range : (n : Num) → IsClean (act.Push n) → InRange n
  number_range (num.Int n) c = c
  number_range (num.Long n) c = tt
  number_range (num.Ref r) c = tt

  -- one value more
  pub pushed_goes : (s : State) (h : Held) (t : Sort) (q : Part) (n : Num) (now : Option Now) → M s h → sort_of n ≡ t → InRange n → PartIs w x σ q (val.Num n) → now ≡ Some (pushes s n) → Goes s (push h t q) now
  pushed_goes s h t q n now m e r i is = record { next = record s { at = suc s.at; stack = n ∷ s.stack }; is = is; there = refl; matches = record { stack = (record { sort = e; range = r; is = i }, m.stack); locals = m.locals; heap = m.heap; token = m.token; start = m.start } }

  pub goes_to : (s : State) (g h : Held) (now : Option Now) → g ≡ h → Goes s g now → Goes s h now
  goes_to s g h now e r = subst (λ (g : Held). Goes s g now) e r

  -- another heap
  pub heap_goes : (s : State) (h : Held) (q : Part) (n : ℤ) (now : Option Now) (place : _) → M s h → PartIs w x σ q (val.Heap (written s.heap place n)) → now ≡ Some (next (record s { heap = written s.heap place n })) → Goes s (record h { heap = q }) now
  heap_goes s h q n now place m i is = record { next = record s { at = suc s.at; heap = written s.heap place n }; is = is; there = refl; matches = record { stack = m.stack; locals = m.locals; heap = i; token = m.token; start = m.start } }

  static_read : (s : State) (h : Held) (t : JType) (f : Sym) (n : Num) → M s h → field_type f.desc ≡ Some t → shown t (read s.heap (static_place w f)) ≡ Some n → PartIs w x σ (Of (op.GetStatic f) refl (More h.heap NoPart)) (val.Num n)
  unfolding strict
  static_read s h t f n m e i = (val.Heap s.heap ∷ [], (val.Heap s.heap, [], m.heap, refl, refl), rw e (rw i refl))

  static_written : (s : State) (h : Held) (t : JType) (f : Sym) (n : Num) (c : Cell) (k : ℤ) → M s h → field_type f.desc ≡ Some t → StackIs w x σ n c → kept t n ≡ Some k
      → PartIs w x σ (Of (op.PutStatic f) refl (More h.heap (More c.part NoPart))) (val.Heap (written s.heap (static_place w f) k))
  unfolding strict
  static_written s h t f n c k m e i j = (val.Heap s.heap ∷ val.Num n ∷ [], (val.Heap s.heap, val.Num n ∷ [], m.heap, (val.Num n, [], i.is, refl, refl), refl), rw e (rw j refl))

  scalar_part : (o : ScalarOp) (nums : List Num) (cells : List Cell) (v : Val) → Operands nums cells → strict w x (op.Scalar o) (numbers_of nums) ≡ Some v → PartIs w x σ (Of (op.Scalar o) refl (parts_of cells)) v
  scalar_part o nums cells v all e = (numbers_of nums, parts_are w x σ nums cells all, e)

  pub scalar_goes : (s : State) (h : Held) (o : ScalarOp) (nums : List Num) (cells : List Cell) (now : Option Now) → M s h → Operands nums cells → (v : Num) → strict w x (op.Scalar o) (numbers_of nums) ≡ Some (val.Num v) → sort_of v ≡ sort_of_word (operation.gives o) → InRange v → now ≡ Some (pushes s v)
      → Goes s (push h (sort_of_word (operation.gives o)) (Of (op.Scalar o) refl (parts_of cells))) now
  scalar_goes s h o nums cells now m all v e t r is = pushed_goes s h (sort_of_word (operation.gives o)) (Of (op.Scalar o) refl (parts_of cells)) v now m t r (scalar_part o nums cells (val.Num v) all e) is

  pub scalar_strict : (o : ScalarOp) (vs : List Val) (v : Val) → denote.scalar_value o vs ≡ Some v → strict w x (op.Scalar o) vs ≡ Some v
  unfolding strict
  scalar_strict o vs v e = e

  -- the local that was increased
  increased_is : (by : ℤ) (n : Num) (c : Cell) → StackIs w x σ n c → c.sort ≡ sort.Int → (m : Num) × (increased by n ≡ Some m) × (sort_of m ≡ sort.Int) × InRange m × PartIs w x σ (increased_cell by c).part (val.Num m)
  unfolding strict
  increased_is by (num.Int n) c h e = (_, refl, refl, SFits-int_wrap w32 (n +ℤ by), (val.Num (num.Int n) ∷ val.Num (num.Int by) ∷ [], (val.Num (num.Int n), val.Num (num.Int by) ∷ [], h.is, (val.Num (num.Int by), [], ([], refl, refl), refl, refl), refl), refl))
  increased_is by (num.Long n) c h e = absurd (let z = h.sort in cc)
  increased_is by (num.Ref n) c h e = absurd (let z = h.sort in cc)

  store_goes : (k : ℕ) (s : State) (h g : Held) (n : Num) (c : Cell) → M s h → StackIs w x σ n c → acted_on (act.Store c.sort k) h (c ∷ []) ≡ Some g → Goes s g (option_map next (stored s k n))
  store_goes k s h g n c m i e =
      let room = if_some (has_room c.sort k h.locals) (record h { locals = set_local cell_sort unset k c h.locals }) g e in
      let space : has_room (sort_of n) k s.locals ≡ true = ap (λ (z : Sort). has_room z k s.locals) i.sort ∙ room_as w x σ c.sort k s.locals h.locals m.locals ∙ room.0 in
      let l : LocalIs w x σ (Some n) c = record { sort = inl (sym i.sort); value = val.Num n; is = i.is; told = λ q z. let y : n ≡ q = cc in ap val.Num y; range = λ q z. subst InRange (some_of _ _ z) i.range } in
      goes_to s _ g _ room.1 (record {
        next = record s { at = suc s.at; locals = set_local sort_of_local None k (Some n) s.locals };
        is = ap (λ (b : Bool). option_map next (if b then Some (record s { locals = set_local sort_of_local None k (Some n) s.locals }) else None)) space;
        there = refl;
        matches = record { stack = m.stack; locals = set_local_is w x σ k (Some n) c s.locals h.locals i.sort l m.locals; heap = m.heap; token = m.token; start = m.start };
      })

  increase_goes : (k : ℕ) (by : ℤ) (s : State) (h g : Held) → M s h → acted_on (act.Increase k by) h [] ≡ Some g → Goes s g (done p w s (act.Increase k by) [])
  increase_goes k by s h g m e =
      let c = mapped (λ (c : Cell). record h { locals = slice_set h.locals k (increased_cell by c) }) (local_cell h k sort.Int) g e in
      let f = local_is w x σ k sort.Int s.locals h.locals c.0 m.locals c.1 in
      let i = increased_is by f.num c.0 f.cell f.sort in
      let l : LocalIs w x σ (Some i.0) (increased_cell by c.0) = record { sort = inl (sym i.2); value = val.Num i.0; is = i.4; told = λ q z. let y : i.0 ≡ q = cc in ap val.Num y; range = λ q z. subst InRange (some_of _ _ z) i.3 } in
      goes_to s _ g _ c.2 (record {
        next = record s { at = suc s.at; locals = slice_set s.locals k (Some i.0) };
        is = ap (λ (o : Option Num). option_map (λ n. next (record s { locals = slice_set s.locals k (Some n) })) (o >>= increased by)) f.is
            ∙ ap (option_map (λ n. next (record s { locals = slice_set s.locals k (Some n) }))) i.1;
        there = refl;
        matches = record { stack = m.stack; locals = set_is w x σ k (Some i.0) (increased_cell by c.0) s.locals h.locals l m.locals; heap = m.heap; token = m.token; start = m.start };
      })

  move_goes : (v : Move) (s : State) (h g : Held) → M s h → acted_on (act.Move v) h [] ≡ Some g → Goes s g (done p w s (act.Move v) [])
  move_goes v s h g m e =
      let y = mapped (λ (stack : List Cell). record h { stack = stack }) (moved cell_sort v h.stack) g e in
      let f = lists_found (λ n c. StackIs w x σ n c) (moved sort_of v s.stack) (moved cell_sort v h.stack) y.0 (moved_both (λ n c. StackIs w x σ n c) sort_of cell_sort (λ n c i. i.sort) v s.stack h.stack m.stack) y.1 in
      goes_to s _ g _ y.2 (record {
        next = record s { at = suc s.at; stack = f.0 };
        is = ap (option_map (λ (stack : List Num). next (record s { stack = stack }))) f.1;
        there = refl;
        matches = record { stack = f.2; locals = m.locals; heap = m.heap; token = m.token; start = m.start };
      })

  abbrev Done : State → Action → List Num → Held → Type 0
  Done s a nums g = Goes s g (done p w s a nums)

  literal_is : (text : List ℕ) → PartIs w x σ (Of (op.Literal text) refl NoPart) (val.Num (num.Ref (literal_of w text)))
  unfolding strict
  literal_is text = ([], refl, refl)

  one_cell : (n : Num) (cells : List Cell) → Operands (n ∷ []) cells → (c : Cell) × (cells ≡ c ∷ []) × StackIs w x σ n c
  one_cell n [] h = absurd h
  one_cell n (c ∷ []) h = (c, refl, h.0)
  one_cell n (c ∷ d ∷ cells) h = absurd h.1

  no_cells : (cells : List Cell) → Operands [] cells → cells ≡ []
  no_cells [] h = refl
  no_cells (c ∷ cells) h = absurd h

  -- an action that only goes on, with its operands
  pub simple_goes : (a : Action) (s : State) (h g : Held) (nums : List Num) (cells : List Cell) → IsSimple a → IsClean a → M s h → Operands nums cells → map sort_of nums ≡ takes a → acted_on a h cells ≡ Some g → Done s a nums g
  simple_goes act.Nop s h g nums cells i c m all es e =
      subst (λ (ns : List Num). Done s act.Nop ns g) (sym (no_nums nums es)) (goes_to s h g _ (some_of _ _ e) (record { next = record s { at = suc s.at }; is = refl; there = refl; matches = record { stack = m.stack; locals = m.locals; heap = m.heap; token = m.token; start = m.start } }))
  simple_goes (act.Push n) s h g nums cells i c m all es e = subst (λ (ns : List Num). Done s (act.Push n) ns g) (sym (no_nums nums es)) (goes_to s _ g _ (some_of _ _ e) (pushed_goes s h (sort_of n) (number_part n) n _ m refl (number_range n c) (number_is n c) refl))
  simple_goes (act.Literal text) s h g nums cells i c m all es e =
      subst (λ (ns : List Num). Done s (act.Literal text) ns g) (sym (no_nums nums es)) (goes_to s _ g _ (some_of _ _ e) (pushed_goes s h sort.Ref _ (num.Ref (literal_of w text)) _ m refl tt (literal_is text) refl))
  simple_goes (act.Load t k) s h g nums cells i c m all es e =
      let y = mapped (λ (c : Cell). push h t c.part) (local_cell h k t) g e in
      let f = local_is w x σ k t s.locals h.locals y.0 m.locals y.1 in
      subst (λ (ns : List Num). Done s (act.Load t k) ns g) (sym (no_nums nums es)) (goes_to s _ g _ y.2 (pushed_goes s h t y.0.part f.num _ m (f.cell.sort ∙ f.sort) f.cell.range f.cell.is (ap (option_map (pushes s)) f.is)))
  simple_goes (act.Store t k) s h g nums cells i c m all es e =
      let n = one_num nums t es in
      let d = one_cell n.0 cells (subst (λ (ns : List Num). Operands ns cells) n.1 all) in
      let e' : acted_on (act.Store d.0.sort k) h (d.0 ∷ []) ≡ Some g = ap (acted_on (act.Store d.0.sort k) h) (sym d.1) ∙ e in
      subst (λ (ns : List Num). Done s (act.Store t k) ns g) (sym n.1) (store_goes k s h g n.0 d.0 m d.2 e')
  simple_goes (act.Increase k by) s h g nums cells i c m all es e = subst (λ (ns : List Num). Done s (act.Increase k by) ns g) (sym (no_nums nums es)) (increase_goes k by s h g m e)
  simple_goes (act.Move v) s h g nums cells i c m all es e = subst (λ (ns : List Num). Done s (act.Move v) ns g) (sym (no_nums nums es)) (move_goes v s h g m e)
  simple_goes (act.Scalar o) s h g nums cells i c m all es e =
      let r = computes o nums es in
      goes_to s _ g _ (some_of _ _ e) (scalar_goes s h o nums cells _ m all r.value (scalar_strict o (numbers_of nums) (val.Num r.value) r.graph) r.sort r.range (ap (option_map (pushes s)) r.machine))
  simple_goes (act.GetStatic t f) s h g nums cells i c m all es e =
      let n = shown_gives t (read s.heap (static_place w f)) c.0 in
      subst (λ (ns : List Num). Done s (act.GetStatic t f) ns g) (sym (no_nums nums es)) (goes_to s _ g _ (some_of _ _ e) (pushed_goes s h (sort_of_type t) _ n.value _ m n.sort (shown_range t (read s.heap (static_place w f)) n.value n.is) (static_read s h t f n.value m c.1 n.is) (ap (option_map (pushes s)) n.is)))
  simple_goes (act.PutStatic t f) s h g nums cells i c m all es e =
      let n = one_num nums (sort_of_type t) es in
      let d = one_cell n.0 cells (subst (λ (ns : List Num). Operands ns cells) n.1 all) in
      let k = kept_some t n.0 n.2 in
      let e' : acted_on (act.PutStatic t f) h (d.0 ∷ []) ≡ Some g = ap (acted_on (act.PutStatic t f) h) (sym d.1) ∙ e in
      subst (λ (ns : List Num). Done s (act.PutStatic t f) ns g) (sym n.1) (goes_to s _ g _ (some_of _ _ e') (heap_goes s h _ k.0 _ (static_place w f) m (static_written s h t f n.0 d.0 k.0 m c.1 d.2 k.1) (ap (option_map _) k.1)))
  simple_goes a s h g nums cells i c m all es e = absurd i

  abbrev below : State → List Num → State
  below s stack = record s { stack = stack }

  -- the operands of an action, by the machine and by the block
  pub record Takes (a : Action) (s : State) (h : Held) (q : List Cell × List Cell) : Type 0 where
    pub nums : List Num
    pub stack : List Num
    pub found : popped sort_of (takes a) s.stack ≡ Some (nums, stack)
    pub operands : Operands nums q.0
    pub matches : M (below s stack) (record h { stack = q.1 })
    pub sorts : map sort_of nums ≡ takes a

  pub takes_both : (a : Action) (s : State) (h : Held) (q : List Cell × List Cell) → M s h → popped cell_sort (takes a) h.stack ≡ Some q → Takes a s h q
  takes_both a s h q m e =
      let f = taken_found (λ n c. StackIs w x σ n c) (popped sort_of (takes a) s.stack) (popped cell_sort (takes a) h.stack) q (popped_both (λ n c. StackIs w x σ n c) sort_of cell_sort (λ n c i. i.sort) (takes a) s.stack h.stack m.stack) e in
      record { nums = f.0.0; stack = f.0.1; found = f.1; operands = f.2; matches = record { stack = f.3; locals = m.locals; heap = m.heap; token = m.token; start = m.start }; sorts = popped_sorts sort_of (takes a) s.stack f.0 f.1 }

  -- THE STEP of an action that only goes on
  pub steps_on : (a : Action) (s : State) (h g : Held) → IsSimple a → IsClean a → M s h → acted a h ≡ Some g → Goes s g (performed p w s a)
  steps_on a s h g i c m e = go (popped cell_sort (takes a) h.stack) refl e
    where
      go : (o : Taken Cell) → popped cell_sort (takes a) h.stack ≡ o → (o >>= λ q. acted_on a (record h { stack = q.1 }) q.0) ≡ Some g → Goes s g (performed p w s a)
      go None f e = absurd (cc)
      go (Some q) f e =
          let t = takes_both a s h q m f in
          let r = simple_goes a (below s t.stack) (record h { stack = q.1 }) g t.nums q.0 i c t.matches t.operands t.sorts e in
          record { next = r.next; is = ap (λ (o : Taken Num). o >>= λ z. done p w (record s { stack = z.1 }) a z.0) t.found ∙ r.is; there = r.there; matches = r.matches }
