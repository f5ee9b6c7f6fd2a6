-- What an instruction does in a state whose values have the sorts that it needs.
use Rattle.std.proofs.Common.{◌≡◌, ℕ, ℤ, pos, zero, suc, Bool, true, false, List, [], ◌∷◌, Option, Some, None, ◌∙◌, refl, ap, sym, subst, inl, inr, ◌⊎◌, map, option_map, if◌then◌else◌, slice_set}
use Rattle.pv_machine.proofs.Words.{int_eq, ◌>>=◌, Num, JType, A, Descriptor, Sym, Heap, Loc, Elem, World, Outcome, Returned, Threw, Fault, ScalarOp, read, IsMethodType, IsOfResult, method_type_once, IsWorld, reply, literal_of, shown, element_type, static_place, field_place, Case, Sort, Test, Action, moved, has_room, set_local, sort_of, sort_of_local, sort_of_type, sort_of_word, sort_of_kind, sorts_of_result, test_takes, takes, gives, successors, IsFloatless, Program, Frame, local_holds, frame_done, moved_map, has_room_map, set_local_map, some_of, no_some, if_some}
use Rattle.pv_machine.proofs.Words.{State, Now, running, ended, next, pushes, writes, throws, stored, local, number_of, value_of, increased, computed, divided, tested, branches, target_of, keeps, element_fault, store_fault, unless, called, done, frame_of, Calls}
use Rattle.pv_value.specs.declared.number.Num.TheVariants as num
use Rattle.pv_value.specs.declared.outcome.Fault.TheVariants as fault
use Rattle.pv_value.specs.Operations as operation
use Rattle.pv_value.specs.declared.heap.Kind.TheVariants as kind
use Rattle.pv_types.specs.Facts as types
use Rattle.pv_frame.specs.declared.sort.Sort.TheVariants as sort
use Rattle.pv_frame.specs.declared.action.Test.TheVariants as test
use Rattle.pv_frame.specs.declared.action.Action.TheVariants as act
use Rattle.pv_frame.specs.Frames as frames
use Rattle.pv_machine.proofs.Values.{Gives, computed_gives, value_sort, shown_gives, kept_some, element_sort, of_sort_type, holds_gives, increased_gives, replaced_sorts}

-- ---- what an action says of itself

-- a division has two operands; fields and callees are typed by their descriptors, without floats and doubles, and a receiver is the first parameter
abbrev pub IsSound : Action → Type 0
IsSound (act.Divide o) = (x : operation.Word) × (y : operation.Word) × (operation.takes o ≡ x ∷ y ∷ [])
IsSound (act.GetStatic t f) = IsFloatless t
IsSound (act.PutStatic t f) = IsFloatless t
IsSound (act.GetField t f) = IsFloatless t
IsSound (act.PutField t f) = IsFloatless t
IsSound (act.Call d f) = IsMethodType f.desc d
IsSound (act.CallOn d f) = IsMethodType f.desc d × ((ts : List JType) × (d.params ≡ A ∷ ts))
IsSound _ = Unit {0}

-- ---- how it goes on

abbrev pub Among : ℕ → List ℕ → Type 0
Among j [] = ⊥
Among j (k ∷ ks) = (j ≡ k) ⊎ Among j ks

-- an action goes on with values of the sorts of this frame, ends the method, or is a call that isn't in the table
pub data Result (w : World) (s : State) (a : Action) (nums : List Num) (g : Frame) : Option Now → Type 0 where
  ends : (o : Outcome) → Result w s a nums g (Some (ended o))
  runs : (t : State) → frame_of t ≡ g → Among t.at (successors s.at a) → Result w s a nums g (Some (running t))
  waits : (f : Sym) → Calls a nums f → reply w f s.heap nums ≡ None → Result w s a nums g None

module _ (p : Program) (w : World) (s : State) where
  abbrev Ok : Action → List Num → Frame → Type 0
  Ok a nums g = Result w s a nums g (done p w s a nums)

  -- it goes on to the next place with one more value
  pushes_ok : (a : Action) (nums : List Num) (g : Frame) (t : Sort) (found : Option Num) → successors s.at a ≡ suc s.at ∷ [] → Gives found t → Some (frames.pushed (t ∷ []) (frame_of s)) ≡ Some g →
      Result w s a nums g (option_map (pushes s) found)
  pushes_ok a nums g t found lead gives e =
      let push : (n : Num) → sort_of n ≡ t → Result w s a nums g (Some (pushes s n)) =
      λ n is. runs _ (ap (λ (x : Sort). frames.pushed (x ∷ []) (frame_of s)) is ∙ some_of _ _ e) (subst (Among (suc s.at)) (sym lead) (inl refl)) in
      subst (λ (o : Option Num). Result w s a nums g (option_map (pushes s) o)) (sym gives.is) (push gives.value gives.sort)

  -- or with as many
  next_ok : (a : Action) (nums : List Num) (g : Frame) (t : State) → t.at ≡ s.at → successors s.at a ≡ suc s.at ∷ [] → frame_of t ≡ g → Result w s a nums g (Some (next t))
  next_ok a nums g t here lead e = runs _ e (subst (Among (suc t.at)) (sym lead) (inl (ap suc here)))

  writes_ok : (a : Action) (nums : List Num) (g : Frame) (t : JType) (at : Loc) (n : Num) → successors s.at a ≡ suc s.at ∷ [] → sort_of n ≡ sort_of_type t → Some (frame_of s) ≡ Some g →
      Result w s a nums g (keeps s t at n)
  writes_ok a nums g t at n lead is e =
      let k = kept_some t n is in
      subst (λ (o : Option ℤ). Result w s a nums g (option_map (writes s at) o)) (sym k.1) (next_ok a nums g _ refl lead (some_of _ _ e))

  unless_ok : (a : Action) (nums : List Num) (g : Frame) (f : Option Fault) (now : Option Now) → Result w s a nums g now → Result w s a nums g (unless s f now)
  unless_ok a nums g (Some f) now h = ends _
  unless_ok a nums g None now h = h

  store_ok : (a : Action) (nums : List Num) (g : Frame) (k : ℕ) (n : Num) → successors s.at a ≡ suc s.at ∷ [] → frame_done (act.Store (sort_of n) k) (frame_of s) ≡ Some g → Result w s a nums g (option_map next (stored s k n))
  store_ok a nums g k n lead e =
      let found = if_some (has_room (sort_of n) k (map sort_of_local s.locals)) _ g e in
      let room : has_room (sort_of n) k s.locals ≡ true = sym (has_room_map sort_of_local (sort_of n) k s.locals) ∙ found.0 in
      let there : State = record s { locals = set_local sort_of_local None k (Some n) s.locals } in
      let sorts : frame_of there ≡ g = ap (λ (l : List Sort). record { stack = map sort_of s.stack; locals = l }) (sym (set_local_map sort_of_local None k (Some n) s.locals)) ∙ found.1 in
      subst (λ (b : Bool). Result w s a nums g (option_map next (if b then Some there else None))) (sym room) (next_ok a nums g there refl lead sorts)

  increase_ok : (a : Action) (nums : List Num) (g : Frame) (k : ℕ) (by : ℤ) → successors s.at a ≡ suc s.at ∷ [] → frame_done (act.Increase k by) (frame_of s) ≡ Some g →
      Result w s a nums g (option_map (λ n. next (record s { locals = slice_set s.locals k (Some n) })) (local s k sort.Int >>= increased by))
  increase_ok a nums g k by lead e =
      let found = if_some (local_holds (frame_of s) k sort.Int) (frame_of s) g e in
      let gives = increased_gives by (local s k sort.Int) (holds_gives s.locals k sort.Int found.0) in
      let there : State = record s { locals = slice_set s.locals k (Some gives.value) } in
      let sorts : frame_of there ≡ g = ap (λ (l : List Sort). record { stack = map sort_of s.stack; locals = l }) (replaced_sorts s.locals k sort.Int gives.value found.0 gives.sort) ∙ found.1 in
      subst (λ (o : Option Num). Result w s a nums g (option_map (λ n. next (record s { locals = slice_set s.locals k (Some n) })) o)) (sym gives.is) (next_ok a nums g there refl lead sorts)

  move_ok : (a : Action) (nums : List Num) (g : Frame) (o : Option (List Num)) → successors s.at a ≡ suc s.at ∷ [] →
      option_map (λ (stack : List Sort). record { stack = stack; locals = map sort_of_local s.locals }) (option_map (map sort_of) o) ≡ Some g → Result w s a nums g (option_map (λ stack. next (record s { stack = stack })) o)
  move_ok a nums g None lead e = no_some g e
  move_ok a nums g (Some stack) lead e = next_ok a nums g (record s { stack = stack }) refl lead (some_of _ _ e)

  divide_ok : (o : ScalarOp) (nums : List Num) (g : Frame) (x y : operation.Word) → map sort_of nums ≡ sort_of_word x ∷ sort_of_word y ∷ [] → Some (frames.pushed (sort_of_word (operation.gives o) ∷ []) (frame_of s)) ≡ Some g →
      Result w s (act.Divide o) nums g (divided s o nums)
  divide_ok o [] g x y es e = absurd (cc)
  divide_ok o (a ∷ []) g x y es e = absurd (cc)
  divide_ok o (a ∷ b ∷ []) g x y es e =
      elim (int_eq (number_of b) (pos 0)) as (λ z. Result w s (act.Divide o) (a ∷ b ∷ []) g (Some (if z then throws s fault.Arith else pushes s (value_of o (number_of a) (number_of b))))) [
        | true ↦ ends _
        | false ↦ pushes_ok (act.Divide o) (a ∷ b ∷ []) g (sort_of_word (operation.gives o)) (Some (value_of o (number_of a) (number_of b))) refl (record { value = _; is = refl; sort = value_sort o _ _ }) e
      ]
  divide_ok o (a ∷ b ∷ c ∷ nums) g x y es e = absurd (cc)

  branch_ok : (t : Test) (target : ℕ) (nums : List Num) (g : Frame) (b : Bool) → Some (frame_of s) ≡ Some g → Result w s (act.Branch t target) nums g (Some (branches s target b))
  branch_ok t target nums g true e = runs _ (some_of _ _ e) (inl refl)
  branch_ok t target nums g false e = runs _ (some_of _ _ e) (inr (inl refl))

  returned_ok : (a : Action) (nums : List Num) (g : Frame) (t : Option JType) (r : Option Num) (h : Heap) → successors s.at a ≡ suc s.at ∷ [] → IsOfResult t r → Some (frames.pushed (sorts_of_result t) (frame_of s)) ≡ Some g →
      Result w s a nums g (Some (called s (Returned r h)))
  returned_ok a nums g None None h lead is e = next_ok a nums g (record s { heap = h }) refl lead (some_of _ _ e)
  returned_ok a nums g None (Some n) h lead is e = elim is [ ]
  returned_ok a nums g (Some t) None h lead is e = elim is [ ]
  returned_ok a nums g (Some t) (Some n) h lead is e =
      next_ok a nums g (record s { stack = n ∷ s.stack; heap = h }) refl lead (ap (λ (x : Sort). frames.pushed (x ∷ []) (frame_of s)) (of_sort_type t n is) ∙ some_of _ _ e)

  -- a call under a symbol, by its reply
  call_ok : (a : Action) (d : Descriptor) (f : Sym) (nums : List Num) (g : Frame) (o : Option Outcome) → successors s.at a ≡ suc s.at ∷ [] → Calls a nums f → IsMethodType f.desc d → IsWorld w →
      reply w f s.heap nums ≡ o → Some (frames.pushed (sorts_of_result d.result) (frame_of s)) ≡ Some g → Result w s a nums g (option_map (called s) o)
  call_ok a d f nums g None lead calls typed world is e = waits f calls is
  call_ok a d f nums g (Some (Threw x h)) lead calls typed world is e = ends _
  call_ok a d f nums g (Some (Returned r h)) lead calls typed world is e =
      let answered = (world.calls _ (Returned r h) is).reply in
      let same_type : answered.0.0 ≡ d = method_type_once f.desc answered.0.0 d answered.0.1 typed in
      returned_ok a nums g d.result r h lead (subst (λ (x : Descriptor). IsOfResult x.result r) same_type answered.0.2) e

-- ---- the operands of an action

as_ref : (n : Num) → sort_of n ≡ sort.Ref → (r : ℕ) × (n ≡ num.Ref r)
as_ref (num.Ref r) e = (r, refl)
as_ref (num.Int r) e = absurd (cc)
as_ref (num.Long r) e = absurd (cc)

as_int : (n : Num) → sort_of n ≡ sort.Int → (i : ℤ) × (n ≡ num.Int i)
as_int (num.Int i) e = (i, refl)
as_int (num.Ref r) e = absurd (cc)
as_int (num.Long r) e = absurd (cc)

pub no_nums : (nums : List Num) → map sort_of nums ≡ [] → nums ≡ []
no_nums [] e = refl
no_nums (n ∷ nums) e = absurd (cc)

pub one_num : (nums : List Num) (t : Sort) → map sort_of nums ≡ t ∷ [] → (n : Num) × (nums ≡ n ∷ []) × (sort_of n ≡ t)
one_num [] t e = absurd (cc)
one_num (n ∷ []) t e = (n, refl, cc)
one_num (n ∷ m ∷ nums) t e = absurd (cc)

pub one_ref : (nums : List Num) → map sort_of nums ≡ sort.Ref ∷ [] → (r : ℕ) × (nums ≡ num.Ref r ∷ [])
one_ref nums e = let x = one_num nums sort.Ref e in let y = as_ref x.0 x.2 in (y.0, x.1 ∙ ap (λ (n : Num). n ∷ []) y.1)

one_int : (nums : List Num) → map sort_of nums ≡ sort.Int ∷ [] → (i : ℤ) × (nums ≡ num.Int i ∷ [])
one_int nums e = let x = one_num nums sort.Int e in let y = as_int x.0 x.2 in (y.0, x.1 ∙ ap (λ (n : Num). n ∷ []) y.1)

first_num : (nums : List Num) (t : Sort) (ts : List Sort) → map sort_of nums ≡ t ∷ ts → (n : Num) × (rest : List Num) × (nums ≡ n ∷ rest) × (sort_of n ≡ t) × (map sort_of rest ≡ ts)
first_num [] t ts e = absurd (cc)
first_num (n ∷ nums) t ts e = (n, nums, refl, cc, cc)

ref_and : (nums : List Num) (t : Sort) → map sort_of nums ≡ sort.Ref ∷ t ∷ [] → (r : ℕ) × (n : Num) × (nums ≡ num.Ref r ∷ n ∷ []) × (sort_of n ≡ t)
ref_and nums t e =
    let x = first_num nums sort.Ref (t ∷ []) e in
    let r = as_ref x.0 x.3 in
    let y = one_num x.1 t x.4 in
    (r.0, y.0, x.2 ∙ cc (r.1, y.1), y.2)

ref_int : (nums : List Num) → map sort_of nums ≡ sort.Ref ∷ sort.Int ∷ [] → (r : ℕ) × (i : ℤ) × (nums ≡ num.Ref r ∷ num.Int i ∷ [])
ref_int nums e =
    let x = ref_and nums sort.Int e in
    let i = as_int x.1 x.3 in
    (x.0, i.0, x.2 ∙ ap (λ (n : Num). num.Ref x.0 ∷ n ∷ []) i.1)

ref_int_and : (nums : List Num) (t : Sort) → map sort_of nums ≡ sort.Ref ∷ sort.Int ∷ t ∷ [] → (r : ℕ) × (i : ℤ) × (n : Num) × (nums ≡ num.Ref r ∷ num.Int i ∷ n ∷ []) × (sort_of n ≡ t)
ref_int_and nums t e =
    let x = first_num nums sort.Ref (sort.Int ∷ t ∷ []) e in
    let r = as_ref x.0 x.3 in
    let y = first_num x.1 sort.Int (t ∷ []) x.4 in
    let i = as_int y.0 y.3 in
    let z = one_num y.1 t y.4 in
    (r.0, i.0, z.0, x.2 ∙ cc (r.1, y.2, i.1, z.1), z.2)

tested_some : (t : Test) (nums : List Num) → map sort_of nums ≡ test_takes t → (b : Bool) × (tested t nums ≡ Some b)
tested_some (test.Zero c) (num.Int a ∷ []) e = (_, refl)
tested_some (test.Ints c) (num.Int a ∷ num.Int b ∷ []) e = (_, refl)
tested_some test.Same (num.Ref a ∷ num.Ref b ∷ []) e = (_, refl)
tested_some test.Other (num.Ref a ∷ num.Ref b ∷ []) e = (_, refl)
tested_some test.Null (num.Ref a ∷ []) e = (_, refl)
tested_some test.NonNull (num.Ref a ∷ []) e = (_, refl)
tested_some t nums e = absurd (cc)

target_among : (default : ℕ) (cases : List Case) (n : ℤ) → Among (target_of default cases n) (default ∷ map (λ c. c.target) cases)
target_among default [] n = inl refl
target_among default (c ∷ cases) n =
    elim (int_eq c.key n) as (λ b. Among (if b then c.target else target_of default cases n) (default ∷ c.target ∷ map (λ c. c.target) cases)) [
      | true ↦ inr (inl refl)
      | false ↦ elim (target_among default cases n) [ inl e ↦ inl e | inr e ↦ inr (inr e) ]
    ]

-- ---- an action with its operands

module _ (p : Program) (w : World) (world : IsWorld w) (s : State) where
  field_ok : (t : JType) (f : Sym) (g : Frame) (r : ℕ) → IsFloatless t → frame_done (act.GetField t f) (frame_of s) ≡ Some g → Ok p w s (act.GetField t f) (num.Ref r ∷ []) g
  field_ok t f g zero sound e = ends _
  field_ok t f g (suc r) sound e = pushes_ok p w s (act.GetField t f) _ g (sort_of_type t) (shown t (read s.heap (field_place w (suc r) f))) refl (shown_gives t _ sound) e

  put_ok : (t : JType) (f : Sym) (g : Frame) (r : ℕ) (n : Num) → sort_of n ≡ sort_of_type t → frame_done (act.PutField t f) (frame_of s) ≡ Some g → Ok p w s (act.PutField t f) (num.Ref r ∷ n ∷ []) g
  put_ok t f g zero n is e = ends _
  put_ok t f g (suc r) n is e = writes_ok p w s (act.PutField t f) _ g t (field_place w (suc r) f) n refl is e

  length_ok : (g : Frame) (r : ℕ) → frame_done act.Length (frame_of s) ≡ Some g → Ok p w s act.Length (num.Ref r ∷ []) g
  length_ok g zero e = ends _
  length_ok g (suc r) e = pushes_ok p w s act.Length _ g sort.Int (Some _) refl (record { value = _; is = refl; sort = refl }) e

  cast_ok : (class : List ℕ) (g : Frame) (r : ℕ) → frame_done (act.Cast class) (frame_of s) ≡ Some g → Ok p w s (act.Cast class) (num.Ref r ∷ []) g
  cast_ok class g zero e = pushes_ok p w s (act.Cast class) _ g sort.Ref (Some (num.Ref 0)) refl (record { value = _; is = refl; sort = refl }) e
  cast_ok class g (suc r) e =
      elim (types.is w s.heap0 class (suc r)) as
      (λ b. Result w s (act.Cast class) (num.Ref (suc r) ∷ []) g (Some (if b then pushes s (num.Ref (suc r)) else throws s (fault.Thrown (literal_of w types.cast_text))))) [
        | true ↦ pushes_ok p w s (act.Cast class) _ g sort.Ref (Some (num.Ref (suc r))) refl (record { value = _; is = refl; sort = refl }) e
        | false ↦ ends _
      ]

  instance_ok : (class : List ℕ) (g : Frame) (r : ℕ) → frame_done (act.InstanceOf class) (frame_of s) ≡ Some g → Ok p w s (act.InstanceOf class) (num.Ref r ∷ []) g
  instance_ok class g zero e = pushes_ok p w s (act.InstanceOf class) _ g sort.Int (Some (num.Int (pos 0))) refl (record { value = _; is = refl; sort = refl }) e
  instance_ok class g (suc r) e = pushes_ok p w s (act.InstanceOf class) _ g sort.Int (Some _) refl (record { value = _; is = refl; sort = refl }) e

  call_on_ok : (d : Descriptor) (f : Sym) (g : Frame) (r : ℕ) (args : List Num) → IsMethodType f.desc d → frame_done (act.CallOn d f) (frame_of s) ≡ Some g → Ok p w s (act.CallOn d f) (num.Ref r ∷ args) g
  call_on_ok d f g zero args typed e = ends _
  call_on_ok d f g (suc r) args typed e = call_ok p w s (act.CallOn d f) d f (num.Ref (suc r) ∷ args) g (reply w f s.heap (num.Ref (suc r) ∷ args)) refl refl typed world refl e

  abbrev At : (a : Action) (g : Frame) → List Num → Type 0
  At a g nums = Ok p w s a nums g

  pub done_ok : (a : Action) (nums : List Num) (g : Frame) → IsSound a → map sort_of nums ≡ takes a → frame_done a (frame_of s) ≡ Some g → Ok p w s a nums g
  done_ok act.Nop nums g sound es e = subst (At act.Nop g) (sym (no_nums nums es)) (next_ok p w s act.Nop [] g s refl refl (some_of _ _ e))
  done_ok (act.Push n) nums g sound es e = subst (At (act.Push n) g) (sym (no_nums nums es)) (pushes_ok p w s (act.Push n) [] g (sort_of n) (Some n) refl (record { value = _; is = refl; sort = refl }) e)
  done_ok (act.Literal text) nums g sound es e = subst (At (act.Literal text) g) (sym (no_nums nums es)) (pushes_ok p w s (act.Literal text) [] g sort.Ref (Some _) refl (record { value = _; is = refl; sort = refl }) e)
  done_ok (act.Load t k) nums g sound es e =
      let found = if_some (local_holds (frame_of s) k t) (frames.pushed (t ∷ []) (frame_of s)) g e in
      subst (At (act.Load t k) g) (sym (no_nums nums es)) (pushes_ok p w s (act.Load t k) [] g t (local s k t) refl (holds_gives s.locals k t found.0) (ap Some found.1))
  done_ok (act.Store t k) nums g sound es e =
      let x = one_num nums t es in
      subst (At (act.Store t k) g) (sym x.1) (store_ok p w s (act.Store t k) (x.0 ∷ []) g k x.0 refl (ap (λ (u : Sort). frame_done (act.Store u k) (frame_of s)) x.2 ∙ e))
  done_ok (act.Increase k by) nums g sound es e = subst (At (act.Increase k by) g) (sym (no_nums nums es)) (increase_ok p w s (act.Increase k by) [] g k by refl e)
  done_ok (act.Move m) nums g sound es e =
      let by_value = ap (option_map (λ (stack : List Sort). record { stack = stack; locals = map sort_of_local s.locals })) (sym (moved_map sort_of m s.stack)) ∙ e in
      subst (At (act.Move m) g) (sym (no_nums nums es)) (move_ok p w s (act.Move m) [] g (moved sort_of m s.stack) refl by_value)
  done_ok (act.Scalar o) nums g sound es e = pushes_ok p w s (act.Scalar o) nums g (sort_of_word (operation.gives o)) (computed o nums) refl (computed_gives o nums es) e
  done_ok (act.Divide o) nums g sound es e = divide_ok p w s o nums g sound.0 sound.1 (es ∙ ap (map sort_of_word) sound.2) e
  done_ok (act.Branch t target) nums g sound es e =
      let b = tested_some t nums es in
      subst (λ (x : Option Bool). Result w s (act.Branch t target) nums g (option_map (branches s target) x)) (sym b.1) (branch_ok p w s t target nums g b.0 e)
  done_ok (act.Jump target) nums g sound es e = subst (At (act.Jump target) g) (sym (no_nums nums es)) (runs _ (some_of _ _ e) (inl refl))
  done_ok (act.Switch default cases) nums g sound es e =
      let i = one_int nums es in
      subst (At (act.Switch default cases) g) (sym i.1) (runs _ (some_of _ _ e) (target_among default cases i.0))
  done_ok (act.Give t) nums g sound es e = no_some g e
  done_ok act.Throw nums g sound es e = no_some g e
  done_ok (act.GetStatic t f) nums g sound es e =
      subst (At (act.GetStatic t f) g) (sym (no_nums nums es)) (pushes_ok p w s (act.GetStatic t f) [] g (sort_of_type t) (shown t (read s.heap (static_place w f))) refl (shown_gives t _ sound) e)
  done_ok (act.PutStatic t f) nums g sound es e =
      let x = one_num nums (sort_of_type t) es in
      subst (At (act.PutStatic t f) g) (sym x.1) (writes_ok p w s (act.PutStatic t f) (x.0 ∷ []) g t (static_place w f) x.0 refl x.2 e)
  done_ok (act.GetField t f) nums g sound es e = let r = one_ref nums es in subst (At (act.GetField t f) g) (sym r.1) (field_ok t f g r.0 sound e)
  done_ok (act.PutField t f) nums g sound es e = let x = ref_and nums (sort_of_type t) es in subst (At (act.PutField t f) g) (sym x.2) (put_ok t f g x.0 x.1 x.3 e)
  done_ok (act.LoadElement k) nums g sound es e =
      let x = ref_int nums es in
      let typed = element_sort w k x.0 in
      let gives = subst (Gives (shown (element_type w k x.0) (read s.heap (Elem k x.0 x.1)))) typed.0 (shown_gives (element_type w k x.0) _ typed.1) in
      subst (At (act.LoadElement k) g) (sym x.2) (unless_ok p w s (act.LoadElement k) _ g (element_fault w x.0 x.1) _ (pushes_ok p w s (act.LoadElement k) _ g (sort_of_kind k) _ refl gives e))
  done_ok (act.StoreElement k) nums g sound es e =
      let x = ref_int_and nums (sort_of_kind k) es in
      let typed = element_sort w k x.0 in
      subst (At (act.StoreElement k) g) (sym x.3) (unless_ok p w s (act.StoreElement k) _ g (element_fault w x.0 x.1) _ (writes_ok p w s (act.StoreElement k) _ g (element_type w k x.0) (Elem k x.0 x.1) x.2 refl (x.4 ∙ sym typed.0) e))
  done_ok act.StoreRef nums g sound es e =
      let x = ref_int_and nums sort.Ref es in
      let v = as_ref x.2 x.4 in
      let typed = element_sort w kind.Ref x.0 in
      let write = writes_ok p w s act.StoreRef _ g (element_type w kind.Ref x.0) (Elem kind.Ref x.0 x.1) (num.Ref v.0) refl (sym typed.0) e in
      subst (At act.StoreRef g) (sym (x.3 ∙ ap (λ (n : Num). num.Ref x.0 ∷ num.Int x.1 ∷ n ∷ []) v.1))
      (unless_ok p w s act.StoreRef _ g (element_fault w x.0 x.1) _ (unless_ok p w s act.StoreRef _ g (store_fault w s.heap0 x.0 v.0) _ write))
  done_ok (act.Cast class) nums g sound es e = let r = one_ref nums es in subst (At (act.Cast class) g) (sym r.1) (cast_ok class g r.0 e)
  done_ok (act.InstanceOf class) nums g sound es e = let r = one_ref nums es in subst (At (act.InstanceOf class) g) (sym r.1) (instance_ok class g r.0 e)
  done_ok act.Length nums g sound es e = let r = one_ref nums es in subst (At act.Length g) (sym r.1) (length_ok g r.0 e)
  done_ok (act.Call d f) nums g sound es e = call_ok p w s (act.Call d f) d f nums g (reply w f s.heap nums) refl refl sound world refl e
  done_ok (act.CallOn d f) nums g sound es e =
      let x = first_num nums sort.Ref (map sort_of_type sound.1.0) (es ∙ ap (map sort_of_type) sound.1.1) in
      let r = as_ref x.0 x.3 in
      subst (At (act.CallOn d f) g) (sym (x.2 ∙ ap (λ (n : Num). n ∷ x.1) r.1)) (call_on_ok d f g r.0 x.1 sound.0 e)
