-- What a call does at the end of a block.
use Rattle.std.proofs.Common.{◌≡◌, ℕ, suc, true, false, List, [], ◌∷◌, Option, Some, None, refl, ap, sym, subst, ◌∙◌}
use Rattle.pv_outcomes.proofs.Words.{option_map, Num, Sym, Heap, JType, Descriptor, World, Input, Fault, Outcome, Returned, Threw, Val, bind, method_type, method_type_once, method_spelled, IsMethodType, IsOfResult, IsWorld, sort_of_type, Program, State, called, of_sort_type, reply_result, result_part, Part, Of, NoPart, More, call_token, Throw, Chain, Leave, PartIs, PartsAre, Waits, Cell, Held, call_parts, after_call, with_result, StackIs, to, throw, fault_part, unless_thrown}
use Rattle.pv_value.specs.declared.outcome.Fault.TheVariants as fault
use Rattle.pv_value.specs.declared.outcome.Val.TheVariants as val
use Rattle.pv_value.specs.Worlds as worlds
use Rattle.pv_graph.specs.declared.node.Op.TheVariants as op
use Rattle.pv_denote.specs.Denote.{strict, end_part, fault_part as fault_of_reply, heap_part, over_call}
use Rattle.pv_outcomes.proofs.Ranges.{sort_range}
use Rattle.pv_outcomes.proofs.Once.{parts_once}
use Rattle.pv_outcomes.proofs.Values.{numbers_of, numbers_back, parts_are}
use Rattle.pv_outcomes.proofs.Acts.{M, Operands}
use Rattle.pv_outcomes.proofs.Lasts.{Leaves, comes, waits, thrown}
use Rattle.pv_outcomes.proofs.Tests.{Tests, yes, no, clear_tests}

module _ (p : Program) (w : World) (x : Input) (σ : ℕ → Val) (world : IsWorld w) (unit : σ 0 ≡ val.Unit) (s : State) (h : Held) (f : Sym) (d : Descriptor) (nums : List Num) (cells : List Cell)
    (m : M p w x σ s h) (all : Operands p w x σ nums cells) where
  vs : List Val
  vs = val.Heap s.heap ∷ numbers_of nums

  args : PartsAre w x σ (call_parts h cells) (val.Heap s.heap ∷ numbers_of nums)
  args = (val.Heap s.heap, numbers_of nums, m.heap, parts_are w x σ nums cells all, refl)

  over_is : (part : Option Outcome → Heap → Option Val) (o : Option Outcome) → worlds.reply w f s.heap nums ≡ o → over_call w f part (val.Heap s.heap ∷ numbers_of nums) ≡ part o s.heap
  over_is part o e = ap (λ (ns : Option (List Num)). bind ns (λ args. part (worlds.reply w f s.heap args) s.heap)) (numbers_back nums) ∙ ap (λ (r : Option Outcome). part r s.heap) e

  ends_is : (o : Option Outcome) → worlds.reply w f s.heap nums ≡ o → strict w x (op.CallEnd f) (val.Heap s.heap ∷ numbers_of nums) ≡ end_part o s.heap
  unfolding strict
  ends_is o e = over_is end_part o e

  heap_is : (o : Option Outcome) → worlds.reply w f s.heap nums ≡ o → strict w x (op.CallHeap f) (val.Heap s.heap ∷ numbers_of nums) ≡ heap_part o s.heap
  unfolding strict
  heap_is o e = over_is heap_part o e

  fault_is : (o : Option Outcome) → worlds.reply w f s.heap nums ≡ o → strict w x (op.CallFault f) (val.Heap s.heap ∷ numbers_of nums) ≡ fault_of_reply o s.heap
  unfolding strict
  fault_is o e = over_is fault_of_reply o e

  result_is : (o : Option Outcome) → worlds.reply w f s.heap nums ≡ o → strict w x (op.CallRes f) (val.Heap s.heap ∷ numbers_of nums) ≡ result_part f o s.heap
  unfolding strict
  result_is o e = over_is (result_part f) o e

  token_is : (o : Outcome) → worlds.reply w f s.heap nums ≡ Some o → PartIs w x σ (call_token f (call_parts h cells)) val.Unit
  unfolding strict
  token_is o e = (val.Unit ∷ val.Unit ∷ [], (val.Unit, val.Unit ∷ [], unit, (val.Unit, [], (val.Heap s.heap ∷ numbers_of nums, args, over_is end_part (Some o) e), refl, refl), refl), refl)

  -- without a reply no exit has a token
  no_token : worlds.reply w f s.heap nums ≡ None → (u : Val) → PartIs w x σ (call_token f (call_parts h cells)) u → ⊥
  no_token e u t =
      let y = t.1.3.2 in
      let same = parts_once w x σ (call_parts h cells) y.0 (val.Heap s.heap ∷ numbers_of nums) y.1 args in
      let z : strict w x (op.CallEnd f) (val.Heap s.heap ∷ numbers_of nums) ≡ Some t.1.3.0 = ap (λ (us : List Val). strict w x (op.CallEnd f) us) (sym same) ∙ y.2 in
      let k : None ≡ Some t.1.3.0 = sym (ends_is None e) ∙ z in
      absurd (cc)

  next_token : (r : Option JType) → (with_result h f cells r).token ≡ call_token f (call_parts h cells)
  next_token None = refl
  next_token (Some t) = refl

  abbrev chain : Option JType → Chain
  chain r = unless_thrown f h cells (to (suc s.at) (with_result h f cells r))

  waiting : (r : Option JType) → worlds.reply w f s.heap nums ≡ None → Waits w x σ (chain r)
  waiting r n = ((λ u t. absurd (no_token n u (subst (λ (q : Part). PartIs w x σ q u) (next_token r) t))), ((Throw, refl), (λ u t. no_token n u t)))

  fault_part_is : (o : Outcome) (e : Fault) → worlds.reply w f s.heap nums ≡ Some o → fault_of_reply (Some o) s.heap ≡ Some (val.Fault e) → PartIs w x σ (fault_part f h cells) (val.Fault e)
  fault_part_is o e r z = (val.Heap s.heap ∷ numbers_of nums, args, fault_is (Some o) r ∙ z)

  after_matches : (o : Outcome) (g : Heap) → worlds.reply w f s.heap nums ≡ Some o → heap_part (Some o) s.heap ≡ Some (val.Heap g) → M p w x σ (record s { heap = g }) (after_call h f cells)
  after_matches o g r z = record { stack = m.stack; locals = m.locals; heap = (val.Heap s.heap ∷ numbers_of nums, args, heap_is (Some o) r ∙ z); token = token_is o r; start = m.start }

  clear_says : (o : Outcome) → worlds.reply w f s.heap nums ≡ Some o → fault_of_reply (Some o) s.heap ≡ Some (val.Fault fault.Clear) → Tests w x σ (Of op.IsClear refl (More (fault_part f h cells) NoPart)) true
  clear_says o r z = clear_tests w x σ (fault_part f h cells) fault.Clear true (fault_part_is o fault.Clear r z) refl

  returned : (r : Option JType) (n : Option Num) (g : Heap) → d.result ≡ r → method_type f.desc ≡ Some d → worlds.reply w f s.heap nums ≡ Some (Returned n g) → IsOfResult r n → Leaves p w x σ (chain r) (Some (called s (Returned n g)))
  returned None None g is typed e i =
      let a = after_matches (Returned None g) g e refl in
      comes (suc s.at) (after_call h f cells) (record s { at = suc s.at; heap = g }) (yes w x σ (Of op.IsClear refl (More (fault_part f h cells) NoPart)) (to (suc s.at) (after_call h f cells)) (Leave (throw (fault_part f h cells) (after_call h f cells))) (clear_says (Returned None g) e refl)) refl
      (record { stack = a.stack; locals = a.locals; heap = a.heap; token = a.token; start = a.start })
  returned (Some t) (Some n) g is typed e i =
      let a = after_matches (Returned (Some n) g) g e refl in
      let given : result_part f (Some (Returned (Some n) g)) s.heap ≡ Some (val.Num n) =
      ap (λ (o : Option Descriptor). bind o (λ d. bind d.result (λ t. Some (val.Num (reply_result t (Some (Returned (Some n) g))))))) typed ∙ ap (λ (o : Option JType). bind o (λ t. Some (val.Num (reply_result t (Some (Returned (Some n) g)))))) is in
      let c : StackIs w x σ n (record { sort = sort_of_type t; part = Of (op.CallRes f) refl (call_parts h cells) }) =
      record { sort = of_sort_type t n i; range = sort_range t n i; is = (val.Heap s.heap ∷ numbers_of nums, args, result_is (Some (Returned (Some n) g)) e ∙ given) } in
      comes (suc s.at) (with_result h f cells (Some t)) (record s { at = suc s.at; heap = g; stack = n ∷ s.stack }) (yes w x σ (Of op.IsClear refl (More (fault_part f h cells) NoPart)) (to (suc s.at) (with_result h f cells (Some t))) (Leave (throw (fault_part f h cells) (after_call h f cells))) (clear_says (Returned (Some n) g) e refl)) refl
      (record { stack = (c, a.stack); locals = a.locals; heap = a.heap; token = a.token; start = a.start })
  returned None (Some n) g is typed e i = absurd i
  returned (Some t) None g is typed e i = absurd i

  threw : (r : Option JType) (q : ℕ) (g : Heap) → worlds.reply w f s.heap nums ≡ Some (Threw (fault.Thrown q) g) → Leaves p w x σ (chain r) (Some (called s (Threw (fault.Thrown q) g)))
  threw r q g e =
      let i = fault_part_is (Threw (fault.Thrown q) g) (fault.Thrown q) e refl in
      thrown p w x σ (chain r) (record s { heap = g }) (after_call h f cells) (fault_part f h cells) (fault.Thrown q) (after_matches (Threw (fault.Thrown q) g) g e refl) i (λ z. absurd (cc))
      (no w x σ (Of op.IsClear refl (More (fault_part f h cells) NoPart)) (to (suc s.at) (with_result h f cells r)) (throw (fault_part f h cells) (after_call h f cells)) (Leave (throw (fault_part f h cells) (after_call h f cells)))
      (clear_tests w x σ (fault_part f h cells) (fault.Thrown q) false i refl) refl)

  pub call_leaves : IsMethodType f.desc d → (o : Option Outcome) → worlds.reply w f s.heap nums ≡ o → Leaves p w x σ (chain d.result) (option_map (called s) o)
  call_leaves typed None e = waits (waiting d.result e)
  call_leaves typed (Some (Returned n g)) e =
      let told = (world.calls _ (Returned n g) e).reply in
      let same : told.0.0 ≡ d = method_type_once f.desc told.0.0 d told.0.1 typed in
      returned d.result n g refl ((method_spelled f.desc d).1 typed) e (subst (λ (q : Descriptor). IsOfResult q.result n) same told.0.2)
  call_leaves typed (Some (Threw (fault.Thrown q) g)) e = threw d.result q g e
  call_leaves typed (Some (Threw y g)) e = absurd ((world.calls _ (Threw y g) e).reply)
