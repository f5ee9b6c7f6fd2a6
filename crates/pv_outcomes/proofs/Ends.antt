-- The last action of a block, whatever it is.
use Rattle.std.proofs.Common.{◌≡◌, ℕ, zero, suc, ℤ, pos, Bool, false, List, [], ◌∷◌, Option, Some, None, refl, ap, sym, subst, ◌∙◌, lit<, lit≤, if◌then◌else◌}
use Rattle.pv_outcomes.proofs.Words.{map, option_map, w8, w16, w32, int_wrap, SFits-int_wrap, ◌>>=◌, Num, Sym, Elem, JType, Descriptor, ScalarOp, I2b, I2c, I2s, World, Input, Returned, Val, scalar_exact, read, written, IsWorld, shown, kept, as_type, field_place, element_type, Sort, Action, Taken, popped, sort_of, sort_of_type, sort_of_word, sort_of_kind, sorts_of_result, takes, Program, some_of, State, Now, ended, next, pushes, branches, given, done, performed, Gives, shown_gives, kept_some, element_sort, as_type_gives, no_nums, wider, low_fits, Part, Of, NoPart, More, Exit, Chain, Leave, PartIs, Cell, Held, cell_sort, unit_part, null_part, acted_on, with_result, IsClean, EndsWell, InRange, to, throw, give, aeq, is_zero, test_part, branch, narrowed_part, unless_thrown, unless_null, within, unless_other, asks_class, stores_ref, chain_with, given_chain, last_chain, ends_method, chain_of, IsSimple, bound}
use Rattle.pv_value.specs.declared.number.Num.TheVariants as num
use Rattle.pv_value.specs.declared.heap.Kind.{Kind as ElementKind}
use Rattle.pv_value.specs.declared.heap.Kind.TheVariants as kind
use Rattle.pv_value.specs.declared.descriptor.JType.TheVariants as jtype
use Rattle.pv_value.specs.declared.outcome.Fault.TheVariants as fault
use Rattle.pv_value.specs.declared.outcome.Val.TheVariants as val
use Rattle.pv_value.specs.Operations as operation
use Rattle.pv_value.specs.Worlds as worlds
use Rattle.pv_frame.specs.declared.sort.Sort.TheVariants as sort
use Rattle.pv_frame.specs.declared.action.Test.{Test}
use Rattle.pv_frame.specs.declared.action.Action.TheVariants as act
use Rattle.pv_graph.specs.declared.node.Op.TheVariants as op
use Rattle.pv_denote.specs.Denote.{strict}
use Rattle.pv_equations.specs.Flow as flow
use Rattle.pv_outcomes.proofs.Ranges.{shown_range, length_range, boolean_is}
use Rattle.pv_outcomes.proofs.Acts.{M, Operands, takes_both, simple_goes, pushed_goes, heap_goes}
use Rattle.pv_outcomes.proofs.Tests.{yes, no, same_test, suc_not_zero, null_tests, branch_asks}
use Rattle.pv_outcomes.proofs.Calls.{call_leaves}
use Rattle.pv_outcomes.proofs.Facts.{cast_null, cast_leaves, asks_null, asks_leaves, stores_leaves}
use Rattle.pv_outcomes.proofs.Lasts.{Leaves, thrown, given_back, given_none, goes_there, goes_next, branch_leaves, switch_chooses, null_first, some_first, null_leaves, some_leaves, null_fault, not_null, divide_leaves, field_read, length_read, element_read, field_written, element_written, within_leaves}

module _ (p : Program) (w : World) (x : Input) (σ : ℕ → Val) where
  -- the chain, and what is held after the action
  at_chain : (now : Option Now) (K : Held → Chain) (f g : Held) (c : Chain) → Some f ≡ Some g → Some (K g) ≡ Some c → Leaves p w x σ (K f) now → Leaves p w x σ c now
  at_chain now K f g c e d h = subst (λ (c : Chain). Leaves p w x σ c now) (ap K (some_of _ _ e) ∙ some_of _ _ d) h

  abbrev Done : State → Action → List Num → Chain → Type 0
  Done s a nums c = Leaves p w x σ c (done p w s a nums)

  abbrev Next : State → Action → Held → List Cell → Held → Chain → Type 0
  Next s a h cells g c = (acted_on a h cells ≡ Some g) × (chain_with p.desc.result a h cells (to (suc s.at) g) ≡ Some c)

  get_leaves : (t : JType) (f : Sym) (s : State) (h g : Held) (nums : List Num) (cells : List Cell) (c : Chain) → IsClean (act.GetField t f) → M p w x σ s h → Operands p w x σ nums cells → map sort_of nums ≡ sort.Ref ∷ []
      → acted_on (act.GetField t f) h cells ≡ Some g → chain_with p.desc.result (act.GetField t f) h cells (to (suc s.at) g) ≡ Some c → Done s (act.GetField t f) nums c
  get_leaves t f s h g (num.Ref zero ∷ []) (o ∷ []) c i m all es e d = at_chain _ (λ g. unless_null o.part h (to (suc s.at) g)) _ g c e d (null_leaves p w x σ s h o.part _ m all.0.is)
  get_leaves t f s h g (num.Ref (suc r) ∷ []) (o ∷ []) c i m all es e d =
      let n = shown_gives t (read s.heap (field_place w (suc r) f)) i.0 in
      let k = pushed_goes p w x σ s h (sort_of_type t) (Of (op.GetField f) refl (More h.heap (More o.part NoPart))) n.value (option_map (pushes s) (shown t (read s.heap (field_place w (suc r) f)))) m n.sort (shown_range t (read s.heap (field_place w (suc r) f)) n.value n.is) (field_read p w x σ s h t f (suc r) o.part n.value m all.0.is i.1 n.is) (ap (option_map (pushes s)) n.is) in
      at_chain _ (λ g. unless_null o.part h (to (suc s.at) g)) _ g c e d (goes_next p w x σ _ s _ _ k (some_leaves p w x σ o.part h r _ all.0.is))
  get_leaves t f s h g nums cells c i m all es e d = absurd (cc)

  length_leaves : IsWorld w → (s : State) (h g : Held) (nums : List Num) (cells : List Cell) (c : Chain) → M p w x σ s h → Operands p w x σ nums cells → map sort_of nums ≡ sort.Ref ∷ []
      → acted_on act.Length h cells ≡ Some g → chain_with p.desc.result act.Length h cells (to (suc s.at) g) ≡ Some c → Done s act.Length nums c
  length_leaves world s h g (num.Ref zero ∷ []) (o ∷ []) c m all es e d = at_chain _ (λ g. unless_null o.part h (to (suc s.at) g)) _ g c e d (null_leaves p w x σ s h o.part _ m all.0.is)
  length_leaves world s h g (num.Ref (suc r) ∷ []) (o ∷ []) c m all es e d =
      let k = pushed_goes p w x σ s h sort.Int (Of op.Length refl (More o.part NoPart)) (num.Int (worlds.length_of w (suc r))) _ m refl (length_range w world (suc r)) (length_read p w x σ (suc r) o.part all.0.is) refl in
      at_chain _ (λ g. unless_null o.part h (to (suc s.at) g)) _ g c e d (goes_next p w x σ _ s _ _ k (some_leaves p w x σ o.part h r _ all.0.is))
  length_leaves world s h g nums cells c m all es e d = absurd (cc)

  put_leaves : (t : JType) (f : Sym) (s : State) (h g : Held) (nums : List Num) (cells : List Cell) (c : Chain) → IsClean (act.PutField t f) → M p w x σ s h → Operands p w x σ nums cells → map sort_of nums ≡ sort.Ref ∷ sort_of_type t ∷ []
      → acted_on (act.PutField t f) h cells ≡ Some g → chain_with p.desc.result (act.PutField t f) h cells (to (suc s.at) g) ≡ Some c → Done s (act.PutField t f) nums c
  put_leaves t f s h g (num.Ref zero ∷ n ∷ []) (o ∷ u ∷ []) c i m all es e d = at_chain _ (λ g. unless_null o.part h (to (suc s.at) g)) _ g c e d (null_leaves p w x σ s h o.part _ m all.0.is)
  put_leaves t f s h g (num.Ref (suc r) ∷ n ∷ []) (o ∷ u ∷ []) c i m all es e d =
      let k = kept_some t n (cc) in
      let y = heap_goes p w x σ s h (Of (op.PutField f) refl (More h.heap (More o.part (More u.part NoPart)))) k.0 (option_map (λ z. next (record s { heap = written s.heap (field_place w (suc r) f) z })) (kept t n)) (field_place w (suc r) f) m
      (field_written p w x σ s h t f (suc r) o.part u.part n k.0 m all.0.is all.1.0.is i.1 k.1) (ap (option_map (λ z. next (record s { heap = written s.heap (field_place w (suc r) f) z }))) k.1) in
      at_chain _ (λ g. unless_null o.part h (to (suc s.at) g)) _ g c e d (goes_next p w x σ _ s _ _ y (some_leaves p w x σ o.part h r _ all.0.is))
  put_leaves t f s h g nums cells c i m all es e d = absurd (cc)

  load_leaves : (k : ElementKind) (s : State) (h g : Held) (nums : List Num) (cells : List Cell) (c : Chain) → M p w x σ s h → Operands p w x σ nums cells → map sort_of nums ≡ sort.Ref ∷ sort.Int ∷ []
      → acted_on (act.LoadElement k) h cells ≡ Some g → chain_with p.desc.result (act.LoadElement k) h cells (to (suc s.at) g) ≡ Some c → Done s (act.LoadElement k) nums c
  load_leaves k s h g (num.Ref r ∷ num.Int i ∷ []) (a ∷ j ∷ []) c m all es e d =
      let typed = element_sort w k r in
      let n = subst (Gives (shown (element_type w k r) (read s.heap (Elem k r i)))) typed.0 (shown_gives (element_type w k r) (read s.heap (Elem k r i)) typed.1) in
      let y = pushed_goes p w x σ s h (sort_of_kind k) (Of (op.Load k) refl (More h.heap (More a.part (More j.part NoPart)))) n.value (option_map (pushes s) (shown (element_type w k r) (read s.heap (Elem k r i)))) m n.sort (shown_range (element_type w k r) (read s.heap (Elem k r i)) n.value n.is) (element_read p w x σ s h k r i a.part j.part n.value m all.0.is all.1.0.is n.is) (ap (option_map (pushes s)) n.is) in
      at_chain _ (λ g. within a.part j.part h (to (suc s.at) g)) _ g c e d (within_leaves p w x σ s h r i a.part j.part _ _ m all.0.is all.1.0.is y)
  load_leaves k s h g nums cells c m all es e d = absurd (cc)

  store_leaves : (k : ElementKind) (s : State) (h g : Held) (nums : List Num) (cells : List Cell) (c : Chain) → M p w x σ s h → Operands p w x σ nums cells → map sort_of nums ≡ sort.Ref ∷ sort.Int ∷ sort_of_kind k ∷ []
      → acted_on (act.StoreElement k) h cells ≡ Some g → chain_with p.desc.result (act.StoreElement k) h cells (to (suc s.at) g) ≡ Some c → Done s (act.StoreElement k) nums c
  store_leaves k s h g (num.Ref r ∷ num.Int i ∷ n ∷ []) (a ∷ j ∷ u ∷ []) c m all es e d =
      let typed = element_sort w k r in
      let sorted : sort_of n ≡ sort_of_kind k = cc in
      let z = kept_some (element_type w k r) n (sorted ∙ sym typed.0) in
      let y = heap_goes p w x σ s h (Of (op.Store k) refl (More h.heap (More a.part (More j.part (More u.part NoPart))))) z.0 (option_map (λ v. next (record s { heap = written s.heap (Elem k r i) v })) (kept (element_type w k r) n)) (Elem k r i) m
      (element_written p w x σ s h k r i a.part j.part u.part n z.0 m all.0.is all.1.0.is all.1.1.0.is z.1) (ap (option_map (λ v. next (record s { heap = written s.heap (Elem k r i) v }))) z.1) in
      at_chain _ (λ g. within a.part j.part h (to (suc s.at) g)) _ g c e d (within_leaves p w x σ s h r i a.part j.part _ _ m all.0.is all.1.0.is y)
  store_leaves k s h g nums cells c m all es e d = absurd (cc)

  -- ---- types

  module _ (world : IsWorld w) where
    cast_all : (class : List ℕ) (s : State) (h g : Held) (nums : List Num) (cells : List Cell) (c : Chain) → M p w x σ s h → Operands p w x σ nums cells → map sort_of nums ≡ sort.Ref ∷ []
        → acted_on (act.Cast class) h cells ≡ Some g → chain_with p.desc.result (act.Cast class) h cells (to (suc s.at) g) ≡ Some c → Done s (act.Cast class) nums c
    cast_all class s h g (num.Ref zero ∷ []) (o ∷ []) c m all es e d = at_chain _ (λ g. unless_other class o.part h (to (suc s.at) g)) _ g c e d (cast_null p w x σ world class s h o.part m all.0.is)
    cast_all class s h g (num.Ref (suc r) ∷ []) (o ∷ []) c m all es e d = at_chain _ (λ g. unless_other class o.part h (to (suc s.at) g)) _ g c e d (cast_leaves p w x σ world class s h o.part r m all.0.is)
    cast_all class s h g nums cells c m all es e d = absurd (cc)

    asks_all : (class : List ℕ) (s : State) (h g : Held) (nums : List Num) (cells : List Cell) (c : Chain) → M p w x σ s h → Operands p w x σ nums cells → map sort_of nums ≡ sort.Ref ∷ []
        → acted_on (act.InstanceOf class) h cells ≡ Some g → chain_with p.desc.result (act.InstanceOf class) h cells (to (suc s.at) g) ≡ Some c → Done s (act.InstanceOf class) nums c
    asks_all class s h g (num.Ref zero ∷ []) (o ∷ []) c m all es e d = at_chain _ (λ g. asks_class class o.part h (to (suc s.at) g)) _ g c e d (asks_null p w x σ world class s h o.part m all.0.is)
    asks_all class s h g (num.Ref (suc r) ∷ []) (o ∷ []) c m all es e d = at_chain _ (λ g. asks_class class o.part h (to (suc s.at) g)) _ g c e d (asks_leaves p w x σ world class s h o.part r m all.0.is)
    asks_all class s h g nums cells c m all es e d = absurd (cc)

    store_ref_leaves : (s : State) (h g : Held) (nums : List Num) (cells : List Cell) (c : Chain) → M p w x σ s h → Operands p w x σ nums cells → map sort_of nums ≡ sort.Ref ∷ sort.Int ∷ sort.Ref ∷ []
        → acted_on act.StoreRef h cells ≡ Some g → chain_with p.desc.result act.StoreRef h cells (to (suc s.at) g) ≡ Some c → Done s act.StoreRef nums c
    store_ref_leaves s h g (num.Ref r ∷ num.Int i ∷ num.Ref n ∷ []) (a ∷ j ∷ u ∷ []) c m all es e d =
        let typed = element_sort w kind.Ref r in
        let z = kept_some (element_type w kind.Ref r) (num.Ref n) (sym typed.0) in
        let y = heap_goes p w x σ s h (Of (op.Store kind.Ref) refl (More h.heap (More a.part (More j.part (More u.part NoPart))))) z.0 (option_map (λ v. next (record s { heap = written s.heap (Elem kind.Ref r i) v })) (kept (element_type w kind.Ref r) (num.Ref n))) (Elem kind.Ref r i) m
        (element_written p w x σ s h kind.Ref r i a.part j.part u.part (num.Ref n) z.0 m all.0.is all.1.0.is all.1.1.0.is z.1) (ap (option_map (λ v. next (record s { heap = written s.heap (Elem kind.Ref r i) v }))) z.1) in
        at_chain _ (λ g. stores_ref a.part j.part u.part h (to (suc s.at) g)) _ g c e d (stores_leaves p w x σ world s h r i n a.part j.part u.part _ _ m all.0.is all.1.0.is all.1.1.0.is y)
    store_ref_leaves s h g nums cells c m all es e d = absurd (cc)

  divided_leaves : (o : ScalarOp) (s : State) (h g : Held) (nums : List Num) (cells : List Cell) (c : Chain) → IsClean (act.Divide o) → M p w x σ s h → Operands p w x σ nums cells → map sort_of nums ≡ sort_of_word (operation.gives o) ∷ sort_of_word (operation.gives o) ∷ []
      → acted_on (act.Divide o) h cells ≡ Some g → chain_with p.desc.result (act.Divide o) h cells (to (suc s.at) g) ≡ Some c → Done s (act.Divide o) nums c
  divided_leaves o s h g (a ∷ b ∷ []) (k ∷ l ∷ []) c i m all es e d =
      at_chain _ (λ g. flow.Test (is_zero (operation.gives o) l.part) (throw (Of op.FArith refl NoPart) h) (Leave (to (suc s.at) g))) _ g c e d (divide_leaves p w x σ o s h a b k l i m all.0 all.1.0 (cc) (cc))
  divided_leaves o s h g nums [] c i m all es e d = absurd (cc)
  divided_leaves o s h g nums (k ∷ []) c i m all es e d = absurd (cc)
  divided_leaves o s h g nums (k ∷ l ∷ r ∷ cells) c i m all es e d = absurd (cc)
  divided_leaves o s h g nums cells c i m all es e d = absurd (cc)

  branch_all : (t : Test) (target : ℕ) (s : State) (h g : Held) (nums : List Num) (cells : List Cell) (c : Chain) → M p w x σ s h → Operands p w x σ nums cells → map sort_of nums ≡ takes (act.Branch t target)
      → Some h ≡ Some g → option_map (λ q. branch q (to target h) (to (suc s.at) g)) (test_part t cells) ≡ Some c → Done s (act.Branch t target) nums c
  branch_all t target s h g nums cells c m all es e d = go (test_part t cells) refl d
    where
      go : (o : Option (Part × Bool)) → test_part t cells ≡ o → option_map (λ q. branch q (to target h) (to (suc s.at) g)) o ≡ Some c → Done s (act.Branch t target) nums c
      go None f d = absurd (cc)
      go (Some q) f d =
          let a = branch_asks w x σ t nums cells q all es f in
          let l = branch_leaves p w x σ q s h target a.holds m a.tests in
          at_chain (done p w s (act.Branch t target) nums) (λ g. branch q (to target h) (to (suc s.at) g)) h g c e d (subst (λ (b : Option Bool). Leaves p w x σ (branch q (to target h) (to (suc s.at) h)) (option_map (branches s target) b)) (sym a.machine) l)

  switch_all : (s : State) (h : Held) (default : ℕ) (cases : _) (nums : List Num) (cells : List Cell) (c : Chain) → M p w x σ s h → Operands p w x σ nums cells → map sort_of nums ≡ sort.Int ∷ []
      → chain_with p.desc.result (act.Switch default cases) h cells (to (suc s.at) h) ≡ Some c → Done s (act.Switch default cases) nums c
  switch_all s h default cases (num.Int n ∷ []) (q ∷ []) c m all es d =
      subst (λ (c : Chain). Done s (act.Switch default cases) (num.Int n ∷ []) c) (some_of _ _ d) (goes_there p w x σ _ s h _ m (switch_chooses p w x σ q.part n default cases h all.0.is))
  switch_all s h default cases nums cells c m all es d = absurd (cc)

  -- ---- ends of the method

  thrown_is : (r : ℕ) (q : Part) → PartIs w x σ q (val.Num (num.Ref r)) → PartIs w x σ (Of op.Thrown refl (More q NoPart)) (val.Fault (fault.Thrown r))
  unfolding strict
  thrown_is r q i = (val.Num (num.Ref r) ∷ [], (val.Num (num.Ref r), [], i, refl, refl), refl)

  throw_leaves : (s : State) (h : Held) (nums : List Num) (cells : List Cell) (c : Chain) → M p w x σ s h → Operands p w x σ nums cells → map sort_of nums ≡ sort.Ref ∷ [] → last_chain p.desc.result act.Throw h cells ≡ Some c → Done s act.Throw nums c
  throw_leaves s h (num.Ref zero ∷ []) (o ∷ []) c m all es d =
      subst (λ (c : Chain). Done s act.Throw (num.Ref zero ∷ []) c) (some_of _ _ d)
      (thrown p w x σ _ s h (Of op.FNull refl NoPart) fault.Null m (null_fault p w x σ) (not_null p w x σ) (yes w x σ (aeq o.part null_part) (throw (Of op.FNull refl NoPart) h) (Leave (throw (Of op.Thrown refl (More o.part NoPart)) h)) (null_tests w x σ o.part 0 all.0.is)))
  throw_leaves s h (num.Ref (suc r) ∷ []) (o ∷ []) c m all es d =
      subst (λ (c : Chain). Done s act.Throw (num.Ref (suc r) ∷ []) c) (some_of _ _ d)
      (thrown p w x σ _ s h (Of op.Thrown refl (More o.part NoPart)) (fault.Thrown (suc r)) m (thrown_is (suc r) o.part all.0.is) (λ z. absurd (let y = z in cc))
      (no w x σ (aeq o.part null_part) (throw (Of op.FNull refl NoPart) h) (throw (Of op.Thrown refl (More o.part NoPart)) h) (Leave (throw (Of op.Thrown refl (More o.part NoPart)) h)) (same_test w x σ (aeq o.part null_part) _ false (suc_not_zero r) (null_tests w x σ o.part (suc r) all.0.is)) refl))
  throw_leaves s h nums cells c m all es d = absurd (cc)

  narrowed_is : (t : JType) (n v : Num) (q : Part) → InRange n → as_type t n ≡ Some v → PartIs w x σ q (val.Num n) → PartIs w x σ (narrowed_part t q) (val.Num v)
  unfolding strict
  narrowed_is jtype.Z (num.Int n) v q z e i = (
    val.Num (num.Int n) ∷ val.Num (num.Int (pos 1)) ∷ [],
    (val.Num (num.Int n), val.Num (num.Int (pos 1)) ∷ [], i, (val.Num (num.Int (pos 1)), [], ([], refl, refl), refl, refl), refl),
    ap (λ (m : ℤ). Some (val.Num (num.Int m))) (boolean_is n z) ∙ ap (λ (m : Num). Some (val.Num m)) (some_of _ _ e),
  )
  narrowed_is jtype.B (num.Int n) v q z e i = (val.Num (num.Int n) ∷ [], (val.Num (num.Int n), [], i, refl, refl), ap (λ (m : ℤ). Some (val.Num (num.Int m))) (scalar_exact I2b n (pos 0) (wider w8 w32 (int_wrap w8 n) (lit≤ tt) (SFits-int_wrap w8 n))) ∙ ap (λ (m : Num). Some (val.Num m)) (some_of _ _ e))
  narrowed_is jtype.C (num.Int n) v q z e i = (val.Num (num.Int n) ∷ [], (val.Num (num.Int n), [], i, refl, refl), ap (λ (m : ℤ). Some (val.Num (num.Int m))) (scalar_exact I2c n (pos 0) (low_fits n 65536 (lit< tt) (lit< tt))) ∙ ap (λ (m : Num). Some (val.Num m)) (some_of _ _ e))
  narrowed_is jtype.S (num.Int n) v q z e i = (val.Num (num.Int n) ∷ [], (val.Num (num.Int n), [], i, refl, refl), ap (λ (m : ℤ). Some (val.Num (num.Int m))) (scalar_exact I2s n (pos 0) (wider w16 w32 (int_wrap w16 n) (lit≤ tt) (SFits-int_wrap w16 n))) ∙ ap (λ (m : Num). Some (val.Num m)) (some_of _ _ e))
  narrowed_is jtype.I (num.Int n) v q z e i = subst (λ (m : Num). PartIs w x σ q (val.Num m)) (some_of _ _ e) i
  narrowed_is jtype.J (num.Long n) v q z e i = subst (λ (m : Num). PartIs w x σ q (val.Num m)) (some_of _ _ e) i
  narrowed_is jtype.A (num.Ref n) v q z e i = subst (λ (m : Num). PartIs w x σ q (val.Num m)) (some_of _ _ e) i
  narrowed_is jtype.F (num.Int n) v q z e i = absurd (cc)
  narrowed_is jtype.F (num.Long n) v q z e i = absurd (cc)
  narrowed_is jtype.F (num.Ref n) v q z e i = absurd (cc)
  narrowed_is jtype.D (num.Int n) v q z e i = absurd (cc)
  narrowed_is jtype.D (num.Long n) v q z e i = absurd (cc)
  narrowed_is jtype.D (num.Ref n) v q z e i = absurd (cc)
  narrowed_is t n v q z e i = absurd (cc)

  give_leaves : (s : State) (h : Held) (result : Option JType) (nums : List Num) (cells : List Cell) (c : Chain) → M p w x σ s h → Operands p w x σ nums cells → ((t : JType) (n : Num) → result ≡ Some t → nums ≡ n ∷ [] → sort_of n ≡ sort_of_type t) → (result ≡ None → nums ≡ [])
      → given_chain result h cells ≡ Some c → Leaves p w x σ c (given s result nums)
  give_leaves s h (Some t) (n ∷ []) (q ∷ []) c m all sorted none d =
      let v = as_type_gives t n (sorted t n refl refl) in
      subst (λ (c : Chain). Leaves p w x σ c (given s (Some t) (n ∷ []))) (some_of _ _ d)
      (subst (λ (o : Option Num). Leaves p w x σ (Leave (give (narrowed_part t q.part) h)) (option_map (λ v. ended (Returned (Some v) s.heap)) o)) (sym v.is)
      (given_back p w x σ (Leave (give (narrowed_part t q.part) h)) s h (narrowed_part t q.part) v.value m (narrowed_is t n v.value q.part all.0.range v.is all.0.is) refl))
  give_leaves s h None [] [] c m all sorted none d = subst (λ (c : Chain). Leaves p w x σ c (given s None [])) (some_of _ _ d) (given_none p w x σ (Leave (give unit_part h)) s h m refl)
  give_leaves s h (Some t) [] (q ∷ cells) c m all sorted none d = absurd all
  give_leaves s h (Some t) (n ∷ k ∷ nums) (q ∷ []) c m all sorted none d = absurd all.1
  give_leaves s h None (n ∷ nums) [] c m all sorted none d = absurd all
  give_leaves s h result nums cells c m all sorted none d = absurd (cc)

  -- ---- all of them

  module _ (world : IsWorld w) (unit : σ 0 ≡ val.Unit) where
    simple_leaves : (a : Action) (s : State) (h g : Held) (nums : List Num) (cells : List Cell) (c : Chain) → IsSimple a → IsClean a → M p w x σ s h → Operands p w x σ nums cells → map sort_of nums ≡ takes a
        → acted_on a h cells ≡ Some g → Some (Leave (to (suc s.at) g)) ≡ Some c → Done s a nums c
    simple_leaves a s h g nums cells c i k m all es e d = subst (λ (c : Chain). Done s a nums c) (some_of _ _ d) (goes_next p w x σ (Leave (to (suc s.at) g)) s g (done p w s a nums) (simple_goes p w x σ a s h g nums cells i k m all es e) refl)

    -- null throws before the call
    call_on_leaves : (d' : Descriptor) (f : Sym) (s : State) (h g : Held) (nums : List Num) (cells : List Cell) (c : Chain) (sorts : List Sort) → IsClean (act.CallOn d' f) → M p w x σ s h → Operands p w x σ nums cells → map sort_of nums ≡ sort.Ref ∷ sorts
        → acted_on (act.CallOn d' f) h cells ≡ Some g → chain_with p.desc.result (act.CallOn d' f) h cells (to (suc s.at) g) ≡ Some c → Done s (act.CallOn d' f) nums c
    call_on_leaves d' f s h g (num.Ref zero ∷ nums) (o ∷ cells) c sorts k m all es e d =
        at_chain (done p w s (act.CallOn d' f) (num.Ref zero ∷ nums)) (λ g. flow.Test (aeq o.part null_part) (throw (Of op.FNull refl NoPart) h) (unless_thrown f h (o ∷ cells) (to (suc s.at) g)))
        (with_result h f (o ∷ cells) d'.result) g c e d (null_first p w x σ s h o.part _ m all.0.is)
    call_on_leaves d' f s h g (num.Ref (suc r) ∷ nums) (o ∷ cells) c sorts k m all es e d =
        at_chain (done p w s (act.CallOn d' f) (num.Ref (suc r) ∷ nums)) (λ g. flow.Test (aeq o.part null_part) (throw (Of op.FNull refl NoPart) h) (unless_thrown f h (o ∷ cells) (to (suc s.at) g)))
        (with_result h f (o ∷ cells) d'.result) g c e d
        (some_first p w x σ h o.part r _ _ all.0.is (call_leaves p w x σ world unit s h f d' (num.Ref (suc r) ∷ nums) (o ∷ cells) m all k.0 (worlds.reply w f s.heap (num.Ref (suc r) ∷ nums)) refl))
    call_on_leaves d' f s h g nums cells c sorts k m all es e d = absurd (cc)

    next_leaves : (a : Action) (s : State) (h g : Held) (nums : List Num) (cells : List Cell) (c : Chain) → IsClean a → M p w x σ s h → Operands p w x σ nums cells → map sort_of nums ≡ takes a
        → acted_on a h cells ≡ Some g → chain_with p.desc.result a h cells (to (suc s.at) g) ≡ Some c → Done s a nums c
    next_leaves (act.Branch t target) s h g nums cells c k m all es e d = branch_all t target s h g nums cells c m all es e d
    next_leaves (act.Jump target) s h g nums cells c k m all es e d =
        subst (λ (ns : List Num). Done s (act.Jump target) ns c) (sym (no_nums nums es)) (subst (λ (c : Chain). Done s (act.Jump target) [] c) (some_of _ _ d) (goes_there p w x σ (Leave (to target h)) s h target m refl))
    next_leaves (act.Switch default cases) s h g nums cells c k m all es e d =
        switch_all s h default cases nums cells c m all es (subst (λ (g : Held). chain_with p.desc.result (act.Switch default cases) h cells (to (suc s.at) g) ≡ Some c) (sym (some_of _ _ e)) d)
    next_leaves (act.Divide o) s h g nums cells c k m all es e d = divided_leaves o s h g nums cells c k m all (es ∙ ap (map sort_of_word) k) e d
    next_leaves (act.GetField t f) s h g nums cells c k m all es e d = get_leaves t f s h g nums cells c k m all es e d
    next_leaves (act.PutField t f) s h g nums cells c k m all es e d = put_leaves t f s h g nums cells c k m all es e d
    next_leaves act.Length s h g nums cells c k m all es e d = length_leaves world s h g nums cells c m all es e d
    next_leaves (act.LoadElement y) s h g nums cells c k m all es e d = load_leaves y s h g nums cells c m all es e d
    next_leaves (act.StoreElement y) s h g nums cells c k m all es e d = store_leaves y s h g nums cells c m all es e d
    next_leaves act.StoreRef s h g nums cells c k m all es e d = store_ref_leaves world s h g nums cells c m all es e d
    next_leaves (act.Cast class) s h g nums cells c k m all es e d = cast_all world class s h g nums cells c m all es e d
    next_leaves (act.InstanceOf class) s h g nums cells c k m all es e d = asks_all world class s h g nums cells c m all es e d
    next_leaves (act.Call d' f) s h g nums cells c k m all es e d =
        at_chain (done p w s (act.Call d' f) nums)
        (λ g. unless_thrown f h cells (to (suc s.at) g)) (with_result h f cells d'.result) g c e d (call_leaves p w x σ world unit s h f d' nums cells m all k (worlds.reply w f s.heap nums) refl)
    next_leaves (act.CallOn d' f) s h g nums cells c k m all es e d = call_on_leaves d' f s h g nums cells c _ k m all (es ∙ ap (λ (d : Descriptor). map sort_of_type d.params) k.1.1) e d
    next_leaves act.Nop s h g nums cells c k m all es e d = simple_leaves act.Nop s h g nums cells c tt k m all es e d
    next_leaves (act.Push n) s h g nums cells c k m all es e d = simple_leaves (act.Push n) s h g nums cells c tt k m all es e d
    next_leaves (act.Literal text) s h g nums cells c k m all es e d = simple_leaves (act.Literal text) s h g nums cells c tt k m all es e d
    next_leaves (act.Load t y) s h g nums cells c k m all es e d = simple_leaves (act.Load t y) s h g nums cells c tt k m all es e d
    next_leaves (act.Store t y) s h g nums cells c k m all es e d = simple_leaves (act.Store t y) s h g nums cells c tt k m all es e d
    next_leaves (act.Increase y by) s h g nums cells c k m all es e d = simple_leaves (act.Increase y by) s h g nums cells c tt k m all es e d
    next_leaves (act.Move v) s h g nums cells c k m all es e d = simple_leaves (act.Move v) s h g nums cells c tt k m all es e d
    next_leaves (act.Scalar o) s h g nums cells c k m all es e d = simple_leaves (act.Scalar o) s h g nums cells c tt k m all es e d
    next_leaves (act.GetStatic t f) s h g nums cells c k m all es e d = simple_leaves (act.GetStatic t f) s h g nums cells c tt k m all es e d
    next_leaves (act.PutStatic t f) s h g nums cells c k m all es e d = simple_leaves (act.PutStatic t f) s h g nums cells c tt k m all es e d
    next_leaves (act.Give t) s h g nums cells c k m all es e d = absurd (cc)
    next_leaves act.Throw s h g nums cells c k m all es e d = absurd (cc)

    given_sort : (r : Option JType) (nums : List Num) → map sort_of nums ≡ sorts_of_result r → (t : JType) (n : Num) → r ≡ Some t → nums ≡ n ∷ [] → sort_of n ≡ sort_of_type t
    given_sort r nums es t n e f =
        let z : map sort_of (n ∷ []) ≡ sorts_of_result (Some t) = ap (map sort_of) (sym f) ∙ es ∙ ap sorts_of_result e in
        cc

    given_empty : (r : Option JType) (nums : List Num) → map sort_of nums ≡ sorts_of_result r → r ≡ None → nums ≡ []
    given_empty r nums es e = no_nums nums (es ∙ ap sorts_of_result e)

    with_operands : (a : Action) (s : State) (h : Held) (nums : List Num) (cells : List Cell) (c : Chain) → IsClean a → EndsWell p a → M p w x σ s h → Operands p w x σ nums cells → map sort_of nums ≡ takes a
        → (if ends_method a then last_chain p.desc.result a h cells else acted_on a h cells >>= λ g. chain_with p.desc.result a h cells (to (suc s.at) g)) ≡ Some c → Done s a nums c
    with_operands (act.Give t) s h nums cells c k well m all es d = give_leaves s h p.desc.result nums cells c m all (given_sort p.desc.result nums (es ∙ well)) (given_empty p.desc.result nums (es ∙ well)) d
    with_operands act.Throw s h nums cells c k well m all es d = throw_leaves s h nums cells c m all es d
    with_operands a s h nums cells c k well m all es d = let b = bound (acted_on a h cells) (λ g. chain_with p.desc.result a h cells (to (suc s.at) g)) c d in next_leaves a s h b.0 nums cells c k m all es b.1 b.2

    -- THE LAST ACTION of a block
    pub last_leaves : (a : Action) (s : State) (h : Held) (c : Chain) → IsClean a → EndsWell p a → M p w x σ s h → chain_of p.desc.result s.at a h ≡ Some c → Leaves p w x σ c (performed p w s a)
    last_leaves a s h c k well m e = go (popped cell_sort (takes a) h.stack) refl e
      where
        go : (o : Taken Cell) → popped cell_sort (takes a) h.stack ≡ o
            → (o >>= λ q. (if ends_method a then last_chain p.desc.result a (record h { stack = q.1 }) q.0 else acted_on a (record h { stack = q.1 }) q.0 >>= λ g. chain_with p.desc.result a (record h { stack = q.1 }) q.0 (to (suc s.at) g))) ≡ Some c
            → Leaves p w x σ c (performed p w s a)
        go None f e = absurd (cc)
        go (Some q) f e =
            let t = takes_both p w x σ a s h q m f in
            subst (Leaves p w x σ c) (sym (ap (λ (o : Taken Num). o >>= λ z. done p w (record s { stack = z.1 }) a z.0) t.found)) (with_operands a (record s { stack = t.stack }) (record h { stack = q.1 }) t.nums q.0 c k well t.matches t.operands t.sorts e)
