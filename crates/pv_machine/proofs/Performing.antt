-- What an action does where the operand stack has no room for what it leaves.
use Rattle.std.proofs.Common.{◌≡◌, ℕ, ◌<◌, List, ◌∷◌, length, drop, Option, Some, Result, refl, ap, sym, subst, ◌∙◌, unwrap_or, option_map, IfSome, OnErr}
use Rattle.pv_machine.proofs.Words.{on_err_weaker, ◌>>=◌, Num, Heap, World, Sort, Action, Move, Program, Taken, popped, moved, sort_of, takes, Effect, StateInMemory, State, Now, running, next, done, perform, Lacks, KeepsHeap, IsAccess, IsPlain, Does, Reads, Acts, asked, below, IsQuiet, IsOverfull}
use Rattle.pv_frame.specs.declared.action.Action.TheVariants as act
use Rattle.pv_machine.specs.declared.effect.Effect.TheVariants as effect
use Rattle.pv_machine.specs.Moves as moves

asked_plain : (a : Action) → IsPlain a → asked a ≡ takes a
asked_plain (act.Call d f) h = absurd h
asked_plain (act.CallOn d f) h = absurd h
asked_plain a h = refl

asked_access : (a : Action) → IsAccess a → asked a ≡ takes a
asked_access (act.Call d f) h = absurd h
asked_access (act.CallOn d f) h = absurd h
asked_access a h = refl

performs : (p : Program) (w : World) (s : State) (a : Action) (ops : List Num) (now : Option Now) → popped sort_of (takes a) s.stack ≡ Some (ops, drop (length ops) s.stack) → done p w (below (length ops) s) a ops ≡ now →
    perform p w s a ≡ unwrap_or now (running s)
performs p w s a ops now e d =
    ap (λ (o : Taken Num). unwrap_or (o >>= λ q. done p w (record s { stack = q.1 }) a q.0) (running s)) e ∙ ap (λ (o : Option Now). unwrap_or o (running s)) d

lacking : (p : Program) (w : World) (s : StateInMemory) (a : Action) (ops : List Num) (e : Effect) (k : ℕ) → popped sort_of (takes a) s.state.stack ≡ Some (ops, drop (length ops) s.state.stack) → Does p w (below (length ops) s.state) a ops (Some e) →
    KeepsHeap e → k ≡ length ops → Lacks s k e → IsOverfull p w s a
lacking p w s a ops (effect.Push n) k found does keeps many lack =
    (_, performs p w s.state a ops _ found does, subst (λ (m : ℕ). s.room < length (n ∷ drop m s.state.stack)) many lack)
lacking p w s a ops (effect.Write t at n) k found does keeps many lack = absurd keeps
lacking p w s a ops e k found does keeps many lack = absurd lack

-- ---- by the parts of a state

abbrev pub in_memory : ℕ → List Num → List (Option Num) → Heap → Heap → ℕ → ℕ → StateInMemory
in_memory at nums locals heap heap0 room most = record { state = record { at = at; stack = nums; locals = locals; heap = heap; heap0 = heap0 }; room = room; max_stack = most }

asking : (a : Action) (sorts : List Sort) (nums ops : List Num) → sorts ≡ takes a → popped sort_of sorts nums ≡ Some (ops, drop (length ops) nums) → popped sort_of (takes a) nums ≡ Some (ops, drop (length ops) nums)
asking a sorts nums ops is found = ap (λ (l : List Sort). popped sort_of l nums) (sym is) ∙ found

pub act_full : {T E : Type 0} (r : Result T E) (p : Program) (w : World) (s : StateInMemory) (a : Action) (at : ℕ) (nums ops : List Num) (locals seen : List (Option Num)) (heap heap0 : Heap) (room most : ℕ) (sorts : List Sort) (e : Effect) →
    in_memory at nums locals heap heap0 room most ≡ s → seen ≡ locals → sorts ≡ asked a → IsPlain a → popped sort_of sorts nums ≡ Some (ops, drop (length ops) nums) → Acts p w seen a ops (Some e) → KeepsHeap e →
    OnErr r (Lacks s (length ops) e) → OnErr r (IsOverfull p w s a)
act_full r p w s a at nums ops locals seen heap heap0 room most sorts e view same is plain found acts keeps full =
    let there = in_memory at nums locals heap heap0 room most in
    let does = subst (λ (l : List (Option Num)). Acts p w l a ops (Some e)) same acts in
    let lack = lacking p w there a ops e (length ops) (asking a sorts nums ops (is ∙ asked_plain a plain) found) (does at (drop (length ops) nums) heap heap0) keeps refl in
    on_err_weaker r (subst (λ (x : StateInMemory). Lacks x (length ops) e → IsOverfull p w x a) view lack) full

pub reach_full : {T E : Type 0} (r : Result T E) (p : Program) (w : World) (s : StateInMemory) (a : Action) (at : ℕ) (nums ops : List Num) (locals : List (Option Num)) (heap heap0 : Heap) (room most : ℕ) (sorts : List Sort) (o : Option Effect) (e : Effect) →
    in_memory at nums locals heap heap0 room most ≡ s → sorts ≡ asked a → IsAccess a → popped sort_of sorts nums ≡ Some (ops, drop (length ops) nums) → Reads w heap a ops o → (IsQuiet a → IfSome o KeepsHeap) → o ≡ Some e →
    OnErr r (Lacks s (length ops) e) → IsQuiet a → OnErr r (IsOverfull p w s a)
reach_full r p w s a at nums ops locals heap heap0 room most sorts o e view is reach found reads keeps some full quiet =
    let there = in_memory at nums locals heap heap0 room most in
    let does = subst (λ (x : Option Effect). Reads w heap a ops x) some reads in
    let keep = subst (λ (x : Option Effect). IfSome x KeepsHeap) some (keeps quiet) in
    let lack = lacking p w there a ops e (length ops) (asking a sorts nums ops (is ∙ asked_access a reach) found) (does p at (drop (length ops) nums) locals heap0) keep refl in
    on_err_weaker r (subst (λ (x : StateInMemory). Lacks x (length ops) e → IsOverfull p w x a) view lack) full

pub shift_full : (p : Program) (w : World) (s : StateInMemory) (m : Move) (at : ℕ) (nums : List Num) (locals : List (Option Num)) (heap heap0 : Heap) (room most : ℕ) →
    in_memory at nums locals heap heap0 room most ≡ s → moves.IsOverfull (moved sort_of m nums) room → IsOverfull p w s (act.Move m)
shift_full p w s m at nums locals heap heap0 room most view q =
    let there = in_memory at nums locals heap heap0 room most in
    let leads = ap (λ (o : Option (List Num)). unwrap_or (option_map (λ stack. next (record there.state { stack = stack })) o) (running there.state)) q.1 in
    subst (λ (x : StateInMemory). IsOverfull p w x (act.Move m)) view (_, leads, q.2)
