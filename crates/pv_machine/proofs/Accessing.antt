-- Accesses, by their operands and by their action.
use Rattle.std.proofs.Common.{◌≡◌, ℕ, ℤ, List, [], ◌∷◌, Option, Some, Result, Ok, Err, refl, ap, sym, subst, ◌∙◌, IfOk}
use Rattle.pv_machine.proofs.Words.{◌>>=◌, Num, Kind, Heap, Memory, World, Action, Program, Effect, State, done, Does, Reads, Asks, Accesses, element_of, element_and_number_of, element_and_ref_of}
use Rattle.pv_value.specs.declared.number.Num.TheVariants as num
use Rattle.pv_frame.specs.declared.action.Action.TheVariants as act

-- what is done of an element, by its operands
load_by : (p : Program) (w : World) (s : State) (k : Kind) (nums : List Num) → done p w s (act.LoadElement k) nums ≡ (element_of nums >>= λ q. done p w s (act.LoadElement k) (num.Ref q.0 ∷ num.Int q.1 ∷ []))
load_by p w s k (num.Ref r ∷ num.Int i ∷ []) = refl
load_by p w s k nums = refl

store_by : (p : Program) (w : World) (s : State) (k : Kind) (nums : List Num) → done p w s (act.StoreElement k) nums ≡ (element_and_number_of nums >>= λ q. done p w s (act.StoreElement k) (num.Ref q.0 ∷ num.Int q.1 ∷ q.2 ∷ []))
store_by p w s k (num.Ref r ∷ num.Int i ∷ n ∷ []) = refl
store_by p w s k nums = refl

pub loads : (w : World) (heap : Heap) (k : Kind) (nums : List Num) (q : ℕ × ℤ) (found : Option Effect) → element_of nums ≡ Some q → Reads w heap (act.LoadElement k) (num.Ref q.0 ∷ num.Int q.1 ∷ []) found → Reads w heap (act.LoadElement k) nums found
loads w heap k nums q found e reads p at stack locals heap0 =
    let s : State = record { at = at; stack = stack; locals = locals; heap = heap; heap0 = heap0 } in
    load_by p w s k nums ∙ ap (λ o. o >>= λ q. done p w s (act.LoadElement k) (num.Ref q.0 ∷ num.Int q.1 ∷ [])) e ∙ reads p at stack locals heap0

pub stores : (w : World) (k : Kind) (nums : List Num) (q : ℕ × ℤ × Num) (found : Option Effect) → element_and_number_of nums ≡ Some q → Accesses w (act.StoreElement k) (num.Ref q.0 ∷ num.Int q.1 ∷ q.2 ∷ []) found → Accesses w (act.StoreElement k) nums found
stores w k nums q found e accesses p s = store_by p w s k nums ∙ ap (λ o. o >>= λ q. done p w s (act.StoreElement k) (num.Ref q.0 ∷ num.Int q.1 ∷ q.2 ∷ [])) e ∙ accesses p s

ref_by : (p : Program) (w : World) (s : State) (nums : List Num) → done p w s act.StoreRef nums ≡ (element_and_ref_of nums >>= λ q. done p w s act.StoreRef (num.Ref q.0 ∷ num.Int q.1 ∷ num.Ref q.2 ∷ []))
ref_by p w s (num.Ref r ∷ num.Int i ∷ num.Ref v ∷ []) = refl
ref_by p w s nums = refl

pub refs : (w : World) (heap0 : Heap) (nums : List Num) (q : ℕ × ℤ × ℕ) (found : Option Effect) → element_and_ref_of nums ≡ Some q → Asks w heap0 act.StoreRef (num.Ref q.0 ∷ num.Int q.1 ∷ num.Ref q.2 ∷ []) found → Asks w heap0 act.StoreRef nums found
refs w heap0 nums q found e asks p at stack locals heap =
    let s : State = record { at = at; stack = stack; locals = locals; heap = heap; heap0 = heap0 } in
    ref_by p w s nums ∙ ap (λ o. o >>= λ q. done p w s act.StoreRef (num.Ref q.0 ∷ num.Int q.1 ∷ num.Ref q.2 ∷ [])) e ∙ asks p at stack locals heap

-- an access in each state is one in each state with this heap
pub read : (w : World) (heap : Heap) (a b : Action) (nums : List Num) (e : Option Effect) → a ≡ b → Accesses w b nums e → Reads w heap a nums e
read w heap a b nums e is accesses = λ p at stack locals heap0.
    let s : State = record { at = at; stack = stack; locals = locals; heap = heap; heap0 = heap0 } in
    subst (λ (x : Action). Does p w s x nums e) (sym is) (accesses p s)

pub reads_same : (w : World) (heap : Heap) (a b : Action) (nums : List Num) (e : Option Effect) → a ≡ b → Reads w heap b nums e → Reads w heap a nums e
reads_same w heap a b nums e is reads = subst (λ (x : Action). Reads w heap x nums e) (sym is) reads

pub if_read : (w : World) (heap : Heap) (a b : Action) (nums : List Num) (r : Result (Option Effect) Memory) → a ≡ b → IfOk r (λ e. Accesses w b nums e) → IfOk r (λ e. Reads w heap a nums e)
if_read w heap a b nums (Ok e) is accesses = read w heap a b nums e is accesses
if_read w heap a b nums (Err m) is accesses = tt
