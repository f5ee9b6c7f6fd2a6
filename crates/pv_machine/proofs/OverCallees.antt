-- A run over callees asks for finitely many replies, so it ends as one in a world with those.
use Rattle.std.proofs.Common.{◌≡◌, ℕ, zero, suc, Bool, true, false, List, [], ◌∷◌, ◌++◌, Option, Some, None, ◌∙◌, refl, ap, sym, subst, inl, inr, ◌⊎◌, ℤ, pos, if◌then◌else◌, IsTrue, cond, option_map, unwrap_or, slice_get}
use Rattle.pv_machine.proofs.Words.{AllByRecursion, eq_by_cmp, is_eq, Ordering, Less, Equal, Greater, FinMap, get, insert, get-insert, eq_by_cmp_equiv, ◌>>=◌, Num, World, CallKey, Input, Outcome, key_cmp, loc_cmp, element_type, Elem, Fault, CallsOrdered, IsWorld, literal_of, ClassFile, Method, Action, Taken, popped, sort_of, takes, Program, some_of, no_some}
use Rattle.pv_machine.proofs.Words.{State, Now, running, ended, start, pushes, throws, element_fault, store_fault, unless, keeps, called, done, perform_at, go_on, after, RunEnds, Ends, Callees, is_fact, answer, done_over, perform_at_over, step_over, go_on_over, after_over, RunEndsOver, EndsOver, callees_of, IsPartOf, DifferInReplies, HasRepliesOf, AreCallees, MoreReplies, OverItsOwn, FinitelyManyReplies, SameOverCallees}
use Rattle.pv_value.specs.declared.number.Num.TheVariants as num
use Rattle.pv_value.specs.declared.heap.Kind.TheVariants as kind
use Rattle.pv_value.specs.declared.outcome.Fault.TheVariants as fault
use Rattle.pv_types.specs.Facts as types
use Rattle.pv_frame.specs.declared.action.Action.TheVariants as act

-- ---- the call that a step asks for

abbrev asked : State → Action → List Num → Option CallKey
asked s (act.Call d f) args = Some (record { sym = f; heap = s.heap; args = args })
asked s (act.CallOn d f) (num.Ref (suc r) ∷ args) = Some (record { sym = f; heap = s.heap; args = num.Ref (suc r) ∷ args })
asked s a operands = None

-- callees that agree on it, in a world
abbrev Agree : World → Callees → Callees → Option CallKey → Type 0
Agree w f g call = (key : CallKey) → call ≡ Some key → answer f w key ≡ answer g w key

same_done : (f g : Callees) (p : Program) (w : World) (s : State) (a : Action) (operands : List Num) → Agree w f g (asked s a operands) → done_over f p w s a operands ≡ done_over g p w s a operands
same_done f g p w s (act.Call d c) args same = ap (option_map (called s)) (same _ refl)
same_done f g p w s (act.CallOn d c) (num.Ref (suc r) ∷ args) same = ap (option_map (called s)) (same _ refl)
same_done f g p w s a operands same = refl

stuck_done : (f : Callees) (p : Program) (w : World) (s : State) (a : Action) (operands : List Num) (key : CallKey) → asked s a operands ≡ Some key → answer f w key ≡ None → done_over f p w s a operands ≡ None
stuck_done f p w s (act.Call d c) args key is none = ap (option_map (called s)) (ap (answer f w) (some_of _ _ is) ∙ none)
stuck_done f p w s (act.CallOn d c) (num.Ref (suc r) ∷ args) key is none = ap (option_map (called s)) (ap (answer f w) (some_of _ _ is) ∙ none)
stuck_done f p w s a operands key is none = no_some key is

abbrev below : State → List Num → State
below s stack = record s { stack = stack }

abbrev asked_of : State → Action → Taken Num → Option CallKey
asked_of s a taken = taken >>= λ x. asked (below s x.1) a x.0

abbrev asked_at : State → Option Action → Option CallKey
asked_at s action = action >>= λ a. asked_of s a (popped sort_of (takes a) s.stack)

abbrev asks : Program → State → Option CallKey
asks p s = asked_at s (slice_get p.actions s.at)

abbrev taken_over : Callees → Program → World → State → Action → Taken Num → Option Now
taken_over f p w s a taken = taken >>= λ x. done_over f p w (below s x.1) a x.0

same_taken : (f g : Callees) (p : Program) (w : World) (s : State) (a : Action) (taken : Taken Num) → Agree w f g (asked_of s a taken) → taken_over f p w s a taken ≡ taken_over g p w s a taken
same_taken f g p w s a None same = refl
same_taken f g p w s a (Some x) same = same_done f g p w (below s x.1) a x.0 same

stuck_taken : (f : Callees) (p : Program) (w : World) (s : State) (a : Action) (taken : Taken Num) (key : CallKey) → asked_of s a taken ≡ Some key → answer f w key ≡ None → taken_over f p w s a taken ≡ None
stuck_taken f p w s a None key is none = refl
stuck_taken f p w s a (Some x) key is none = stuck_done f p w (below s x.1) a x.0 key is none

same_action : (f g : Callees) (p : Program) (w : World) (s : State) (action : Option Action) → Agree w f g (asked_at s action) → perform_at_over f p w s action ≡ perform_at_over g p w s action
same_action f g p w s None same = refl
same_action f g p w s (Some a) same = ap (λ (o : Option Now). unwrap_or o (running s)) (same_taken f g p w s a (popped sort_of (takes a) s.stack) same)

stuck_action : (f : Callees) (p : Program) (w : World) (s : State) (action : Option Action) (key : CallKey) → asked_at s action ≡ Some key → answer f w key ≡ None → perform_at_over f p w s action ≡ running s
stuck_action f p w s None key is none = refl
stuck_action f p w s (Some a) key is none = ap (λ (o : Option Now). unwrap_or o (running s)) (stuck_taken f p w s a (popped sort_of (takes a) s.stack) key is none)

same_step : (f g : Callees) (p : Program) (w : World) (s : State) → Agree w f g (asks p s) → step_over f p w s ≡ step_over g p w s
same_step f g p w s same = same_action f g p w s (slice_get p.actions s.at) same

stuck_step : (f : Callees) (p : Program) (w : World) (s : State) (key : CallKey) → asks p s ≡ Some key → answer f w key ≡ None → step_over f p w s ≡ running s
stuck_step f p w s key is none = stuck_action f p w s (slice_get p.actions s.at) key is none

-- a step that asks for nothing, and one that asks for a call on which the callees agree
asks_none : (w : World) (f g : Callees) (call : Option CallKey) → call ≡ None → Agree w f g call
asks_none w f g call none key is = no_some key (sym none ∙ is)

asks_one : (w : World) (f g : Callees) (call : Option CallKey) (key : CallKey) → call ≡ Some key → answer f w key ≡ answer g w key → Agree w f g call
asks_one w f g call key one same k is = subst (λ (x : CallKey). answer f w x ≡ answer g w x) (some_of _ _ (sym one ∙ is)) same

-- of what the world answers or the callees
by_fact : (P : Option Outcome → Type 0) (b : Bool) (told said : Option Outcome) → P told → P said → P (if b then told else said)
by_fact P true told said t s = t
by_fact P false told said t s = s

answer_part : (f g : Callees) → IsPartOf f g → (w : World) → IsPartOf (answer f w) (answer g w)
answer_part f g part w key o is = go (is_fact key.sym) is
  where
    go : (b : Bool) → (if b then get w.calls key else f key) ≡ Some o → (if b then get w.calls key else g key) ≡ Some o
    go true e = e
    go false e = part key o e

-- ---- more replies

-- a run that waits for a call waits on, and any other goes on in the same way
abbrev Waiting : Callees → Program → World → Now → Type 0
Waiting f p w now = (t : State) × (now ≡ running t) × (step_over f p w t ≡ running t)

more_step : (f g : Callees) → IsPartOf f g → (p : Program) (w : World) (t : State) → (step_over f p w t ≡ step_over g p w t) ⊎ (step_over f p w t ≡ running t)
more_step f g part p w t =
    elim (asks p t) as (λ call. asks p t ≡ call → (step_over f p w t ≡ step_over g p w t) ⊎ (step_over f p w t ≡ running t)) [
      | None ↦ λ none. inl (same_step f g p w t (asks_none w f g (asks p t) none))
      | Some key ↦ λ one. elim (answer f w key) as (λ r. answer f w key ≡ r → (step_over f p w t ≡ step_over g p w t) ⊎ (step_over f p w t ≡ running t)) [
        | None ↦ λ none. inr (stuck_step f p w t key one none)
        | Some o ↦ λ is. inl (same_step f g p w t (asks_one w f g (asks p t) key one (is ∙ sym (answer_part f g part w key o is))))
      ] refl
    ] refl

more_on : (f g : Callees) → IsPartOf f g → (p : Program) (w : World) (now : Now) → (go_on_over f p w now ≡ go_on_over g p w now) ⊎ Waiting f p w (go_on_over f p w now)
more_on f g part p w (ended o) = inl refl
more_on f g part p w (running t) = elim (more_step f g part p w t) [ inl same ↦ inl same | inr stuck ↦ inr (t, stuck, stuck) ]

more : (f g : Callees) → IsPartOf f g → (p : Program) (w : World) (s : State) (n : ℕ) → (after_over f p w s n ≡ after_over g p w s n) ⊎ Waiting f p w (after_over f p w s n)
unfolding after_over
more f g part p w s zero = inl refl
more f g part p w s (suc n) = elim (more f g part p w s n) [
  | inl same ↦ elim (more_on f g part p w (after_over f p w s n)) [ inl on ↦ inl (on ∙ ap (go_on_over g p w) same) | inr waits ↦ inr waits ]
  | inr waits ↦ inr (waits.0, ap (go_on_over f p w) waits.1 ∙ waits.2, waits.2)
]

more_ends : (f g : Callees) → IsPartOf f g → (p : Program) (w : World) (s : State) (n : ℕ) (o : Outcome) → after_over f p w s n ≡ ended o → after_over g p w s n ≡ ended o
more_ends f g part p w s n o ends = elim (more f g part p w s n) [ inl same ↦ sym same ∙ ends | inr waits ↦ absurd (let e : running waits.0 ≡ ended o = sym waits.1 ∙ ends in cc (e)) ]

-- ---- finitely many replies

abbrev AgreeOn : Callees → Callees → List CallKey → Type 0
AgreeOn f g keys = AllByRecursion (λ (k : CallKey). f k ≡ g k) keys

agree_front : (f g : Callees) (keys others : List CallKey) → AgreeOn f g (keys ++ others) → AgreeOn f g keys
agree_front f g [] others all = tt
agree_front f g (k ∷ keys) others all = (all.0, agree_front f g keys others all.1)

agree_back : (f g : Callees) (keys others : List CallKey) → AgreeOn f g (keys ++ others) → AgreeOn f g others
agree_back f g [] others all = all
agree_back f g (k ∷ keys) others all = agree_back f g keys others all.1

-- the calls for which one more step asks, and those of n steps
abbrev asks_now : Program → Now → List CallKey
asks_now p (ended o) = []
asks_now p (running t) = elim (asks p t) [ None ↦ [] | Some key ↦ key ∷ [] ]

same_now : (f g : Callees) (p : Program) (w : World) (now : Now) → AgreeOn (answer f w) (answer g w) (asks_now p now) → go_on_over f p w now ≡ go_on_over g p w now
same_now f g p w (ended o) all = refl
same_now f g p w (running t) all =
    elim (asks p t) as (λ call. asks p t ≡ call → AgreeOn (answer f w) (answer g w) (elim call [ None ↦ [] | Some key ↦ key ∷ [] ]) → step_over f p w t ≡ step_over g p w t) [
      | None ↦ λ none all. same_step f g p w t (asks_none w f g (asks p t) none)
      | Some key ↦ λ one all. same_step f g p w t (asks_one w f g (asks p t) key one all.0)
    ] refl all

asks_within : Callees → Program → World → State → ℕ → List CallKey
asks_within f p w s zero = []
asks_within f p w s (suc n) = asks_within f p w s n ++ asks_now p (after_over f p w s n)

same_within : (f g : Callees) (p : Program) (w : World) (s : State) (n : ℕ) → AgreeOn (answer f w) (answer g w) (asks_within f p w s n) → after_over f p w s n ≡ after_over g p w s n
unfolding after_over asks_within
same_within f g p w s zero all = refl
same_within f g p w s (suc n) all =
    let before = same_within f g p w s n (agree_front (answer f w) (answer g w) (asks_within f p w s n) (asks_now p (after_over f p w s n)) all) in
    same_now f g p w (after_over f p w s n) (agree_back (answer f w) (answer g w) (asks_within f p w s n) (asks_now p (after_over f p w s n)) all) ∙ ap (go_on_over g p w) before

-- ---- a table, and the replies to some calls besides

abbrev Table : Type 0
Table = FinMap key_cmp Outcome

abbrev put : CallKey → Option Outcome → Table → Table
put k None m = m
put k (Some o) m = insert m k o

abbrev table : Callees → Table → List CallKey → Table
table f base [] = base
table f base (k ∷ keys) = put k (f k) (table f base keys)

is_equal : (r : Ordering) → is_eq r ≡ true → r ≡ Equal
is_equal Less e = absurd (cc)
is_equal Equal e = refl
is_equal Greater e = absurd (cc)

is_tied : CallsOrdered → (a b : CallKey) → eq_by_cmp key_cmp a b ≡ true → a ≡ b
is_tied ordered a b e = ordered.exact a b (is_equal (key_cmp a b) e)

-- what a table answers after an entry more
put_other : CallsOrdered → (m : Table) (k q : CallKey) (o : Outcome) (P : Option Outcome → Type 0) → (q ≡ k → P (Some o)) → P (get m q) → P (get (insert m k o) q)
put_other ordered m k q o P here there =
    subst P (sym (get-insert ordered.total m k o q))
    (elim (eq_by_cmp key_cmp q k) as (λ b. eq_by_cmp key_cmp q k ≡ b → P (cond b (Some o) (get m q))) [
      | true ↦ λ tied. here (is_tied ordered q k tied)
      | false ↦ λ _. there
    ] refl)

put_part : CallsOrdered → (f : Callees) (m : Table) (k : CallKey) (r : Option Outcome) → f k ≡ r → IsPartOf (get m) f → IsPartOf (get (put k r m)) f
put_part ordered f m k None is part q x e = part q x e
put_part ordered f m k (Some o) is part q x e = put_other ordered m k q o (λ y. y ≡ Some x → f q ≡ Some x) (λ same new. ap f same ∙ is ∙ new) (part q x) e

table_part : CallsOrdered → (f : Callees) (base : Table) → IsPartOf (get base) f → (keys : List CallKey) → IsPartOf (get (table f base keys)) f
table_part ordered f base part [] q x e = part q x e
table_part ordered f base part (k ∷ keys) q x e = put_part ordered f (table f base keys) k (f k) refl (table_part ordered f base part keys) q x e

-- where the callees answer as the table, it answers as before
put_same : CallsOrdered → (f : Callees) (m : Table) (k : CallKey) (r : Option Outcome) → f k ≡ r → (q : CallKey) (x : Option Outcome) → f q ≡ x → get m q ≡ x → get (put k r m) q ≡ x
put_same ordered f m k None is q x here there = there
put_same ordered f m k (Some o) is q x here there = put_other ordered m k q o (λ y. y ≡ x) (λ tied. sym is ∙ sym (ap f tied) ∙ here) there

table_same : CallsOrdered → (f : Callees) (base : Table) (keys : List CallKey) (q : CallKey) → f q ≡ get base q → get (table f base keys) q ≡ get base q
table_same ordered f base [] q same = refl
table_same ordered f base (k ∷ keys) q same = put_same ordered f (table f base keys) k (f k) refl q (get base q) same (table_same ordered f base keys q same)

-- a call of the list, and each that was there, is answered as the callees do
put_here : CallsOrdered → (f : Callees) (m : Table) (k : CallKey) (r : Option Outcome) → f k ≡ r → IsPartOf (get m) f → f k ≡ get (put k r m) k
put_here ordered f m k None is part = elim (get m k) as (λ x. get m k ≡ x → f k ≡ x) [ None ↦ λ e. is | Some o ↦ λ e. part k o e ] refl
put_here ordered f m k (Some o) is part = is ∙ sym (get-insert ordered.total m k o k ∙ ap (λ (b : Bool). cond b (Some o) (get m k)) ((eq_by_cmp_equiv ordered.total).refl k))

put_there : CallsOrdered → (f : Callees) (m : Table) (k : CallKey) (r : Option Outcome) → f k ≡ r → (q : CallKey) → f q ≡ get m q → f q ≡ get (put k r m) q
put_there ordered f m k None is q same = same
put_there ordered f m k (Some o) is q same = put_other ordered m k q o (λ y. f q ≡ y) (λ tied. ap f tied ∙ is) same

put_all : CallsOrdered → (f : Callees) (m : Table) (k : CallKey) (keys : List CallKey) → AgreeOn f (get m) keys → AgreeOn f (get (put k (f k) m)) keys
put_all ordered f m k [] all = tt
put_all ordered f m k (q ∷ keys) all = (put_there ordered f m k (f k) refl q all.0, put_all ordered f m k keys all.1)

table_all : CallsOrdered → (f : Callees) (base : Table) → IsPartOf (get base) f → (keys : List CallKey) → AgreeOn f (get (table f base keys)) keys
table_all ordered f base part [] = tt
table_all ordered f base part (k ∷ keys) =
    let m = table f base keys in
    (put_here ordered f m k (f k) refl (table_part ordered f base part keys), put_all ordered f m k keys (table_all ordered f base part keys))

-- ---- a world with such a table

abbrev with_table : World → Table → World
with_table w m = record w { calls = m }

-- with the facts of a world
abbrev SameFacts : World → Table → Type 0
SameFacts w m = (key : CallKey) → IsTrue (is_fact key.sym) → get m key ≡ get w.calls key

own_answer : (w : World) (m : Table) → SameFacts w m → (key : CallKey) → answer (get m) w key ≡ get m key
own_answer w m facts key = go (is_fact key.sym) (facts key)
  where
    go : (b : Bool) → (IsTrue b → get m key ≡ get w.calls key) → (if b then get w.calls key else get m key) ≡ get m key
    go true same = sym (same refl)
    go false same = refl

same_is : (w : World) (m : Table) → SameFacts w m → (start : FinMap loc_cmp ℤ) (class : List ℕ) (o : ℕ) → types.is w start class o ≡ types.is (with_table w m) start class o
same_is w m facts start class o = ap types.tells (sym (facts (types.is_key start class o) refl))

same_fits : (w : World) (m : Table) → SameFacts w m → (start : FinMap loc_cmp ℤ) (a v : ℕ) → types.fits w start a v ≡ types.fits (with_table w m) start a v
same_fits w m facts start a v = ap types.tells (sym (facts (types.fits_key start a v) refl))

same_store_fault : (w : World) (m : Table) → SameFacts w m → (start : FinMap loc_cmp ℤ) (a v : ℕ) → store_fault w start a v ≡ store_fault (with_table w m) start a v
same_store_fault w m facts start a zero = refl
same_store_fault w m facts start a (suc v) = ap (λ (b : Bool). if b then None else Some (fault.Thrown (literal_of w types.store_text))) (same_fits w m facts start a (suc v))

own_done : (p : Program) (w : World) (m : Table) → SameFacts w m → (s : State) (a : Action) (operands : List Num) → done_over (get m) p w s a operands ≡ done p (with_table w m) s a operands
own_done p w m facts s (act.Call d c) args = ap (option_map (called s)) (own_answer w m facts _)
own_done p w m facts s (act.CallOn d c) (num.Ref (suc r) ∷ args) = ap (option_map (called s)) (own_answer w m facts _)
own_done p w m facts s (act.Cast class) (num.Ref (suc r) ∷ []) =
    ap (λ (b : Bool). Some (if b then pushes s (num.Ref (suc r)) else throws s (fault.Thrown (literal_of w types.cast_text)))) (same_is w m facts s.heap0 class (suc r))
own_done p w m facts s (act.InstanceOf class) (num.Ref (suc r) ∷ []) =
    ap (λ (b : Bool). Some (pushes s (num.Int (if b then pos 1 else pos 0)))) (same_is w m facts s.heap0 class (suc r))
own_done p w m facts s act.StoreRef (num.Ref r ∷ num.Int i ∷ num.Ref v ∷ []) =
    ap (λ (f : Option Fault). unless s (element_fault w r i) (unless s f (keeps s (element_type w kind.Ref r) (Elem kind.Ref r i) (num.Ref v)))) (same_store_fault w m facts s.heap0 r v)
own_done p w m facts s a operands = refl

own_action : (p : Program) (w : World) (m : Table) → SameFacts w m → (s : State) (action : Option Action) → perform_at_over (get m) p w s action ≡ perform_at p (with_table w m) s action
own_action p w m facts s None = refl
own_action p w m facts s (Some a) = ap (λ (o : Option Now). unwrap_or o (running s)) (taken_same (popped sort_of (takes a) s.stack))
  where
    taken_same : (taken : Taken Num) → taken_over (get m) p w s a taken ≡ (taken >>= λ x. done p (with_table w m) (below s x.1) a x.0)
    taken_same None = refl
    taken_same (Some x) = own_done p w m facts (below s x.1) a x.0

own_on : (p : Program) (w : World) (m : Table) → SameFacts w m → (now : Now) → go_on_over (get m) p w now ≡ go_on p (with_table w m) now
own_on p w m facts (ended o) = refl
own_on p w m facts (running s) = own_action p w m facts s (slice_get p.actions s.at)

own : (p : Program) (w : World) (m : Table) → SameFacts w m → (s : State) (n : ℕ) → after_over (get m) p w s n ≡ after p (with_table w m) s n
unfolding after_over after
own p w m facts s zero = refl
own p w m facts s (suc n) = own_on p w m facts (after_over (get m) p w s n) ∙ ap (go_on p (with_table w m)) (own p w m facts s n)

-- the same of a world that differs in its replies
own_of : (p : Program) (w v : World) (s : State) (n : ℕ) → DifferInReplies w v → after_over (callees_of v) p w s n ≡ after p v s n
own_of p w v s n differ = own p w v.calls differ.facts s n ∙ ap (λ (u : World). after p u s n) (sym differ.else_same)

differ_itself : (w : World) → DifferInReplies w w
differ_itself w = record { else_same = refl; facts = λ key fact. refl }

-- ---- the laws

pub more_replies : MoreReplies
more_replies p w v differ part input o (n, ends) =
    (n, sym (own_of p w v (start p input) n differ) ∙ more_ends (callees_of w) (callees_of v) part p w (start p input) n o (own_of p w w (start p input) n (differ_itself w) ∙ ends))

pub over_its_own : OverItsOwn
over_its_own p w input o = ((λ run. (run.0, sym (own_of p w w (start p input) run.0 (differ_itself w)) ∙ run.1)), (λ run. (run.0, own_of p w w (start p input) run.0 (differ_itself w) ∙ run.1)))

pub finitely_many_replies : CallsOrdered → FinitelyManyReplies
finitely_many_replies ordered callees p w more input o = (to_world, from_world)
  where
    said : Callees
    said = answer callees w

    base : IsPartOf (get w.calls) said
    base key o is = by_fact (λ r. r ≡ Some o) (is_fact key.sym) (get w.calls key) (callees key) is (more key o is)

    told : (key : CallKey) → IsTrue (is_fact key.sym) → said key ≡ get w.calls key
    told key fact = ap (λ (b : Bool). if b then get w.calls key else callees key) fact

    theirs : IsPartOf said callees
    theirs key o is = go (is_fact key.sym) is
      where
        go : (b : Bool) → (if b then get w.calls key else callees key) ≡ Some o → callees key ≡ Some o
        go true e = more key o e
        go false e = e

    again : (m : Table) (key : CallKey) → said key ≡ get m key → said key ≡ answer (get m) w key
    again m key same = go (is_fact key.sym) same
      where
        go : (b : Bool) → (if b then get w.calls key else callees key) ≡ get m key → (if b then get w.calls key else callees key) ≡ (if b then get w.calls key else get m key)
        go true e = refl
        go false e = e

    all_again : (m : Table) (keys : List CallKey) → AgreeOn said (get m) keys → AgreeOn said (answer (get m) w) keys
    all_again m [] all = tt
    all_again m (k ∷ keys) all = (again m k all.0, all_again m keys all.1)

    to_world : RunEndsOver callees p w input o → (v : World) × HasRepliesOf callees w v × RunEnds p v input o
    to_world (n, ends) =
        let s = start p input in
        let keys = asks_within callees p w s n in
        let m = table said w.calls keys in
        let facts : SameFacts w m = λ key fact. table_same ordered said w.calls keys key (told key fact) in
        let agree = all_again m keys (table_all ordered said w.calls base keys) in (
          with_table w m,
          record { differ = record { else_same = refl; facts = facts }; part = λ key o is. theirs key o (table_part ordered said w.calls base keys key o is) },
          (n, sym (own p w m facts s n) ∙ sym (same_within callees (get m) p w s n agree) ∙ ends),
        )

    from_world : (v : World) × HasRepliesOf callees w v × RunEnds p v input o → RunEndsOver callees p w input o
    from_world (v, has, (n, ends)) =
        let s = start p input in
        (n, more_ends (callees_of v) callees has.part p w s n o (own_of p w v s n has.differ ∙ ends))

-- a world with replies of such callees is one
still_world : (callees : Callees) (w v : World) → AreCallees callees → IsWorld w → HasRepliesOf callees w v → IsWorld v
still_world callees w v are world has =
    subst IsWorld (sym has.differ.else_same) (record { lengths = world.lengths; booleans = world.booleans; literals = world.literals; calls = λ key o e. are key o (has.part key o e) })

carried : CallsOrdered → (file : ClassFile) (m : Method) (file' : ClassFile) (m' : Method) (callees : Callees) (w : World) → IsPartOf (callees_of w) callees → (input : Input) (o : Outcome) → ((v : World) → HasRepliesOf callees w v → Ends file m v input o → Ends file' m' v input o)
    → EndsOver callees file m w input o → EndsOver callees file' m' w input o
carried ordered file m file' m' callees w more input o same ends =
    let there = (finitely_many_replies ordered callees ends.program w more input o).0 ends.run in
    let v = there.0 in
    let other = same v there.1 (record { program = ends.program; is = ends.is; run = there.2 }) in
    record { program = other.program; is = other.is; run = (finitely_many_replies ordered callees other.program w more input o).1 (v, there.1, other.run) }

pub same_over_callees : CallsOrdered → SameOverCallees
same_over_callees ordered file m file' m' same callees are d typed w world more input fits o = (
  carried ordered file m file' m' callees w more input o (λ v has. (same d typed v (still_world callees w v are world has) input fits o).0),
  carried ordered file' m' file m callees w more input o (λ v has. (same d typed v (still_world callees w v are world has) input fits o).1),
)
