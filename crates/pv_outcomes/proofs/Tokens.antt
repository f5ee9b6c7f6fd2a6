-- The tokens at the exits of a block: each has a value, or is that of a call whose arguments have values.
use Rattle.std.proofs.Common.{◌≡◌, ℕ, suc, Bool, true, false, List, [], ◌∷◌, Option, Some, None, refl, ap, sym, subst, ◌∙◌, inl, inr, if◌then◌else◌}
use Rattle.pv_outcomes.proofs.Words.{◌⊎◌, ◌>>=◌, Sym, JType, World, Input, Val, Case, Action, Taken, popped, takes, Program, some_of, State, Part, Parts, Of, NoPart, More, call_token, Exit, Chain, Leave, InChain, PartIs, PartsAre, Cell, Held, cell_sort, call_parts, acted_on, to, branch, switch, unless_thrown, test_part, chain_with, given_chain, last_chain, ends_method, chain_of, Kept, acted_token, bound, mapped}
use Rattle.pv_value.specs.declared.outcome.Val.TheVariants as val
use Rattle.pv_frame.specs.declared.action.Action.TheVariants as act
use Rattle.pv_equations.specs.Flow as flow
use Rattle.pv_outcomes.proofs.Values.{numbers_of, parts_are}
use Rattle.pv_outcomes.proofs.Acts.{M, takes_both}

-- each exit of a chain
record Each (h : Held) (cells : List Cell) (c : Chain) : Type 0 where
  at : (e : Exit) → InChain c e → Kept h cells (e.slots 0)

each_is : (h : Held) (cells : List Cell) (c d : Chain) → Each h cells c → Some c ≡ Some d → Each h cells d
each_is h cells c d k e = subst (Each h cells) (some_of _ _ e) k

leave_each : (h : Held) (cells : List Cell) (n : Exit) → Kept h cells (n.slots 0) → Each h cells (Leave n)
leave_each h cells n k = record { at = λ e i. subst (λ (e : Exit). Kept h cells (e.slots 0)) i k }

test_each : (h : Held) (cells : List Cell) (t : Part) (n : Exit) (c : Chain) → Kept h cells (n.slots 0) → Each h cells c → Each h cells (flow.Test t n c)
test_each h cells t n c k r = record { at = go }
  where
    go : (e : Exit) → (n ≡ e) ⊎ InChain c e → Kept h cells (e.slots 0)
    go e (inl i) = subst (λ (e : Exit). Kept h cells (e.slots 0)) i k
    go e (inr i) = r.at e i

branch_each : (h : Held) (cells : List Cell) (q : Part × Bool) (target n : Exit) → Kept h cells (target.slots 0) → Kept h cells (n.slots 0) → Each h cells (branch q target n)
branch_each h cells (t, true) target n k l = test_each h cells t target (Leave n) k (leave_each h cells n l)
branch_each h cells (t, false) target n k l = test_each h cells t n (Leave target) l (leave_each h cells target k)

switch_each : (h : Held) (cells : List Cell) (q : Part) (default : ℕ) (cases : List Case) → Each h cells (switch q default cases h)
switch_each h cells q default [] = leave_each h cells (to default h) (inl refl)
switch_each h cells q default (c ∷ cases) = test_each h cells _ (to c.target h) (switch q default cases h) (inl refl) (switch_each h cells q default cases)

thrown_each : (h : Held) (f : Sym) (cells : List Cell) (n : Exit) → Kept h cells (n.slots 0) → Each h cells (unless_thrown f h cells n)
thrown_each h f cells n k = test_each h cells _ n _ k (leave_each h cells _ (inr (f, refl)))

next_each : (r : Option JType) (a : Action) (h g : Held) (cells : List Cell) (k : ℕ) (c : Chain) → Kept h cells g.token → chain_with r a h cells (to k g) ≡ Some c → Each h cells c
next_each r (act.Branch t target) h g cells k c y e = let q = mapped (λ (x : Part × Bool). branch x (to target h) (to k g)) (test_part t cells) c e in subst (Each h cells) q.2 (branch_each h cells q.0 (to target h) (to k g) (inl refl) y)
next_each r (act.Jump target) h g cells k c y e = each_is h cells _ c (leave_each h cells (to target h) (inl refl)) e
next_each r (act.Switch default cases) h g (x ∷ []) k c y e = each_is h (x ∷ []) _ c (switch_each h (x ∷ []) x.part default cases) e
next_each r (act.Divide o) h g (a ∷ b ∷ []) k c y e = each_is h (a ∷ b ∷ []) _ c (test_each h (a ∷ b ∷ []) _ _ _ (inl refl) (leave_each h (a ∷ b ∷ []) (to k g) y)) e
next_each r (act.GetField t f) h g (o ∷ []) k c y e = each_is h (o ∷ []) _ c (test_each h (o ∷ []) _ _ _ (inl refl) (leave_each h (o ∷ []) (to k g) y)) e
next_each r (act.PutField t f) h g (o ∷ x ∷ []) k c y e = each_is h (o ∷ x ∷ []) _ c (test_each h (o ∷ x ∷ []) _ _ _ (inl refl) (leave_each h (o ∷ x ∷ []) (to k g) y)) e
next_each r act.Length h g (o ∷ []) k c y e = each_is h (o ∷ []) _ c (test_each h (o ∷ []) _ _ _ (inl refl) (leave_each h (o ∷ []) (to k g) y)) e
next_each r (act.LoadElement z) h g (a ∷ i ∷ []) k c y e =
    each_is h (a ∷ i ∷ []) _ c (test_each h (a ∷ i ∷ []) _ _ _ (inl refl) (test_each h (a ∷ i ∷ []) _ _ _ (inl refl) (test_each h (a ∷ i ∷ []) _ (to k g) _ y (leave_each h (a ∷ i ∷ []) _ (inl refl))))) e
next_each r (act.StoreElement z) h g (a ∷ i ∷ x ∷ []) k c y e =
    each_is h (a ∷ i ∷ x ∷ []) _ c (test_each h (a ∷ i ∷ x ∷ []) _ _ _ (inl refl) (test_each h (a ∷ i ∷ x ∷ []) _ _ _ (inl refl) (test_each h (a ∷ i ∷ x ∷ []) _ (to k g) _ y (leave_each h (a ∷ i ∷ x ∷ []) _ (inl refl))))) e
next_each r act.StoreRef h g (a ∷ i ∷ v ∷ []) k c y e =
    let cells : List Cell = a ∷ i ∷ v ∷ [] in
    each_is h cells _ c
    (test_each h cells _ _ _ (inl refl) (test_each h cells _ _ _ (inl refl) (test_each h cells _ _ _ (inl refl) (test_each h cells _ (to k g) _ y (test_each h cells _ (to k g) _ y (leave_each h cells _ (inl refl))))))) e
next_each r (act.Cast class) h g (o ∷ []) k c y e = each_is h (o ∷ []) _ c (test_each h (o ∷ []) _ (to k g) _ y (test_each h (o ∷ []) _ (to k g) _ y (leave_each h (o ∷ []) _ (inl refl)))) e
next_each r (act.InstanceOf class) h g (o ∷ []) k c y e = each_is h (o ∷ []) _ c (test_each h (o ∷ []) _ (to k g) _ y (test_each h (o ∷ []) _ _ _ (inl refl) (leave_each h (o ∷ []) (to k g) y))) e
next_each r (act.Call d f) h g cells k c y e = each_is h cells _ c (thrown_each h f cells (to k g) y) e
next_each r (act.CallOn d f) h g (o ∷ cells) k c y e = each_is h (o ∷ cells) _ c (test_each h (o ∷ cells) _ _ _ (inl refl) (thrown_each h f (o ∷ cells) (to k g) y)) e
next_each r act.Nop h g cells k c y e = each_is h cells _ c (leave_each h cells (to k g) y) e
next_each r (act.Push n) h g cells k c y e = each_is h cells _ c (leave_each h cells (to k g) y) e
next_each r (act.Literal text) h g cells k c y e = each_is h cells _ c (leave_each h cells (to k g) y) e
next_each r (act.Load s n) h g cells k c y e = each_is h cells _ c (leave_each h cells (to k g) y) e
next_each r (act.Store s n) h g cells k c y e = each_is h cells _ c (leave_each h cells (to k g) y) e
next_each r (act.Increase n by) h g cells k c y e = each_is h cells _ c (leave_each h cells (to k g) y) e
next_each r (act.Move m) h g cells k c y e = each_is h cells _ c (leave_each h cells (to k g) y) e
next_each r (act.Scalar o) h g cells k c y e = each_is h cells _ c (leave_each h cells (to k g) y) e
next_each r (act.GetStatic t f) h g cells k c y e = each_is h cells _ c (leave_each h cells (to k g) y) e
next_each r (act.PutStatic t f) h g cells k c y e = each_is h cells _ c (leave_each h cells (to k g) y) e
next_each r a h g cells k c y e = absurd (cc)

given_each : (r : Option JType) (h : Held) (cells : List Cell) (c : Chain) → given_chain r h cells ≡ Some c → Each h cells c
given_each (Some t) h (q ∷ []) c e = each_is h (q ∷ []) _ c (leave_each h (q ∷ []) _ (inl refl)) e
given_each None h [] c e = each_is h [] _ c (leave_each h [] _ (inl refl)) e
given_each r h cells c e = absurd (cc)

last_each : (r : Option JType) (a : Action) (h : Held) (cells : List Cell) (k : ℕ) (c : Chain) → (if ends_method a then last_chain r a h cells else acted_on a h cells >>= λ g. chain_with r a h cells (to (suc k) g)) ≡ Some c → Each h cells c
last_each r (act.Give s) h cells k c e = given_each r h cells c e
last_each r act.Throw h (x ∷ []) k c e = each_is h (x ∷ []) _ c (test_each h (x ∷ []) _ _ _ (inl refl) (leave_each h (x ∷ []) _ (inl refl))) e
last_each r act.Throw h [] k c e = absurd (cc)
last_each r act.Throw h (x ∷ y ∷ cells) k c e = absurd (cc)
last_each r a h cells k c e = let b = bound (acted_on a h cells) (λ g. chain_with r a h cells (to (suc k) g)) c e in next_each r a h b.0 cells (suc k) c (acted_token a h b.0 cells b.1) b.2

module _ (p : Program) (w : World) (x : Input) (σ : ℕ → Val) where
  -- the token has a value, or is that of a call whose arguments have values
  abbrev pub IsToken : Part → Type 0
  IsToken q = ((u : Val) × PartIs w x σ q u) ⊎ ((f : Sym) × (ps : Parts) × (us : List Val) × (q ≡ call_token f ps) × PartsAre w x σ ps us)

  pub last_tokens : (a : Action) (s : State) (h : Held) (k : ℕ) (c : Chain) → M p w x σ s h → chain_of p.desc.result k a h ≡ Some c → (e : Exit) → InChain c e → IsToken (e.slots 0)
  last_tokens a s h k c m d e i = go (popped cell_sort (takes a) h.stack) refl d
    where
      go : (o : Taken Cell) → popped cell_sort (takes a) h.stack ≡ o
          → (o >>= λ q. (if ends_method a then last_chain p.desc.result a (record h { stack = q.1 }) q.0 else acted_on a (record h { stack = q.1 }) q.0 >>= λ g. chain_with p.desc.result a (record h { stack = q.1 }) q.0 (to (suc k) g))) ≡ Some c
          → IsToken (e.slots 0)
      go None f d = absurd (cc)
      go (Some q) f d = pick ((last_each p.desc.result a (record h { stack = q.1 }) q.0 k c d).at e i)
        where
          pick : Kept (record h { stack = q.1 }) q.0 (e.slots 0) → IsToken (e.slots 0)
          pick (inl z) = inl (val.Unit, subst (λ (q : Part). PartIs w x σ q val.Unit) (sym z) m.token)
          pick (inr z) =
              let t = takes_both p w x σ a s h q m f in
              inr (z.0, call_parts (record h { stack = q.1 }) q.0, val.Heap s.heap ∷ numbers_of t.nums, z.1, (val.Heap s.heap, numbers_of t.nums, m.heap, parts_are w x σ t.nums q.0 t.operands, refl))

  parts_under : Part → Parts
  parts_under (Of o i (More a (More (Of q j ps) NoPart))) = ps
  parts_under q = NoPart

  -- the arguments of the call of a token
  pub token_arguments : (q : Part) (c : Sym) (ps : Parts) → IsToken q → q ≡ call_token c ps → (us : List Val) × PartsAre w x σ ps us
  unfolding parts_under
  token_arguments q c ps (inl t) e = let y = subst (λ (q : Part). PartIs w x σ q t.0) e t.1 in (y.1.3.2.0, y.1.3.2.1)
  token_arguments q c ps (inr t) e = (t.2, subst (λ (ps : Parts). PartsAre w x σ ps t.2) (ap parts_under (sym t.3 ∙ e)) t.4)
