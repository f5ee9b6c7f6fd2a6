-- More fuel keeps a value, a node has at most one, and den gives exactly what the operations mean.
use Rattle.std.specs.Prelude.{◌≡◌, ◌⊎◌, ℕ, zero, suc, ◌+◌, ◌-◌, ◌<◌, ◌≤◌, Bool, true, false, List, [], ◌∷◌, Option, Some, None, if◌then◌else◌, refl}
use Rattle.std.specs.List.{AllZip}
use Rattle.std.proofs.Common.{inl, inr, sym, ap, ◌∙◌, subst, arith, le_refl}
use Rattle.pv_value.specs.Spelled.{bind}
use Rattle.pv_value.specs.declared.world.World.{World}
use Rattle.pv_value.specs.declared.heap.Heap.{Heap}
use Rattle.pv_value.specs.declared.outcome.Input.{Input}
use Rattle.pv_value.specs.declared.outcome.Fault.{Fault}
use Rattle.pv_value.specs.declared.outcome.Fault.TheVariants as fault
use Rattle.pv_value.specs.declared.outcome.Val.{Val}
use Rattle.pv_value.specs.declared.outcome.Val.TheVariants as val
use Rattle.pv_graph.specs.declared.node.Op.{Op}
use Rattle.pv_graph.specs.Ops.{Shape, plain, choice, theta, eval, pass, shift, root, shape}
use Rattle.pv_graph.specs.Forms.{Form, form}
use Rattle.pv_denote.specs.Denote.{Index, at_depth, values, truth, count_of, unit_of, fault_of, heap_of, result_of, by_iteration, looked, ending, shaped, formed, den, looks, Value}
use Rattle.pv_graph.proofs.Cited.{bind_some}
use Rattle.pv_denote.specs.Means.{IsTrueAt, PassFrom, Ending, Means}

-- ---- more fuel

-- where the one has something, the other has it too
abbrev pub IsKept : {A : Type 0} → Option A → Option A → Type 0
IsKept {A} o p = (a : A) → o ≡ Some a → p ≡ Some a

pub bind_kept : {A B : Type 0} (o p : Option A) (f h : A → Option B) → IsKept o p → ((a : A) → IsKept (f a) (h a)) → IsKept (bind o f) (bind p h)
bind_kept None p f h k l b e = absurd (cc)
bind_kept (Some a) p f h k l b e = rw (k a refl) (l a b e)

pub values_kept : {N : Type 0} (kid kid' : N → Option Val) (ks : List N) → ((k : N) → IsKept (kid k) (kid' k)) → IsKept (values kid ks) (values kid' ks)
values_kept kid kid' [] more v e = e
values_kept kid kid' (k ∷ ks) more v e = bind_kept _ _ _ _ (more k) (λ a. bind_kept _ _ _ _ (values_kept kid kid' ks more) (λ vs u same. same)) v e

pub looked_kept : (j : ℕ) (t : Bool) (later later' : ℕ → Option Val) → ((l : ℕ) → IsKept (later l) (later' l)) → IsKept (looked j t later) (looked j t later')
looked_kept j true later later' more v e = e
looked_kept j false later later' more v e = more (suc j) v e

test_kept : (j : ℕ) (test test' : Option Val) (later later' : ℕ → Option Val) → IsKept test test' → ((l : ℕ) → IsKept (later l) (later' l))
    → IsKept (bind test (λ v. bind (truth v) (λ t. looked j t later))) (bind test' (λ v. bind (truth v) (λ t. looked j t later')))
test_kept j test test' later later' kept more = bind_kept test test' _ _ kept (λ u. bind_kept (truth u) (truth u) _ _ (λ a e. e) (λ t. looked_kept j t later later' more))

by_iteration_kept : {N : Type 0} (ev ev' : N → Index → Option Val) → ((k : N) (i : Index) → IsKept (ev k i) (ev' k i)) → (d : ℕ) (a b : N) (i : Index) (n : ℕ) → IsKept (by_iteration ev d a b i n) (by_iteration ev' d a b i n)
by_iteration_kept ev ev' more d a b i zero = more a i
by_iteration_kept ev ev' more d a b i (suc k) = more b (at_depth i d k)

ending_kept : {N : Type 0} (ev ev' : N → Index → Option Val) → ((k : N) (i : Index) → IsKept (ev k i) (ev' k i)) → (r : N) (i : Index) (h : Heap) (e : Fault) → IsKept (ending ev r i h e) (ending ev' r i h e)
ending_kept ev ev' more r i h fault.Clear = bind_kept _ _ _ _ (more r i) (λ v u same. same)
ending_kept ev ev' more r i h e = λ v same. same

-- where kids keep their values, so does the operation
shaped_kept : {N : Type 0} (w : World) (x : Input) (ev ev' : N → Index → Option Val) (later later' : ℕ → N → Index → ℕ → Option Val)
    → ((k : N) (i : Index) → IsKept (ev k i) (ev' k i)) → ((d : ℕ) (c : N) (i : Index) (j : ℕ) → IsKept (later d c i j) (later' d c i j))
    → (s : Shape) (o : Op) (ks : List N) (i : Index) → IsKept (shaped w x ev later s o ks i) (shaped w x ev' later' s o ks i)
shaped_kept w x ev ev' later later' p q plain o ks i = bind_kept _ _ _ _ (values_kept (λ k. ev k i) (λ k. ev' k i) ks (λ k. p k i)) (λ vs v same. same)
shaped_kept w x ev ev' later later' p q choice o (c ∷ a ∷ b ∷ []) i = bind_kept (ev c i) _ _ _ (p c i) (λ v. bind_kept (truth v) _ _ _ (λ t same. same) (λ t. p (if t then a else b) i))
shaped_kept w x ev ev' later later' p q (theta d) o (a ∷ b ∷ []) i = by_iteration_kept ev ev' p d a b i (i d)
shaped_kept w x ev ev' later later' p q (eval d) o (a ∷ n ∷ []) i = bind_kept (ev n i) _ _ _ (p n i) (λ v. bind_kept (count_of v) _ _ _ (λ k same. same) (λ k. p a (at_depth i d k)))
shaped_kept w x ev ev' later later' p q (pass d) o (c ∷ []) i = test_kept 0 (ev c (at_depth i d 0)) (ev' c (at_depth i d 0)) (later d c i) (later' d c i) (p c (at_depth i d 0)) (q d c i)
shaped_kept w x ev ev' later later' p q (shift d) o (a ∷ []) i = p a (at_depth i d (suc (i d)))
shaped_kept w x ev ev' later later' p q root o (t ∷ f ∷ r ∷ h ∷ []) i =
    bind_kept (ev t i) _ _ _ (p t i) (λ u. bind_kept (unit_of u) _ _ _ (λ v e. e) (λ _. bind_kept (ev f i) _ _ _ (p f i) (λ y. bind_kept (fault_of y) _ _ _ (λ v e. e) (λ n.
    bind_kept (ev h i) _ _ _ (p h i) (λ z. bind_kept (heap_of z) _ _ _ (λ v e. e) (λ m. ending_kept ev ev' p r i m n))))))
shaped_kept w x ev ev' later later' p q s o ks i = λ v e. absurd (cc)

formed_kept : {N : Type 0} (w : World) (x : Input) (ev ev' : N → Index → Option Val) (later later' : ℕ → N → Index → ℕ → Option Val)
    → ((k : N) (i : Index) → IsKept (ev k i) (ev' k i)) → ((d : ℕ) (c : N) (i : Index) (j : ℕ) → IsKept (later d c i j) (later' d c i j))
    → (i : Index) (fm : Form N) → IsKept (formed w x ev later i fm) (formed w x ev' later' i fm)
formed_kept w x ev ev' later later' p q i (form o ks) = shaped_kept w x ev ev' later later' p q (shape o) o ks i

mutual
  unfolding den

  -- one unit of fuel more keeps a value
  pub den_more : {N : Type 0} (view : N → Option (Form N)) (w : World) (x : Input) (fuel : ℕ) (n : N) (i : Index) → IsKept (den view w x fuel n i) (den view w x (suc fuel) n i)
  den_more view w x zero n i = λ v e. absurd (cc)
  den_more view w x (suc fuel) n i =
      bind_kept (view n) (view n) _ _ (λ fm same. same)
      (formed_kept w x (den view w x fuel) (den view w x (suc fuel)) (looks view w x fuel) (looks view w x (suc fuel))
      (λ k e. den_more view w x fuel k e) (λ d c e j. looks_more view w x fuel d c e j) i)

  pub looks_more : {N : Type 0} (view : N → Option (Form N)) (w : World) (x : Input) (fuel d : ℕ) (c : N) (i : Index) (j : ℕ) → IsKept (looks view w x fuel d c i j) (looks view w x (suc fuel) d c i j)
  looks_more view w x zero d c i j = λ v e. absurd (cc)
  looks_more view w x (suc fuel) d c i j =
      test_kept j (den view w x fuel c (at_depth i d j)) (den view w x (suc fuel) c (at_depth i d j)) (looks view w x fuel d c i) (looks view w x (suc fuel) d c i)
      (den_more view w x fuel c (at_depth i d j)) (λ l. looks_more view w x fuel d c i l)

pub den_plus : {N : Type 0} (view : N → Option (Form N)) (w : World) (x : Input) (k fuel : ℕ) (n : N) (i : Index) → IsKept (den view w x fuel n i) (den view w x (k + fuel) n i)
den_plus view w x zero fuel n i v e = subst (λ (m : ℕ). den view w x m n i ≡ Some v) (omega arith) e
den_plus view w x (suc k) fuel n i v e =
    let next : suc (k + fuel) ≡ suc k + fuel = omega arith in
    subst (λ (m : ℕ). den view w x m n i ≡ Some v) next (den_more view w x (k + fuel) n i v (den_plus view w x k fuel n i v e))

looks_plus : {N : Type 0} (view : N → Option (Form N)) (w : World) (x : Input) (k fuel d : ℕ) (c : N) (i : Index) (j : ℕ) → IsKept (looks view w x fuel d c i j) (looks view w x (k + fuel) d c i j)
looks_plus view w x zero fuel d c i j v e = subst (λ (m : ℕ). looks view w x m d c i j ≡ Some v) (omega arith) e
looks_plus view w x (suc k) fuel d c i j v e =
    let next : suc (k + fuel) ≡ suc k + fuel = omega arith in
    subst (λ (m : ℕ). looks view w x m d c i j ≡ Some v) next (looks_more view w x (k + fuel) d c i j v (looks_plus view w x k fuel d c i j v e))

-- more fuel keeps a value
pub den_later : {N : Type 0} (view : N → Option (Form N)) (w : World) (x : Input) (fuel later : ℕ) (n : N) (i : Index) → fuel ≤ later → IsKept (den view w x fuel n i) (den view w x later n i)
den_later view w x fuel later n i le v e =
    let plus : (later - fuel) + fuel ≡ later = omega arith in
    subst (λ (m : ℕ). den view w x m n i ≡ Some v) plus (den_plus view w x (later - fuel) fuel n i v e)

looks_later : {N : Type 0} (view : N → Option (Form N)) (w : World) (x : Input) (fuel later d : ℕ) (c : N) (i : Index) (j : ℕ) → fuel ≤ later → IsKept (looks view w x fuel d c i j) (looks view w x later d c i j)
looks_later view w x fuel later d c i j le v e =
    let plus : (later - fuel) + fuel ≡ later = omega arith in
    subst (λ (m : ℕ). looks view w x m d c i j ≡ Some v) plus (looks_plus view w x (later - fuel) fuel d c i j v e)

-- a node has at most one value
pub value_once : {N : Type 0} (view : N → Option (Form N)) (w : World) (x : Input) (n : N) (i : Index) (u v : Val) → Value view w x n i u → Value view w x n i v → u ≡ v
value_once view w x n i u v p q =
    let a = den_later view w x p.0 (p.0 + q.0) n i (omega arith) u p.1 in
    let b = den_later view w x q.0 (p.0 + q.0) n i (omega arith) v q.1 in
    cc (a, b)

-- ---- what den gives is what the operations mean

-- the values that this fuel gives
abbrev pub With : {N : Type 0} → (N → Option (Form N)) → World → Input → ℕ → N → Index → Val → Type 0
With view w x fuel n i v = den view w x fuel n i ≡ Some v

true_more : {N : Type 0} (R S : N → Index → Val → Type 0) → ((k : N) (i : Index) (v : Val) → R k i v → S k i v) → (t : Bool) (c : N) (i : Index) → IsTrueAt R t c i → IsTrueAt S t c i
true_more R S p t c i h = (h.0, p c i h.0 h.1, h.2)

pass_more : {N : Type 0} (R S : N → Index → Val → Type 0) → ((k : N) (i : Index) (v : Val) → R k i v → S k i v) → (d : ℕ) (c : N) (i : Index) (j : ℕ) (v : Val) → PassFrom R d c i j v → PassFrom S d c i j v
pass_more R S p d c i j v o = record {
  k = o.k;
  count = o.count;
  low = o.low;
  ends = true_more R S p true c (at_depth i d o.k) o.ends;
  goes_on = λ l a b. true_more R S p false c (at_depth i d l) (o.goes_on l a b);
}

next_or_same : (j l : ℕ) → j ≤ l → (j ≡ l) ⊎ (suc j ≤ l)
next_or_same j l le = grind arith

-- a look at iteration j, and then those from the next one on
pass_cases : {N : Type 0} (R : N → Index → Val → Type 0) (d : ℕ) (c : N) (i : Index) (j : ℕ) (test : Option Val) (later : ℕ → Option Val) (v : Val)
    → ((u : Val) → test ≡ Some u → R c (at_depth i d j) u) → ((u : Val) → later (suc j) ≡ Some u → PassFrom R d c i (suc j) u)
    → bind test (λ u. bind (truth u) (λ t. looked j t later)) ≡ Some v → PassFrom R d c i j v
pass_cases R d c i j test later v p q e =
    let s = bind_some test _ v e in
    let t = bind_some (truth s.0) _ v s.2 in
    go s.0 (p s.0 s.1) t.0 t.1 t.2
  where
    earlier : (u : Val) → R c (at_depth i d j) u → truth u ≡ Some false → (k : ℕ) → ((l : ℕ) → suc j ≤ l → l < k → IsTrueAt R false c (at_depth i d l)) → (l : ℕ) → l < k → (j ≡ l) ⊎ (suc j ≤ l) → IsTrueAt R false c (at_depth i d l)
    earlier u r f k old l b (inl z) = subst (λ (m : ℕ). IsTrueAt R false c (at_depth i d m)) z (u, r, f)
    earlier u r f k old l b (inr z) = old l z b

    go : (u : Val) → R c (at_depth i d j) u → (t : Bool) → truth u ≡ Some t → looked j t later ≡ Some v → PassFrom R d c i j v
    go u r true f z = record { k = j; count = cc; low = le_refl j; ends = (u, r, f); goes_on = λ l a b. absurd (omega arith) }
    go u r false f z =
        let o = q v z in
        record { k = o.k; count = o.count; low = omega (arith, o.low); ends = o.ends; goes_on = λ l a b. earlier u r f o.k o.goes_on l b (next_or_same j l a) }

looks_say : {N : Type 0} (view : N → Option (Form N)) (w : World) (x : Input) (fuel d : ℕ) (c : N) (i : Index) (j : ℕ) (v : Val) → looks view w x fuel d c i j ≡ Some v → PassFrom (With view w x fuel) d c i j v
unfolding den
looks_say view w x zero d c i j v e = absurd (cc)
looks_say view w x (suc fuel) d c i j v e =
    pass_cases (With view w x (suc fuel)) d c i j (den view w x fuel c (at_depth i d j)) (looks view w x fuel d c i) v
    (λ u z. den_more view w x fuel c (at_depth i d j) u z)
    (λ u z. pass_more (With view w x fuel) (With view w x (suc fuel)) (λ k l. den_more view w x fuel k l) d c i (suc j) u (looks_say view w x fuel d c i (suc j) u z))
    e

values_say : {N : Type 0} (kid : N → Option Val) (ks : List N) (vs : List Val) → values kid ks ≡ Some vs → AllZip (λ k u. kid k ≡ Some u) ks vs
values_say kid [] [] e = tt
values_say kid [] (v ∷ vs) e = absurd (cc)
values_say kid (k ∷ ks) vs e =
    let a = bind_some (kid k) _ vs e in
    let b = bind_some (values kid ks) _ vs a.2 in
    let whole : a.0 ∷ b.0 ≡ vs = (let z = b.2 in cc) in
    subst (λ (us : List Val). AllZip (λ k u. kid k ≡ Some u) (k ∷ ks) us) whole (a.1, values_say kid ks b.0 b.1)

by_iteration_says : {N : Type 0} (ev : N → Index → Option Val) (d : ℕ) (a b : N) (i : Index) (n : ℕ) (v : Val) → by_iteration ev d a b i n ≡ Some v
    → ((n ≡ 0) × (ev a i ≡ Some v)) ⊎ ((k : ℕ) × (n ≡ suc k) × (ev b (at_depth i d k) ≡ Some v))
by_iteration_says ev d a b i zero v e = inl (refl, e)
by_iteration_says ev d a b i (suc k) v e = inr (k, refl, e)

count_says : (u : Val) (k : ℕ) → count_of u ≡ Some k → u ≡ val.Count k
count_says (val.Count j) k e = cc
count_says u k e = absurd (cc)

fault_says : (u : Val) (f : Fault) → fault_of u ≡ Some f → u ≡ val.Fault f
fault_says (val.Fault g) f e = cc
fault_says u f e = absurd (cc)

heap_says : (u : Val) (h : Heap) → heap_of u ≡ Some h → u ≡ val.Heap h
heap_says (val.Heap g) h e = cc
heap_says u h e = absurd (cc)

unit_says : (u : Val) (z : Unit {0}) → unit_of u ≡ Some z → u ≡ val.Unit
unit_says val.Unit z e = refl
unit_says u z e = absurd (cc)

ending_says : {N : Type 0} (ev : N → Index → Option Val) (r : N) (i : Index) (h : Heap) (f : Fault) (v : Val) → ending ev r i h f ≡ Some v → Ending (λ k j u. ev k j ≡ Some u) r i f h v
ending_says ev r i h fault.Clear v e =
    let a = bind_some (ev r i) _ v e in
    let b = bind_some (result_of a.0) _ v a.2 in
    (a.0, b.0, a.1, b.1, let z = b.2 in cc)
ending_says ev r i h f v e = cc

-- an operation's value is as it means, where the later looks of a pass are
shaped_says : {N : Type 0} (w : World) (x : Input) (ev : N → Index → Option Val) (later : ℕ → N → Index → ℕ → Option Val)
    → ((d : ℕ) (c : N) (i : Index) (j : ℕ) (v : Val) → later d c i j ≡ Some v → PassFrom (λ k e u. ev k e ≡ Some u) d c i j v)
    → (s : Shape) (o : Op) (ks : List N) (i : Index) (v : Val) → shaped w x ev later s o ks i ≡ Some v → Means w x (λ k e u. ev k e ≡ Some u) s o ks i v
shaped_says w x ev later p plain o ks i v e =
    let a = bind_some (values (λ k. ev k i) ks) _ v e in
    (a.0, values_say (λ k. ev k i) ks a.0 a.1, a.2)
shaped_says w x ev later p choice o (c ∷ a ∷ b ∷ []) i v e =
    let s = bind_some (ev c i) _ v e in
    let t = bind_some (truth s.0) _ v s.2 in
    (t.0, (s.0, s.1, t.1), t.2)
shaped_says w x ev later p (theta d) o (a ∷ b ∷ []) i v e = by_iteration_says ev d a b i (i d) v e
shaped_says w x ev later p (eval d) o (a ∷ n ∷ []) i v e =
    let s = bind_some (ev n i) _ v e in
    let t = bind_some (count_of s.0) _ v s.2 in
    (t.0, s.1 ∙ ap Some (count_says s.0 t.0 t.1), t.2)
shaped_says w x ev later p (pass d) o (c ∷ []) i v e =
    pass_cases (λ k e u. ev k e ≡ Some u) d c i 0 (ev c (at_depth i d 0)) (later d c i) v (λ u z. z) (λ u z. p d c i 1 u z) e
shaped_says w x ev later p (shift d) o (a ∷ []) i v e = e
shaped_says w x ev later p root o (t ∷ f ∷ r ∷ h ∷ []) i v e =
    let a = bind_some (ev t i) _ v e in
    let b = bind_some (unit_of a.0) _ v a.2 in
    let c = bind_some (ev f i) _ v b.2 in
    let d = bind_some (fault_of c.0) _ v c.2 in
    let y = bind_some (ev h i) _ v d.2 in
    let m = bind_some (heap_of y.0) _ v y.2 in
    (d.0, m.0, a.1 ∙ ap Some (unit_says a.0 b.0 b.1), c.1 ∙ ap Some (fault_says c.0 d.0 d.1), y.1 ∙ ap Some (heap_says y.0 m.0 m.1), ending_says ev r i m.0 d.0 v m.2)
shaped_says w x ev later p s o ks i v e = absurd (cc)

formed_says : {N : Type 0} (w : World) (x : Input) (ev : N → Index → Option Val) (later : ℕ → N → Index → ℕ → Option Val)
    → ((d : ℕ) (c : N) (i : Index) (j : ℕ) (v : Val) → later d c i j ≡ Some v → PassFrom (λ k e u. ev k e ≡ Some u) d c i j v)
    → (i : Index) (v : Val) (fm : Form N) → formed w x ev later i fm ≡ Some v → (o : Op) × (ks : List N) × (fm ≡ form o ks) × Means w x (λ k e u. ev k e ≡ Some u) (shape o) o ks i v
formed_says w x ev later p i v (form o ks) e = (o, ks, refl, shaped_says w x ev later p (shape o) o ks i v e)

-- a value by one unit of fuel more is what the operation means over the values by one unit less
pub den_says : {N : Type 0} (view : N → Option (Form N)) (w : World) (x : Input) (fuel : ℕ) (n : N) (i : Index) (v : Val) → den view w x (suc fuel) n i ≡ Some v
    → (o : Op) × (ks : List N) × (view n ≡ Some (form o ks)) × Means w x (With view w x fuel) (shape o) o ks i v
unfolding den
den_says view w x fuel n i v e =
    let a = bind_some (view n) _ v e in
    let b = formed_says w x (den view w x fuel) (looks view w x fuel) (λ d c l j u z. looks_say view w x fuel d c l j u z) i v a.0 a.2 in
    (b.0, b.1, a.1 ∙ ap Some b.2, b.3)

-- ---- and the other way

-- one amount of fuel for all kids
values_make : {N : Type 0} (view : N → Option (Form N)) (w : World) (x : Input) (i : Index) (ks : List N) (vs : List Val) → AllZip (λ k u. Value view w x k i u) ks vs → (fuel : ℕ) × (values (λ k. den view w x fuel k i) ks ≡ Some vs)
values_make view w x i [] [] h = (0, refl)
values_make view w x i [] (v ∷ vs) h = absurd h
values_make view w x i (k ∷ ks) [] h = absurd h
values_make view w x i (k ∷ ks) (v ∷ vs) h =
    let r = values_make view w x i ks vs h.1 in
    let most : ℕ = h.0.0 + r.0 in
    let kid = den_later view w x h.0.0 most k i (omega arith) v h.0.1 in
    let kids = values_kept (λ n. den view w x r.0 n i) (λ n. den view w x most n i) ks (λ n. den_later view w x r.0 most n i (omega arith)) vs r.1 in
    (most, rw (kid, kids) refl)

-- a pass from iteration j on that ends at k, with m more looks to make
looks_make : {N : Type 0} (view : N → Option (Form N)) (w : World) (x : Input) (d : ℕ) (c : N) (i : Index) (k : ℕ)
    → IsTrueAt (Value view w x) true c (at_depth i d k) → (m j : ℕ) → j + m ≡ k → ((l : ℕ) → j ≤ l → l < k → IsTrueAt (Value view w x) false c (at_depth i d l))
    → (fuel : ℕ) × (looks view w x fuel d c i j ≡ Some (val.Count k))
unfolding den
looks_make view w x d c i k ends zero j e goes_on =
    let here : j ≡ k = omega arith in
    (suc ends.1.0, rw (here, ends.1.1) (rw (ends.2) refl))
looks_make view w x d c i k ends (suc m) j e goes_on =
    let r = looks_make view w x d c i k ends m (suc j) (omega arith) (λ l a b. goes_on l (omega arith) b) in
    let o = goes_on j (le_refl j) (omega arith) in
    let most : ℕ = o.1.0 + r.0 in
    let test = den_later view w x o.1.0 most c (at_depth i d j) (omega arith) o.0 o.1.1 in
    let rest = looks_later view w x r.0 most d c i (suc j) (omega arith) (val.Count k) r.1 in
    (suc most, rw test (rw (o.2) rest))

-- the value of an operation, by some fuel
abbrev Makes : {N : Type 0} → (N → Option (Form N)) → World → Input → Shape → Op → List N → Index → Val → Type 0
Makes view w x s o ks i v = (fuel : ℕ) × (shaped w x (den view w x fuel) (looks view w x fuel) s o ks i ≡ Some v)

theta_makes : {N : Type 0} (view : N → Option (Form N)) (w : World) (x : Input) (d : ℕ) (a b : N) (i : Index) (v : Val) (n : ℕ)
    → ((n ≡ 0) × Value view w x a i v) ⊎ ((k : ℕ) × (n ≡ suc k) × Value view w x b (at_depth i d k) v) → (fuel : ℕ) × (by_iteration (den view w x fuel) d a b i n ≡ Some v)
theta_makes view w x d a b i v zero (inl h) = h.1
theta_makes view w x d a b i v (suc n) (inl h) = absurd (let z = h.0 in cc)
theta_makes view w x d a b i v zero (inr h) = absurd (let z = h.1 in cc)
theta_makes view w x d a b i v (suc n) (inr h) = (h.2.0, let z : h.0 ≡ n = (let y = h.1 in cc) in subst (λ (k : ℕ). den view w x h.2.0 b (at_depth i d k) ≡ Some v) z h.2.1)

ending_makes : {N : Type 0} (view : N → Option (Form N)) (w : World) (x : Input) (r : N) (i : Index) (e : Fault) (m : Heap) (v : Val)
    → Ending (Value view w x) r i e m v → (fuel : ℕ) × ((most : ℕ) → fuel ≤ most → ending (den view w x most) r i m e ≡ Some v)
ending_makes view w x r i fault.Clear m v h =
    (h.2.0, λ most le. let result = den_later view w x h.2.0 most r i le h.0 h.2.1 in rw result (rw (h.3) (ap Some (sym h.4))))
ending_makes view w x r i e m v h = (0, λ most le. ap Some (sym h))

shaped_makes : {N : Type 0} (view : N → Option (Form N)) (w : World) (x : Input) (s : Shape) (o : Op) (ks : List N) (i : Index) (v : Val) → Means w x (Value view w x) s o ks i v → Makes view w x s o ks i v
shaped_makes view w x plain o ks i v h = let r = values_make view w x i ks h.0 h.1 in (r.0, rw r.1 h.2)
shaped_makes view w x choice o (c ∷ a ∷ b ∷ []) i v h =
    let most : ℕ = h.1.1.0 + h.2.0 in
    let test = den_later view w x h.1.1.0 most c i (omega arith) h.1.0 h.1.1.1 in
    (most, rw test (rw (h.1.2) (den_later view w x h.2.0 most (if h.0 then a else b) i (omega arith) v h.2.1)))
shaped_makes view w x (theta d) o (a ∷ b ∷ []) i v h = theta_makes view w x d a b i v (i d) h
shaped_makes view w x (eval d) o (a ∷ p ∷ []) i v h =
    let most : ℕ = h.1.0 + h.2.0 in
    let count = den_later view w x h.1.0 most p i (omega arith) (val.Count h.0) h.1.1 in
    (most, rw count (den_later view w x h.2.0 most a (at_depth i d h.0) (omega arith) v h.2.1))
shaped_makes view w x (pass d) o (c ∷ []) i v h =
    let r = looks_make view w x d c i h.k h.ends h.k 0 (omega arith) h.goes_on in
    let same = looks_more view w x r.0 d c i 0 (val.Count h.k) r.1 in
    (r.0, unfold den in (same ∙ ap Some (sym h.count)))
shaped_makes view w x (shift d) o (a ∷ []) i v h = h
shaped_makes view w x root o (t ∷ f ∷ r ∷ y ∷ []) i v h =
    let z = ending_makes view w x r i h.0 h.1 v h.5 in
    let most : ℕ = h.2.0 + h.3.0 + h.4.0 + z.0 in
    let token = den_later view w x h.2.0 most t i (omega arith) val.Unit h.2.1 in
    let fault_ = den_later view w x h.3.0 most f i (omega arith) (val.Fault h.0) h.3.1 in
    let heap = den_later view w x h.4.0 most y i (omega arith) (val.Heap h.1) h.4.1 in
    (most, rw (token, fault_, heap) (z.1 most (omega arith)))
shaped_makes view w x s o ks i v h = absurd h

-- what the operation means over the values of its kids is a value
pub den_makes : {N : Type 0} (view : N → Option (Form N)) (w : World) (x : Input) (n : N) (i : Index) (v : Val) (o : Op) (ks : List N) → view n ≡ Some (form o ks) → Means w x (Value view w x) (shape o) o ks i v → Value view w x n i v
unfolding den
den_makes view w x n i v o ks e h = let r = shaped_makes view w x (shape o) o ks i v h in (suc r.0, rw e r.1)
