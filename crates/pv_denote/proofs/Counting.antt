-- A count is less than the fuel that gives it.
use Rattle.std.specs.Prelude.{◌≡◌, ◌⊎◌, ℕ, zero, suc, ◌+◌, ◌<◌, Bool, true, false, List, [], ◌∷◌, Option, Some, if◌then◌else◌, refl}
use Rattle.std.specs.List.{AllZip}
use Rattle.std.proofs.Common.{inl, inr, sym, ap, ◌∙◌, subst, arith}
use Rattle.pv_value.specs.Spelled.{bind, field_type, method_type}
use Rattle.pv_value.specs.Worlds as worlds
use Rattle.pv_value.specs.Operations.{takes}
use Rattle.pv_value.specs.declared.world.World.{World}
use Rattle.pv_value.specs.declared.name.Sym.{Sym}
use Rattle.pv_value.specs.declared.heap.Heap.{Heap}
use Rattle.pv_value.specs.declared.number.Num.{Num}
use Rattle.pv_value.specs.declared.number.Num.TheVariants as num
use Rattle.pv_value.specs.declared.outcome.Input.{Input}
use Rattle.pv_value.specs.declared.outcome.Outcome.{Outcome}
use Rattle.pv_value.specs.declared.outcome.Fault.{Fault}
use Rattle.pv_value.specs.declared.outcome.Fault.TheVariants as fault
use Rattle.pv_value.specs.declared.outcome.Val.{Val}
use Rattle.pv_value.specs.declared.outcome.Val.TheVariants as val
use Rattle.pv_graph.specs.declared.node.Op.{Op}
use Rattle.pv_graph.specs.declared.node.Op.TheVariants as op
use Rattle.pv_graph.specs.Ops.{Shape, plain, choice, theta, eval, pass, shift, root, shape}
use Rattle.pv_graph.specs.Forms.{Form, form}
use Rattle.pv_denote.specs.Denote.{Index, at_depth, numbers, scalar_on, truth, looked, end_part, result_part, fault_part, heap_part, over_call, strict, shaped, formed, den, looks}
use Rattle.pv_denote.specs.Means.{Ending, Means}
use Rattle.pv_graph.proofs.Cited.{bind_some}
use Rattle.pv_denote.proofs.Values.{With, den_says}

-- the counts that an operation gives: 0, and one more than a kid's
abbrev pub Counted : List Val → ℕ → Type 0
Counted vs k = (k ≡ 0) ⊎ ((j : ℕ) × (vs ≡ val.Count j ∷ []) × (k ≡ suc j))

no_number : (X : Type 0) (n : Num) (k : ℕ) → Some (val.Num n) ≡ Some (val.Count k) → X
no_number X n k e = absurd (cc)

no_heap : (X : Type 0) (h : Heap) (k : ℕ) → Some (val.Heap h) ≡ Some (val.Count k) → X
no_heap X h k e = absurd (cc)

no_fault : (X : Type 0) (f : Fault) (k : ℕ) → Some (val.Fault f) ≡ Some (val.Count k) → X
no_fault X f k e = absurd (cc)

no_unit : (X : Type 0) (k : ℕ) → Some val.Unit ≡ Some (val.Count k) → X
no_unit X k e = absurd (cc)

bound_not : {A : Type 0} (X : Type 0) (o : Option A) (f : A → Option Val) (k : ℕ) → ((a : A) → f a ≡ Some (val.Count k) → X) → bind o f ≡ Some (val.Count k) → X
bound_not X o f k p e = let a = bind_some o f (val.Count k) e in p a.0 a.2

over_call_not : (X : Type 0) (w : World) (s : Sym) (part : Option Outcome → Heap → Option Val) (vs : List Val) (k : ℕ) → ((reply : Option Outcome) (h : Heap) → part reply h ≡ Some (val.Count k) → X) → over_call w s part vs ≡ Some (val.Count k) → X
over_call_not X w s part (val.Heap h ∷ vs) k p e = bound_not X (numbers vs) _ k (λ args z. p (worlds.reply w s h args) h z) e
over_call_not X w s part vs k p e = absurd (cc)

strict_counts : (w : World) (x : Input) (o : Op) (vs : List Val) (k : ℕ) → strict w x o vs ≡ Some (val.Count k) → Counted vs k
unfolding strict
strict_counts w x op.Zero [] k e = inl (let z : 0 ≡ k = cc in sym z)
strict_counts w x op.Succ (val.Count j ∷ []) k e = inr (j, refl, let z : suc j ≡ k = cc in sym z)
strict_counts w x (op.Int c) [] k e = absurd (cc)
strict_counts w x (op.Long c) [] k e = absurd (cc)
strict_counts w x op.Null [] k e = absurd (cc)
strict_counts w x (op.Literal t) [] k e = absurd (cc)
strict_counts w x (op.Param j s) [] k e = absurd (cc)
strict_counts w x op.This [] k e = absurd (cc)
strict_counts w x op.Heap0 [] k e = absurd (cc)
strict_counts w x op.Unit [] k e = absurd (cc)
strict_counts w x op.Clear [] k e = absurd (cc)
strict_counts w x op.FNull [] k e = absurd (cc)
strict_counts w x op.FArith [] k e = absurd (cc)
strict_counts w x op.FIndex [] k e = absurd (cc)
strict_counts w x op.Thrown (val.Num (num.Ref r) ∷ []) k e = absurd (cc)
strict_counts w x op.IsClear (val.Fault f ∷ []) k e = absurd (cc)
strict_counts w x op.Both (val.Unit ∷ val.Unit ∷ []) k e = absurd (cc)
strict_counts w x (op.Scalar o) vs k e = bound_not (Counted vs k) (scalar_on o (takes o) vs) _ k (λ n z. no_number (Counted vs k) _ k z) e
strict_counts w x op.Aeq (val.Num (num.Ref a) ∷ val.Num (num.Ref b) ∷ []) k e = absurd (cc)
strict_counts w x (op.GetStatic s) (val.Heap h ∷ []) k e = bound_not _ (field_type s.desc) _ k (λ t z. bound_not _ _ _ k (λ n y. no_number _ n k y) z) e
strict_counts w x (op.PutStatic s) (val.Heap h ∷ val.Num n ∷ []) k e = bound_not _ (field_type s.desc) _ k (λ t z. bound_not _ _ _ k (λ m y. no_heap _ m k y) z) e
strict_counts w x (op.GetField s) (val.Heap h ∷ val.Num (num.Ref r) ∷ []) k e = bound_not _ (field_type s.desc) _ k (λ t z. bound_not _ _ _ k (λ n y. no_number _ n k y) z) e
strict_counts w x (op.PutField s) (val.Heap h ∷ val.Num (num.Ref r) ∷ val.Num n ∷ []) k e = bound_not _ (field_type s.desc) _ k (λ t z. bound_not _ _ _ k (λ m y. no_heap _ m k y) z) e
strict_counts w x (op.Load q) (val.Heap h ∷ val.Num (num.Ref r) ∷ val.Num (num.Int i) ∷ []) k e = bound_not _ _ _ k (λ n y. no_number _ n k y) e
strict_counts w x (op.Store q) (val.Heap h ∷ val.Num (num.Ref r) ∷ val.Num (num.Int i) ∷ val.Num n ∷ []) k e = bound_not _ _ _ k (λ m y. no_heap _ m k y) e
strict_counts w x op.Length (val.Num (num.Ref r) ∷ []) k e = absurd (cc)
strict_counts w x (op.CallEnd s) vs k e = over_call_not (Counted vs k) w s end_part vs k (λ reply h z. bound_not (Counted vs k) reply _ k (λ o y. no_unit (Counted vs k) k y) z) e
strict_counts w x (op.CallRes s) vs k e = over_call_not (Counted vs k) w s (result_part s) vs k (λ reply h z. bound_not (Counted vs k) (method_type s.desc) _ k (λ d y. bound_not (Counted vs k) d.result _ k (λ t q. no_number (Counted vs k) _ k q) y) z) e
strict_counts w x (op.CallFault s) vs k e = over_call_not (Counted vs k) w s fault_part vs k (λ reply h z. no_fault (Counted vs k) _ k z) e
strict_counts w x (op.CallHeap s) vs k e = over_call_not (Counted vs k) w s heap_part vs k (λ reply h z. no_heap (Counted vs k) _ k z) e
strict_counts w x o vs k e = absurd (cc)

looked_low : (j : ℕ) (t : Bool) (later : ℕ → Option Val) (fuel k : ℕ) → ((l m : ℕ) → later l ≡ Some (val.Count m) → m < l + fuel) → looked j t later ≡ Some (val.Count k) → k < j + suc fuel
looked_low j true later fuel k p e = let z : j ≡ k = cc in omega arith
looked_low j false later fuel k p e = omega (arith, p (suc j) k e)

looks_low : {N : Type 0} (view : N → Option (Form N)) (w : World) (x : Input) (fuel d : ℕ) (c : N) (i : Index) (j k : ℕ) → looks view w x fuel d c i j ≡ Some (val.Count k) → k < j + fuel
unfolding den
looks_low view w x zero d c i j k e = absurd (cc)
looks_low view w x (suc fuel) d c i j k e =
    let a = bind_some (den view w x fuel c (at_depth i d j)) _ (val.Count k) e in
    let t = bind_some (truth a.0) _ (val.Count k) a.2 in
    looked_low j t.0 (looks view w x fuel d c i) fuel k (λ l m z. looks_low view w x fuel d c i l m z) t.2

counted_low : {N : Type 0} (R : N → Val → Type 0) (fuel : ℕ) → ((n : N) (k : ℕ) → R n (val.Count k) → k < fuel) → (ks : List N) (vs : List Val) (k : ℕ) → AllZip R ks vs → Counted vs k → k < suc fuel
counted_low R fuel p ks vs k h (inl e) = omega arith
counted_low R fuel p ks vs k h (inr z) = go ks (subst (AllZip R ks) z.1 h)
  where
    go : (ks : List _) → AllZip R ks (val.Count z.0 ∷ []) → k < suc fuel
    go [] y = absurd y
    go (n ∷ ns) y = let low = p n z.0 y.0 in let e = z.2 in omega arith

ending_not : {N : Type 0} (R : N → Index → Val → Type 0) (r : N) (i : Index) (e : Fault) (m : Heap) (k : ℕ) → Ending R r i e m (val.Count k) → ⊥
ending_not R r i fault.Clear m k h = absurd (let z = h.4 in cc)
ending_not R r i e m k h = absurd (cc)

means_low : {N : Type 0} (w : World) (x : Input) (R : N → Index → Val → Type 0) (fuel : ℕ) → ((n : N) (i : Index) (k : ℕ) → R n i (val.Count k) → k < fuel) → (s : Shape) (o : Op) (ks : List N) (i : Index) (k : ℕ)
    → ((d : ℕ) → s ≡ pass d → k < suc fuel) → Means w x R s o ks i (val.Count k) → k < suc fuel
means_low w x R fuel p plain o ks i k q h = counted_low (λ n u. R n i u) fuel (λ n j. p n i j) ks h.0 k h.1 (strict_counts w x o h.0 k h.2)
means_low w x R fuel p choice o (c ∷ a ∷ b ∷ []) i k q h = let z = p (if h.0 then a else b) i k h.2 in omega arith
means_low w x R fuel p (theta d) o (a ∷ b ∷ []) i k q (inl h) = let z = p a i k h.1 in omega arith
means_low w x R fuel p (theta d) o (a ∷ b ∷ []) i k q (inr h) = let z = p b (at_depth i d h.0) k h.2 in omega arith
means_low w x R fuel p (eval d) o (a ∷ n ∷ []) i k q h = let z = p a (at_depth i d h.0) k h.2 in omega arith
means_low w x R fuel p (pass d) o (c ∷ []) i k q h = q d refl
means_low w x R fuel p (shift d) o (a ∷ []) i k q h = let z = p a (at_depth i d (suc (i d))) k h in omega arith
means_low w x R fuel p root o (t ∷ f ∷ r ∷ y ∷ []) i k q h = absurd (ending_not R r i h.0 h.1 k h.5)
means_low w x R fuel p s o ks i k q h = absurd h

-- a pass is its looks from iteration 0 on
pass_low : {N : Type 0} (view : N → Option (Form N)) (w : World) (x : Input) (fuel : ℕ) (i : Index) (k : ℕ) (s : Shape) (o : Op) (ks : List N) → shaped w x (den view w x fuel) (looks view w x fuel) s o ks i ≡ Some (val.Count k) → (d : ℕ) → s ≡ pass d → k < suc fuel
unfolding den
pass_low view w x fuel i k (pass e) o (c ∷ []) h d is = let z = looks_low view w x (suc fuel) e c i 0 k h in omega arith
pass_low view w x fuel i k (pass e) o [] h d is = absurd (cc)
pass_low view w x fuel i k (pass e) o (c ∷ b ∷ ks) h d is = absurd (cc)
pass_low view w x fuel i k s o ks h d is = absurd (cc)

formed_low : {N : Type 0} (view : N → Option (Form N)) (w : World) (x : Input) (fuel : ℕ) (n : N) (i : Index) (k : ℕ) (o : Op) (ks : List N) → view n ≡ Some (form o ks) → den view w x (suc fuel) n i ≡ Some (val.Count k) → (d : ℕ) → shape o ≡ pass d → k < suc fuel
unfolding den
formed_low view w x fuel n i k o ks e h d is =
    pass_low view w x fuel i k (shape o) o ks (ap (λ (q : Option (Form _)). bind q (formed w x (den view w x fuel) (looks view w x fuel) i)) (sym e) ∙ h) d is

-- a count is less than the fuel that gives it
pub count_low : {N : Type 0} (view : N → Option (Form N)) (w : World) (x : Input) (fuel : ℕ) (n : N) (i : Index) (k : ℕ) → den view w x fuel n i ≡ Some (val.Count k) → k < fuel
unfolding den
count_low view w x zero n i k e = absurd (cc)
count_low view w x (suc fuel) n i k e =
    let r = den_says view w x fuel n i (val.Count k) e in
    means_low w x (With view w x fuel) fuel (λ m j l z. count_low view w x fuel m j l z) (shape r.0) r.0 r.1 i k (formed_low view w x fuel n i k r.0 r.1 r.2 e) r.3
