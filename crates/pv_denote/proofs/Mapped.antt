-- An operation means the same over kids that have the same values.
use Rattle.std.specs.Prelude.{ℕ, suc, Bool, true, false, List, [], ◌∷◌, if◌then◌else◌, ⊤}
use Rattle.std.specs.List.{AllZip}
use Rattle.std.proofs.Common.{inl, inr}
use Rattle.pv_value.specs.declared.world.World.{World}
use Rattle.pv_value.specs.declared.heap.Heap.{Heap}
use Rattle.pv_value.specs.declared.outcome.Input.{Input}
use Rattle.pv_value.specs.declared.outcome.Fault.{Fault}
use Rattle.pv_value.specs.declared.outcome.Fault.TheVariants as fault
use Rattle.pv_value.specs.declared.outcome.Val.{Val}
use Rattle.pv_value.specs.declared.outcome.Val.TheVariants as val
use Rattle.pv_graph.specs.declared.node.Op.{Op}
use Rattle.pv_graph.specs.Ops.{Shape, plain, choice, theta, eval, pass, shift, root}
use Rattle.pv_denote.specs.Denote.{Index, at_depth}
use Rattle.pv_denote.specs.Means.{IsTrueAt, Ending, Means}

-- the depth at which the operation looks at another iteration is a P
abbrev pub Moves : (ℕ → Type 0) → Shape → Type 0
Moves P (theta d) = P d
Moves P (eval d) = P d
Moves P (pass d) = P d
Moves P (shift d) = P d
Moves P s = ⊤

pub moves_all : (P : ℕ → Type 0) → ((d : ℕ) → P d) → (s : Shape) → Moves P s
moves_all P p (theta d) = p d
moves_all P p (eval d) = p d
moves_all P p (pass d) = p d
moves_all P p (shift d) = p d
moves_all P p s = tt

-- I is closed under another iteration at depth d
abbrev pub Stays : (Index → Type 0) → ℕ → Type 0
Stays I d = (i : Index) (k : ℕ) → I i → I (at_depth i d k)

values_map : {N M : Type 0} (R : N → Val → Type 0) (S : M → Val → Type 0) (T : N → M → Type 0) → ((a : N) (b : M) (v : Val) → T a b → R a v → S b v)
    → (ks : List N) (ls : List M) (vs : List Val) → AllZip T ks ls → AllZip R ks vs → AllZip S ls vs
values_map R S T p [] [] [] z h = tt
values_map R S T p [] [] (v ∷ vs) z h = h
values_map R S T p [] (l ∷ ls) vs z h = absurd z
values_map R S T p (k ∷ ks) [] vs z h = absurd z
values_map R S T p (k ∷ ks) (l ∷ ls) [] z h = h
values_map R S T p (k ∷ ks) (l ∷ ls) (v ∷ vs) z h = (p k l v z.0 h.0, values_map R S T p ks ls vs z.1 h.1)

pick : {N M : Type 0} (T : N → M → Type 0) (t : Bool) (a b : N) (a' b' : M) → T a a' → T b b' → T (if t then a else b) (if t then a' else b')
pick T true a b a' b' p q = p
pick T false a b a' b' p q = q

module _ {N M : Type 0} (w : World) (x : Input) (I : Index → Type 0) (R : N → Index → Val → Type 0) (S : M → Index → Val → Type 0) (T : N → M → Type 0)
    (p : (a : N) (b : M) (i : Index) (v : Val) → T a b → I i → R a i v → S b i v) where
  true_map : (t : Bool) (c : N) (c' : M) (i : Index) → T c c' → I i → IsTrueAt R t c i → IsTrueAt S t c' i
  true_map t c c' i z y h = (h.0, p c c' i h.0 z y h.1, h.2)

  ending_map : (r : N) (r' : M) (i : Index) (e : Fault) (m : Heap) (v : Val) → T r r' → I i → Ending R r i e m v → Ending S r' i e m v
  ending_map r r' i fault.Clear m v z y h = (h.0, h.1, p r r' i h.0 z y h.2, h.3, h.4)
  ending_map r r' i e m v z y h = h

  -- T pairs kids whose values go from R to S at the indices of I
  pub means_map : (s : Shape) (o : Op) (ks : List N) (ls : List M) (i : Index) (v : Val) → Moves (Stays I) s → AllZip T ks ls → I i → Means w x R s o ks i v → Means w x S s o ls i v
  means_map plain o ks ls i v c z y h = (h.0, values_map (λ k. R k i) (λ k. S k i) T (λ a b u t r. p a b i u t y r) ks ls h.0 z h.1, h.2)
  means_map choice o (c ∷ a ∷ b ∷ []) (c' ∷ a' ∷ b' ∷ []) i v m z y h =
      (h.0, true_map h.0 c c' i z.0 y h.1, p _ _ i v (pick T h.0 a b a' b' z.1.0 z.1.1.0) y h.2)
  means_map (theta d) o (a ∷ b ∷ []) (a' ∷ b' ∷ []) i v m z y (inl h) = inl (h.0, p a a' i v z.0 y h.1)
  means_map (theta d) o (a ∷ b ∷ []) (a' ∷ b' ∷ []) i v m z y (inr h) = inr (h.0, h.1, p b b' (at_depth i d h.0) v z.1.0 (m i h.0 y) h.2)
  means_map (eval d) o (a ∷ n ∷ []) (a' ∷ n' ∷ []) i v m z y h = (h.0, p n n' i (val.Count h.0) z.1.0 y h.1, p a a' (at_depth i d h.0) v z.0 (m i h.0 y) h.2)
  means_map (pass d) o (c ∷ []) (c' ∷ []) i v m z y h = record {
    k = h.k;
    count = h.count;
    low = h.low;
    ends = true_map true c c' (at_depth i d h.k) z.0 (m i h.k y) h.ends;
    goes_on = λ l a b. true_map false c c' (at_depth i d l) z.0 (m i l y) (h.goes_on l a b);
  }
  means_map (shift d) o (a ∷ []) (a' ∷ []) i v m z y h = p a a' (at_depth i d (suc (i d))) v z.0 (m i (suc (i d)) y) h
  means_map root o (t ∷ f ∷ r ∷ e ∷ []) (t' ∷ f' ∷ r' ∷ e' ∷ []) i v m z y h =
      (h.0, h.1, p t t' i val.Unit z.0 y h.2, p f f' i (val.Fault h.0) z.1.0 y h.3, p e e' i (val.Heap h.1) z.1.1.1.0 y h.4, ending_map r r' i h.0 h.1 v z.1.1.0 y h.5)
  means_map s o ks ls i v m z y h = absurd (assumption)
