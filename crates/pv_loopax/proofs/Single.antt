-- The laws of the loop axioms 301 to 313.
use Rattle.std.specs.Prelude.{◌≡◌, ◌↔◌, ℕ, zero, suc, ◌<◌, ◌≤◌, Bool, true, false, List, [], ◌∷◌, Option, Some, slice_get, if◌then◌else◌, refl}
use Rattle.std.specs.List.{AllZip}
use Rattle.std.proofs.Common.{sym, ap, ◌∙◌, subst, arith}
use Rattle.pv_value.specs.declared.operation.ScalarOp.{ScalarOp}
use Rattle.pv_value.specs.declared.operation.ScalarOp.TheVariants.{I2l}
use Rattle.pv_value.specs.declared.world.World.{World}
use Rattle.pv_value.specs.declared.outcome.Input.{Input}
use Rattle.pv_value.specs.declared.outcome.Val.{Val}
use Rattle.pv_value.specs.declared.outcome.Val.TheVariants as val
use Rattle.pv_graph.specs.declared.node.Op.{Op}
use Rattle.pv_graph.specs.declared.node.Op.TheVariants as op
use Rattle.pv_graph.specs.Ops.{plain, shape}
use Rattle.pv_graph.specs.Forms.{Form, form}
use Rattle.pv_denote.specs.Denote.{Index, at_depth, strict, Value}
use Rattle.pv_denote.specs.Means.{IsTrueAt, PassFrom}
use Rattle.pv_graph.specs.Walks.{Free, IsSettled}
use Rattle.pv_graph.specs.Graphs.{form_at}
use Rattle.pv_denote.proofs.Cited.{not_free, at_same, at_id, at_at}
use Rattle.pv_pattern.specs.Patterns.{fixed, theta_d, eval_d, pass_d, shift_d, var, not_free as is_not_free, settled}
use Rattle.pv_pattern.specs.Laws.{Law}
use Rattle.pv_pattern.proofs.Cited.{none_at, one_at, two_at, three_at, same_at, settled_count, theta_first, theta_later, shift_is, eval_is, eval_at, phi_is, pass_is, plain_is, zero_has, zero_says, succ_has, succ_says}
use Rattle.pv_loopax.specs.Table.{op1, op2, theta, eval, pass, shift, zero_, succ, phi, rule, inside}

-- from one side to the other, each way
abbrev Equal : (ℕ → Option (Form ℕ)) → World → Input → Index → ℕ → ℕ → Type 0
Equal view w x i l r = (v : Val) → Value view w x l i v ↔ Value view w x r i v

-- ---- equations over nodes, for any view

module _ (view : ℕ → Option (Form ℕ)) (w : World) (x : Input) where
  -- eval_d(theta_d(a,b),zero) = eval_d(a,zero)
  eval_theta : (l t z r y d a b : ℕ) (i : Index) → view l ≡ Some (form (op.Eval d) (t ∷ z ∷ [])) → view t ≡ Some (form (op.Theta d) (a ∷ b ∷ [])) → view z ≡ Some (form op.Zero [])
      → view r ≡ Some (form (op.Eval d) (a ∷ y ∷ [])) → view y ≡ Some (form op.Zero []) → Equal view w x i l r
  eval_theta l t z r y d a b i el et ez er ey v =
      let left = eval_at view w x l d t z i 0 v el (zero_has view w x z i ez) in
      let right = eval_at view w x r d a y i 0 v er (zero_has view w x y i ey) in
      let here = theta_first view w x t d a b (at_depth i d 0) v et (at_same i d 0) in
      (λ h. right.1 (here.0 (left.0 h)), λ h. left.1 (here.1 (right.0 h)))

  -- shift_d(theta_d(a,b)) = b
  shift_theta : (l t d a b : ℕ) (i : Index) → view l ≡ Some (form (op.Shift d) (t ∷ [])) → view t ≡ Some (form (op.Theta d) (a ∷ b ∷ [])) → Equal view w x i l b
  shift_theta l t d a b i el et v =
      let left = shift_is view w x l d t i v el in
      let here = theta_later view w x t d a b (at_depth i d (suc (i d))) (i d) v et (at_same i d (suc (i d))) in
      let back : at_depth (at_depth i d (suc (i d))) d (i d) ≡ i = at_at i d (suc (i d)) (i d) ∙ at_id i d (i d) refl in (
        λ h. subst (λ (j : Index). Value view w x b j v) back (here.0 (left.0 h)),
        λ h. left.1 (here.1 (subst (λ (j : Index). Value view w x b j v) (sym back) h)),
      )

  -- shift_d(a) = a {d:a}
  shift_free : (l d a : ℕ) (i : Index) → view l ≡ Some (form (op.Shift d) (a ∷ [])) → (Free view d a → ⊥) → Equal view w x i l a
  shift_free l d a i el free v =
      let left = shift_is view w x l d a i v el in
      let same = not_free view w x a i d (suc (i d)) v free in
      (λ h. same.1 (left.0 h), λ h. left.1 (same.0 h))

  -- eval_d(a,p) = a {d:a}, where p has a count
  eval_free : (l d a p : ℕ) (i : Index) → view l ≡ Some (form (op.Eval d) (a ∷ p ∷ [])) → (Free view d a → ⊥) → (k : ℕ) → Value view w x p i (val.Count k) → Equal view w x i l a
  eval_free l d a p i el free k c v =
      let left = eval_at view w x l d a p i k v el c in
      let same = not_free view w x a i d k v free in
      (λ h. same.1 (left.0 h), λ h. left.1 (same.0 h))

  -- shift_d(a) at an iteration is a at the next one
  shift_next : (n d a : ℕ) (i : Index) (k : ℕ) (v : Val) → view n ≡ Some (form (op.Shift d) (a ∷ [])) → Value view w x n (at_depth i d k) v ↔ Value view w x a (at_depth i d (suc k)) v
  shift_next n d a i k v e =
      let here = shift_is view w x n d a (at_depth i d k) v e in
      let same : at_depth (at_depth i d k) d (suc (at_depth i d k d)) ≡ at_depth i d (suc k) = at_at i d k (suc (at_depth i d k d)) ∙ ap (λ (l : ℕ). at_depth i d (suc l)) (at_same i d k) in
      (λ h. subst (λ (j : Index). Value view w x a j v) same (here.0 h), λ h. here.1 (subst (λ (j : Index). Value view w x a j v) (sym same) h))

  -- eval_d(a,succ(p)) = eval_d(shift_d(a),p)
  eval_succ : (l q r b d a p : ℕ) (i : Index) → view l ≡ Some (form (op.Eval d) (a ∷ q ∷ [])) → view q ≡ Some (form op.Succ (p ∷ [])) → view r ≡ Some (form (op.Eval d) (b ∷ p ∷ []))
      → view b ≡ Some (form (op.Shift d) (a ∷ [])) → Equal view w x i l r
  eval_succ l q r b d a p i el eq er eb v = (to, from)
    where
      to : Value view w x l i v → Value view w x r i v
      to h =
          let m = (eval_is view w x l d a q i v el).0 h in
          let s = succ_says view w x q p i (val.Count m.0) eq m.1 in
          let k : m.0 ≡ suc s.0 = (let y = s.2 in cc) in
          (eval_at view w x r d b p i s.0 v er s.1).1 ((shift_next b d a i s.0 v eb).1 (subst (λ (k : ℕ). Value view w x a (at_depth i d k) v) k m.2))

      from : Value view w x r i v → Value view w x l i v
      from h =
          let m = (eval_is view w x r d b p i v er).0 h in
          (eval_at view w x l d a q i (suc m.0) v el (succ_has view w x q p i m.0 eq m.1)).1 ((shift_next b d a i m.0 v eb).0 m.2)

  -- eval_d(a,phi(c,p,q)) = phi(c,eval_d(a,p),eval_d(a,q))
  eval_phi : (l n r s t d a c p q : ℕ) (i : Index) → view l ≡ Some (form (op.Eval d) (a ∷ n ∷ [])) → view n ≡ Some (form op.Phi (c ∷ p ∷ q ∷ []))
      → view r ≡ Some (form op.Phi (c ∷ s ∷ t ∷ [])) → view s ≡ Some (form (op.Eval d) (a ∷ p ∷ [])) → view t ≡ Some (form (op.Eval d) (a ∷ q ∷ [])) → Equal view w x i l r
  eval_phi l n r s t d a c p q i el en er es et v = (to, from)
    where
      chosen : (b : Bool) (k : ℕ) → Value view w x (if b then p else q) i (val.Count k) → Value view w x a (at_depth i d k) v → Value view w x (if b then s else t) i v
      chosen true k h z = (eval_is view w x s d a p i v es).1 (k, h, z)
      chosen false k h z = (eval_is view w x t d a q i v et).1 (k, h, z)

      parts : (b : Bool) → Value view w x (if b then s else t) i v → (k : ℕ) × Value view w x (if b then p else q) i (val.Count k) × Value view w x a (at_depth i d k) v
      parts true h = (eval_is view w x s d a p i v es).0 h
      parts false h = (eval_is view w x t d a q i v et).0 h

      to : Value view w x l i v → Value view w x r i v
      to h =
          let m = (eval_is view w x l d a n i v el).0 h in
          let f = (phi_is view w x n c p q i (val.Count m.0) en).0 m.1 in
          (phi_is view w x r c s t i v er).1 (f.0, f.1, chosen f.0 m.0 f.2 m.2)

      from : Value view w x r i v → Value view w x l i v
      from h =
          let f = (phi_is view w x r c s t i v er).0 h in
          let m = parts f.0 f.2 in
          (eval_is view w x l d a n i v el).1 (m.0, (phi_is view w x n c p q i (val.Count m.0) en).1 (f.0, f.1, m.1), m.2)

  -- pass_d(c) = phi(eval_d(c,zero),zero,succ(pass_d(shift_d(c))))
  pass_once : (l r e z y s p f d c : ℕ) (i : Index) → view l ≡ Some (form (op.Pass d) (c ∷ [])) → view r ≡ Some (form op.Phi (e ∷ y ∷ s ∷ [])) → view e ≡ Some (form (op.Eval d) (c ∷ z ∷ []))
      → view z ≡ Some (form op.Zero []) → view y ≡ Some (form op.Zero []) → view s ≡ Some (form op.Succ (p ∷ [])) → view p ≡ Some (form (op.Pass d) (f ∷ [])) → view f ≡ Some (form (op.Shift d) (c ∷ []))
      → Equal view w x i l r
  pass_once l r e z y s p f d c i el er ee ez ey es ep ef v = (λ h. to ((pass_is view w x l d c i v el).0 h), λ h. from ((phi_is view w x r e y s i v er).0 h))
    where
      first_ : (b : Bool) → IsTrueAt (Value view w x) b c (at_depth i d 0) → IsTrueAt (Value view w x) b e i
      first_ b h = (h.0, (eval_at view w x e d c z i 0 h.0 ee (zero_has view w x z i ez)).1 h.1, h.2)

      first' : (b : Bool) → IsTrueAt (Value view w x) b e i → IsTrueAt (Value view w x) b c (at_depth i d 0)
      first' b h = (h.0, (eval_at view w x e d c z i 0 h.0 ee (zero_has view w x z i ez)).0 h.1, h.2)

      next : (b : Bool) (k : ℕ) → IsTrueAt (Value view w x) b c (at_depth i d (suc k)) → IsTrueAt (Value view w x) b f (at_depth i d k)
      next b k h = (h.0, (shift_next f d c i k h.0 ef).1 h.1, h.2)

      next' : (b : Bool) (k : ℕ) → IsTrueAt (Value view w x) b f (at_depth i d k) → IsTrueAt (Value view w x) b c (at_depth i d (suc k))
      next' b k h = (h.0, (shift_next f d c i k h.0 ef).0 h.1, h.2)

      -- it ends at once, or later
      ended : (k : ℕ) → v ≡ val.Count k → IsTrueAt (Value view w x) true c (at_depth i d k) → ((j : ℕ) → 0 ≤ j → j < k → IsTrueAt (Value view w x) false c (at_depth i d j)) → Value view w x r i v
      ended zero is t before = (phi_is view w x r e y s i v er).1 (true, first_ true t, subst (λ (u : Val). Value view w x y i u) (sym is) (zero_has view w x y i ey))
      ended (suc k) is t before =
          let inner : Value view w x p i (val.Count k) =
          (pass_is view w x p d f i (val.Count k) ep).1 (record { k = k; count = refl; low = omega arith; ends = next true k t; goes_on = λ j low high. next false j (before (suc j) (omega arith) (omega arith)) }) in
          (phi_is view w x r e y s i v er).1 (false, first_ false (before 0 (omega arith) (omega arith)), subst (λ (u : Val). Value view w x s i u) (sym is) (succ_has view w x s p i k es inner))

      to : PassFrom (Value view w x) d c i 0 v → Value view w x r i v
      to h = ended h.k h.count h.ends h.goes_on

      all_before : (k : ℕ) → IsTrueAt (Value view w x) false c (at_depth i d 0) → ((j : ℕ) → 0 ≤ j → j < k → IsTrueAt (Value view w x) false f (at_depth i d j))
          → (j : ℕ) → 0 ≤ j → j < suc k → IsTrueAt (Value view w x) false c (at_depth i d j)
      all_before k now before zero low high = now
      all_before k now before (suc j) low high = next' false j (before j (omega arith) (omega arith))

      from : (b : Bool) × IsTrueAt (Value view w x) b e i × Value view w x (if b then y else s) i v → Value view w x l i v
      from (true, t, h) =
          (pass_is view w x l d c i v el).1 (record { k = 0; count = zero_says view w x y i v ey h; low = omega arith; ends = first' true t; goes_on = λ j low high. absurd (omega arith) })
      from (false, t, h) =
          let m = succ_says view w x s p i v es h in
          let q = (pass_is view w x p d f i (val.Count m.0) ep).0 m.1 in
          let k : q.k ≡ m.0 = (let y = q.count in cc) in
          (pass_is view w x l d c i v el).1 (record { k = suc q.k; count = m.2 ∙ ap (λ (j : ℕ). val.Count (suc j)) (sym k); low = omega arith; ends = next' true q.k q.ends; goes_on = all_before q.k (first' false t) q.goes_on })

  -- an operation that needs all its kids goes into a theta: over the theta and kids in which the depth
  -- isn't free
  into_theta : (o : Op) → shape o ≡ plain → (l t r f s d a b : ℕ) (ks : List ℕ) (i : Index) → view l ≡ Some (form o (t ∷ ks)) → view t ≡ Some (form (op.Theta d) (a ∷ b ∷ []))
      → view r ≡ Some (form (op.Theta d) (f ∷ s ∷ [])) → view f ≡ Some (form o (a ∷ ks)) → view s ≡ Some (form o (b ∷ ks)) → AllZip (λ k (j : ℕ). Free view d k → ⊥) ks ks → Equal view w x i l r
  into_theta o is l t r f s d a b ks i el et er ef es free v = go (i d) refl
    where
      moved : (k : ℕ) (ns ms : List ℕ) (vs : List Val) → AllZip (λ n (j : ℕ). Free view d n → ⊥) ns ms → AllZip (λ n u. Value view w x n i u) ns vs → AllZip (λ n u. Value view w x n (at_depth i d k) u) ns vs
      moved k [] [] [] q h = tt
      moved k (n ∷ ns) (m ∷ ms) (u ∷ us) q h = ((not_free view w x n i d k u q.0).0 h.0, moved k ns ms us q.1 h.1)
      moved k ns ms us q h = absurd (assumption)

      back : (k : ℕ) (ns ms : List ℕ) (vs : List Val) → AllZip (λ n (j : ℕ). Free view d n → ⊥) ns ms → AllZip (λ n u. Value view w x n (at_depth i d k) u) ns vs → AllZip (λ n u. Value view w x n i u) ns vs
      back k [] [] [] q h = tt
      back k (n ∷ ns) (m ∷ ms) (u ∷ us) q h = ((not_free view w x n i d k u q.0).1 h.0, back k ns ms us q.1 h.1)
      back k ns ms us q h = absurd (assumption)

      swap : (n m : ℕ) (i j : Index) → ((u : Val) → Value view w x n i u → Value view w x m j u) → ((vs : List Val) → AllZip (λ k u. Value view w x k i u) ks vs → AllZip (λ k u. Value view w x k j u) ks vs)
          → (vs : List Val) × AllZip (λ k u. Value view w x k i u) (n ∷ ks) vs × (strict w x o vs ≡ Some v) → (vs : List Val) × AllZip (λ k u. Value view w x k j u) (m ∷ ks) vs × (strict w x o vs ≡ Some v)
      swap n m i j p q ([], h, e) = absurd h
      swap n m i j p q ((u ∷ us), h, e) = (u ∷ us, (p u h.0, q us h.1), e)

      go : (k : ℕ) → i d ≡ k → Value view w x l i v ↔ Value view w x r i v
      go zero z =
          let now = λ (u : Val). theta_first view w x t d a b i u et z in
          let then_ = theta_first view w x r d f s i v er z in (
            λ h. then_.1 ((plain_is view w x f o (a ∷ ks) i v ef is).1 (swap t a i i (λ u. (now u).0) (λ vs y. y) ((plain_is view w x l o (t ∷ ks) i v el is).0 h))),
            λ h. (plain_is view w x l o (t ∷ ks) i v el is).1 (swap a t i i (λ u. (now u).1) (λ vs y. y) ((plain_is view w x f o (a ∷ ks) i v ef is).0 (then_.0 h))),
          )
      go (suc k) z =
          let now = λ (u : Val). theta_later view w x t d a b i k u et z in
          let then_ = theta_later view w x r d f s i k v er z in (
            λ h. then_.1 ((plain_is view w x s o (b ∷ ks) (at_depth i d k) v es is).1 (swap t b i (at_depth i d k) (λ u. (now u).0) (λ vs y. moved k ks ks vs free y) ((plain_is view w x l o (t ∷ ks) i v el is).0 h))),
            λ h. (plain_is view w x l o (t ∷ ks) i v el is).1 (swap b t (at_depth i d k) i (λ u. (now u).1) (λ vs y. back k ks ks vs free y) ((plain_is view w x s o (b ∷ ks) (at_depth i d k) v es is).0 (then_.0 h))),
          )

-- ---- the laws, from the instances

pub law_301 : Law (rule 301 (eval (theta (var 0) (var 1)) zero_) (eval (var 0) zero_) [])
law_301 g assumed subst_ l r w x set is i v =
    let view = form_at g.nodes in
    let m = is.names in
    let y = two_at view m eval_d (theta (var 0) (var 1)) zero_ l is.left in
    let t = two_at view m theta_d (var 0) (var 1) y.0 y.3 in
    let z = two_at view m eval_d (var 0) zero_ r is.right in
    let same : z.0 ≡ t.0 = same_at (slice_get m.vars 0) z.0 t.0 z.3 t.3 in
    let er : view r ≡ Some (form (op.Eval m.depth) (t.0 ∷ z.1 ∷ [])) = subst (λ (k : ℕ). view r ≡ Some (form (op.Eval m.depth) (k ∷ z.1 ∷ []))) same z.2 in
    eval_theta view w x l y.0 y.1 r z.1 m.depth t.0 t.1 i y.2 t.2 (none_at view m (fixed op.Zero) y.1 y.4) er (none_at view m (fixed op.Zero) z.1 z.4) v

pub law_302 : Law (rule 302 (eval (var 0) (var 1)) (var 0) (is_not_free 0 ∷ settled 1 ∷ []))
law_302 g assumed subst_ l r w x set is i v =
    let view = form_at g.nodes in
    let m = is.names in
    let y = two_at view m eval_d (var 0) (var 1) l is.left in
    let free = is.sides.0 in
    let calm = is.sides.1.0 in
    let one : r ≡ y.0 = same_at (slice_get m.vars 0) r y.0 is.right y.3 in
    let two : free.0 ≡ y.0 = same_at (slice_get m.vars 0) free.0 y.0 free.1 y.3 in
    let three : calm.0 ≡ y.1 = same_at (slice_get m.vars 1) calm.0 y.1 calm.1 y.4 in
    let count = settled_count g w x assumed set l m.depth y.0 y.1 i y.2 (subst (λ (k : ℕ). IsSettled view assumed k) three calm.2) in
    let h = eval_free view w x l m.depth y.0 y.1 i y.2 (subst (λ (k : ℕ). Free view m.depth k → ⊥) two free.2) count.0 count.1 v in
    subst (λ (k : ℕ). Value view w x l i v ↔ Value view w x k i v) (sym one) h

pub law_303 : Law (rule 303 (shift (theta (var 0) (var 1))) (var 1) [])
law_303 g assumed subst_ l r w x set is i v =
    let view = form_at g.nodes in
    let m = is.names in
    let y = one_at view m shift_d (theta (var 0) (var 1)) l is.left in
    let t = two_at view m theta_d (var 0) (var 1) y.0 y.2 in
    let one : r ≡ t.1 = same_at (slice_get m.vars 1) r t.1 is.right t.4 in
    subst (λ (k : ℕ). Value view w x l i v ↔ Value view w x k i v) (sym one) (shift_theta view w x l y.0 m.depth t.0 t.1 i y.1 t.2 v)

pub law_304 : Law (rule 304 (shift (var 0)) (var 0) (is_not_free 0 ∷ []))
law_304 g assumed subst_ l r w x set is i v =
    let view = form_at g.nodes in
    let m = is.names in
    let y = one_at view m shift_d (var 0) l is.left in
    let free = is.sides.0 in
    let one : r ≡ y.0 = same_at (slice_get m.vars 0) r y.0 is.right y.2 in
    let two : free.0 ≡ y.0 = same_at (slice_get m.vars 0) free.0 y.0 free.1 y.2 in
    subst (λ (k : ℕ). Value view w x l i v ↔ Value view w x k i v) (sym one) (shift_free view w x l m.depth y.0 i y.1 (subst (λ (k : ℕ). Free view m.depth k → ⊥) two free.2) v)

pub law_306 : Law (rule 306 (eval (var 0) (succ (var 1))) (eval (shift (var 0)) (var 1)) [])
law_306 g assumed subst_ l r w x set is i v =
    let view = form_at g.nodes in
    let m = is.names in
    let y = two_at view m eval_d (var 0) (succ (var 1)) l is.left in
    let q = one_at view m (fixed op.Succ) (var 1) y.1 y.4 in
    let z = two_at view m eval_d (shift (var 0)) (var 1) r is.right in
    let b = one_at view m shift_d (var 0) z.0 z.3 in
    let one : b.0 ≡ y.0 = same_at (slice_get m.vars 0) b.0 y.0 b.2 y.3 in
    let two : z.1 ≡ q.0 = same_at (slice_get m.vars 1) z.1 q.0 z.4 q.2 in
    let er : view r ≡ Some (form (op.Eval m.depth) (z.0 ∷ q.0 ∷ [])) = subst (λ (k : ℕ). view r ≡ Some (form (op.Eval m.depth) (z.0 ∷ k ∷ []))) two z.2 in
    let eb : view z.0 ≡ Some (form (op.Shift m.depth) (y.0 ∷ [])) = subst (λ (k : ℕ). view z.0 ≡ Some (form (op.Shift m.depth) (k ∷ []))) one b.1 in
    eval_succ view w x l y.1 r z.0 m.depth y.0 q.0 i y.2 q.1 er eb v

pub law_307 : Law (rule 307 (eval (var 0) (phi (var 1) (var 2) (var 3))) (phi (var 1) (eval (var 0) (var 2)) (eval (var 0) (var 3))) [])
law_307 g assumed subst_ l r w x set is i v =
    let view = form_at g.nodes in
    let m = is.names in
    let y = two_at view m eval_d (var 0) (phi (var 1) (var 2) (var 3)) l is.left in
    let n = three_at view m (fixed op.Phi) (var 1) (var 2) (var 3) y.1 y.4 in
    let z = three_at view m (fixed op.Phi) (var 1) (eval (var 0) (var 2)) (eval (var 0) (var 3)) r is.right in
    let s = two_at view m eval_d (var 0) (var 2) z.1 z.5 in
    let t = two_at view m eval_d (var 0) (var 3) z.2 z.6 in
    let one : z.0 ≡ n.0 = same_at (slice_get m.vars 1) z.0 n.0 z.4 n.4 in
    let two : s.0 ≡ y.0 = same_at (slice_get m.vars 0) s.0 y.0 s.3 y.3 in
    let three : t.0 ≡ y.0 = same_at (slice_get m.vars 0) t.0 y.0 t.3 y.3 in
    let four : s.1 ≡ n.1 = same_at (slice_get m.vars 2) s.1 n.1 s.4 n.5 in
    let five : t.1 ≡ n.2 = same_at (slice_get m.vars 3) t.1 n.2 t.4 n.6 in
    let er : view r ≡ Some (form op.Phi (n.0 ∷ z.1 ∷ z.2 ∷ [])) = subst (λ (k : ℕ). view r ≡ Some (form op.Phi (k ∷ z.1 ∷ z.2 ∷ []))) one z.3 in
    let es : view z.1 ≡ Some (form (op.Eval m.depth) (y.0 ∷ n.1 ∷ [])) = subst (λ (k : ℕ). view z.1 ≡ Some (form (op.Eval m.depth) (y.0 ∷ k ∷ []))) four (subst (λ (k : ℕ). view z.1 ≡ Some (form (op.Eval m.depth) (k ∷ s.1 ∷ []))) two s.2) in
    let et : view z.2 ≡ Some (form (op.Eval m.depth) (y.0 ∷ n.2 ∷ [])) = subst (λ (k : ℕ). view z.2 ≡ Some (form (op.Eval m.depth) (y.0 ∷ k ∷ []))) five (subst (λ (k : ℕ). view z.2 ≡ Some (form (op.Eval m.depth) (k ∷ t.1 ∷ []))) three t.2) in
    eval_phi view w x l y.1 r z.1 z.2 m.depth y.0 n.0 n.1 n.2 i y.2 n.3 er es et v

pub law_308 : Law (rule 308 (pass (var 0)) (phi (eval (var 0) zero_) zero_ (succ (pass (shift (var 0))))) [])
law_308 g assumed subst_ l r w x set is i v =
    let view = form_at g.nodes in
    let m = is.names in
    let y = one_at view m pass_d (var 0) l is.left in
    let z = three_at view m (fixed op.Phi) (eval (var 0) zero_) zero_ (succ (pass (shift (var 0)))) r is.right in
    let e = two_at view m eval_d (var 0) zero_ z.0 z.4 in
    let s = one_at view m (fixed op.Succ) (pass (shift (var 0))) z.2 z.6 in
    let p = one_at view m pass_d (shift (var 0)) s.0 s.2 in
    let f = one_at view m shift_d (var 0) p.0 p.2 in
    let one : e.0 ≡ y.0 = same_at (slice_get m.vars 0) e.0 y.0 e.3 y.2 in
    let two : f.0 ≡ y.0 = same_at (slice_get m.vars 0) f.0 y.0 f.2 y.2 in
    let ee : view z.0 ≡ Some (form (op.Eval m.depth) (y.0 ∷ e.1 ∷ [])) = subst (λ (k : ℕ). view z.0 ≡ Some (form (op.Eval m.depth) (k ∷ e.1 ∷ []))) one e.2 in
    let ef : view p.0 ≡ Some (form (op.Shift m.depth) (y.0 ∷ [])) = subst (λ (k : ℕ). view p.0 ≡ Some (form (op.Shift m.depth) (k ∷ []))) two f.1 in
    pass_once view w x l r z.0 e.1 z.1 z.2 s.0 p.0 m.depth y.0 i y.1 z.3 ee (none_at view m (fixed op.Zero) e.1 e.4) (none_at view m (fixed op.Zero) z.1 z.5) s.1 p.1 ef v

-- 309 to 312
pub law_inside : (o : ScalarOp) (n : ℕ) → Law (inside o n)
law_inside o n g assumed subst_ l r w x set is i v =
    let view = form_at g.nodes in
    let m = is.names in
    let y = two_at view m (fixed (op.Scalar o)) (theta (var 0) (var 1)) (var 2) l is.left in
    let t = two_at view m theta_d (var 0) (var 1) y.0 y.3 in
    let z = two_at view m theta_d (op2 (fixed (op.Scalar o)) (var 0) (var 2)) (op2 (fixed (op.Scalar o)) (var 1) (var 2)) r is.right in
    let f = two_at view m (fixed (op.Scalar o)) (var 0) (var 2) z.0 z.3 in
    let s = two_at view m (fixed (op.Scalar o)) (var 1) (var 2) z.1 z.4 in
    let free = is.sides.0 in
    let one : f.0 ≡ t.0 = same_at (slice_get m.vars 0) f.0 t.0 f.3 t.3 in
    let two : s.0 ≡ t.1 = same_at (slice_get m.vars 1) s.0 t.1 s.3 t.4 in
    let three : f.1 ≡ y.1 = same_at (slice_get m.vars 2) f.1 y.1 f.4 y.4 in
    let four : s.1 ≡ y.1 = same_at (slice_get m.vars 2) s.1 y.1 s.4 y.4 in
    let five : free.0 ≡ y.1 = same_at (slice_get m.vars 2) free.0 y.1 free.1 y.4 in
    let ef : view z.0 ≡ Some (form (op.Scalar o) (t.0 ∷ y.1 ∷ [])) = subst (λ (k : ℕ). view z.0 ≡ Some (form (op.Scalar o) (t.0 ∷ k ∷ []))) three (subst (λ (k : ℕ). view z.0 ≡ Some (form (op.Scalar o) (k ∷ f.1 ∷ []))) one f.2) in
    let es : view z.1 ≡ Some (form (op.Scalar o) (t.1 ∷ y.1 ∷ [])) = subst (λ (k : ℕ). view z.1 ≡ Some (form (op.Scalar o) (t.1 ∷ k ∷ []))) four (subst (λ (k : ℕ). view z.1 ≡ Some (form (op.Scalar o) (k ∷ s.1 ∷ []))) two s.2) in
    into_theta view w x (op.Scalar o) refl l y.0 r z.0 z.1 m.depth t.0 t.1 (y.1 ∷ []) i y.2 t.2 z.2 ef es (subst (λ (k : ℕ). Free view m.depth k → ⊥) five free.2, tt) v

pub law_313 : Law (rule 313 (op1 (fixed (op.Scalar I2l)) (theta (var 0) (var 1))) (theta (op1 (fixed (op.Scalar I2l)) (var 0)) (op1 (fixed (op.Scalar I2l)) (var 1))) [])
law_313 g assumed subst_ l r w x set is i v =
    let view = form_at g.nodes in
    let m = is.names in
    let y = one_at view m (fixed (op.Scalar I2l)) (theta (var 0) (var 1)) l is.left in
    let t = two_at view m theta_d (var 0) (var 1) y.0 y.2 in
    let z = two_at view m theta_d (op1 (fixed (op.Scalar I2l)) (var 0)) (op1 (fixed (op.Scalar I2l)) (var 1)) r is.right in
    let f = one_at view m (fixed (op.Scalar I2l)) (var 0) z.0 z.3 in
    let s = one_at view m (fixed (op.Scalar I2l)) (var 1) z.1 z.4 in
    let one : f.0 ≡ t.0 = same_at (slice_get m.vars 0) f.0 t.0 f.2 t.3 in
    let two : s.0 ≡ t.1 = same_at (slice_get m.vars 1) s.0 t.1 s.2 t.4 in
    let ef : view z.0 ≡ Some (form (op.Scalar I2l) (t.0 ∷ [])) = subst (λ (k : ℕ). view z.0 ≡ Some (form (op.Scalar I2l) (k ∷ []))) one f.1 in
    let es : view z.1 ≡ Some (form (op.Scalar I2l) (t.1 ∷ [])) = subst (λ (k : ℕ). view z.1 ≡ Some (form (op.Scalar I2l) (k ∷ []))) two s.1 in
    into_theta view w x (op.Scalar I2l) refl l y.0 r z.0 z.1 m.depth t.0 t.1 [] i y.1 t.2 z.2 ef es tt v
