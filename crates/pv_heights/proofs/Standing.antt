-- A side over nodes is the pattern, standing at the node, where each variable for constants is the node of its constant.
use Rattle.std.proofs.Common.{◌≡◌, ℕ, zero, suc, ◌+◌, Bool, true, false, List, [], ◌∷◌, length, Option, Some, None, slice_get, inl, inr, refl, sym, ap, ◌∙◌, subst, ◌==◌, if◌then◌else◌, pos, arith}
use Rattle.std.specs.List.{AllZip}
use Rattle.pv_value.specs.Spelled.{bind}
use Rattle.pv_value.specs.declared.descriptor.JType.{JType}
use Rattle.pv_value.specs.declared.descriptor.JType.TheVariants as jtype
use Rattle.pv_value.specs.declared.operation.ScalarOp.TheVariants.{Iand, I2b, I2c, I2s}
use Rattle.pv_value.specs.declared.number.Num.{Num}
use Rattle.pv_value.specs.declared.number.Num.TheVariants as num
use Rattle.pv_graph.specs.declared.node.Op.{Op}
use Rattle.pv_graph.specs.declared.node.Op.TheVariants as op
use Rattle.pv_graph.specs.Forms.{Form, form}
use Rattle.pv_graph.specs.Walks.{In}
use Rattle.pv_graph.specs.Graphs.{Graph, form_at}
use Rattle.pv_pattern.specs.declared.names.NameId.{NameId}
use Rattle.pv_pattern.specs.declared.names.NameId.TheVariants as name
use Rattle.pv_pattern.specs.Patterns.{Each, bare, shifted, evaluated, Pattern, var, constant, fold, narrowed, over, over_each, Patterns, none, first, Axiom}
use Rattle.pv_pattern.specs.Numbers.{op_number}
use Rattle.pv_pattern.specs.Instances.{Names, head_op, constant_of, IsConstantAt, folded, type_by, Narrows, IsEach, Stands, StandAll}
use Rattle.pv_pattern.specs.Binding.{names, names_in, listed_name}
use Rattle.pv_pattern.specs.Found.{head_name}
use Rattle.pv_heights.specs.Filled.{Params, Filled, at, of, Parts, no_part, part, kid, variable, over0, over1, over2, number_op, constant_part, narrow, each_part, each_parts, filled, all_filled}
use Rattle.pv_heights.specs.Filled as fill
use Rattle.pv_heights.specs.Sides.{Match, IsSide, AreSides}
use Rattle.pv_heights.specs.Searches.{nodes, IsNode, params_of, match_of}
use Rattle.pv_heights.proofs.Zips.{some_once}
use Rattle.pv_heights.proofs.Named.{In-left, In-right}
use Rattle.pv_heights.proofs.Instances.{head_same, folded_same, type_same}

bind_some : {A B : Type 0} (f : Option A) (h : A → Option B) (b : B) → bind f h ≡ Some b → (a : A) × (f ≡ Some a) × (h a ≡ Some b)
bind_some None h b e = absurd (cc)
bind_some (Some a) h b e = (a, refl, e)

if_some : {A : Type 0} (b : Bool) (x y : A) → (if b then Some x else None) ≡ Some y → (b ≡ true) × (x ≡ y)
if_some true x y e = (refl, some_once e)
if_some false x y e = absurd (cc)

equal_number : (m n : ℕ) → (m == n) ≡ true → m ≡ n
equal_number m n e = grind (arith)

op_constant : (c : Num) (o : Op) → number_op c ≡ Some o → constant_of o ≡ Some c
op_constant (num.Int n) o e = subst (λ p. constant_of p ≡ Some (num.Int n)) (some_once e) refl
op_constant (num.Long n) o e = subst (λ p. constant_of p ≡ Some (num.Long n)) (some_once e) refl
op_constant (num.Ref n) o e = absurd (cc)

module _ (g : Graph) (a : Axiom) (m : Names) where
  abbrev own : Match ℕ
  own = match_of a m

  abbrev Side : Filled → ℕ → Type 0
  Side s n = IsSide (nodes g) (IsNode g) own s n

  abbrev View : ℕ → Option (Form ℕ)
  View = form_at g.nodes

  -- each node of a constant that is named is the node of its variable
  abbrev pub AreFixed : List NameId → Type 0
  AreFixed ns = (j n : ℕ) (o : Op) → In ns (name.Constant j) → View n ≡ Some (form o []) → constant_of o ≡ Some (m.constants j) → slice_get m.vars j ≡ Some n

  no_kid : (ks : List ℕ) → AreSides (nodes g) (IsNode g) own no_part ks → ks ≡ []
  no_kid [] h = refl
  no_kid (k ∷ ks) h = absurd h

  one_kid : (s : Filled) (ks : List ℕ) → AreSides (nodes g) (IsNode g) own (part s no_part) ks → (k : ℕ) × (ks ≡ k ∷ []) × Side s k
  one_kid s [] h = absurd h
  one_kid s (k ∷ ks) h = (k, ap (λ ls. k ∷ ls) (no_kid ks h.1), h.0)

  two_kids : (s t : Filled) (ks : List ℕ) → AreSides (nodes g) (IsNode g) own (part s (part t no_part)) ks → (k : ℕ) × (l : ℕ) × (ks ≡ k ∷ l ∷ []) × Side s k × Side t l
  two_kids s t [] h = absurd h
  two_kids s t (k ∷ ks) h = let r = one_kid t ks h.1 in (k, r.0, ap (λ ls. k ∷ ls) r.1, h.0, r.2)

  over_nothing : (o : Op) (n : ℕ) → Side (over0 o) n → View n ≡ Some (form o [])
  over_nothing o n h = subst (λ ks. View n ≡ Some (form o ks)) (no_kid h.0 h.3) h.2

  constant_at : (c : Num) (s : Filled) → constant_part c ≡ Some s → (n : ℕ) → Side s n → IsConstantAt View n c
  constant_at c s e n h =
      let b = bind_some (number_op c) (λ o. Some (over0 o)) s e in
      (b.0, over_nothing b.0 n (subst (λ f. Side f n) (sym (some_once b.2)) h), op_constant c b.0 b.1)

  narrows_at : (y : JType) (s : Filled) (Q : ℕ → Type 0) → ((k : ℕ) → Side s k → Q k) → (n : ℕ) → Side (narrow y s) n → Narrows View y Q n
  narrows_at jtype.Z s Q f n h =
      let r = two_kids s (over0 (op.Int (pos 1))) h.0 h.3 in
      (r.0, r.1, subst (λ ks. View n ≡ Some (form (op.Scalar Iand) ks)) r.2 h.2, f r.0 r.3, over_nothing (op.Int (pos 1)) r.1 r.4)
  narrows_at jtype.B s Q f n h = let r = one_kid s h.0 h.3 in (r.0, subst (λ ks. View n ≡ Some (form (op.Scalar I2b) ks)) r.1 h.2, f r.0 r.2)
  narrows_at jtype.C s Q f n h = let r = one_kid s h.0 h.3 in (r.0, subst (λ ks. View n ≡ Some (form (op.Scalar I2c) ks)) r.1 h.2, f r.0 r.2)
  narrows_at jtype.S s Q f n h = let r = one_kid s h.0 h.3 in (r.0, subst (λ ks. View n ≡ Some (form (op.Scalar I2s) ks)) r.1 h.2, f r.0 r.2)
  narrows_at jtype.I s Q f n h = f n h
  narrows_at jtype.J s Q f n h = f n h
  narrows_at jtype.A s Q f n h = f n h
  narrows_at jtype.F s Q f n h = f n h
  narrows_at jtype.D s Q f n h = f n h

  each_at : (e : Each) (i k n : ℕ) → slice_get m.kids i ≡ Some k → Side (each_part (params_of m) e i) n → IsEach View m e k n
  each_at bare i k n d h = some_once (sym d ∙ h)
  each_at shifted i k n d h =
      let r = one_kid (at (kid i)) h.0 h.3 in
      subst (λ x. View n ≡ Some (form (op.Shift m.depth) (x ∷ []))) (some_once (sym r.2 ∙ d)) (subst (λ ks. View n ≡ Some (form (op.Shift m.depth) ks)) r.1 h.2)
  each_at (evaluated j) i k n d h =
      let r = two_kids (at (kid i)) (at (variable j)) h.0 h.3 in
      (r.1, r.4, subst (λ x. View n ≡ Some (form (op.Eval m.depth) (x ∷ r.1 ∷ []))) (some_once (sym r.3 ∙ d)) (subst (λ ks. View n ≡ Some (form (op.Eval m.depth) ks)) r.2 h.2))

  all_each_at : (e : Each) (i : ℕ) (rest ns : List ℕ) → ((j k : ℕ) → slice_get rest j ≡ Some k → slice_get m.kids (i + j) ≡ Some k) → AreSides (nodes g) (IsNode g) own (each_parts (params_of m) e i (length rest)) ns
      → AllZip (IsEach View m e) rest ns
  all_each_at e i [] [] d h = tt
  all_each_at e i [] (n ∷ ns) d h = absurd h
  all_each_at e i (k ∷ rest) [] d h = absurd h
  all_each_at e i (k ∷ rest) (n ∷ ns) d h = (
    each_at e i k n (subst (λ v. slice_get m.kids v ≡ Some k) (plus_zero i) (d zero k refl)) h.0,
    all_each_at e (suc i) rest ns (λ j l q. subst (λ v. slice_get m.kids v ≡ Some l) (plus_suc i j) (d (suc j) l q)) h.1,
  )
    where
      plus_zero : (i : ℕ) → i + zero ≡ i
      plus_zero i = omega arith

      plus_suc : (i j : ℕ) → i + suc j ≡ suc i + j
      plus_suc i j = omega arith

  both_parts : (p : Pattern) (ps : Patterns) (s : Filled) (ss : Parts) (ns : List ℕ) → AreSides (nodes g) (IsNode g) own (part s ss) ns → ((n : ℕ) → Side s n → Stands View m p n) → ((ls : List ℕ) → AreSides (nodes g) (IsNode g) own ss ls → StandAll View m ps ls)
      → StandAll View m (first p ps) ns
  both_parts p ps s ss [] h f l = absurd h
  both_parts p ps s ss (n ∷ ns) h f l = (f n h.0, l ns h.1)

  mutual
    pub side_stands : (p : Pattern) → AreFixed (names p) → (s : Filled) → filled (params_of m) (length m.kids) p ≡ Some s → (n : ℕ) → Side s n → Stands View m p n
    side_stands (var j) u s e n h = subst (λ f. Side f n) (sym (some_once e)) h
    side_stands (constant j) u s e n h =
        let c = constant_at (m.constants j) s e n h in (u j n c.0 (inl refl) c.1 c.2, c)
    side_stands (fold o atoms) u s e n h =
        let b = bind_some (folded (fill.named (params_of m)) o atoms) constant_part s e in
        (b.0, sym (folded_same m o atoms) ∙ b.1, constant_at b.0 s b.2 n h)
    side_stands (narrowed t p) u s e n h =
        let b = bind_some (type_by (fill.named (params_of m)) t) (λ y. bind (filled (params_of m) (length m.kids) p) (λ v. Some (narrow y v))) s e in
        let d = bind_some (filled (params_of m) (length m.kids) p) (λ v. Some (narrow b.0 v)) s b.2 in (
          b.0,
          sym (type_same m t) ∙ b.1,
          narrows_at b.0 d.0 (Stands View m p) (λ k q. side_stands p (λ j n o i. u j n o (inr i)) d.0 d.1 k q) n (subst (λ f. Side f n) (sym (some_once d.2)) h),
        )
    side_stands (over h ps) u s e n k =
        let b = bind_some (all_filled (params_of m) (length m.kids) ps) (λ ss. Some (of (head_op (fill.named (params_of m)) h) ss)) s e in
        let l = subst (λ f. Side f n) (sym (some_once b.2)) k in
        (l.0, subst (λ o. View n ≡ Some (form o l.0)) (head_same m h) l.2, all_side_stand ps (λ j n o i. u j n o (In-right (listed_name (head_name h)) (names_in ps) (name.Constant j) i)) b.0 b.1 l.0 l.3)
    side_stands (over_each w d) u s e n k =
        let b = if_some (op_number m.op_ == w) (of m.op_ (each_parts (params_of m) d 0 (length m.kids))) s e in
        let l = subst (λ f. Side f n) (sym b.1) k in
        (l.0, l.2, equal_number (op_number m.op_) w b.0, all_each_at d zero m.kids l.0 (λ j x q. subst (λ v. slice_get m.kids v ≡ Some x) (zero_plus j) q) l.3)
      where
        zero_plus : (j : ℕ) → j ≡ zero + j
        zero_plus j = omega arith

    pub all_side_stand : (ps : Patterns) → AreFixed (names_in ps) → (ss : Parts) → all_filled (params_of m) (length m.kids) ps ≡ Some ss → (ns : List ℕ) → AreSides (nodes g) (IsNode g) own ss ns → StandAll View m ps ns
    all_side_stand none u ss e ns h = subst (λ ls. StandAll View m none ls) (sym (no_kid ns (subst (λ f. AreSides (nodes g) (IsNode g) own f ns) (sym (some_once e)) h))) tt
    all_side_stand (first p ps) u ss e ns h =
        let b = bind_some (filled (params_of m) (length m.kids) p) (λ s. bind (all_filled (params_of m) (length m.kids) ps) (λ ss. Some (part s ss))) ss e in
        let d = bind_some (all_filled (params_of m) (length m.kids) ps) (λ ss. Some (part b.0 ss)) ss b.2 in
        both_parts p ps b.0 d.0 ns (subst (λ f. AreSides (nodes g) (IsNode g) own f ns) (sym (some_once d.2)) h)
        (λ n q. side_stands p (λ j n o i. u j n o (In-left (names p) (names_in ps) (name.Constant j) i)) b.0 b.1 n q)
        (λ ls q. all_side_stand ps (λ j n o i. u j n o (In-right (names p) (names_in ps) (name.Constant j) i)) d.0 d.1 ls q)
