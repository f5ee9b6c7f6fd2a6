-- A pattern that stands at a node is that side, node by node.
use Rattle.std.proofs.Common.{◌≡◌, ℕ, zero, suc, ◌+◌, true, List, [], ◌∷◌, map, length, Some, None, slice_get, refl, ap, ap₂, ◌∙◌, subst, ◌==◌, if◌then◌else◌, pos, arith}
use Rattle.std.specs.List.{AllZip}
use Rattle.pv_value.specs.Spelled.{bind}
use Rattle.pv_value.specs.Operations.{takes, gives}
use Rattle.pv_value.specs.declared.descriptor.JType.{JType}
use Rattle.pv_value.specs.declared.descriptor.JType.TheVariants as jtype
use Rattle.pv_value.specs.declared.operation.ScalarOp.{ScalarOp}
use Rattle.pv_value.specs.declared.operation.ScalarOp.TheVariants.{Iand, I2b, I2c, I2s}
use Rattle.pv_value.specs.declared.number.Num.{Num}
use Rattle.pv_value.specs.declared.outcome.Val.TheVariants as val
use Rattle.pv_graph.specs.declared.node.Op.{Op}
use Rattle.pv_graph.specs.declared.node.Op.TheVariants as op
use Rattle.pv_graph.specs.Forms.{form}
use Rattle.pv_graph.specs.Graphs.{Graph, form_at}
use Rattle.pv_denote.specs.Denote.{scalar_on, num_of}
use Rattle.pv_pattern.specs.Patterns.{Atom, number, named, By, by_symbol, by_kind, Head, fixed, theta_d, eval_d, pass_d, shift_d, getstatic, putstatic, getfield, putfield, load, store, Each, bare, shifted, evaluated, Pattern, var, constant, fold, narrowed, over, over_each, Patterns, none, first, Axiom}
use Rattle.pv_pattern.specs.Numbers.{op_number}
use Rattle.pv_pattern.specs.Instances.{Names, head_op, constant_of, IsConstantAt, atom_of, folded, type_by, Narrows, IsEach, Stands, StandAll}
use Rattle.pv_heights.specs.Filled.{Params, Filled, at, of, Parts, no_part, part, kid, variable, over0, over1, over2, number_op, constant_part, narrow, each_part, each_parts, filled, all_filled}
use Rattle.pv_heights.specs.Filled as fill
use Rattle.pv_heights.specs.Sides.{Match, side, IsSide, AreSides, IsSideOf}
use Rattle.pv_heights.specs.Searches.{nodes, IsNode, params_of, match_of}
use Rattle.pv_heights.proofs.Zips.{some_once}
use Rattle.pv_heights.proofs.Nodes.{base_is_node}

-- ---- what is named

pub head_same : (m : Names) (h : Head) → head_op (fill.named (params_of m)) h ≡ head_op m h
head_same m (fixed o) = refl
head_same m theta_d = refl
head_same m eval_d = refl
head_same m pass_d = refl
head_same m shift_d = refl
head_same m (getstatic s) = refl
head_same m (putstatic s) = refl
head_same m (getfield s) = refl
head_same m (putfield s) = refl
head_same m (load k) = refl
head_same m (store k) = refl

atoms_same : (m : Names) (atoms : List Atom) → map (λ a. val.Num (atom_of (fill.named (params_of m)) a)) atoms ≡ map (λ a. val.Num (atom_of m a)) atoms
atoms_same m [] = refl
atoms_same m (number c ∷ atoms) = ap (λ vs. val.Num c ∷ vs) (atoms_same m atoms)
atoms_same m (named j ∷ atoms) = ap (λ vs. val.Num (m.constants j) ∷ vs) (atoms_same m atoms)

pub folded_same : (m : Names) (o : ScalarOp) (atoms : List Atom) → folded (fill.named (params_of m)) o atoms ≡ folded m o atoms
folded_same m o atoms = ap (λ vs. bind (scalar_on o (takes o) vs) (λ n. Some (num_of (gives o) n))) (atoms_same m atoms)

pub type_same : (m : Names) (t : By) → type_by (fill.named (params_of m)) t ≡ type_by m t
type_same m (by_symbol s) = refl
type_same m (by_kind k) = refl

-- the operation of a constant is the one that shows it
pub constant_op : (o : Op) (c : Num) → constant_of o ≡ Some c → number_op c ≡ Some o
constant_op (op.Int n) c e = subst (λ d. number_op d ≡ Some (op.Int n)) (some_once e) refl
constant_op (op.Long n) c e = subst (λ d. number_op d ≡ Some (op.Long n)) (some_once e) refl
constant_op o c e = absurd (cc)

pub same_number : (m n : ℕ) → m ≡ n → (m == n) ≡ true
same_number m n e = grind (arith)

module _ (g : Graph) (a : Axiom) (m : Names) where
  abbrev own : Match ℕ
  own = match_of a m

  abbrev Member : Pattern → ℕ → Type 0
  Member p n = IsSideOf (nodes g) (IsNode g) own p n

  node_of_form : (n : ℕ) (o : Op) (ks : List ℕ) → form_at g.nodes n ≡ Some (form o ks) → IsNode g n
  node_of_form n o ks e = base_is_node g n (o, ks, e)

  constant_side : (n : ℕ) (c : Num) → IsConstantAt (form_at g.nodes) n c → (s : Filled) × (constant_part c ≡ Some s) × IsSide (nodes g) (IsNode g) own s n
  constant_side n c h = (over0 h.0, ap (λ f. bind f (λ o. Some (over0 o))) (constant_op h.0 c h.2), ([], node_of_form n h.0 [] h.1, h.1, tt))

  op1_side : (n k : ℕ) (o : Op) (s : Filled) → form_at g.nodes n ≡ Some (form o (k ∷ [])) → IsSide (nodes g) (IsNode g) own s k → IsSide (nodes g) (IsNode g) own (over1 o s) n
  op1_side n k o s e h = (k ∷ [], node_of_form n o (k ∷ []) e, e, (h, tt))

  -- the narrowing of what stands at a node
  narrowed_side : (y : JType) (p : Pattern) (n : ℕ) → Narrows (form_at g.nodes) y (Member p) n → (s : Filled) × (side own p ≡ Some s) × IsSide (nodes g) (IsNode g) own (narrow y s) n
  narrowed_side jtype.Z p n h =
      (h.3.0, h.3.1, (h.0 ∷ h.1 ∷ [], node_of_form n (op.Scalar Iand) (h.0 ∷ h.1 ∷ []) h.2, h.2, (h.3.2, (([], node_of_form h.1 (op.Int (pos 1)) [] h.4, h.4, tt), tt))))
  narrowed_side jtype.B p n h = (h.2.0, h.2.1, op1_side n h.0 (op.Scalar I2b) h.2.0 h.1 h.2.2)
  narrowed_side jtype.C p n h = (h.2.0, h.2.1, op1_side n h.0 (op.Scalar I2c) h.2.0 h.1 h.2.2)
  narrowed_side jtype.S p n h = (h.2.0, h.2.1, op1_side n h.0 (op.Scalar I2s) h.2.0 h.1 h.2.2)
  narrowed_side jtype.I p n h = h
  narrowed_side jtype.J p n h = h
  narrowed_side jtype.A p n h = h
  narrowed_side jtype.F p n h = h
  narrowed_side jtype.D p n h = h

  narrows_map : (y : JType) (Q R : ℕ → Type 0) → ((k : ℕ) → Q k → R k) → (n : ℕ) → Narrows (form_at g.nodes) y Q n → Narrows (form_at g.nodes) y R n
  narrows_map jtype.Z Q R f n h = (h.0, h.1, h.2, f h.0 h.3, h.4)
  narrows_map jtype.B Q R f n h = (h.0, h.1, f h.0 h.2)
  narrows_map jtype.C Q R f n h = (h.0, h.1, f h.0 h.2)
  narrows_map jtype.S Q R f n h = (h.0, h.1, f h.0 h.2)
  narrows_map jtype.I Q R f n h = f n h
  narrows_map jtype.J Q R f n h = f n h
  narrows_map jtype.A Q R f n h = f n h
  narrows_map jtype.F Q R f n h = f n h
  narrows_map jtype.D Q R f n h = f n h

  each_side : (e : Each) (i k n : ℕ) → slice_get m.kids i ≡ Some k → IsEach (form_at g.nodes) m e k n → IsSide (nodes g) (IsNode g) own (each_part (params_of m) e i) n
  each_side bare i k n d h = d ∙ ap Some h
  each_side shifted i k n d h = op1_side n k (op.Shift m.depth) (at (kid i)) h d
  each_side (evaluated j) i k n d h =
      (k ∷ h.0 ∷ [], node_of_form n (op.Eval m.depth) (k ∷ h.0 ∷ []) h.2, h.2, (d, (h.1, tt)))

  each_sides : (e : Each) (i : ℕ) (rest ns : List ℕ) → ((j k : ℕ) → slice_get rest j ≡ Some k → slice_get m.kids (i + j) ≡ Some k) → AllZip (IsEach (form_at g.nodes) m e) rest ns
      → AreSides (nodes g) (IsNode g) own (each_parts (params_of m) e i (length rest)) ns
  each_sides e i [] [] d h = tt
  each_sides e i [] (n ∷ ns) d h = absurd h
  each_sides e i (k ∷ rest) [] d h = absurd h
  each_sides e i (k ∷ rest) (n ∷ ns) d h = (
    each_side e i k n (subst (λ v. slice_get m.kids v ≡ Some k) (plus_zero i) (d zero k refl)) h.0,
    each_sides e (suc i) rest ns (λ j l q. subst (λ v. slice_get m.kids v ≡ Some l) (plus_suc i j) (d (suc j) l q)) h.1,
  )
    where
      plus_zero : (i : ℕ) → i + zero ≡ i
      plus_zero i = omega arith

      plus_suc : (i j : ℕ) → i + suc j ≡ suc i + j
      plus_suc i j = omega arith

  mutual
    pub stands_side : (p : Pattern) (n : ℕ) → Stands (form_at g.nodes) m p n → Member p n
    stands_side (var j) n h = (at (variable j), refl, h)
    stands_side (constant j) n h = constant_side n (m.constants j) h.1
    stands_side (fold o atoms) n h =
        let c = constant_side n h.0 h.2 in
        (c.0, ap (λ f. bind f constant_part) (folded_same m o atoms ∙ h.1) ∙ c.1, c.2)
    stands_side (narrowed t p) n h =
        let s = narrowed_side h.0 p n (narrows_map h.0 (Stands (form_at g.nodes) m p) (Member p) (λ k q. stands_side p k q) n h.2) in
        (narrow h.0 s.0, ap₂ (λ y f. bind y (λ u. bind f (λ v. Some (narrow u v)))) (type_same m t ∙ h.1) s.1, s.2)
    stands_side (over h ps) n k =
        let ss = all_stand_sides ps k.0 k.2 in
        (of (head_op m h) ss.0, ap₂ (λ o f. bind f (λ vs. Some (of o vs))) (head_same m h) ss.1, (k.0, node_of_form n (head_op m h) k.0 k.1, k.1, ss.2))
    stands_side (over_each w e) n k = (
      of m.op_ (each_parts (params_of m) e 0 (length m.kids)),
      ap (λ b. if b then Some (of m.op_ (each_parts (params_of m) e 0 (length m.kids))) else None) (same_number (op_number m.op_) w k.2),
      (k.0, node_of_form n m.op_ k.0 k.1, k.1, each_sides e zero m.kids k.0 (λ j l q. subst (λ v. slice_get m.kids v ≡ Some l) (zero_plus j) q) k.3),
    )
      where
        zero_plus : (j : ℕ) → j ≡ zero + j
        zero_plus j = omega arith

    pub all_stand_sides : (ps : Patterns) (ns : List ℕ) → StandAll (form_at g.nodes) m ps ns → (ss : Parts) × (all_filled (params_of m) (length m.kids) ps ≡ Some ss) × AreSides (nodes g) (IsNode g) own ss ns
    all_stand_sides none [] h = (no_part, refl, tt)
    all_stand_sides none (n ∷ ns) h = absurd h
    all_stand_sides (first p ps) [] h = absurd h
    all_stand_sides (first p ps) (n ∷ ns) h =
        let s = stands_side p n h.0 in let ss = all_stand_sides ps ns h.1 in
        (part s.0 ss.0, ap₂ (λ f fs. bind f (λ v. bind fs (λ vs. Some (part v vs)))) s.1 ss.1, (s.2, ss.2))
