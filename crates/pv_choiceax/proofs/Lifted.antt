-- The laws of operations over choices: one for each number of kids and place, whatever the operation.
use Rattle.std.specs.Prelude.{◌≡◌, ℕ, ◌+◌, List, [], ◌∷◌, slice_get, refl}
use Rattle.pv_value.specs.declared.operation.ScalarOp.{ScalarOp}
use Rattle.pv_graph.specs.declared.node.Op.TheVariants as op
use Rattle.pv_graph.specs.Ops.{plain, shape}
use Rattle.pv_graph.specs.Graphs.{form_at}
use Rattle.pv_pattern.specs.Patterns.{Head, fixed, var, load, getstatic, getfield}
use Rattle.pv_pattern.specs.Instances.{Names, head_op}
use Rattle.pv_pattern.specs.Laws.{Law, Laws}
use Rattle.pv_pattern.proofs.Cited.{one_at, two_at, three_at, same_at}
use Rattle.pv_scalar.specs.Table.{phi}
use Rattle.pv_choiceax.specs.Table.{on1, on2, on3, choice_of_1, first_of_2, second_of_2, first_of_3, second_of_3, third_of_3, singles, pairs, counts_and_faults, reads}
use Rattle.pv_choiceax.proofs.Values.{form_two, form_three, over_choice}

-- an operation that needs the values of all its kids
abbrev NeedsAll : Head → Type 0
NeedsAll h = (m : Names) → shape (head_op m h) ≡ plain

law_1 : (n : ℕ) (h : Head) → NeedsAll h → Law (choice_of_1 n h)
law_1 n h is g assumed subst_ l r w x set inst i v =
    let view = form_at g.nodes in
    let m = inst.names in
    let vars = slice_get m.vars in
    let o = head_op m h in
    let y = one_at view m h (phi (var 0) (var 1) (var 2)) l inst.left in
    let k = three_at view m (fixed op.Phi) (var 0) (var 1) (var 2) y.0 y.2 in
    let z = three_at view m (fixed op.Phi) (var 0) (on1 h (var 1)) (on1 h (var 2)) r inst.right in
    let p = one_at view m h (var 1) z.1 z.5 in
    let q = one_at view m h (var 2) z.2 z.6 in
    over_choice view w x o [] [] l y.0 r z.1 z.2 k.0 k.1 k.2 i v (is m) y.1 k.3
    (form_three (view r) op.Phi z.0 z.1 z.2 k.0 z.1 z.2 z.3 (same_at (vars 0) z.0 k.0 z.4 k.4) refl refl)
    (let e = same_at (vars 1) p.0 k.1 p.2 k.5 in let f = p.1 in cc)
    (let e = same_at (vars 2) q.0 k.2 q.2 k.6 in let f = q.1 in cc)

law_2_first : (n : ℕ) (h : Head) → NeedsAll h → Law (first_of_2 n h)
law_2_first n h is g assumed subst_ l r w x set inst i v =
    let view = form_at g.nodes in
    let m = inst.names in
    let vars = slice_get m.vars in
    let o = head_op m h in
    let y = two_at view m h (phi (var 0) (var 1) (var 2)) (var 3) l inst.left in
    let k = three_at view m (fixed op.Phi) (var 0) (var 1) (var 2) y.0 y.3 in
    let z = three_at view m (fixed op.Phi) (var 0) (on2 h (var 1) (var 3)) (on2 h (var 2) (var 3)) r inst.right in
    let p = two_at view m h (var 1) (var 3) z.1 z.5 in
    let q = two_at view m h (var 2) (var 3) z.2 z.6 in
    over_choice view w x o [] (y.1 ∷ []) l y.0 r z.1 z.2 k.0 k.1 k.2 i v (is m) y.2 k.3
    (form_three (view r) op.Phi z.0 z.1 z.2 k.0 z.1 z.2 z.3 (same_at (vars 0) z.0 k.0 z.4 k.4) refl refl)
    (form_two (view z.1) o p.0 p.1 k.1 y.1 p.2 (same_at (vars 1) p.0 k.1 p.3 k.5) (same_at (vars 3) p.1 y.1 p.4 y.4))
    (form_two (view z.2) o q.0 q.1 k.2 y.1 q.2 (same_at (vars 2) q.0 k.2 q.3 k.6) (same_at (vars 3) q.1 y.1 q.4 y.4))

law_2_second : (n : ℕ) (h : Head) → NeedsAll h → Law (second_of_2 n h)
law_2_second n h is g assumed subst_ l r w x set inst i v =
    let view = form_at g.nodes in
    let m = inst.names in
    let vars = slice_get m.vars in
    let o = head_op m h in
    let y = two_at view m h (var 0) (phi (var 1) (var 2) (var 3)) l inst.left in
    let k = three_at view m (fixed op.Phi) (var 1) (var 2) (var 3) y.1 y.4 in
    let z = three_at view m (fixed op.Phi) (var 1) (on2 h (var 0) (var 2)) (on2 h (var 0) (var 3)) r inst.right in
    let p = two_at view m h (var 0) (var 2) z.1 z.5 in
    let q = two_at view m h (var 0) (var 3) z.2 z.6 in
    over_choice view w x o (y.0 ∷ []) [] l y.1 r z.1 z.2 k.0 k.1 k.2 i v (is m) y.2 k.3
    (form_three (view r) op.Phi z.0 z.1 z.2 k.0 z.1 z.2 z.3 (same_at (vars 1) z.0 k.0 z.4 k.4) refl refl)
    (form_two (view z.1) o p.0 p.1 y.0 k.1 p.2 (same_at (vars 0) p.0 y.0 p.3 y.3) (same_at (vars 2) p.1 k.1 p.4 k.5))
    (form_two (view z.2) o q.0 q.1 y.0 k.2 q.2 (same_at (vars 0) q.0 y.0 q.3 y.3) (same_at (vars 3) q.1 k.2 q.4 k.6))

law_3_first : (n : ℕ) (h : Head) → NeedsAll h → Law (first_of_3 n h)
law_3_first n h is g assumed subst_ l r w x set inst i v =
    let view = form_at g.nodes in
    let m = inst.names in
    let vars = slice_get m.vars in
    let o = head_op m h in
    let y = three_at view m h (phi (var 0) (var 1) (var 2)) (var 3) (var 4) l inst.left in
    let k = three_at view m (fixed op.Phi) (var 0) (var 1) (var 2) y.0 y.4 in
    let z = three_at view m (fixed op.Phi) (var 0) (on3 h (var 1) (var 3) (var 4)) (on3 h (var 2) (var 3) (var 4)) r inst.right in
    let p = three_at view m h (var 1) (var 3) (var 4) z.1 z.5 in
    let q = three_at view m h (var 2) (var 3) (var 4) z.2 z.6 in
    over_choice view w x o [] (y.1 ∷ y.2 ∷ []) l y.0 r z.1 z.2 k.0 k.1 k.2 i v (is m) y.3 k.3
    (form_three (view r) op.Phi z.0 z.1 z.2 k.0 z.1 z.2 z.3 (same_at (vars 0) z.0 k.0 z.4 k.4) refl refl)
    (form_three (view z.1) o p.0 p.1 p.2 k.1 y.1 y.2 p.3 (same_at (vars 1) p.0 k.1 p.4 k.5) (same_at (vars 3) p.1 y.1 p.5 y.5) (same_at (vars 4) p.2 y.2 p.6 y.6))
    (form_three (view z.2) o q.0 q.1 q.2 k.2 y.1 y.2 q.3 (same_at (vars 2) q.0 k.2 q.4 k.6) (same_at (vars 3) q.1 y.1 q.5 y.5) (same_at (vars 4) q.2 y.2 q.6 y.6))

law_3_second : (n : ℕ) (h : Head) → NeedsAll h → Law (second_of_3 n h)
law_3_second n h is g assumed subst_ l r w x set inst i v =
    let view = form_at g.nodes in
    let m = inst.names in
    let vars = slice_get m.vars in
    let o = head_op m h in
    let y = three_at view m h (var 0) (phi (var 1) (var 2) (var 3)) (var 4) l inst.left in
    let k = three_at view m (fixed op.Phi) (var 1) (var 2) (var 3) y.1 y.5 in
    let z = three_at view m (fixed op.Phi) (var 1) (on3 h (var 0) (var 2) (var 4)) (on3 h (var 0) (var 3) (var 4)) r inst.right in
    let p = three_at view m h (var 0) (var 2) (var 4) z.1 z.5 in
    let q = three_at view m h (var 0) (var 3) (var 4) z.2 z.6 in
    over_choice view w x o (y.0 ∷ []) (y.2 ∷ []) l y.1 r z.1 z.2 k.0 k.1 k.2 i v (is m) y.3 k.3
    (form_three (view r) op.Phi z.0 z.1 z.2 k.0 z.1 z.2 z.3 (same_at (vars 1) z.0 k.0 z.4 k.4) refl refl)
    (form_three (view z.1) o p.0 p.1 p.2 y.0 k.1 y.2 p.3 (same_at (vars 0) p.0 y.0 p.4 y.4) (same_at (vars 2) p.1 k.1 p.5 k.5) (same_at (vars 4) p.2 y.2 p.6 y.6))
    (form_three (view z.2) o q.0 q.1 q.2 y.0 k.2 y.2 q.3 (same_at (vars 0) q.0 y.0 q.4 y.4) (same_at (vars 3) q.1 k.2 q.5 k.6) (same_at (vars 4) q.2 y.2 q.6 y.6))

law_3_third : (n : ℕ) (h : Head) → NeedsAll h → Law (third_of_3 n h)
law_3_third n h is g assumed subst_ l r w x set inst i v =
    let view = form_at g.nodes in
    let m = inst.names in
    let vars = slice_get m.vars in
    let o = head_op m h in
    let y = three_at view m h (var 0) (var 1) (phi (var 2) (var 3) (var 4)) l inst.left in
    let k = three_at view m (fixed op.Phi) (var 2) (var 3) (var 4) y.2 y.6 in
    let z = three_at view m (fixed op.Phi) (var 2) (on3 h (var 0) (var 1) (var 3)) (on3 h (var 0) (var 1) (var 4)) r inst.right in
    let p = three_at view m h (var 0) (var 1) (var 3) z.1 z.5 in
    let q = three_at view m h (var 0) (var 1) (var 4) z.2 z.6 in
    over_choice view w x o (y.0 ∷ y.1 ∷ []) [] l y.2 r z.1 z.2 k.0 k.1 k.2 i v (is m) y.3 k.3
    (form_three (view r) op.Phi z.0 z.1 z.2 k.0 z.1 z.2 z.3 (same_at (vars 2) z.0 k.0 z.4 k.4) refl refl)
    (form_three (view z.1) o p.0 p.1 p.2 y.0 y.1 k.1 p.3 (same_at (vars 0) p.0 y.0 p.4 y.4) (same_at (vars 1) p.1 y.1 p.5 y.5) (same_at (vars 3) p.2 k.1 p.6 k.5))
    (form_three (view z.2) o q.0 q.1 q.2 y.0 y.1 k.2 q.3 (same_at (vars 0) q.0 y.0 q.4 y.4) (same_at (vars 1) q.1 y.1 q.5 y.5) (same_at (vars 4) q.2 k.2 q.6 k.6))

pub single_laws : (n : ℕ) (os : List ScalarOp) → Laws (singles n os)
single_laws n [] = tt
single_laws n (o ∷ os) = (law_1 n (fixed (op.Scalar o)) (λ m. refl), single_laws (n + 10) os)

pub pair_laws : (n : ℕ) (os : List ScalarOp) → Laws (pairs n os)
pair_laws n [] = tt
pair_laws n (o ∷ os) = (law_2_first n (fixed (op.Scalar o)) (λ m. refl), (law_2_second (n + 1) (fixed (op.Scalar o)) (λ m. refl), pair_laws (n + 10) os))

pub count_and_fault_laws : Laws counts_and_faults
count_and_fault_laws = (law_1 3140 (fixed op.Succ) (λ m. refl), (law_1 3150 (fixed op.Thrown) (λ m. refl), (law_1 3160 (fixed op.IsClear) (λ m. refl), tt)))

pub read_laws : Laws reads
read_laws = (
  law_2_first 3650 (fixed op.Aeq) (λ m. refl),
  (
    law_2_second 3651 (fixed op.Aeq) (λ m. refl),
    (
      law_1 3700 (getstatic 0) (λ m. refl),
      (
        law_2_first 3720 (getfield 0) (λ m. refl),
        (
          law_2_second 3721 (getfield 0) (λ m. refl),
          (law_3_first 3740 (load 0) (λ m. refl), (law_3_second 3741 (load 0) (λ m. refl), (law_3_third 3742 (load 0) (λ m. refl), (law_1 3760 (fixed op.Length) (λ m. refl), tt)))),
        ),
      ),
    ),
  ),
)
