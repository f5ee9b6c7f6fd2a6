-- The definitions on small cases: sides filled in, a class that holds two constants, and a class that a term alone settles.
-- Questions with their verdicts stand in `SumVerdicts` and `ConstantVerdicts`, an induction in `LoopsJoined`.
use Rattle.std.proofs.Common.{◌≡◌, ℕ, zero, suc, ◌<◌, pos, List, [], ◌∷◌, Some, None, slice_get, true, false, inl, inr, refl, sym, subst, arith}
use Rattle.std.specs.Int.{int_wrap}
use Rattle.pv_value.specs.Reading.{field_at}
use Rattle.pv_value.specs.declared.name.Sym.{Sym}
use Rattle.pv_value.specs.declared.heap.Kind.TheVariants as kind
use Rattle.pv_value.specs.declared.number.Num.{Num}
use Rattle.pv_value.specs.declared.number.Num.TheVariants as num
use Rattle.pv_value.specs.declared.operation.ScalarOp.TheVariants.{Iadd, Ishl, Iand, Ineg}
use Rattle.pv_graph.specs.declared.node.Op.{Op}
use Rattle.pv_graph.specs.declared.node.Op.TheVariants as op
use Rattle.pv_graph.specs.declared.node.Node.{Node}
use Rattle.pv_graph.specs.Nodes.{node_of}
use Rattle.pv_graph.specs.Forms.{form}
use Rattle.pv_graph.specs.Walks.{In, IsSettled, itself}
use Rattle.pv_graph.specs.Graphs.{form_at}
use Rattle.pv_pattern.specs.declared.names.NameId.TheVariants as name
use Rattle.pv_pattern.specs.Patterns.{number, named, by_symbol, bare, shifted, evaluated, var, fold, narrowed, over_each, Axiom}
use Rattle.pv_scalar.specs.Table.{folded1}
use Rattle.pv_steps.specs.Facts.{View}
use Rattle.pv_heights.specs.Filled.{Params, number_op, kid, variable, at, of, no_part, part, over0, over1, over2, filled}
use Rattle.pv_heights.specs.Sides.{Match, ClassHas}
use Rattle.pv_heights.specs.Conditions.{Settled}
use Rattle.pv_heights.specs.Matches.{IsMatch, AreOne, AtLeast}
use Rattle.pv_heights.specs.Terms.{Term, base, over, no_term, terms}
use Rattle.pv_heights.specs.Heights.{AnyTerm}
use Rattle.pv_heights.proofs.Zips.{some_once}

-- ---- sides filled in

-- a boolean field
flag : Sym
flag = record { class = []; name = []; desc = 90 ∷ [] }

-- depth 3, this field, a byte array, the constant c and a sum stand for the names
pub naming : Num → Params
naming c = record { depth = 3; symbols = λ s. flag; kinds = λ k. kind.Byte; constants = λ j. c; op_ = op.Scalar Iadd }

case : Params
case = naming (num.Int (pos 3))

-- a fold: 1 shifted by the constant 3 is 8
shifted_one : filled case 0 (fold Ishl (number (num.Int (pos 1)) ∷ named 1 ∷ [])) ≡ Some (over0 (op.Int (pos 8)))
unfolding case naming int_wrap
shifted_one = refl

-- a narrowing: of a boolean field the lowest bit is read
read_flag : filled case 0 (narrowed (by_symbol 0) (var 1)) ≡ Some (over2 (op.Scalar Iand) (at (variable 1)) (over0 (op.Int (pos 1))))
unfolding case naming flag field_at
read_flag = refl

-- a family: a sum over its two kids, over their shifts, and over their evals at a variable
bare_sum : filled case 2 (over_each 30 bare) ≡ Some (of (op.Scalar Iadd) (part (at (kid 0)) (part (at (kid 1)) no_part)))
unfolding case naming
bare_sum = refl

shifted_sum : filled case 2 (over_each 30 shifted) ≡ Some (of (op.Scalar Iadd) (part (over1 (op.Shift 3) (at (kid 0))) (part (over1 (op.Shift 3) (at (kid 1))) no_part)))
unfolding case naming
shifted_sum = refl

evaluated_sum : filled case 2 (over_each 30 (evaluated 0)) ≡ Some (of (op.Scalar Iadd) (part (over2 (op.Eval 3) (at (kid 0)) (at (variable 0))) (part (over2 (op.Eval 3) (at (kid 1)) (at (variable 0))) no_part)))
unfolding case naming
evaluated_sum = refl

-- a sum is none of another family
not_that : filled case 2 (over_each 31 bare) ≡ None
unfolding case naming
not_that = refl

-- ---- a class that holds two constants

-- all terms in one class
abbrev OneForAll : Term → Term → Type 0
OneForAll a b = Unit {0}

-- 1, 2, and the negation of 1
negated : List Node
negated = node_of (op.Int (pos 1)) [] ∷ node_of (op.Int (pos 2)) [] ∷ node_of (op.Scalar Ineg) (0 ∷ []) ∷ []

abbrev N : View
N = form_at negated

-- the negation of a constant is a constant
negation : Axiom
negation = folded1 73 Ineg

of_constant : ℕ → Match Term
of_constant c = record { entry = negation; params = naming (num.Int (pos c)); kids = []; vars = base 0 ∷ [] }

-- what holds of the variable with number j, where its constant is c
abbrev HasConstant : ℕ → ℕ → Type 0
HasConstant c j = (x : Term) × (o : Op) × (slice_get (base 0 ∷ []) j ≡ Some x) × (number_op (num.Int (pos c)) ≡ Some o) × ClassHas (terms N) AnyTerm OneForAll x o []

first_alone : (j : ℕ) → In (name.Constant zero ∷ []) (name.Constant j) → zero ≡ j
first_alone j (inl e) = cc
first_alone j (inr i) = absurd i

-- the axiom matches where c is a constant of the class
matches_constant : (c n : ℕ) → N n ≡ Some (form (op.Int (pos c)) []) → IsMatch N [] (negation ∷ []) (terms N) AnyTerm OneForAll (of_constant c)
unfolding negated negation of_constant naming
matches_constant c n is =
    let holds : ClassHas (terms N) AnyTerm OneForAll (base 0) (op.Int (pos c)) [] = record { thing = base n; is = tt; joins = tt; has = ([], is, refl) } in record {
      of_table = inl refl;
      kids = tt;
      vars = (tt, tt);
      long = refl;
      alone = λ f. refl;
      at_ = base 2;
      is = tt;
      stands = (
        over1 (op.Scalar Ineg) (over0 (op.Int (pos c))),
        refl,
        (base 0 ∷ [], record { thing = base 2; is = tt; joins = tt; has = (0 ∷ [], refl, refl) }, (([], holds, tt), tt)),
      );
      constants = λ j v. subst (HasConstant c) (first_alone j v) (base 0, op.Int (pos c), refl, refl, holds);
      sides = tt;
    }

-- the match with 1 is another one than that with 2
not_one : AreOne OneForAll (of_constant 1) (of_constant 2) → ⊥
unfolding negation of_constant naming
not_one o = different (o.params (name.Constant zero) (inl refl))
  where
    different : num.Int (pos 1) ≡ num.Int (pos 2) → ⊥
    different e = cc

-- so there are two
two_constants : AtLeast N [] (negation ∷ []) (terms N) AnyTerm OneForAll 2
unfolding negated
two_constants = record { list = of_constant 1 ∷ of_constant 2 ∷ []; long = refl; each = each; once = once }
  where
    each : (i : ℕ) (m : Match Term) → slice_get (of_constant 1 ∷ of_constant 2 ∷ []) i ≡ Some m → IsMatch N [] (negation ∷ []) (terms N) AnyTerm OneForAll m
    each zero m e = subst (IsMatch N [] (negation ∷ []) (terms N) AnyTerm OneForAll) (some_once e) (matches_constant 1 0 refl)
    each (suc zero) m e = subst (IsMatch N [] (negation ∷ []) (terms N) AnyTerm OneForAll) (some_once e) (matches_constant 2 1 refl)
    each (suc (suc i)) m e = absurd (cc)

    once : (i j : ℕ) (m n : Match Term) → i < j → slice_get (of_constant 1 ∷ of_constant 2 ∷ []) i ≡ Some m → slice_get (of_constant 1 ∷ of_constant 2 ∷ []) j ≡ Some n → AreOne OneForAll m n → ⊥
    once zero (suc zero) m n l e f o = not_one (subst (λ v. AreOne OneForAll v (of_constant 2)) (sym (some_once e)) (subst (λ v. AreOne OneForAll m v) (sym (some_once f)) o))
    once i (suc (suc j)) m n l e f o = absurd (cc)
    once i zero m n l e f o = absurd (omega (arith, l))
    once (suc i) (suc zero) m n l e f o = absurd (omega (arith, l))

-- ---- a class that a term settles, and no node of it

-- a token that never comes
waiting : List Node
waiting = node_of op.Never [] ∷ []

-- its class is settled where it holds a constant as a term
settled_by_term : Settled (form_at waiting) [] (terms (form_at waiting)) AnyTerm OneForAll (base 0)
settled_by_term = Settled.by_kids (base 0) (op.Int (pos 7)) [] (record { thing = over (op.Int (pos 7)) no_term; is = tt; joins = tt; has = (refl, refl) }) refl (λ j k e. absurd (cc))

-- and the node isn't
node_not_settled : IsSettled (form_at waiting) [] 0 → ⊥
unfolding waiting
node_not_settled s = different (s 0 op.Never [] (itself 0) (λ i. i) refl)
  where
    different : true ≡ false → ⊥
    different e = cc
