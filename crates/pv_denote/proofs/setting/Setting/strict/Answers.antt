use Rattle.std.proofs.Common.{◌≡◌, ℕ, ap, sym, subst, refl, rules, Some, to_z, of_z, w32, w64}
use Rattle.pv_value.specs.declared.number.Num.{Num}
use Rattle.pv_value.specs.declared.number.Num.TheVariants as num
use Rattle.pv_value.specs.declared.heap.Heap.{Heap}
use Rattle.pv_value.specs.declared.outcome.Fault.TheVariants as fault
use Rattle.pv_value.specs.declared.outcome.Val.TheVariants as val
use Rattle.pv_graph.specs.declared.node.Op.{Op}
use Rattle.pv_graph.specs.declared.node.Op.TheVariants as op
use Rattle.pv_denote.specs.Denote.{strict}
use Rattle.pv_denote.specs.Given.{Gives, leaf_of}
use Rattle.pv_denote.proofs.Readings.{leaf_gives, none_gives}
use Rattle.pv_denote.proofs.setting.Setting.strict.Goals as goal

pub returns-in-Int : goal.returns-in-Int
unfolding strict
returns-in-Int c =
    let whole : to_z w32 (of_z w32 c.in-Int.c) ≡ c.in-Int.c = search rules in
    leaf_gives c.leaf.result c.args.self.now.world.now c.args.self.now.input.now c.args.op.now (op.Int c.in-Int.c) (val.Num (num.Int c.in-Int.c)) c.in-Int.is refl (λ u us. refl) c.args.values.now
    (subst (λ n. Gives c.leaf.result (leaf_of (val.Num (num.Int n)) c.args.values.now)) whole c.leaf.ensures)

pub returns-in-Long : goal.returns-in-Long
unfolding strict
returns-in-Long c =
    let whole : to_z w64 (of_z w64 c.in-Long.c) ≡ c.in-Long.c = search rules in
    leaf_gives c.leaf-in-Long.result c.args.self.now.world.now c.args.self.now.input.now c.args.op.now (op.Long c.in-Long.c) (val.Num (num.Long c.in-Long.c)) c.in-Long.is refl (λ u us. refl) c.args.values.now
    (subst (λ n. Gives c.leaf-in-Long.result (leaf_of (val.Num (num.Long n)) c.args.values.now)) whole c.leaf-in-Long.ensures)

pub returns-in-Null : goal.returns-in-Null
unfolding strict
returns-in-Null c = leaf_gives c.leaf-in-Null.result c.args.self.now.world.now c.args.self.now.input.now c.args.op.now op.Null (val.Num (num.Ref 0)) c.in-Null.is refl (λ u us. refl) c.args.values.now c.leaf-in-Null.ensures

pub returns-in-Literal : goal.returns-in-Literal
unfolding strict
returns-in-Literal c = leaf_gives c.leaf-in-Literal.result c.args.self.now.world.now c.args.self.now.input.now c.args.op.now (op.Literal c.in-Literal.text) _ c.in-Literal.is (ap (λ (r : ℕ). Some (val.Num (num.Ref r))) (sym c.literal.ensures)) (λ u us. refl) c.args.values.now c.leaf-in-Literal.ensures

pub returns-in-Param : goal.returns-in-Param
unfolding strict
returns-in-Param c = leaf_gives c.leaf-in-Param.result c.args.self.now.world.now c.args.self.now.input.now c.args.op.now (op.Param c.in-Param.j c.in-Param.sort) _ c.in-Param.is (ap (λ (n : Num). Some (val.Num n)) (sym c.param.ensures)) (λ u us. refl) c.args.values.now c.leaf-in-Param.ensures

pub returns-in-This : goal.returns-in-This
unfolding strict
returns-in-This c = leaf_gives c.leaf-in-This.result c.args.self.now.world.now c.args.self.now.input.now c.args.op.now op.This _ c.in-This.is refl (λ u us. refl) c.args.values.now c.leaf-in-This.ensures

pub returns-in_ok-copy-in-Heap0 : goal.returns-in_ok-copy-in-Heap0
unfolding strict
returns-in_ok-copy-in-Heap0 c = leaf_gives c.leaf-in-Heap0.result c.args.self.now.world.now c.args.self.now.input.now c.args.op.now op.Heap0 _ c.in-Heap0.is (ap (λ (h : Heap). Some (val.Heap h)) (sym c.in_ok-copy-in-Heap0.ensures)) (λ u us. refl) c.args.values.now c.leaf-in-Heap0.ensures

pub returns-in-Unit : goal.returns-in-Unit
unfolding strict
returns-in-Unit c = leaf_gives c.leaf-in-Unit.result c.args.self.now.world.now c.args.self.now.input.now c.args.op.now op.Unit val.Unit c.in-Unit.is refl (λ u us. refl) c.args.values.now c.leaf-in-Unit.ensures

pub returns-in-Clear : goal.returns-in-Clear
unfolding strict
returns-in-Clear c = leaf_gives c.leaf-in-Clear.result c.args.self.now.world.now c.args.self.now.input.now c.args.op.now op.Clear (val.Fault fault.Clear) c.in-Clear.is refl (λ u us. refl) c.args.values.now c.leaf-in-Clear.ensures

pub returns-in-FNull : goal.returns-in-FNull
unfolding strict
returns-in-FNull c = leaf_gives c.leaf-in-FNull.result c.args.self.now.world.now c.args.self.now.input.now c.args.op.now op.FNull (val.Fault fault.Null) c.in-FNull.is refl (λ u us. refl) c.args.values.now c.leaf-in-FNull.ensures

pub returns-in-FArith : goal.returns-in-FArith
unfolding strict
returns-in-FArith c = leaf_gives c.leaf-in-FArith.result c.args.self.now.world.now c.args.self.now.input.now c.args.op.now op.FArith (val.Fault fault.Arith) c.in-FArith.is refl (λ u us. refl) c.args.values.now c.leaf-in-FArith.ensures

pub returns-in-FIndex : goal.returns-in-FIndex
unfolding strict
returns-in-FIndex c = leaf_gives c.leaf-in-FIndex.result c.args.self.now.world.now c.args.self.now.input.now c.args.op.now op.FIndex (val.Fault fault.Index) c.in-FIndex.is refl (λ u us. refl) c.args.values.now c.leaf-in-FIndex.ensures

pub returns-in-Zero : goal.returns-in-Zero
unfolding strict
returns-in-Zero c = leaf_gives c.leaf-in-Zero.result c.args.self.now.world.now c.args.self.now.input.now c.args.op.now op.Zero (val.Count 0) c.in-Zero.is refl (λ u us. refl) c.args.values.now c.leaf-in-Zero.ensures

pub returns-in-Scalar : goal.returns-in-Scalar
unfolding strict
returns-in-Scalar c = subst (λ (q : Op). Gives c.scalar_value.result (strict c.args.self.now.world.now c.args.self.now.input.now q c.args.values.now)) (sym c.in-Scalar.is) c.scalar_value.ensures

pub returns-in-Never : goal.returns-in-Never
returns-in-Never c = none_gives _ _ _ _ c.in-Never.is
