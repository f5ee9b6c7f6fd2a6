use Rattle.std.proofs.Common.{rules, refl}
use Rattle.std.proofs.lemmas.List.{drop_all}
use Rattle.pv_denote.specs.Denote.{numbers}
use Rattle.pv_denote.specs.Given.{num_in}
use Rattle.pv_denote.proofs.Readings.{rest_init, rest_step, rest_stop, rest_end, each_number}
use Rattle.pv_denote.proofs.call_ops.numbers.Goals as goal

pub loop-v-init : goal.loop-v-init
loop-v-init c = rest_init numbers c.args.values.now c.new-found.result.items c.new-found.ensures.items

pub loop-v-preserved : goal.loop-v-preserved
loop-v-preserved c =
    rest_step num_in numbers each_number c.args.values.now c.loop-v.v-index c.v-item.result c.in_ok-number.field-0 c.loop-v.found.items c.push.new.self.items c.loop-v-test.true c.v-item.is
    c.in_ok-number.ensures c.in_ok-push.ensures.items c.loop-v.invariant

pub returns-in_err-number : goal.returns-in_err-number
returns-in_err-number c =
    let stops = rest_stop num_in numbers each_number c.args.values.now c.loop-v.v-index c.v-item.result c.loop-v.found.items c.in_err-number.field-0.0 c.loop-v-test.true c.v-item.is c.in_err-number.ensures c.loop-v.invariant in
    search rules

pub returns : goal.returns
returns c = rest_end numbers c.args.values.now c.loop-v.v-index c.loop-v.found.items refl (drop_all _ _ c.loop-v-test.false) c.loop-v.invariant
