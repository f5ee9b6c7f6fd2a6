use Rattle.std.proofs.Common.{◌<◌, length, refl, arith, ◌∙◌}
use Rattle.std.proofs.lemmas.Option.{slice_get-get_or}
use Rattle.pv_lemmas.proofs.Asking.{adds_no_kids, adds_kid, adds_all}
use Rattle.pv_lemmas.proofs.under.ask_all.Goals as goal

pub loop-i-init : goal.loop-i-init
loop-i-init c = record { len = refl; adds = adds_no_kids c.args.asked.now.items c.args.kids.now c.args.are.now }

pub ask-requires : goal.ask-requires
ask-requires c =
    let low : c.loop-i.i < length c.args.kids.now = omega (arith, c.loop-i-test.true) in
    let within = c.requires.within c.loop-i.i _ (slice_get-get_or c.args.kids.now c.loop-i.i 0 low) in
    omega (arith, within, c.loop-i.invariant.len)

pub loop-i-preserved : goal.loop-i-preserved
loop-i-preserved c =
    let low : c.loop-i.i < length c.args.kids.now = omega (arith, c.loop-i-test.true) in
    record {
      len = c.in_ok-ask.ensures.len ∙ c.loop-i.invariant.len;
      adds = adds_kid c.args.asked.now.items c.loop-i.asked.items c.ask.new.asked.items c.args.kids.now c.args.are.now c.loop-i.i _ _ c.loop-i.invariant.adds c.in_ok-ask.ensures.adds
          (slice_get-get_or c.args.kids.now c.loop-i.i 0 low) (slice_get-get_or c.args.are.now c.loop-i.i 0 (omega (arith, low, c.requires.long)));
    }

pub returns-clause-adds : goal.returns-clause-adds
returns-clause-adds c = adds_all c.args.asked.now.items c.loop-i.asked.items c.args.kids.now c.args.are.now c.loop-i.i (omega (arith, c.loop-i-test.false)) c.loop-i.invariant.adds
