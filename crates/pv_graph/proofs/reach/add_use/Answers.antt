use Rattle.std.proofs.Common.{◌<◌, ◌-◌, length, refl, arith}
use Rattle.std.proofs.lemmas.Option.{slice_get_read}
use Rattle.pv_graph.proofs.Reaching.{gains_none, gains_set}
use Rattle.pv_graph.proofs.reach.add_use.Goals as goal

pub returns-then-kid-first-clause-gains : goal.returns-then-kid-first-clause-gains
returns-then-kid-first-clause-gains c = gains_none c.args.first c.args.uses.now.items c.args.kid c.args.u c.if-kid-first.true

pub returns-clause-gains : goal.returns-clause-gains
returns-clause-gains c =
    let low : c.args.kid - c.args.first < length c.args.uses.now.items = omega (arith, c.requires, c.if-kid-first.false, c.args.uses.now.ok.0) in
    gains_set c.args.uses.now.items (c.args.kid - c.args.first) c.index_mut.result.now c.push.new.self c.args.u
    (slice_get_read c.args.uses.now.items (length c.args.uses.now.items) (c.args.kid - c.args.first) c.index_mut.result.now refl low c.index_mut.ensures.value) c.in_ok-push.ensures.items c.args.first c.args.kid (omega (arith, c.if-kid-first.false)) refl
