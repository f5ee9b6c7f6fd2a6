use Rattle.std.proofs.Common.{◌≡◌, ℕ, ◌<◌, ◌^◌, true, length, sym, ap, ◌∙◌, subst, true≢false}
use Rattle.std.specs.List.{AllByRecursion}
use Rattle.pv_graph.proofs.Cited.{in_at}
use Rattle.pv_heights.specs.Sides.{Match}
use Rattle.pv_heights.specs.Searches.{nodes, IsNode, OneClass, BothStand}
use Rattle.pv_saturate.specs.declared.decoding.Decoded.{Decoded}
use Rattle.pv_saturate.specs.Decoding.{decoded_seen}
use Rattle.pv_saturate.proofs.Lists.{seen_at}
use Rattle.pv_rounds.specs.Decoded.{IsReady}
use Rattle.pv_rounds.proofs.Seeking.{all_so_far}
use Rattle.pv_rounds.proofs.standing.all_stand.Goals as goal

pub both_stand-requires-clause-kids : goal.both_stand-requires-clause-kids
both_stand-requires-clause-kids c =
    let i = seen_at decoded_seen c.args.list.now c.loop-m.m-index c.m-item.result (decoded_seen c.m-item.result) c.loop-m-test.true (ap decoded_seen (sym c.m-item.is)) in
    subst (λ (m : Match ℕ). AllByRecursion (IsNode c.args.graph.now) m.kids) (sym c.instance_of.ensures) (c.requires.over (decoded_seen c.m-item.result) i).0

pub both_stand-requires-clause-vars : goal.both_stand-requires-clause-vars
both_stand-requires-clause-vars c =
    let i = seen_at decoded_seen c.args.list.now c.loop-m.m-index c.m-item.result (decoded_seen c.m-item.result) c.loop-m-test.true (ap decoded_seen (sym c.m-item.is)) in
    subst (λ (m : Match ℕ). AllByRecursion (IsNode c.args.graph.now) m.vars) (sym c.instance_of.ensures) (c.requires.over (decoded_seen c.m-item.result) i).1

pub both_stand-requires-clause-few : goal.both_stand-requires-clause-few
both_stand-requires-clause-few c =
    let ready : IsReady c.m-item.result = subst IsReady (sym c.m-item.is) (c.requires.ready _ (in_at c.args.list.now c.loop-m.m-index c.m-item.result c.loop-m-test.true)) in
    subst (λ (m : Match ℕ). length m.kids < 2 ^ 32) (sym c.instance_of.ensures) ready.few_kids

pub returns-then-not-branch : goal.returns-then-not-branch
returns-then-not-branch c =
    let i = seen_at decoded_seen c.args.list.now c.loop-m.m-index c.m-item.result (decoded_seen c.m-item.result) c.loop-m-test.true (ap decoded_seen (sym c.m-item.is)) in (
      (λ f. absurd (true≢false (sym f))),
      (λ all.
          let stands : c.in_ok-both_stand.field-0 ≡ true =
          c.in_ok-both_stand.ensures.1 (subst (λ (m : Match ℕ). BothStand (nodes c.args.graph.now) (IsNode c.args.graph.now) (OneClass c.args.classes.now.numbers) m) (sym c.instance_of.ensures) (all (decoded_seen c.m-item.result) i)) in
          sym c.if-not-branch.true ∙ stands),
    )

pub loop-m-preserved : goal.loop-m-preserved
loop-m-preserved c =
    let stands : c.in_ok-both_stand.field-0 ≡ true = c.if-not-branch.false in
    all_so_far decoded_seen (BothStand (nodes c.args.graph.now) (IsNode c.args.graph.now) (OneClass c.args.classes.now.numbers)) c.args.list.now c.loop-m.m-index c.m-item.result c.loop-m-test.true c.loop-m.invariant
    (subst (λ (d : Decoded). BothStand (nodes c.args.graph.now) (IsNode c.args.graph.now) (OneClass c.args.classes.now.numbers) (decoded_seen d)) c.m-item.is
    (subst (λ (m : Match ℕ). BothStand (nodes c.args.graph.now) (IsNode c.args.graph.now) (OneClass c.args.classes.now.numbers) m) c.instance_of.ensures (c.in_ok-both_stand.ensures.0 stands)))
