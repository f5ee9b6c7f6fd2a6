use Rattle.std.proofs.Common.{◌↔◌, List, IfOk, IsTrue, map, sym, subst, ◌∙◌, true≢false}
use Rattle.std.specs.List.{AllByRecursion}
use Rattle.pv_pattern.specs.declared.pattern.Side.{Side}
use Rattle.pv_pattern.specs.Found.{names_of}
use Rattle.pv_pattern.specs.Instances.{Holds}
use Rattle.pv_pattern.specs.Seen.{side_seen}
use Rattle.pv_pattern.proofs.Answered.{reads, if_ok_weaker}
use Rattle.pv_pattern.proofs.instances.instance.Goals as goal

pub returns-then-not-both_stand : goal.returns-then-not-both_stand
returns-then-not-both_stand c =
    let says = reads c.args.graph.now c.args.rule.now c.args.assumed.now c.args.subst.now c.args.l c.args.r c.in-Some.reading c.requires c.in-Some.ensures in
    (λ e. absurd (true≢false (sym e)), λ i. absurd (true≢false (sym (c.both_stand.ensures.1 (says.0 i).0) ∙ c.if-not-both_stand.true)))

pub returns : goal.returns
returns c =
    let says = reads c.args.graph.now c.args.rule.now c.args.assumed.now c.args.subst.now c.args.l c.args.r c.in-Some.reading c.requires c.in-Some.ensures in
    let Hold : List Side → Type 0 = λ sides. IfOk c.all_hold.result (λ yes. IsTrue yes ↔ AllByRecursion (Holds c.in-Some.reading.graph.now c.args.assumed.now (names_of c.in-Some.reading)) (map side_seen sides)) in
    if_ok_weaker c.all_hold.result (λ yes same. (λ yes. says.1 (c.both_stand.ensures.0 c.if-not-both_stand.false, same.0 yes), λ i. same.1 (says.0 i).1))
    (subst Hold c.deref.ensures.value c.all_hold.ensures)
