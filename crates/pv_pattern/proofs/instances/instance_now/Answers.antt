use Rattle.std.proofs.Common.{◌↔◌, List, [], IsTrue, map, sym, subst, ◌∙◌, true≢false}
use Rattle.std.specs.List.{AllByRecursion}
use Rattle.pv_pattern.specs.declared.pattern.Side.{Side}
use Rattle.pv_pattern.specs.Found.{names_of}
use Rattle.pv_pattern.specs.Instances.{Holds}
use Rattle.pv_pattern.specs.Seen.{side_seen}
use Rattle.pv_pattern.proofs.Answered.{reads}
use Rattle.pv_pattern.proofs.instances.instance_now.Goals as goal

pub returns-then-both_stand : goal.returns-then-both_stand
returns-then-both_stand c =
    let says = reads c.args.graph.now c.args.rule.now [] c.args.subst.now c.args.l c.args.r c.in-Some.reading c.requires.binds c.in-Some.ensures in
    let Hold : List Side → Type 0 = λ sides. IsTrue c.all_hold_now.result ↔ AllByRecursion (Holds c.in-Some.reading.graph.now [] (names_of c.in-Some.reading)) (map side_seen sides) in
    let same = subst Hold c.deref.ensures.value c.all_hold_now.ensures in
    (λ yes. says.1 (c.both_stand.ensures.0 c.if-both_stand.true, same.0 yes), λ i. same.1 (says.0 i).1)

pub returns-else-both_stand : goal.returns-else-both_stand
returns-else-both_stand c =
    let says = reads c.args.graph.now c.args.rule.now [] c.args.subst.now c.args.l c.args.r c.in-Some.reading c.requires.binds c.in-Some.ensures in
    (λ e. absurd (true≢false (sym e ∙ c.if-both_stand.false)), λ i. c.both_stand.ensures.1 (says.0 i).0)
