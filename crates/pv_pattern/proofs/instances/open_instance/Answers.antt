use Rattle.std.proofs.Common.{◌↔◌, List, IfOk, IsTrue, map, sym, subst, ◌∙◌, true≢false}
use Rattle.std.specs.List.{AllByRecursion}
use Rattle.pv_pattern.specs.declared.pattern.Side.{Side}
use Rattle.pv_pattern.specs.Found.{names_of}
use Rattle.pv_pattern.specs.Instances.{Holds, HoldsForAll}
use Rattle.pv_pattern.specs.Seen.{side_seen}
use Rattle.pv_pattern.proofs.Answered.{open_reads, if_ok_weaker}
use Rattle.pv_pattern.proofs.instances.open_instance.Goals as goal

pub returns-then-not-both_stand : goal.returns-then-not-both_stand
returns-then-not-both_stand c =
    let says = open_reads c.args.graph.now c.args.rule.now c.args.assumed.now c.args.subst.now c.args.l c.args.r c.in-Some.reading c.requires c.in-Some.ensures in
    (λ e. absurd (true≢false (sym e)), λ i. absurd (true≢false (sym (c.both_stand.ensures.1 (says.0 i).0.0) ∙ c.if-not-both_stand.true)))

pub returns-then-not-branch : goal.returns-then-not-branch
returns-then-not-branch c =
    let says = open_reads c.args.graph.now c.args.rule.now c.args.assumed.now c.args.subst.now c.args.l c.args.r c.in-Some.reading c.requires c.in-Some.ensures in
    let Hold : List Side → Type 0 = λ sides. IsTrue c.in_ok-all_hold.field-0 ↔ AllByRecursion (Holds c.in-Some.reading.graph.now c.args.assumed.now (names_of c.in-Some.reading)) (map side_seen sides) in
    let hold = subst Hold c.deref.ensures.value c.in_ok-all_hold.ensures in
    (λ e. absurd (true≢false (sym e)), λ i. absurd (true≢false (sym (hold.1 (says.0 i).0.1) ∙ c.if-not-branch.true)))

pub returns : goal.returns
returns c =
    let says = open_reads c.args.graph.now c.args.rule.now c.args.assumed.now c.args.subst.now c.args.l c.args.r c.in-Some.reading c.requires c.in-Some.ensures in
    let Hold : List Side → Type 0 = λ sides. IsTrue c.in_ok-all_hold.field-0 ↔ AllByRecursion (Holds c.in-Some.reading.graph.now c.args.assumed.now (names_of c.in-Some.reading)) (map side_seen sides) in
    let hold = subst Hold c.deref.ensures.value c.in_ok-all_hold.ensures in
    let ForAll : List Side → Type 0 = λ sides. IfOk c.all_hold_for_all.result (λ yes. IsTrue yes ↔ AllByRecursion (HoldsForAll c.in-Some.reading.graph.now (names_of c.in-Some.reading)) (map side_seen sides)) in
    if_ok_weaker c.all_hold_for_all.result (λ yes same. (λ yes. says.1 ((c.both_stand.ensures.0 c.if-not-both_stand.false, hold.0 c.if-not-branch.false), same.0 yes), λ i. same.1 (says.0 i).1))
    (subst ForAll c.deref-2.ensures.value c.all_hold_for_all.ensures)
