use Rattle.std.proofs.Common.{subst}
use Rattle.pv_instances.specs.Seen.{instance_seen}
use Rattle.pv_standing.specs.Standing.{IsClassOfSide}
use Rattle.pv_standing.proofs.Both.{no_left, no_right, both}
use Rattle.pv_standing.proofs.sides.both_stand.Goals as goal

pub returns-in_default : goal.returns-in_default
returns-in_default c = no_left c.args.graph.now c.args.classes.now (instance_seen c.args.instance.now) c.in_ok-left.field-0 c.in_default.not-Some c.in_ok-left.ensures

pub returns-in_default-2 : goal.returns-in_default-2
returns-in_default-2 c = no_right c.args.graph.now c.args.classes.now (instance_seen c.args.instance.now) c.in_ok-right.field-0 c.in_default-2.not-Some c.in_ok-right.ensures

pub returns : goal.returns
returns c =
    let g = c.args.graph.now in let k = c.args.classes.now in let m = instance_seen c.args.instance.now in
    let left = subst (IsClassOfSide g k.numbers m m.entry.left) c.in-Some.is c.in_ok-left.ensures in
    let right = subst (IsClassOfSide g k.numbers m m.entry.right) c.in-Some-2.is c.in_ok-right.ensures in
    both g k m (record { knows = c.requires.knows; congruence = c.requires.congruence; kids = c.requires.kids; vars = c.requires.vars }) c.in-Some.left c.in-Some-2.right c.joined.result left right c.joined.ensures
