use Rattle.std.proofs.Common.{◌∙◌}
use Rattle.pv_instances.specs.Seen.{instance_seen}
use Rattle.pv_instances.proofs.MadeInstances.{can_later, both_made}
use Rattle.pv_instances.proofs.instances.add_instance.Goals as goal

pub make_pattern-requires : goal.make_pattern-requires
make_pattern-requires c = let can = c.requires.sides in record { sealed = c.requires.sealed; few = c.requires.few; can = (can.sort_, can.left) }

pub make_pattern-requires-2 : goal.make_pattern-requires-2
make_pattern-requires-2 c =
    let can = c.requires.sides in
    let grows = c.in_ok-left.ensures.made.grows in
    let m = instance_seen c.args.instance.now in
    record {
      sealed = grows.sealed ∙ c.requires.sealed;
      few = c.requires.few;
      can = (can.sort_, can_later c.args.graph.now c.make_pattern.new.graph m m.entry.right can.sort_ grows.extends_ can.right);
    }

pub returns : goal.returns
returns c =
    both_made c.args.graph.now c.make_pattern.new.graph c.make_pattern-2.new.graph (instance_seen c.args.instance.now) c.in_ok-left.left c.in_ok-right.right c.requires.sides c.in_ok-left.ensures c.in_ok-right.ensures
