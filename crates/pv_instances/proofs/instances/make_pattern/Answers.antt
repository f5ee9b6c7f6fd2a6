use Rattle.std.proofs.Common.{◌≡◌, Some, None, option_map, sym, ap, ◌∙◌, subst}
use Rattle.std.proofs.lemmas.Option.{same_Some}
use Rattle.pv_pattern.specs.Seen as pattern
use Rattle.pv_heights.specs.Filled.{Filled}
use Rattle.pv_instances.specs.Made.{SortedOver, MadeSide, MadePattern}
use Rattle.pv_instances.specs.Seen.{instance_seen, seen}
use Rattle.pv_instances.proofs.Growing.{if_ok_more}
use Rattle.pv_instances.proofs.instances.make_pattern.Goals as goal

pub unreachable-requires : goal.unreachable-requires
unreachable-requires c =
    let none_ = sym c.in_ok-side.ensures ∙ ap (option_map seen) c.in-None.is in
    let can = c.requires.can in
    absurd (let z : Some can.1.filled_ ≡ None = sym can.1.fills ∙ none_ in cc)

pub make-requires-clause-sorted : goal.make-requires-clause-sorted
make-requires-clause-sorted c =
    let fills = sym c.in_ok-side.ensures ∙ ap (option_map seen) c.in-Some.is in
    let can = c.requires.can in
    let same : can.1.filled_ ≡ seen c.in-Some.side = same_Some can.1.filled_ (seen c.in-Some.side) (sym can.1.fills ∙ fills) in
    (can.0, subst (λ (p : Filled). SortedOver c.args.graph.now (instance_seen c.args.instance.now) p can.0) same can.1.sorted)

pub returns : goal.returns
returns c =
    let fills = sym c.in_ok-side.ensures ∙ ap (option_map seen) c.in-Some.is in
    let m = instance_seen c.args.instance.now in
    if_ok_more c.make.result (λ n. MadeSide c.args.graph.now c.make.new.graph m (seen c.in-Some.side) n) (λ n. MadePattern c.args.graph.now c.make.new.graph m (pattern.seen c.args.pattern.now) n)
    (λ n made. record { filled_ = seen c.in-Some.side; fills = fills; made = made }) c.make.ensures
