-- Nodes of a least graph that a search put into one class have the same values where the nodes that count as ending have values.
use Rattle.std.specs.Prelude.{◌≡◌, ℕ, zero, suc, ◌<◌, List, [], length, Some}
use Rattle.std.proofs.Common.{sym, ◌∙◌}
use Rattle.std.proofs.lemmas.Option.{slice_get_within, get_or_from_slice_get}
use Rattle.pv_value.specs.declared.world.World.{World}
use Rattle.pv_value.specs.declared.outcome.Input.{Input}
use Rattle.pv_value.specs.declared.outcome.Val.{Val}
use Rattle.pv_graph.specs.Graphs.{Graph, form_at, IsGraph, IsWellMade, Extends}
use Rattle.pv_graph.proofs.Cited.{node_at}
use Rattle.pv_denote.specs.Denote.{Index, den, Value}
use Rattle.pv_denote.proofs.Cited.{den_says, growth_law}
use Rattle.pv_steps.specs.Facts.{HaveValues}
use Rattle.pv_classes.specs.Partition.{AreOne}
use Rattle.pv_classes.specs.Linked.{Linked}
use Rattle.pv_classes.specs.Calls.{IsClasses, Classes}
use Rattle.pv_classes.proofs.Elements.{none_in}
use Rattle.pv_heights.specs.Searches.{OneClass}
use Rattle.pv_grounds.specs.Same.{ClassesSame}
use Rattle.pv_grounds.proofs.Ruled.{grown_made}
use Rattle.pv_grounds.proofs.Holding.{around, linked_holds, joins_hold}

-- ---- values

-- what has a value is a node
value_within : (g : Graph) (w : World) (x : Input) (n : ℕ) (i : Index) (v : Val) → Value (form_at g.nodes) w x n i v → n < length g.nodes
value_within g w x n i v h = by h.0 h.1
  where
    by : (fuel : ℕ) → den (form_at g.nodes) w x fuel n i ≡ Some v → n < length g.nodes
    by zero e = absurd (unfold den in (let z = e in cc))
    by (suc fuel) e = let r = den_says (form_at g.nodes) w x fuel n i v e in let node = node_at g.nodes n r.0 r.1 r.2 in slice_get_within g.nodes n node.0 node.1

-- nodes that have values have them in a graph that grew
values_stay : (old new : Graph) → IsGraph old → Extends old new → (w : World) (x : Input) (nodes : List ℕ) → HaveValues (form_at old.nodes) w x nodes → HaveValues (form_at new.nodes) w x nodes
values_stay old new is e w x nodes have n i m = let h = have n i m in (h.0, (growth_law old new is e n (value_within old w x n i h.0 h.1) w x i h.0).1 h.1)

-- ---- classes

class_linked : (c : Classes) → IsClasses c → (a b : ℕ) → OneClass c.numbers a b → Linked (length c.numbers) c.joins a b
class_linked c is a b one =
    let same : AreOne c.numbers a b = get_or_from_slice_get c.numbers a one.0 0 one.1 ∙ sym (get_or_from_slice_get c.numbers b one.0 0 one.2) in
    (is.linked a b (slice_get_within c.numbers a one.0 one.1) (slice_get_within c.numbers b one.0 one.2)).0 same

pub classes_same : ClassesSame
classes_same g k s a b is grounded low_a low_b one w x world input have i v =
    let new : Graph = s.graph in
    let old_is : IsGraph g = is.least.made.graph in
    let made : IsWellMade new = grown_made g new is.graph_ is.grown (is.base ∙ is.least.base) is.least.made.rule in
    let linked = class_linked s.classes is.classes_ a b one in
    let all = joins_hold new made is.sealed s.endings.items [] [] s.classes.blocks s.classes.joins grounded (λ j there. absurd (none_in j there)) in
    let ended = values_stay g new old_is is.grown w x s.endings.items have in
    let both = linked_holds (form_at new.nodes) (around [] s.endings.items) (length s.classes.numbers) s.classes.joins all a b linked w x world input i (ended, tt) i tt v in
    let left = growth_law g new old_is is.grown a low_a w x i v in
    let right = growth_law g new old_is is.grown b low_b w x i v in
    (λ h. right.0 (both.0 (left.1 h)), λ h. left.0 (both.1 (right.1 h)))
