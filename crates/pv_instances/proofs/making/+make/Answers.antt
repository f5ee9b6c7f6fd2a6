use Rattle.std.proofs.Common.{rules, ◌≡◌, ℕ, List, map, take, sym, subst, ◌∙◌, Some, slice_get}
use Rattle.pv_graph.specs.declared.node.Op.{Op}
use Rattle.pv_graph.specs.Calls.{Added, FitsOver}
use Rattle.pv_heights.specs.Filled.{Filled, at, of}
use Rattle.pv_instances.specs.Made.{SortedOver, MadeSide}
use Rattle.pv_instances.specs.Parts.{AllSortedOver, MadeSides}
use Rattle.pv_instances.specs.Seen.{hole_seen, instance_seen, parts, seen}
use Rattle.pv_instances.specs.declared.side.Filled.{the_lemmas}
use Rattle.pv_instances.proofs.Growing.{if_ok_more, mapped_at, mapped_more}
use Rattle.pv_instances.proofs.MadeSides.{hole_found, made_hole, parts_sorted, parts_fit, made_over, made_none, made_more, next_sorted}
use Rattle.pv_instances.proofs.making.+make.Goals as goal

pub make-unreachable-requires : goal.make-unreachable-requires
make-unreachable-requires t c =
    let same : at (hole_seen c.in-At.hole) ≡ seen c.args.side.now = rw c.in-At.is (search (rules, the_lemmas)) in
    let m = instance_seen c.args.instance.now in
    let s = c.requires.sorted in
    hole_found c.args.graph.now m (hole_seen c.in-At.hole) s.0 (subst (λ (p : Filled). SortedOver c.args.graph.now m p s.0) (sym same) s.1) (sym c.node_at.ensures ∙ c.in-None.is)

pub make-returns-in-Some : goal.make-returns-in-Some
make-returns-in-Some t c =
    let same : at (hole_seen c.in-At.hole) ≡ seen c.args.side.now = rw c.in-At.is (search (rules, the_lemmas)) in
    let m = instance_seen c.args.instance.now in
    subst (λ (p : Filled). MadeSide c.args.graph.now c.args.graph.now m p c.in-Some.n) same (made_hole c.args.graph.now m (hole_seen c.in-At.hole) c.in-Some.n (sym c.node_at.ensures ∙ c.in-Some.is))

pub make-make_all-requires : goal.make-make_all-requires
make-make_all-requires t c =
    let same : of c.in-Of.op (parts (map seen c.in-Of.parts.items)) ≡ seen c.args.side.now = rw c.in-Of.is (search (rules, the_lemmas)) in
    let m = instance_seen c.args.instance.now in
    let s = c.requires.sorted in
    let p = parts_sorted c.args.graph.now m c.in-Of.op (parts (map seen c.in-Of.parts.items)) s.0 (subst (λ (p : Filled). SortedOver c.args.graph.now m p s.0) (sym same) s.1) in
    (search (rules, the_lemmas), (c.requires.sealed, (p.0, subst (λ (xs : List _). AllSortedOver c.args.graph.now m (parts (map seen xs)) p.0) (sym c.deref.ensures.value) p.1)))

pub make-add_fitting-requires : goal.make-add_fitting-requires
make-add_fitting-requires t c =
    let same : of c.in-Of.op (parts (map seen c.in-Of.parts.items)) ≡ seen c.args.side.now = rw c.in-Of.is (search (rules, the_lemmas)) in
    let m = instance_seen c.args.instance.now in
    let s = c.requires.sorted in
    let made : MadeSides c.args.graph.now c.make_all.new.graph m (parts (map seen c.in-Of.parts.items)) c.deref-in-Of.result.now =
    subst (λ (xs : List _). MadeSides c.args.graph.now c.make_all.new.graph m (parts (map seen xs)) c.deref-in-Of.result.now) c.deref.ensures.value
    (subst (λ (ns : List ℕ). MadeSides c.args.graph.now c.make_all.new.graph m (parts (map seen c.deref.result.now)) ns) (sym c.deref-in-Of.ensures.value) c.in_ok-nodes-in-Of.ensures) in
    let fits = parts_fit c.args.graph.now c.make_all.new.graph m c.in-Of.op (parts (map seen c.in-Of.parts.items)) s.0 c.deref-in-Of.result.now (subst (λ (p : Filled). SortedOver c.args.graph.now m p s.0) (sym same) s.1) made in
    record {
      sealed = made.grows.sealed ∙ c.requires.sealed;
      fits = subst (λ (o : Op). FitsOver c.make_all.new.graph o c.deref-in-Of.result.now) (sym c.in_ok-op-in-Of.ensures) fits;
    }

pub make-returns-in_ok-op-in-Of : goal.make-returns-in_ok-op-in-Of
make-returns-in_ok-op-in-Of t c =
    let same : of c.in-Of.op (parts (map seen c.in-Of.parts.items)) ≡ seen c.args.side.now = rw c.in-Of.is (search (rules, the_lemmas)) in
    let m = instance_seen c.args.instance.now in
    let made : MadeSides c.args.graph.now c.make_all.new.graph m (parts (map seen c.in-Of.parts.items)) c.deref-in-Of.result.now =
    subst (λ (xs : List _). MadeSides c.args.graph.now c.make_all.new.graph m (parts (map seen xs)) c.deref-in-Of.result.now) c.deref.ensures.value
    (subst (λ (ns : List ℕ). MadeSides c.args.graph.now c.make_all.new.graph m (parts (map seen c.deref.result.now)) ns) (sym c.deref-in-Of.ensures.value) c.in_ok-nodes-in-Of.ensures) in
    if_ok_more c.add_fitting.result
    (λ n. Added c.make_all.new.graph c.add_fitting.new.graph c.in_ok-op-in-Of.op c.deref-in-Of.result.now n)
    (λ n. MadeSide c.args.graph.now c.add_fitting.new.graph m (seen c.args.side.now) n)
    (λ n added. subst (λ (p : Filled). MadeSide c.args.graph.now c.add_fitting.new.graph m p n) same
    (made_over c.args.graph.now c.make_all.new.graph c.add_fitting.new.graph m c.in-Of.op (parts (map seen c.in-Of.parts.items)) c.deref-in-Of.result.now n c.requires.sealed made
    (subst (λ (o : Op). Added c.make_all.new.graph c.add_fitting.new.graph o c.deref-in-Of.result.now n) c.in_ok-op-in-Of.ensures added)))
    c.add_fitting.ensures

pub make_all-make-requires : goal.make_all-make-requires
make_all-make-requires t c =
    let s = c.requires.sorted in
    let made = c.loop-side.invariant in
    let at_ : slice_get (map seen c.args.sides.now) c.loop-side.side-index ≡ Some (seen c.side-item.result) = mapped_at seen c.args.sides.now c.loop-side.side-index c.side-item.result c.loop-side-test.true c.side-item.is in (
      search (rules, the_lemmas),
      (
        made.grows.sealed ∙ c.requires.sealed,
        next_sorted c.args.graph.now c.loop-side.graph (instance_seen c.args.instance.now) (map seen c.args.sides.now) c.loop-side.side-index (seen c.side-item.result) s.0 at_ made.grows.extends_ s.1,
      ),
    )

pub make_all-loop-side-init : goal.make_all-loop-side-init
make_all-loop-side-init t c = rw c.new-nodes.ensures.items (made_none c.args.graph.now (instance_seen c.args.instance.now))

pub make_all-loop-side-preserved : goal.make_all-loop-side-preserved
make_all-loop-side-preserved t c =
    let more = mapped_more seen c.args.sides.now c.loop-side.side-index c.side-item.result c.loop-side-test.true c.side-item.is in
    rw (more, c.in_ok-push.ensures.items)
    (made_more c.args.graph.now c.loop-side.graph c.make.new.graph (instance_seen c.args.instance.now) (map seen (take c.loop-side.side-index c.args.sides.now)) c.loop-side.nodes.items (seen c.side-item.result) c.in_ok-make.field-0
    c.loop-side.invariant c.in_ok-make.ensures)
