use Rattle.std.proofs.Common.{rules, ◌≡◌, ℕ, List, Option, Some, map, option_map, take, sym, subst, IfOk}
use Rattle.pv_heights.specs.Filled.{Filled, at, of}
use Rattle.pv_instances.specs.Seen.{hole_seen, instance_seen, parts, seen}
use Rattle.pv_instances.specs.declared.side.Filled.{the_lemmas}
use Rattle.pv_instances.proofs.Cited.{if_ok_more, mapped_at, mapped_more}
use Rattle.pv_standing.specs.Parts.{IsClassOver, IsClassOf, AreClassesOf}
use Rattle.pv_standing.proofs.Standing.{hole_found, over_found, none_found, more_found}
use Rattle.pv_standing.proofs.parts.+class_of_filled.Goals as goal

pub class_of_filled-returns-in-At : goal.class_of_filled-returns-in-At
class_of_filled-returns-in-At t c =
    let g = c.args.graph.now in let k = c.args.classes.now in let m = instance_seen c.args.instance.now in
    let same : at (hole_seen c.in-At.hole) ≡ seen c.args.side.now = rw c.in-At.is (search (rules, the_lemmas)) in
    subst (λ (s : Filled). IsClassOf g k.numbers m s c.node_at.result) same (hole_found g k m c.requires (hole_seen c.in-At.hole) c.node_at.result c.node_at.ensures)

pub class_of_filled-returns-in-Some : goal.class_of_filled-returns-in-Some
class_of_filled-returns-in-Some t c =
    let g = c.args.graph.now in let k = c.args.classes.now in let m = instance_seen c.args.instance.now in
    let o = c.in-Of.op in let over = c.deref-in-Some.result.now in
    let same : of o (parts (map seen c.in-Of.parts.items)) ≡ seen c.args.side.now = rw c.in-Of.is (search (rules, the_lemmas)) in
    let all : AreClassesOf g k.numbers m (parts (map seen c.in-Of.parts.items)) (Some over) =
    subst (λ (ns : List ℕ). AreClassesOf g k.numbers m (parts (map seen c.in-Of.parts.items)) (Some ns)) (sym c.deref-in-Some.ensures.value)
    (subst (λ (xs : List _). AreClassesOf g k.numbers m (parts (map seen xs)) (Some c.in-Some.over.items)) c.deref.ensures.value
    (subst (λ (v : Option _). AreClassesOf g k.numbers m (parts (map seen c.deref.result.now)) (option_map (λ u. u.items) v)) c.in-Some.is c.in_ok-over-in-Of.ensures)) in
    subst (λ (s : Filled). IfOk c.class_over.result (λ found. IsClassOf g k.numbers m s found)) same
    (if_ok_more c.class_over.result (λ (found : Option ℕ). IsClassOver g k.numbers o over found) (λ (found : Option ℕ). IsClassOf g k.numbers m (of o (parts (map seen c.in-Of.parts.items))) found)
    (λ found h. over_found g k m c.requires o (parts (map seen c.in-Of.parts.items)) over all.1 found h) c.class_over.ensures)

pub classes_of_parts-returns-in-None : goal.classes_of_parts-returns-in-None
classes_of_parts-returns-in-None t c =
    let g = c.args.graph.now in let k = c.args.classes.now in let m = instance_seen c.args.instance.now in
    none_found g k m c.requires (map seen c.args.sides.now) c.loop-side.side-index (seen c.side-item.result)
    (mapped_at seen c.args.sides.now c.loop-side.side-index c.side-item.result c.loop-side-test.true c.side-item.is)
    (subst (λ (found : Option ℕ). IsClassOf g k.numbers m (seen c.side-item.result) found) c.in-None.is c.in_ok-c.ensures)

pub classes_of_parts-loop-side-preserved : goal.classes_of_parts-loop-side-preserved
classes_of_parts-loop-side-preserved t c =
    let g = c.args.graph.now in let k = c.args.classes.now in let m = instance_seen c.args.instance.now in
    let more = mapped_more seen c.args.sides.now c.loop-side.side-index c.side-item.result c.loop-side-test.true c.side-item.is in
    let one = subst (λ (found : Option ℕ). IsClassOf g k.numbers m (seen c.side-item.result) found) c.in-Some.is c.in_ok-c.ensures in
    rw (more, c.in_ok-push-in-Some.ensures.items)
    (more_found g k m c.requires (map seen (take c.loop-side.side-index c.args.sides.now)) c.loop-side.found.items (seen c.side-item.result) c.in-Some.c c.loop-side.invariant one)
