use Rattle.std.proofs.Common.{ℕ, Bool, List, Option, map, subst}
use Rattle.std.specs.Prelude.{IfSome}
use Rattle.pv_pattern.specs.Seen.{axiom_seen}
use Rattle.pv_touched.specs.Looks.{TableWithin}
use Rattle.pv_touched.specs.Far.{ListsNear}
use Rattle.pv_touched.proofs.Takes.{near_touched, can_take_over, takes_all}
use Rattle.pv_touched.proofs.nodes.touched.Goals as goal

pub returns-in_ok-list-in-Some : goal.returns-in_ok-list-in-Some
returns-in_ok-list-in-Some c earlier assumed known now_ seen =
    let g = c.args.graph.now in
    let s = c.args.since.now in
    let steps = c.in-Some.steps in
    let near = c.in_ok-near-in-Some.near.items in
    let list = c.in_ok-list-in-Some.list.items in
    let within : TableWithin steps (map axiom_seen c.args.table.now) = subst (λ (o : Option ℕ). IfSome o (λ d. TableWithin d (map axiom_seen c.args.table.now))) c.in-Some.is c.steps_of.ensures in
    let lists : ListsNear g s c.args.kept.now near list = subst (λ (xs : List Bool). ListsNear g s c.args.kept.now xs list) c.deref.ensures.value c.in_ok-list-in-Some.ensures in
    can_take_over earlier g s assumed (map axiom_seen c.args.table.now) known c.requires.readable now_ seen steps c.args.kept.now list c.requires.kept within (near_touched g s steps c.args.kept.now near list c.in_ok-near-in-Some.ensures lists)

pub returns-in_ok-all-in-None : goal.returns-in_ok-all-in-None
returns-in_ok-all-in-None c earlier assumed known now_ seen =
    takes_all earlier c.args.graph.now c.args.since.now assumed (map axiom_seen c.args.table.now) known c.requires.readable now_ seen c.in_ok-all-in-None.all.items c.in_ok-all-in-None.ensures
