use Rattle.std.proofs.Common.{◌≡◌, ℕ, ◌<◌, List, [], ◌∷◌, ◌++◌, length, get_or, set, sym, ◌∙◌, ap, subst, arith, Some}
use Rattle.pv_loops.proofs.Words.{get_or_default, AddsMembers}
use Rattle.pv_loops.proofs.Sweeping.{sources_nodes}
use Rattle.pv_loops.proofs.Gathering.{Gathering, gathering_start, gathering_more, gathered_few, gathered_all}
use Rattle.pv_loops.proofs.body.body.Goals as goal

pub loop-next-init : goal.loop-next-init
loop-next-init c = subst (λ (m : List ℕ). Gathering c.args.sources.now c.args.order.now.place.items c.args.h c.args.i 0 c.args.home.now (set c.args.home.now c.args.h (Some c.args.i)) m)
    (sym (c.in_ok-push.ensures.items ∙ ap (λ (l : List ℕ). l ++ c.args.h ∷ []) c.new-members.ensures.items))
    (gathering_start c.args.sources.now c.args.order.now.place.items c.args.h c.args.i c.args.home.now (omega (arith, c.requires.header, c.requires.homes)) c.requires.unused)

pub get-sources-requires : goal.get-sources-requires
get-sources-requires c =
    let x : ℕ = c.index.result.now in
    let lt = c.loop-next-test.true in
    let in_list : c.loop-next.next < length c.loop-next.members.items = omega (arith, lt, c.len.ensures, c.loop-next.members.ok) in
    let at : get_or c.loop-next.members.items c.loop-next.next 0 ≡ x = get_or_default c.loop-next.members.items c.loop-next.next 0 x in_list ∙ sym c.index.ensures in
    let within = c.loop-next.invariant.marked.within x (c.loop-next.next, in_list, sym c.index.ensures) in
    omega (arith, within, c.loop-next.invariant.keeps.size, c.requires.homes)

pub add_members-requires-clause-nodes : goal.add_members-requires-clause-nodes
add_members-requires-clause-nodes c = sources_nodes c.args.sources.now c.index.result.now (length c.deref.result.now) c.get-sources.result.now c.requires.shape
    (sym c.requires.order.places ∙ ap length (sym c.deref.ensures.value)) c.get-sources.ensures

pub loop-next-smaller : goal.loop-next-smaller
loop-next-smaller c = let a = c.len.ensures in let b = c.loop-next-test.true in
    omega (arith, gathered_few c.args.i c.loop-next.home c.loop-next.members.items c.loop-next.invariant.marked, c.loop-next.invariant.keeps.size, c.requires.homes, a, b, c.loop-next.members.ok)

pub loop-next-preserved : goal.loop-next-preserved
loop-next-preserved c =
    let lt = c.loop-next-test.true in
    let in_list : c.loop-next.next < length c.loop-next.members.items = omega (arith, lt, c.len.ensures, c.loop-next.members.ok) in
    let at : c.index.result.now ≡ get_or c.loop-next.members.items c.loop-next.next 0 = c.index.ensures ∙ sym (get_or_default c.loop-next.members.items c.loop-next.next 0 c.index.result.now in_list) in
    gathering_more c.args.sources.now c.args.order.now.place.items c.args.h c.args.i c.loop-next.next c.args.home.now c.loop-next.home c.add_members.new.home c.loop-next.members.items c.add_members.new.members.items c.get-sources.result.now
    in_list (c.get-sources.ensures ∙ ap (λ v. get_or c.args.sources.now v []) at) (subst (λ (q : List ℕ). AddsMembers q c.args.h c.get-sources.result.now c.loop-next.members.items c.add_members.new.members.items) c.deref.ensures.value c.in_ok-add_members.ensures.added) c.in_ok-add_members.ensures.marked c.in_ok-add_members.ensures.kept c.loop-next.invariant

pub returns-clause-body : goal.returns-clause-body
returns-clause-body c = let ge = c.loop-next-test.false in
    gathered_all c.args.sources.now c.args.order.now.nodes.items c.args.order.now.place.items c.args.h c.args.i c.loop-next.next c.args.home.now c.loop-next.home c.loop-next.members.items c.requires.shape c.requires.order
    (omega (arith, ge, c.len.ensures, c.loop-next.members.ok)) c.loop-next.invariant
