use Rattle.std.proofs.Common.{◌≡◌, ◌<◌, ◌∙◌, [], ℕ, List, Some, length, slice_get, slice_set, sym, subst, arith}
use Rattle.std.proofs.lemmas.Option.{slice_get_within}
use Rattle.pv_alike.specs.BottomUp.{Settles}
use Rattle.pv_alike.proofs.Upward.{upward_few}
use Rattle.pv_alike.proofs.Settled.{Lists, settling_step, settling_all}
use Rattle.pv_alike.proofs.bottom_up.settle_waiting.Goals as goal

pub overflow_add-done : goal.overflow_add-done
overflow_add-done c =
    let at : slice_get c.loop-k.order c.loop-k.done ≡ Some c.in-Some.k = sym c.get.ensures ∙ c.in-Some.is in
    let lt : c.loop-k.done < length c.loop-k.order = slice_get_within c.loop-k.order c.loop-k.done c.in-Some.k at in
    omega (arith, lt, upward_few c.args.g.now.nodes c.loop-k.order c.loop-k.invariant.up, c.requires.few)

pub loop-k-smaller : goal.loop-k-smaller
loop-k-smaller c =
    let at : slice_get c.loop-k.order c.loop-k.done ≡ Some c.in-Some.k = sym c.get.ensures ∙ c.in-Some.is in
    let lt : c.loop-k.done < length c.loop-k.order = slice_get_within c.loop-k.order c.loop-k.done c.in-Some.k at in
    omega (arith, lt, upward_few c.args.g.now.nodes c.loop-k.order c.loop-k.invariant.up)

pub loop-k-preserved : goal.loop-k-preserved
loop-k-preserved c =
    let at : slice_get c.loop-k.order c.loop-k.done ≡ Some c.in-Some.k = sym c.get.ensures ∙ c.in-Some.is in
    let settled : Settles c.args.g.now.nodes c.loop-k.order c.settle_all.new.order (slice_set c.loop-k.waiting c.in-Some.k []) c.settle_all.new.waiting c.take-ns.result.items =
    subst (λ (before : Lists). Settles c.args.g.now.nodes c.loop-k.order c.settle_all.new.order before c.settle_all.new.waiting c.take-ns.result.items) c.take-ns.ensures.left
    (subst (λ (ns : List ℕ). Settles c.args.g.now.nodes c.loop-k.order c.settle_all.new.order c.take-ns.new.self c.settle_all.new.waiting ns) c.deref.ensures.value c.in_ok-settle_all.ensures) in
    settling_step c.args.g.now.nodes c.loop-k.order c.settle_all.new.order c.loop-k.waiting c.settle_all.new.waiting c.loop-k.done c.in-Some.k c.take-ns.result.items c.loop-k.invariant at c.take-ns.ensures.taken settled

pub returns : goal.returns
returns c = settling_all c.args.g.now.nodes c.loop-k.order c.loop-k.waiting c.loop-k.done c.loop-k.invariant (sym c.in_default.ensures)
