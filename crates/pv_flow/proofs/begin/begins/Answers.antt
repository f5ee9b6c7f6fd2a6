use Rattle.std.proofs.Common.{rules, ◌<◌, ◌+◌, Bool, true, List, length, set, Vec, Global, ap, ◌∙◌, sym, subst, arith}
use Rattle.std.proofs.lemmas.List.{with_items_is}
use Rattle.pv_flow.specs.Exits.{targets}
use Rattle.pv_flow.specs.Finding.{marked}
use Rattle.pv_flow.proofs.Marks.{BeginSoFar, at_read, begins_none, begins_on, begins_after, begins_all}
use Rattle.pv_flow.proofs.begin.begins.Goals as goal
use Rattle.pv_flow.proofs.begin.begins.Goals.{then-ends_block, else-ends_block}

pub loop-place-init : goal.loop-place-init
loop-place-init c = begins_none c.args.typed.now.program c.in_ok-begins.begins.items (search rules)

pub loop-place-preserved : goal.loop-place-preserved
loop-place-preserved c =
    let p = c.args.typed.now.program in
    let n = c.loop-place.place in
    let a = c.index-actions-place.result in
    let at = at_read p c.as_slice-actions.result.now n a c.as_slice-actions.ensures c.loop-place-test.true c.index-actions-place.is in
    let within : n < length p.actions = omega (arith, c.loop-place-test.true, ap length c.as_slice-actions.ensures) in
    let items = with_items_is c.loop-place.begins c.mark_targets.new.begins (c.mark_targets.auto.begins ∙ c.deref_mut.ensures.len) ∙ c.mark_targets.ensures ∙ ap (marked (targets a)) c.deref_mut.ensures.value in
    elim c.if-ends_block.branch [
      | then-ends_block w ↦
          subst (λ (marks : List Bool). BeginSoFar p (n + 1) marks) (sym (ap (λ (v : Vec Bool Global). v.items) w.begins-is ∙ ap (λ (marks : List Bool). set marks (n + 1) true) items))
          (begins_after p n a c.loop-place.begins.items at (sym c.ends_block.ensures ∙ w.if-ends_block.true) within c.loop-place.invariant)
      | else-ends_block w ↦
          subst (λ (marks : List Bool). BeginSoFar p (n + 1) marks) (sym (ap (λ (v : Vec Bool Global). v.items) w.begins-is ∙ items))
          (begins_on p n a c.loop-place.begins.items at (sym c.ends_block.ensures ∙ w.if-ends_block.false) c.loop-place.invariant)
    ]

pub returns : goal.returns
returns c = begins_all c.args.typed.now.program c.loop-place.place c.loop-place.begins.items (omega (arith, c.loop-place-test.false, ap length c.as_slice-actions.ensures)) c.loop-place.invariant
