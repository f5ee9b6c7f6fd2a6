use Rattle.std.proofs.Common.{◌≡◌, ℕ, suc, zero, ◌+◌, ◌-◌, List, None, refl, ap, sym, subst, ◌∙◌, arith}
use Rattle.pv_block.proofs.Words.{slice_get, slice_get_read, slice_get_past, Action, IsAt, grows_then}
use Rattle.pv_block.proofs.Reaching.{Reaches, reaches_next, stops, runs_out, reaches_last}
use Rattle.pv_block.proofs.along.along.Goals as goal

pub returns-in_default-clause-acts : goal.returns-in_default-clause-acts
returns-in_default-clause-acts c =
    let look = c.in_default.ensures.lookup in
    let less = c.loop-done-test.true in
    let m = c.args.count - (c.loop-done.done + 1) in
    let place = c.args.first + c.loop-done.done in
    let past : slice_get c.args.program.now.actions place ≡ None = ap (λ (l : List Action). slice_get l place) (sym c.as_slice-actions.ensures) ∙ slice_get_past c.as_slice-actions.result.now place look.3 in
    runs_out c.args.program.now c.args.count c.args.first m place c.args.g.now.nodes c.loop-done.g.nodes c.args.held c.loop-done.after (c.loop-done.invariant.reaches (suc m) (omega (arith, less))) c.loop-done.g.nodes past

pub act-requires-clause-plain : goal.act-requires-clause-plain
act-requires-clause-plain c =
    let look = c.in-Some.ensures.lookup in
    let place = c.args.first + c.loop-done.done in
    let at : IsAt c.args.program.now place c.in-Some.action.now =
    ap (λ (l : List Action). slice_get l place) (sym c.as_slice-actions.ensures) ∙ slice_get_read c.as_slice-actions.result.now _ place c.in-Some.action.now refl look.3.0 look.1 in
    c.requires.plain place c.in-Some.action.now at

pub returns-in_err-next-clause-grows : goal.returns-in_err-next-clause-grows
returns-in_err-next-clause-grows c = grows_then c.args.g.now c.loop-done.g c.act.new.g c.loop-done.invariant.grows c.in_err-next.ensures.grows

pub returns-in_default-2-clause-acts : goal.returns-in_default-2-clause-acts
returns-in_default-2-clause-acts c =
    let acts = rw c.in_default-2.is at c.in_ok-next.ensures.acts in
    let look = c.in-Some.ensures.lookup in
    let less = c.loop-done-test.true in
    let m = c.args.count - (c.loop-done.done + 1) in
    let place = c.args.first + c.loop-done.done in
    let at : IsAt c.args.program.now place c.in-Some.action.now =
    ap (λ (l : List Action). slice_get l place) (sym c.as_slice-actions.ensures) ∙ slice_get_read c.as_slice-actions.result.now _ place c.in-Some.action.now refl look.3.0 look.1 in
    stops c.args.program.now c.args.count c.args.first m place c.args.g.now.nodes c.loop-done.g.nodes c.args.held c.loop-done.after (c.loop-done.invariant.reaches (suc m) (omega (arith, less))) c.in-Some.action.now c.act.new.g.nodes at acts

pub returns-in_default-2-clause-grows : goal.returns-in_default-2-clause-grows
returns-in_default-2-clause-grows c = grows_then c.args.g.now c.loop-done.g c.act.new.g c.loop-done.invariant.grows c.in_ok-next.ensures.grows

pub loop-done-preserved : goal.loop-done-preserved
loop-done-preserved c =
    let acts = rw c.in-Some-2.is at c.in_ok-next.ensures.acts in
    let sorted = rw c.in-Some-2.is at c.in_ok-next.ensures.sorted in
    let look = c.in-Some.ensures.lookup in
    let place = c.args.first + c.loop-done.done in
    let at : IsAt c.args.program.now place c.in-Some.action.now =
    ap (λ (l : List Action). slice_get l place) (sym c.as_slice-actions.ensures) ∙ slice_get_read c.as_slice-actions.result.now _ place c.in-Some.action.now refl look.3.0 look.1 in
    let next : suc place ≡ c.args.first + (c.loop-done.done + 1) = omega arith in
    record {
      reaches = λ m is.
          subst (λ (j : ℕ). Reaches c.args.program.now c.args.count c.args.first m j c.args.g.now.nodes c.args.held c.act.new.g.nodes c.in-Some-2.next) next
          (reaches_next c.args.program.now c.args.count c.args.first m place c.args.g.now.nodes c.loop-done.g.nodes c.args.held c.loop-done.after (c.loop-done.invariant.reaches (suc m) (omega (arith, is))) c.in-Some.action.now c.act.new.g.nodes c.in-Some-2.next at acts);
      sorted = sorted;
      grows = grows_then c.args.g.now c.loop-done.g c.act.new.g c.loop-done.invariant.grows c.in_ok-next.ensures.grows;
    }

pub returns-clause-acts : goal.returns-clause-acts
returns-clause-acts c =
    let more = c.loop-done-test.false in
    let most = c.loop-done.auto.done-end in
    let done : zero + c.loop-done.done ≡ c.args.count = omega (arith, more, most) in
    reaches_last c.args.program.now c.args.count c.args.first (c.args.first + c.loop-done.done) c.args.g.now.nodes c.loop-done.g.nodes c.args.held c.loop-done.after (c.loop-done.invariant.reaches zero done)
