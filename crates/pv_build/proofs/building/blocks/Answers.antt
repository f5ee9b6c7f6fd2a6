use Rattle.std.proofs.Common.{◌≡◌, ℕ, ◌+◌, ◌<◌, ◌≤◌, List, length, slice_get, refl, sym, ap, ◌∙◌, subst, rules, arith}
use Rattle.pv_build.proofs.Words.{slice_get_read, AreDone, IsStageFor}
use Rattle.pv_build.proofs.Turns.{done_same}
use Rattle.pv_build.proofs.Restaged.{first_for, first_same, first_on, past_end}
use Rattle.pv_build.proofs.building.blocks.Goals as goal

pub loop-k-init : goal.loop-k-init
loop-k-init c = record {
  stage = first_for c.args.method.now c.requires.method c.args.g.now c.args.made.now c.requires.stage (slice_get c.args.method.now.forest.now.order.items 0) refl;
  done = c.requires.none;
  start = refl;
  keeps = first_same c.args.made.now.start c.args.g.now c.requires.stage.well.graph;
}

pub leave-requires-clause-next : goal.leave-requires-clause-next
leave-requires-clause-next c =
    let order : List ℕ = c.args.method.now.forest.now.order.items in
    let count : c.len-k-end.result ≡ length order = search rules in
    let low : c.loop-k.k < length order = omega (arith, count, c.loop-k-test.true) in
    record {
      place = c.loop-k.k;
      at = slice_get_read order (length order) c.loop-k.k c.index-b.result.now refl low c.index-b.ensures;
      done = c.loop-k.invariant.done;
    }

pub leave-requires-clause-stage : goal.leave-requires-clause-stage
leave-requires-clause-stage c =
    let order : List ℕ = c.args.method.now.forest.now.order.items in
    let count : c.len-k-end.result ≡ length order = search rules in
    let low : c.loop-k.k < length order = omega (arith, count, c.loop-k-test.true) in
    subst (IsStageFor c.args.method.now c.loop-k.g c.loop-k.made) (slice_get_read order (length order) c.loop-k.k c.index-b.result.now refl low c.index-b.ensures) c.loop-k.invariant.stage

pub returns-in_err-leave-clause-keeps : goal.returns-in_err-leave-clause-keeps
returns-in_err-leave-clause-keeps c = first_on c.args.made.now.start c.loop-k.made.start c.args.g.now c.loop-k.g c.leave.new.g c.loop-k.invariant.start c.loop-k.invariant.keeps c.leave.ensures.keeps

pub close_all-requires-clause-last : goal.close_all-requires-clause-last
close_all-requires-clause-last c =
    let order : List ℕ = c.args.method.now.forest.now.order.items in
    let count : c.len-k-end.result ≡ length order = search rules in
    let low : c.loop-k.k < length order = omega (arith, count, c.loop-k-test.true) in
    let at = slice_get_read order (length order) c.loop-k.k c.index-b.result.now refl low c.index-b.ensures in
    record {
      place = c.loop-k.k;
      at = at;
      after = ap (λ (xs : List ℕ). slice_get xs (c.loop-k.k + 1)) (sym c.deref.ensures.value) ∙ sym c.number_at-next.ensures;
      done = c.in_ok-leave.ensures.done c.loop-k.k c.loop-k.invariant.done at;
    }

pub close_all-requires-clause-stage : goal.close_all-requires-clause-stage
close_all-requires-clause-stage c = c.in_ok-leave.ensures.stage

pub returns-in_err-close_all-clause-keeps : goal.returns-in_err-close_all-clause-keeps
returns-in_err-close_all-clause-keeps c =
    first_on c.args.made.now.start c.leave.new.made.start c.args.g.now c.leave.new.g c.close_all.new.g (c.leave.ensures.start ∙ c.loop-k.invariant.start)
    (first_on c.args.made.now.start c.loop-k.made.start c.args.g.now c.loop-k.g c.leave.new.g c.loop-k.invariant.start c.loop-k.invariant.keeps c.leave.ensures.keeps) c.close_all.ensures.keeps

pub loop-k-preserved : goal.loop-k-preserved
loop-k-preserved c =
    let m = c.args.method.now in
    let order : List ℕ = m.forest.now.order.items in
    let count : c.len-k-end.result ≡ length order = search rules in
    let low : c.loop-k.k < length order = omega (arith, count, c.loop-k-test.true) in
    let at = slice_get_read order (length order) c.loop-k.k c.index-b.result.now refl low c.index-b.ensures in
    record {
      stage = subst (IsStageFor m c.close_all.new.g c.close_all.new.made) (c.number_at-next.ensures ∙ ap (λ (xs : List ℕ). slice_get xs (c.loop-k.k + 1)) c.deref.ensures.value) c.in_ok-close_all.ensures.stage;
      done = done_same m c.leave.new.made c.close_all.new.made (c.loop-k.k + 1) c.close_all.ensures.blocks (c.in_ok-leave.ensures.done c.loop-k.k c.loop-k.invariant.done at);
      start = c.close_all.ensures.start ∙ c.leave.ensures.start ∙ c.loop-k.invariant.start;
      keeps = first_on c.args.made.now.start c.leave.new.made.start c.args.g.now c.leave.new.g c.close_all.new.g (c.leave.ensures.start ∙ c.loop-k.invariant.start)
          (first_on c.args.made.now.start c.loop-k.made.start c.args.g.now c.loop-k.g c.leave.new.g c.loop-k.invariant.start c.loop-k.invariant.keeps c.leave.ensures.keeps) c.close_all.ensures.keeps;
    }

pub returns-clause-stage : goal.returns-clause-stage
returns-clause-stage c =
    let order : List ℕ = c.args.method.now.forest.now.order.items in
    let count : c.len-k-end.result ≡ length order = search rules in
    let all : length order ≤ c.loop-k.k = omega (arith, count, c.loop-k-test.false, c.loop-k.auto.k-end) in
    subst (IsStageFor c.args.method.now c.loop-k.g c.loop-k.made) (past_end order c.loop-k.k all) c.loop-k.invariant.stage

pub returns-clause-done : goal.returns-clause-done
returns-clause-done c =
    let order : List ℕ = c.args.method.now.forest.now.order.items in
    let count : c.len-k-end.result ≡ length order = search rules in
    let all : c.loop-k.k ≡ length order = omega (arith, count, c.loop-k-test.false, c.loop-k.auto.k-end) in
    subst (AreDone c.args.method.now c.loop-k.made) all c.loop-k.invariant.done
