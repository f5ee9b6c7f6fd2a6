use Rattle.std.proofs.Common.{◌≡◌, ◌+◌, true, false, get_or, refl, sym, ◌∙◌, subst}
use Rattle.std.proofs.lemmas.Option.{slice_get_within, slice_get-get_or}
use Rattle.pv_build.specs.Stages.{IsStage}
use Rattle.pv_build.proofs.Around.{home_low}
use Rattle.pv_build.proofs.Turns.{block_low}
use Rattle.pv_build.proofs.Restaged.{first_same, first_on}
use Rattle.pv_build.proofs.Outwards.{loop_in, closed_none, closed_here, closed_done, closed_one, last_same}
use Rattle.pv_build.proofs.building.close_all.Goals as goal

pub around-row-requires : goal.around-row-requires
around-row-requires c = home_low c.args.method.now c.requires.method c.args.b (block_low c.args.method.now c.requires.method c.requires.last.place c.args.b c.requires.last.at)

pub loop-i-init : goal.loop-i-init
loop-i-init c = record {
  last = c.requires.last;
  stage = c.requires.stage;
  blocks = refl;
  start = refl;
  keeps = first_same c.args.made.now.start c.args.g.now c.requires.stage.well.graph;
}

pub has_next-requires-clause-loop_ : goal.has_next-requires-clause-loop_
has_next-requires-clause-loop_ c =
    let q = loop_in c.args.method.now c.requires.method c.args.b c.around-row.result.now c.around-row.ensures.headers c.around-row.ensures.within c.loop-i.i-index (get_or c.around-row.result.now c.loop-i.i-index 0) (slice_get-get_or c.around-row.result.now c.loop-i.i-index 0 c.loop-i-test.true) in
    slice_get_within c.args.method.now.forest.now.loops.items (get_or c.around-row.result.now c.loop-i.i-index 0) q.listed q.there

pub has_next-requires-clause-next : goal.has_next-requires-clause-next
has_next-requires-clause-next c n is = block_low c.args.method.now c.requires.method (c.loop-i.invariant.last.place + 1) n (c.loop-i.invariant.last.after ∙ is)

pub returns-then-has_next-clause-stage : goal.returns-then-has_next-clause-stage
returns-then-has_next-clause-stage c =
    let q = loop_in c.args.method.now c.requires.method c.args.b c.around-row.result.now c.around-row.ensures.headers c.around-row.ensures.within c.loop-i.i-index (get_or c.around-row.result.now c.loop-i.i-index 0) (slice_get-get_or c.around-row.result.now c.loop-i.i-index 0 c.loop-i-test.true) in
    closed_here c.args.method.now c.requires.method c.args.b c.around-row.result.now c.around-row.ensures.headers c.around-row.ensures.within
    c.loop-i.g c.loop-i.made c.loop-i.i-index (get_or c.around-row.result.now c.loop-i.i-index 0) c.args.next c.loop-i.invariant.last q (c.has_next.ensures.0 c.if-has_next.true) c.loop-i.invariant.stage

pub close-requires-clause-loop_ : goal.close-requires-clause-loop_
close-requires-clause-loop_ c =
    let q = loop_in c.args.method.now c.requires.method c.args.b c.around-row.result.now c.around-row.ensures.headers c.around-row.ensures.within c.loop-i.i-index (get_or c.around-row.result.now c.loop-i.i-index 0) (slice_get-get_or c.around-row.result.now c.loop-i.i-index 0 c.loop-i-test.true) in
    slice_get_within c.args.method.now.forest.now.loops.items (get_or c.around-row.result.now c.loop-i.i-index 0) q.listed q.there

pub close-requires-clause-stage : goal.close-requires-clause-stage
close-requires-clause-stage c =
    let q = loop_in c.args.method.now c.requires.method c.args.b c.around-row.result.now c.around-row.ensures.headers c.around-row.ensures.within c.loop-i.i-index (get_or c.around-row.result.now c.loop-i.i-index 0) (slice_get-get_or c.around-row.result.now c.loop-i.i-index 0 c.loop-i-test.true) in
    subst (IsStage c.args.method.now c.loop-i.g c.loop-i.made) (sym q.rest) c.loop-i.invariant.stage

pub close-requires-clause-done : goal.close-requires-clause-done
close-requires-clause-done c =
    let q = loop_in c.args.method.now c.requires.method c.args.b c.around-row.result.now c.around-row.ensures.headers c.around-row.ensures.within c.loop-i.i-index (get_or c.around-row.result.now c.loop-i.i-index 0) (slice_get-get_or c.around-row.result.now c.loop-i.i-index 0 c.loop-i-test.true) in
    closed_done c.args.method.now c.requires.method c.args.b c.around-row.result.now c.around-row.ensures.headers c.around-row.ensures.within
    c.loop-i.made c.loop-i.i-index (get_or c.around-row.result.now c.loop-i.i-index 0) c.args.next c.loop-i.invariant.last q
    (λ has. absurd (let t : c.has_next.result ≡ true = c.has_next.ensures.1 has in let f : c.has_next.result ≡ false = c.if-has_next.false in cc))

pub returns-in_err-close-clause-keeps : goal.returns-in_err-close-clause-keeps
returns-in_err-close-clause-keeps c = first_on c.args.made.now.start c.loop-i.made.start c.args.g.now c.loop-i.g c.close.new.g c.loop-i.invariant.start c.loop-i.invariant.keeps c.close.ensures.keeps

pub loop-i-preserved : goal.loop-i-preserved
loop-i-preserved c =
    let m = c.args.method.now in
    let q = loop_in c.args.method.now c.requires.method c.args.b c.around-row.result.now c.around-row.ensures.headers c.around-row.ensures.within c.loop-i.i-index (get_or c.around-row.result.now c.loop-i.i-index 0) (slice_get-get_or c.around-row.result.now c.loop-i.i-index 0 c.loop-i-test.true) in
    record {
      last = last_same m c.requires.method c.loop-i.made c.close.new.made c.args.b c.args.next c.close.ensures.blocks c.loop-i.invariant.last;
      stage = closed_one c.args.method.now c.requires.method c.args.b c.around-row.result.now c.around-row.ensures.headers c.around-row.ensures.within c.close.new.g c.close.new.made c.loop-i.i-index (get_or c.around-row.result.now c.loop-i.i-index 0) q c.in_ok-close.ensures.stage c.loop-i-test.true;
      blocks = c.close.ensures.blocks ∙ c.loop-i.invariant.blocks;
      start = c.close.ensures.start ∙ c.loop-i.invariant.start;
      keeps = first_on c.args.made.now.start c.loop-i.made.start c.args.g.now c.loop-i.g c.close.new.g c.loop-i.invariant.start c.loop-i.invariant.keeps c.close.ensures.keeps;
    }

pub returns-clause-stage : goal.returns-clause-stage
returns-clause-stage c =
    closed_none c.args.method.now c.requires.method c.args.b c.around-row.result.now c.around-row.ensures.headers c.around-row.ensures.within
    c.loop-i.g c.loop-i.made c.args.next c.loop-i.i-index c.loop-i.invariant.last c.loop-i-test.false c.loop-i.invariant.stage
