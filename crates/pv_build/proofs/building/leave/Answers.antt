use Rattle.std.proofs.Common.{◌<◌, length, Some, refl, arith}
use Rattle.pv_build.proofs.Words.{with_item, IsFlat}
use Rattle.pv_build.proofs.Plain.{are_plain}
use Rattle.pv_build.proofs.Staged.{first_kept, first_then}
use Rattle.pv_build.proofs.Turns.{block_low, next_block, done_same}
use Rattle.pv_build.proofs.Blocks.{left_stage, left_done}
use Rattle.pv_build.proofs.building.leave.Goals as goal

pub run-requires-clause-well_typed : goal.run-requires-clause-well_typed
run-requires-clause-well_typed c = c.requires.method.routine.shaped.well_typed

pub run-requires-clause-plain : goal.run-requires-clause-plain
run-requires-clause-plain c = are_plain c.requires.method.routine.file c.requires.method.routine.method c.args.method.now.typed.now.program c.requires.method.routine.shaped.program

pub run-requires-clause-span : goal.run-requires-clause-span
run-requires-clause-span c =
    let at = next_block c.args.method.now c.requires.method c.args.made.now c.args.b c.requires.next c.as_slice.result.now c.index-as_slice-b.result c.as_slice.ensures c.index-as_slice-b.is in
    (c.requires.method.routine.shaped.flow.each c.args.b c.index-as_slice-b.result at).span

pub run-requires-clause-reached : goal.run-requires-clause-reached
run-requires-clause-reached c =
    let at = next_block c.args.method.now c.requires.method c.args.made.now c.args.b c.requires.next c.as_slice.result.now c.index-as_slice-b.result c.as_slice.ensures c.index-as_slice-b.is in
    (c.requires.method.routine.shaped.flow.each c.args.b c.index-as_slice-b.result at).reached

pub run-requires-clause-state : goal.run-requires-clause-state
run-requires-clause-state c =
    let at = next_block c.args.method.now c.requires.method c.args.made.now c.args.b c.requires.next c.as_slice.result.now c.index-as_slice-b.result c.as_slice.ensures c.index-as_slice-b.is in
    c.in_ok-state.ensures.begun.sorts c.index-as_slice-b.result at

pub returns-in_err-ran-clause-keeps : goal.returns-in_err-ran-clause-keeps
returns-in_err-ran-clause-keeps c = first_then c.args.made.now.start c.args.g.now c.begin.new.g c.run.new.g c.begin.ensures.keeps (first_kept IsFlat c.args.made.now.start c.begin.new.g c.run.new.g c.run.ensures.grows)

pub returns-clause-stage : goal.returns-clause-stage
returns-clause-stage c =
    let m = c.args.method.now in
    let made = c.begin.new.made in
    let at = next_block m c.requires.method c.args.made.now c.args.b c.requires.next c.as_slice.result.now c.index-as_slice-b.result c.as_slice.ensures c.index-as_slice-b.is in
    let begun = c.in_ok-state.ensures.begun in
    let within = block_low m c.requires.method c.requires.next.place c.args.b c.requires.next.at in
    let low : c.args.b < length made.blocks.items = omega (arith, within, begun.stage.blocks_size) in
    left_stage m c.requires.method c.begin.new.g c.run.new.g made (record made { blocks = with_item made.blocks c.args.b (Some c.in_ok-ran.ran) }) c.args.b c.index-as_slice-b.result at c.in_ok-state.state begun c.in_ok-ran.ran c.run.ensures.grows
    c.in_ok-ran.ensures.stands c.in_ok-ran.ensures.sorted low refl refl

pub returns-clause-done : goal.returns-clause-done
returns-clause-done c k done here =
    let m = c.args.method.now in
    let made = c.begin.new.made in
    let at = next_block m c.requires.method c.args.made.now c.args.b c.requires.next c.as_slice.result.now c.index-as_slice-b.result c.as_slice.ensures c.index-as_slice-b.is in
    let begun = c.in_ok-state.ensures.begun in
    let within = block_low m c.requires.method c.requires.next.place c.args.b c.requires.next.at in
    let low : c.args.b < length made.blocks.items = omega (arith, within, begun.stage.blocks_size) in
    left_done m c.requires.method c.begin.new.g c.run.new.g made (record made { blocks = with_item made.blocks c.args.b (Some c.in_ok-ran.ran) }) c.args.b c.index-as_slice-b.result at c.in_ok-state.state begun c.in_ok-ran.ran c.run.ensures.grows
    c.in_ok-ran.ensures.stands c.in_ok-ran.ensures.sorted low refl refl k (done_same m c.args.made.now made k c.begin.ensures.blocks done) here

pub returns-clause-keeps : goal.returns-clause-keeps
returns-clause-keeps c = first_then c.args.made.now.start c.args.g.now c.begin.new.g c.run.new.g c.begin.ensures.keeps (first_kept IsFlat c.args.made.now.start c.begin.new.g c.run.new.g c.run.ensures.grows)
