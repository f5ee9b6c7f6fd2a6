use Rattle.std.proofs.Common.{◌≡◌, ℕ, List, length, refl, sym, ap, ◌∙◌, subst, arith}
use Rattle.pv_build.proofs.Words.{IfOk-weaker, Block, KeepsFirst}
use Rattle.pv_build.proofs.Flowing.{for_walks}
use Rattle.pv_build.proofs.Restaged.{nothing_same, first_stage, first_done}
use Rattle.pv_build.proofs.Finished.{built_keeps, built_enlarges, kept}
use Rattle.pv_build.proofs.building.build.Goals as goal

pub new-requires : goal.new-requires
new-requires c = for_walks c.args.typed.now.program c.args.typed.now.frames c.args.flow.now.blocks c.args.forest.now c.requires.routine c.args.flow.now refl

pub blocks-requires-clause-method : goal.blocks-requires-clause-method
blocks-requires-clause-method c = record { routine = c.requires.routine; trees = c.in_ok-new.ensures; carries = c.in_ok-slots_carried.ensures }

pub blocks-requires-clause-stage : goal.blocks-requires-clause-stage
blocks-requires-clause-stage c =
    let loops : c.len-2.result ≡ length c.args.forest.now.loops.items = omega (arith, c.len-2.ensures, c.args.forest.now.loops.ok) in
    first_stage _ c.args.g.now c.in_ok-made.made c.requires.made c.requires.open
    (nothing_same c.in_ok-made.made _ _ _ _ _ _ c.len.ensures.len (ap (λ (bs : List Block). length bs) c.as_slice-count.ensures) loops c.in_ok-made.ensures)

pub blocks-requires-clause-none : goal.blocks-requires-clause-none
blocks-requires-clause-none c =
    let loops : c.len-2.result ≡ length c.args.forest.now.loops.items = omega (arith, c.len-2.ensures, c.args.forest.now.loops.ok) in
    first_done _ c.args.g.now c.in_ok-made.made c.requires.made c.requires.open
    (nothing_same c.in_ok-made.made _ _ _ _ _ _ c.len.ensures.len (ap (λ (bs : List Block). length bs) c.as_slice-count.ensures) loops c.in_ok-made.ensures)

pub returns-in_err-blocks-clause-keeps : goal.returns-in_err-blocks-clause-keeps
returns-in_err-blocks-clause-keeps c = kept c.args.g.now c.blocks-2.new.g c.in_ok-made.made.start (c.in_ok-made.ensures.start_ ∙ c.len.ensures.len) c.blocks-2.ensures.keeps

pub finish-requires-clause-stage : goal.finish-requires-clause-stage
finish-requires-clause-stage c = c.in_ok-blocks.ensures.stage

pub returns-clause-enlarges : goal.returns-clause-enlarges
returns-clause-enlarges c =
    let keeps = subst (λ (n : ℕ). KeepsFirst n c.args.g.now c.blocks-2.new.g) (sym c.blocks-2.ensures.start) c.blocks-2.ensures.keeps in
    let start = c.blocks-2.ensures.start ∙ c.in_ok-made.ensures.start_ ∙ c.len.ensures.len in
    IfOk-weaker c.finish.result _ _ (λ r sorted. built_enlarges _ c.args.g.now c.blocks-2.new.g c.finish.new.g c.blocks-2.new.made c.requires.made.graph c.requires.open start keeps c.in_ok-blocks.ensures.stage c.finish.ensures.grows) c.finish.ensures.sort

pub returns-clause-keeps : goal.returns-clause-keeps
returns-clause-keeps c =
    let keeps = subst (λ (n : ℕ). KeepsFirst n c.args.g.now c.blocks-2.new.g) (sym c.blocks-2.ensures.start) c.blocks-2.ensures.keeps in
    let start = c.blocks-2.ensures.start ∙ c.in_ok-made.ensures.start_ ∙ c.len.ensures.len in
    built_keeps _ c.args.g.now c.blocks-2.new.g c.finish.new.g c.blocks-2.new.made c.requires.made.graph c.requires.open start keeps c.in_ok-blocks.ensures.stage c.finish.ensures.grows
