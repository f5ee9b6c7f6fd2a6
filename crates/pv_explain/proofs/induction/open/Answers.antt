use Rattle.std.proofs.Common.{ℕ, length, ◌∙◌, ap, sym, subst}
use Rattle.pv_axioms.specs.Entries.{ByAxioms}
use Rattle.pv_classes.specs.Blocks.{depth_of}
use Rattle.pv_steps.specs.declared.step.Step.TheVariants.{Open}
use Rattle.pv_steps.specs.Right.{RightOver}
use Rattle.pv_writer.specs.Written.{Pushed, inside}
use Rattle.pv_explain.specs.Lines.{sides}
use Rattle.pv_explain.specs.Levels.{AreLow}
use Rattle.pv_explain.proofs.Placing.{lines_low}
use Rattle.pv_explain.proofs.Beginning.{IsInner, block_opened, open_right, open_stands}
use Rattle.pv_explain.proofs.induction.open.Goals as goal

pub push_open-requires : goal.push_open-requires
push_open-requires c =
    let w = c.args.writer.now in
    subst (λ (d : ℕ). RightOver ByAxioms w.graph w.before (Open d c.in_ok-pairs.pairs.items)) (sym c.depth.ensures)
    (open_right w c.args.source.now c.args.level.now c.args.block.now c.args.begun.now (inside w) c.in_ok-pairs.pairs.items c.in_ok-pairs.ensures c.requires.stands c.requires.begun)

pub of-requires : goal.of-requires
of-requires c =
    subst (λ (n : ℕ). AreLow n c.deref.result.now) (sym c.len-nodes.ensures.len)
    (subst (AreLow (length c.args.source.now.graph.now.nodes)) (sym c.deref.ensures.value) (lines_low c.args.writer.now c.args.source.now c.args.level.now c.requires.stands.place.source c.requires.stands.place.lines))

pub returns-clause-opens : goal.returns-clause-opens
returns-clause-opens c =
    let pushed = subst (λ (d : ℕ). Pushed c.args.writer.now c.push_open.new.writer (Open d c.in_ok-pairs.pairs.items) c.in_ok-step.step) c.depth.ensures c.in_ok-step.ensures in
    block_opened c.args.writer.now c.push_open.new.writer (depth_of c.args.block.now) c.in_ok-step.step c.args.begun.now c.in_ok-pairs.pairs.items c.in_ok-pairs.ensures pushed

pub returns-clause-lines : goal.returns-clause-lines
returns-clause-lines c = c.in_ok-inner.ensures.lines ∙ c.deref.ensures.value

pub returns-clause-stand : goal.returns-clause-stand
returns-clause-stand c =
    let pushed = subst (λ (d : ℕ). Pushed c.args.writer.now c.push_open.new.writer (Open d c.in_ok-pairs.pairs.items) c.in_ok-step.step) c.depth.ensures c.in_ok-step.ensures in
    let e = c.in_ok-inner.ensures in
    let is : IsInner (length c.args.source.now.graph.now.nodes) c.args.level.now c.in_ok-inner.inner c.in_ok-known.known.items = record {
      nodes_ = e.nodes ∙ c.len-nodes.ensures.len;
      ends = e.ends ∙ ap sides c.deref.ensures.value;
      lines = e.lines ∙ c.deref.ensures.value;
      known_ = e.known;
    } in
    open_stands c.args.writer.now c.push_open.new.writer c.args.source.now c.args.level.now c.in_ok-inner.inner c.args.block.now c.args.begun.now c.in_ok-pairs.pairs.items c.in_ok-step.step c.in_ok-known.known.items c.requires.stands c.requires.begun
    c.in_ok-pairs.ensures pushed c.in_ok-known.ensures is
