use Rattle.std.specs.List.{AllZip, Contains}
use Rattle.std.proofs.Common.{ℕ, List, sym, subst}
use Rattle.pv_steps.specs.Steps.{blocks}
use Rattle.pv_steps.specs.Right.{IsFresh}
use Rattle.pv_classes.specs.Blocks.{depth_of}
use Rattle.pv_writer.specs.Written.{inside}
use Rattle.pv_writer.proofs.Pushing.{goes_trans}
use Rattle.pv_explain.specs.Iterations.{IsBegun, MayBegin}
use Rattle.pv_explain.proofs.Copying.{source_later}
use Rattle.pv_explain.proofs.Congruent.{level_goes}
use Rattle.pv_explain.proofs.Beginning.{block_begin, block_fresh, fresh_goes}
use Rattle.pv_explain.proofs.induction.begin.Goals as goal

pub begin_pairs-requires-clause-source : goal.begin_pairs-requires-clause-source
begin_pairs-requires-clause-source c = source_later c.args.writer.now c.zero_node.new.writer c.args.source.now c.in_ok-zero.ensures.goes.later c.requires.place.source

pub begin_pairs-requires-clause-level : goal.begin_pairs-requires-clause-level
begin_pairs-requires-clause-level c = level_goes c.args.writer.now c.zero_node.new.writer c.args.source.now c.args.level.now c.in_ok-zero.ensures.goes c.requires.place.lines

pub begin_pairs-requires-clause-pairs : goal.begin_pairs-requires-clause-pairs
begin_pairs-requires-clause-pairs c =
    λ pair m. subst (λ (d : ℕ). MayBegin c.args.source.now c.args.level.now d pair) (sym c.depth.ensures) (block_begin c.args.writer.now c.args.source.now c.args.level.now c.args.block.now c.requires pair (subst (λ (ps : List (ℕ × ℕ)). Contains ps pair) c.pairs.ensures m))

pub begin_pairs-requires-clause-fresh : goal.begin_pairs-requires-clause-fresh
begin_pairs-requires-clause-fresh c =
    subst (λ (d : ℕ). IsFresh d (blocks (inside c.zero_node.new.writer))) (sym c.depth.ensures)
    (fresh_goes c.args.writer.now c.zero_node.new.writer (depth_of c.args.block.now) c.in_ok-zero.ensures.goes (block_fresh c.args.writer.now c.args.source.now c.args.level.now c.args.block.now c.requires))

pub returns-clause-begun : goal.returns-clause-begun
returns-clause-begun c =
    let new = c.begin_pairs.new.writer in (
      c.in_ok-zero.zero,
      subst (λ (ps : List (ℕ × ℕ)). AllZip (IsBegun new (inside new) c.args.source.now (depth_of c.args.block.now) c.in_ok-zero.zero) ps c.in_ok-begun.begun.items) c.pairs.ensures
          (subst (λ (d : ℕ). AllZip (IsBegun new (inside new) c.args.source.now d c.in_ok-zero.zero) c.pairs.result.now c.in_ok-begun.begun.items) c.depth.ensures c.in_ok-begun.ensures.begun),
    )

pub returns-clause-goes : goal.returns-clause-goes
returns-clause-goes c = goes_trans c.args.writer.now c.zero_node.new.writer c.begin_pairs.new.writer c.in_ok-zero.ensures.goes c.in_ok-begun.ensures.goes
