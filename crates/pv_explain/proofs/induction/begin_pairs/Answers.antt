use Rattle.std.specs.List.{AllZip}
use Rattle.std.proofs.Math.ListN.{get_or}
use Rattle.std.proofs.Common.{ℕ, List, ◌∷◌, ◌++◌, [], sym, subst, take, take_all}
use Rattle.pv_writer.specs.Written.{inside}
use Rattle.pv_writer.proofs.Pushing.{goes_refl, goes_trans}
use Rattle.pv_explain.specs.declared.induction.Begun.{Begun}
use Rattle.pv_explain.specs.Iterations.{IsBegun}
use Rattle.pv_explain.proofs.Copying.{source_later}
use Rattle.pv_explain.proofs.Congruent.{level_goes}
use Rattle.pv_explain.proofs.Iterating.{zero_later}
use Rattle.pv_explain.proofs.Beginning.{all_begun_goes, fresh_goes, read_in, take_at, zip_push}
use Rattle.pv_explain.proofs.induction.begin_pairs.Goals as goal

pub loop-pair-init : goal.loop-pair-init
loop-pair-init c =
    let none = subst (λ (bs : List Begun). AllZip (IsBegun c.args.writer.now (inside c.args.writer.now) c.args.source.now c.args.depth c.args.zero) [] bs) (sym c.new-begun.ensures.items) tt in
    record { begun_ = none; goes = goes_refl c.args.writer.now }

pub begin_pair-requires-clause-source : goal.begin_pair-requires-clause-source
begin_pair-requires-clause-source c = source_later c.args.writer.now c.loop-pair.writer c.args.source.now c.loop-pair.invariant.goes.later c.requires.source

pub begin_pair-requires-clause-level : goal.begin_pair-requires-clause-level
begin_pair-requires-clause-level c = level_goes c.args.writer.now c.loop-pair.writer c.args.source.now c.args.level.now c.loop-pair.invariant.goes c.requires.level

pub begin_pair-requires-clause-zero : goal.begin_pair-requires-clause-zero
begin_pair-requires-clause-zero c = zero_later c.args.writer.now c.loop-pair.writer c.args.zero c.loop-pair.invariant.goes.later c.requires.zero

pub begin_pair-requires-clause-pair : goal.begin_pair-requires-clause-pair
begin_pair-requires-clause-pair c = c.requires.pairs (get_or c.args.pairs.now c.loop-pair.pair-index (0, 0)) (read_in c.args.pairs.now c.loop-pair.pair-index (0, 0) c.loop-pair-test.true)

pub begin_pair-requires-clause-fresh : goal.begin_pair-requires-clause-fresh
begin_pair-requires-clause-fresh c = fresh_goes c.args.writer.now c.loop-pair.writer c.args.depth c.loop-pair.invariant.goes c.requires.fresh

pub loop-pair-preserved : goal.loop-pair-preserved
loop-pair-preserved c =
    let old = c.loop-pair.writer in
    let new = c.begin_pair.new.writer in
    let s = c.args.source.now in
    let d = c.args.depth in
    let z = c.args.zero in
    let i = c.loop-pair.pair-index in
    let pairs = c.args.pairs.now in
    let all = all_begun_goes old new s d z (take i pairs) c.loop-pair.begun.items c.in_ok-b.ensures.goes c.loop-pair.invariant.begun_ in
    record {
      begun_ =
          subst (λ (ps : List (ℕ × ℕ)). AllZip (IsBegun new (inside new) s d z) ps c.push.new.self.items) (take_at pairs i (0, 0) c.loop-pair-test.true)
          (subst (λ (bs : List Begun). AllZip (IsBegun new (inside new) s d z) (take i pairs ++ (get_or c.args.pairs.now c.loop-pair.pair-index (0, 0)) ∷ []) bs) (sym c.in_ok-push.ensures.items)
          (zip_push (IsBegun new (inside new) s d z) (take i pairs) c.loop-pair.begun.items (get_or c.args.pairs.now c.loop-pair.pair-index (0, 0)) c.in_ok-b.b all c.in_ok-b.ensures.begun));
      goes = goes_trans c.args.writer.now old new c.loop-pair.invariant.goes c.in_ok-b.ensures.goes;
    }

pub returns-clause-begun : goal.returns-clause-begun
returns-clause-begun c =
    subst (λ (ps : List (ℕ × ℕ)). AllZip (IsBegun c.loop-pair.writer (inside c.loop-pair.writer) c.args.source.now c.args.depth c.args.zero) ps c.loop-pair.begun.items) (take_all c.loop-pair.pair-index c.args.pairs.now c.loop-pair-test.false)
    c.loop-pair.invariant.begun_

pub returns-clause-goes : goal.returns-clause-goes
returns-clause-goes c = c.loop-pair.invariant.goes
