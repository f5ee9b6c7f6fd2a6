use Rattle.std.specs.List.{AllZip}
use Rattle.std.proofs.Math.ListN.{get_or}
use Rattle.std.proofs.Common.{List, ◌∷◌, ◌++◌, [], sym, subst, take, take_all}
use Rattle.pv_steps.specs.declared.step.Fact.{Fact}
use Rattle.pv_writer.proofs.Pushing.{goes_refl, goes_trans}
use Rattle.pv_explain.specs.declared.induction.Begun.{Begun}
use Rattle.pv_explain.specs.Iterations.{GoOn}
use Rattle.pv_explain.proofs.Copying.{source_later}
use Rattle.pv_explain.proofs.Congruent.{level_goes}
use Rattle.pv_explain.proofs.Beginning.{all_go_on, go_on_later, no_begun, read_in, take_at, zip_push}
use Rattle.pv_explain.proofs.induction.all_next_facts.Goals as goal

pub loop-b-init : goal.loop-b-init
loop-b-init c =
    let none = subst (λ (fs : List (Fact × Fact)). AllZip (GoOn c.args.writer.now) [] fs) (sym c.new-all.ensures.items) tt in
    record { facts_ = none; goes = goes_refl c.args.writer.now }

pub next_facts-requires-clause-source : goal.next_facts-requires-clause-source
next_facts-requires-clause-source c = source_later c.args.writer.now c.loop-b.writer c.args.source.now c.loop-b.invariant.goes.later c.requires.source

pub next_facts-requires-clause-level : goal.next_facts-requires-clause-level
next_facts-requires-clause-level c = level_goes c.args.writer.now c.loop-b.writer c.args.source.now c.args.level.now c.loop-b.invariant.goes c.requires.level

pub next_facts-requires-clause-pair : goal.next_facts-requires-clause-pair
next_facts-requires-clause-pair c =
    go_on_later c.args.writer.now c.loop-b.writer c.args.source.now c.args.level.now (get_or c.args.begun.now c.loop-b.b-index no_begun) c.loop-b.invariant.goes (c.requires.pairs (get_or c.args.begun.now c.loop-b.b-index no_begun) (read_in c.args.begun.now c.loop-b.b-index no_begun c.loop-b-test.true))

pub loop-b-preserved : goal.loop-b-preserved
loop-b-preserved c =
    let old = c.loop-b.writer in
    let new = c.next_facts.new.writer in
    let i = c.loop-b.b-index in
    let begun = c.args.begun.now in
    let all = all_go_on old new (take i begun) c.loop-b.all.items c.in_ok-facts.ensures.goes c.loop-b.invariant.facts_ in
    record {
      facts_ =
          subst (λ (bs : List Begun). AllZip (GoOn new) bs c.push.new.self.items) (take_at begun i no_begun c.loop-b-test.true)
          (subst (λ (fs : List (Fact × Fact)). AllZip (GoOn new) (take i begun ++ (get_or c.args.begun.now c.loop-b.b-index no_begun) ∷ []) fs) (sym c.in_ok-push.ensures.items)
          (zip_push (GoOn new) (take i begun) c.loop-b.all.items (get_or c.args.begun.now c.loop-b.b-index no_begun) c.in_ok-facts.facts all c.in_ok-facts.ensures.facts));
      goes = goes_trans c.args.writer.now old new c.loop-b.invariant.goes c.in_ok-facts.ensures.goes;
    }

pub returns-clause-facts : goal.returns-clause-facts
returns-clause-facts c = subst (λ (bs : List Begun). AllZip (GoOn c.loop-b.writer) bs c.loop-b.all.items) (take_all c.loop-b.b-index c.args.begun.now c.loop-b-test.false) c.loop-b.invariant.facts_

pub returns-clause-goes : goal.returns-clause-goes
returns-clause-goes c = c.loop-b.invariant.goes
