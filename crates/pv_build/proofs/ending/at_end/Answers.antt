use Rattle.pv_build.proofs.Words.{IfOk-weaker, grows_then}
use Rattle.pv_build.proofs.Kept.{has_no_kids}
use Rattle.pv_build.proofs.Folding.{some_or_else, none_or_else, some_sorted}
use Rattle.pv_build.proofs.ending.at_end.Goals as goal

pub fold_slot-requires-clause-gives : goal.fold_slot-requires-clause-gives
fold_slot-requires-clause-gives c = (c.requires.gives.0, c.requires.gives.1)

pub over-requires-clause-fits : goal.over-requires-clause-fits
over-requires-clause-fits c = (c.requires.gives.0, has_no_kids c.fold_slot.new.g c.args.default c.requires.gives.0 c.requires.gives.2)

pub returns-in-Some-clause-reads : goal.returns-in-Some-clause-reads
returns-in-Some-clause-reads c names q f = some_or_else c.fold_slot.new.g names c.in_ok-made.made c.in-Some.n q c.args.default c.in-Some.is (c.in_ok-made.ensures.reads names q f)

pub returns-in-Some-clause-sort : goal.returns-in-Some-clause-sort
returns-in-Some-clause-sort c t gives like = some_sorted c.fold_slot.new.g c.in_ok-made.made c.in-Some.n t c.in-Some.is (c.in_ok-made.ensures.sort t gives)

pub returns-in-None-clause-reads : goal.returns-in-None-clause-reads
returns-in-None-clause-reads c = IfOk-weaker c.over.result _ _ (λ n reads names q f. none_or_else c.fold_slot.new.g c.over.new.g names c.in_ok-made.made n q c.args.default c.in-None.is (c.in_ok-made.ensures.reads names q f) reads) c.over.ensures.reads

pub returns-in-None-clause-sort : goal.returns-in-None-clause-sort
returns-in-None-clause-sort c = IfOk-weaker c.over.result _ _ (λ n sorted t gives like. sorted t (has_no_kids c.fold_slot.new.g c.args.default t like)) c.over.ensures.sort

pub returns-in-None-clause-grows : goal.returns-in-None-clause-grows
returns-in-None-clause-grows c = grows_then c.args.g.now c.fold_slot.new.g c.over.new.g c.in_ok-made.ensures.grows c.over.ensures.grows
