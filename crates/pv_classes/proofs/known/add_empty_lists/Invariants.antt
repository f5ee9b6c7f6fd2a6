use Rattle.pv_classes.specs.Learning.{HasEmptyLists}
use Rattle.pv_classes.proofs.known.add_empty_lists.Given as goal

abbrev pub invariant-loop : goal.invariant-loop
invariant-loop l = HasEmptyLists l.initial.lists l.lists l.counter
