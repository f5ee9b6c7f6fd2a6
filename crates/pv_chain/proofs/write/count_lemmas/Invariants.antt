use Rattle.std.proofs.Common.{◌≡◌, take}
use Rattle.std.specs.List.{sum_by}
use Rattle.pv_chain.proofs.Written.{lemma_size}
use Rattle.pv_chain.proofs.write.count_lemmas.Given as goal

abbrev pub invariant-loop-lemma : goal.invariant-loop-lemma
invariant-loop-lemma l = l.count ≡ sum_by lemma_size (take l.lemma-index l.lemmas)
