use Rattle.std.proofs.Common.{◌≡◌, ◌+◌, ◌≤◌, ◌∙◌, List, ap, sym, arith, length}
use Rattle.pv_steps.specs.declared.step.Step.{Step}
use Rattle.pv_chain.proofs.Written.{counted_all, counted_fits, counted_next, lemmas_count, lemma_size}
use Rattle.pv_chain.proofs.write.count_lemmas.Goals as goal

pub overflow_add-count : goal.overflow_add-count
overflow_add-count c =
    let more : c.count_around-count.result ≡ lemma_size c.lemma-item.result = c.count_around-count.ensures ∙ ap (λ (steps : List Step). length steps + 2) c.as_slice.ensures in
    let fits = counted_fits lemma_size c.args.lemmas.now c.loop-lemma.lemma-index c.lemma-item.result c.loop-lemma.count c.count_around-count.result c.loop-lemma-test.true c.lemma-item.is c.loop-lemma.invariant more in
    omega (arith, fits, lemmas_count 1 c.args.lemmas.now, c.requires, c.ranges.most.fits)

pub loop-lemma-preserved : goal.loop-lemma-preserved
loop-lemma-preserved c =
    let more : c.count_around-count.result ≡ lemma_size c.lemma-item.result = c.count_around-count.ensures ∙ ap (λ (steps : List Step). length steps + 2) c.as_slice.ensures in
    counted_next lemma_size c.args.lemmas.now c.loop-lemma.lemma-index c.lemma-item.result c.loop-lemma.count c.count_around-count.result c.loop-lemma-test.true c.lemma-item.is c.loop-lemma.invariant more

pub returns : goal.returns
returns c =
    let end : length c.args.lemmas.now ≤ c.loop-lemma.lemma-index = omega (arith, c.loop-lemma-test.false) in
    counted_all lemma_size c.args.lemmas.now c.loop-lemma.lemma-index c.loop-lemma.count end c.loop-lemma.invariant ∙ sym (lemmas_count 1 c.args.lemmas.now)
