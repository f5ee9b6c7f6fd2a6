use Rattle.std.proofs.Common.{◌≡◌, ◌+◌, ◌≤◌, ◌∙◌, List, ap, sym, arith, length}
use Rattle.pv_steps.specs.declared.step.Step.{Step}
use Rattle.pv_chain.proofs.Written.{counted_all, counted_fits, counted_next, sections_count, section_size}
use Rattle.pv_chain.proofs.write.count_sections.Goals as goal

pub overflow_add-count : goal.overflow_add-count
overflow_add-count c =
    let more : c.count_around-count.result ≡ section_size c.section-item.result = c.count_around-count.ensures ∙ ap (λ (steps : List Step). length steps + 2) c.as_slice.ensures in
    let fits = counted_fits section_size c.args.sections.now c.loop-section.section-index c.section-item.result c.loop-section.count c.count_around-count.result c.loop-section-test.true c.section-item.is c.loop-section.invariant more in
    omega (arith, fits, sections_count c.args.sections.now, c.requires, c.ranges.most.fits)

pub loop-section-preserved : goal.loop-section-preserved
loop-section-preserved c =
    let more : c.count_around-count.result ≡ section_size c.section-item.result = c.count_around-count.ensures ∙ ap (λ (steps : List Step). length steps + 2) c.as_slice.ensures in
    counted_next section_size c.args.sections.now c.loop-section.section-index c.section-item.result c.loop-section.count c.count_around-count.result c.loop-section-test.true c.section-item.is c.loop-section.invariant more

pub returns : goal.returns
returns c =
    let end : length c.args.sections.now ≤ c.loop-section.section-index = omega (arith, c.loop-section-test.false) in
    counted_all section_size c.args.sections.now c.loop-section.section-index c.loop-section.count end c.loop-section.invariant ∙ sym (sections_count c.args.sections.now)
