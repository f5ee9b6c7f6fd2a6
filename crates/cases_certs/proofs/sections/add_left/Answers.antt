use Rattle.std.proofs.Common.{List, subst, ap, ◌∙◌, sym}
use Rattle.pv_steps.specs.declared.step.Step.{Step}
use Rattle.pv_steps.specs.Accepted.{Derives}
use Rattle.pv_lemmas.specs.Lemmas.{ByLemmas}
use Rattle.cases_certs.proofs.Alone.{by_axioms}
use Rattle.cases_certs.proofs.sections.add_left.Goals as goal

pub trim-requires-clause-derives : goal.trim-requires-clause-derives
trim-requires-clause-derives g c =
    let roots = c.args.roots.now in
    let derives =
    subst (λ (steps : List Step). Derives (ByLemmas c.args.rules.now.lemmas.now) roots.graph roots.first roots.second steps) c.as_slice.ensures
    (c.in_ok-answer.ensures.0 c.in-Accepted.is) in
    by_axioms c.args.rules.now.lemmas.now roots.graph roots.first roots.second c.args.section.now.steps c.requires.none derives
