use Rattle.std.proofs.Common.{rules, ◌≡◌, ◌++◌, ◌∷◌, [], ℕ, length, refl, sym, ap, subst, ◌∙◌, append_assoc, arith}
use Rattle.std.proofs.lemmas.List.{length-append}
use Rattle.std.specs.Vec.Iter.{into_iter_items}
use Rattle.pv_pieces.specs.Cut.{joined}
use Rattle.pv_report.specs.Pieces.{AreJudged, AreParts}
use Rattle.pv_report.proofs.Pieces.{judged_none, part_here}
use Rattle.pv_report.proofs.pairs.put_together.Goals as goal

pub loop-part-init : goal.loop-part-init
loop-part-init c = (refl, search rules, λ means pair methods are. judged_none means pair c.new-all.result c.new-all.ensures.verdicts c.new-all.ensures.sections)

pub loop-part-preserved : goal.loop-part-preserved
loop-part-preserved c =
    let at = c.loop-part in
    let steps : into_iter_items at.part-iterator ≡ c.in-Some.part ∷ into_iter_items c.next.new.self = c.in-Some.ensures.steps.0 in
    let cut : at.yielded ++ c.in-Some.part ∷ into_iter_items c.next.new.self ≡ into_iter_items c.into_iter-part-iterator.result = rw (← steps) at.invariant.0 in (
      append_assoc at.yielded (c.in-Some.part ∷ []) _ ∙ cut,
      let was = at.invariant.1 in
          let gone = c.in-Some.ensures.steps.1 in
          let short = ap length steps in
          omega arith,
      λ means pair methods are. part_here means pair methods (into_iter_items c.into_iter-part-iterator.result) at.yielded (into_iter_items c.next.new.self) c.in-Some.part c.in_ok-part.field-0 at.all c.append.new.self cut are c.in_ok-part.was (at.invariant.2 means pair methods are) c.in_ok-append.ensures.verdicts c.in_ok-append.ensures.sections,
    )

pub returns : goal.returns
returns c = λ means pair methods are.
    let at = c.loop-part in
    let all : into_iter_items c.into_iter-part-iterator.result ≡ c.args.parts.items = c.into_iter-part-iterator.ensures.into_iter_gives.0 in
    let none : length (into_iter_items at.part-iterator) ≡ 0 = sym at.invariant.1 ∙ c.in-None.ensures.steps.0 in
    let long : length at.yielded ≡ length c.args.parts.items = omega (arith, none, ap length at.invariant.0, ap length all, length-append at.yielded (into_iter_items at.part-iterator)) in
    subst (λ (n : ℕ). AreJudged means pair (joined methods n) at.all) long (at.invariant.2 means pair methods (subst (λ l. AreParts means pair methods l) (sym all) are))
