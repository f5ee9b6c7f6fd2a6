use Rattle.std.proofs.Common.{◌≡◌, ◌+◌, ◌++◌, ◌∷◌, [], List, take, sym, ap, ◌∙◌, subst}
use Rattle.std.proofs.lemmas.List.{take_more}
use Rattle.pv_match.specs.declared.found.Match.{Match}
use Rattle.pv_match.specs.Rematching.{AreRenumbered}
use Rattle.pv_match.proofs.Beside.{renumbered_more}
use Rattle.pv_match.proofs.renumbered.renumbered.Goals as goal

pub loop-x-preserved : goal.loop-x-preserved
loop-x-preserved c =
    let numbers = c.args.numbers.now in
    let known = c.args.known.now in
    let i = c.loop-x.x-index in
    let x = c.x-item.result in
    let more : take (i + 1) known ≡ take i known ++ x ∷ [] = take_more known i x c.loop-x-test.true ∙ ap (λ (y : Match). take i known ++ y ∷ []) (sym c.x-item.is) in
    subst (λ (xs : List Match). AreRenumbered numbers xs c.push.new.self.items) (sym more)
    (subst (AreRenumbered numbers (take i known ++ x ∷ [])) (sym c.in_ok-push.ensures.items) (renumbered_more numbers (take i known) c.loop-x.list.items x c.in_ok-one.one c.in_ok-one.ensures c.loop-x.invariant))
