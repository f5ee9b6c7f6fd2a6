use Rattle.std.proofs.Common.{◌≡◌, ◌+◌, ◌++◌, ◌∷◌, [], List, take, sym, ap, ◌∙◌, subst}
use Rattle.std.proofs.lemmas.List.{take_more}
use Rattle.pv_match.specs.declared.found.Match.{Match}
use Rattle.pv_rounds.specs.Last.{AreCopies}
use Rattle.pv_rounds.proofs.Keeping.{copies_more}
use Rattle.pv_rounds.proofs.last.copies.Goals as goal

pub loop-x-preserved : goal.loop-x-preserved
loop-x-preserved c =
    let list = c.args.list.now in
    let i = c.loop-x.x-index in
    let x = c.x-item.result in
    let more : take (i + 1) list ≡ take i list ++ x ∷ [] = take_more list i x c.loop-x-test.true ∙ ap (λ (y : Match). take i list ++ y ∷ []) (sym c.x-item.is) in
    subst (λ (xs : List Match). AreCopies xs c.push.new.self.items) (sym more)
    (subst (AreCopies (take i list ++ x ∷ [])) (sym c.in_ok-push.ensures.items) (copies_more (take i list) c.loop-x.copies.items x c.in_ok-copy.copy c.in_ok-copy.ensures c.loop-x.invariant))
