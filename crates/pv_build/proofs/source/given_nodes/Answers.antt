use Rattle.std.proofs.Common.{ℕ, List, [], ◌∷◌, ◌++◌, take, take_all, Option, unwrap_or, sym, ap, ◌∙◌}
use Rattle.pv_build.proofs.Words.{Source, number, given_by, given_nodes}
use Rattle.pv_layout.proofs.Cited.{map_more}
use Rattle.pv_build.proofs.source.given_nodes.Goals as goal

pub loop-source-init : goal.loop-source-init
loop-source-init c = c.in_ok-given.ensures.items

pub loop-source-preserved : goal.loop-source-preserved
loop-source-preserved c =
    let all : List Source = c.args.sources.now in
    c.in_ok-push.ensures.items ∙ ap (λ (xs : List ℕ). xs ++ c.unwrap_or.result ∷ []) c.loop-source.invariant
    ∙ ap (λ (n : ℕ). given_nodes (take c.loop-source.source-index all) (number c.args.slot) ++ n ∷ []) (c.unwrap_or.ensures ∙ ap (λ (o : Option ℕ). unwrap_or o 0) c.given_by.ensures ∙ ap (λ (k : Source). unwrap_or (given_by k (number c.args.slot)) 0) c.source-item.is)
    ∙ sym (map_more (λ (x : Source). unwrap_or (given_by x (number c.args.slot)) 0) all c.loop-source.source-index c.source-item.result c.loop-source-test.true)

pub returns : goal.returns
returns c = c.loop-source.invariant ∙ ap (λ (xs : List Source). given_nodes xs (number c.args.slot)) (take_all c.loop-source.source-index c.args.sources.now c.loop-source-test.false)
