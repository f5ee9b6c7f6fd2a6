use Rattle.std.proofs.Common.{◌≡◌, ℕ, List, [], ◌∷◌, ◌++◌, Option, None, replicate, ap, ◌∙◌, arith}
use Rattle.pv_build.proofs.Words.{replicate_more, Ran}
use Rattle.pv_build.proofs.building.no_blocks.Goals as goal

pub loop-init : goal.loop-init
loop-init c = c.in_ok-blocks.ensures.items

pub loop-preserved : goal.loop-preserved
loop-preserved c = c.in_ok-push.ensures.items ∙ ap (λ (xs : List (Option Ran)). xs ++ None ∷ []) c.loop.invariant ∙ replicate_more c.loop.counter None

pub returns : goal.returns
returns c =
    let all : c.loop.counter ≡ c.args.n = omega (arith, c.loop-test.false, c.loop.auto.counter-end) in
    c.loop.invariant ∙ ap (λ (n : ℕ). replicate {A = Option Ran} n None) all
