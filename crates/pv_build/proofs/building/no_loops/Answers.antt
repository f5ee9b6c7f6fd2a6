use Rattle.std.proofs.Common.{◌≡◌, ℕ, List, [], ◌∷◌, ◌++◌, replicate, ap, ◌∙◌, arith}
use Rattle.pv_build.proofs.Words.{replicate_more, Stage}
use Rattle.pv_build.specs.declared.method.Stage.TheVariants as stage
use Rattle.pv_build.proofs.building.no_loops.Goals as goal

pub loop-init : goal.loop-init
loop-init c = c.in_ok-loops.ensures.items

pub loop-preserved : goal.loop-preserved
loop-preserved c = c.in_ok-push.ensures.items ∙ ap (λ (xs : List (Stage)). xs ++ stage.Ahead ∷ []) c.loop.invariant ∙ replicate_more c.loop.counter stage.Ahead

pub returns : goal.returns
returns c =
    let all : c.loop.counter ≡ c.args.n = omega (arith, c.loop-test.false, c.loop.auto.counter-end) in
    c.loop.invariant ∙ ap (λ (n : ℕ). replicate {A = Stage} n stage.Ahead) all
