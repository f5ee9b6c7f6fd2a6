use Rattle.std.proofs.Common.{ℕ, ◌%◌, get_or, ap, ◌∙◌}
use Rattle.pv_value.specs.declared.descriptor.JType.TheVariants.{Z}
use Rattle.pv_refute.specs.Tries.{argument}
use Rattle.pv_refute.proofs.Digits.{next_argument, next_rest}
use Rattle.pv_refute.proofs.tries.arguments.Goals as goal

pub loop-t-preserved : goal.loop-t-preserved
loop-t-preserved c =
    let i = c.loop-t.t-index in
    let types = c.args.types.now in
    let rest = next_rest c.args.n c.loop-t.rest i c.loop-t.invariant.rest in
    let is = c.argument.ensures ∙ ap (λ (k : ℕ). argument (get_or types i Z) (k % 8)) c.loop-t.invariant.rest in
    record { rest = rest; args = rw c.in_ok-push.ensures.items (next_argument c.args.n i types Z c.loop-t.args.items _ c.argument.result c.loop-t-test.true is c.loop-t.invariant.args) }
