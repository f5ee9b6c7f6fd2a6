use Rattle.std.proofs.Common.{refl, sym, ◌∙◌, true≢false}
use Rattle.pv_pattern.specs.declared.names.NameId.TheVariants.{Constant}
use Rattle.pv_saturate.proofs.Lists.{found_at, not_so_far}
use Rattle.pv_saturate.proofs.choice.has_constant.Goals as goal

pub returns-then-is_constant : goal.returns-then-is_constant
returns-then-is_constant c = (λ yes. found_at c.args.names.now c.loop-name.name-index _ (Constant c.args.j) c.loop-name-test.true (c.is_constant.ensures.0 c.if-is_constant.true), λ i. refl)

pub loop-name-preserved : goal.loop-name-preserved
loop-name-preserved c = not_so_far c.args.names.now c.loop-name.name-index _ (Constant c.args.j) c.loop-name-test.true c.loop-name.invariant (λ e. true≢false (sym (c.is_constant.ensures.1 e) ∙ c.if-is_constant.false))
