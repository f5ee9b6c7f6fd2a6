use Rattle.std.proofs.Common.{List, sym, subst}
use Rattle.pv_frame.proofs.Words.{AllByRecursion, JType, IsFloatless}
use Rattle.pv_frame.proofs.Lists.{all_starts, all_on, all_ends, all_done}
use Rattle.pv_frame.proofs.acting.is_floatless_method.Goals as goal

pub loop-param-init : goal.loop-param-init
loop-param-init c = all_starts IsFloatless c.as_slice-param-items.result.now

pub loop-param-preserved : goal.loop-param-preserved
loop-param-preserved c = all_on IsFloatless c.as_slice-param-items.result.now c.loop-param.param-index _ c.loop-param-test.true (c.is_floatless.ensures.0 c.if-not-is_floatless.false) c.loop-param.invariant

pub returns-then-not-is_floatless : goal.returns-then-not-is_floatless
returns-then-not-is_floatless c = (
  λ e. absurd (cc (e)),
  λ m. absurd (all_ends IsFloatless c.as_slice-param-items.result.now c.loop-param.param-index _ c.loop-param-test.true (λ p. let e = c.is_floatless.ensures.1 p in absurd (cc (e, c.if-not-is_floatless.true))) c.loop-param.invariant
      (subst (λ (l : List JType). AllByRecursion IsFloatless l) (sym c.as_slice-param-items.ensures) m.0)),
)

pub returns-in-Some : goal.returns-in-Some
returns-in-Some c = (
  λ e. (
    subst (λ (l : List JType). AllByRecursion IsFloatless l) c.as_slice-param-items.ensures (all_done IsFloatless c.as_slice-param-items.result.now c.loop-param.param-index c.loop-param-test.false c.loop-param.invariant),
    rw c.in-Some.is (c.is_floatless-in-Some.ensures.0 e),
  ),
  λ m. c.is_floatless-in-Some.ensures.1 (rw c.in-Some.is at m.1),
)

pub returns-in-None : goal.returns-in-None
returns-in-None c = (
  λ e. (
    subst (λ (l : List JType). AllByRecursion IsFloatless l) c.as_slice-param-items.ensures (all_done IsFloatless c.as_slice-param-items.result.now c.loop-param.param-index c.loop-param-test.false c.loop-param.invariant),
    rw c.in-None.is tt,
  ),
  λ m. cc,
)
