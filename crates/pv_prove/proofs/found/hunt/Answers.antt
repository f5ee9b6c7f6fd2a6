use Rattle.std.proofs.Common.{◌≡◌, ℕ, suc, ◌+◌, subst, arith}
use Rattle.pv_prove.specs.Looking.{Sees, StandAt}
use Rattle.pv_prove.proofs.Looking.{at_first, decided, gone_on, at_end}
use Rattle.pv_prove.proofs.found.hunt.Goals as goal

pub loop-k-init : goal.loop-k-init
loop-k-init g c = at_first c.args.least.now c.args.limits c.args.searches.now c.requires

pub returns-in-Decided : goal.returns-in-Decided
returns-in-Decided g c =
    let l = c.args.least.now in
    let k = c.loop-k.k in
    let s = c.loop-k.searches in
    decided l c.args.limits k s c.loop-k.invariant c.in-Decided.outcome (let lt = c.loop-k-test.true in omega (arith, lt)) (subst (Sees l k s) c.in-Decided.is c.in_ok-outcome.ensures)

pub loop-k-preserved : goal.loop-k-preserved
loop-k-preserved g c =
    let l = c.args.least.now in
    let k = c.loop-k.k in
    let s = c.loop-k.searches in
    let next : suc k ≡ k + 1 = omega arith in
    subst (λ (n : ℕ). StandAt l c.args.limits n c.go_on.new.self) next
    (gone_on l c.args.limits k s c.loop-k.invariant c.in-Open.plain c.in-Open.other (subst (Sees l k s) c.in-Open.is c.in_ok-outcome.ensures) c.go_on.new.self c.in_ok-go_on-in-Open.ensures)

pub returns-in-Decided-2 : goal.returns-in-Decided-2
returns-in-Decided-2 g c =
    let l = c.args.least.now in
    let n = c.args.limits.rounds in
    let s = c.loop-k.searches in
    let done : c.loop-k.k ≡ n = (let low = c.loop-k.auto.k-end in let high = c.loop-k-test.false in omega (arith, low, high)) in
    decided l c.args.limits n s (subst (λ (i : ℕ). StandAt l c.args.limits i s) done c.loop-k.invariant) c.in-Decided-2.outcome (omega arith) (subst (Sees l n s) c.in-Decided-2.is c.in_ok-outcome-2.ensures)

pub returns : goal.returns
returns g c =
    let l = c.args.least.now in
    let n = c.args.limits.rounds in
    let s = c.loop-k.searches in
    let done : c.loop-k.k ≡ n = (let low = c.loop-k.auto.k-end in let high = c.loop-k-test.false in omega (arith, low, high)) in
    at_end l c.args.limits s (subst (λ (i : ℕ). StandAt l c.args.limits i s) done c.loop-k.invariant) c.in_ok-outcome-2.field-0 c.in_ok-outcome-2.ensures c.in_default.not-Decided
