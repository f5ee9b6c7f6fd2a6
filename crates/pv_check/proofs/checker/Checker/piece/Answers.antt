use Rattle.std.proofs.Common.{◌≡◌, ◌+◌, ◌<◌, ℕ, [], ◌∷◌, ◌++◌, length, suc, take, subst, arith}
use Rattle.std.specs.Prelude.{IsTrue, None}
use Rattle.std.proofs.Math.ListN.{get_or}
use Rattle.pv_check.specs.Growth.{GrowsTo}
use Rattle.pv_check.specs.Kept.{AreKept}
use Rattle.pv_check.specs.Checking.{IsSoFar, claimed}
use Rattle.pv_check.proofs.Checking.{goes_on, is_wrong, no_front, no_number, not_concluded}
use Rattle.pv_check.proofs.checker.Checker.piece.Goals as goal
use Rattle.pv_check.proofs.checker.Checker.piece.Goals.{else-to-self-via-then-to-self+else-not-concludes, else-to-self-via-else-to-self}

pub returns-in_default : goal.returns-in_default
returns-in_default g c = no_front (g.R.Rules.instances c.args.self.now.rules.now) (claimed c.args.self.now.graph.now c.args.self.now.first c.args.self.now.second) c.args.self.now.steps.now c.args.from c.args.to (rw c.in_default.is at c.in_ok-front.ensures.none) None

pub loop-k-preserved : goal.loop-k-preserved
loop-k-preserved g c =
    let yes : IsTrue c.in_ok-advance.field-0 = c.if-not-branch.false in
    let grows : GrowsTo (get_or c.args.self.now.steps.now c.loop-k.k c.index-self-k.result) c.loop-k.front.graph c.advance.new.graph = rw yes at c.in_ok-advance.ensures.grows in
    let kept : AreKept (take c.loop-k.k c.args.self.now.steps.now ++ get_or c.args.self.now.steps.now c.loop-k.k c.index-self-k.result ∷ []) c.advance.new.tables.innermost.items c.advance.new.tables.opened.items = rw yes at c.in_ok-advance.ensures.kept in
    let low : c.loop-k.k < length c.args.self.now.steps.now = let past = c.loop-k-test.true in let last = c.requires.within in omega (arith, past, last) in
    let next : suc c.loop-k.k ≡ c.loop-k.k + 1 = omega arith in
    subst (λ (n : ℕ). IsSoFar (g.R.Rules.instances c.args.self.now.rules.now) c.args.self.now.graph.now c.args.self.now.steps.now c.args.from n c.advance.new.tables.innermost.items c.advance.new.tables.opened.items c.advance.new.graph) next
    (goes_on (g.R.Rules.instances c.args.self.now.rules.now) (g.met.R.Rules.prepared c.args.self.now.rules.now) c.args.self.now.graph.now c.loop-k.front.graph c.advance.new.graph c.args.self.now.steps.now c.args.from c.loop-k.k c.loop-k.front.tables.innermost.items c.advance.new.tables.innermost.items c.loop-k.front.tables.opened.items c.advance.new.tables.opened.items c.loop-k.invariant low c.index-self-k.result
    (c.in_ok-advance.ensures.right.0 yes) grows kept)

pub returns-then-not-branch : goal.returns-then-not-branch
returns-then-not-branch g c =
    let low : c.loop-k.k < length c.args.self.now.steps.now = let past = c.loop-k-test.true in let last = c.requires.within in omega (arith, past, last) in
    is_wrong (g.R.Rules.instances c.args.self.now.rules.now) (g.met.R.Rules.prepared c.args.self.now.rules.now) (claimed c.args.self.now.graph.now c.args.self.now.first c.args.self.now.second) c.loop-k.front.graph c.args.self.now.steps.now c.args.from c.args.to c.loop-k.k c.loop-k.front.tables.innermost.items c.loop-k.front.tables.opened.items c.loop-k.invariant low c.index-self-k.result
    (λ r. let yes = c.in_ok-advance.ensures.right.1 r in absurd (cc (yes, c.if-not-branch.true)))
    (c.loop-k.k + 1) (omega arith)

pub returns-then-not-concludes : goal.returns-then-not-concludes
returns-then-not-concludes g c =
    let end : c.loop-k.k ≡ c.args.to = let within = c.loop-k.auto.k-end in let past = c.loop-k-test.false in omega (arith, within, past) in
    let last : c.args.to ≡ length c.args.self.now.steps.now = c.if-to-self.true in
    not_concluded (g.R.Rules.instances c.args.self.now.rules.now) (claimed c.args.self.now.graph.now c.args.self.now.first c.args.self.now.second) c.loop-k.front.graph c.args.self.now.steps.now c.args.from c.args.to c.loop-k.k c.loop-k.front.tables.innermost.items c.loop-k.front.tables.opened.items c.loop-k.invariant (omega (arith, end, last))
    (λ z. let yes = c.concludes.ensures.1 z in absurd (cc (yes, c.if-not-concludes.true)))
    (c.args.to + 1) (omega (arith, end))

pub returns : goal.returns
returns g c =
    let end : c.loop-k.k ≡ c.args.to = let within = c.loop-k.auto.k-end in let past = c.loop-k-test.false in omega (arith, within, past) in
    no_number (g.R.Rules.instances c.args.self.now.rules.now) (claimed c.args.self.now.graph.now c.args.self.now.first c.args.self.now.second) c.loop-k.front.graph c.args.self.now.steps.now c.args.from c.args.to c.loop-k.k c.loop-k.front.tables.innermost.items c.loop-k.front.tables.opened.items c.loop-k.invariant end
    (λ last. elim c.else-to-self.branch [
      | else-to-self-via-then-to-self+else-not-concludes w ↦ w.concludes.ensures.0 w.if-not-concludes.false
      | else-to-self-via-else-to-self w ↦ absurd (w.if-to-self.false last)
    ])
