use Rattle.std.proofs.Common.{◌≡◌, ℕ, length, subst, arith}
use Rattle.pv_alike.specs.Keys.{number_at}
use Rattle.pv_alike.proofs.Quotients.{IsOriginating, originating_end}
use Rattle.pv_alike.proofs.quotient.origins.Goals as goal

pub returns : goal.returns
returns c =
    let number = number_at c.args.numbers.now.of.items in
    let all : c.loop-n.n ≡ length c.args.g.now.nodes = omega (arith, c.loop-n-test.false, c.loop-n.auto.n-end, c.len-n-end.ensures.len) in
    originating_end c.args.g.now.nodes number c.args.numbers.now.count c.loop-n.origins.items c.requires.onto (subst (λ (i : ℕ). IsOriginating c.args.g.now.nodes number c.args.numbers.now.count i c.loop-n.origins.items) all c.loop-n.invariant)
