use Rattle.std.proofs.Common.{◌≡◌, List, ℕ, length, subst, arith}
use Rattle.pv_alike.specs.Keys.{number_at}
use Rattle.pv_alike.specs.Quotient.{AreOver}
use Rattle.pv_alike.proofs.Quotients.{by_number, by_number_long, kids_within}
use Rattle.pv_alike.proofs.quotient.quotient.Goals as goal

pub returns : goal.returns
returns c =
    let number = number_at c.args.numbers.now.of.items in
    let over : AreOver c.args.g.now.nodes number c.in_ok-origins.origins.items c.in_ok-nodes.nodes.items =
    subst (λ (xs : List ℕ). AreOver c.args.g.now.nodes (number_at xs) c.in_ok-origins.origins.items c.in_ok-nodes.nodes.items) c.deref.ensures.value
    (subst (λ (ys : List ℕ). AreOver c.args.g.now.nodes (number_at c.deref.result.now) ys c.in_ok-nodes.nodes.items) c.deref-2.ensures.value c.in_ok-nodes.ensures) in
    let long : length c.in_ok-nodes.nodes.items ≡ c.args.numbers.now.count =
    by_number_long c.args.g.now c.requires.graph number c.requires.numbered c.args.numbers.now.count c.requires.onto c.in_ok-origins.origins.items c.in_ok-origins.ensures c.in_ok-nodes.nodes.items over in
    record {
      long = omega (arith, long, c.in_ok-nodes.nodes.ok.0);
      within = kids_within c.args.g.now c.requires.graph number c.requires.numbered c.args.numbers.now.count c.requires.onto c.in_ok-origins.origins.items c.in_ok-origins.ensures c.in_ok-nodes.nodes.items over;
      by_number = by_number c.args.g.now c.requires.graph number c.requires.numbered c.args.numbers.now.count c.requires.onto c.in_ok-origins.origins.items c.in_ok-origins.ensures c.in_ok-nodes.nodes.items over;
    }
