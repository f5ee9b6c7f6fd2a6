use Rattle.std.proofs.Common.{◌≡◌, ℕ, List, map, take_all, subst, ap, ◌∙◌}
use Rattle.pv_pattern.specs.Numbers.{op_number}
use Rattle.pv_pattern.specs.Seen.{axiom_seen}
use Rattle.pv_match.specs.Bindings.{with_number}
use Rattle.pv_match.specs.All.{AreMatchesWhere}
use Rattle.pv_match.specs.Gathering.{TriedAt}
use Rattle.pv_match.proofs.Gathers.{nothing_at, tried_begin, tried_by, tried_end}
use Rattle.pv_match.proofs.finder.Finder.find_at.Goals as goal

pub returns-in_default-clause-found : goal.returns-in_default-clause-found
returns-in_default-clause-found c assumed before marks is = (tt, nothing_at c.args.self.now.reader.graph.now c.args.self.now.reader.numbers.now assumed (map axiom_seen c.args.self.now.table.now) c.requires.ready.readable before c.args.n c.args.found.now.keys c.in_default.ensures is)

pub loop-place-init : goal.loop-place-init
loop-place-init c = record {
  few = c.requires.few;
  tried = λ assumed before marks is. tried_begin c.args.self.now.reader.graph.now c.args.self.now.reader.numbers.now assumed (map axiom_seen c.args.self.now.table.now) before c.args.n c.args.found.now.keys is;
}

pub returns-clause-found : goal.returns-clause-found
returns-clause-found c assumed before marks is =
    let e : c.with_number-places.result.now ≡ with_number c.args.self.now.rules.now (op_number c.in-Some.node.now.op) = c.with_number-places.ensures ∙ ap (with_number c.args.self.now.rules.now) c.op_number.ensures.number in (
      tt,
      tried_end c.args.self.now.reader.graph.now c.args.self.now.reader.numbers.now assumed (map axiom_seen c.args.self.now.table.now) before (with_number c.args.self.now.rules.now (op_number c.in-Some.node.now.op)) c.args.n c.loop-place.found.keys
          (tried_by c.args.self.now.reader.graph.now c.args.self.now.reader.numbers.now assumed (map axiom_seen c.args.self.now.table.now) c.args.self.now.rules.now c.requires.ready.readable c.requires.ready.rules c.args.n c.in-Some.node.now c.in-Some.ensures)
          (subst (λ (ps : List ℕ). AreMatchesWhere c.args.self.now.reader.graph.now c.args.self.now.reader.numbers.now assumed (TriedAt (map axiom_seen c.args.self.now.table.now) before ps c.args.n) c.loop-place.found.keys)
          (take_all c.loop-place.place-index c.with_number-places.result.now c.loop-place-test.false ∙ e) (c.loop-place.invariant.tried assumed before marks is)),
    )
