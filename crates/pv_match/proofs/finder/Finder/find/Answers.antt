use Rattle.std.proofs.Common.{map}
use Rattle.pv_pattern.specs.Seen.{axiom_seen}
use Rattle.pv_match.proofs.Listings.{found_listing}
use Rattle.pv_match.proofs.finder.Finder.find.Goals as goal

pub returns : goal.returns
returns g c assumed marks =
    let it = c.args.self.now in
    found_listing it.reader.graph.now it.reader.numbers.now assumed (map axiom_seen it.table.now) it.limit c.in_ok-got.got c.args.items.now c.in_order-answer.result (c.in_ok-got.ensures.found assumed marks) c.in_ok-got.ensures.few c.in_order-answer.ensures
