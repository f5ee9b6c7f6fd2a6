use Rattle.std.proofs.Common.{map}
use Rattle.pv_pattern.specs.Seen.{axiom_seen}
use Rattle.pv_match.proofs.Listings.{all_listing}
use Rattle.pv_match.proofs.finder.Finder.find_beside.Goals as goal

pub returns : goal.returns
returns g c assumed marks can =
    let it = c.args.self.now in
    all_listing it.reader.graph.now it.reader.numbers.now assumed (map axiom_seen it.table.now) it.limit c.in_ok-all.all c.in_order-answer.result
    (c.in_ok-all.ensures.found it.reader.graph.now assumed (map axiom_seen it.table.now) c.args.touched.now c.requires.ready.readable can (c.in_ok-got.ensures.found assumed marks)) c.in_ok-all.ensures.few c.in_order-answer.ensures
