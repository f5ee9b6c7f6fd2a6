use Rattle.std.proofs.Common.{◌≡◌, ◌∷◌, [], List, Some, map, option_map, take, sym, ap, ◌∙◌}
use Rattle.std.proofs.lemmas.List.{map-append}
use Rattle.pv_pattern.specs.Patterns.{Pattern}
use Rattle.pv_pattern.specs.Seen.{listed}
use Rattle.pv_pattern.specs.Seen as pattern
use Rattle.pv_heights.specs.Filled.{Filled, filled, all_filled}
use Rattle.pv_instances.specs.Seen.{params_seen, parts, seen}
use Rattle.pv_instances.proofs.Growing.{mapped_at, mapped_more}
use Rattle.pv_instances.proofs.FilledParts.{filled_more, filled_none}
use Rattle.pv_instances.proofs.filling.+fill.Goals as goal

pub fill_all-returns-in-None : goal.fill_all-returns-in-None
fill_all-returns-in-None t c =
    sym (filled_none (params_seen c.args.params.now) c.args.kids (map pattern.seen c.args.patterns.now) c.loop-pattern.pattern-index (pattern.seen c.pattern-item.result)
    (mapped_at pattern.seen c.args.patterns.now c.loop-pattern.pattern-index c.pattern-item.result c.loop-pattern-test.true c.pattern-item.is) (sym c.in_ok-side.ensures ∙ ap (option_map seen) c.in-None.is))

pub fill_all-loop-pattern-preserved : goal.fill_all-loop-pattern-preserved
fill_all-loop-pattern-preserved t c =
    let m = params_seen c.args.params.now in
    let more = mapped_more pattern.seen c.args.patterns.now c.loop-pattern.pattern-index c.pattern-item.result c.loop-pattern-test.true c.pattern-item.is in
    let here : filled m c.args.kids (pattern.seen c.pattern-item.result) ≡ Some (seen c.in-Some.side) = sym c.in_ok-side.ensures ∙ ap (option_map seen) c.in-Some.is in
    ap (λ (ps : List Pattern). all_filled m c.args.kids (listed ps)) more
    ∙ filled_more m c.args.kids (map pattern.seen (take c.loop-pattern.pattern-index c.args.patterns.now)) (map seen c.loop-pattern.made.items) (pattern.seen c.pattern-item.result) (seen c.in-Some.side) c.loop-pattern.invariant here
    ∙ ap (λ (fs : List Filled). Some (parts fs)) (sym (map-append seen c.loop-pattern.made.items (c.in-Some.side ∷ [])))
    ∙ ap (λ xs. Some (parts (map seen xs))) (sym c.in_ok-push-in-Some.ensures.items)
