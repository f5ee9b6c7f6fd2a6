use Rattle.std.proofs.Common.{◌++◌, ◌∷◌, [], map, add-one, sym, ap, ◌∙◌, arith}
use Rattle.std.proofs.lemmas.List.{map-append}
use Rattle.pv_pattern.specs.Seen.{each_seen}
use Rattle.pv_heights.specs.Filled.{Filled, each_part, each_parts}
use Rattle.pv_instances.specs.Seen.{params_seen, parts, seen}
use Rattle.pv_instances.proofs.FilledParts.{each_more}
use Rattle.pv_instances.proofs.filling.each_parts.Goals as goal

pub loop-i-preserved : goal.loop-i-preserved
loop-i-preserved c =
    let m = params_seen c.args.params.now in
    let e = each_seen c.args.each in
    let more = each_more m e 0 c.loop-i.i (map seen c.loop-i.made.items) c.loop-i.invariant in
    ap (λ xs. parts (map seen xs)) c.in_ok-push.ensures.items
    ∙ ap parts (map-append seen c.loop-i.made.items (c.in_ok-each_part.field-0 ∷ []))
    ∙ ap (λ (f : Filled). parts (map seen c.loop-i.made.items ++ f ∷ [])) (c.in_ok-each_part.ensures ∙ ap (each_part m e) (omega arith))
    ∙ more ∙ ap (each_parts m e 0) (sym (add-one c.loop-i.i))
