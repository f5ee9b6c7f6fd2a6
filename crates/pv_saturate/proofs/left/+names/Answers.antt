use Rattle.std.proofs.Common.{◌≡◌, ◌+◌, ◌∷◌, List, map, drop, sym, ap, ◌∙◌}
use Rattle.std.proofs.lemmas.List.{drop_more}
use Rattle.pv_pattern.specs.declared.names.NameId.{NameId}
use Rattle.pv_pattern.specs.declared.pattern.Pattern.{Pattern}
use Rattle.pv_pattern.specs.Binding.{names, names_in}
use Rattle.pv_pattern.specs.Seen.{listed, seen}
use Rattle.pv_match.specs.Parameters.{once_more}
use Rattle.pv_match.proofs.Naming.{once_append}
use Rattle.pv_saturate.proofs.left.+names.Goals as goal

pub add_all_names-loop-pattern-preserved : goal.add_all_names-loop-pattern-preserved
add_all_names-loop-pattern-preserved t c =
    let ps : List Pattern = c.args.patterns.now in
    let p : Pattern = c.pattern-item.result in
    let rest : List Pattern = drop (c.loop-pattern.pattern-index + 1) ps in
    let next : drop c.loop-pattern.pattern-index ps ≡ p ∷ rest = drop_more ps c.loop-pattern.pattern-index p c.loop-pattern-test.true ∙ ap (λ (q : Pattern). q ∷ rest) (sym c.pattern-item.is) in
    ap (λ (known : List NameId). once_more known (names_in (listed (map seen rest)))) c.in_ok-add_names.ensures
    ∙ (sym (once_append c.loop-pattern.known.items (names (seen p)) (names_in (listed (map seen rest))))
    ∙ (ap (λ (qs : List Pattern). once_more c.loop-pattern.known.items (names_in (listed (map seen qs)))) (sym next) ∙ c.loop-pattern.invariant))
