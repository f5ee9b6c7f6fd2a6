use Rattle.std.proofs.Common.{◌≡◌, true, rules, ◌∙◌}
use Rattle.pv_graph.specs.declared.node.OpSort.TheVariants.{R}
use Rattle.pv_terms.proofs.Cited.{sorted_within}
use Rattle.pv_report.proofs.ReadClasses.{code_there}
use Rattle.pv_report.proofs.SameRoots.{new_made, new_open, root_kept, grown_whole, still_open}
use Rattle.pv_report.proofs.verdict.least_roots.Goals as goal

pub convert-requires-clause-code : goal.convert-requires-clause-code
convert-requires-clause-code c =
    let yes : c.has_code.result ≡ true = search rules in
    code_there c.args.first.now c.args.method c.requires.first c.requires.there (λ m at. (c.has_code.ensures m at).0 yes)

pub convert-requires-2-clause-code : goal.convert-requires-2-clause-code
convert-requires-2-clause-code c =
    let yes : c.has_code-2.result ≡ true = search rules in
    code_there c.args.second.now c.args.partner c.requires.second c.requires.partner (λ m at. (c.has_code-2.ensures m at).0 yes)

pub convert-requires-clause-made : goal.convert-requires-clause-made
convert-requires-clause-made c = new_made c.new-g.result c.new-g.ensures

pub convert-requires-clause-open : goal.convert-requires-clause-open
convert-requires-clause-open c = new_open c.new-g.result c.new-g.ensures

pub convert-requires-2-clause-made : goal.convert-requires-2-clause-made
convert-requires-2-clause-made c = c.in-Ok.ensures.enlarges.made (new_made c.new-g.result c.new-g.ensures)

pub convert-requires-2-clause-open : goal.convert-requires-2-clause-open
convert-requires-2-clause-open c = c.in-Ok.ensures.enlarges.open_ ∙ new_open c.new-g.result c.new-g.ensures

pub sealed_least-requires-clause-whole : goal.sealed_least-requires-clause-whole
sealed_least-requires-clause-whole c = grown_whole c.new-g.result c.convert.new.g c.convert-2.new.g c.new-g.ensures c.in-Ok.ensures.enlarges c.in-Ok-convert.ensures.enlarges

pub sealed_least-requires-clause-open : goal.sealed_least-requires-clause-open
sealed_least-requires-clause-open c = still_open c.new-g.result c.convert.new.g c.convert-2.new.g c.new-g.ensures c.in-Ok.ensures.enlarges c.in-Ok-convert.ensures.enlarges

pub sealed_least-requires-clause-one : goal.sealed_least-requires-clause-one
sealed_least-requires-clause-one c = sorted_within c.convert-2.new.g c.in-Ok.root R c.in-Ok-convert.ensures.enlarges.graph (c.in-Ok-convert.ensures.enlarges.extends.sorts c.in-Ok.root R c.in-Ok.ensures.sort)

pub sealed_least-requires-clause-two : goal.sealed_least-requires-clause-two
sealed_least-requires-clause-two c = sorted_within c.convert-2.new.g c.in-Ok-convert.root R c.in-Ok-convert.ensures.enlarges.graph c.in-Ok-convert.ensures.sort

pub returns : goal.returns
returns c m p here there = record {
  roots = record {
    graph = c.convert-2.new.g;
    root = c.in-Ok.root;
    other = c.in-Ok-convert.root;
    one = root_kept c.convert.new.g c.convert-2.new.g c.in-Ok.root c.args.first.now m c.in-Ok.ensures.enlarges.graph c.in-Ok.ensures.sort c.in-Ok-convert.ensures.enlarges (c.in-Ok.ensures.converted m here);
    two = c.in-Ok-convert.ensures.converted p there;
  };
  least = c.in_ok-roots.ensures;
}

pub returns-in-Err-Cause-convert : goal.returns-in-Err-Cause-convert
returns-in-Err-Cause-convert c m p here there = ((c.in-Ok.ensures.converted m here).form, rw c.in-Err-Cause-convert.cause-is (rw c.in-Err-Cause-convert.field-0-is at (c.in-Err-Cause-convert.ensures.converted p there)))

pub returns-in-Err-Cause : goal.returns-in-Err-Cause
returns-in-Err-Cause c m p here there =
    let yes : c.has_code-2.result ≡ true = search rules in
    ((c.has_code-2.ensures p there).0 yes, rw c.in-Err-Cause.cause-is (rw c.in-Err-Cause.field-0-is at (c.in-Err-Cause.ensures.converted m here)))
