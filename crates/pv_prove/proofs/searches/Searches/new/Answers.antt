use Rattle.std.proofs.Common.{ℕ, List, map, rules, sym, subst}
use Rattle.pv_graph.specs.Graphs.{Graph}
use Rattle.pv_pattern.specs.Patterns.{Axiom}
use Rattle.pv_pattern.specs.Seen.{axiom_seen}
use Rattle.pv_axioms.specs.Entries.{AreAxioms}
use Rattle.pv_endings.specs.Endings.{AreEndingsOf}
use Rattle.pv_grounds.specs.Searches.{Begins}
use Rattle.pv_prove.specs.declared.searches.Searches.{Searches}
use Rattle.pv_prove.specs.Looking.{BeginsOther}
use Rattle.pv_prove.proofs.Finding.{begun, set_are}
use Rattle.pv_prove.proofs.searches.Searches.new.Goals as goal

pub new-requires-2-clause-table : goal.new-requires-2-clause-table
new-requires-2-clause-table c = subst AreAxioms (sym c.requires.table) (set_are c.args.limits.axioms)

pub other_search-requires-clause-table : goal.other_search-requires-clause-table
other_search-requires-clause-table c = subst AreAxioms (sym c.requires.table) (set_are c.args.limits.axioms)

pub returns : goal.returns
returns c =
    let l = c.args.least.now in
    let table : List Axiom = map axiom_seen c.args.table.now in
    let ends = c.in_ok-nodes.nodes.items in
    let s : Searches = record { plain = c.in_ok-plain.plain; other = c.in_ok-other.other } in
    let are : AreEndingsOf l.graph l.first ends = search rules in
    let most = c.args.limits.budget in
    let first = subst (λ (g : Graph). Begins g table c.new.result.items most s.plain) c.graph-2.ensures c.in_ok-plain.ensures in
    let plain = subst (λ (none : List ℕ). Begins l.graph table none most s.plain) c.new.ensures.items first in
    let other = subst (λ (g : Graph). BeginsOther g table ends most s.other) c.graph-3.ensures c.in_ok-other.ensures in
    begun l c.args.limits table ends s c.requires.table are plain other
