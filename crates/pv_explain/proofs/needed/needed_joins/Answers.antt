use Rattle.std.specs.Prelude.{Bool}
use Rattle.std.proofs.Common.{◌≡◌, ◌≤◌, ◌∙◌, ℕ, List, arith, length, rules, sym, subst}
use Rattle.pv_classes.specs.declared.join.Join.{Join}
use Rattle.pv_explain.specs.Needed.{AreNodesOf, IsForestOf, StayGrounded, StayLinked, marked}
use Rattle.pv_explain.proofs.Marked.{joins_low, pairs_linked_before, stay_grounded, stay_linked}
use Rattle.pv_explain.proofs.needed.needed_joins.Goals as goal

pub forest_of-requires : goal.forest_of-requires
forest_of-requires c = subst (λ (n : ℕ). AreNodesOf n c.args.search.now.joins.now) (sym c.len.ensures.len) (joins_low c.args.search.now c.requires.grounds.0 c.requires.grounds.1)

pub mark_pairs-requires : goal.mark_pairs-requires
mark_pairs-requires c =
    let is : IsForestOf c.args.search.now c.in_ok-forest.forest = record { nodes_ = c.in_ok-forest.ensures.nodes ∙ c.len.ensures.len; ends = c.in_ok-forest.ensures.ends } in
    let long : length c.in_ok-needed.needed.items ≡ length c.args.search.now.joins.now = search rules in
    record { linked = pairs_linked_before c.args.search.now c.in_ok-forest.forest (length c.in_ok-needed.needed.items) c.args.pairs.now c.requires.made is (omega (arith, long)) c.requires.linked }

pub returns-clause-grounds : goal.returns-clause-grounds
returns-clause-grounds c =
    let s = c.args.search.now in
    let new = c.mark_grounds.new.needed.items in
    subst (λ (js : List Join). StayGrounded s js) (sym c.in_ok-kept.ensures)
    (subst (λ (ns : List Bool). StayGrounded s (marked ns s.joins.now)) (sym c.deref.ensures.value) (stay_grounded s new c.in_ok-mark_grounds.ensures.rest))

pub returns-clause-linked : goal.returns-clause-linked
returns-clause-linked c =
    let s = c.args.search.now in
    let f = c.in_ok-forest.forest in
    let first = c.in_ok-needed.needed.items in
    let old = c.mark_pairs.new.needed.items in
    let new = c.mark_grounds.new.needed.items in
    let is : IsForestOf s f = record { nodes_ = c.in_ok-forest.ensures.nodes ∙ c.len.ensures.len; ends = c.in_ok-forest.ensures.ends } in
    let more = c.in_ok-mark_grounds.ensures.more in
    let long : length new ≤ length first = omega (arith, more.long, c.in_ok-mark_pairs.ensures.more.long) in
    subst (λ (js : List Join). StayLinked s js c.args.pairs.now) (sym c.in_ok-kept.ensures)
    (subst (λ (ns : List Bool). StayLinked s (marked ns s.joins.now) c.args.pairs.now) (sym c.deref.ensures.value)
    (stay_linked s f old new (length first) (length s.joins.now) c.args.pairs.now is more long c.in_ok-mark_pairs.ensures.linked))
