use Rattle.std.proofs.Common.{◌≡◌, ◌++◌, ◌∷◌, ℕ, [], length, refl, rules, sym, ap, subst, ◌∙◌, append_assoc, arith}
use Rattle.std.specs.Prelude.{Ok, Result}
use Rattle.std.proofs.lemmas.List.{length-append}
use Rattle.std.specs.List.Sorted.{IsStrictlySortedBy}
use Rattle.std.specs.Vec.Iter.{into_iter_items}
use Rattle.pv_graph.specs.Walks.{In}
use Rattle.pv_pieces.specs.Cut.{joined}
use Rattle.pv_match.specs.declared.gathered.Gathered.{Gathered}
use Rattle.pv_match.specs.All.{AreMatchesOf}
use Rattle.pv_match.specs.Gathering.{AreParts}
use Rattle.pv_match.specs.Orders.{match_cmp}
use Rattle.pv_match.proofs.AllOf.{where_none}
use Rattle.pv_match.proofs.Uniting.{none_ordered}
use Rattle.pv_match.proofs.Parts.{over_here, all_here, union_over, grown_over, grown_within, finds_over}
use Rattle.pv_match.proofs.together.put_together.Goals as goal

pub loop-part-init : goal.loop-part-init
loop-part-init c = record {
  steps = refl;
  long = search rules;
  ordered = subst (IsStrictlySortedBy match_cmp) (sym c.new-list.ensures.items) (none_ordered match_cmp);
  few = search rules;
  found = λ g numbers assumed table items readable are.
      subst (AreMatchesOf g numbers assumed table []) (sym c.new-list.ensures.items) (where_none g numbers assumed (λ a n. In table a × In [] n) (λ a n h. h.1));
}

pub returns-then-part-clause-found : goal.returns-then-part-clause-found
returns-then-part-clause-found c g numbers assumed table items readable are =
    let at = c.loop-part in
    let all = c.into_iter-part-iterator.ensures.into_iter_gives.0 in
    let steps : into_iter_items at.part-iterator ≡ c.in-Some.part ∷ into_iter_items c.next.new.self = c.in-Some.ensures.steps.0 in
    let cut : at.yielded ++ Ok c.in_ok-part.part ∷ into_iter_items c.next.new.self ≡ c.args.parts.items = ap (λ p. at.yielded ++ p ∷ into_iter_items c.next.new.self) (sym c.in_ok-part.was) ∙ (rw (← steps) at.invariant.steps ∙ all) in
    finds_over g numbers assumed table c.args.limit (joined items (length c.args.parts.items)) c.in_ok-part.part.is_over c.in_ok-part.part.list.items c.if-part.true
    (over_here g numbers assumed table c.args.limit items readable c.args.parts.items at.yielded (into_iter_items c.next.new.self) c.in_ok-part.part cut are c.if-part.true)

pub returns-then-all-clause-found : goal.returns-then-all-clause-found
returns-then-all-clause-found c g numbers assumed table items readable are =
    let at = c.loop-part in
    let all = c.into_iter-part-iterator.ensures.into_iter_gives.0 in
    let steps : into_iter_items at.part-iterator ≡ c.in-Some.part ∷ into_iter_items c.next.new.self = c.in-Some.ensures.steps.0 in
    let cut : at.yielded ++ Ok c.in_ok-part.part ∷ into_iter_items c.next.new.self ≡ c.args.parts.items = ap (λ p. at.yielded ++ p ∷ into_iter_items c.next.new.self) (sym c.in_ok-part.was) ∙ (rw (← steps) at.invariant.steps ∙ all) in
    let so_far = at.invariant.found g numbers assumed table items readable (subst (λ l. AreParts g numbers assumed table c.args.limit items l) (sym all) are) in
    let more = grown_over c.in_ok-all.all.is_over c.args.limit at.list.items c.in_ok-part.part.list.items c.in_ok-all.all.list.items c.if-all.true c.in_ok-all.ensures.over in
    finds_over g numbers assumed table c.args.limit (joined items (length c.args.parts.items)) c.in_ok-all.all.is_over c.in_ok-all.all.list.items c.if-all.true
    (union_over g numbers assumed table c.args.limit items readable c.args.parts.items at.yielded (into_iter_items c.next.new.self) c.in_ok-part.part cut are c.if-part.false at.list.items c.in_ok-all.all.list.items so_far more.0 more.1)

pub loop-part-preserved : goal.loop-part-preserved
loop-part-preserved c =
    let at = c.loop-part in
    let steps : into_iter_items at.part-iterator ≡ c.in-Some.part ∷ into_iter_items c.next.new.self = c.in-Some.ensures.steps.0 in
    let cut : at.yielded ++ c.in-Some.part ∷ into_iter_items c.next.new.self ≡ into_iter_items c.into_iter-part-iterator.result = rw (← steps) at.invariant.steps in
    let seam : at.yielded ++ Ok c.in_ok-part.part ∷ into_iter_items c.next.new.self ≡ into_iter_items c.into_iter-part-iterator.result = ap (λ p. at.yielded ++ p ∷ into_iter_items c.next.new.self) (sym c.in_ok-part.was) ∙ cut in
    let more = grown_within c.in_ok-all.all.is_over c.args.limit at.list.items c.in_ok-part.part.list.items c.in_ok-all.all.list.items c.if-all.false c.in_ok-all.ensures.all in
    record {
      steps = append_assoc at.yielded (c.in-Some.part ∷ []) _ ∙ cut;
      long = (let was = at.invariant.long in let gone = c.in-Some.ensures.steps.1 in let short = ap length steps in omega arith);
      ordered = c.in_ok-all.all.ordered;
      few = more.0;
      found = λ g numbers assumed table items readable are. subst (λ (p : Result Gathered _). AreMatchesOf g numbers assumed table (joined items (length (at.yielded ++ p ∷ []))) c.in_ok-all.all.list.items) (sym c.in_ok-part.was)
          (all_here g numbers assumed table c.args.limit items readable (into_iter_items c.into_iter-part-iterator.result) at.yielded (into_iter_items c.next.new.self) c.in_ok-part.part seam are c.if-part.false at.list.items c.in_ok-all.all.list.items
          (at.invariant.found g numbers assumed table items readable are) more.1);
    }

pub returns-clause-found : goal.returns-clause-found
returns-clause-found c g numbers assumed table items readable are =
    let at = c.loop-part in
    let all = c.into_iter-part-iterator.ensures.into_iter_gives.0 in
    let so_far = at.invariant.found g numbers assumed table items readable (subst (λ l. AreParts g numbers assumed table c.args.limit items l) (sym all) are) in
    let ends : length at.yielded ≡ length c.args.parts.items =
    (let none = c.in-None.ensures.steps.0 in
    let long = at.invariant.long in
    let whole = ap length at.invariant.steps in
    let given = ap length all in
    omega (arith, none, long, whole, given, length-append at.yielded (into_iter_items at.part-iterator))) in
    (tt, subst (λ (n : ℕ). AreMatchesOf g numbers assumed table (joined items n) at.list.items) ends so_far)
