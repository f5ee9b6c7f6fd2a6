use Rattle.std.proofs.Common.{ap, sym, subst, ◌∙◌, List}
use Rattle.pv_block.proofs.Words.{map, IfOk-weaker, Cell, sort_in, AreSorted, ActsOn, AreKnown}
use Rattle.pv_block.proofs.Popped.{acts_none, acts_popped, pops_sorted, pops_known, popped_none, popped_some}
use Rattle.pv_block.proofs.acting.act.Goals as goal

pub returns-in_default-clause-acts : goal.returns-in_default-clause-acts
returns-in_default-clause-acts c =
    acts_none c.args.action.now c.args.g.now.nodes c.args.g.now.nodes c.args.held (popped_none c.args.action.now c.args.held c.in_ok-operands.field-0 c.in_ok-operands.ensures c.in_default.is)

pub act_on-requires : goal.act_on-requires
act_on-requires c =
    let same = c.deref.ensures.value in
    let popped = popped_some c.args.action.now c.args.held c.in_ok-operands.field-0 c.in-Some.operands c.in-Some.rest c.in_ok-operands.ensures c.in-Some.is in
    let s = pops_sorted c.args.g.now c.args.action.now c.args.held c.in-Some.rest c.in-Some.operands.items c.requires.sorted popped in
    record {
      plain = c.requires.plain;
      sorted = s.sorted;
      operands = subst (AreSorted c.args.g.now) (sym same) s.operands;
      known = subst AreKnown (sym same) (pops_known c.args.action.now c.args.held c.in-Some.rest c.in-Some.operands.items popped);
      takes = ap (map sort_in) same ∙ s.takes_;
    }

pub returns-clause-acts : goal.returns-clause-acts
returns-clause-acts c =
    let popped = popped_some c.args.action.now c.args.held c.in_ok-operands.field-0 c.in-Some.operands c.in-Some.rest c.in_ok-operands.ensures c.in-Some.is in
    IfOk-weaker c.act_on.result _ _
    (λ o acts. acts_popped c.args.action.now c.args.g.now.nodes c.act_on.new.g.nodes c.args.held c.in-Some.rest c.in-Some.operands.items o popped
    (subst (λ (cells : List Cell). ActsOn c.args.action.now c.args.g.now.nodes c.in-Some.rest cells c.act_on.new.g.nodes o) c.deref.ensures.value acts))
    c.act_on.ensures.acts
