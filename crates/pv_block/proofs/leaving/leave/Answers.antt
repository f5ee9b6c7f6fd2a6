use Rattle.std.proofs.Common.{◌+◌, ℕ, List, ap, sym, subst, ◌∙◌, add-one}
use Rattle.pv_block.proofs.Words.{map, IfOk-weaker, Cell, sort_in, AreSorted, AreKnown, LeavesFrom}
use Rattle.pv_block.proofs.Popped.{pops_sorted, pops_known, popped_none, popped_some}
use Rattle.pv_block.proofs.Operands.{leaves_popped, leaves_none}
use Rattle.pv_block.proofs.leaving.leave.Goals as goal

pub returns-in_default-clause-stands : goal.returns-in_default-clause-stands
returns-in_default-clause-stands c =
    leaves_none c.args.gives c.args.place c.args.action.now c.args.g.now.nodes c.args.g.now.nodes c.args.held (popped_none c.args.action.now c.args.held c.in_ok-operands.field-0 c.in_ok-operands.ensures c.in_default.is)

pub leave_with-requires : goal.leave_with-requires
leave_with-requires c =
    let same = c.deref.ensures.value in
    let popped = popped_some c.args.action.now c.args.held c.in_ok-operands.field-0 c.in-Some.operands c.in-Some.held c.in_ok-operands.ensures c.in-Some.is in
    let s = pops_sorted c.args.g.now c.args.action.now c.args.held c.in-Some.held c.in-Some.operands.items c.requires.sorted popped in
    record {
      plain = c.requires.plain;
      gives = c.requires.gives;
      sorted = s.sorted;
      operands = subst (AreSorted c.args.g.now) (sym same) s.operands;
      known = subst AreKnown (sym same) (pops_known c.args.action.now c.args.held c.in-Some.held c.in-Some.operands.items popped);
      takes = ap (map sort_in) same ∙ s.takes_;
    }

pub returns-clause-stands : goal.returns-clause-stands
returns-clause-stands c =
    let popped = popped_some c.args.action.now c.args.held c.in_ok-operands.field-0 c.in-Some.operands c.in-Some.held c.in_ok-operands.ensures c.in-Some.is in
    IfOk-weaker c.leave_with.result _ _
    (λ o s. leaves_popped c.args.gives c.args.place c.args.action.now c.args.g.now.nodes c.leave_with.new.g.nodes c.args.held c.in-Some.held c.in-Some.operands.items o popped
    (subst (λ (n : ℕ). LeavesFrom c.args.gives n c.args.action.now c.args.g.now.nodes c.in-Some.held c.in-Some.operands.items c.leave_with.new.g.nodes o) (add-one c.args.place)
    (subst (λ (cells : List Cell). LeavesFrom c.args.gives (c.args.place + 1) c.args.action.now c.args.g.now.nodes c.in-Some.held cells c.leave_with.new.g.nodes o) c.deref.ensures.value s))) c.leave_with.ensures.stands
