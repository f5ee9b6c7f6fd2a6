use Rattle.std.proofs.Common.{sym, ◌∙◌}
use Rattle.pv_asm.proofs.LineSteps.{none_after, one_after}
use Rattle.pv_asm.proofs.assembler.lines_of.Goals as goal

pub returns-then-is_empty : goal.returns-then-is_empty
returns-then-is_empty c = none_after c.args.parts.now c.in-Some.front.now c.in-Some.last.now c.in_ok-lines.lines.items c.in-Some.ensures.cases.0 c.in_ok-lines.ensures (sym c.is_empty.ensures ∙ c.if-is_empty.true)

pub returns : goal.returns
returns c = one_after c.args.parts.now c.in-Some.front.now c.in-Some.last.now c.in_ok-lines.lines.items c.push.new.self.items c.in-Some.ensures.cases.0 c.in_ok-lines.ensures (sym c.is_empty.ensures ∙ c.if-is_empty.false) c.in_ok-push.ensures.items
