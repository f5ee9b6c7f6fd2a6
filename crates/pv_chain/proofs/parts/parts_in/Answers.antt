use Rattle.std.proofs.Common.{subst, sym}
use Rattle.pv_chain.specs.Reading.{IsAClass}
use Rattle.pv_chain.proofs.Parted.{none_headed, other_middle, some_headed}
use Rattle.pv_chain.proofs.parts.parts_in.Goals as goal

pub returns-in_default : goal.returns-in_default
returns-in_default c = none_headed c.args.text.now (rw c.in_default.is at c.in_ok-parts.ensures)

pub returns-then-branch : goal.returns-then-branch
returns-then-branch c = some_headed c.args.text.now c.in-Some.parts (rw c.in-Some.is at c.in_ok-parts.ensures) (subst IsAClass c.deref.ensures.value (c.in_ok-is_class.ensures.0 c.if-branch.true))

pub returns : goal.returns
returns c =
    other_middle c.args.text.now c.in-Some.parts (rw c.in-Some.is at c.in_ok-parts.ensures)
    (λ (class : IsAClass c.in-Some.parts.middle.items). absurd (let yes = c.in_ok-is_class.ensures.1 (subst IsAClass (sym c.deref.ensures.value) class) in let no = c.if-branch.false in cc (yes, no)))
