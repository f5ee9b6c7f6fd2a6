use Rattle.std.proofs.Common.{ℕ, List, subst, ◌∙◌}
use Rattle.pv_asm.specs.Classes.{class_of_lines}
use Rattle.pv_asm.specs.Stopping.{Faults}
use Rattle.pv_asm.specs.declared.fault.AsmFault.{AsmFault}
use Rattle.pv_asm.specs.declared.fault.AsmFault.TheVariants as fault
use Rattle.pv_maker.proofs.Made.{no_fault}
use Rattle.pv_maker.proofs.class.generate.Goals as goal

-- each line has a reading where it stands
pub unreachable-requires : goal.unreachable-requires
unreachable-requires c =
    let read = class_of_lines c.deref.result.now in
    let answered : Faults {A = List ℕ} c.in-Err-Line.field-0 read = c.in-Err-Line.ensures in
    let is : Faults {A = List ℕ} (fault.Line c.in-Err-Line.field-0-0) read = subst (λ (f : AsmFault). Faults {A = List ℕ} f read) c.in-Err-Line.field-0-is answered in
    no_fault c.args.seed c.args.count c.in-Err-Line.field-0-0 c.args.twin c.in_ok-listing.field-0 c.deref.result.now c.requires c.in_ok-listing.ensures (c.deref.ensures.value ∙ c.in_ok-lines.ensures) is
