use Rattle.std.proofs.Common.{◌∙◌, ap, subst, option_map}
use Rattle.pv_frame.proofs.Words.{IsFormed}
use Rattle.pv_frame.proofs.ActingLaws.{is_some_at}
use Rattle.pv_frame.proofs.Complete.{plain_row, local_row, branch_row, refused_row}
use Rattle.pv_frame.proofs.acting.action_of.Goals as goal

pub unwrap-action-requires : goal.unwrap-action-requires
unwrap-action-requires c =
    let formed = subst IsFormed c.in-Plain.is c.requires.formed in
    let row = plain_row c.in-Plain.opcode formed.0 formed.1 in
    is_some_at c.plain.result row.0 (c.plain.ensures ∙ row.1)

pub unwrap-action-requires-in-Local : goal.unwrap-action-requires-in-Local
unwrap-action-requires-in-Local c =
    let formed = subst IsFormed c.in-Local.is c.requires.formed in
    let row = local_row c.in-Local.opcode formed.0 formed.1 in
    is_some_at c.local.result (row.0 c.in-Local.number) (c.local.ensures ∙ ap (option_map (λ make. make c.in-Local.number)) row.1)

pub unwrap-action-requires-in-Branch : goal.unwrap-action-requires-in-Branch
unwrap-action-requires-in-Branch c =
    let formed = subst IsFormed c.in-Branch.is c.requires.formed in
    let row = branch_row c.in-Branch.opcode formed.0 formed.1 in
    is_some_at c.branch-opcode.result (row.0 c.in-Branch.target) (c.branch-opcode.ensures ∙ ap (option_map (λ make. make c.in-Branch.target)) row.1)

pub unwrap-requires : goal.unwrap-requires
unwrap-requires c =
    let formed = subst IsFormed c.in-Refused.is c.requires.formed in
    let row = refused_row c.in-Refused.opcode formed.0 formed.1 in
    is_some_at c.refused_by.result row.0 (c.refused_by.ensures ∙ row.1)
