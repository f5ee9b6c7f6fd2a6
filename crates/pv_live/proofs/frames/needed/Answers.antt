use Rattle.std.proofs.Common.{sym, subst}
use Rattle.pv_live.specs.Needed.{AreNeeded}
use Rattle.pv_live.proofs.Kept.{rows_match, are_needed}
use Rattle.pv_live.proofs.frames.needed.Goals as goal

pub kept_frames-requires : goal.kept_frames-requires
kept_frames-requires c = rows_match c.args.typed.program c.in_ok-rows.rows.items c.deref.result.now c.args.typed.frames c.as_slice.result.now c.deref.ensures.value c.as_slice.ensures c.in_ok-rows.ensures c.requires

pub returns-clause-needed : goal.returns-clause-needed
returns-clause-needed c =
    subst (AreNeeded c.args.typed.program) (sym c.into.ensures)
    (are_needed c.args.typed.program c.in_ok-rows.rows.items c.deref.result.now c.args.typed.frames c.as_slice.result.now c.in_ok-frames.frames.items c.deref.ensures.value c.as_slice.ensures c.in_ok-rows.ensures c.requires c.in_ok-frames.ensures)
