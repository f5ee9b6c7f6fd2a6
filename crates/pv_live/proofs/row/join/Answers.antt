use Rattle.std.proofs.Common.{◌+◌, false, true, sym, subst, arith}
use Rattle.std.proofs.lemmas.Option.{slice_get_within, get_or_from_slice_get}
use Rattle.pv_live.specs.Marks.{IsMarked, Marks}
use Rattle.pv_live.proofs.Rows.{Below, below_marked, below_other, is_marked}
use Rattle.pv_live.proofs.row.join.Goals as goal
use Rattle.pv_live.proofs.row.join.Goals.{then-local-other+then-other-local, else-local-other, else-local-other-via-then-local-other+else-other-local, else-local-other-via-else-local-other}

pub loop-local-preserved : goal.loop-local-preserved
loop-local-preserved c =
    let other = c.args.other.now in
    let n = c.loop-local.local in
    elim c.if-local-other.branch [
      | then-local-other+then-other-local w ↦ subst (Marks (Below (IsMarked other) (n + 1)) c.args.row.now) (sym w.row-is)
          (below_marked (IsMarked other) c.args.row.now c.loop-local.row n (omega (arith, c.loop-local-test.true, c.loop-local.auto.row)) (is_marked other n w.if-local-other.true w.if-other-local.true) c.loop-local.invariant)
      | else-local-other w ↦ subst (Marks (Below (IsMarked other) (n + 1)) c.args.row.now) (sym w.row-is)
          (below_other (IsMarked other) c.args.row.now c.loop-local.row n
          (elim w.else-local-other.branch [
            | else-local-other-via-then-local-other+else-other-local v ↦ λ m. let t = get_or_from_slice_get other n true false m in absurd (let f = v.if-other-local.false in cc)
            | else-local-other-via-else-local-other v ↦ λ m. let t = slice_get_within other n true m in absurd (omega (arith, t, v.if-local-other.false))
          ]) c.loop-local.invariant)
    ]
