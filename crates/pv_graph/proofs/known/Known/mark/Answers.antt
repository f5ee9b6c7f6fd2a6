use Rattle.std.proofs.Common.{◌<◌, ◌-◌, length, refl, arith}
use Rattle.std.proofs.lemmas.Option.{slice_get_read}
use Rattle.pv_graph.proofs.known.Known.mark.Goals as goal

pub returns-then-n-len : goal.returns-then-n-len
returns-then-n-len c =
    let place : c.args.d - 1 < length c.args.self.now.marks.items = omega (arith, c.if-i-len.false, c.len.ensures, c.args.self.now.marks.ok.0) in
    let low : c.args.n < length c.index-marks.result.now.items = omega (arith, c.if-n-len.true, c.len-2.ensures, c.index-marks.result.now.ok.0) in (
      c.index-marks.result.now,
      slice_get_read c.args.self.now.marks.items (length c.args.self.now.marks.items) (c.args.d - 1) c.index-marks.result.now refl place c.index-marks.ensures,
      slice_get_read c.index-marks.result.now.items (length c.index-marks.result.now.items) c.args.n c.index.result.now refl low c.index.ensures,
    )
