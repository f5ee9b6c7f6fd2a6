use Rattle.std.proofs.Common.{◌≡◌, Some, refl}
use Rattle.std.specs.Prelude.{slice_get}
use Rattle.std.proofs.lemmas.Option.{slice_get_read}
use Rattle.pv_saturate.proofs.Lists.{get_in}
use Rattle.pv_rounds.proofs.Leaving.{known_here}
use Rattle.pv_rounds.proofs.known.is_at.Goals as goal

pub returns-in-Some : goal.returns-in-Some
returns-in-Some c =
    let known = c.args.known.now in
    let x = c.in-Some.x.now in
    let look = c.in-Some.ensures.lookup in
    let at : slice_get known c.args.place ≡ Some x = slice_get_read known _ c.args.place x refl look.3.0 look.1 in
    known_here known x c.args.found.now c.cmp.result c.eq.result (get_in known c.args.place x at) c.cmp.ensures c.eq.ensures
