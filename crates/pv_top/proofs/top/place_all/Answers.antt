use Rattle.std.proofs.Common.{◌≡◌, Result, Err, rules, sym, subst, arith}
use Rattle.pv_base.specs.Outside.{Rose}
use Rattle.pv_report.specs.declared.status.Status.{Status}
use Rattle.pv_top.specs.Fetching.{PlacesEach, contents_of}
use Rattle.pv_top.proofs.Placing.{nothing_placed, place_cut, placed_next}
use Rattle.pv_top.proofs.top.place_all.Goals as goal

pub loop-placed-init : goal.loop-placed-init
loop-placed-init g c = (nothing_placed (g.F.Files.held c.args.files.now) (g.F.Files.asked c.args.files.now), omega arith)

pub returns-in_err-place-clause-placed : goal.returns-in_err-place-clause-placed
returns-in_err-place-clause-placed g c =
    let held = g.F.Files.held c.args.files.now in
    let now = g.F.Files.held c.place.new.files in
    let old = g.F.Files.asked c.args.files.now in
    let new = g.F.Files.asked c.place.new.files in
    let before = g.F.Files.failures c.args.files.now in
    let between = g.F.Files.failures c.loop-placed.files in
    let after = g.F.Files.failures c.place.new.files in
    let s = c.in_err-place.field-0.0 in
    let is : c.from_residual.result ≡ Err s = search rules in
    subst (λ (r : Result (Unit {0}) Status). PlacesEach held now old new (contents_of c.args.all.now) r (Rose before after)) (sym is)
    (place_cut (Unit {0}) held (g.F.Files.held c.loop-placed.files) now old (g.F.Files.asked c.loop-placed.files) new c.args.all.now c.loop-placed.placed-index c.placed-item.result s before between after c.placed-item.is c.loop-placed-test.true c.loop-placed.invariant.1 c.loop-placed.invariant.0
    c.in_err-place.ensures.failure c.in_err-place.ensures.err c.in_err-place.ensures.asked)

pub loop-placed-preserved : goal.loop-placed-preserved
loop-placed-preserved g c =
    let held = g.F.Files.held c.args.files.now in
    let now = g.F.Files.held c.place.new.files in
    let old = g.F.Files.asked c.args.files.now in
    let new = g.F.Files.asked c.place.new.files in (
      placed_next held (g.F.Files.held c.loop-placed.files) now old (g.F.Files.asked c.loop-placed.files) new c.args.all.now c.loop-placed.placed-index c.placed-item.result c.placed-item.is c.loop-placed-test.true c.loop-placed.invariant.0 c.in_ok-place.ensures.ok c.in_ok-place.ensures.asked,
      omega (arith, c.loop-placed.invariant.1, c.in_ok-place.ensures.later),
    )
