use Rattle.std.proofs.Common.{◌≡◌, Result, Err, inr, rules, sym, subst, ap, ◌∙◌, arith}
use Rattle.std.specs.Global.{Vec}
use Rattle.pv_report.specs.declared.pair.Fetched.{Fetched}
use Rattle.pv_report.specs.declared.status.Status.{Status}
use Rattle.pv_report.specs.declared.status.Status.TheVariants as status
use Rattle.pv_top.specs.Fetching.{AsksAll, wanted_names}
use Rattle.pv_top.proofs.Asking.{asked_at, asked_one_more}
use Rattle.pv_top.proofs.top.fetch_all.Goals as goal

pub returns-in_err-file-clause-asked : goal.returns-in_err-file-clause-asked
returns-in_err-file-clause-asked g c =
    let held = g.F.Files.held c.args.files.now in
    let old = g.F.Files.asked c.args.files.now in
    let new = g.F.Files.asked c.fetch.new.files in
    let is : c.from_residual.result ≡ Err c.in_err-file.field-0.0 = search rules in
    subst (λ (r : Result (Vec Fetched) Status). AsksAll held old new (wanted_names c.args.all.now) r) (sym is)
    (asked_at Fetched held old (g.F.Files.asked c.loop-wanted.files) new c.args.all.now c.loop-wanted.wanted-index c.loop-wanted.fetched.items _ c.in_err-file.field-0.0 _ c.loop-wanted-test.true c.loop-wanted.invariant.0 c.in_err-file.ensures.failure c.in_err-file.ensures.asked)

pub returns-in_err-keep-clause-asked : goal.returns-in_err-keep-clause-asked
returns-in_err-keep-clause-asked g c =
    let held = g.F.Files.held c.args.files.now in
    let old = g.F.Files.asked c.args.files.now in
    let new = g.F.Files.asked c.fetch.new.files in
    let first : c.from_residual-in_err-keep.result ≡ Err c.in_err-keep.field-0.0 = search rules in
    let is : c.from_residual-in_err-keep.result ≡ Err status.Memory = first ∙ ap Err c.in_err-keep.ensures.memory in
    subst (λ (r : Result (Vec Fetched) Status). AsksAll held old new (wanted_names c.args.all.now) r) (sym is)
    (asked_at Fetched held old (g.F.Files.asked c.loop-wanted.files) new c.args.all.now c.loop-wanted.wanted-index c.loop-wanted.fetched.items _ status.Memory (Unit {0}) c.loop-wanted-test.true c.loop-wanted.invariant.0 tt (inr c.in_ok-file.ensures.asked))

pub loop-wanted-preserved : goal.loop-wanted-preserved
loop-wanted-preserved g c =
    let held = g.F.Files.held c.args.files.now in
    let old = g.F.Files.asked c.args.files.now in
    let new = g.F.Files.asked c.fetch.new.files in
    let so = asked_one_more held old (g.F.Files.asked c.loop-wanted.files) new c.args.all.now c.loop-wanted.wanted-index c.loop-wanted.fetched.items _ c.in_ok-file.file _ c.loop-wanted-test.true c.loop-wanted.invariant.0 c.loop-wanted.invariant.1 c.in_ok-file.ensures.content c.in_ok-file.ensures.asked in
    (rw c.in_ok-keep.ensures.items so, c.in_ok-file.ensures.held ∙ c.loop-wanted.invariant.1, omega (arith, c.loop-wanted.invariant.2, c.in_ok-file.ensures.later))
