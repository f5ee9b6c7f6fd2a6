use Rattle.std.proofs.Common.{◌≡◌, Some, refl}
use Rattle.std.specs.Prelude.{slice_get}
use Rattle.pv_value.specs.Descriptors.{IsMethodType}
use Rattle.pv_refute.specs.declared.refuting.Found.TheVariants as found
use Rattle.pv_report.proofs.Cited.{here_again}
use Rattle.pv_differences.proofs.Found.{desc_is, floatless, found_by, no_type}
use Rattle.pv_differences.proofs.finding.try_both.Goals as goal

pub unreachable-requires : goal.unreachable-requires
unreachable-requires c =
    let f = c.args.pair.now.first in
    let x = c.index-as_slice-method.result in
    let here : slice_get f.methods c.args.method ≡ Some x = here_again f.methods c.args.method x c.requires.there (rw (← c.as_slice.ensures) c.index-as_slice-method.is) in
    no_type f c.args.method x c.requires.code here (rw (c.in_default.is, c.bytes.ensures, ← c.index-as_slice-method.is) at c.in_ok-desc.ensures)

pub refute-requires : goal.refute-requires
refute-requires c =
    let f = c.args.pair.now.first in
    let x = c.index-as_slice-method.result in
    let here : slice_get f.methods c.args.method ≡ Some x = here_again f.methods c.args.method x c.requires.there (rw (← c.as_slice.ensures) c.index-as_slice-method.is) in
    let is : IsMethodType x.desc c.in-Some.desc = rw (c.in-Some.is, c.bytes.ensures, ← c.index-as_slice-method.is) at c.in_ok-desc.ensures in
    floatless f c.args.method x c.args.both.now.one c.in-Some.desc here c.requires.program is

pub returns-in-Differs : goal.returns-in-Differs
returns-in-Differs c =
    let f = c.args.pair.now.first in
    let x = c.index-as_slice-method.result in
    let both = c.args.both.now in
    let here : slice_get f.methods c.args.method ≡ Some x = here_again f.methods c.args.method x c.requires.there (rw (← c.as_slice.ensures) c.index-as_slice-method.is) in
    let is : IsMethodType x.desc c.in-Some.desc = rw (c.in-Some.is, c.bytes.ensures, ← c.index-as_slice-method.is) at c.in_ok-desc.ensures in
    let desc : c.in-Some.desc ≡ both.one.desc = desc_is f c.args.method x both.one c.in-Some.desc here c.requires.program is in
    found_by c.args.limits both.one both.two c.in-Some.desc c.from-tries.result c.from-steps.result (found.Differs c.in-Differs.t c.in-Differs.input) desc c.from-tries.ensures c.from-steps.ensures (rw c.in-Differs.is at c.in_ok-t.ensures.exact)

pub returns : goal.returns
returns c =
    let f = c.args.pair.now.first in
    let x = c.index-as_slice-method.result in
    let both = c.args.both.now in
    let here : slice_get f.methods c.args.method ≡ Some x = here_again f.methods c.args.method x c.requires.there (rw (← c.as_slice.ensures) c.index-as_slice-method.is) in
    let is : IsMethodType x.desc c.in-Some.desc = rw (c.in-Some.is, c.bytes.ensures, ← c.index-as_slice-method.is) at c.in_ok-desc.ensures in
    let desc : c.in-Some.desc ≡ both.one.desc = desc_is f c.args.method x both.one c.in-Some.desc here c.requires.program is in
    (found_by c.args.limits both.one both.two c.in-Some.desc c.from-tries.result c.from-steps.result found.Tried desc c.from-tries.ensures c.from-steps.ensures (rw c.in-Tried.is at c.in_ok-t.ensures.exact), refl)
