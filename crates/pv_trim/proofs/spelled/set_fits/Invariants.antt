use Rattle.std.proofs.Common.{drop}
use Rattle.std.specs.List.{AllByRecursion}
use Rattle.pv_cert.specs.Sets.{congruence}
use Rattle.pv_trim.proofs.spelled.set_fits.Given as goal

abbrev pub invariant-loop-member : goal.invariant-loop-member
invariant-loop-member l = AllByRecursion congruence.fits (drop l.member-index l.set) → AllByRecursion congruence.fits l.set
