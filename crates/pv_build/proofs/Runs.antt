-- What a block left when it was done.
use Rattle.std.proofs.Common.{◌≡◌, Some}
use Rattle.pv_build.proofs.Words.{Ran}

pub same_run : (r s : Ran) → Some (Some r) ≡ Some (Some s) → r ≡ s
same_run r s e = cc
