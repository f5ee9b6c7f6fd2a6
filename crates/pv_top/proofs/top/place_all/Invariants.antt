use Rattle.std.proofs.Common.{◌≤◌, take}
use Rattle.pv_top.specs.Fetching.{AllPlaced, contents_of}
use Rattle.pv_top.proofs.top.place_all.Given as goal

abbrev pub invariant-loop-placed : goal.invariant-loop-placed
invariant-loop-placed g l =
    AllPlaced (g.F.Files.held l.fn.files) (g.F.Files.held l.files) (g.F.Files.asked l.fn.files) (g.F.Files.asked l.files) (contents_of (take l.placed-index l.all))
    × (g.F.Files.failures l.fn.files ≤ g.F.Files.failures l.files)
