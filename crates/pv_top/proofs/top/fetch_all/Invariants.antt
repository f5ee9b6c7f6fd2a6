use Rattle.std.proofs.Common.{◌≡◌, ◌≤◌, take}
use Rattle.pv_top.proofs.Asking.{AskedSoFar}
use Rattle.pv_top.proofs.top.fetch_all.Given as goal

abbrev pub invariant-loop-wanted : goal.invariant-loop-wanted
invariant-loop-wanted g l =
    AskedSoFar (g.F.Files.held l.fn.files) (g.F.Files.asked l.fn.files) (g.F.Files.asked l.files) (take l.wanted-index l.all) l.fetched.items
    × (g.F.Files.held l.files ≡ g.F.Files.held l.fn.files)
    × (g.F.Files.failures l.fn.files ≤ g.F.Files.failures l.files)
