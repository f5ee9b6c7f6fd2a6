-- Where an exit gets to, and what a walk makes of it.
use Rattle.std.specs.Prelude.{◌≡◌, ◌≢◌, ℕ, List, ⊤, if◌then◌else◌, ◌==◌}
use Rattle.pv_flow.specs.declared.block.Exit.{Exit}
use Rattle.pv_flow.specs.declared.block.Exit.TheVariants as exit
use Rattle.pv_decide.specs.declared.site.Site.{Site}
use Rattle.pv_decide.specs.declared.aim.Scope.{Scope}
use Rattle.pv_decide.specs.declared.aim.Scope.TheVariants.{Whole, Loop}
use Rattle.pv_decide.specs.declared.tree.Target.{Target}
use Rattle.pv_decide.specs.declared.tree.Target.TheVariants as target
use Rattle.pv_decide.specs.declared.landing.Landing.{Landing}
use Rattle.pv_decide.specs.declared.landing.Landing.TheVariants.{On, Again, Header, Gone, Returns, Throws}
use Rattle.pv_decide.specs.declared.landing.Verdict.{Verdict}
use Rattle.pv_decide.specs.declared.landing.Verdict.TheVariants as verdict
use Rattle.pv_decide.specs.Sites.{Inside, IsAround}

-- where an exit of the block b gets to
abbrev pub IsLanding : List Site → Scope → ℕ → Exit → Landing → Type 0
IsLanding sites scope b (exit.To m) (On n) = (n ≡ m) × Inside sites scope m × (IsAround sites b m → ⊥)
IsLanding sites scope b (exit.To m) Gone = Inside sites scope m → ⊥
IsLanding sites scope b (exit.To m) Header = Inside sites scope m × IsAround sites b m × (scope ≡ Loop m)
IsLanding sites scope b (exit.To m) Again = Inside sites scope m × IsAround sites b m × (scope ≢ Loop m)
IsLanding sites scope b exit.Return Returns = ⊤
IsLanding sites scope b exit.Throw Throws = ⊤
IsLanding sites scope b _ _ = ⊥

-- what a walk makes of an end of the method that it looks for
abbrev pub verdict_end : Scope → Verdict
verdict_end Whole = verdict.Leaf
verdict_end (Loop h) = verdict.Nothing

-- what a walk makes of an exit that gets there
abbrev pub verdict_of : Scope → Target → Landing → Verdict
verdict_of r (target.Node n) (On m) = if m == n then verdict.Leaf else verdict.Goes m
verdict_of r t (On m) = verdict.Goes m
verdict_of r target.Back Header = verdict.Leaf
verdict_of r target.Leave Header = verdict.Leaf
verdict_of r target.Leave Gone = verdict.Leaf
verdict_of r target.Leave Returns = verdict.Leaf
verdict_of r target.Leave Throws = verdict.Leaf
verdict_of r target.Exit Returns = verdict_end r
verdict_of r target.Exit Throws = verdict_end r
verdict_of r target.Return Returns = verdict_end r
verdict_of r t l = verdict.Nothing
