-- From which blocks a target or an end of the method is ahead.
use Rattle.std.specs.Prelude.{◌≡◌, ℕ, Bool, true, List, length, Some, slice_get, ⊤, ◌⊎◌, ◌≤◌, false, [], ◌∷◌, suc, ◌<◌}
use Rattle.pv_equations.specs.Flow.{Flow}
use Rattle.pv_flow.specs.declared.block.Exit.{Exit}
use Rattle.pv_flow.specs.declared.block.Exit.TheVariants as exit
use Rattle.pv_decide.specs.declared.site.Site.{Site}
use Rattle.pv_decide.specs.declared.aim.Scope.{Scope}
use Rattle.pv_decide.specs.declared.aim.Scope.TheVariants.{Loop}
use Rattle.pv_decide.specs.declared.tree.Target.{Target}
use Rattle.pv_decide.specs.declared.tree.Target.TheVariants as target
use Rattle.pv_equations.specs.Equations.{Ahead}
use Rattle.pv_equations.specs.Equations as eq
use Rattle.pv_decide.specs.Sites.{loops_of}
use Rattle.pv_decide.specs.Walks.{target_of}
use Rattle.pv_decide.specs.Placing.{IsUnder, IsPlaced, AreAhead}

-- the exit is one to the target, or ends the method
abbrev pub HitsAt : Scope → Target → Exit → Type 0
HitsAt r (target.Node n) (exit.To m) = m ≡ n
HitsAt r target.Back (exit.To m) = r ≡ Loop m
HitsAt r target.Exit (exit.To m) = ⊥
HitsAt r target.Return (exit.To m) = ⊥
HitsAt r target.Leave (exit.To m) = ⊥
HitsAt r t exit.Return = ⊤
HitsAt r t exit.Throw = ⊤

abbrev pub IsKnown : List Bool → Exit → Type 0
IsKnown known (exit.To m) = slice_get known m ≡ Some true
IsKnown known exit.Return = ⊥
IsKnown known exit.Throw = ⊥

abbrev pub LeadsOn : Scope → Target → List Bool → Exit → Type 0
LeadsOn r t known d = HitsAt r t d ⊎ IsKnown known d

abbrev pub Leads : List Site → Scope → Target → List Bool → ℕ → Type 0
Leads sites r t known b = (k : Site) × (e : ℕ) × (d : Exit) × (slice_get sites b ≡ Some k) × (slice_get k.exits.items e ≡ Some d) × LeadsOn r t known d

-- from the blocks that are marked the target or an end is ahead
abbrev pub AreSo : List Site → Scope → Target → List Bool → Type 0
AreSo sites r t known = (f : Flow) (rank : ℕ → ℕ) → IsPlaced f rank sites r t → (m : ℕ) → slice_get known m ≡ Some true → Ahead f (loops_of f r) (target_of t) m

-- from the block b on, none that isn't marked leads on
abbrev pub IsDone : List Site → Scope → Target → List Bool → ℕ → Type 0
IsDone sites r t known b = (m : ℕ) → b ≤ m → slice_get known m ≡ Some false → Leads sites r t known m → ⊥

-- how many blocks aren't marked
abbrev pub unmarked : List Bool → ℕ
unmarked [] = 0
unmarked (true ∷ known) = unmarked known
unmarked (false ∷ known) = suc (unmarked known)

-- some blocks were marked, or none leads on
abbrev pub Swept : List Site → Scope → Target → List Bool → List Bool → Bool → Type 0
Swept sites r t old new true = unmarked new < unmarked old
Swept sites r t old new false = IsDone sites r t new 0

-- of each block it is known whether the target or an end is ahead
abbrev pub KnowAhead : List Site → Scope → Target → List Bool → Type 0
KnowAhead sites r t known = (length known ≡ length sites) × ((f : Flow) (rank : ℕ → ℕ) → IsPlaced f rank sites r t → AreAhead f sites r t known)

-- from the blocks that are marked an end of the method is ahead, whatever is looked for
abbrev pub AreEnds : List Site → List Bool → Type 0
AreEnds sites ends = (f : Flow) (rank : ℕ → ℕ) → IsUnder f rank sites → (m : ℕ) → slice_get ends m ≡ Some true → (R : List ℕ) (t : eq.Target) → Ahead f R t m
