-- Blocks as walks see them, and the flow of equations that they stand for.
use Rattle.std.specs.Prelude.{◌≡◌, ℕ, zero, suc, ◌<◌, ◌^◌, List, [], ◌∷◌, length, Some, slice_get, ⊤, ◌⊎◌, if◌then◌else◌, ◌==◌}
use Rattle.std.specs.List.{All, Contains}
use Rattle.pv_flow.specs.declared.block.Exit as code
use Rattle.pv_flow.specs.declared.block.Exit.TheVariants as exit
use Rattle.pv_decide.specs.declared.site.Site.{Site}
use Rattle.pv_decide.specs.declared.aim.Scope.{Scope}
use Rattle.pv_decide.specs.declared.aim.Scope.TheVariants.{Whole, Loop}
use Rattle.pv_equations.specs.Flow.{Part, Slot, Return, Throw, Dest, To, End, Exit, Chain, Leave, Test, Flow}

-- where an exit of the code goes, in the words of the equations
abbrev pub dest_of : code.Exit → Dest
dest_of (exit.To m) = To m
dest_of exit.Return = End Return
dest_of exit.Throw = End Throw

-- the exits of a chain go there, in order
abbrev pub GoTo : Chain → List code.Exit → Type 0
GoTo (Leave x) (d ∷ []) = x.dest ≡ dest_of d
GoTo (Test t y rest) (d ∷ ds) = (y.dest ≡ dest_of d) × GoTo rest ds
GoTo _ _ = ⊥

-- the exit and the test with this number
abbrev pub exit_at : Chain → ℕ → Exit
exit_at (Leave x) e = x
exit_at (Test t y rest) zero = y
exit_at (Test t y rest) (suc e) = exit_at rest e

abbrev pub test_at : Chain → ℕ → Part
test_at (Leave x) e = Slot 0
test_at (Test t y rest) zero = t
test_at (Test t y rest) (suc e) = test_at rest e

-- the blocks are those of the flow of equations
abbrev pub Stand : Flow → List Site → Type 0
Stand f sites = (b : ℕ) (k : Site) → slice_get sites b ≡ Some k → (k.around.items ≡ f.around b) × GoTo (f.chain b) k.exits.items

abbrev pub IsInRange : List Site → code.Exit → Type 0
IsInRange sites (exit.To m) = m < length sites
IsInRange sites exit.Return = ⊤
IsInRange sites exit.Throw = ⊤

-- each block has an exit, exits go to blocks, and there are not too many of either
pub record AreInRange (sites : List Site) : Type 0 where
  pub some : 0 < length sites
  pub few : length sites < 2 ^ 32
  pub exits : (b : ℕ) (k : Site) → slice_get sites b ≡ Some k → (0 < length k.exits.items) × (length k.exits.items < 2 ^ 32) × All (IsInRange sites) k.exits.items

-- the loop with the header h has the block b
abbrev pub IsAround : List Site → ℕ → ℕ → Type 0
IsAround sites b h = (k : Site) × (slice_get sites b ≡ Some k) × Contains k.around.items h

-- an exit of the block b goes to m
abbrev pub GoesTo : List Site → ℕ → ℕ → Type 0
GoesTo sites b m = (k : Site) × (slice_get sites b ≡ Some k) × Contains k.exits.items (exit.To m)

-- the place of a number in a list
abbrev pub place_of : List ℕ → ℕ → ℕ
place_of [] x = 0
place_of (y ∷ ys) x = if y == x then 0 else suc (place_of ys x)

-- all blocks, each once. An edge goes to a later one or back to the header of a loop around it
pub record AreOrdered (sites : List Site) (order : List ℕ) : Type 0 where
  pub blocks : (k b : ℕ) → slice_get order k ≡ Some b → b < length sites
  pub each : (b : ℕ) → b < length sites → (k : ℕ) × (slice_get order k ≡ Some b)
  pub once : (j k b : ℕ) → slice_get order j ≡ Some b → slice_get order k ≡ Some b → j ≡ k
  pub forward : (j k b m : ℕ) → slice_get order j ≡ Some b → slice_get order k ≡ Some m → GoesTo sites b m → (j < k) ⊎ IsAround sites b m

abbrev pub IsScope : List Site → Scope → Type 0
IsScope sites Whole = ⊤
IsScope sites (Loop h) = h < length sites

-- the first block of a region
abbrev pub first_of : Scope → ℕ
first_of Whole = 0
first_of (Loop h) = h

-- the loops around the region's blocks that are the region's
abbrev pub loops_of : Flow → Scope → List ℕ
loops_of f Whole = []
loops_of f (Loop h) = f.around h

-- the block is in the region
abbrev pub Inside : List Site → Scope → ℕ → Type 0
Inside sites Whole b = ⊤
Inside sites (Loop h) b = IsAround sites b h
