-- Which conditions on classes some matches ask.
use Rattle.std.specs.Prelude.{◌≡◌, ℕ, List}
use Rattle.pv_graph.specs.Walks.{In}
use Rattle.pv_pattern.specs.Patterns.{Side, settled, not_free}
use Rattle.pv_heights.specs.Sides.{Match}

-- one of the conditions of an axiom is that the class of a variable is settled
abbrev pub AsksSettled : List Side → Type 0
AsksSettled sides = (j : ℕ) × In sides (settled j)

-- .. that its depth isn't free in the class of a variable
abbrev pub AsksNotFree : List Side → Type 0
AsksNotFree sides = (j : ℕ) × In sides (not_free j)

-- one of the matches asks for a settled class
abbrev pub SomeSettled : List (Match ℕ) → Type 0
SomeSettled ms = (m : Match ℕ) × In ms m × AsksSettled m.entry.sides

-- the match asks for a class in which this depth isn't free
abbrev pub AsksAt : Match ℕ → ℕ → Type 0
AsksAt m d = AsksNotFree m.entry.sides × (m.params.depth ≡ d)

-- one of the matches does
abbrev pub SomeNotFree : List (Match ℕ) → ℕ → Type 0
SomeNotFree ms d = (m : Match ℕ) × In ms m × AsksAt m d
