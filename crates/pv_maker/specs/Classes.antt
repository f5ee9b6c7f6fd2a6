-- The class of the methods that are made.
use Rattle.std.specs.Prelude.{◌≡◌, ℕ, ◌≤◌, Bool, List, map, Some, Ok}
use Rattle.pv_listing.specs.declared.line.Line.{Line}
use Rattle.pv_asm.specs.Classes.{class_of_lines}
use Rattle.pv_maker.specs.declared.class.TheConstants.{MOST_MADE}
use Rattle.pv_maker.specs.Methods.{listing}

-- the bytes are the class of the listing
abbrev pub IsMade : ℕ → ℕ → Bool → List ℕ → Type 0
IsMade seed n twin bytes = class_of_lines (map (λ (line : Line). Some line) (listing seed n twin)) ≡ Ok bytes

-- there is such a class
abbrev pub EachIsMade : Type 0
EachIsMade = (seed n : ℕ) (twin : Bool) → n ≤ MOST_MADE → (bytes : List ℕ) × IsMade seed n twin bytes
