-- The lines of a report: one for each thing of which it speaks, with what is said of it.
use Rattle.std.specs.Prelude.{◌≡◌, ℕ, List, [], ◌∷◌}
use Rattle.std.specs.List.{AllZip, flat_map}
use Rattle.pv_report.specs.Lines.{line_text}

-- the lines of these things, by what is said of each
abbrev pub lines_by : {X Y : Type 0} → (X → Y → List ℕ) → List X → List Y → List (List ℕ)
lines_by line (x ∷ xs) (y ∷ ys) = line x y ∷ lines_by line xs ys
lines_by line xs ys = []

-- the text has a line for each of these things, of which what is said is so
pub record AreLines {X Y : Type 0} (Is : X → Y → Type 0) (line : X → Y → List ℕ) (xs : List X) (ys : List Y) (text : List ℕ) : Type 0 where
  pub each : AllZip Is xs ys
  pub text_is : text ≡ flat_map line_text (lines_by line xs ys)
