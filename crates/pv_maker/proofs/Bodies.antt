-- The body of each method that is made has a code.
use Rattle.std.proofs.Common.{◌≡◌, ℕ, ◌<◌, ◌≤◌, Bool, true, false, leb, List, [], ◌∷◌, ◌++◌, length, drop, Option, Some, None, pos, ap, arith}
use Rattle.std.specs.Prelude.{codes}
use Rattle.std.specs.Int.{w8, cast_unsigned}
use Rattle.std.proofs.lemmas.Bool.{le-leb, cond-true}
use Rattle.pv_pool.specs.Readers.{◌>>=◌}
use Rattle.pv_listing.specs.declared.line.Line.{Line}
use Rattle.pv_asm.specs.Codes.{number_bytes}
use Rattle.pv_asm.specs.Labels.{Labels}
use Rattle.pv_asm.specs.Laws.{code_from, code_of_body}
use Rattle.pv_maker.specs.declared.draws.Shape.{Shape}
use Rattle.pv_maker.specs.declared.draws.Shape.TheVariants as shape
use Rattle.pv_maker.specs.Methods.{bipush, body}

-- ---- the constant is pushed

abbrev pub byte : ℕ → ℕ
byte c = cast_unsigned w8 (pos c)

small : (c : ℕ) → c < 100 → number_bytes 16 (pos c) ≡ Some (byte c ∷ [])
small c lt = cond-true (leb c 127) (Some (byte c ∷ [])) None (le-leb c 127 (omega (arith, lt)))

pushed : (labels : Labels) (stood : List (List ℕ)) (code : List ℕ) (c : ℕ) (rest : List Line) → c < 100 → code_from labels stood code (bipush c ∷ rest) ≡ code_from labels stood (code ++ 16 ∷ byte c ∷ []) rest
pushed labels stood code c rest lt = ap (λ (o : Option (List ℕ)). (o >>= (λ (bytes : List ℕ). Some (16 ∷ bytes))) >>= (λ (bytes : List ℕ). code_from labels stood (code ++ bytes) rest)) (small c lt)

-- ---- the code

abbrev labels_in : Shape → Labels
labels_in shape.Sum = []
labels_in shape.Loop = (codes "H", 4) ∷ (codes "E", 22) ∷ []
labels_in shape.Nested = (codes "H", 4) ∷ (codes "K", 12) ∷ (codes "L", 32) ∷ (codes "E", 38) ∷ []

-- its bytes, where this one is the constant's
abbrev pub code_in : Bool → Shape → ℕ → List ℕ
code_in false shape.Sum c = 26 ∷ 16 ∷ c ∷ 104 ∷ 27 ∷ 96 ∷ 172 ∷ []
code_in true shape.Sum c = 27 ∷ 26 ∷ 16 ∷ c ∷ 104 ∷ 96 ∷ 172 ∷ []
code_in false shape.Loop c = 26 ∷ 61 ∷ 3 ∷ 62 ∷ 29 ∷ 27 ∷ 162 ∷ 0 ∷ 16 ∷ 28 ∷ 29 ∷ 16 ∷ c ∷ 104 ∷ 96 ∷ 61 ∷ 132 ∷ 3 ∷ 1 ∷ 167 ∷ 255 ∷ 241 ∷ 28 ∷ 172 ∷ []
code_in true shape.Loop c = 26 ∷ 61 ∷ 3 ∷ 62 ∷ 29 ∷ 27 ∷ 162 ∷ 0 ∷ 16 ∷ 29 ∷ 16 ∷ c ∷ 104 ∷ 28 ∷ 96 ∷ 61 ∷ 132 ∷ 3 ∷ 1 ∷ 167 ∷ 255 ∷ 241 ∷ 28 ∷ 172 ∷ []
code_in false shape.Nested c =
    26 ∷ 61 ∷ 3 ∷ 62 ∷ 29 ∷ 27 ∷ 162 ∷ 0 ∷ 32 ∷ 3 ∷ 54 ∷ 4 ∷ 21 ∷ 4 ∷ 27 ∷ 162 ∷ 0 ∷ 17 ∷ 28 ∷ 21 ∷ 4 ∷ 16 ∷ c ∷ 104 ∷ 96 ∷ 61 ∷ 132 ∷ 4 ∷ 1 ∷ 167 ∷ 255 ∷ 239 ∷ 132 ∷ 3 ∷ 1 ∷ 167 ∷ 255 ∷ 225 ∷ 28 ∷ 172 ∷ []
code_in true shape.Nested c =
    26 ∷ 61 ∷ 3 ∷ 62 ∷ 29 ∷ 27 ∷ 162 ∷ 0 ∷ 32 ∷ 3 ∷ 54 ∷ 4 ∷ 21 ∷ 4 ∷ 27 ∷ 162 ∷ 0 ∷ 17 ∷ 21 ∷ 4 ∷ 16 ∷ c ∷ 104 ∷ 28 ∷ 96 ∷ 61 ∷ 132 ∷ 4 ∷ 1 ∷ 167 ∷ 255 ∷ 239 ∷ 132 ∷ 3 ∷ 1 ∷ 167 ∷ 255 ∷ 225 ∷ 28 ∷ 172 ∷ []

pub code_is : (twin : Bool) (s : Shape) (c : ℕ) → c < 100 → code_of_body (body twin s c) ≡ Some (code_in twin s (byte c))
code_is false shape.Sum c lt = pushed [] [] (26 ∷ []) c (drop 2 (body false shape.Sum c)) lt
code_is true shape.Sum c lt = pushed [] [] (27 ∷ 26 ∷ []) c (drop 3 (body true shape.Sum c)) lt
code_is false shape.Loop c lt = pushed (labels_in shape.Loop) (codes "H" ∷ []) (26 ∷ 61 ∷ 3 ∷ 62 ∷ 29 ∷ 27 ∷ 162 ∷ 0 ∷ 16 ∷ 28 ∷ 29 ∷ []) c (drop 11 (body false shape.Loop c)) lt
code_is true shape.Loop c lt = pushed (labels_in shape.Loop) (codes "H" ∷ []) (26 ∷ 61 ∷ 3 ∷ 62 ∷ 29 ∷ 27 ∷ 162 ∷ 0 ∷ 16 ∷ 29 ∷ []) c (drop 10 (body true shape.Loop c)) lt
code_is false shape.Nested c lt =
    pushed (labels_in shape.Nested) (codes "H" ∷ codes "K" ∷ []) (26 ∷ 61 ∷ 3 ∷ 62 ∷ 29 ∷ 27 ∷ 162 ∷ 0 ∷ 32 ∷ 3 ∷ 54 ∷ 4 ∷ 21 ∷ 4 ∷ 27 ∷ 162 ∷ 0 ∷ 17 ∷ 28 ∷ 21 ∷ 4 ∷ []) c (drop 17 (body false shape.Nested c)) lt
code_is true shape.Nested c lt =
    pushed (labels_in shape.Nested) (codes "H" ∷ codes "K" ∷ []) (26 ∷ 61 ∷ 3 ∷ 62 ∷ 29 ∷ 27 ∷ 162 ∷ 0 ∷ 32 ∷ 3 ∷ 54 ∷ 4 ∷ 21 ∷ 4 ∷ 27 ∷ 162 ∷ 0 ∷ 17 ∷ 21 ∷ 4 ∷ []) c (drop 16 (body true shape.Nested c)) lt

pub code_some : (twin : Bool) (s : Shape) (c : ℕ) → 1 ≤ length (code_in twin s c)
code_some false shape.Sum c = omega arith
code_some true shape.Sum c = omega arith
code_some false shape.Loop c = omega arith
code_some true shape.Loop c = omega arith
code_some false shape.Nested c = omega arith
code_some true shape.Nested c = omega arith

pub code_few : (twin : Bool) (s : Shape) (c : ℕ) → length (code_in twin s c) ≤ 65535
code_few false shape.Sum c = omega arith
code_few true shape.Sum c = omega arith
code_few false shape.Loop c = omega arith
code_few true shape.Loop c = omega arith
code_few false shape.Nested c = omega arith
code_few true shape.Nested c = omega arith
