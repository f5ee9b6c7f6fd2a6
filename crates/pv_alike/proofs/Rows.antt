-- Lists of lists in a vector of vectors.
use Rattle.std.proofs.Common.{◌≡◌, ℕ, ◌<◌, List, [], length, map, set, get_or, sym, ◌∙◌, ap, arith}
use Rattle.std.specs.declared.vec.Vec.{Vec}
use Rattle.std.proofs.lemmas.List.{map-set, get_or-map, length-map}

-- one vector is replaced
pub set_row : {Z : Type 0} (xs : List (Vec ℕ Z)) (rows : List (List ℕ)) (i : ℕ) (v : Vec ℕ Z) (row : List ℕ) → map (λ (w : Vec ℕ Z). w.items) xs ≡ rows → v.items ≡ row → map (λ (w : Vec ℕ Z). w.items) (set xs i v) ≡ set rows i row
set_row {Z} xs rows i v row e f = map-set (λ (w : Vec ℕ Z). w.items) xs i v ∙ ap (λ (l : List (List ℕ)). set l i v.items) e ∙ ap (λ (r : List ℕ). set rows i r) f

-- what a vector holds
pub row_at : {Z : Type 0} (xs : List (Vec ℕ Z)) (rows : List (List ℕ)) (i : ℕ) (v : Vec ℕ Z) → map (λ (w : Vec ℕ Z). w.items) xs ≡ rows → i < length rows → v ≡ get_or xs i v → v.items ≡ get_or rows i []
row_at {Z} xs rows i v e h f =
    let lt : i < length xs = omega (arith, ap length e, length-map xs (λ (w : Vec ℕ Z). w.items)) in
    ap (λ (w : Vec ℕ Z). w.items) f ∙ sym (get_or-map (λ (w : Vec ℕ Z). w.items) xs i v [] lt) ∙ ap (λ (l : List (List ℕ)). get_or l i []) e
