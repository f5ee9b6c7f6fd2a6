-- Grammars that check nothing, one of two grammars, and lists that are kept.
use Rattle.std.specs.Prelude.{◌≡◌, ℕ, zero, suc, Bool, true, false, List, [], ◌∷◌, ◌++◌, Option, Some, None}
use Rattle.std.specs.Option.{option_map}
use Rattle.pv_format.specs.Grammars.{Grammar, give, here, item, check, ◌>>=◌}

-- no check, no place, and no item asks for bytes after it: it only stops where the bytes end
unfoldable pub IsFree : {F A : Type 0} → Grammar F A → Type 0
IsFree (give x) = Unit {0}
IsFree (here f) = ⊥
IsFree (item size after short f) = (after ≡ 0) × ((bytes : List ℕ) → IsFree (f bytes))
IsFree (check c e g) = ⊥

-- the first where the test holds, or else the other
abbrev pub either : {F A : Type 0} → Bool → Grammar F A → Grammar F A → Grammar F A
either true g h = g
either false g h = h

-- n of them, kept
unfoldable pub many : {F A : Type 0} → ℕ → Grammar F A → Grammar F (List A)
many zero g = give []
many (suc n) g = g >>= λ x. many n g >>= λ xs. give (x ∷ xs)

-- ---- n items, each as a function takes it

-- after items that were taken before
abbrev pub onto : {A : Type 0} → List A → Option (List A × List ℕ) → Option (List A × List ℕ)
onto front others = option_map (λ x. (front ++ x.0, x.1)) others

abbrev pub then_all : {A : Type 0} → Option (A × List ℕ) → (List ℕ → Option (List A × List ℕ)) → Option (List A × List ℕ)
then_all (Some (x, rest)) others = onto (x ∷ []) (others rest)
then_all None others = None

unfoldable pub take_all : {A : Type 0} → (List ℕ → Option (A × List ℕ)) → ℕ → List ℕ → Option (List A × List ℕ)
take_all takes zero bytes = Some ([], bytes)
take_all takes (suc n) bytes = then_all (takes bytes) (take_all takes n)
