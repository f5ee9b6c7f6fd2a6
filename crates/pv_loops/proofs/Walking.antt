-- A walk in depth.
use Rattle.std.proofs.Common.{◌≡◌, ℕ, ◌<◌, List, [], ◌∷◌, ◌++◌, length, get_or, refl, sym, subst, arith, length-append}
use Rattle.pv_loops.proofs.Words.{get_or_append_left, get_or_push, All-push, All, Contains, IsShape, targets}

-- a node of a path, with how many of its edges are followed
abbrev pub AreNodes : ℕ → List (ℕ × ℕ) → Type 0
AreNodes count path = All (λ (e : ℕ × ℕ). e.0 < count) path

-- the last node of a path is taken off
pub popped : (count : ℕ) (path rest : List (ℕ × ℕ)) (n k : ℕ) → path ≡ rest ++ (n, k) ∷ [] → AreNodes count path → AreNodes count rest × (n < count)
popped count path rest n k is all =
    let whole : AreNodes count (rest ++ (n, k) ∷ []) = subst (λ l. AreNodes count l) is all in
    let len = length-append rest ((n, k) ∷ []) in (
      λ i d lt. subst (λ (e : ℕ × ℕ). e.0 < count) (get_or_append_left rest ((n, k) ∷ []) d i lt) (whole i d (omega (arith, lt, len))),
      subst (λ (e : ℕ × ℕ). e.0 < count) (get_or_push rest (n, k) (n, k) (length rest) refl) (whole (length rest) (n, k) (omega (arith, len))),
    )

pub pushed : (count : ℕ) (path longer : List (ℕ × ℕ)) (n k : ℕ) → longer ≡ path ++ (n, k) ∷ [] → AreNodes count path → n < count → AreNodes count longer
pushed count path longer n k is all lt = subst (λ l. AreNodes count l) (sym is) (All-push (λ (e : ℕ × ℕ). e.0 < count) path (n, k) all lt)

-- an edge goes to a node
pub target_in : (s : List (List ℕ)) (n k t : ℕ) (ts : List ℕ) → IsShape s → ts ≡ targets s n → k < length ts → t ≡ get_or ts k t → t < length s
target_in s n k t ts S is lt read = S.within n t (subst (λ (l : List ℕ). Contains l t) is (k, lt, sym read))
