-- Iterations by depth: those of a list, and those that keep their range.
use Rattle.std.specs.Prelude.{◌≡◌, ◌⊎◌, ℕ, zero, suc, ◌+◌, ◌-◌, ◌<◌, ◌≤◌, min, List, ◌++◌, length, refl}
use Rattle.std.proofs.Math.ListN.{replicate}
use Rattle.std.proofs.Common.{inl, inr, sym, ◌∙◌, subst, arith, get_or, take, drop, length-take}
use Rattle.std.proofs.lemmas.List.{length-replicate, get_or-replicate, get_or_past, get_or_append_left, get_or-append_right, get_or-take, get_or-drop}
use Rattle.pv_denote.specs.Meaning.{index_of}

low_or_high : (a b : ℕ) → (a < b) ⊎ (b ≤ a)
low_or_high a b = grind arith

zeros : (n i : ℕ) → get_or {A = ℕ} (replicate n 0) i 0 ≡ 0
zeros n i = elim (low_or_high i n) [ inl h ↦ get_or-replicate n i 0 0 h | inr h ↦ get_or_past (replicate n 0) i 0 (let z : length (replicate n 0) ≤ i = simp length-replicate h in z) ]

-- the first of a list, and 0 from there on
padded : (index : List ℕ) (n known i : ℕ) → known ≡ min (length index) n → i < n → get_or (take known index ++ drop known (replicate n 0)) i 0 ≡ get_or index i 0
padded index n known i k h = go (low_or_high i known)
  where
    front : length (take known index) ≡ known
    front = simp length-take (omega (arith, k))

    go : (i < known) ⊎ (known ≤ i) → get_or (take known index ++ drop known (replicate n 0)) i 0 ≡ get_or index i 0
    go (inl lt) = get_or_append_left (take known index) (drop known (replicate n 0)) 0 i (omega (arith, front)) ∙ get_or-take known index i 0 lt
    go (inr le) =
        get_or-append_right (take known index) (drop known (replicate n 0)) known i 0 front le ∙ get_or-drop known (replicate n 0) (i - known) 0 ∙ zeros n (known + (i - known))
        ∙ sym (get_or_past index i 0 (omega (arith, k)))

-- the iterations of a list at the depths that loops have
pub first_of : (index copied : List ℕ) (known : ℕ) → copied ≡ take known index → known ≡ min (length index) 16 → (d : ℕ) → d ≤ 16 → index_of (copied ++ drop known (replicate 16 0)) d ≡ index_of index d
first_of index copied known e k zero le = refl
first_of index copied known e k (suc d) le = subst (λ (xs : List ℕ). get_or (xs ++ drop known (replicate 16 0)) d 0 ≡ get_or index d 0) (sym e) (padded index 16 known d k (omega arith))
