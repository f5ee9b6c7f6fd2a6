-- The greatest depth so far.
use Rattle.std.specs.Prelude.{◌≡◌, ℕ, ◌+◌, ◌<◌, ◌≤◌, List, ◌++◌, ◌∷◌, [], length, map, take}
use Rattle.std.proofs.Common.{inl, inr, sym, ap, ◌∙◌, subst, arith, get_or}
use Rattle.std.proofs.lemmas.List.{take_more, map-append}
use Rattle.pv_graph.specs.Walks.{In}
use Rattle.pv_graph.proofs.Cited.{in_cases}
use Rattle.pv_heights.specs.Sides.{Match}
use Rattle.pv_saturate.specs.declared.decoding.Decoded.{Decoded}
use Rattle.pv_saturate.specs.Decoding.{decoded_seen}
use Rattle.pv_rounds.specs.Asking.{SomeNotFree}

pub deeper : (xs : List Decoded) (i : ℕ) (x : Decoded) (most next : ℕ) → i < length xs → x ≡ get_or xs i x → most ≤ next → (decoded_seen x).params.depth ≤ next → ((d : ℕ) → SomeNotFree (map decoded_seen (take i xs)) d → d ≤ most)
    → (d : ℕ) → SomeNotFree (map decoded_seen (take (i + 1) xs)) d → d ≤ next
deeper xs i x most next lt e before here all d (m, j, (asks, at_)) =
    let more : map decoded_seen (take (i + 1) xs) ≡ map decoded_seen (take i xs) ++ decoded_seen x ∷ [] =
    ap (map decoded_seen) (take_more xs i x lt) ∙ map-append decoded_seen (take i xs) (get_or xs i x ∷ []) ∙ ap (λ (y : Decoded). map decoded_seen (take i xs) ++ decoded_seen y ∷ []) (sym e) in
    elim (in_cases (map decoded_seen (take i xs)) (decoded_seen x) m (subst (λ (ms : List (Match ℕ)). In ms m) more j)) [
      | inl old ↦ (let z = all d (m, old, (asks, at_)) in omega (arith, z, before))
      | inr same ↦ (let z : (decoded_seen x).params.depth ≡ d = ap (λ (n : Match ℕ). n.params.depth) same ∙ at_ in omega (arith, z, here))
    ]
