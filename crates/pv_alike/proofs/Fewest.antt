-- No graph with nodes that unfold as the roots of a least graph has fewer nodes.
use Rattle.std.specs.Prelude.{◌≡◌, ◌⊎◌, ℕ, ◌<◌, ◌≤◌, List, length}
use Rattle.std.proofs.Common.{inl, inr, sym, ap, ◌∙◌, arith}
use Rattle.pv_graph.specs.declared.node.Node.{Node}
use Rattle.pv_graph.specs.Unfold.{unfold_at}
use Rattle.pv_graph.specs.Graphs.{form_at}
use Rattle.pv_alike.specs.Least.{UnfoldEqually}
use Rattle.pv_alike.specs.Laws.{LeastFewest}
use Rattle.pv_alike.proofs.Origins.{HasOrigin, origins}
use Rattle.pv_alike.proofs.Repeating.{comes_back}

-- nodes of which no two unfold equally, each with an origin
module _ (h g : List Node) (each : (p : ℕ) → p < length h → HasOrigin h g p) (distinct : (m n : ℕ) → m < length h → n < length h → UnfoldEqually h m n → m ≡ n) where
  low_or_high : (p : ℕ) → (p < length h) ⊎ (length h ≤ p)
  low_or_high p = grind arith

  -- the origin of a node, and its sort
  origin_of : (p : ℕ) → (p < length h) ⊎ (length h ≤ p) → ℕ
  origin_of p (inl lt) = (each p lt).0
  origin_of p (inr le) = 0

  origin_low : (p : ℕ) (z : (p < length h) ⊎ (length h ≤ p)) → p < length h → origin_of p z < length g
  unfolding origin_of
  origin_low p (inl lt) y = (each p lt).1
  origin_low p (inr le) y = absurd (omega arith)

  origin_one : (p q : ℕ) (z : (p < length h) ⊎ (length h ≤ p)) (y : (q < length h) ⊎ (length h ≤ q)) → p < length h → q < length h → origin_of p z ≡ origin_of q y → p ≡ q
  unfolding origin_of
  origin_one p q (inl lt) (inl lt') u v e =
      let a = each p lt in
      let b = each q lt' in
      distinct p q lt lt' (λ m. a.2 m ∙ ap (unfold_at (form_at g) m) e ∙ sym (b.2 m))
  origin_one p q (inr le) y u v e = absurd (omega arith)
  origin_one p q z (inr le) u v e = absurd (omega arith)

  -- there are no more nodes than before
  pub no_more : length h ≤ length g
  no_more = elim (more_or_not (length h) (length g)) [ inl le ↦ le | inr more ↦ absurd (too_many more) ]
    where
      more_or_not : (a b : ℕ) → (a ≤ b) ⊎ (b < a)
      more_or_not a b = grind arith

      too_many : length g < length h → ⊥
      too_many more =
          let back = comes_back (λ p. origin_of p (low_or_high p)) (length g) (λ p le. origin_low p (low_or_high p) (omega arith)) in
          let same = origin_one back.0 back.1 (low_or_high back.0) (low_or_high back.1) (omega (arith, back.2, back.3)) (omega (arith, back.3)) back.4 in
          omega (arith, back.2)

pub least_fewest : LeastFewest
least_fewest g a b h r s least k c d same same' = no_more h k (λ p lt. origins least k c d same same' p lt) least.distinct
