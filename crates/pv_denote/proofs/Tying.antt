-- A graph whose theta is tied keeps the nodes that don't reach the theta.
use Rattle.std.specs.Prelude.{◌≡◌, ◌≢◌, ℕ, zero, suc, List, [], ◌∷◌, Option, Some, None, slice_get, slice_set, refl}
use Rattle.std.specs.List.{AllZip}
use Rattle.std.proofs.Common.{inl, inr, sym, ap, ◌∙◌, subst}
use Rattle.pv_value.specs.Spelled.{bind}
use Rattle.pv_graph.specs.declared.node.Op.TheVariants as op
use Rattle.pv_graph.specs.declared.node.Node.{Node}
use Rattle.pv_graph.specs.Forms.{Form, form}
use Rattle.pv_graph.specs.Graphs.{Graph, form_of, form_at}
use Rattle.pv_graph.specs.Calls.{Tied}
use Rattle.pv_graph.specs.Walks.{In, Reaches, itself, along}
use Rattle.pv_graph.proofs.Cited.{Matched, Bisimulates, bisimulates_unfolds}
use Rattle.pv_denote.specs.Laws.{TieKeeps}
use Rattle.pv_denote.proofs.Simulated.{bisimulated}

-- the same node, which doesn't reach the theta
abbrev pub Apart : Graph → ℕ → ℕ → ℕ → Type 0
Apart old theta a b = (a ≡ b) × (Reaches (form_at old.nodes) [] b theta → ⊥)

other : {A : Type 0} (xs : List A) (i j : ℕ) (x : A) → j ≢ i → slice_get (slice_set xs i x) j ≡ slice_get xs j
other [] i j x ne = refl
other (y ∷ xs) zero zero x ne = absurd (ne refl)
other (y ∷ xs) zero (suc j) x ne = refl
other (y ∷ xs) (suc i) zero x ne = refl
other (y ∷ xs) (suc i) (suc j) x ne = other xs i j x (λ e. ne (ap suc e))

module _ (old new : Graph) (theta first second : ℕ) (tied : Tied old new theta first second) where
  kids_apart : (b : ℕ) → (Reaches (form_at old.nodes) [] b theta → ⊥) → (ks : List ℕ) → ((k : ℕ) → In ks k → Reaches (form_at old.nodes) [] k theta → ⊥) → AllZip (Apart old theta) ks ks
  kids_apart b h [] p = tt
  kids_apart b h (k ∷ ks) p = ((refl, p k (inl refl)), kids_apart b h ks (λ l m. p l (inr m)))

  itself_matched : (b : ℕ) → (Reaches (form_at old.nodes) [] b theta → ⊥) → (f : Option (Form ℕ)) → form_at old.nodes b ≡ f → Matched (Apart old theta) f f
  itself_matched b h None e = tt
  itself_matched b h (Some (form o ks)) e = (refl, kids_apart b h ks (λ k m r. h (along b k theta o ks (λ z. z) e m r)))

  apart_pairs : Bisimulates (form_at new.nodes) (form_at old.nodes) (Apart old theta)
  apart_pairs a b h =
      let ne : b ≢ theta = (λ e. h.1 (subst (λ (n : ℕ). Reaches (form_at old.nodes) [] n theta) (sym e) (itself theta))) in
      let tied_node : Node = record { op = op.Theta tied.theta_.0; kids = first ∷ second ∷ [] } in
      let nodes : new.nodes ≡ slice_set old.nodes theta tied_node = ap (λ (g : Graph). g.nodes) tied.tied in
      let kept : form_at new.nodes a ≡ form_at old.nodes b =
      ap (form_at new.nodes) h.0 ∙ ap (λ (ns : List Node). form_at ns b) nodes
      ∙ ap (λ (f : Option Node). bind f (λ n. Some (form_of n))) (other old.nodes theta b tied_node ne) in
      subst (λ (f : Option (Form ℕ)). Matched (Apart old theta) f (form_at old.nodes b)) (sym kept) (itself_matched b h.1 (form_at old.nodes b) refl)

pub tie_keeps : TieKeeps
tie_keeps = record {
  unfoldings = λ old new theta first second n tied h.
      bisimulates_unfolds (form_at new.nodes) (form_at old.nodes) (Apart old theta) (apart_pairs old new theta first second tied) n n (refl, h);
  values = λ old new theta first second n tied h w x i v.
      bisimulated (form_at new.nodes) (form_at old.nodes) (Apart old theta) (apart_pairs old new theta first second tied) w x n n i v (refl, h);
}
