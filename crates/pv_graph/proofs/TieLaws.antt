-- A theta that is tied leaves the unfoldings of the nodes from which it isn't reached.
use Rattle.std.specs.Prelude.{◌≡◌, ◌≢◌, ℕ, ◌<◌, List, [], ◌∷◌, length, Option, Some, slice_get, refl}
use Rattle.std.specs.List.{AllZip}
use Rattle.std.proofs.Common.{inl, inr, sym, ap, ◌∙◌, subst}
use Rattle.pv_graph.specs.declared.node.Op.TheVariants as op
use Rattle.pv_graph.proofs.Elements.{found}
use Rattle.pv_graph.specs.Nodes.{node_of}
use Rattle.pv_graph.specs.Forms.{Form}
use Rattle.pv_graph.specs.Walks.{In, Reaches, itself, along}
use Rattle.pv_graph.specs.Graphs.{Graph, form_of, form_at, IsGraph}
use Rattle.pv_graph.specs.Calls.{Tied}
use Rattle.pv_graph.specs.Laws.{TieKeeps}
use Rattle.pv_graph.proofs.NodeLaws.{form_there, kid_within}
use Rattle.pv_graph.proofs.Bisimulations.{Matched, Bisimulates, bisimulates_unfolds}
use Rattle.pv_graph.proofs.Tying.{set_other}

module _ (old new : Graph) (n first second : ℕ) (is : IsGraph old) (tie : Tied old new n first second) where
  -- one node, from which the theta isn't reached
  abbrev Apart : ℕ → ℕ → Type 0
  Apart a b = (a ≡ b) × (b < length old.nodes) × (Reaches (form_at old.nodes) [] b n → ⊥)

  all_apart : (ks : List ℕ) → ((k : ℕ) → In ks k → Apart k k) → AllZip Apart ks ks
  all_apart [] h = tt
  all_apart (k ∷ ks) h = (h k (inl refl), all_apart ks (λ l m. h l (inr m)))

  pairs : Bisimulates (form_at new.nodes) (form_at old.nodes) Apart
  pairs a b t =
      let node = found old.nodes b t.1 in
      let other : b ≢ n = (λ e. t.2 (subst (λ (m : ℕ). Reaches (form_at old.nodes) [] b m) e (itself b))) in
      let after : slice_get new.nodes b ≡ Some node.0 =
      ap (λ (g : Graph). slice_get g.nodes b) tie.tied ∙ set_other old.nodes n (node_of (op.Theta tie.theta_.0) (first ∷ second ∷ [])) b other ∙ node.1 in
      let now : form_at new.nodes a ≡ Some (form_of node.0) = ap (form_at new.nodes) t.0 ∙ form_there new.nodes b node.0 after in
      let here : form_at old.nodes b ≡ Some (form_of node.0) = form_there old.nodes b node.0 node.1 in
      let kids : AllZip Apart node.0.kids node.0.kids =
      all_apart node.0.kids (λ k m. (refl, kid_within old is b k node.0 node.1 m, (λ r. t.2 (along b k n node.0.op node.0.kids (λ z. z) here m r)))) in
      let paired : Matched Apart (Some (form_of node.0)) (Some (form_of node.0)) = (refl, kids) in
      subst (λ (p : Option (Form ℕ)). Matched Apart p (form_at old.nodes b)) (sym now) (subst (λ (q : Option (Form ℕ)). Matched Apart (Some (form_of node.0)) q) (sym here) paired)

pub tie_keeps : TieKeeps
tie_keeps old new n first second is tie m lt far = bisimulates_unfolds (form_at new.nodes) (form_at old.nodes) (Apart old new n first second is tie) (pairs old new n first second is tie) m m (refl, lt, far)
