-- A root whose token is a unit waits for no node.
use Rattle.std.proofs.Common.{◌≡◌, ℕ, List, [], ◌∷◌, Option, Some, refl, sym, ap, subst, ◌∙◌}
use Rattle.std.specs.Prelude.{slice_get}
use Rattle.std.proofs.lemmas.Option.{same_Some}
use Rattle.pv_value.specs.Spelled.{bind}
use Rattle.pv_graph.specs.declared.node.Node.{Node}
use Rattle.pv_graph.specs.declared.node.Op.{Op}
use Rattle.pv_graph.specs.declared.node.Op.TheVariants as op
use Rattle.pv_graph.specs.Forms.{Form, form}
use Rattle.pv_graph.specs.Graphs.{Graph, form_at, form_of}
use Rattle.pv_graph.specs.Ops.{eval, shape}
use Rattle.pv_graph.specs.Walks.{Spine, token, left, right, count}
use Rattle.pv_steps.specs.Right.{IsPassOrCallEnd}
use Rattle.pv_endings.specs.Endings.{AreEndingsOf, IsEnding}
use Rattle.pv_report.specs.Waiting.{IsOverUnit}

-- the spine of a unit ends where it begins
spine_ends : (nodes : List Node) (t n : ℕ) (ks : List ℕ) → form_at nodes t ≡ Some (form op.Unit ks) → Spine (form_at nodes) t n → n ≡ t
spine_ends nodes t n ks at (token s) = refl
spine_ends nodes t n ks at (left s a b m e more) = absurd (let both : ◌≡◌ {A = Option (Form ℕ)} (Some (form op.Unit ks)) (Some (form op.Both (a ∷ b ∷ []))) = sym at ∙ e in cc both)
spine_ends nodes t n ks at (right s a b m e more) = absurd (let both : ◌≡◌ {A = Option (Form ℕ)} (Some (form op.Unit ks)) (Some (form op.Both (a ∷ b ∷ []))) = sym at ∙ e in cc both)
spine_ends nodes t n ks at (count s a p o d e is) =
    let both : ◌≡◌ {A = Option (Form ℕ)} (Some (form op.Unit ks)) (Some (form o (a ∷ p ∷ []))) = sym at ∙ e in
    let same : op.Unit ≡ o = cc both in
    let none : shape op.Unit ≡ eval d = ap shape same ∙ is in
    absurd (cc none)

no_ending : (g : Graph) (p n : ℕ) → IsOverUnit g p → IsEnding g p n → ⊥
no_ending g p n over (root, waits) =
    let kids : root.token ∷ root.fault_ ∷ root.result ∷ root.heap ∷ [] ≡ over.parts.token ∷ over.parts.fault ∷ over.parts.result ∷ over.parts.heap ∷ [] = ap (λ (x : Node). x.kids) (same_Some _ _ (sym root.is ∙ over.over)) in
    let token : root.token ≡ over.parts.token = cc kids in
    let at : form_at g.nodes over.parts.token ≡ Some (form op.Unit over.node.kids) =
    ap (λ (o : Option Node). bind o (λ node. Some (form_of node))) over.there ∙ ap (λ (o : Op). Some (form o over.node.kids)) over.unit_ in
    let here : n ≡ over.parts.token = spine_ends g.nodes over.parts.token n over.node.kids at (subst (λ (t : ℕ). Spine (form_at g.nodes) t n) token waits.spine) in
    let same : waits.o ≡ over.node.op = ap (λ (x : Node). x.op) (same_Some _ _ (sym waits.is ∙ ap (slice_get g.nodes) here ∙ over.there)) in
    subst IsPassOrCallEnd (same ∙ over.unit_) waits.waits

pub none_over_unit : (g : Graph) (p : ℕ) → IsOverUnit g p → AreEndingsOf g p []
none_over_unit g p over = record {
  are = λ n. (λ i. absurd i, λ is. absurd (no_ending g p n over is));
  ordered = λ i j m n lt at there. absurd (cc at);
}
