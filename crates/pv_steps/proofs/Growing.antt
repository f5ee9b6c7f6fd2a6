-- What a right node step keeps: the graph stays well made, and what holds of its old nodes still does.
use Rattle.std.specs.Prelude.{◌≡◌, ℕ, ◌<◌, Bool, true, false, List, [], ◌∷◌, length, Some, slice_get, ◌==◌, if◌then◌else◌, refl}
use Rattle.std.proofs.Common.{inl, inr, sym, ap, ◌∙◌, subst, arith}
use Rattle.pv_graph.specs.declared.node.Op.{Op}
use Rattle.pv_graph.specs.declared.node.OpSort.{OpSort}
use Rattle.pv_graph.specs.declared.node.Op.TheVariants as op
use Rattle.pv_graph.specs.Ops.{Shape, plain, choice, theta, eval, pass, shift, root, shape, sort_over, HaveSorts, HasSort}
use Rattle.pv_graph.specs.Forms.{form}
use Rattle.pv_graph.specs.Walks.{In, open_kids, Free, here, below, IsClosed, Spine, token, left, right, count}
use Rattle.pv_graph.specs.Graphs.{Graph, form_at, IsGraph, IsWellMade, Extends}
use Rattle.pv_graph.specs.Nodes.{node_of}
use Rattle.pv_graph.specs.Calls.{Added, appended}
use Rattle.pv_graph.proofs.Cited.{found, kid_within, node_at, form_there, appended_graph, new_added, added_made, added_extends}
use Rattle.pv_steps.specs.Steps.{Step, Axiom, Use, Flip, Chain, Set, Open, Close, Assume, Finish}
use Rattle.pv_steps.specs.Steps as steps
use Rattle.pv_steps.specs.Right.{AddsNode, Grows, GraphAfter}

-- a right node step keeps a sealed graph well made and sealed, and its nodes
pub record Grown (old new : Graph) : Type 0 where
  pub made : IsWellMade new
  pub sealed : new.is_open ≡ false
  pub extends_ : Extends old new

pub extends_self : (g : Graph) → Extends g g
extends_self g = record { nodes = λ n x e. e; sorts = λ n s e. e }

pub extends_trans : (a b c : Graph) → Extends a b → Extends b c → Extends a c
extends_trans a b c p q = record { nodes = λ n x e. q.nodes n x (p.nodes n x e); sorts = λ n s e. q.sorts n s (p.sorts n s e) }

adds_added : (old new : Graph) (n : ℕ) (o : Op) (kids : List ℕ) → IsGraph old → AddsNode old n o kids new → Added old new o kids n
adds_added old new n o kids is h =
    new_added old new (node_of o kids) h.fits.0 n h.absent h.fits.1 h.number (h.grown ∙ ap (λ (p : Bool). appended old (node_of o kids) h.fits.0 p) (sym (ap (λ (g : Graph). g.is_prepared) h.grown)))
    (subst IsGraph (sym h.grown) (appended_graph old (node_of o kids) h.fits.0 is (inl h.fits.1) false h.ranged (λ sealed. h.plain_)))

pub adds_grown : (old new : Graph) (n : ℕ) (o : Op) (kids : List ℕ) → IsWellMade old → old.is_open ≡ false → AddsNode old n o kids new → Grown old new
adds_grown old new n o kids made sealed h =
    let added = adds_added old new n o kids made.graph h in
    record {
      made = added_made old new o kids n made added;
      sealed = ap (λ (g : Graph). g.is_open) h.grown ∙ sealed;
      extends_ = added_extends old new o kids n made.graph added;
    }

grown_self : (old new : Graph) → IsWellMade old → old.is_open ≡ false → new ≡ old → Grown old new
grown_self old new made sealed e = subst (Grown old) (sym e) (record { made = made; sealed = sealed; extends_ = extends_self old })

pub step_grown : (s : Step) (old new : Graph) → IsWellMade old → old.is_open ≡ false → Grows s old new → Grown old new
step_grown (steps.Node n o kids) old new made sealed h = adds_grown old new n o kids made sealed h
step_grown (Axiom n a b nodes) old new made sealed h = grown_self old new made sealed h
step_grown (Use n a b nodes) old new made sealed h = grown_self old new made sealed h
step_grown (Flip a b f) old new made sealed h = grown_self old new made sealed h
step_grown (Chain a b f i) old new made sealed h = grown_self old new made sealed h
step_grown (Set cs) old new made sealed h = grown_self old new made sealed h
step_grown (Open d ps) old new made sealed h = grown_self old new made sealed h
step_grown (Close d fs) old new made sealed h = grown_self old new made sealed h
step_grown (Assume p ns) old new made sealed h = grown_self old new made sealed h
step_grown (Finish p q t f r i) old new made sealed h = grown_self old new made sealed h

pub after_grown : (g : Graph) (steps : List Step) (now : Graph) → IsWellMade g → g.is_open ≡ false → GraphAfter g steps now → Grown g now
after_grown g [] now made sealed h = grown_self g now made sealed h
after_grown g (s ∷ before) now made sealed h =
    let old = after_grown g before h.0 made sealed h.1 in
    let new = step_grown s h.0 now old.made old.sealed h.2 in
    record { made = new.made; sealed = new.sealed; extends_ = extends_trans g h.0 now old.extends_ new.extends_ }

-- ---- steps make one graph at most

sorts_same : (all : List OpSort) (ks : List ℕ) (ss ts : List OpSort) → HaveSorts all ks ss → HaveSorts all ks ts → ss ≡ ts
sorts_same all [] [] [] h i = refl
sorts_same all [] [] (t ∷ ts) h i = absurd i
sorts_same all [] (s ∷ ss) ts h i = absurd h
sorts_same all (k ∷ ks) [] ts h i = absurd h
sorts_same all (k ∷ ks) (s ∷ ss) [] h i = absurd i
sorts_same all (k ∷ ks) (s ∷ ss) (t ∷ ts) h i =
    let e : s ≡ t = (let z = sym h.0 ∙ i.0 in cc) in
    let es : ss ≡ ts = sorts_same all ks ss ts h.1 i.1 in
    cc (e, es)

pub has_sort_same : (all : List OpSort) (o : Op) (ks : List ℕ) (s t : OpSort) → HasSort all o ks s → HasSort all o ks t → s ≡ t
has_sort_same all o ks s t h i =
    let e = sorts_same all ks h.sorts i.sorts h.kids_have i.kids_have in
    let z : Some s ≡ Some t = sym h.over ∙ ap (sort_over o) e ∙ i.over in
    cc z

adds_same : (old new other : Graph) (n : ℕ) (o : Op) (kids : List ℕ) → AddsNode old n o kids new → AddsNode old n o kids other → new ≡ other
adds_same old new other n o kids h i =
    let e = has_sort_same old.sorts o kids h.fits.0 i.fits.0 h.fits.1 i.fits.1 in
    h.grown ∙ ap (λ (s : OpSort). appended old (node_of o kids) s false) e ∙ sym i.grown

step_same : (s : Step) (old new other : Graph) → Grows s old new → Grows s old other → new ≡ other
step_same (steps.Node n o kids) old new other h i = adds_same old new other n o kids h i
step_same (Axiom n a b nodes) old new other h i = h ∙ sym i
step_same (Use n a b nodes) old new other h i = h ∙ sym i
step_same (Flip a b f) old new other h i = h ∙ sym i
step_same (Chain a b f j) old new other h i = h ∙ sym i
step_same (Set cs) old new other h i = h ∙ sym i
step_same (Open d ps) old new other h i = h ∙ sym i
step_same (Close d fs) old new other h i = h ∙ sym i
step_same (Assume p ns) old new other h i = h ∙ sym i
step_same (Finish p q t f r j) old new other h i = h ∙ sym i

pub after_same : (g : Graph) (steps : List Step) (now other : Graph) → GraphAfter g steps now → GraphAfter g steps other → now ≡ other
after_same g [] now other h i = h ∙ sym i
after_same g (s ∷ before) now other h i =
    step_same s h.0 now other h.2 (subst (λ (old : Graph). Grows s old other) (sym (after_same g before h.0 i.0 h.1 i.1)) i.2)

-- ---- what holds of old nodes

pub form_kept : (old new : Graph) → Extends old new → (n : ℕ) (o : Op) (ks : List ℕ) → slice_get old.nodes n ≡ Some (node_of o ks) → form_at new.nodes n ≡ Some (form o ks)
form_kept old new ext n o ks e = form_there new.nodes n (node_of o ks) (ext.nodes n (node_of o ks) e)

pub form_more : (old new : Graph) → Extends old new → (n : ℕ) (o : Op) (ks : List ℕ) → form_at old.nodes n ≡ Some (form o ks) → form_at new.nodes n ≡ Some (form o ks)
form_more old new ext n o ks e =
    let x = node_at old.nodes n o ks e in
    form_there new.nodes n x.0 (ext.nodes n x.0 x.1) ∙ sym (form_there old.nodes n x.0 x.1) ∙ e

-- the form of an old node, from that in the new graph
pub form_back : (old new : Graph) → Extends old new → (n : ℕ) (o : Op) (ks : List ℕ) → n < length old.nodes → form_at new.nodes n ≡ Some (form o ks) → form_at old.nodes n ≡ Some (form o ks)
form_back old new ext n o ks low e =
    let x = found old.nodes n low in
    form_there old.nodes n x.0 x.1 ∙ sym (form_there new.nodes n x.0 (ext.nodes n x.0 x.1)) ∙ e

pub spine_kept : (old new : Graph) → Extends old new → (t n : ℕ) → Spine (form_at old.nodes) t n → Spine (form_at new.nodes) t n
spine_kept old new ext t n (token u) = token u
spine_kept old new ext t n (left u a b m e s) = left u a b m (form_more old new ext u op.Both (a ∷ b ∷ []) e) (spine_kept old new ext a m s)
spine_kept old new ext t n (right u a b m e s) = right u a b m (form_more old new ext u op.Both (a ∷ b ∷ []) e) (spine_kept old new ext b m s)
spine_kept old new ext t n (count u a p o d e s) = count u a p o d (form_more old new ext u o (a ∷ p ∷ []) e) s

pub open_kid : (d : ℕ) (s : Shape) (ks : List ℕ) (k : ℕ) → In (open_kids d s ks) k → In ks k
open_kid d (eval e) [] k m = m
open_kid d (eval e) (a ∷ ks) k m = pick (e == d) m
  where
    pick : (t : Bool) → In (if t then ks else a ∷ ks) k → In (a ∷ ks) k
    pick true z = inr z
    pick false z = z
open_kid d (pass e) ks k m = pick (e == d) m
  where
    pick : (t : Bool) → In (if t then [] else ks) k → In ks k
    pick true z = absurd z
    pick false z = z
open_kid d plain ks k m = m
open_kid d choice ks k m = m
open_kid d (theta e) ks k m = m
open_kid d (shift e) ks k m = m
open_kid d root ks k m = m

pub free_back : (old new : Graph) → IsGraph old → Extends old new → (d n : ℕ) → n < length old.nodes → Free (form_at new.nodes) d n → Free (form_at old.nodes) d n
free_back old new is ext d n low (here m o ks e s) = here m o ks (form_back old new ext m o ks low e) s
free_back old new is ext d n low (below m k o ks e i f) =
    let old_form = form_back old new ext m o ks low e in
    let x = node_at old.nodes m o ks old_form in
    let kid_low = kid_within old is m k x.0 x.1 (subst (λ (zs : List ℕ). In zs k) (sym x.3) (open_kid d (shape o) ks k i)) in
    below m k o ks old_form i (free_back old new is ext d k kid_low f)

pub closed_kept : (old new : Graph) → IsGraph old → Extends old new → (n : ℕ) → n < length old.nodes → IsClosed (form_at old.nodes) n → IsClosed (form_at new.nodes) n
closed_kept old new is ext n low closed d f = closed d (free_back old new is ext d n low f)
