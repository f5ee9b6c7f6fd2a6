-- What is joined of the nodes of a list is what is joined of the nodes of a graph.
use Rattle.std.proofs.Common.{◌≡◌, ℕ, List, [], ◌∷◌, map, Some, slice_index_or, inl, inr, refl, sym, ap, ◌∙◌, subst}
use Rattle.std.proofs.lemmas.Option.{same_Some, slice_get_within, slice_get-get_or}
use Rattle.pv_graph.specs.declared.node.Op.{Op}
use Rattle.pv_graph.specs.declared.node.Op.TheVariants as op
use Rattle.pv_graph.specs.Forms.{form}
use Rattle.pv_graph.specs.Ops.{shape}
use Rattle.pv_graph.specs.Nodes.{node_of}
use Rattle.pv_graph.specs.Graphs.{Graph, form_at}
use Rattle.pv_graph.proofs.Cited.{form_there, node_at}
use Rattle.pv_steps.specs.Right.{looks_at}
use Rattle.pv_classes.specs.Closest.{Is}
use Rattle.pv_induct.specs.Joined.{Open, LooksAside, IsPair}
use Rattle.pv_induct.specs.Joined as list
use Rattle.pv_induct.specs.Inducts as inducts
use Rattle.pv_heights.specs.Systems.{Hypothesis, IsFixed, AreThetas, Joined, given, same, flip, chain, kids, outer, assumed, induction}
use Rattle.pv_heights.specs.Searches.{nodes, IsNode, OneClass}

-- an open induction as a hypothesis, and a hypothesis as an open induction
abbrev pub hypothesis_of : Open → Hypothesis ℕ
hypothesis_of o = record { depth = o.depth; pairs = o.pairs }

abbrev pub open_of : Hypothesis ℕ → Open
open_of b = record { depth = b.depth; pairs = b.pairs }

-- ---- depths

fixed_there : (fixed : List ℕ) (os : List Open) (d : ℕ) → list.IsFixed fixed os d → IsFixed fixed (map hypothesis_of os) d
fixed_there fixed [] d f = f
fixed_there fixed (o ∷ os) d (inl e) = inl e
fixed_there fixed (o ∷ os) d (inr f) = inr (fixed_there fixed os d f)

fixed_back : (fixed : List ℕ) (os : List Open) (d : ℕ) → IsFixed fixed (map hypothesis_of os) d → list.IsFixed fixed os d
fixed_back fixed [] d f = f
fixed_back fixed (o ∷ os) d (inl e) = inl e
fixed_back fixed (o ∷ os) d (inr f) = inr (fixed_back fixed os d f)

fixed_under : (fixed : List ℕ) (bs : List (Hypothesis ℕ)) (d : ℕ) → list.IsFixed fixed (map open_of bs) d → IsFixed fixed bs d
fixed_under fixed [] d f = f
fixed_under fixed (b ∷ bs) d (inl e) = inl e
fixed_under fixed (b ∷ bs) d (inr f) = inr (fixed_under fixed bs d f)

-- the depth at which an operation looks is none of these
looks_none : (P : ℕ → Type 0) (o : Op) → LooksAside P o → (d : ℕ) → looks_at (shape o) ≡ Some d → P d → ⊥
looks_none P (op.Theta e) l d q p = l (subst P (sym (same_Some e d q)) p)
looks_none P (op.Eval e) l d q p = l (subst P (sym (same_Some e d q)) p)
looks_none P (op.Pass e) l d q p = l (subst P (sym (same_Some e d q)) p)
looks_none P (op.Shift e) l d q p = l (subst P (sym (same_Some e d q)) p)
looks_none P o l d q p = absurd (cc)

looks_aside : (P : ℕ → Type 0) (o : Op) → ((d : ℕ) → looks_at (shape o) ≡ Some d → P d → ⊥) → LooksAside P o
looks_aside P (op.Theta e) l = l e refl
looks_aside P (op.Eval e) l = l e refl
looks_aside P (op.Pass e) l = l e refl
looks_aside P (op.Shift e) l = l e refl
looks_aside P o l = tt

module _ (h : Graph) where
  -- ---- operations and kids

  is_form : (n : ℕ) (o : Op) (ks : List ℕ) → Is h.nodes n o ks → form_at h.nodes n ≡ Some (form o ks)
  is_form n o ks e = form_there h.nodes n (node_of o ks) e

  form_is : (n : ℕ) (o : Op) (ks : List ℕ) → form_at h.nodes n ≡ Some (form o ks) → Is h.nodes n o ks
  form_is n o ks e = let r = node_at h.nodes n o ks e in r.1 ∙ (ap (λ q. Some (node_of q r.0.kids)) r.2 ∙ ap (λ ls. Some (node_of o ls)) r.3)

  node_in : (n : ℕ) (o : Op) (ks : List ℕ) → Is h.nodes n o ks → IsNode h n
  node_in n o ks e = slice_get_within h.nodes n (node_of o ks) e

  pair_there : (d u v : ℕ) → IsPair h.nodes d u v → AreThetas (nodes h) (IsNode h) d u v
  pair_there d u v (p, q, r, s, left, right) = record {
    p = p;
    q = q;
    r = r;
    s = s;
    is_left = node_in u (op.Theta d) (p ∷ q ∷ []) left;
    is_right = node_in v (op.Theta d) (r ∷ s ∷ []) right;
    left = is_form u (op.Theta d) (p ∷ q ∷ []) left;
    right = is_form v (op.Theta d) (r ∷ s ∷ []) right;
  }

  pair_back : (d u v : ℕ) → AreThetas (nodes h) (IsNode h) d u v → IsPair h.nodes d u v
  pair_back d u v t = (t.p, t.q, t.r, t.s, form_is u (op.Theta d) (t.p ∷ t.q ∷ []) t.left, form_is v (op.Theta d) (t.r ∷ t.s ∷ []) t.right)

  -- ---- what is joined, inside open inductions

  module _ (fixed : List ℕ) (K L : ℕ → ℕ → Type 0) (give : (a b : ℕ) → K a b → L a b) where
    pub joined_there : (os : List Open) (a b : ℕ) → list.Joined h.nodes fixed K os a b → Joined (nodes h) (IsNode h) fixed L (map hypothesis_of os) a b
    joined_there os a b (list.given _ x y k) = given _ x y (give x y k)
    joined_there os a b (list.same _ x l) = same _ x l
    joined_there os a b (list.flip _ x y j) = flip _ x y (joined_there os y x j)
    joined_there os a b (list.chain _ x y z j k) = chain _ x y z (joined_there os x y j) (joined_there os y z k)
    joined_there os a b (list.kids _ x y o ks ls p q l n r) =
        kids _ x y o ks ls (node_in x o ks p) (node_in y o ls q) (is_form x o ks p) (is_form y o ls q)
        (λ d e f. looks_none (list.IsFixed fixed os) o l d e (fixed_back fixed os d f)) n (λ j k m e f. joined_there os k m (r j k m e f))
    joined_there os a b (list.outer o ps x y j) = outer (hypothesis_of o) (map hypothesis_of ps) x y (joined_there ps x y j)
    joined_there os a b (list.assumed o ps x y m) = assumed (hypothesis_of o) (map hypothesis_of ps) x y m
    joined_there os a b (list.induction o ps above pairs first second x y m) =
        induction (hypothesis_of o) (map hypothesis_of ps) (λ d f. above d (fixed_back fixed ps d f))
        (λ u v i. pair_there o.depth u v (pairs u v i))
        (λ u v p q r s i e f. joined_there ps p r (first u v p q r s i (form_is u (op.Theta o.depth) (p ∷ q ∷ []) e) (form_is v (op.Theta o.depth) (r ∷ s ∷ []) f)))
        (λ u v p q r s i e f. joined_there (o ∷ ps) q s (second u v p q r s i (form_is u (op.Theta o.depth) (p ∷ q ∷ []) e) (form_is v (op.Theta o.depth) (r ∷ s ∷ []) f)))
        x y m

    pub joined_back : (bs : List (Hypothesis ℕ)) (a b : ℕ) → Joined (nodes h) (IsNode h) fixed K bs a b → list.Joined h.nodes fixed L (map open_of bs) a b
    joined_back bs a b (given _ x y k) = list.given _ x y (give x y k)
    joined_back bs a b (same _ x l) = list.same _ x l
    joined_back bs a b (flip _ x y j) = list.flip _ x y (joined_back bs y x j)
    joined_back bs a b (chain _ x y z j k) = list.chain _ x y z (joined_back bs x y j) (joined_back bs y z k)
    joined_back bs a b (kids _ x y o ks ls u v p q l n r) =
        list.kids _ x y o ks ls (form_is x o ks p) (form_is y o ls q)
        (looks_aside (list.IsFixed fixed (map open_of bs)) o (λ d e f. l d e (fixed_under fixed bs d f))) n (λ j k m e f. joined_back bs k m (r j k m e f))
    joined_back bs a b (outer o ps x y j) = list.outer (open_of o) (map open_of ps) x y (joined_back ps x y j)
    joined_back bs a b (assumed o ps x y m) = list.assumed (open_of o) (map open_of ps) x y m
    joined_back bs a b (induction o ps above thetas first second x y m) =
        list.induction (open_of o) (map open_of ps) (λ d f. above d (fixed_under fixed ps d f))
        (λ u v i. pair_back o.depth u v (thetas u v i))
        (λ u v p q r s i e f. joined_back ps p r (first u v p q r s i (is_form u (op.Theta o.depth) (p ∷ q ∷ []) e) (is_form v (op.Theta o.depth) (r ∷ s ∷ []) f)))
        (λ u v p q r s i e f. joined_back (o ∷ ps) q s (second u v p q r s i (is_form u (op.Theta o.depth) (p ∷ q ∷ []) e) (is_form v (op.Theta o.depth) (r ∷ s ∷ []) f)))
        x y m

-- ---- class numbers

pub one_there : (numbers : List ℕ) (a b : ℕ) → inducts.OneClass numbers a b → OneClass numbers a b
one_there numbers a b o = (slice_index_or numbers a 0, slice_get-get_or numbers a 0 o.0, slice_get-get_or numbers b 0 o.1 ∙ ap Some (sym o.2))

pub one_back : (numbers : List ℕ) (a b : ℕ) → OneClass numbers a b → inducts.OneClass numbers a b
one_back numbers a b o =
    let l = slice_get_within numbers a o.0 o.1 in
    let m = slice_get_within numbers b o.0 o.2 in
    (l, m, same_Some _ _ (sym (slice_get-get_or numbers a 0 l) ∙ (o.1 ∙ (sym o.2 ∙ slice_get-get_or numbers b 0 m))))
