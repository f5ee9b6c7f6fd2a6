-- What holds of a class by its number holds of the class of each of its nodes.
use Rattle.std.proofs.Common.{◌≡◌, ℕ, suc, ◌<◌, Bool, true, false, List, [], ◌∷◌, map, Some, None, slice_get, inr, refl, sym, ap, ◌∙◌, subst, arith, nat_le, ◌==◌, if◌then◌else◌}
use Rattle.std.specs.List.{AllZip}
use Rattle.pv_graph.specs.declared.node.Op.{Op}
use Rattle.pv_graph.specs.declared.node.Op.TheVariants as op
use Rattle.pv_graph.specs.declared.node.Node.{Node}
use Rattle.pv_graph.specs.Forms.{Form, form}
use Rattle.pv_graph.specs.Ops.{Shape, plain, choice, theta, eval, pass, shift, root, shape}
use Rattle.pv_graph.specs.Walks.{In, Free, here, below, Reaches, itself, along, IsSettled, open_kids}
use Rattle.pv_graph.specs.Graphs.{Graph, form_of, form_at, IsGraph}
use Rattle.pv_marks.specs.Classes.{class_of, HasForm, Trait, settled, unfree, Passes, counted}
use Rattle.pv_marks.specs.Classes as marks
use Rattle.pv_heights.specs.Conditions.{ClassNode, Settled, NotFree}
use Rattle.pv_heights.specs.Searches.{nodes, IsNode, OneClass, base_view}
use Rattle.pv_value.specs.Spelled.{bind}
use Rattle.pv_heights.proofs.Cited.{form_once, node_is_base, form_some, zip_open, zip_left, zip_right, In-slice_get, place_of}
use Rattle.pv_match.specs.Agreeing.{AreLeast}
use Rattle.pv_match.proofs.Numbered.{all_at, In-map, one, same_class, kids_are, form_has, has_form}

in_cond : (b : Bool) (xs ys : List ℕ) (k : ℕ) → (In xs k → In ys k) → In (if b then xs else ys) k → In ys k
in_cond true xs ys k f i = f i
in_cond false xs ys k f i = i

open_in : (d : ℕ) (s : Shape) (ks : List ℕ) (k : ℕ) → In (open_kids d s ks) k → In ks k
open_in d (eval e) [] k i = i
open_in d (eval e) (l ∷ ks) k i = in_cond (e == d) ks (l ∷ ks) k (λ j. inr j) i
open_in d (pass e) ks k i = in_cond (e == d) [] ks k (λ j. absurd j) i
open_in d plain ks k i = i
open_in d choice ks k i = i
open_in d (theta e) ks k i = i
open_in d (shift e) ks k i = i
open_in d root ks k i = i

-- ---- the base

module _ (g : Graph) (ig : IsGraph g) where
  base_same : (n : ℕ) → n < g.base → base_view g n ≡ form_at g.nodes n
  base_same n l = ap (λ b. if b then form_at g.nodes n else None) (test l)
    where
      test : n < g.base → nat_le (suc n) g.base ≡ true
      test l = grind (arith, l)

  base_low : (n : ℕ) (f : Form ℕ) → base_view g n ≡ Some f → n < g.base
  base_low n f e = go (nat_le (suc n) g.base) refl e
    where
      go : (b : Bool) → nat_le (suc n) g.base ≡ b → (if b then form_at g.nodes n else None) ≡ Some f → n < g.base
      go true p q = grind (arith, p)
      go false p q = absurd (cc)

  base_up : (n : ℕ) (f : Form ℕ) → base_view g n ≡ Some f → form_at g.nodes n ≡ Some f
  base_up n f e = sym (base_same n (base_low n f e)) ∙ e

  kid_low : (n k : ℕ) (o : Op) (ks : List ℕ) → n < g.base → form_at g.nodes n ≡ Some (form o ks) → In ks k → k < g.base
  kid_low n k o ks l e i =
      let s = form_some (slice_get g.nodes n) o ks e in
      ig.early n k s.0 s.1 l (subst (λ ls. In ls k) (sym (kids_of s.0 s.1)) i)
    where
      kids_of : (node : Node) → slice_get g.nodes n ≡ Some node → node.kids ≡ ks
      kids_of node d = (form_once (form_at g.nodes n) node.op o node.kids ks (ap (λ f. bind f (λ m. Some (form_of m))) d) e).1

  reaches_up : (assumed : List ℕ) (n m : ℕ) → Reaches (base_view g) assumed n m → Reaches (form_at g.nodes) assumed n m
  reaches_up assumed n m (itself _) = itself n
  reaches_up assumed n m (along _ k _ o ks a e i r) = along n k m o ks a (base_up n (form o ks) e) i (reaches_up assumed k m r)

  reaches_down : (assumed : List ℕ) (n m : ℕ) → n < g.base → Reaches (form_at g.nodes) assumed n m → Reaches (base_view g) assumed n m × (m < g.base)
  reaches_down assumed n m l (itself _) = (itself n, l)
  reaches_down assumed n m l (along _ k _ o ks a e i r) =
      let d = reaches_down assumed k m (kid_low n k o ks l e i) r in (along n k m o ks a (base_same n l ∙ e) i d.0, d.1)

  settled_base : (assumed : List ℕ) (n : ℕ) → IsSettled (form_at g.nodes) assumed n → IsSettled (base_view g) assumed n
  settled_base assumed n s m o ks r a e = s m o ks (reaches_up assumed n m r) a (base_up m (form o ks) e)

  settled_graph : (assumed : List ℕ) (n : ℕ) → n < g.base → IsSettled (base_view g) assumed n → IsSettled (form_at g.nodes) assumed n
  settled_graph assumed n l s m o ks r a e = let d = reaches_down assumed n m l r in s m o ks d.0 a (base_same m d.1 ∙ e)

  free_up : (d n : ℕ) → Free (base_view g) d n → Free (form_at g.nodes) d n
  free_up d n (here _ o ks e s) = here n o ks (base_up n (form o ks) e) s
  free_up d n (below _ k o ks e i f) = below n k o ks (base_up n (form o ks) e) i (free_up d k f)

  free_down : (d n : ℕ) → n < g.base → Free (form_at g.nodes) d n → Free (base_view g) d n
  free_down d n l (here _ o ks e s) = here n o ks (base_same n l ∙ e) s
  free_down d n l (below _ k o ks e i f) = below n k o ks (base_same n l ∙ e) i (free_down d k (kid_low n k o ks l e (open_in d (shape o) ks k i)) f)

theta_of : (o : Op) (d : ℕ) → shape o ≡ theta d → o ≡ op.Theta d
theta_of (op.Theta e) d s = ap op.Theta (same e d s)
  where
    same : (e d : ℕ) → theta e ≡ theta d → e ≡ d
    same e d s = cc
theta_of o d s = absurd (cc)

-- ---- classes

module _ (g : Graph) (numbers assumed : List ℕ) (a : AreLeast g numbers) where
  abbrev J : ℕ → ℕ → Type 0
  J = OneClass numbers

  abbrev Numbered : ℕ → ℕ → Type 0
  Numbered k c = class_of numbers k ≡ c

  numbered : (ks : List ℕ) → AllZip Numbered ks (map (class_of numbers) ks)
  numbered [] = tt
  numbered (k ∷ ks) = (refl, numbered ks)

  class_node : (n t : ℕ) → n < g.base → IsNode g t → class_of numbers n ≡ class_of numbers t → ClassNode (base_view g) (nodes g) J t n
  class_node n t l k e =
      let within : IsNode g n = let b = a.graph.base in omega (arith, b, l) in
      let f = node_is_base g n within in
      record { o = f.0; ks = f.1; is = base_same g a.graph n l ∙ f.2; joins = one g numbers a n t within k e }

  pub settled_there : (c : ℕ) → marks.ClassHas g numbers assumed settled c → (t : ℕ) → IsNode g t → class_of numbers t ≡ c → Settled (base_view g) assumed (nodes g) (IsNode g) J t
  settled_there c (marks.by_node _ n l e s) t k d = Settled.by_node n t (class_node n t l k (e ∙ sym d)) (settled_base g a.graph assumed n s)
  settled_there c (marks.by_kids _ o cs h p r) t k d =
      let f = form_has g numbers a c o cs h t k d in
      let ns = kids_are g numbers a t o f.0 f.1 in
      Settled.by_kids t o f.0 f.1 p
      (λ j i e. let z = zip_left Numbered f.0 (map (class_of numbers) f.0) (numbered f.0) j i e in
      settled_there z.0 (r z.0 (subst (λ xs. In xs z.0) f.2 (In-slice_get (map (class_of numbers) f.0) j z.0 z.1))) i (all_at (IsNode g) f.0 ns j i e) z.2)

  pub settled_back : (t : ℕ) → Settled (base_view g) assumed (nodes g) (IsNode g) J t → marks.ClassHas g numbers assumed settled (class_of numbers t)
  settled_back t (Settled.by_node n _ c s) =
      let l = base_low g a.graph n (form c.o c.ks) c.is in
      marks.by_node (class_of numbers t) n l (same_class g numbers a n t c.joins) (settled_graph g a.graph assumed n l s)
  settled_back t (Settled.by_kids _ o ks c m r) =
      marks.by_kids (class_of numbers t) o (map (class_of numbers) ks) (has_form g numbers a t o ks c) m
      (λ k i. let x = In-map (class_of numbers) ks k i in let p = place_of ks x.0 x.1 in
      subst (λ v. marks.ClassHas g numbers assumed settled v) x.2 (settled_back x.0 (r p.0 x.0 p.1)))

  pub unfree_there : (d c : ℕ) → marks.ClassHas g numbers assumed (unfree d) c → (t : ℕ) → IsNode g t → class_of numbers t ≡ c → NotFree (base_view g) d (nodes g) (IsNode g) J t
  unfree_there d c (marks.by_node _ n l e s) t k q = NotFree.by_node n t (class_node n t l k (e ∙ sym q)) (λ f. s (free_up g a.graph d n f))
  unfree_there d c (marks.by_kids _ o cs h p r) t k q =
      let f = form_has g numbers a c o cs h t k q in
      let ns = kids_are g numbers a t o f.0 f.1 in
      NotFree.by_kids t o f.0 f.1 (λ e. p (ap shape e))
      (λ j i e.
      let z = zip_left Numbered (open_kids d (shape o) f.0) (open_kids d (shape o) (map (class_of numbers) f.0)) (zip_open Numbered d (shape o) f.0 (map (class_of numbers) f.0) (numbered f.0)) j i e in
      let p = place_of f.0 i (open_in d (shape o) f.0 i (In-slice_get (open_kids d (shape o) f.0) j i e)) in
      unfree_there d z.0 (r z.0 (subst (λ xs. In (open_kids d (shape o) xs) z.0) f.2 (In-slice_get (open_kids d (shape o) (map (class_of numbers) f.0)) j z.0 z.1)))
      i (all_at (IsNode g) f.0 ns p.0 i p.1) z.2)

  pub unfree_back : (d t : ℕ) → NotFree (base_view g) d (nodes g) (IsNode g) J t → marks.ClassHas g numbers assumed (unfree d) (class_of numbers t)
  unfree_back d t (NotFree.by_node n _ c s) =
      let l = base_low g a.graph n (form c.o c.ks) c.is in
      marks.by_node (class_of numbers t) n l (same_class g numbers a n t c.joins) (λ f. s (free_down g a.graph d n l f))
  unfree_back d t (NotFree.by_kids _ o ks c m r) =
      marks.by_kids (class_of numbers t) o (map (class_of numbers) ks) (has_form g numbers a t o ks c) (λ e. m (theta_of o d e))
      (λ k i.
      let p = place_of (open_kids d (shape o) (map (class_of numbers) ks)) k i in
      let z = zip_right Numbered (open_kids d (shape o) ks) (open_kids d (shape o) (map (class_of numbers) ks)) (zip_open Numbered d (shape o) ks (map (class_of numbers) ks) (numbered ks)) p.0 k p.1 in
      subst (λ v. marks.ClassHas g numbers assumed (unfree d) v) z.2 (unfree_back d z.0 (r p.0 z.0 z.1)))
