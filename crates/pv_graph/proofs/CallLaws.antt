-- What the calls of a graph keep.
use Rattle.std.specs.Prelude.{◌≡◌, ◌⊎◌, ℕ, zero, suc, ◌<◌, List, [], ◌∷◌, ◌++◌, length, Some, slice_get, refl}
use Rattle.std.proofs.Common.{inl, inr, sym, ap, ◌∙◌, subst, arith, lit≤}
use Rattle.std.proofs.lemmas.Option.{slice_get_within, same_Some}
use Rattle.pv_graph.specs.declared.node.Op.{Op}
use Rattle.pv_graph.specs.declared.node.Op.TheVariants as op
use Rattle.pv_graph.specs.Ops.{HaveSorts}
use Rattle.pv_graph.specs.declared.node.OpSort.{OpSort}
use Rattle.pv_graph.specs.declared.node.Node.{Node}
use Rattle.pv_graph.proofs.Elements.{get_front, push_cases, found}
use Rattle.pv_graph.specs.Walks.{In, Move, Edge, Walk, stop, step, KeepsRule}
use Rattle.pv_graph.specs.Graphs.{Graph, form_of, form_at, IsGraph, IsWellMade, Extends}
use Rattle.pv_graph.specs.Nodes.{node_of}
use Rattle.pv_graph.specs.Calls.{IsSame, empty_graph, appended, Added, Begun, Sealed}
use Rattle.pv_graph.proofs.NodeLaws.{node_at, form_there, kid_within}

in_place : {A : Type 0} → (ks : List A) (p : ℕ) (k : A) → slice_get ks p ≡ Some k → In ks k
in_place [] p k e = absurd (let z = e in cc)
in_place (l ∷ ks) zero k e = inl (same_Some l k e)
in_place (l ∷ ks) (suc p) k e = inr (in_place ks p k e)

-- the empty graph
nothing_there : {A : Type 0} (X : Type 0) (n : ℕ) (x : A) → slice_get [] n ≡ Some x → X
nothing_there X n x e = absurd (let z = e in cc)

pub empty_made : IsWellMade empty_graph
empty_made = record {
  graph = record {
    long = refl;
    base = lit≤ tt;
    open_ = λ e. refl;
    sorted = λ n node s e f. nothing_there _ n node e;
    early = λ n k node e l m. nothing_there _ n node e;
    late = λ n k node e l m. nothing_there _ n node e;
    ranged = λ n node e. nothing_there _ n node e;
    variables = λ n node e high. nothing_there _ n node e;
  };
  rule = λ n m ms w. no_walk n m ms n w;
}
  where
    no_walk : {X : Type 0} (n : ℕ) (m : Move) (ms : List Move) (o : ℕ) → Walk (form_at []) n (m ∷ ms) o → X
    no_walk n m ms o (step q k r m' ps e w) = let x = node_at [] q e.o e.ks e.is in absurd (let z = x.1 in cc)

-- ---- one node more, over kids that are there

module _ (old : List Node) (node : Node) (low : (n k : ℕ) (x : Node) → slice_get old n ≡ Some x → In x.kids k → k < length old) (kids : (k : ℕ) → In node.kids k → k < length old) where
  abbrev new : List Node
  new = old ++ node ∷ []

  -- each kid is an old node
  kid_low : (n k : ℕ) (m : Move) → Edge (form_at new) n m k → k < length old
  kid_low n k m e =
      let x = node_at new n e.o e.ks e.is in
      let at : In x.0.kids k = subst (λ (zs : List ℕ). In zs k) (sym x.3) (in_place e.ks e.place k e.there) in
      elim (push_cases old node x.0 n x.1) [
        | inl there ↦ low n k x.0 there at
        | inr last ↦ kids k (subst (λ (y : Node). In y.kids k) (sym last.1) at)
      ]

  -- a step from an old node is an old one
  edge_old : (n k : ℕ) (m : Move) → n < length old → Edge (form_at new) n m k → Edge (form_at old) n m k
  edge_old n k m lt e =
      let x = found old n lt in
      let here : form_at old n ≡ Some (form_of x.0) = form_there old n x.0 x.1 in
      let after : form_at new n ≡ Some (form_of x.0) = form_there new n x.0 (get_front old node n lt ∙ x.1) in
      record { o = e.o; ks = e.ks; place = e.place; is = here ∙ sym after ∙ e.is; there = e.there; moves = e.moves }

  walk_old : (n : ℕ) (ms : List Move) (o : ℕ) → n < length old → Walk (form_at new) n ms o → Walk (form_at old) n ms o
  walk_old n ms o lt (stop q) = stop q
  walk_old n ms o lt (step q k r m ps e w) = step q k r m ps (edge_old q k m lt e) (walk_old k ps r (kid_low q k m e) w)

  walk_end : (n : ℕ) (m : Move) (ms : List Move) (o : ℕ) → Walk (form_at new) n (m ∷ ms) o → o < length old
  walk_end n m ms o (step q k r m' [] e (stop z)) = kid_low q k m' e
  walk_end n m ms o (step q k r m' (p ∷ ps) e w) = walk_end k p ps r w

  -- no new cycle
  pub push_keeps_rule : KeepsRule (form_at old) → KeepsRule (form_at new)
  push_keeps_rule rule n m ms w = rule n m ms (walk_old n (m ∷ ms) n (walk_end n m ms n w) w)

-- the rule, where a node was appended
appended_rule : (old after : Graph) (node : Node) (s : OpSort) → IsGraph old → ((k : ℕ) → In node.kids k → k < length old.nodes) → after ≡ appended old node s after.is_prepared → KeepsRule (form_at old.nodes) → KeepsRule (form_at after.nodes)
appended_rule old after node s is kids e rule =
    subst (λ (xs : List Node). KeepsRule (form_at xs)) (sym (ap (λ (g : Graph). g.nodes) e)) (push_keeps_rule old.nodes node (λ n k x at m. kid_within old is n k x at m) kids rule)

-- kids that have sorts are nodes
pub sorted_low : (g : Graph) → IsGraph g → (ks : List ℕ) (ss : List OpSort) → HaveSorts g.sorts ks ss → (k : ℕ) → In ks k → k < length g.nodes
sorted_low g is [] [] h k m = absurd m
sorted_low g is [] (s ∷ ss) h k m = absurd h
sorted_low g is (l ∷ ks) [] h k m = absurd h
sorted_low g is (l ∷ ks) (s ∷ ss) h k (inl e) =
    let low : l < length g.nodes = (let z = slice_get_within g.sorts l s h.0 in let y = is.long in omega arith) in
    subst (λ (n : ℕ). n < length g.nodes) e low
sorted_low g is (l ∷ ks) (s ∷ ss) h k (inr m) = sorted_low g is ks ss h.1 k m

-- add keeps a graph well made, and its nodes
pub added_made : (old after : Graph) (o : Op) (kids : List ℕ) (n : ℕ) → IsWellMade old → Added old after o kids n → IsWellMade after
added_made old after o kids n made h = record { graph = h.graph; rule = rule h.grows }
  where
    rule : IsSame old after ⊎ (((m : ℕ) → slice_get old.nodes m ≡ Some (node_of o kids) → ⊥) × (after ≡ appended old (node_of o kids) h.fits.0 after.is_prepared)) → KeepsRule (form_at after.nodes)
    rule (inl same) = subst (λ (xs : List Node). KeepsRule (form_at xs)) (sym (ap (λ (g : Graph). g.nodes) same)) made.rule
    rule (inr more) = appended_rule old after (node_of o kids) h.fits.0 made.graph (λ k m. sorted_low old made.graph kids h.fits.1.sorts h.fits.1.kids_have k m) more.1 made.rule

pub begun_made : (old after : Graph) (d : ℕ) (s : OpSort) (n : ℕ) → IsWellMade old → Begun old after d s n → IsWellMade after
begun_made old after d s n made h = record { graph = h.graph; rule = appended_rule old after (node_of (op.Theta d) []) s made.graph (λ k m. absurd m) h.grows made.rule }

pub sealed_made : (old after : Graph) → IsWellMade old → Sealed old after → IsWellMade after
sealed_made old after made h = record { graph = h.graph; rule = subst (λ (xs : List Node). KeepsRule (form_at xs)) (sym (ap (λ (g : Graph). g.nodes) h.sealed)) made.rule }

appended_extends : (old after : Graph) (node : Node) (s : OpSort) → IsGraph old → after ≡ appended old node s after.is_prepared → Extends old after
appended_extends old after node s is e = record {
  nodes = λ n x at. ap (λ (g : Graph). slice_get g.nodes n) e ∙ get_front old.nodes node n (slice_get_within old.nodes n x at) ∙ at;
  sorts = λ n t at. ap (λ (g : Graph). slice_get g.sorts n) e ∙ get_front old.sorts s n (slice_get_within old.sorts n t at) ∙ at;
}

pub added_extends : (old after : Graph) (o : Op) (kids : List ℕ) (n : ℕ) → IsGraph old → Added old after o kids n → Extends old after
added_extends old after o kids n is h = by h.grows
  where
    by : IsSame old after ⊎ (((m : ℕ) → slice_get old.nodes m ≡ Some (node_of o kids) → ⊥) × (after ≡ appended old (node_of o kids) h.fits.0 after.is_prepared)) → Extends old after
    by (inl same) = record { nodes = λ m x at. ap (λ (g : Graph). slice_get g.nodes m) same ∙ at; sorts = λ m t at. ap (λ (g : Graph). slice_get g.sorts m) same ∙ at }
    by (inr more) = appended_extends old after (node_of o kids) h.fits.0 is more.1

pub begun_extends : (old after : Graph) (d : ℕ) (s : OpSort) (n : ℕ) → IsGraph old → Begun old after d s n → Extends old after
begun_extends old after d s n is h = appended_extends old after (node_of (op.Theta d) []) s is h.grows
