-- The graph of the variables of a lemma is well made, and so is each graph that its steps make of it.
use Rattle.std.specs.Prelude.{◌≡◌, ℕ, zero, suc, ◌+◌, ◌<◌, Bool, true, false, List, [], ◌∷◌, length, map, Some, slice_get, refl}
use Rattle.std.proofs.Common.{inl, inr, sym, ap, ◌∙◌, subst, arith}
use Rattle.std.proofs.lemmas.List.{length-map}
use Rattle.std.proofs.lemmas.Option.{slice_get_within, same_Some}
use Rattle.pv_graph.specs.declared.node.Op.TheVariants as op
use Rattle.pv_graph.specs.declared.node.OpSort.{OpSort}
use Rattle.pv_graph.specs.declared.node.Node.{Node}
use Rattle.pv_graph.specs.Ops.{HasSort}
use Rattle.pv_graph.specs.Walks.{In, Walk, step, Move}
use Rattle.pv_graph.specs.Nodes.{node_of}
use Rattle.pv_graph.specs.Graphs.{Graph, form_at, IsRanged, IsWellMade}
use Rattle.pv_graph.proofs.Cited.{node_at}
use Rattle.pv_steps.specs.declared.step.Var.{Var}
use Rattle.pv_steps.specs.declared.step.Step.{Step}
use Rattle.pv_steps.specs.Right.{GraphAfter}
use Rattle.pv_steps.proofs.Cited.{after_grown}
use Rattle.pv_lemmas.specs.Lemmas.{variables_from, settled_from, variables_graph}
use Rattle.pv_lemmas.proofs.Lists.{get_map}

-- what stands at a place is in the list
in_place : (ks : List ℕ) (p k : ℕ) → slice_get ks p ≡ Some k → In ks k
in_place [] p k e = absurd (cc)
in_place (l ∷ ks) zero k e = inl (same_Some l k e)
in_place (l ∷ ks) (suc p) k e = inr (in_place ks p k e)

-- node n of the variables from j on is variable j + n
var_at : (j : ℕ) (vs : List Var) (n : ℕ) (node : Node) → slice_get (variables_from j vs) n ≡ Some node → (v : Var) × (slice_get vs n ≡ Some v) × (node ≡ node_of (op.Var (j + n) v.sort) [])
var_at j [] n node e = absurd (cc)
var_at j (v ∷ vs) zero node e = let z : j ≡ j + 0 = omega arith in (v, refl, sym (same_Some _ _ e) ∙ ap (λ (k : ℕ). node_of (op.Var k v.sort) []) z)
var_at j (v ∷ vs) (suc n) node e =
    let r = var_at (suc j) vs n node e in
    let z : suc j + n ≡ j + suc n = omega arith in
    (r.0, r.1, r.2 ∙ ap (λ (k : ℕ). node_of (op.Var k r.0.sort) []) z)

-- there is a node for each variable
pub variables_length : (j : ℕ) (vs : List Var) → length (variables_from j vs) ≡ length vs
variables_length j [] = refl
variables_length j (v ∷ vs) = ap suc (variables_length (suc j) vs)

-- node n of the variables is variable n
pub variable_node : (vs : List Var) (n : ℕ) (node : Node) → slice_get (variables_from 0 vs) n ≡ Some node → (v : Var) × (slice_get vs n ≡ Some v) × (node ≡ node_of (op.Var n v.sort) [])
variable_node vs n node e =
    let r = var_at 0 vs n node e in
    let z : 0 + n ≡ n = omega arith in
    (r.0, r.1, r.2 ∙ ap (λ (k : ℕ). node_of (op.Var k r.0.sort) []) z)

-- a settled variable is one of the variables
pub settled_low : (j : ℕ) (vs : List Var) (p : ℕ) → In (settled_from j vs) p → p < j + length vs
settled_low j [] p m = absurd m
settled_low j (v ∷ vs) p m = go v.settled (λ i. let z = settled_low (suc j) vs p i in omega (arith, z)) m
  where
    go : (t : Bool) → (In (settled_from (suc j) vs) p → p < j + suc (length vs)) → In (elim t [ true ↦ j ∷ settled_from (suc j) vs | false ↦ settled_from (suc j) vs ]) p → p < j + suc (length vs)
    go true later (inl e) = omega (arith, e)
    go true later (inr i) = later i
    go false later i = later i

-- a variable has its sort
var_sorted : (all : List OpSort) (n : ℕ) (s : OpSort) → HasSort all (op.Var n s) [] s
var_sorted all n s = record { sorts = []; kids_have = tt; over = refl }

-- the graph of the variables is well made
module _ (vs : List Var) where
  abbrev sorts_of : List OpSort
  sorts_of = map (λ (v : Var). v.sort) vs

  -- each node has the sort at its number
  variables_sorted : (n : ℕ) (node : Node) (s : OpSort) → slice_get (variables_from 0 vs) n ≡ Some node → slice_get sorts_of n ≡ Some s → HasSort sorts_of node.op node.kids s
  variables_sorted n node s e f =
      let r = variable_node vs n node e in
      let same : r.0.sort ≡ s = same_Some _ _ (sym (get_map (λ (v : Var). v.sort) vs n r.0 r.1) ∙ f) in
      subst (λ (y : Node). HasSort sorts_of y.op y.kids s) (sym r.2) (subst (λ (t : OpSort). HasSort sorts_of (op.Var n t) [] s) (sym same) (var_sorted sorts_of n s))

  -- no node has a kid
  pub no_kids : (n k : ℕ) (node : Node) → slice_get (variables_from 0 vs) n ≡ Some node → In node.kids k → ⊥
  no_kids n k node e m = let r = variable_node vs n node e in subst (λ (y : Node). In y.kids k) r.2 m

  -- there is no step from a node
  no_walk : (n : ℕ) (m : Move) (ms : List Move) (o : ℕ) → Walk (form_at (variables_from 0 vs)) n (m ∷ ms) o → ⊥
  no_walk n m ms o (step q k r m' ps e w) =
      let x = node_at (variables_from 0 vs) q e.o e.ks e.is in
      no_kids q k x.0 x.1 (subst (λ (zs : List ℕ). In zs k) (sym x.3) (in_place e.ks e.place k e.there))

  pub variables_made : IsWellMade (variables_graph vs)
  variables_made = record {
    graph = record {
      long = length-map vs (λ (v : Var). v.sort) ∙ sym (variables_length 0 vs);
      base = (let z = variables_length 0 vs in omega (arith, z));
      open_ = λ e. absurd (cc);
      sorted = λ n node s e f. inl (variables_sorted n node s e f);
      early = λ n k node e l m. absurd (no_kids n k node e m);
      late = λ n k node e l m. absurd (no_kids n k node e m);
      ranged = λ n node e. (let r = variable_node vs n node e in subst (λ (y : Node). IsRanged y.op) (sym r.2) tt);
      variables = λ n node e high. (let z = slice_get_within (variables_from 0 vs) n node e in let y = variables_length 0 vs in absurd (omega (arith, y, z, high)));
    };
    rule = λ n m ms w. absurd (no_walk n m ms n w);
  }

-- the graph after the steps of a lemma is well made
pub inner_made : (vs : List Var) (before : List Step) (inner : Graph) → GraphAfter (variables_graph vs) before inner → IsWellMade inner
inner_made vs before inner after = (after_grown (variables_graph vs) before inner (variables_made vs) refl after).made
