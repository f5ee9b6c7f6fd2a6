-- The nodes of a lemma after those of the graph of a use, with the nodes of the use in the place of the variables.
use Rattle.std.specs.Prelude.{◌≡◌, ◌⊎◌, ℕ, zero, suc, ◌+◌, ◌<◌, ◌≤◌, true, false, List, [], ◌∷◌, ◌++◌, length, map, Option, Some, None, slice_get}
use Rattle.std.proofs.Common.{inl, inr, sym, ap, ◌∙◌, subst, arith, length-append}
use Rattle.std.proofs.lemmas.List.{length-map}
use Rattle.std.proofs.lemmas.Option.{slice_get_within, slice_get_past, same_Some}
use Rattle.pv_value.specs.Spelled.{bind}
use Rattle.pv_graph.specs.declared.node.Op.{Op}
use Rattle.pv_graph.specs.declared.node.Op.TheVariants as op
use Rattle.pv_graph.specs.declared.node.OpSort.{OpSort}
use Rattle.pv_graph.specs.declared.node.Node.{Node}
use Rattle.pv_graph.specs.Ops.{is_variable, HaveSorts, HasSort}
use Rattle.pv_graph.specs.Forms.{form}
use Rattle.pv_graph.specs.Nodes.{node_of}
use Rattle.pv_graph.specs.Graphs.{Graph, form_of, form_at, IsWellMade, Extends}
use Rattle.pv_graph.specs.Calls.{appended}
use Rattle.pv_graph.proofs.Cited.{found, get_front, get_last, push_cases, node_at, form_there, kid_within, appended_graph}
use Rattle.pv_graph.proofs.CallLaws.{push_keeps_rule, sorted_low}
use Rattle.pv_steps.specs.declared.step.Var.{Var}
use Rattle.pv_steps.specs.declared.step.Step.{Step}
use Rattle.pv_steps.specs.declared.step.Step.TheVariants.{Axiom, Use, Flip, Chain, Set, Open, Close, Assume, Finish}
use Rattle.pv_steps.specs.declared.step.Step.TheVariants as steps
use Rattle.pv_steps.specs.Right.{AddsNode, Grows}
use Rattle.pv_lemmas.specs.Lemmas.{variables_from, variables_graph}
use Rattle.pv_lemmas.proofs.Lists.{zip_left, zip_at, zip_length}
use Rattle.pv_lemmas.proofs.Variables.{variable_node, variables_length, variables_made}

-- ---- numbers

-- the node of a use for variable p, or where node p of the lemma comes after `base` others
abbrev pub node_for : List ℕ → ℕ → ℕ → ℕ
node_for [] base p = base + p
node_for (n ∷ nodes) base zero = n
node_for (n ∷ nodes) base (suc p) = node_for nodes base p

-- for a variable it is the node that stands for it
pub node_for_at : (nodes : List ℕ) (base j n : ℕ) → slice_get nodes j ≡ Some n → node_for nodes base j ≡ n
node_for_at [] base j n e = absurd (cc)
node_for_at (m ∷ nodes) base zero n e = same_Some m n e
node_for_at (m ∷ nodes) base (suc j) n e = node_for_at nodes base j n e

-- after the variables, it comes after the nodes of the graph of the use
node_for_after : (nodes : List ℕ) (base p : ℕ) → length nodes ≤ p → node_for nodes base p + length nodes ≡ base + p
node_for_after [] base p low = omega arith
node_for_after (n ∷ nodes) base zero low = absurd (omega (arith, low))
node_for_after (n ∷ nodes) base (suc p) low = let z = node_for_after nodes base p (omega (arith, low)) in omega (arith, z)

-- ---- expansions

-- the nodes of the inner graph are in the outer one, at the numbers that h gives them; any nodes of the sorts of the variables stand for these
pub record Expands (inner outer : Graph) (h : ℕ → ℕ) : Type 0 where
  pub there : (p : ℕ) (o : Op) (ps : List ℕ) → form_at inner.nodes p ≡ Some (form o ps) → is_variable o ≡ false → form_at outer.nodes (h p) ≡ Some (form o (map h ps))
  pub none : (p : ℕ) → form_at inner.nodes p ≡ None → form_at outer.nodes (h p) ≡ None
  pub sorts : (p : ℕ) (s : OpSort) → slice_get inner.sorts p ≡ Some s → slice_get outer.sorts (h p) ≡ Some s

-- .. where the outer graph is that of a use and, after its nodes, those of the inner graph that are no variables
pub record Expansion (nodes : List ℕ) (g inner outer : Graph) : Type 0 where
  pub made : IsWellMade outer
  pub sealed : outer.is_open ≡ false
  pub extends_ : Extends g outer
  pub inner_made : IsWellMade inner
  pub variables : (p j : ℕ) (s : OpSort) (ps : List ℕ) → form_at inner.nodes p ≡ Some (form (op.Var j s) ps) → p ≡ j
  pub long : length nodes ≤ length inner.nodes
  pub lengths : length outer.nodes + length nodes ≡ length g.nodes + length inner.nodes
  pub expands : Expands inner outer (node_for nodes (length g.nodes))

low_or_high : (n m : ℕ) → (n < m) ⊎ (m ≤ n)
low_or_high n m = grind arith

-- no form is outside the nodes
none_past : (nodes : List Node) (n : ℕ) → length nodes ≤ n → form_at nodes n ≡ None
none_past nodes n high = ap (λ (q : Option Node). bind q (λ y. Some (form_of y))) (slice_get_past nodes n high)

-- .. and what has no form is outside them
none_high : (nodes : List Node) (n : ℕ) → form_at nodes n ≡ None → length nodes ≤ n
none_high nodes n e = go (low_or_high n (length nodes))
  where
    go : (n < length nodes) ⊎ (length nodes ≤ n) → length nodes ≤ n
    go (inl low) = let x = found nodes n low in absurd (let z = sym (form_there nodes n x.0 x.1) ∙ e in cc)
    go (inr high) = high

-- a number outside the inner graph goes outside the outer one
expands_none : (nodes : List ℕ) (g inner outer : Graph) → length nodes ≤ length inner.nodes → length outer.nodes + length nodes ≡ length g.nodes + length inner.nodes
    → (p : ℕ) → form_at inner.nodes p ≡ None → form_at outer.nodes (node_for nodes (length g.nodes) p) ≡ None
expands_none nodes g inner outer long lengths p e =
    let high = none_high inner.nodes p e in
    let z = node_for_after nodes (length g.nodes) p (omega (arith, long, high)) in
    none_past outer.nodes (node_for nodes (length g.nodes) p) (omega (arith, long, lengths, high, z))

-- ---- the variables alone

pub extends_self : (g : Graph) → Extends g g
extends_self g = record { nodes = λ n x e. e; sorts = λ n s e. e }

pub extends_trans : (a b c : Graph) → Extends a b → Extends b c → Extends a c
extends_trans a b c p q = record { nodes = λ n x e. q.nodes n x (p.nodes n x e); sorts = λ n s e. q.sorts n s (p.sorts n s e) }

-- the sorts of the variables are those of the nodes of a use
abbrev pub AreOfSorts : Graph → List ℕ → List Var → Type 0
AreOfSorts g nodes vs = HaveSorts g.sorts nodes (map (λ (v : Var). v.sort) vs)

-- in the graph of a use stand the nodes for the variables, which are all of the inner graph
expands_variables : (vs : List Var) (nodes : List ℕ) (g : Graph) → AreOfSorts g nodes vs → length nodes ≤ length (variables_from 0 vs) → length g.nodes + length nodes ≡ length g.nodes + length (variables_from 0 vs)
    → Expands (variables_graph vs) g (node_for nodes (length g.nodes))
expands_variables vs nodes g sorts long lengths = record {
  there = λ p o ps e plain.
      (let x = node_at (variables_from 0 vs) p o ps e in
      let r = variable_node vs p x.0 x.1 in
      let z : op.Var p r.0.sort ≡ o = sym (ap (λ (y : Node). y.op) r.2) ∙ x.2 in
      let y : true ≡ false = ap is_variable z ∙ plain in
      absurd (cc));
  none = expands_none nodes g (variables_graph vs) g long lengths;
  sorts = λ p s e.
      (let x = zip_at (λ k t. slice_get g.sorts k ≡ Some t) nodes (map (λ (v : Var). v.sort) vs) p s sorts e in
      ap (slice_get g.sorts) (node_for_at nodes (length g.nodes) p x.0 x.1) ∙ x.2);
}

var_same : (j k : ℕ) (s t : OpSort) → op.Var j s ≡ op.Var k t → j ≡ k
var_same j k s t e = cc

-- the expansion of the variables is the graph of the use
pub begins : (vs : List Var) (nodes : List ℕ) (g : Graph) → IsWellMade g → g.is_open ≡ false → AreOfSorts g nodes vs → Expansion nodes g (variables_graph vs) g
begins vs nodes g made sealed sorts =
    let long : length nodes ≡ length vs = zip_length (λ k t. slice_get g.sorts k ≡ Some t) nodes (map (λ (v : Var). v.sort) vs) sorts ∙ length-map vs (λ (v : Var). v.sort) in
    let z = variables_length 0 vs in
    let within : length nodes ≤ length (variables_from 0 vs) = omega (arith, long, z) in
    let lengths : length g.nodes + length nodes ≡ length g.nodes + length (variables_from 0 vs) = omega (arith, long, z) in
    record {
      made = made;
      sealed = sealed;
      extends_ = extends_self g;
      inner_made = variables_made vs;
      variables = λ p j s ps e.
          (let x = node_at (variables_from 0 vs) p (op.Var j s) ps e in
          let r = variable_node vs p x.0 x.1 in
          var_same p j r.0.sort s (sym (ap (λ (y : Node). y.op) r.2) ∙ x.2));
      long = within;
      lengths = lengths;
      expands = expands_variables vs nodes g sorts within lengths;
    }

-- ---- one node more

-- an old node has its form still
form_front : (old : List Node) (node : Node) (n : ℕ) (o : Op) (ks : List ℕ) → form_at old n ≡ Some (form o ks) → form_at (old ++ node ∷ []) n ≡ Some (form o ks)
form_front old node n o ks e =
    let x = node_at old n o ks e in
    form_there (old ++ node ∷ []) n x.0 (get_front old node n (slice_get_within old n x.0 x.1) ∙ x.1) ∙ sym (form_there old n x.0 x.1) ∙ e

-- .. and all old nodes stay
appended_extends : (old : Graph) (node : Node) (s : OpSort) → Extends old (appended old node s false)
appended_extends old node s = record {
  nodes = λ n x at. get_front old.nodes node n (slice_get_within old.nodes n x at) ∙ at;
  sorts = λ n t at. get_front old.sorts s n (slice_get_within old.sorts n t at) ∙ at;
}

-- a node step of a lemma, and the node over the same kids in the outer graph
module _ (nodes : List ℕ) (g old outer : Graph) (x : Expansion nodes g old outer) (n : ℕ) (o : Op) (kids : List ℕ) (now : Graph) (add : AddsNode old n o kids now) where
  abbrev at : ℕ → ℕ
  at = node_for nodes (length g.nodes)

  abbrev sort : OpSort
  sort = add.fits.0

  abbrev inner_node : Node
  inner_node = node_of o kids

  abbrev outer_node : Node
  outer_node = node_of o (map at kids)

  abbrev old_more : Graph
  old_more = appended old inner_node sort false

  abbrev outer_more : Graph
  outer_more = appended outer outer_node sort false

  -- the node fits its kids in the outer graph as in the inner one
  outer_sorts : HasSort outer.sorts o (map at kids) sort
  outer_sorts =
      let has = add.fits.1 in
      record { sorts = has.sorts; kids_have = zip_left (λ k t. slice_get old.sorts k ≡ Some t) (λ k t. slice_get outer.sorts k ≡ Some t) at (λ k t e. x.expands.sorts k t e) kids has.sorts has.kids_have; over = has.over }

  -- the outer graph stays well made
  more_made : IsWellMade outer_more
  more_made =
      let is = x.made.graph in
      record {
        graph = appended_graph outer outer_node sort is (inl outer_sorts) false add.ranged (λ z. add.plain_);
        rule = push_keeps_rule outer.nodes outer_node (λ m k y here i. kid_within outer is m k y here i) (λ k i. sorted_low outer is (map at kids) outer_sorts.sorts outer_sorts.kids_have k i) x.made.rule;
      }

  -- the new node of the lemma is at the end of the outer graph
  last_for : (p : ℕ) → p ≡ length old.nodes → at p ≡ length outer.nodes
  last_for p e =
      let z = node_for_after nodes (length g.nodes) p (let l = x.long in omega (arith, e, l)) in
      let l = x.lengths in
      omega (arith, e, z, l)

  -- each node that is no variable is in the outer graph
  more_there : (p : ℕ) (q : Op) (ps : List ℕ) → form_at old_more.nodes p ≡ Some (form q ps) → is_variable q ≡ false → form_at outer_more.nodes (at p) ≡ Some (form q (map at ps))
  more_there p q ps e plain =
      let y = node_at old_more.nodes p q ps e in
      elim (push_cases old.nodes inner_node y.0 p y.1) [
        | inl here ↦
            (let f : form_at old.nodes p ≡ Some (form q ps) = form_there old.nodes p y.0 here ∙ sym (form_there old_more.nodes p y.0 y.1) ∙ e in
            form_front outer.nodes outer_node (at p) q (map at ps) (x.expands.there p q ps f plain))
        | inr last ↦
            (let a : o ≡ q = ap (λ (z : Node). z.op) last.1 ∙ y.2 in
            let b : kids ≡ ps = ap (λ (z : Node). z.kids) last.1 ∙ y.3 in
            ap (form_at outer_more.nodes) (last_for p last.0) ∙ form_there outer_more.nodes (length outer.nodes) outer_node (get_last outer.nodes outer_node) ∙ (let c : map at kids ≡ map at ps = ap (map at) b in cc (a, c)))
      ]

  -- .. and each has its sort there
  more_sorts : (p : ℕ) (t : OpSort) → slice_get old_more.sorts p ≡ Some t → slice_get outer_more.sorts (at p) ≡ Some t
  more_sorts p t e = elim (push_cases old.sorts sort t p e) [
    | inl here ↦ (let z = x.expands.sorts p t here in get_front outer.sorts sort (at p) (slice_get_within outer.sorts (at p) t z) ∙ z)
    | inr last ↦
        (let a = last_for p (last.0 ∙ x.inner_made.graph.long) in
        ap (slice_get outer_more.sorts) (a ∙ sym x.made.graph.long) ∙ get_last outer.sorts sort ∙ ap Some last.1)
  ]

  -- a variable is the node with its number
  more_variables : (p j : ℕ) (t : OpSort) (ps : List ℕ) → form_at old_more.nodes p ≡ Some (form (op.Var j t) ps) → p ≡ j
  more_variables p j t ps e =
      let y = node_at old_more.nodes p (op.Var j t) ps e in
      elim (push_cases old.nodes inner_node y.0 p y.1) [
        | inl here ↦ x.variables p j t ps (form_there old.nodes p y.0 here ∙ sym (form_there old_more.nodes p y.0 y.1) ∙ e)
        | inr last ↦ (let a : o ≡ op.Var j t = ap (λ (z : Node). z.op) last.1 ∙ y.2 in let b : false ≡ true = sym add.plain_ ∙ ap is_variable a in absurd (cc))
      ]

  -- both graphs have one node more
  more_lengths : length outer_more.nodes + length nodes ≡ length g.nodes + length old_more.nodes
  more_lengths =
      let a = length-append outer.nodes (outer_node ∷ []) in
      let b = length-append old.nodes (inner_node ∷ []) in
      let l = x.lengths in
      omega (arith, a, b, l)

  more_long : length nodes ≤ length old_more.nodes
  more_long = let b = length-append old.nodes (inner_node ∷ []) in let l = x.long in omega (arith, b, l)

  -- the outer graph with the node, as an expansion of the inner graph with the node
  adds_expansion : IsWellMade now → Expansion nodes g now outer_more
  adds_expansion is = subst (λ (q : Graph). Expansion nodes g q outer_more) (sym add.grown) (record {
    made = more_made;
    sealed = x.sealed;
    extends_ = extends_trans g outer outer_more x.extends_ (appended_extends outer outer_node sort);
    inner_made = subst IsWellMade add.grown is;
    variables = more_variables;
    long = more_long;
    lengths = more_lengths;
    expands = record { there = more_there; none = expands_none nodes g old_more outer_more more_long more_lengths; sorts = more_sorts };
  })

-- ---- a step

-- an expansion of a graph that goes on from another, with the old nodes of both
pub record Grown (nodes : List ℕ) (g old outer inner : Graph) : Type 0 where
  pub more : Graph
  pub expansion : Expansion nodes g inner more
  pub inner_extends : Extends old inner
  pub outer_extends : Extends outer more

-- a step that adds no node leaves both graphs
grown_self : (nodes : List ℕ) (g old outer inner : Graph) → Expansion nodes g old outer → inner ≡ old → Grown nodes g old outer inner
grown_self nodes g old outer inner x e = record {
  more = outer;
  expansion = subst (λ (q : Graph). Expansion nodes g q outer) (sym e) x;
  inner_extends = subst (λ (q : Graph). Extends old q) (sym e) (extends_self old);
  outer_extends = extends_self outer;
}

-- a step of a lemma in the outer graph
pub step_expands : (nodes : List ℕ) (g old outer inner : Graph) → Expansion nodes g old outer → IsWellMade inner → (s : Step) → Grows s old inner → Grown nodes g old outer inner
step_expands nodes g old outer inner x made (steps.Node n o kids) grows = record {
  more = appended outer (node_of o (map (node_for nodes (length g.nodes)) kids)) grows.fits.0 false;
  expansion = adds_expansion nodes g old outer x n o kids inner grows made;
  inner_extends = subst (λ (q : Graph). Extends old q) (sym grows.grown) (appended_extends old (node_of o kids) grows.fits.0);
  outer_extends = appended_extends outer (node_of o (map (node_for nodes (length g.nodes)) kids)) grows.fits.0;
}
step_expands nodes g old outer inner x made (Axiom n a b ns) grows = grown_self nodes g old outer inner x grows
step_expands nodes g old outer inner x made (Use n a b ns) grows = grown_self nodes g old outer inner x grows
step_expands nodes g old outer inner x made (Flip a b f) grows = grown_self nodes g old outer inner x grows
step_expands nodes g old outer inner x made (Chain a b f i) grows = grown_self nodes g old outer inner x grows
step_expands nodes g old outer inner x made (Set cs) grows = grown_self nodes g old outer inner x grows
step_expands nodes g old outer inner x made (Open d ps) grows = grown_self nodes g old outer inner x grows
step_expands nodes g old outer inner x made (Close d fs) grows = grown_self nodes g old outer inner x grows
step_expands nodes g old outer inner x made (Assume p ns) grows = grown_self nodes g old outer inner x grows
step_expands nodes g old outer inner x made (Finish p q t f r i) grows = grown_self nodes g old outer inner x grows
