-- What is needed of the graph of a lemma, and that settled nodes stand for its variables.
use Rattle.std.specs.Prelude.{◌≡◌, ℕ, ◌+◌, ◌<◌, ◌≤◌, true, List, [], ◌∷◌, length, map, reverse, Some, slice_get}
use Rattle.std.specs.List.{AllByRecursion}
use Rattle.std.proofs.Common.{inl, inr, sym, ap, ◌∙◌, subst, arith, true≢false}
use Rattle.std.proofs.lemmas.Option.{slice_get_within, same_Some}
use Rattle.pv_graph.specs.declared.node.Op.{Op}
use Rattle.pv_graph.specs.declared.node.Op.TheVariants as op
use Rattle.pv_graph.specs.declared.node.Node.{Node}
use Rattle.pv_graph.specs.Ops.{is_variable, HaveSorts}
use Rattle.pv_graph.specs.Nodes.{node_of}
use Rattle.pv_graph.specs.Walks.{In, IsSettled}
use Rattle.pv_graph.specs.Graphs.{Graph, form_at}
use Rattle.pv_graph.proofs.Cited.{equal_or_not, node_at, push_cases}
use Rattle.pv_steps.specs.declared.step.Var.{Var}
use Rattle.pv_steps.specs.declared.step.Lemma.{Lemma}
use Rattle.pv_steps.specs.declared.step.Step.{Step}
use Rattle.pv_steps.specs.declared.step.Step.TheVariants as steps
use Rattle.pv_steps.specs.Right.{AddsNode, GraphAfter, Grows}
use Rattle.pv_steps.proofs.Cited.{after_same}
use Rattle.pv_lemmas.specs.Lemmas.{variables_graph, settled_from, IsKnown, IsUnder, variable, operation, IsUse}
use Rattle.pv_lemmas.specs.Asked.{IsInner, AreSides}
use Rattle.pv_lemmas.proofs.Variables.{no_kids, variable_node}
use Rattle.pv_lemmas.proofs.Asking.{place_of}

-- ---- all of a list

pub up_to_more : (P : ℕ → Type 0) (js : List ℕ) (k j : ℕ) → slice_get js k ≡ Some j → P j → ((i m : ℕ) → i < k → slice_get js i ≡ Some m → P m) → (i m : ℕ) → i < k + 1 → slice_get js i ≡ Some m → P m
up_to_more P js k j at p before i m lt here = elim (equal_or_not i k) [
  | inl same ↦ subst P (same_Some j m (sym at ∙ ap (slice_get js) (sym same) ∙ here)) p
  | inr ne ↦ before i m (omega (arith, lt, ne)) here
]

pub up_to_all : (P : ℕ → Type 0) (js : List ℕ) (k : ℕ) → length js ≤ k → ((i m : ℕ) → i < k → slice_get js i ≡ Some m → P m) → (m : ℕ) → In js m → P m
up_to_all P js k le before m there =
    let place = place_of js m there in
    before place.0 m (let z = slice_get_within js place.0 m place.1 in omega (arith, z, le)) place.1

-- ---- the graph of a lemma

-- kids are smaller, and a variable has none
record IsLow (p : ℕ) (node : Node) : Type 0 where
  kids : (k : ℕ) → In node.kids k → k < p
  alone : is_variable node.op ≡ true → node.kids ≡ []

abbrev AreLow : Graph → Type 0
AreLow g = (p : ℕ) (node : Node) → slice_get g.nodes p ≡ Some node → IsLow p node

all_in : (P : ℕ → Type 0) (ks : List ℕ) (k : ℕ) → AllByRecursion P ks → In ks k → P k
all_in P [] k all m = absurd m
all_in P (l ∷ ks) k all (inl e) = subst P e all.0
all_in P (l ∷ ks) k all (inr m) = all_in P ks k all.1 m

variables_low : (vs : List Var) → AreLow (variables_graph vs)
variables_low vs p node at = record {
  kids = λ k m. absurd (no_kids vs p k node at m);
  alone = λ is. (let r = variable_node vs p node at in ap (λ (y : Node). y.kids) r.2);
}

added_low : (old new : Graph) (n : ℕ) (o : Op) (ks : List ℕ) → AddsNode old n o ks new → AreLow old → AreLow new
added_low old new n o ks h low p node at =
    elim (push_cases old.nodes (node_of o ks) node p (sym (ap (λ (g : Graph). slice_get g.nodes p) h.grown) ∙ at)) [
      | inl before ↦ low p node before
      | inr last ↦ subst (λ (y : Node). IsLow p y) last.1 (record {
        kids = λ k m. subst (λ (q : ℕ). k < q) (sym last.0) (all_in (λ (i : ℕ). i < length old.nodes) ks k h.smaller m);
        alone = λ is. absurd (true≢false (sym is ∙ h.plain_));
      })
    ]

same_low : (old new : Graph) → new ≡ old → AreLow old → AreLow new
same_low old new e low = subst AreLow (sym e) low

step_low : (s : Step) (old new : Graph) → Grows s old new → AreLow old → AreLow new
step_low (steps.Node n o ks) old new h low = added_low old new n o ks h low
step_low (steps.Axiom n a b nodes) old new h low = same_low old new h low
step_low (steps.Use n a b nodes) old new h low = same_low old new h low
step_low (steps.Flip a b f) old new h low = same_low old new h low
step_low (steps.Chain a b f i) old new h low = same_low old new h low
step_low (steps.Set cs) old new h low = same_low old new h low
step_low (steps.Open d ps) old new h low = same_low old new h low
step_low (steps.Close d fs) old new h low = same_low old new h low
step_low (steps.Assume p ns) old new h low = same_low old new h low
step_low (steps.Finish p q t f r i) old new h low = same_low old new h low

after_low : (vs : List Var) (before : List Step) (g : Graph) → GraphAfter (variables_graph vs) before g → AreLow g
after_low vs [] g after = same_low (variables_graph vs) g after (variables_low vs)
after_low vs (s ∷ before) g (old, after, grows) = step_low s old g grows (after_low vs before old after)

-- the nodes of a known lemma's graph
known_nodes : (lemma : Lemma) (g : Graph) (is : IsKnown lemma g) → is.after.nodes ≡ g.nodes
known_nodes lemma g is = sym (ap (λ (h : Graph). h.nodes) is.same)

pub inner_of : (lemma : Lemma) (g : Graph) → IsKnown lemma g → IsInner g
inner_of lemma g is = record {
  alone = λ p j s ks at.
      (let node = node_at g.nodes p (op.Var j s) ks at in
      sym node.3 ∙ (low p node.0 node.1).alone (ap is_variable node.2));
  late = λ p k o ks at m.
      (let node = node_at g.nodes p o ks at in
      (low p node.0 node.1).kids k (subst (λ (xs : List ℕ). In xs k) (sym node.3) m));
}
  where
    low : (p : ℕ) (node : Node) → slice_get g.nodes p ≡ Some node → IsLow p node
    low p node at = after_low lemma.vars (reverse lemma.steps) is.after is.is p node (ap (λ (ns : List Node). slice_get ns p) (known_nodes lemma g is) ∙ at)

-- ---- the sides of a use

-- what stands under a graph stands under one of the same nodes
under_same : (a b : Graph) (nodes : List ℕ) (g : Graph) → a.nodes ≡ b.nodes → (p n : ℕ) → IsUnder a nodes g p n → IsUnder b nodes g p n
under_same a b nodes g same p n (variable _ _ j s at get) = variable p n j s (ap (λ (ns : List Node). form_at ns p) (sym same) ∙ at) get
under_same a b nodes g same p n (operation _ _ o ps ns plain at there long kids) =
    operation p n o ps ns plain (ap (λ (xs : List Node). form_at xs p) (sym same) ∙ at) there long (λ i k m kid are. under_same a b nodes g same k m (kids i k m kid are))

abbrev pub AreSettled : List Var → Graph → List ℕ → List ℕ → Type 0
AreSettled vars g assumed nodes = (j n : ℕ) → In (settled_from 0 vars) j → slice_get nodes j ≡ Some n → IsSettled (form_at g.nodes) assumed n

module _ (lemma : Lemma) (inner : Graph) (is : IsKnown lemma inner) (g : Graph) (assumed nodes : List ℕ) (a b : ℕ) where
  -- what is tested is a use
  pub use_of : HaveSorts g.sorts nodes (map (λ v. v.sort) lemma.vars) → AreSettled lemma.vars g assumed nodes → AreSides inner nodes g (lemma.left, lemma.right) (a, b) → IsUse lemma g assumed nodes a b
  use_of sorts settled sides = record {
    graph = is.after;
    after = is.is;
    sorts = sorts;
    settled = settled;
    left_ = under_same inner is.after nodes g (sym (known_nodes lemma inner is)) lemma.left a sides.0;
    right_ = under_same inner is.after nodes g (sym (known_nodes lemma inner is)) lemma.right b sides.1;
  }

  -- .. and a use has it
  pub sides_of : IsUse lemma g assumed nodes a b → AreSides inner nodes g (lemma.left, lemma.right) (a, b)
  sides_of u =
      let one : u.graph ≡ is.after = after_same (variables_graph lemma.vars) (reverse lemma.steps) u.graph is.after u.after is.is in
      let same : u.graph.nodes ≡ inner.nodes = ap (λ (h : Graph). h.nodes) one ∙ known_nodes lemma inner is in
      (under_same u.graph inner nodes g same lemma.left a u.left_, under_same u.graph inner nodes g same lemma.right b u.right_)
