-- What the check of the steps of a lemma says of the lemma.
use Rattle.std.specs.Prelude.{◌≡◌, ◌<◌, ◌≤◌, List, length, reverse, Option, None, Some, Result, Ok, Err, IfOk, IfSome, IfNone}
use Rattle.std.specs.List.{AllByRecursion}
use Rattle.std.proofs.Common.{sym, ap, arith}
use Rattle.pv_value.specs.declared.memory.Memory.{Memory}
use Rattle.pv_graph.specs.Graphs.{Graph}
use Rattle.pv_graph.specs.Calls.{IsSame}
use Rattle.pv_steps.specs.declared.step.Lemma.{Lemma}
use Rattle.pv_steps.specs.Right.{GraphAfter, Instances}
use Rattle.pv_steps.specs.Accepted.{Derives}
use Rattle.pv_steps.proofs.Cited.{after_same, graph_there}
use Rattle.pv_check.specs.Rules.{KeepPrepared}
use Rattle.pv_check.specs.Checking.{IsAfter}
use Rattle.pv_lemmas.specs.Lemmas.{InLemma, IsAccepted, IsKnown, IsOutsideBlocks, Uses, settled_from, variables_graph}
use Rattle.pv_rules.specs.Known.{IsShown}
use Rattle.pv_rules.proofs.Ready.{after_over, back, derives_back, derives_to, same_chain}

module _ (R : Instances) (keep : KeepPrepared R) (lemma : Lemma) (start : Graph) (e : IsSame (variables_graph lemma.vars) start) where
  -- the steps show it over the graph that was made of the variables
  pub shown : (g : Graph) → Derives R start lemma.left lemma.right lemma.steps → IsAfter start lemma.steps g → IsShown R lemma (Some g)
  shown g h after =
      let there = after_over (variables_graph lemma.vars) start e (reverse lemma.steps) after.now after.after in
      (derives_back R keep (variables_graph lemma.vars) start e lemma.left lemma.right lemma.steps h, (there.0, there.1, same_chain there.0 after.now g (sym (back after.now there.0 there.2)) after.same))

  -- steps that are right make a graph
  pub graph_made : Derives R start lemma.left lemma.right lemma.steps → ((g : Graph) → GraphAfter start (reverse lemma.steps) g → ⊥) → ⊥
  graph_made h none = let there = graph_there R start (reverse lemma.steps) h.0 in none there.0 there.1

  pub shown_if : (r : Result (Option Graph) Memory) → Derives R start lemma.left lemma.right lemma.steps → IfOk r (λ found. IfSome found (λ g. IsAfter start lemma.steps g))
      → IfOk r (λ found. IfNone found ((g : Graph) → GraphAfter start (reverse lemma.steps) g → ⊥)) → IfOk r (IsShown R lemma)
  shown_if (Ok (Some g)) h some none = shown g h some
  shown_if (Ok None) h some none = absurd (graph_made h none)
  shown_if (Err m) h some none = tt

  -- the steps don't show it
  pub not_shown : (Derives R start lemma.left lemma.right lemma.steps → ⊥) → IsShown R lemma None
  not_shown never h = never (derives_to R keep (variables_graph lemma.vars) start e lemma.left lemma.right lemma.steps h)

module _ (before : List Lemma) (lemma : Lemma) where
  abbrev Inside : Instances
  Inside = InLemma (Uses before) (settled_from 0 lemma.vars)

  nodes_long : (after g : Graph) → IsSame after g → length after.nodes ≡ length g.nodes
  nodes_long after g e = ap (λ (x : Graph). length x.nodes) (sym e)

  pub is_accepted : (g : Graph) → AllByRecursion IsOutsideBlocks lemma.steps → IsShown Inside lemma (Some g) → lemma.left < length g.nodes → lemma.right < length g.nodes → IsAccepted (Uses before) lemma
  is_accepted g outside (derives, made) left right =
      let long = nodes_long made.0 g made.2 in
      record {
        outside = outside;
        right_ = derives.0;
        graph = made.0;
        after = made.1;
        left_there = omega (arith, long, left);
        right_there = omega (arith, long, right);
        concluded = derives.1;
      }

  pub is_known : (g : Graph) → IsShown Inside lemma (Some g) → lemma.left < length g.nodes → lemma.right < length g.nodes → IsKnown lemma g
  is_known g (derives, made) left right = record { after = made.0; is = made.1; same = made.2; left_there = left; right_there = right }

  pub not_derived : IsShown Inside lemma None → IsAccepted (Uses before) lemma → ⊥
  not_derived never a = never (a.right_, a.concluded)

  -- the sides of an accepted lemma are nodes of the graph after its steps
  sides_there : (g : Graph) → IsShown Inside lemma (Some g) → IsAccepted (Uses before) lemma → (lemma.left < length g.nodes) × (lemma.right < length g.nodes)
  sides_there g (derives, made) a =
      let long = nodes_long made.0 g made.2 in
      let one : length a.graph.nodes ≡ length made.0.nodes = ap (λ (x : Graph). length x.nodes) (after_same (variables_graph lemma.vars) (reverse lemma.steps) a.graph made.0 a.after made.1) in
      (omega (arith, long, one, a.left_there), omega (arith, long, one, a.right_there))

  pub left_past : (g : Graph) → IsShown Inside lemma (Some g) → length g.nodes ≤ lemma.left → IsAccepted (Uses before) lemma → ⊥
  left_past g h past a = let z = sides_there g h a in omega (arith, past, z.0)

  pub right_past : (g : Graph) → IsShown Inside lemma (Some g) → length g.nodes ≤ lemma.right → IsAccepted (Uses before) lemma → ⊥
  right_past g h past a = let z = sides_there g h a in omega (arith, past, z.1)
