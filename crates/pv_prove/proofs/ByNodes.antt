-- The verdict looks at nodes and roots alone.
use Rattle.std.specs.Prelude.{ℕ, false, List, [], ◌∷◌, Some, slice_get}
use Rattle.std.proofs.Common.{◌≡◌, inl, inr, sym, subst}
use Rattle.pv_graph.specs.declared.node.Node.{Node}
use Rattle.pv_graph.specs.declared.node.Op.TheVariants as op
use Rattle.pv_graph.specs.Nodes.{node_of}
use Rattle.pv_graph.specs.Graphs.{Graph, form_at}
use Rattle.pv_graph.specs.Walks.{IsClosed, Spine}
use Rattle.pv_steps.specs.Right.{RootKids, MayBeAssumed}
use Rattle.pv_heights.specs.Terms.{base}
use Rattle.pv_heights.specs.Verdicts.{Question, AreEndings, plain, ending, IsOverBudget, KidsMeet, Meets, AreSaturated, Decides, DecidesFirst, Verdict, equivalent, apart, rounds, budget, IsVerdictWith, IsVerdict}
use Rattle.pv_heights.proofs.Once.{verdict_once}
use Rattle.pv_prove.specs.declared.outcome.Limits.{Limits}
use Rattle.pv_prove.specs.Finding.{question}
use Rattle.pv_prove.specs.Laws.{VerdictByNodes}

module _ (p q : ℕ) (limits : Limits) where
  -- the question of two nodes of a graph
  abbrev asked : Graph → Question
  asked g = question (record { graph = g; first = p; second = q }) limits

  -- .. of a graph that has these nodes and nothing else
  abbrev bare : List Node → Question
  bare ns = asked (record { nodes = ns; sorts = []; is_open = false; base = 0; is_prepared = false })

  -- what holds of a graph holds of one with the same nodes
  module _ (g h : Graph) (same : g.nodes ≡ h.nodes) where
    root_there : (n : ℕ) → RootKids g n → RootKids h n
    root_there n r = record {
      token = r.token;
      fault_ = r.fault_;
      result = r.result;
      heap = r.heap;
      is = subst (λ (ns : List Node). slice_get ns n ≡ Some (node_of op.Root (r.token ∷ r.fault_ ∷ r.result ∷ r.heap ∷ []))) same r.is;
    }

    may_there : (t n : ℕ) → MayBeAssumed g t n → MayBeAssumed h t n
    may_there t n m = record {
      o = m.o;
      kids = m.kids;
      is = subst (λ (ns : List Node). slice_get ns n ≡ Some (node_of m.o m.kids)) same m.is;
      waits = m.waits;
      closed = subst (λ (ns : List Node). IsClosed (form_at ns) n) same m.closed;
      spine = subst (λ (ns : List Node). Spine (form_at ns) t n) same m.spine;
    }

    module _ (ends : List ℕ) (k : ℕ) where
      over_there : IsOverBudget (asked g) ends k → IsOverBudget (asked h) ends k
      over_there over = subst (λ (ns : List Node). IsOverBudget (bare ns) ends k) same over

      ended_there : (a b : ℕ) → (ending (asked g) ends k).Joins (base a) (base b) → (ending (asked h) ends k).Joins (base a) (base b)
      ended_there a b joined = subst (λ (ns : List Node). (ending (bare ns) ends k).Joins (base a) (base b)) same joined

      plain_there : (a b : ℕ) → (plain (asked g) k).Joins (base a) (base b) → (plain (asked h) k).Joins (base a) (base b)
      plain_there a b joined = subst (λ (ns : List Node). (plain (bare ns) k).Joins (base a) (base b)) same joined

      kids_there : KidsMeet (asked g) ends k → KidsMeet (asked h) ends k
      unfolding root_there
      kids_there m = record {
        left = root_there p m.left;
        right = root_there q m.right;
        tokens = plain_there m.left.token m.right.token m.tokens;
        faults = ended_there m.left.fault_ m.right.fault_ m.faults;
        results = ended_there m.left.result m.right.result m.results;
        heaps = ended_there m.left.heap m.right.heap m.heaps;
      }

      meets_there : Meets (asked g) ends k → Meets (asked h) ends k
      meets_there (inl joined) = inl (plain_there p q joined)
      meets_there (inr kids) = inr (kids_there kids)

      decides_there : Decides (asked g) ends k → Decides (asked h) ends k
      decides_there (inl over) = inl (over_there over)
      decides_there (inr (inl meets)) = inr (inl (meets_there meets))
      decides_there (inr (inr saturated)) = inr (inr (subst (λ (ns : List Node). AreSaturated (bare ns) ends k) same saturated))

  -- so does what is not so, and thus the verdict
  module _ (g h : Graph) (same : g.nodes ≡ h.nodes) where
    endings_there : (ends : List ℕ) → AreEndings (asked g) ends → AreEndings (asked h) ends
    unfolding root_there
    endings_there ends a = record {
      are = λ n. (
        λ m. let z = (a.are n).0 m in (root_there g h same p z.0, may_there g h same z.0.token n z.1),
        λ z. (a.are n).1 (root_there h g (sym same) p z.0, may_there h g (sym same) z.0.token n z.1),
      );
      ordered = a.ordered;
    }

    first_there : (ends : List ℕ) (k : ℕ) → DecidesFirst (asked g) ends k → DecidesFirst (asked h) ends k
    first_there ends k d = record {
      within = d.within;
      decides = decides_there g h same ends k d.decides;
      least = λ j low here. d.least j low (decides_there h g (sym same) ends j here);
    }

    with_there : (ends : List ℕ) (v : Verdict) → IsVerdictWith (asked g) ends v → IsVerdictWith (asked h) ends v
    with_there ends equivalent is = (is.0, first_there ends is.0 is.1, meets_there g h same ends is.0 is.2)
    with_there ends (budget k) is = (first_there ends k is.0, over_there g h same ends k is.1, λ meets. is.2 (meets_there h g (sym same) ends k meets))
    with_there ends apart is = (is.0, first_there ends is.0 is.1, λ meets. is.2 (meets_there h g (sym same) ends is.0 meets), λ over. is.3 (over_there h g (sym same) ends is.0 over))
    with_there ends (rounds n) is = (is.0, λ k low here. is.1 k low (decides_there h g (sym same) ends k here))

    verdict_there : (v : Verdict) → IsVerdict (asked g) v → IsVerdict (asked h) v
    verdict_there v is = (is.0, endings_there is.0 is.1, with_there is.0 v is.2)

pub verdict_by_nodes : VerdictByNodes
verdict_by_nodes l m limits v w nodes first second is is_ =
    let here = verdict_there l.first l.second limits l.graph m.graph nodes v is in
    let one = subst (λ (n : ℕ). IsVerdict (asked n l.second limits m.graph) v) first here in
    let both = subst (λ (n : ℕ). IsVerdict (asked m.first n limits m.graph) v) second one in
    verdict_once (question m limits) v w both is_
