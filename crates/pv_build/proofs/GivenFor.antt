-- A tree with what is given for its nodes: its sorts, and what it gives.
use Rattle.std.proofs.Common.{◌≡◌, ◌≢◌, ℕ, ◌-◌, List, length, Option, None, refl, ap, ◌∙◌, subst}
use Rattle.pv_build.proofs.Words.{OpSort, I, R, Graph, Exp, Values, AreEquations, tree_of, Target, TreeNode, Folds, loops_of, target_of, leaves_of, tests_of, dead_of, Named, AreNames, Within, IsMaybeOf, ReadsMaybe, depths, slot_at, Method, Source, Given, given_by, HasNodeOf, GivesAt, Gives, HasNodeFor, ReadsAt, FoldsTo, flow_in, loops_at, scope_at, IsIntFor, IsExitFor, IsLeafFor, IsSourceFor, IsGivenFor}
use Rattle.pv_equations.specs.Equations.{Leaving}
use Rattle.pv_decide.specs.declared.tree.Target.TheVariants as target
use Rattle.pv_decide.specs.declared.tree.TreeNode.TheVariants as node
use Rattle.pv_build.proofs.Persisting.{Persists, sort_on, reads_on, stands_on, exit_on}

-- exits are asked for slots
abbrev pub OfSlots : Target → Type 0
OfSlots target.Leave = ⊥
OfSlots t = Unit {0}

-- ---- kept as the graph grows

module _ (m : Method) (g h : Graph) (p : Persists g h) (names more : List Named) (w : Within names more) (at : Option ℕ) where
  int_on : (k : Source) (e : Values → Exp) → IsIntFor m g names k e → IsIntFor m h more k e
  int_on k e (n, is, sorted, stands) = (n, is, sort_on g h p n I sorted, stands_on g h p names more w m n e stands)

  exit_for_on : (t : Target) (b e : ℕ) (k : Source) → IsExitFor m g names at t b e k → IsExitFor m h more at t b e k
  exit_for_on t b e k x = record {
    exit = x.exit;
    is = x.is;
    of = x.of;
    aims = x.aims;
    leads = x.leads;
    sorted = exit_on g h p m.typed.now.program m.typed.now.frames x.exit x.sorted;
    reads = λ v eqs s n here. reads_on g h p names more w n _ (x.reads v eqs s n here);
  }

  leaf_on : (t : Target) (b e : ℕ) (k : Source) → IsLeafFor m g names at t b e k → IsLeafFor m h more at t b e k
  leaf_on (target.Node n) b e k x = exit_for_on (target.Node n) b e k x
  leaf_on target.Back b e k x = exit_for_on target.Back b e k x
  leaf_on target.Exit b e k x = exit_for_on target.Exit b e k x
  leaf_on target.Return b e k x = exit_for_on target.Return b e k x
  leaf_on target.Leave b e k x = int_on k (λ v. leaves_of (flow_in m) v (loops_at m at) Leaving 0 b e) x

  source_on : (t : Target) (y : TreeNode) (k : Source) → IsSourceFor m g names at t y k → IsSourceFor m h more at t y k
  source_on t (node.Leaf b e) k x = leaf_on t b e k x
  source_on t (node.Test b e y z) k x = int_on k (λ v. tests_of (flow_in m) v (loops_at m at) b e) x
  source_on t node.Nothing k x = tt
  source_on t node.Dead k x = tt

  pub given_on : (t : Target) (x : Given) → IsGivenFor m g names at t x → IsGivenFor m h more at t x
  given_on t x is = record { tree = is.tree; size = is.size; each = λ n y k there from. source_on t y k (is.each n y k there from); folds = is.folds }

-- ---- what it gives for slots

module _ (m : Method) (g : Graph) (names : List Named) (at : Option ℕ) (t : Target) (x : Given) (is : IsGivenFor m g names at t x) where
  exit_of : OfSlots t → (b e : ℕ) (k : Source) → IsLeafFor m g names at t b e k → IsExitFor m g names at t b e k
  exit_of slots b e k leaf = go t slots leaf
    where
      go : (t : Target) → OfSlots t → IsLeafFor m g names at t b e k → IsExitFor m g names at t b e k
      go (target.Node n) slots leaf = leaf
      go target.Back slots leaf = leaf
      go target.Exit slots leaf = leaf
      go target.Return slots leaf = leaf
      go target.Leave slots leaf = absurd slots

  -- each exit has a node of the slot, of this sort
  abbrev pub ExitsHave : ℕ → OpSort → Type 0
  ExitsHave s o = (b e : ℕ) (k : Source) (y : IsExitFor m g names at t b e k) → HasNodeOf g (slot_at y.exit s) o

  given_exit : (b e s : ℕ) (k : Source) (y : IsExitFor m g names at t b e k) → given_by k s ≡ slot_at y.exit s
  given_exit b e s k y = ap (λ (k : Source). given_by k s) y.is

  int_given : (k : Source) (e : Values → Exp) (s : ℕ) → IsIntFor m g names k e → HasNodeOf g (given_by k s) I
  int_given k e s (n, is, sorted, stands) = (n, ap (λ (k : Source). given_by k s) is, sorted)

  pub gives_slot : OfSlots t → (s : ℕ) (dead : Option ℕ) (o : OpSort) → o ≢ R → IsMaybeOf g o dead → ExitsHave s o → Gives g x s dead o
  gives_slot slots s dead o value dead_is exits = record { value = value; size = is.size; each = λ n y k there from. one y k (is.each n y k there from); dead_is = dead_is }
    where
      one : (y : TreeNode) (k : Source) → IsSourceFor m g names at t y k → GivesAt g k s o y
      one (node.Leaf b e) k leaf = let y = exit_of slots b e k leaf in let h = exits b e k y in (h.0, given_exit b e s k y ∙ h.1, h.2)
      one (node.Test b e y z) k test = int_given k (λ v. tests_of (flow_in m) v (loops_at m at) b e) s test
      one node.Nothing k leaf = tt
      one node.Dead k leaf = tt

  module _ (same : loops_of (flow_in m) (scope_at m at) ≡ loops_at m at) (v : Values) (eqs : AreEquations (flow_in m) v) (are : AreNames (depths (flow_in m)) g.nodes names) where
    -- what the tree gives, where the loops of the region are those of the place
    folded : (s : ℕ) → Folds x.nodes.items (leaves_of (flow_in m) v (loops_at m at) (target_of t) s) (tests_of (flow_in m) v (loops_at m at)) (dead_of (target_of t) s) (length x.nodes.items - 1) (tree_of (flow_in m) v (loops_at m at) (target_of t) s)
    folded s =
        subst (λ (L : List ℕ). Folds x.nodes.items (leaves_of (flow_in m) v L (target_of t) s) (tests_of (flow_in m) v L) (dead_of (target_of t) s) (length x.nodes.items - 1) (tree_of (flow_in m) v (loops_at m at) (target_of t) s)) same (is.folds v eqs s)

    test_for : (b e s : ℕ) (k : Source) → IsIntFor m g names k (λ v. tests_of (flow_in m) v (loops_at m at) b e) → HasNodeFor g.nodes names (given_by k s) (tests_of (flow_in m) v (loops_at m at) b e)
    test_for b e s k (n, is, sorted, stands) = (n, ap (λ (k : Source). given_by k s) is, stands v eqs)

    -- THE TREE GIVES THAT OF THE EQUATIONS
    pub folds_slot : OfSlots t → (s : ℕ) (dead : Option ℕ) (o : OpSort) → ExitsHave s o → ReadsMaybe g.nodes names dead (dead_of (target_of t) s) → FoldsTo g.nodes names x s dead (tree_of (flow_in m) v (loops_at m at) (target_of t) s)
    folds_slot slots s dead o exits ended = record {
      depth = depths (flow_in m);
      are_names = are;
      size = is.size;
      leaf = leaves_of (flow_in m) v (loops_at m at) (target_of t) s;
      test = tests_of (flow_in m) v (loops_at m at);
      ended = dead_of (target_of t) s;
      each = λ n y k there from. one y k (is.each n y k there from);
      dead_gives = ended;
      folds = folded s;
    }
      where
        one : (y : TreeNode) (k : Source) → IsSourceFor m g names at t y k → ReadsAt g.nodes names k s (leaves_of (flow_in m) v (loops_at m at) (target_of t) s) (tests_of (flow_in m) v (loops_at m at)) y
        one (node.Leaf b e) k leaf =
            let y = exit_of slots b e k leaf in
            let h = exits b e k y in
            (h.0, given_exit b e s k y ∙ h.1, y.reads v eqs s h.0 h.1)
        one (node.Test b e y z) k test = test_for b e s k test
        one node.Nothing k leaf = tt
        one node.Dead k leaf = tt

-- ---- whether a loop is left

module _ (m : Method) (g : Graph) (names : List Named) (at : Option ℕ) (x : Given) (is : IsGivenFor m g names at target.Leave x) where
  left_given : (k : Source) (e : Values → Exp) → IsIntFor m g names k e → HasNodeOf g (given_by k 0) I
  left_given k e (n, is, sorted, stands) = (n, ap (λ (k : Source). given_by k 0) is, sorted)

  pub gives_left : Gives g x 0 None I
  gives_left = record { value = λ e. absurd (cc); size = is.size; each = λ n y k there from. one y k (is.each n y k there from); dead_is = tt }
    where
      one : (y : TreeNode) (k : Source) → IsSourceFor m g names at target.Leave y k → GivesAt g k 0 I y
      one (node.Leaf b e) k leaf = left_given k (λ v. leaves_of (flow_in m) v (loops_at m at) Leaving 0 b e) leaf
      one (node.Test b e y z) k test = left_given k (λ v. tests_of (flow_in m) v (loops_at m at) b e) test
      one node.Nothing k leaf = tt
      one node.Dead k leaf = tt

  module _ (same : loops_of (flow_in m) (scope_at m at) ≡ loops_at m at) (v : Values) (eqs : AreEquations (flow_in m) v) (are : AreNames (depths (flow_in m)) g.nodes names) where
    int_for : (k : Source) (e : Values → Exp) → IsIntFor m g names k e → HasNodeFor g.nodes names (given_by k 0) (e v)
    int_for k e (n, is, sorted, stands) = (n, ap (λ (k : Source). given_by k 0) is, stands v eqs)

    pub folds_left : FoldsTo g.nodes names x 0 None (tree_of (flow_in m) v (loops_at m at) Leaving 0)
    folds_left = record {
      depth = depths (flow_in m);
      are_names = are;
      size = is.size;
      leaf = leaves_of (flow_in m) v (loops_at m at) Leaving 0;
      test = tests_of (flow_in m) v (loops_at m at);
      ended = None;
      each = λ n y k there from. one y k (is.each n y k there from);
      dead_gives = refl;
      folds = folded m g names at target.Leave x is same v eqs are 0;
    }
      where
        one : (y : TreeNode) (k : Source) → IsSourceFor m g names at target.Leave y k → ReadsAt g.nodes names k 0 (leaves_of (flow_in m) v (loops_at m at) Leaving 0) (tests_of (flow_in m) v (loops_at m at)) y
        one (node.Leaf b e) k leaf = int_for k (λ v. leaves_of (flow_in m) v (loops_at m at) Leaving 0 b e) leaf
        one (node.Test b e y z) k test = int_for k (λ v. tests_of (flow_in m) v (loops_at m at) b e) test
        one node.Nothing k leaf = tt
        one node.Dead k leaf = tt
