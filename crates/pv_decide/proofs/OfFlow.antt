-- The trees that are made, for a flow and its forest.
use Rattle.std.proofs.Common.{ℕ, ◌-◌, Bool, List, length, sym, ap, ◌∙◌, subst}
use Rattle.pv_decide.proofs.Words.{slice_index, slice_get_within, slice_get-get_or, Forest, Flow, Values, tree_of, Site, GoTo, Stand, IsScope, loops_of, target_of, HasTrees, Gives, IsPlaced, IsWalk, KnowAhead, AreSites, AreReady, IsRegion, scope_by, scope_of, IsOver, IsAsked, IsTreeOf}
use Rattle.pv_flow.specs.declared.block.Flow as code
use Rattle.pv_decide.specs.declared.aim.Scope as scope
use Rattle.pv_decide.specs.declared.tree.Region.{Region}
use Rattle.pv_decide.specs.declared.tree.Region.TheVariants.{Top, Loop}
use Rattle.pv_decide.specs.declared.tree.Target.{Target}
use Rattle.pv_decide.specs.declared.tree.Tree.{Tree}
use Rattle.pv_decide.specs.declared.trees.Trees.{Trees}
use Rattle.pv_decide.proofs.Making.{under}

pub scope_low : (t : Trees) (r : Region) → AreReady t → IsRegion t r → IsScope t.sites.items (scope_of t r)
scope_low t Top ready is = tt
scope_low t (Loop i) ready is = ready.headers i (slice_index t.headers.items i) (slice_get-get_or t.headers.items i 0 is)

stand : (flow : code.Flow) (forest : Forest) (sites : List Site) → AreSites flow forest sites → (f : Flow) (rank : ℕ → ℕ) → IsOver f rank flow forest → Stand f sites
stand flow forest sites are f rank over b site e =
    let u = under flow forest sites are b site e in
    (u.2.around ∙ sym (over.around b (slice_get_within flow.blocks b u.0 u.1)), subst (GoTo (f.chain b)) (sym u.2.exits) (over.chains b u.0 u.1))

-- what a walk gives is the tree of the flow and its forest
pub tree_is : (t : Trees) (r : Region) (target : Target) (known : List Bool) (tree : Tree) → KnowAhead t.sites.items (scope_of t r) target known → IsWalk t.sites.items (scope_of t r) target known tree.nodes.items → IsTreeOf t r target tree
tree_is t r target known tree know walk flow forest of f rank over =
    subst (λ (z : scope.Scope). IsAsked f z target → (v : Values) (s : ℕ) → HasTrees f v (loops_of f z) (target_of target) s → Gives f v z target s tree.nodes.items (length tree.nodes.items - 1) (tree_of f v (loops_of f z) (target_of target) s))
    (ap (λ (hs : List ℕ). scope_by hs r) of.headers)
    (λ asked v s trees.
    let placed : IsPlaced f rank t.sites.items (scope_of t r) target = record { under = record { shape = over.shape; stand = stand flow forest t.sites.items of.sites f rank over; entry = over.entry }; region = asked.heads; target = asked.aimed } in
    walk f rank placed (know.1 f rank placed) v s trees)
