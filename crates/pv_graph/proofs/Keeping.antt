-- What a graph keeps beside its nodes stays right.
use Rattle.std.specs.Prelude.{◌≡◌, ℕ, ◌+◌, ◌<◌, ◌^◌, Bool, List, [], ◌∷◌, ◌++◌, length, Option, Some, None, if◌then◌else◌, refl}
use Rattle.std.proofs.Common.{inl, inr, sym, ap, ◌∙◌, subst, arith, false}
use Rattle.std.proofs.lemmas.Option.{slice_get_within, same_Some}
use Rattle.pv_graph.specs.declared.node.Op.{Op}
use Rattle.pv_graph.specs.declared.node.Node.{Node}
use Rattle.pv_graph.specs.declared.node.OpSort.{OpSort}
use Rattle.pv_graph.specs.declared.prepared.Prepared.{Prepared}
use Rattle.pv_graph.specs.Nodes.{node_of, IsOpen, IsFirst, IsAbsent}
use Rattle.pv_graph.specs.Ops.{sort_over, HaveSorts, HasSort, is_variable}
use Rattle.pv_graph.specs.Graphs.{Graph, IsRanged, IsGraph}
use Rattle.pv_graph.proofs.Elements.{found}
use Rattle.pv_graph.specs.Calls.{MayAdd, FitsOver, Added, appended}
use Rattle.pv_graph.specs.Index.{Numbers, number_in, Renumbers, IsIndex}
use Rattle.pv_graph.specs.Kept.{graph_of, IsKept}
use Rattle.pv_graph.proofs.Appending.{index_same, index_push, first_last, is_graph, after_length}

pub same_parts : (nodes nodes' : List Node) (sorts sorts' : List OpSort) (open_ : Bool) (base : ℕ) (prepared : Option Prepared) → nodes ≡ nodes' → sorts ≡ sorts' → graph_of nodes sorts open_ base prepared ≡ graph_of nodes' sorts' open_ base prepared
same_parts nodes nodes' sorts sorts' open_ base prepared e f = ap (λ (xs : List Node). graph_of xs sorts open_ base prepared) e ∙ ap (λ (ss : List OpSort). graph_of nodes' ss open_ base prepared) f

-- the same graph, with the same numbers
pub kept_same : (g after : Graph) (old new : Numbers) (prepared : Option Prepared) → IsKept g old prepared → after ≡ g → ((node : Node) → number_in new node ≡ number_in old node) → IsKept after new prepared
kept_same g after old new prepared is e same =
    subst (λ (x : Graph). IsKept x new prepared) (sym e) (record { graph = is.graph; few = is.few; index = index_same g.nodes old new same is.index; tables = is.tables })

nothing_prepared : (nodes : List Node) (p : Prepared) {X : Type 0} → None ≡ Some p → X
nothing_prepared nodes p e = absurd (cc)

-- copies of the nodes and sorts, with numbers of their own
pub copied : (nodes nodes' : List Node) (sorts sorts' : List OpSort) (open_ : Bool) (base : ℕ) (prepared : Option Prepared) (old new : Numbers) → IsKept (graph_of nodes sorts open_ base prepared) old prepared → nodes' ≡ nodes → sorts' ≡ sorts → IsIndex nodes new
    → IsKept (graph_of nodes' sorts' open_ base None) new None
copied nodes nodes' sorts sorts' open_ base prepared old new is e f index =
    subst (λ (xs : List Node). IsKept (graph_of xs sorts' open_ base None) new None) (sym e)
    (subst (λ (ss : List OpSort). IsKept (graph_of nodes ss open_ base None) new None) (sym f)
    (record {
      graph = record { long = is.graph.long; base = is.graph.base; open_ = is.graph.open_; sorted = is.graph.sorted; early = is.graph.early; late = is.graph.late; ranged = is.graph.ranged; variables = is.graph.variables };
      few = is.few;
      index = index;
      tables = λ p none. nothing_prepared nodes p none;
    }))

-- a node more, which has its number
pub kept_push : (g after : Graph) (old new : Numbers) (prepared : Option Prepared) (node : Node) (s : OpSort) → IsKept g old prepared
    → IsAbsent g.nodes node → (IsOpen node → ⊥) → HasSort g.sorts node.op node.kids s → IsRanged node.op → (g.is_open ≡ false → is_variable node.op ≡ false) → length g.nodes + 1 < 2 ^ 32 → Renumbers old new node (length g.nodes)
    → after.nodes ≡ g.nodes ++ node ∷ [] → after.sorts ≡ g.sorts ++ s ∷ [] → after.is_open ≡ g.is_open → (b : Bool) → g.is_open ≡ b → after.base ≡ (if b then length g.nodes + 1 else g.base) → IsKept after new None
kept_push g after old new prepared node s is absent tied has ranged none few by nodes_ sorts_ same b open_ base = record {
  graph = is_graph g node s is.graph (inl has) after nodes_ sorts_ same ranged none b open_ base;
  few = subst (λ (n : ℕ). n < 2 ^ 32) (sym (after_length g node s is.graph (inl has) after nodes_ sorts_ same)) few;
  index = subst (λ (xs : List Node). IsIndex xs new) (sym nodes_) (index_push g.nodes node old new absent tied by is.index);
  tables = λ p e. nothing_prepared g.nodes p e;
}

-- what `append` does, of a graph that is seen as `now`
pub kept_append : (g now after : Graph) (old new : Numbers) (prepared : Option Prepared) (node copy : Node) (s : OpSort) (n : ℕ) → IsKept g old prepared → g ≡ now
    → IsAbsent now.nodes node → (IsOpen node → ⊥) → HasSort now.sorts node.op node.kids s → IsRanged node.op → (g.is_open ≡ false → is_variable node.op ≡ false) → n ≡ length g.nodes → n + 1 < 2 ^ 32 → copy ≡ node → Renumbers old new copy n
    → after.nodes ≡ g.nodes ++ node ∷ [] → after.sorts ≡ g.sorts ++ s ∷ [] → after.is_open ≡ g.is_open → (b : Bool) → g.is_open ≡ b → after.base ≡ (if b then n + 1 else g.base) → IsKept after new None
kept_append g now after old new prepared node copy s n is view absent tied has ranged none number few same_copy by nodes_ sorts_ same b open_ base =
    kept_push g after old new prepared node s is
    (subst (λ (x : Graph). IsAbsent x.nodes node) (sym view) absent) tied
    (subst (λ (x : Graph). HasSort x.sorts node.op node.kids s) (sym view) has) ranged none
    (subst (λ (k : ℕ). k + 1 < 2 ^ 32) number few)
    (subst (λ (x : Node). Renumbers old new x (length g.nodes)) same_copy (subst (λ (k : ℕ). Renumbers old new copy k) number by))
    nodes_ sorts_ same b open_ (base ∙ ap (λ (k : ℕ). if b then k + 1 else g.base) number)

-- ---- what `add` gives

-- a node that has a number
pub there_added : (g : Graph) (numbers : Numbers) (prepared : Option Prepared) (o : Op) (kids : List ℕ) (n : ℕ) → IsKept g numbers prepared → MayAdd g o → number_in numbers (node_of o kids) ≡ Some n → Added g g o kids n
there_added g numbers prepared o kids n is may e = record { fits = fits; first = first; grows = inl refl; graph = is.graph }
  where
    first : IsFirst g.nodes (node_of o kids) n
    first = is.index.first (node_of o kids) n e

    fits : FitsOver g o kids
    fits =
        let s = found g.sorts n (omega (arith, is.graph.long, slice_get_within g.nodes n (node_of o kids) first.there)) in
        elim (is.graph.sorted n (node_of o kids) s.0 first.there s.1) [ inl has ↦ (s.0, has) | inr un ↦ absurd (may un.0 un.1.depth un.1.theta_) ]

have_once : (all : List OpSort) (kids : List ℕ) (sorts sorts' : List OpSort) → HaveSorts all kids sorts → HaveSorts all kids sorts' → sorts ≡ sorts'
have_once all [] [] [] p q = refl
have_once all [] (s ∷ ss) ts p q = absurd p
have_once all [] [] (t ∷ ts) p q = absurd q
have_once all (k ∷ ks) [] ts p q = absurd p
have_once all (k ∷ ks) (s ∷ ss) [] p q = absurd q
have_once all (k ∷ ks) (s ∷ ss) (t ∷ ts) p q =
    let one : s ≡ t = same_Some s t (sym p.0 ∙ q.0) in
    let others : ss ≡ ts = have_once all ks ss ts p.1 q.1 in
    cc (one, others)

-- kids whose sorts the operation doesn't take
pub none_fits : (g now : Graph) (o : Op) (kids : List ℕ) (sorts : List OpSort) → g ≡ now → HaveSorts g.sorts kids sorts → sort_over o sorts ≡ None → FitsOver now o kids → ⊥
none_fits g now o kids sorts view have none fits =
    let there : HaveSorts g.sorts kids fits.1.sorts = subst (λ (x : Graph). HaveSorts x.sorts kids fits.1.sorts) (sym view) fits.1.kids_have in
    let same : fits.1.sorts ≡ sorts = have_once g.sorts kids fits.1.sorts sorts there have in
    let over = ap (sort_over o) (sym same) ∙ fits.1.over in
    absurd (cc (none, over))

-- a new node
pub new_added : (old new : Graph) (node : Node) (s : OpSort) (n : ℕ) → IsAbsent old.nodes node → HasSort old.sorts node.op node.kids s → n ≡ length old.nodes → new ≡ appended old node s new.is_prepared → IsGraph new → Added old new node.op node.kids n
new_added old new node s n absent has number grows graph = record {
  fits = (s, has);
  first = subst (λ (k : ℕ). IsFirst new.nodes node k) (sym number) (subst (λ (xs : List Node). IsFirst xs node (length old.nodes)) (sym (ap (λ (g : Graph). g.nodes) grows)) (first_last old.nodes node absent));
  grows = inr (absent, grows);
  graph = graph;
}

pub appended_is : (g after : Graph) (node : Node) (s : OpSort) → after.nodes ≡ g.nodes ++ node ∷ [] → after.sorts ≡ g.sorts ++ s ∷ [] → after.is_open ≡ g.is_open → after.base ≡ (if g.is_open then length g.nodes + 1 else g.base) → after ≡ appended g node s after.is_prepared
appended_is g after node s nodes_ sorts_ same base =
    ap (λ (xs : List Node). record { nodes = xs; sorts = after.sorts; is_open = after.is_open; base = after.base; is_prepared = after.is_prepared }) nodes_
    ∙ ap (λ (ss : List OpSort). record { nodes = g.nodes ++ node ∷ []; sorts = ss; is_open = after.is_open; base = after.base; is_prepared = after.is_prepared }) sorts_
    ∙ ap (λ (b : Bool). record { nodes = g.nodes ++ node ∷ []; sorts = g.sorts ++ s ∷ []; is_open = b; base = after.base; is_prepared = after.is_prepared }) same
    ∙ ap (λ (m : ℕ). record { nodes = g.nodes ++ node ∷ []; sorts = g.sorts ++ s ∷ []; is_open = g.is_open; base = m; is_prepared = after.is_prepared }) base

-- what `append` gives, of a graph that is seen as `now`
pub append_gives : (g now after : Graph) (node : Node) (s : OpSort) (n : ℕ) → g ≡ now → IsAbsent now.nodes node → HasSort now.sorts node.op node.kids s → n ≡ length g.nodes
    → after.nodes ≡ g.nodes ++ node ∷ [] → after.sorts ≡ g.sorts ++ s ∷ [] → after.is_open ≡ g.is_open → (b : Bool) → g.is_open ≡ b → after.base ≡ (if b then n + 1 else g.base) → IsGraph after → Added now after node.op node.kids n
append_gives g now after node s n view absent has number nodes_ sorts_ same b open_ base graph =
    subst (λ (x : Graph). Added x after node.op node.kids n) view
    (new_added g after node s n (subst (λ (x : Graph). IsAbsent x.nodes node) (sym view) absent) (subst (λ (x : Graph). HasSort x.sorts node.op node.kids s) (sym view) has) number
    (appended_is g after node s nodes_ sorts_ same (base ∙ ap (λ (k : ℕ). if b then k + 1 else g.base) number ∙ ap (λ (t : Bool). if t then length g.nodes + 1 else g.base) (sym open_))) graph)
