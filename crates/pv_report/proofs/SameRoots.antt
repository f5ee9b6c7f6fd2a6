-- The roots of a method unfold as each other in all graphs, so that two methods have one least graph; and a sealed graph has its nodes.
use Rattle.std.proofs.Common.{◌≡◌, ℕ, ◌<◌, List, length, true, Option, sym, ap, subst, ◌∙◌}
use Rattle.std.specs.Prelude.{IfOk, Result, Ok, Err}
use Rattle.pv_value.specs.declared.memory.Memory.{Memory}
use Rattle.pv_class.specs.declared.file.ClassFile.{ClassFile}
use Rattle.pv_class.specs.declared.file.Method.{Method}
use Rattle.pv_class.proofs.Cited.{HasBytes}
use Rattle.pv_frame.specs.declared.program.Program.{Program}
use Rattle.pv_frame.specs.declared.frame.Frame.{Frame}
use Rattle.pv_live.specs.Needed.{AreNeeded}
use Rattle.pv_frame.proofs.Cited.{one_program}
use Rattle.pv_live.proofs.Cited.{needed_once}
use Rattle.pv_flow.specs.declared.block.Block.{Block}
use Rattle.pv_flow.specs.Blocks.{IsFlow}
use Rattle.pv_flow.specs.Edges.{edges_of}
use Rattle.pv_flow.proofs.Cited.{one_flow}
use Rattle.pv_loops.specs.Forests.{IsForest, IsSameForest}
use Rattle.pv_loops.proofs.Cited.{one_forest}
use Rattle.pv_graph.specs.declared.node.Node.{Node}
use Rattle.pv_graph.specs.declared.node.OpSort.TheVariants.{R}
use Rattle.pv_graph.specs.Unfold.{UnfoldsAs}
use Rattle.pv_graph.specs.Graphs.{Graph, IsGraph, IsWellMade, form_at}
use Rattle.pv_graph.specs.Calls.{IsOpenTheta, empty_graph, Sealed}
use Rattle.pv_graph.proofs.Cited.{empty_made, growth_unfolds}
use Rattle.pv_equations.specs.Flow.{Flow}
use Rattle.pv_terms.specs.Terms.{Enlarges, IsOfSort}
use Rattle.pv_terms.proofs.Cited.{sorted_within}
use Rattle.pv_runs.specs.Methods.{flow_of}
use Rattle.pv_build.specs.Unfolded.{IsUnfolded}
use Rattle.pv_build.specs.Conversion.{Form, IsRootOf}
use Rattle.pv_alike.specs.Least.{Rooted, IsLeast, IsLeastOf}
use Rattle.pv_alike.specs.Laws.{IsSameRooted}
use Rattle.pv_alike.proofs.Cited.{same_least, same_least_nodes}
use Rattle.pv_report.specs.Roots.{HaveLeast, IsWhole}
use Rattle.pv_report.proofs.SameFlows.{same_flow, alike_flows}
use Rattle.pv_report.proofs.SameMeanings.{solved}

-- ---- one flow of a method

module _ (file : ClassFile) (m : Method) (a b : Form file m) (bytes : HasBytes m) where
  one_program_ : a.program ≡ b.program
  one_program_ = one_program file m a.program b.program bytes a.accepted.of_method b.accepted.of_method

  one_frames : a.frames ≡ b.frames
  one_frames = needed_once b.program a.frames b.frames (subst (λ (p : Program). AreNeeded p a.frames) one_program_ a.needed) b.needed

  one_blocks : a.blocks ≡ b.blocks
  one_blocks = one_flow b.program a.blocks b.blocks (subst (λ (p : Program). IsFlow p a.blocks) one_program_ a.shaped.flow) b.shaped.flow

  one_forest_ : IsSameForest a.forest b.forest
  one_forest_ = one_forest (edges_of b.blocks) a.forest b.forest (subst (λ (blocks : List Block). IsForest (edges_of blocks) a.forest) one_blocks a.shaped.loops) b.shaped.loops

  one_flow_of : flow_of a.program a.frames a.blocks a.forest ≡ flow_of b.program b.frames b.blocks b.forest
  one_flow_of =
      ap (λ (p : Program). flow_of p a.frames a.blocks a.forest) one_program_
      ∙ ap (λ (f : List (Option Frame)). flow_of b.program f a.blocks a.forest) one_frames
      ∙ ap (λ (bs : List Block). flow_of b.program b.frames bs a.forest) one_blocks
      ∙ same_flow (flow_of b.program b.frames b.blocks a.forest) (flow_of b.program b.frames b.blocks b.forest) (alike_flows b.program b.frames b.blocks a.forest b.forest one_forest_)

-- the roots of a method, in two graphs, unfold as each other
one_root : (g h : Graph) (r s : ℕ) (file : ClassFile) (m : Method) → HasBytes m → IsRootOf g r file m → IsRootOf h s file m → UnfoldsAs (form_at g.nodes) (form_at h.nodes) r s
one_root g h r s file m bytes x y =
    let a = x.form in
    let b = y.form in
    let v = solved file m b in
    let f = flow_of b.program b.frames b.blocks b.forest in
    let one : IsUnfolded g f b.program.desc.result r = subst (λ (k : Flow). IsUnfolded g k b.program.desc.result r) (one_flow_of file m a b bytes) (subst (λ (p : Program). IsUnfolded g (flow_of a.program a.frames a.blocks a.forest) p.desc.result r) (one_program_ file m a b bytes) x.built) in
    λ k. one v.0 v.1 k ∙ sym (y.built v.0 v.1 k)

-- ---- a graph that grows

-- a root stays one
pub root_kept : (g h : Graph) (r : ℕ) (file : ClassFile) (m : Method) → IsGraph g → IsOfSort g r R → Enlarges g h → IsRootOf g r file m → IsRootOf h r file m
root_kept g h r file m is sort grows root = record {
  form = root.form;
  built = λ v eq k. growth_unfolds g h is grows.extends r (sorted_within g r R is sort) k ∙ root.built v eq k;
}

-- the graph without nodes is well made, and open
pub new_made : (g : Graph) → g ≡ empty_graph → IsWellMade g
new_made g e = subst IsWellMade (sym e) empty_made

pub new_open : (g : Graph) → g ≡ empty_graph → g.is_open ≡ true
new_open g e = ap (λ (k : Graph). k.is_open) e

-- what grows from it is whole
pub grown_whole : (a b c : Graph) → a ≡ empty_graph → Enlarges a b → Enlarges b c → IsWhole c
grown_whole a b c e p q = record {
  made = q.made (p.made (new_made a e));
  finished = λ n is. let old = p.left n (q.left n is) in let none = subst (λ (g : Graph). IsOpenTheta g n) e old in absurd (let z = none.1 in cc);
}

-- .. and open
pub still_open : (a b c : Graph) → a ≡ empty_graph → Enlarges a b → Enlarges b c → c.is_open ≡ true
still_open a b c e p q = q.open_ ∙ p.open_ ∙ new_open a e

-- ---- sealing

pub sealed_nodes : (g h : Graph) → Sealed g h → h.nodes ≡ g.nodes
sealed_nodes g h s = ap (λ (k : Graph). k.nodes) s.sealed

pub sealed_within : (g h : Graph) (n : ℕ) → Sealed g h → n < length g.nodes → n < length h.nodes
sealed_within g h n s lt = subst (λ (xs : List Node). n < length xs) (sym (sealed_nodes g h s)) lt

-- ---- the least graph of two roots

-- the least graph of nodes of a sealed graph was theirs before
least_kept : (g h : Graph) (a b : ℕ) (l : Rooted) → Sealed g h → IsLeastOf h a b l → IsLeastOf g a b l
least_kept g h a b l s is = record {
  least = subst (λ (xs : List Node). IsLeast xs a b l.graph.nodes l.first l.second) (sealed_nodes g h s) is.least;
  sealed = is.sealed;
  base = is.base;
  made = is.made;
}

pub answer_kept : (g h : Graph) (a b : ℕ) (r : Result Rooted Memory) → Sealed g h → IfOk r (λ l. IsLeastOf h a b l) → IfOk r (λ l. IsLeastOf g a b l)
answer_kept g h a b (Ok l) s is = least_kept g h a b l s is
answer_kept g h a b (Err e) s is = is

-- two of the same methods differ at most in being prepared
pub one_rooted : (f : ClassFile) (m : Method) (g : ClassFile) (p : Method) (l k : Rooted) → HasBytes m → HasBytes p → HaveLeast f m g p l → HaveLeast f m g p k → IsSameRooted l k
one_rooted f m g p l k fm fp h j =
    let a = h.roots in
    let b = j.roots in
    (same_least a.graph b.graph a.root a.other b.root b.other l k h.least j.least).1
    (record { first = one_root a.graph b.graph a.root b.root f m fm a.one b.one; second = one_root a.graph b.graph a.other b.other g p fp a.two b.two })

-- two of the same methods have the same nodes, and their roots the same numbers
pub one_least : (f : ClassFile) (m : Method) (g : ClassFile) (p : Method) (l k : Rooted) → HasBytes m → HasBytes p → HaveLeast f m g p l → HaveLeast f m g p k → (l.graph.nodes ≡ k.graph.nodes) × (l.first ≡ k.first) × (l.second ≡ k.second)
one_least f m g p l k fm fp h j =
    let a = h.roots in
    let b = j.roots in
    (same_least_nodes a.graph.nodes b.graph.nodes a.root a.other b.root b.other l.graph.nodes k.graph.nodes l.first l.second k.first k.second h.least.least j.least.least).1
    (record { first = one_root a.graph b.graph a.root b.root f m fm a.one b.one; second = one_root a.graph b.graph a.other b.other g p fp a.two b.two })
