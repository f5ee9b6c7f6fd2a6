-- Nodes that `==` takes for one are one.
use Rattle.std.proofs.Common.{◌≡◌, ◌≢◌, ◌⊎◌, inl, inr, ◌==◌, ℕ, Bool, true, false, ◌&&◌, List, Some, refl, sym, ap, ◌∙◌, true≢false}
use Rattle.std.specs.HashMap.{Updates}
use Rattle.std.specs.Cmp.Lexicographic.{pointwise}
use Rattle.std.proofs.lemmas.Bool.Decides.{Decides-eqb, Decides-int_eq}
use Rattle.std.proofs.lemmas.Slice.Eq.{slice_eq-Decides}
use denote.Enum.Bare.{same_true}
use Rattle.pv_value.specs.contracts.operation.ScalarOp.{the_type as a_scalar}
use Rattle.pv_value.specs.contracts.operation.ScalarOpPartialEq.TheImpl.{eq-value as scalar_eq}
use Rattle.pv_value.specs.contracts.heap.Kind.{the_type as a_kind}
use Rattle.pv_value.specs.contracts.heap.KindPartialEq.TheImpl.{eq-value as kind_eq}
use Rattle.pv_value.specs.contracts.name.SymPartialEq.TheImpl.{eq-value as sym_eq}
use Rattle.pv_value.specs.declared.operation.ScalarOp.{ScalarOp}
use Rattle.pv_value.specs.declared.heap.Kind.{Kind}
use Rattle.pv_value.specs.declared.name.Sym.{Sym}
use Rattle.pv_graph.specs.contracts.node.OpSort.{the_type as a_sort}
use Rattle.pv_graph.specs.contracts.node.OpSortPartialEq.TheImpl.{eq-value as sort_eq}
use Rattle.pv_graph.specs.contracts.node.NodePartialEq.TheImpl.{eq-value as node_eq}
use Rattle.pv_graph.specs.contracts.node.OpPartialEq.TheImpl.{eq-value as op_eq}
use Rattle.pv_graph.specs.contracts.node.NodeEq.TheImpl.Laws.{laws-law}
use Rattle.pv_graph.specs.Index.{Numbers, Renumbers}
use Rattle.pv_graph.specs.declared.node.Op.{Op}
use Rattle.pv_graph.specs.declared.node.Op.TheVariants as op
use Rattle.pv_graph.specs.declared.node.Node.{Node}
use Rattle.pv_graph.specs.declared.node.OpSort.{OpSort}

and_parts : (a b : Bool) → (a && b) ≡ true → (a ≡ true) × (b ≡ true)
and_parts true b e = (refl, e)
and_parts false b e = absurd (cc)

same_sorts : (s t : OpSort) → sort_eq.it s t ≡ true → s ≡ t
same_sorts s t e = same_true a_sort tt s t e

same_scalars : (a b : ScalarOp) → scalar_eq.it a b ≡ true → a ≡ b
same_scalars a b e = same_true a_scalar tt a b e

same_kinds : (a b : Kind) → kind_eq.it a b ≡ true → a ≡ b
same_kinds a b e = same_true a_kind tt a b e

same_bytes : (a b : List ℕ) → pointwise ◌==◌ a b ≡ true → a ≡ b
same_bytes a b e = (slice_eq-Decides Decides-eqb a b (pointwise ◌==◌ a b) refl).0 e

same_syms : (a b : Sym) → sym_eq.it a b ≡ true → a ≡ b
same_syms a b e =
    let front = and_parts (pointwise ◌==◌ a.class b.class) (pointwise ◌==◌ a.name b.name && pointwise ◌==◌ a.desc b.desc) e in
    let parts = and_parts (pointwise ◌==◌ a.name b.name) (pointwise ◌==◌ a.desc b.desc) front.1 in
    ap (λ (n : List ℕ). record { class = n; name = a.name; desc = a.desc }) (same_bytes a.class b.class front.0)
    ∙ ap (λ (n : List ℕ). record { class = b.class; name = n; desc = a.desc }) (same_bytes a.name b.name parts.0)
    ∙ ap (λ (n : List ℕ). record { class = b.class; name = b.name; desc = n }) (same_bytes a.desc b.desc parts.1)

same_ops : (a b : Op) → op_eq.it a b ≡ true → a ≡ b
same_ops (op.Int m) (op.Int n) e = ap op.Int ((Decides-int_eq m n).0 e)
same_ops (op.Long m) (op.Long n) e = ap op.Long ((Decides-int_eq m n).0 e)
same_ops op.Null op.Null e = refl
same_ops (op.Literal s) (op.Literal t) e = ap op.Literal (same_bytes s t e)
same_ops (op.Param j s) (op.Param k t) e =
    let parts = and_parts (j == k) (sort_eq.it s t) e in
    let number : j ≡ k = (Decides-eqb j k).0 parts.0 in
    let sort_ : s ≡ t = same_sorts s t parts.1 in
    cc (number, sort_)
same_ops op.This op.This e = refl
same_ops op.Heap0 op.Heap0 e = refl
same_ops op.Unit op.Unit e = refl
same_ops op.Never op.Never e = refl
same_ops op.Clear op.Clear e = refl
same_ops op.FNull op.FNull e = refl
same_ops op.FArith op.FArith e = refl
same_ops op.FIndex op.FIndex e = refl
same_ops op.Zero op.Zero e = refl
same_ops op.Succ op.Succ e = refl
same_ops op.Thrown op.Thrown e = refl
same_ops op.IsClear op.IsClear e = refl
same_ops op.Both op.Both e = refl
same_ops op.Phi op.Phi e = refl
same_ops (op.Theta d) (op.Theta e) h = ap op.Theta ((Decides-eqb d e).0 h)
same_ops (op.Eval d) (op.Eval e) h = ap op.Eval ((Decides-eqb d e).0 h)
same_ops (op.Pass d) (op.Pass e) h = ap op.Pass ((Decides-eqb d e).0 h)
same_ops (op.Shift d) (op.Shift e) h = ap op.Shift ((Decides-eqb d e).0 h)
same_ops op.Root op.Root e = refl
same_ops (op.Scalar a) (op.Scalar b) e = ap op.Scalar (same_scalars a b e)
same_ops op.Aeq op.Aeq e = refl
same_ops (op.GetStatic s) (op.GetStatic t) e = ap op.GetStatic (same_syms s t e)
same_ops (op.PutStatic s) (op.PutStatic t) e = ap op.PutStatic (same_syms s t e)
same_ops (op.GetField s) (op.GetField t) e = ap op.GetField (same_syms s t e)
same_ops (op.PutField s) (op.PutField t) e = ap op.PutField (same_syms s t e)
same_ops (op.Load s) (op.Load t) e = ap op.Load (same_kinds s t e)
same_ops (op.Store s) (op.Store t) e = ap op.Store (same_kinds s t e)
same_ops op.Length op.Length e = refl
same_ops (op.CallEnd s) (op.CallEnd t) e = ap op.CallEnd (same_syms s t e)
same_ops (op.CallRes s) (op.CallRes t) e = ap op.CallRes (same_syms s t e)
same_ops (op.CallFault s) (op.CallFault t) e = ap op.CallFault (same_syms s t e)
same_ops (op.CallHeap s) (op.CallHeap t) e = ap op.CallHeap (same_syms s t e)
same_ops (op.Var j s) (op.Var k t) e =
    let parts = and_parts (j == k) (sort_eq.it s t) e in
    let number : j ≡ k = (Decides-eqb j k).0 parts.0 in
    let sort_ : s ≡ t = same_sorts s t parts.1 in
    cc (number, sort_)
same_ops a b e = absurd (true≢false (sym e))

pub same_nodes : (a b : Node) → node_eq.it a b ≡ true → a ≡ b
same_nodes a b e =
    let parts = and_parts (op_eq.it a.op b.op) (pointwise ◌==◌ a.kids b.kids) e in
    let kids : a.kids ≡ b.kids = same_bytes a.kids b.kids parts.1 in
    ap (λ (o : Op). record { op = o; kids = a.kids }) (same_ops a.op b.op parts.0) ∙ ap (λ (ks : List ℕ). record { op = b.op; kids = ks }) kids

-- nodes are one or not
pub same_or_other : (a b : Node) → (a ≡ b) ⊎ (a ≢ b)
same_or_other a b = by (node_eq.it a b) refl
  where
    by : (t : Bool) → node_eq.it a b ≡ t → (a ≡ b) ⊎ (a ≢ b)
    by true e = inl (same_nodes a b e)
    by false e = inr (λ same. true≢false (sym (laws-law.refl a) ∙ ap (node_eq.it a) same ∙ e))

-- what an insert into the map of numbers does
pub renumbers : (old new : Numbers) (node : Node) (n : ℕ) → Updates node_eq.it old new node (Some n) → Renumbers old new node n
renumbers old new node n h = record { here = h.1; others = λ other ne. h.2 other (differ other ne) }
  where
    differ : (other : Node) → other ≢ node → node_eq.it node other ≡ false
    differ other ne = by (node_eq.it node other) refl
      where
        by : (t : Bool) → node_eq.it node other ≡ t → t ≡ false
        by true e = absurd (ne (sym (same_nodes node other e)))
        by false e = refl
