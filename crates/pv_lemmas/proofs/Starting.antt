-- The graph of the variables of a lemma as it is made, and nodes of their sorts.
use Rattle.std.specs.Prelude.{◌≡◌, ℕ, suc, ◌+◌, ◌<◌, ◌≤◌, Bool, true, false, List, [], ◌∷◌, ◌++◌, length, map, Some, slice_get, refl}
use Rattle.std.proofs.Common.{inl, inr, sym, ap, ◌∙◌, arith, length-append}
use Rattle.std.proofs.lemmas.List.{length-map, map-append}
use Rattle.std.proofs.lemmas.Option.{slice_get_within, same_Some}
use Rattle.std.specs.Bool.{OnTrue, OnFalse}
use Rattle.pv_graph.specs.declared.node.Op.TheVariants as op
use Rattle.pv_graph.specs.declared.node.OpSort.{OpSort}
use Rattle.pv_graph.specs.declared.node.Node.{Node}
use Rattle.pv_graph.specs.Ops.{HaveSorts, sort_over}
use Rattle.pv_graph.specs.Nodes.{node_of}
use Rattle.pv_graph.specs.Graphs.{Graph}
use Rattle.pv_graph.specs.Calls.{IsSame, appended, FitsOver, MayAdd, Added, IsFinished, Sealed}
use Rattle.pv_graph.proofs.Cited.{equal_or_not}
use Rattle.pv_steps.specs.declared.step.Var.{Var}
use Rattle.pv_lemmas.specs.Lemmas.{variables_from, settled_from, variables_graph}
use Rattle.pv_lemmas.proofs.Lists.{get_map, get_mapped, zip_places, zip_length, zip_at}
use Rattle.pv_lemmas.proofs.Variables.{variables_length, variable_node}

-- ---- one variable more

variables_push : (j : ℕ) (vs : List Var) (v : Var) → variables_from j (vs ++ v ∷ []) ≡ variables_from j vs ++ node_of (op.Var (j + length vs) v.sort) [] ∷ []
variables_push j [] v = let z : j ≡ j + 0 = omega arith in ap (λ (k : ℕ). node_of (op.Var k v.sort) [] ∷ []) z
variables_push j (u ∷ vs) v =
    let z : suc j + length vs ≡ j + suc (length vs) = omega arith in
    ap (λ (ns : List Node). node_of (op.Var j u.sort) [] ∷ ns) (variables_push (suc j) vs v ∙ ap (λ (k : ℕ). variables_from (suc j) vs ++ node_of (op.Var k v.sort) [] ∷ []) z)

pub settled_push : (j : ℕ) (vs : List Var) (v : Var) → settled_from j (vs ++ v ∷ []) ≡ settled_from j vs ++ settled_from (j + length vs) (v ∷ [])
settled_push j [] v = let z : j ≡ j + 0 = omega arith in ap (λ (k : ℕ). settled_from k (v ∷ [])) z
settled_push j (u ∷ vs) v =
    let z : suc j + length vs ≡ j + suc (length vs) = omega arith in
    go u.settled (settled_push (suc j) vs v ∙ ap (λ (k : ℕ). settled_from (suc j) vs ++ settled_from k (v ∷ [])) z)
  where
    go : (t : Bool) → settled_from (suc j) (vs ++ v ∷ []) ≡ settled_from (suc j) vs ++ settled_from (j + suc (length vs)) (v ∷ [])
        → elim t [ true ↦ j ∷ settled_from (suc j) (vs ++ v ∷ []) | false ↦ settled_from (suc j) (vs ++ v ∷ []) ]
        ≡ elim t [ true ↦ j ∷ settled_from (suc j) vs | false ↦ settled_from (suc j) vs ] ++ settled_from (j + suc (length vs)) (v ∷ [])
    go true rest = ap (λ (js : List ℕ). j ∷ js) rest
    go false rest = rest

-- the variable is settled, or it isn't
pub settled_one : (j : ℕ) (v : Var) → v.settled ≡ true → settled_from j (v ∷ []) ≡ j ∷ []
settled_one j v e = ap (λ (t : Bool). elim t [ true ↦ j ∷ [] | false ↦ [] ]) e

pub settled_none : (j : ℕ) (v : Var) → v.settled ≡ false → settled_from j (v ∷ []) ≡ []
settled_none j v e = ap (λ (t : Bool). elim t [ true ↦ j ∷ [] | false ↦ [] ]) e

-- ---- the graph as it is made

abbrev pub open_graph : List Var → Bool → Graph
open_graph vs prepared = record { nodes = variables_from 0 vs; sorts = map (λ v. v.sort) vs; is_open = true; base = length vs; is_prepared = prepared }

-- the graph has these variables so far
abbrev pub IsStarted : List Var → Graph → Type 0
IsStarted vs g = g ≡ open_graph vs g.is_prepared

pub started_long : (vs : List Var) (g : Graph) → IsStarted vs g → length g.nodes ≡ length vs
started_long vs g is = ap (λ (h : Graph). length h.nodes) is ∙ variables_length 0 vs

pub variable_fits : (g : Graph) (j : ℕ) (s : OpSort) → FitsOver g (op.Var j s) []
variable_fits g j s = (s, record { sorts = []; kids_have = tt; over = refl })

pub started_may : (g : Graph) (j : ℕ) (s : OpSort) → MayAdd g (op.Var j s)
started_may g j s opened d e = cc

sort_of_variable : (g : Graph) (j : ℕ) (s : OpSort) (fits : FitsOver g (op.Var j s) []) → fits.0 ≡ s
sort_of_variable g j s (t, h) = by h.sorts h.kids_have h.over
  where
    some_is : (a b : OpSort) → Some a ≡ Some b → b ≡ a
    some_is a b e = cc

    by : (sorts : List OpSort) → HaveSorts g.sorts [] sorts → sort_over (op.Var j s) sorts ≡ Some t → t ≡ s
    by [] have over = some_is s t over
    by (x ∷ xs) have over = absurd have

pub started_more : (vs : List Var) (v : Var) (old new : Graph) (n : ℕ) → IsStarted vs old → Added old new (op.Var (length old.nodes) v.sort) [] n → IsStarted (vs ++ v ∷ []) new
started_more vs v old new n is added = elim added.grows [
  | inl same ↦ absurd (never same)
  | inr grown ↦ made grown.1
]
  where
    there : IsSame old new → slice_get (variables_from 0 vs) n ≡ Some (node_of (op.Var (length old.nodes) v.sort) [])
    there same = sym (ap (λ (g : Graph). slice_get g.nodes n) (same ∙ ap (λ (g : Graph). record g { is_prepared = new.is_prepared }) is)) ∙ added.first.there

    never : IsSame old new → ⊥
    never same =
        let at = variable_node vs n (node_of (op.Var (length old.nodes) v.sort) []) (there same) in
        let low = slice_get_within vs n at.0 at.1 in
        let one : length old.nodes ≡ n = (let z : op.Var (length old.nodes) v.sort ≡ op.Var n at.0.sort = ap (λ (x : Node). x.op) at.2 in cc) in
        (let long = started_long vs old is in omega (arith, low, one, long))

    made : new ≡ appended old (node_of (op.Var (length old.nodes) v.sort) []) added.fits.0 new.is_prepared → IsStarted (vs ++ v ∷ []) new
    made e =
        let sorted = sort_of_variable old (length old.nodes) v.sort added.fits in
        e
        ∙ ap (λ (s : OpSort). appended old (node_of (op.Var (length old.nodes) v.sort) []) s new.is_prepared) sorted
        ∙ ap (λ (g : Graph). appended g (node_of (op.Var (length g.nodes) v.sort) []) v.sort new.is_prepared) is
        ∙ equal
      where
        k : length (variables_from 0 vs) ≡ length vs
        k = variables_length 0 vs

        nodes_ : variables_from 0 vs ++ node_of (op.Var (length (variables_from 0 vs)) v.sort) [] ∷ [] ≡ variables_from 0 (vs ++ v ∷ [])
        nodes_ =
            let z : length (variables_from 0 vs) ≡ 0 + length vs = omega (arith, k) in
            ap (λ (j : ℕ). variables_from 0 vs ++ node_of (op.Var j v.sort) [] ∷ []) z ∙ sym (variables_push 0 vs v)

        sorts_ : map (λ v. v.sort) vs ++ v.sort ∷ [] ≡ map (λ v. v.sort) (vs ++ v ∷ [])
        sorts_ = sym (map-append (λ v. v.sort) vs (v ∷ []))

        base_ : length (variables_from 0 vs) + 1 ≡ length (vs ++ v ∷ [])
        base_ = ap (λ (n : ℕ). n + 1) k ∙ sym (length-append vs (v ∷ []))

        equal : appended (open_graph vs old.is_prepared) (node_of (op.Var (length (variables_from 0 vs)) v.sort) []) v.sort new.is_prepared ≡ open_graph (vs ++ v ∷ []) new.is_prepared
        equal = ap (λ (p : List Node × (List OpSort × ℕ)). record { nodes = p.0; sorts = p.1.0; is_open = true; base = p.1.1; is_prepared = new.is_prepared }) (cc (nodes_, sorts_, base_))

-- ---- the graph that is sealed

pub started_finished : (vs : List Var) (g : Graph) → IsStarted vs g → IsFinished g
started_finished vs g is n (d, at) =
    let found = variable_node vs n (node_of (op.Theta d) []) (sym (ap (λ (h : Graph). slice_get h.nodes n) is) ∙ at) in
    absurd (let z : op.Theta d ≡ op.Var n found.0.sort = ap (λ (x : Node). x.op) found.2 in cc)

started_sealed : (vs : List Var) (g h : Graph) → IsStarted vs g → Sealed g h → IsSame (variables_graph vs) h
started_sealed vs g h is sealed = sealed.sealed ∙ ap (λ (x : Graph). record x { is_open = false; is_prepared = h.is_prepared }) is

-- .. as it was sealed, for it is finished
pub sealed_if : (vs : List Var) (g h : Graph) → IsStarted vs g → (b : Bool) → OnTrue b (Sealed g h) → OnFalse b (IsFinished g → ⊥) → IsSame (variables_graph vs) h
sealed_if vs g h is true sealed never = started_sealed vs g h is sealed
sealed_if vs g h is false sealed never = absurd (never (started_finished vs g is))

-- ---- nodes of their sorts

abbrev pub HaveUpTo : List OpSort → List ℕ → List Var → ℕ → Type 0
HaveUpTo sorts nodes vars k = (i n : ℕ) (v : Var) → i < k → slice_get nodes i ≡ Some n → slice_get vars i ≡ Some v → slice_get sorts n ≡ Some v.sort

pub have_all : (sorts : List OpSort) (nodes : List ℕ) (vars : List Var) (k : ℕ) → length nodes ≡ length vars → length vars ≤ k → HaveUpTo sorts nodes vars k → HaveSorts sorts nodes (map (λ v. v.sort) vars)
have_all sorts nodes vars k long le h =
    zip_places (λ n s. slice_get sorts n ≡ Some s) nodes (map (λ v. v.sort) vars) (long ∙ sym (length-map vars (λ v. v.sort)))
    (λ i n s at here.
    let r = get_mapped (λ (v : Var). v.sort) vars i s here in
    let low = slice_get_within vars i r.0 r.1 in
    h i n r.0 (omega (arith, low, le)) at r.1 ∙ ap Some r.2)

pub have_long : (sorts : List OpSort) (nodes : List ℕ) (vars : List Var) → HaveSorts sorts nodes (map (λ v. v.sort) vars) → length nodes ≡ length vars
have_long sorts nodes vars all = zip_length (λ n s. slice_get sorts n ≡ Some s) nodes (map (λ v. v.sort) vars) all ∙ length-map vars (λ v. v.sort)

pub have_at : (sorts : List OpSort) (nodes : List ℕ) (vars : List Var) (i n : ℕ) (v : Var) → HaveSorts sorts nodes (map (λ v. v.sort) vars) → slice_get nodes i ≡ Some n → slice_get vars i ≡ Some v → slice_get sorts n ≡ Some v.sort
have_at sorts nodes vars i n v all at here =
    let r = zip_at (λ n s. slice_get sorts n ≡ Some s) nodes (map (λ v. v.sort) vars) i v.sort all (get_map (λ (v : Var). v.sort) vars i v here) in
    ap (slice_get sorts) (same_Some n r.0 (sym at ∙ r.1)) ∙ r.2

pub have_more : (sorts : List OpSort) (nodes : List ℕ) (vars : List Var) (k n : ℕ) (v : Var) → HaveUpTo sorts nodes vars k → slice_get nodes k ≡ Some n → slice_get vars k ≡ Some v → slice_get sorts n ≡ Some v.sort
    → HaveUpTo sorts nodes vars (k + 1)
have_more sorts nodes vars k n v h at here has i m u lt at' here' = elim (equal_or_not i k) [
  | inl same ↦
      (let e : n ≡ m = same_Some n m (sym at ∙ ap (slice_get nodes) (sym same) ∙ at') in
      let f : v ≡ u = same_Some v u (sym here ∙ ap (slice_get vars) (sym same) ∙ here') in
      ap (slice_get sorts) (sym e) ∙ has ∙ ap (λ (w : Var). Some w.sort) f)
  | inr ne ↦ h i m u (omega (arith, lt, ne)) at' here'
]
