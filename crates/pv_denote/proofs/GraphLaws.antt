-- The laws, of graphs.
use Rattle.std.specs.Prelude.{ℕ, List, length}
use Rattle.std.specs.List.{range_with_len}
use Rattle.std.proofs.Common.{sym, subst, arith}
use Rattle.std.proofs.lemmas.Option.{slice_get_within}
use Rattle.pv_graph.specs.Walks.{In}
use Rattle.pv_graph.specs.Graphs.{form_at}
use Rattle.pv_denote.specs.Laws.{MoreFuel, ValueOnce, ValueMeans, UnfoldsMeans, GrowthKeeps, NotFree, ClosedValue, SpineValue, ValueSort, SettledValue}
use Rattle.pv_denote.proofs.Values.{den_later, value_once, den_makes}
use Rattle.pv_graph.proofs.Cited.{in_or_not, in_range, node_at, kid_within, growth_unfolds, HasSortAt, graph_sorted, sort_there}
use Rattle.pv_denote.proofs.Simulated.{unfolds_value}
use Rattle.pv_denote.proofs.Independent.{value_says, not_free, closed_value, spine_has}
use Rattle.pv_denote.proofs.Settling.{value_is, settled_value}

-- ---- laws of one node

pub more_fuel : MoreFuel
more_fuel g w x fuel later n i v le e = den_later (form_at g.nodes) w x fuel later n i le v e

pub once : ValueOnce
once g w x n i u v p q = value_once (form_at g.nodes) w x n i u v p q

pub value_means : ValueMeans
value_means g w x n i v o ks e = (value_says (form_at g.nodes) w x n i v o ks e, den_makes (form_at g.nodes) w x n i v o ks e)

pub unfolds_means : UnfoldsMeans
unfolds_means g h w x a b i v u = unfolds_value (form_at g.nodes) (form_at h.nodes) w x a b i v u

pub free_law : NotFree
free_law g w x n i d k v h = not_free (form_at g.nodes) w x n i d k v h

pub closed_law : ClosedValue
closed_law g w x n i j v closed h = closed_value (form_at g.nodes) w x n i j v closed h

pub spine_law : SpineValue
spine_law g w x t n i v s h = spine_has (form_at g.nodes) w x t n i s v h

-- ---- growth

pub growth_law : GrowthKeeps
growth_law old new is grows n lt w x i v = unfolds_value (form_at new.nodes) (form_at old.nodes) w x n n i v (growth_unfolds old new is grows n lt)

-- ---- sorts

pub sort_law : ValueSort
sort_law g w x n s i v is closed world input t h = value_is w x world input (HasSortAt g) (form_at g.nodes) (graph_sorted g is closed) n s i v t h

pub settled_law : SettledValue
settled_law g w x assumed n i made closed world input have lt calm =
    let is = made.graph in
    let s = sort_there g is n lt in
    settled_value w x world input (HasSortAt g) (form_at g.nodes) (graph_sorted g is closed)
    (λ m o ks e. let node = node_at g.nodes m o ks e in sort_there g is m (slice_get_within g.nodes m node.0 node.1))
    (range_with_len 0 (length g.nodes))
    (λ m k o ks e y. let node = node_at g.nodes m o ks e in
    in_range 0 (length g.nodes) k (omega arith) (let z = kid_within g is m k node.0 node.1 (subst (λ (zs : List ℕ). In zs k) (sym node.3) y) in omega arith))
    made.rule assumed (in_or_not assumed) (λ e j m. have e j m) n i s.0 (in_range 0 (length g.nodes) n (omega arith) (omega arith)) s.1 calm
