-- The axioms of all tables keep their sorts.
use Rattle.std.specs.Prelude.{◌≡◌, true, List, [], ◌∷◌, ◌++◌, length, Option, Some, None, refl}
use Rattle.std.proofs.Common.{sym, subst}
use Rattle.pv_graph.specs.declared.node.OpSort.{OpSort}
use Rattle.pv_pattern.specs.Patterns.{Pattern, over, Axiom}
use Rattle.pv_pattern.specs.Instances.{head_op}
use Rattle.pv_graph.proofs.Cited.{bind_some}
use Rattle.pv_heights.specs.Filled.{Params, named, Filled, of, filled, all_filled}
use Rattle.pv_scalar.specs.Table.{scalar_axioms}
use Rattle.pv_loopax.specs.Table.{loop_axioms}
use Rattle.pv_heapax.specs.Table.{heap_axioms}
use Rattle.pv_choiceax.specs.Table.{choice_axioms}
use Rattle.pv_heights.specs.Laws.{core_axioms, axioms}
use Rattle.pv_instances.specs.Sorted.{IsSorted}
use Rattle.pv_instances.specs.Facts.{Said, tells}
use Rattle.pv_instances.specs.Fits.{fits, head_said, keeps_sort_at, keeps_sort, keep_sorts}
use Rattle.pv_instances.specs.Laws.{KeepsSort, KeepSorts}
use Rattle.pv_instances.proofs.Telling.{told, head_says, all_append}
use Rattle.pv_instances.proofs.Fitting.{both, not_root, fitting}

kept_at : (left right : Pattern) (said : Said) → head_said left ≡ Some said → fits (tells left said) right said ≡ true
    → (m : Params) (kids vars : List OpSort) (l : Filled) (s : OpSort) → filled m (length kids) left ≡ Some l → IsSorted kids vars l s
    → (r : Filled) × (filled m (length kids) right ≡ Some r) × IsSorted kids vars r s
kept_at (over h ps) right said is e m kids vars l s fills sorted =
    let parts = bind_some (all_filled m (length kids) ps) _ l fills in
    let y : of (head_op (named m) h) parts.0 ≡ l = (let z = parts.2 in cc) in
    let here : IsSorted kids vars (of (head_op (named m) h) parts.0) s = subst (λ (x : Filled). IsSorted kids vars x s) (sym y) sorted in
    let says = head_says m kids vars s h here.0 here.1 said is in
    fitting m kids vars s (not_root m h here.0 s said is here.1) (tells (over h ps) said) right said s (told m kids vars s (over h ps) said s says l fills sorted) e says
kept_at left right said is e m kids vars l s fills sorted = absurd (cc)

kept : (a : Axiom) (said : Option Said) → head_said a.left ≡ said → keeps_sort_at said a ≡ true → KeepsSort a
kept a None h e = absurd (cc)
kept a (Some said) h e = kept_at a.left a.right said h e

pub kept_by : (table : List Axiom) → keep_sorts table ≡ true → KeepSorts table
kept_by [] e = tt
kept_by (a ∷ table) e = let p = both (keeps_sort a) (keep_sorts table) e in (kept a (head_said a.left) refl p.0, kept_by table p.1)

scalar_kept : KeepSorts scalar_axioms
scalar_kept = kept_by scalar_axioms refl

loop_kept : KeepSorts loop_axioms
loop_kept = kept_by loop_axioms refl

heap_kept : KeepSorts heap_axioms
heap_kept = kept_by heap_axioms refl

choice_kept : KeepSorts choice_axioms
choice_kept = kept_by choice_axioms refl

core_kept : KeepSorts core_axioms
core_kept = all_append KeepsSort scalar_axioms (loop_axioms ++ heap_axioms) scalar_kept (all_append KeepsSort loop_axioms heap_axioms loop_kept heap_kept)

pub all_kept : KeepSorts axioms
all_kept = all_append KeepsSort core_axioms choice_axioms core_kept choice_kept
