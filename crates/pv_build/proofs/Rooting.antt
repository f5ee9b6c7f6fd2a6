-- A root over its four kids.
use Rattle.std.proofs.Common.{◌≡◌, ℕ, List, [], ◌∷◌, Option, Some, None, refl, sym, ap, ◌∙◌, subst}
use Rattle.pv_build.proofs.Words.{JType, Op, F, T, H, R, Graph, sort_over, HasSort, Exp, Over, NoExp, or_else, Named, Reads, IsOfSort, none_of, default_of, default_sort}
use Rattle.pv_value.specs.declared.descriptor.JType.TheVariants as jtype
use Rattle.pv_graph.specs.declared.node.Op.TheVariants as op
use Rattle.pv_build.proofs.Defaults.{none_is}

root_sorted : (r : Option JType) → sort_over op.Root (T ∷ F ∷ default_sort r ∷ H ∷ []) ≡ Some R
root_sorted None = refl
root_sorted (Some jtype.Z) = refl
root_sorted (Some jtype.B) = refl
root_sorted (Some jtype.C) = refl
root_sorted (Some jtype.S) = refl
root_sorted (Some jtype.I) = refl
root_sorted (Some jtype.J) = refl
root_sorted (Some jtype.F) = refl
root_sorted (Some jtype.D) = refl
root_sorted (Some jtype.A) = refl

pub root_has : (g : Graph) (r : Option JType) (a b c d : ℕ) → IsOfSort g a T → IsOfSort g b F → IsOfSort g c (default_sort r) → IsOfSort g d H → HasSort g.sorts op.Root (a ∷ b ∷ c ∷ d ∷ []) R
root_has g r a b c d at bt ct dt = record { sorts = T ∷ F ∷ default_sort r ∷ H ∷ []; kids_have = (at, (bt, (ct, (dt, tt)))); over = root_sorted r }

-- the result, or else a value of its type
pub result_reads : (g : Graph) (names : List Named) (r : Option JType) (o : Op) (n : ℕ) (q : Option Exp) → o ≡ default_of r → Reads g.nodes names n (or_else q (Over o NoExp)) → Reads g.nodes names n (or_else q (none_of r))
result_reads g names r o n q is reads = subst (λ (e : Exp). Reads g.nodes names n (or_else q e)) (ap (λ (o : Op). Over o NoExp) is ∙ sym (none_is r)) reads
