use Rattle.std.proofs.Common.{◌≡◌, ◌-◌, ℕ, List, [], length, take, drop, map, sym, ap, ◌∙◌, subst, arith}
use Rattle.pv_graph.specs.Walks.{In}
use Rattle.pv_pattern.specs.declared.names.NameId.{NameId}
use Rattle.pv_pattern.specs.Patterns.{variables}
use Rattle.pv_pattern.specs.Binding.{names}
use Rattle.pv_pattern.specs.Seen.{axiom_seen, seen}
use Rattle.pv_match.specs.declared.found.Param.{Param}
use Rattle.pv_match.specs.Parameters.{once_more}
use Rattle.pv_instances.specs.Seen.{params_seen}
use Rattle.pv_saturate.specs.Told.{family_in, AreTold}
use Rattle.pv_saturate.proofs.Naming.{all_names}
use Rattle.pv_saturate.proofs.SameMatch.{enough_classes, same_match}
use Rattle.pv_saturate.proofs.decoding.decode.Goals as goal

pub overflow_sub-len : goal.overflow_sub-len
overflow_sub-len c =
    let enough = enough_classes (map axiom_seen c.args.table.now) c.args.found.now c.requires.once (axiom_seen c.in-Some.entry.now) c.in-Some.ensures.0 c.in-Some.ensures.1 c.requires.shown in
    omega (arith, enough, c.variables-count.ensures, c.len.ensures, c.args.found.now.classes.ok.0)

pub returns-clause-names : goal.returns-clause-names
returns-clause-names c n =
    let all = all_names (names (seen c.in-Some.entry.now.left)) n in
    (λ i. all.0 (subst (λ (xs : List NameId). In xs n) c.in_ok-names.ensures i), λ i. subst (λ (xs : List NameId). In xs n) (sym c.in_ok-names.ensures) (all.1 i))

pub returns-clause-same : goal.returns-clause-same
returns-clause-same c h s =
    let left = seen c.in-Some.entry.now.left in
    let p = params_seen c.in_ok-params.params in
    let params : List Param = c.args.found.now.params.items in
    let classes : List ℕ = c.args.found.now.classes.items in
    let known = c.deref.ensures.value ∙ c.in_ok-names.ensures in
    let told : AreTold (family_in 0 left) (once_more [] (names left)) params p =
    subst (λ (k : ℕ). AreTold k (once_more [] (names left)) params p) c.family.ensures
    (subst (λ (ns : List NameId). AreTold c.family.result ns params p) known (subst (λ (ps : List Param). AreTold c.family.result c.deref.result.now ps p) c.deref-2.ensures.value c.in_ok-params.ensures)) in
    let cut : c.len.result - c.variables-count.result ≡ length classes - variables left = omega (arith, c.variables-count.ensures, c.len.ensures, c.args.found.now.classes.ok.0) in
    let first = c.split_at.ensures.front ∙ (ap (take (c.len.result - c.variables-count.result)) c.deref-3.ensures.value ∙ ap (λ (n : ℕ). take n classes) cut) in
    let last = c.split_at.ensures.back ∙ (ap (drop (c.len.result - c.variables-count.result)) c.deref-3.ensures.value ∙ ap (λ (n : ℕ). drop n classes) cut) in
    same_match (map axiom_seen c.args.table.now) c.args.found.now c.requires.once (axiom_seen c.in-Some.entry.now) c.in-Some.ensures.0 c.in-Some.ensures.1 p c.split_at.result.0.now c.split_at.result.1.now c.requires.readable told first last h s
