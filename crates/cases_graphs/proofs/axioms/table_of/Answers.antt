use Rattle.std.proofs.Common.{sym, subst}
use Rattle.std.specs.List.{AllByRecursion}
use Rattle.pv_pattern.specs.Binding.{BindsItsNames}
use Rattle.pv_pattern.proofs.Cited.{if_ok_weaker}
use Rattle.cases_graphs.proofs.axioms.table_of.Goals as goal

pub returns-in-3000-to-4294967295 : goal.returns-in-3000-to-4294967295
returns-in-3000-to-4294967295 c = if_ok_weaker c.choice_axioms.result (λ table same. subst (AllByRecursion BindsItsNames) (sym same) c.law_choice_names.ensures) c.choice_axioms.ensures

pub returns-in-301-to-399 : goal.returns-in-301-to-399
returns-in-301-to-399 c = if_ok_weaker c.loop_axioms.result (λ table same. subst (AllByRecursion BindsItsNames) (sym same) c.law_loop_names.ensures) c.loop_axioms.ensures

pub returns-in_default : goal.returns-in_default
returns-in_default c = if_ok_weaker c.scalar_axioms.result (λ table same. subst (AllByRecursion BindsItsNames) (sym same) c.law_scalar_names.ensures) c.scalar_axioms.ensures
