use Rattle.std.proofs.Common.{◌∷◌, [], List, ℕ, length, get_or, ◌∙◌, ap, arith}
use Rattle.std.proofs.lemmas.List.{length-append}
use Rattle.pv_classes.proofs.Learnt.{empty_lists_more}
use Rattle.pv_classes.proofs.known.add_empty_lists.Goals as goal

pub loop-preserved : goal.loop-preserved
loop-preserved c = record {
  long = ap length c.in_ok-add_list.ensures.ok ∙ omega (arith, length-append c.loop.lists ([] ∷ []), c.loop.invariant.long);
  same = λ k. ap (λ (xs : List (List ℕ)). get_or xs k []) c.in_ok-add_list.ensures.ok ∙ empty_lists_more c.loop.lists k ∙ c.loop.invariant.same k;
}
