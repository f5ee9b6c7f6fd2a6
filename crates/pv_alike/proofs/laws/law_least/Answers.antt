use Rattle.pv_alike.proofs.laws.law_least.Goals as goal
use Rattle.pv_alike.proofs.Search.{once, roots_one, keeps_rule}
use Rattle.pv_alike.proofs.Fewest.{least_fewest}
use Rattle.pv_alike.proofs.Sorts.{one_sort}
use Rattle.pv_alike.proofs.Made.{least_made}

pub returns : goal.returns
returns c = record {
  once = once;
  roots = roots_one;
  fewest = least_fewest;
  rule = keeps_rule;
  sort = λ g a b s t made closed same e f. one_sort g g made.graph made.graph closed closed made.rule a b s t same e f;
  made = least_made;
}
