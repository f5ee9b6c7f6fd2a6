use Rattle.pv_words.proofs.Examples.{dash_refused, end_refused}
use Rattle.pv_words.proofs.laws.law_dashes.Goals as goal

pub returns : goal.returns
returns c = record {
  number = dash_refused;
  end = end_refused;
}
