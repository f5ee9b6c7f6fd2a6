use Rattle.pv_words.proofs.Examples.{twice_refused, unknown_refused}
use Rattle.pv_words.proofs.laws.law_options.Goals as goal

pub returns : goal.returns
returns c = record {
  twice = twice_refused;
  unknown = unknown_refused;
}
