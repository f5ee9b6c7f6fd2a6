use Rattle.pv_words.proofs.Examples.{value_apart, value_joined}
use Rattle.pv_words.proofs.laws.law_values.Goals as goal

pub returns : goal.returns
returns c = record {
  apart = value_apart;
  joined = value_joined;
}
