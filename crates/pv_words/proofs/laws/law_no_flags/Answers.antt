use Rattle.pv_words.proofs.Examples.{flag_as_value_refused, flag_twice_refused, flag_value_refused}
use Rattle.pv_words.proofs.laws.law_no_flags.Goals as goal

pub returns : goal.returns
returns c = record {
  value = flag_value_refused;
  twice = flag_twice_refused;
  as_value = flag_as_value_refused;
}
