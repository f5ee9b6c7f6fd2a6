use Rattle.pv_words.proofs.Examples.{flag_taken, flags_end}
use Rattle.pv_words.proofs.laws.law_flags.Goals as goal

pub returns : goal.returns
returns c = record {
  given = flag_taken;
  ended = flags_end;
}
