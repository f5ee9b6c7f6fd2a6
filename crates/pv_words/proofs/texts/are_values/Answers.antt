use Rattle.std.proofs.Common.{true≢false, sym, subst, List, ℕ, option_map, Option, None, Bor}
use Rattle.pv_words.specs.Matches.{IsOptionValue}
use Rattle.pv_words.proofs.Lists.{each_at}
use Rattle.pv_words.proofs.texts.are_values.Goals as goal

pub returns-in-loop-option : goal.returns-in-loop-option
returns-in-loop-option c = (
  (λ e. absurd (true≢false (sym e))),
  λ are.
      let here = each_at IsOptionValue (option_map (λ s. s.now)) c.args.options.now c.loop-option.option-index None c.loop-option-test.true are in
      c.if-not-is_value.ensures.1 (subst (λ (o : Option (Bor (List ℕ))). IsOptionValue (option_map (λ s. s.now) o)) c.in-Some.is here),
)
