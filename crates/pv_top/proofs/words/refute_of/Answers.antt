use Rattle.std.proofs.Common.{◌≡◌, length, inl, inr, rules}
use Rattle.std.specs.Prelude.{map}
use Rattle.pv_words.specs.Answers.{texts}
use Rattle.pv_words.specs.Words.{Give}
use Rattle.pv_top.specs.Words.{refute_words}
use Rattle.pv_top.proofs.Commands.{is_refute, no_refute, no_try_limit_at, text_of}
use Rattle.pv_top.proofs.words.refute_of.Goals as goal

pub returns-in_default : goal.returns-in_default
returns-in_default c = no_refute _ (rw c.in_default.is at c.in_ok-given.ensures)

pub returns-in_default-limit : goal.returns-in_default-limit
returns-in_default-limit c =
    let rest = texts c.args.words.now in
    let options = c.as_slice.result.now in
    let arguments = c.as_slice-2.result.now in
    let given : Give refute_words rest c.in-Some.given.flags (map text_of options) (texts arguments) = rw (c.as_slice.ensures, c.as_slice-2.ensures) (rw c.in-Some.is at c.in_ok-given.ensures) in
    let long : length options ≡ 2 = search rules in
    no_try_limit_at rest c.in-Some.given.flags options arguments given long (inl (rw c.in_default-limit.is at c.limit.ensures))

pub returns-in_default-limit-2 : goal.returns-in_default-limit-2
returns-in_default-limit-2 c =
    let rest = texts c.args.words.now in
    let options = c.as_slice.result.now in
    let arguments = c.as_slice-2.result.now in
    let given : Give refute_words rest c.in-Some.given.flags (map text_of options) (texts arguments) = rw (c.as_slice.ensures, c.as_slice-2.ensures) (rw c.in-Some.is at c.in_ok-given.ensures) in
    let long : length options ≡ 2 = search rules in
    no_try_limit_at rest c.in-Some.given.flags options arguments given long (inr (rw c.in_default-limit-2.is at c.limit-2.ensures))

pub returns : goal.returns
returns c =
    let rest = texts c.args.words.now in
    let options = c.as_slice.result.now in
    let arguments = c.as_slice-2.result.now in
    let given : Give refute_words rest c.in-Some.given.flags (map text_of options) (texts arguments) = rw (c.as_slice.ensures, c.as_slice-2.ensures) (rw c.in-Some.is at c.in_ok-given.ensures) in
    let long : length options ≡ 2 = search rules in
    let two : length arguments ≡ 2 = search rules in
    is_refute rest c.in-Some.given.flags options arguments _ c.in-Some-limit.tries c.in-Some-limit-2.steps given long two (rw c.in-Some-limit.is at c.limit.ensures) (rw c.in-Some-limit-2.is at c.limit-2.ensures)
