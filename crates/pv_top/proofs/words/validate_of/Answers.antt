use Rattle.std.proofs.Common.{◌≡◌, length, inl, inr, rules}
use Rattle.std.specs.Prelude.{map}
use Rattle.pv_words.specs.Answers.{texts}
use Rattle.pv_words.specs.Words.{Give}
use Rattle.pv_top.specs.Words.{validate_words}
use Rattle.pv_top.proofs.Commands.{is_validate, no_value_at, no_validate, text_of}
use Rattle.pv_top.proofs.words.validate_of.Goals as goal

pub returns-in_default : goal.returns-in_default
returns-in_default c = no_validate _ (rw c.in_default.is at c.in_ok-given.ensures)

pub returns-in_default-set_of : goal.returns-in_default-set_of
returns-in_default-set_of c =
    let rest = texts c.args.words.now in
    let flags = c.as_slice.result.now in
    let options = c.as_slice-2.result.now in
    let arguments = c.as_slice-3.result.now in
    let given : Give validate_words rest flags (map text_of options) (texts arguments) = rw (c.as_slice.ensures, c.as_slice-2.ensures, c.as_slice-3.ensures) (rw c.in-Some.is at c.in_ok-given.ensures) in
    let one : length flags ≡ 1 = search rules in
    let long : length options ≡ 5 = search rules in
    no_value_at rest flags options arguments given one long (inl (rw c.in_default-set_of.is at c.set_of.ensures))

pub returns-in_default-limit : goal.returns-in_default-limit
returns-in_default-limit c =
    let rest = texts c.args.words.now in
    let flags = c.as_slice.result.now in
    let options = c.as_slice-2.result.now in
    let arguments = c.as_slice-3.result.now in
    let given : Give validate_words rest flags (map text_of options) (texts arguments) = rw (c.as_slice.ensures, c.as_slice-2.ensures, c.as_slice-3.ensures) (rw c.in-Some.is at c.in_ok-given.ensures) in
    let one : length flags ≡ 1 = search rules in
    let long : length options ≡ 5 = search rules in
    no_value_at rest flags options arguments given one long (inr (inl (rw c.in_default-limit.is at c.limit.ensures)))

pub returns-in_default-limit-2 : goal.returns-in_default-limit-2
returns-in_default-limit-2 c =
    let rest = texts c.args.words.now in
    let flags = c.as_slice.result.now in
    let options = c.as_slice-2.result.now in
    let arguments = c.as_slice-3.result.now in
    let given : Give validate_words rest flags (map text_of options) (texts arguments) = rw (c.as_slice.ensures, c.as_slice-2.ensures, c.as_slice-3.ensures) (rw c.in-Some.is at c.in_ok-given.ensures) in
    let one : length flags ≡ 1 = search rules in
    let long : length options ≡ 5 = search rules in
    no_value_at rest flags options arguments given one long (inr (inr (inl (rw c.in_default-limit-2.is at c.limit-2.ensures))))

pub returns-in_default-limit-3 : goal.returns-in_default-limit-3
returns-in_default-limit-3 c =
    let rest = texts c.args.words.now in
    let flags = c.as_slice.result.now in
    let options = c.as_slice-2.result.now in
    let arguments = c.as_slice-3.result.now in
    let given : Give validate_words rest flags (map text_of options) (texts arguments) = rw (c.as_slice.ensures, c.as_slice-2.ensures, c.as_slice-3.ensures) (rw c.in-Some.is at c.in_ok-given.ensures) in
    let one : length flags ≡ 1 = search rules in
    let long : length options ≡ 5 = search rules in
    no_value_at rest flags options arguments given one long (inr (inr (inr (inl (rw c.in_default-limit-3.is at c.limit-3.ensures)))))

pub returns-in_default-mode_of : goal.returns-in_default-mode_of
returns-in_default-mode_of c =
    let rest = texts c.args.words.now in
    let flags = c.as_slice.result.now in
    let options = c.as_slice-2.result.now in
    let arguments = c.as_slice-3.result.now in
    let given : Give validate_words rest flags (map text_of options) (texts arguments) = rw (c.as_slice.ensures, c.as_slice-2.ensures, c.as_slice-3.ensures) (rw c.in-Some.is at c.in_ok-given.ensures) in
    let one : length flags ≡ 1 = search rules in
    let long : length options ≡ 5 = search rules in
    no_value_at rest flags options arguments given one long (inr (inr (inr (inr (rw c.in_default-mode_of.is at c.mode_of.ensures)))))

pub returns : goal.returns
returns c =
    let rest = texts c.args.words.now in
    let flags = c.as_slice.result.now in
    let options = c.as_slice-2.result.now in
    let arguments = c.as_slice-3.result.now in
    let given : Give validate_words rest flags (map text_of options) (texts arguments) = rw (c.as_slice.ensures, c.as_slice-2.ensures, c.as_slice-3.ensures) (rw c.in-Some.is at c.in_ok-given.ensures) in
    let one : length flags ≡ 1 = search rules in
    let long : length options ≡ 5 = search rules in
    let two : length arguments ≡ 2 = search rules in
    is_validate rest flags options arguments _ c.in-Some-set_of.axioms c.in-Some-limit.rounds c.in-Some-limit-2.budget c.in-Some-limit-3.workers _ given one long two (rw c.in-Some-set_of.is at c.set_of.ensures) (rw c.in-Some-limit.is at c.limit.ensures) (rw c.in-Some-limit-2.is at c.limit-2.ensures) (rw c.in-Some-limit-3.is at c.limit-3.ensures)
    (rw c.in-Some-mode_of.is at c.mode_of.ensures)
