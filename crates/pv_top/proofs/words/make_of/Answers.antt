use Rattle.std.proofs.Common.{◌≡◌, [], length, inl, inr, rules}
use Rattle.pv_words.specs.Answers.{texts}
use Rattle.pv_words.specs.Words.{Give}
use Rattle.pv_top.specs.Words.{arguments_alone}
use Rattle.pv_top.proofs.Commands.{is_make, no_make, no_make_number_at}
use Rattle.pv_top.proofs.words.make_of.Goals as goal

pub returns-in_default : goal.returns-in_default
returns-in_default c = no_make _ (rw c.in_default.is at c.in_ok-given.ensures)

pub returns-in_default-u64_in : goal.returns-in_default-u64_in
returns-in_default-u64_in c =
    let rest = texts c.args.words.now in
    let arguments = c.as_slice.result.now in
    let given : Give (arguments_alone 4) rest [] [] (texts arguments) = rw c.as_slice.ensures (rw c.in-Some.is at c.in_ok-given.ensures) in
    let four : length arguments ≡ 4 = search rules in
    no_make_number_at rest arguments _ given four (inl (rw c.in_default-u64_in.is at c.u64_in.ensures))

pub returns-in_default-number_in : goal.returns-in_default-number_in
returns-in_default-number_in c =
    let rest = texts c.args.words.now in
    let arguments = c.as_slice.result.now in
    let given : Give (arguments_alone 4) rest [] [] (texts arguments) = rw c.as_slice.ensures (rw c.in-Some.is at c.in_ok-given.ensures) in
    let four : length arguments ≡ 4 = search rules in
    no_make_number_at rest arguments _ given four (inr (rw c.in_default-number_in.is at c.number_in.ensures))

pub returns : goal.returns
returns c =
    let rest = texts c.args.words.now in
    let arguments = c.as_slice.result.now in
    let given : Give (arguments_alone 4) rest [] [] (texts arguments) = rw c.as_slice.ensures (rw c.in-Some.is at c.in_ok-given.ensures) in
    let four : length arguments ≡ 4 = search rules in
    is_make rest arguments _ c.in-Some-u64_in.seed c.in-Some-number_in.count given four (rw c.in-Some-u64_in.is at c.u64_in.ensures) (rw c.in-Some-number_in.is at c.number_in.ensures)
