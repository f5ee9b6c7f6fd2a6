use Rattle.std.proofs.Common.{◌≡◌, [], ◌∷◌, length, rules}
use Rattle.std.specs.Prelude.{map}
use Rattle.pv_words.specs.Answers.{texts}
use Rattle.pv_words.specs.Words.{Give}
use Rattle.pv_top.specs.Words.{check_words}
use Rattle.pv_top.proofs.Commands.{is_checked, no_workers_at, text_of}
use Rattle.pv_top.proofs.words.checked_of.Goals as goal

pub returns-in_default : goal.returns-in_default
returns-in_default c = λ arguments g. (rw c.in_default.is at c.in_ok-given.ensures) [] (g.workers_word ∷ []) arguments g.given

pub returns-in_default-limit : goal.returns-in_default-limit
returns-in_default-limit c =
    let rest = texts c.args.words.now in
    let options = c.as_slice.result.now in
    let given : Give check_words rest c.in-Some.given.flags (map text_of options) (texts c.in-Some.given.arguments) = rw c.as_slice.ensures (rw c.in-Some.is at c.in_ok-given.ensures) in
    let one : length options ≡ 1 = search rules in
    no_workers_at rest c.in-Some.given.flags options c.in-Some.given.arguments given one (rw c.in_default-limit.is at c.limit.ensures)

pub returns : goal.returns
returns c =
    let rest = texts c.args.words.now in
    let options = c.as_slice.result.now in
    let given : Give check_words rest c.in-Some.given.flags (map text_of options) (texts c.in-Some.given.arguments) = rw c.as_slice.ensures (rw c.in-Some.is at c.in_ok-given.ensures) in
    let one : length options ≡ 1 = search rules in
    is_checked rest c.in-Some.given.flags options c.in-Some.given.arguments c.in-Some-limit.workers given one (rw c.in-Some-limit.is at c.limit.ensures)
