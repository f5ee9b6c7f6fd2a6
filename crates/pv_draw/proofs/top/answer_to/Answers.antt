use Rattle.std.proofs.Common.{Some, None}
use Rattle.pv_words.specs.Answers.{texts}
use Rattle.pv_draw.specs.Requests.{IsRequest}
use Rattle.pv_draw.specs.Reading.{AreGiven, request_of}
use Rattle.pv_draw.proofs.Answering.{bad_answer, each_answer, each_asked, each_cause, nothing_asked}
use Rattle.pv_draw.proofs.Asking.{is_request, nothing_given, nothing_shown}
use Rattle.pv_draw.proofs.top.answer_to.Goals as goal

pub returns-in_default-clause-answer : goal.returns-in_default-clause-answer
returns-in_default-clause-answer g c =
    let words = texts c.args.words.now in
    let none : IsRequest words None = nothing_given words (rw c.in_default.is at c.in_ok-given.ensures) in
    bad_answer (g.F.Files.held c.args.files.now) words None None c.bad_words.result none c.bad_words.ensures.text c.bad_words.ensures.status

pub returns-in_default-clause-asked : goal.returns-in_default-clause-asked
returns-in_default-clause-asked g c =
    let words = texts c.args.words.now in
    let none : IsRequest words None = nothing_given words (rw c.in_default.is at c.in_ok-given.ensures) in
    nothing_asked (g.F.Files.held c.args.files.now) words (g.F.Files.asked c.args.files.now) None c.bad_words.result none

pub returns-in_default-2-clause-answer : goal.returns-in_default-2-clause-answer
returns-in_default-2-clause-answer g c =
    let words = texts c.args.words.now in
    let given : AreGiven words (Some c.in-Some.given) = rw c.in-Some.is at c.in_ok-given.ensures in
    let none : IsRequest words None = nothing_shown words c.in-Some.given given (rw c.in_default-2.is at c.in_ok-signature.ensures) in
    bad_answer (g.F.Files.held c.args.files.now) words None None c.bad_words-in_default-2.result none c.bad_words-in_default-2.ensures.text c.bad_words-in_default-2.ensures.status

pub returns-in_default-2-clause-asked : goal.returns-in_default-2-clause-asked
returns-in_default-2-clause-asked g c =
    let words = texts c.args.words.now in
    let given : AreGiven words (Some c.in-Some.given) = rw c.in-Some.is at c.in_ok-given.ensures in
    let none : IsRequest words None = nothing_shown words c.in-Some.given given (rw c.in_default-2.is at c.in_ok-signature.ensures) in
    nothing_asked (g.F.Files.held c.args.files.now) words (g.F.Files.asked c.args.files.now) None c.bad_words-in_default-2.result none

pub returns-clause-answer : goal.returns-clause-answer
returns-clause-answer g c =
    let words = texts c.args.words.now in
    let given : AreGiven words (Some c.in-Some.given) = rw c.in-Some.is at c.in_ok-given.ensures in
    let is : IsRequest words (Some (request_of c.in-Some.given c.in-Some-2.signature)) = is_request words c.in-Some.given c.in-Some-2.signature given (rw c.in-Some-2.is at c.in_ok-signature.ensures) in
    each_answer (g.F.Files.held c.args.files.now) words None None c.answer_for.result (request_of c.in-Some.given c.in-Some-2.signature) is c.answer_for.ensures.answer

pub returns-clause-cause : goal.returns-clause-cause
returns-clause-cause g c =
    let words = texts c.args.words.now in
    let given : AreGiven words (Some c.in-Some.given) = rw c.in-Some.is at c.in_ok-given.ensures in
    let is : IsRequest words (Some (request_of c.in-Some.given c.in-Some-2.signature)) = is_request words c.in-Some.given c.in-Some-2.signature given (rw c.in-Some-2.is at c.in_ok-signature.ensures) in
    each_cause None words None None c.answer_for.result (request_of c.in-Some.given c.in-Some-2.signature) _ is c.answer_for.ensures.cause

pub returns-clause-asked : goal.returns-clause-asked
returns-clause-asked g c =
    let words = texts c.args.words.now in
    let given : AreGiven words (Some c.in-Some.given) = rw c.in-Some.is at c.in_ok-given.ensures in
    let is : IsRequest words (Some (request_of c.in-Some.given c.in-Some-2.signature)) = is_request words c.in-Some.given c.in-Some-2.signature given (rw c.in-Some-2.is at c.in_ok-signature.ensures) in
    each_asked (g.F.Files.held c.args.files.now) words _ _ c.answer_for.result (request_of c.in-Some.given c.in-Some-2.signature) is c.answer_for.ensures.asked
