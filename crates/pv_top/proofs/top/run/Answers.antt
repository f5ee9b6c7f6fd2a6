use Rattle.std.proofs.Common.{◌≡◌, List, ℕ, Option, Some, refl, subst}
use Rattle.pv_base.specs.Outside.{Rose}
use Rattle.pv_words.specs.Answers.{texts}
use Rattle.pv_top.specs.declared.words.Command.{Command}
use Rattle.pv_top.specs.Commands.{named}
use Rattle.pv_top.specs.Words.{IsCommand, first_of, second_of}
use Rattle.pv_top.specs.Run.{Answered, CallsFor, Leaves}
use Rattle.pv_top.specs.Promise.{EachEquivalent}
use Rattle.pv_top.proofs.Answering.{answered_equivalent}
use Rattle.pv_top.proofs.Commands.{can_make, one_command}
use Rattle.pv_top.proofs.Replying.{nothing_left}
use Rattle.pv_top.proofs.Saying.{silent}
use Rattle.pv_top.proofs.top.run.Goals as goal

pub returns-in-Ok-Some-clause-answered : goal.returns-in-Ok-Some-clause-answered
returns-in-Ok-Some-clause-answered g c o is =
    let words = texts c.args.words.now in
    let command = named c.in-Ok-Some.order.command in
    let read : IsCommand words (Some command) = rw c.in-Ok-Some.field-0-is at c.in-Ok-Some.ensures in
    let old = g.K.Sink.sent c.args.out.now in
    let new = g.K.Sink.sent c.execute.new.out in
    subst (λ (x : Option (Command (List ℕ))). Answered (g.F.Files.held c.args.files.now) x old new (Rose (g.F.Files.failures c.args.files.now) (g.F.Files.failures c.execute.new.files)) (Rose (g.K.Sink.failures c.args.out.now) (g.K.Sink.failures c.execute.new.out)) c.execute.result)
    (one_command words (Some command) o read is) c.execute.ensures.answered

pub returns-in-Ok-Some-clause-asked : goal.returns-in-Ok-Some-clause-asked
returns-in-Ok-Some-clause-asked g c o is =
    let words = texts c.args.words.now in
    let command = named c.in-Ok-Some.order.command in
    let read : IsCommand words (Some command) = rw c.in-Ok-Some.field-0-is at c.in-Ok-Some.ensures in
    let old = g.F.Files.asked c.args.files.now in
    let new = g.F.Files.asked c.execute.new.files in
    subst (λ (x : Option (Command (List ℕ))). CallsFor (g.F.Files.held c.args.files.now) x old new (Rose (g.K.Sink.failures c.args.out.now) (g.K.Sink.failures c.execute.new.out)) c.execute.result)
    (one_command words (Some command) o read is) c.execute.ensures.asked

pub returns-in-Ok-Some-clause-held : goal.returns-in-Ok-Some-clause-held
returns-in-Ok-Some-clause-held g c o is =
    let words = texts c.args.words.now in
    let command = named c.in-Ok-Some.order.command in
    let read : IsCommand words (Some command) = rw c.in-Ok-Some.field-0-is at c.in-Ok-Some.ensures in
    subst (λ (x : Option (Command (List ℕ))). Leaves x (g.F.Files.held c.args.files.now) (g.F.Files.held c.execute.new.files) (Rose (g.F.Files.failures c.args.files.now) (g.F.Files.failures c.execute.new.files)) (Rose (g.K.Sink.failures c.args.out.now) (g.K.Sink.failures c.execute.new.out)) c.execute.result) (one_command words (Some command) o read is) c.execute.ensures.held

pub returns-in-Ok-Some-clause-equivalent : goal.returns-in-Ok-Some-clause-equivalent
returns-in-Ok-Some-clause-equivalent g c o is =
    let words = texts c.args.words.now in
    let command = named c.in-Ok-Some.order.command in
    let read : IsCommand words (Some command) = rw c.in-Ok-Some.field-0-is at c.in-Ok-Some.ensures in
    let held = g.F.Files.held c.args.files.now in
    let old = g.K.Sink.sent c.args.out.now in
    let new = g.K.Sink.sent c.execute.new.out in
    let both : ◌≡◌ {A = Option (Command (List ℕ))} (Some command) (Some o) = one_command words (Some command) (Some o) read is in
    let same : command ≡ o = cc both in
    subst (λ (x : Command (List ℕ)). EachEquivalent held (first_of x) (second_of x) old new) same (answered_equivalent held command old new _ _ c.execute.result c.execute.ensures.answered)

pub returns-in-Err-clause-equivalent : goal.returns-in-Err-clause-equivalent
returns-in-Err-clause-equivalent g c o is = silent (g.F.Files.held c.args.files.now) (first_of o) (second_of o) (g.K.Sink.sent c.args.out.now) (g.K.Sink.sent c.args.out.now) refl

pub execute-requires-clause-count : goal.execute-requires-clause-count
execute-requires-clause-count g c lifetimes within =
    let words = texts c.args.words.now in
    let command = named c.in-Ok-Some.order.command in
    let read : IsCommand words (Some command) = rw c.in-Ok-Some.field-0-is at c.in-Ok-Some.ensures in
    can_make words command read

pub returns-in-Err-clause-held : goal.returns-in-Err-clause-held
returns-in-Err-clause-held g c o is = nothing_left o (g.F.Files.held c.args.files.now) _ _
