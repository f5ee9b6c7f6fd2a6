use Rattle.std.proofs.Common.{Option, Some, sym, subst}
use Rattle.pv_base.specs.Outside.{Rose}
use Rattle.pv_base.specs.Stored.{Stored}
use Rattle.pv_report.specs.declared.status.Status.TheVariants.{Memory}
use Rattle.pv_top.specs.Commands.{named}
use Rattle.pv_top.specs.Fetching.{contents_of}
use Rattle.pv_top.specs.Run.{Leaves}
use Rattle.pv_top.proofs.Replying.{IsReply, fetches_asked, gives_since, nothing_left, reply_answered, reply_asked, reply_left, unchanged_read}
use Rattle.pv_top.proofs.top.execute.Goals as goal

pub returns-in-Err-clause-asked : goal.returns-in-Err-clause-asked
returns-in-Err-clause-asked g c = fetches_asked (g.F.Files.held c.args.files.now) (named c.args.command) (g.F.Files.asked c.args.files.now) (g.F.Files.asked c.fetch_files.new.files) _ c.in-Err.status _ c.in-Err.ensures.asked c.in-Err.ensures.failure

pub returns-in-Ok-reply_to-clause-answered : goal.returns-in-Ok-reply_to-clause-answered
returns-in-Ok-reply_to-clause-answered g c =
    let held = g.F.Files.held c.args.files.now in
    let command = named c.args.command in
    let fetched = c.in-Ok.fetched.items in
    let reply = c.in-Ok-reply_to.reply in
    let placed = contents_of reply.placed.items in
    let text = reply.answer.text.items in
    let old = g.K.Sink.sent c.args.out.now in
    let new = g.K.Sink.sent c.give.new.out in
    let failures = g.F.Files.failures c.args.files.now in
    let mid = g.F.Files.failures c.fetch_files.new.files in
    let later = g.F.Files.failures c.give.new.files in
    let rose = Rose (g.K.Sink.failures c.args.out.now) (g.K.Sink.failures c.give.new.out) in
    let is : IsReply held command fetched placed text reply.answer.status = record {
      holds = c.in-Ok.ensures.content;
      answers = rw c.deref.ensures.value at c.in-Ok-reply_to.ensures.answer;
      places = rw c.deref.ensures.value at c.in-Ok-reply_to.ensures.placed;
    } in
    let gives = gives_since held (g.F.Files.held c.give.new.files) (g.F.Files.asked c.fetch_files.new.files) (g.F.Files.asked c.give.new.files) placed old new text reply.answer.status c.give.result rose failures mid later c.in-Ok.ensures.later (rw c.in-Ok.ensures.held at c.give.ensures.given) in
    reply_answered held command fetched text reply.answer.status c.give.result old new (Rose failures later) rose (g.F.Files.held c.give.new.files) (g.F.Files.asked c.fetch_files.new.files) (g.F.Files.asked c.give.new.files) placed is gives

pub returns-in-Ok-reply_to-clause-asked : goal.returns-in-Ok-reply_to-clause-asked
returns-in-Ok-reply_to-clause-asked g c =
    let held = g.F.Files.held c.args.files.now in
    let command = named c.args.command in
    let fetched = c.in-Ok.fetched.items in
    let reply = c.in-Ok-reply_to.reply in
    let placed = contents_of reply.placed.items in
    let text = reply.answer.text.items in
    let old = g.K.Sink.sent c.args.out.now in
    let new = g.K.Sink.sent c.give.new.out in
    let failures = g.F.Files.failures c.args.files.now in
    let mid = g.F.Files.failures c.fetch_files.new.files in
    let later = g.F.Files.failures c.give.new.files in
    let rose = Rose (g.K.Sink.failures c.args.out.now) (g.K.Sink.failures c.give.new.out) in
    let is : IsReply held command fetched placed text reply.answer.status = record {
      holds = c.in-Ok.ensures.content;
      answers = rw c.deref.ensures.value at c.in-Ok-reply_to.ensures.answer;
      places = rw c.deref.ensures.value at c.in-Ok-reply_to.ensures.placed;
    } in
    let gives = gives_since held (g.F.Files.held c.give.new.files) (g.F.Files.asked c.fetch_files.new.files) (g.F.Files.asked c.give.new.files) placed old new text reply.answer.status c.give.result rose failures mid later c.in-Ok.ensures.later (rw c.in-Ok.ensures.held at c.give.ensures.given) in
    reply_asked held (g.F.Files.held c.give.new.files) command fetched placed text reply.answer.status c.give.result old new (Rose failures later) rose (g.F.Files.asked c.args.files.now) (g.F.Files.asked c.fetch_files.new.files) (g.F.Files.asked c.give.new.files) is gives c.in-Ok.ensures.asked

pub returns-in-Ok-reply_to-clause-held : goal.returns-in-Ok-reply_to-clause-held
returns-in-Ok-reply_to-clause-held g c =
    let held = g.F.Files.held c.args.files.now in
    let command = named c.args.command in
    let fetched = c.in-Ok.fetched.items in
    let reply = c.in-Ok-reply_to.reply in
    let placed = contents_of reply.placed.items in
    let text = reply.answer.text.items in
    let old = g.K.Sink.sent c.args.out.now in
    let new = g.K.Sink.sent c.give.new.out in
    let failures = g.F.Files.failures c.args.files.now in
    let mid = g.F.Files.failures c.fetch_files.new.files in
    let later = g.F.Files.failures c.give.new.files in
    let rose = Rose (g.K.Sink.failures c.args.out.now) (g.K.Sink.failures c.give.new.out) in
    let is : IsReply held command fetched placed text reply.answer.status = record {
      holds = c.in-Ok.ensures.content;
      answers = rw c.deref.ensures.value at c.in-Ok-reply_to.ensures.answer;
      places = rw c.deref.ensures.value at c.in-Ok-reply_to.ensures.placed;
    } in
    let gives = gives_since held (g.F.Files.held c.give.new.files) (g.F.Files.asked c.fetch_files.new.files) (g.F.Files.asked c.give.new.files) placed old new text reply.answer.status c.give.result rose failures mid later c.in-Ok.ensures.later (rw c.in-Ok.ensures.held at c.give.ensures.given) in
    reply_left held (g.F.Files.held c.give.new.files) (g.F.Files.asked c.fetch_files.new.files) (g.F.Files.asked c.give.new.files) command fetched placed text reply.answer.status c.give.result old new (Rose failures later) rose is gives

pub returns-in-Err-clause-held : goal.returns-in-Err-clause-held
returns-in-Err-clause-held g c =
    let held = g.F.Files.held c.args.files.now in
    let command = named c.args.command in
    let failed = Rose (g.F.Files.failures c.args.files.now) (g.F.Files.failures c.fetch_files.new.files) in
    let rose = Rose (g.K.Sink.failures c.args.out.now) (g.K.Sink.failures c.args.out.now) in
    subst (λ (h : Option Stored). Leaves (Some command) held h failed rose c.in-Err.status) (sym c.in-Err.ensures.held) (unchanged_read command failed rose held c.in-Err.status failed c.in-Err.ensures.failure)

pub returns-clause-held : goal.returns-clause-held
returns-clause-held g c =
    let held = g.F.Files.held c.args.files.now in
    let command = named c.args.command in
    let failed = Rose (g.F.Files.failures c.args.files.now) (g.F.Files.failures c.fetch_files.new.files) in
    let rose = Rose (g.K.Sink.failures c.args.out.now) (g.K.Sink.failures c.args.out.now) in
    subst (λ (h : Option Stored). Leaves (Some command) held h failed rose Memory) (sym c.in-Ok.ensures.held) (nothing_left (Some command) held failed rose)
