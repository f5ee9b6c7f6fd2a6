use Rattle.std.proofs.Common.{ℕ, List, arith, ap, subst, sym, ◌∙◌}
use Rattle.std.specs.Borrow.{Bor}
use Rattle.pv_report.specs.declared.report.Answer.{Answer}
use Rattle.pv_top.specs.declared.words.Command.TheVariants.{Validate}
use Rattle.pv_top.specs.declared.words.Mode.{Mode}
use Rattle.pv_top.specs.Commands.{named, named_mode}
use Rattle.pv_top.specs.Fetching.{AnswersFetched}
use Rattle.pv_top.proofs.Replying.{chain_rules, check_answers, five_items, make_answers, make_places, migrate_answers, migrate_places, one_item, reply_answers, reply_places, show_places, three_items, two_items}
use Rattle.pv_top.proofs.top.reply_to.Goals as goal

pub returns-in_ok-answer-in-Check-clause-answer : goal.returns-in_ok-answer-in-Check-clause-answer
returns-in_ok-answer-in-Check-clause-answer g c =
    let k = c.in-Check in
    let first = c.first-item-then-fetched-lt4.result in
    let second = c.second-item-then-fetched-lt4.result in
    let third = c.cert-item.result in
    let items = three_items c.args.fetched.now first second third (omega (arith, c.in-len3.len_at_least, c.in-len3.len_below)) c.first-item-then-fetched-lt4.is c.second-item-then-fetched-lt4.is c.cert-item.is in
    let answer = c.in_ok-answer-in-Check.answer in
    subst (λ (x : Answer). AnswersFetched (named c.args.command) c.args.fetched.now x.text.items x.status) (sym c.said.ensures.answer)
    (check_answers (named c.args.command) c.args.fetched.now k.first.now k.second.now k.cert.now first second third answer.text.items answer.status items (ap named k.is) c.in_ok-answer-in-Check.ensures)

pub returns-in_ok-answer-in-CheckChain-clause-answer : goal.returns-in_ok-answer-in-CheckChain-clause-answer
returns-in_ok-answer-in-CheckChain-clause-answer g c =
    let k = c.in-CheckChain in
    let first = c.first-item-then-fetched-lt4-2.result in
    let second = c.last-item.result in
    let third = c.chain-item.result in
    let items = three_items c.args.fetched.now first second third (omega (arith, c.in-len3-fetched.len_at_least, c.in-len3-fetched.len_below)) c.first-item-then-fetched-lt4-2.is c.last-item.is c.chain-item.is in
    let answer = c.in_ok-answer-in-CheckChain.answer in
    subst (λ (x : Answer). AnswersFetched (named c.args.command) c.args.fetched.now x.text.items x.status) (sym c.said-in-CheckChain.ensures.answer)
    (chain_rules (named c.args.command) c.args.fetched.now k.first.now k.last.now k.chain.now first second third answer.text.items answer.status items (ap named k.is) c.in_ok-answer-in-CheckChain.ensures)

pub returns-in-len5-clause-answer : goal.returns-in-len5-clause-answer
returns-in-len5-clause-answer g c =
    let k = c.in-Compose in
    let first = c.first-item-then-fetched-lt6.result in
    let second = c.second-item-then-fetched-lt6.result in
    let third = c.third-item.result in
    let one = c.one-item.result in
    let two = c.two-item.result in
    let items = five_items c.args.fetched.now first second third one two (omega (arith, c.in-len5.len_at_least, c.in-len5.len_below)) c.first-item-then-fetched-lt6.is c.second-item-then-fetched-lt6.is c.third-item.is c.one-item.is c.two-item.is in
    reply_answers (named c.args.command) c.args.fetched.now k.out.now k.first.now k.second.now k.third.now k.one.now k.two.now first second third one two (ap named k.is) items c.compose_in.result c.compose_in.ensures.answer

pub returns-in-len5-clause-placed : goal.returns-in-len5-clause-placed
returns-in-len5-clause-placed g c =
    let k = c.in-Compose in
    let first = c.first-item-then-fetched-lt6.result in
    let second = c.second-item-then-fetched-lt6.result in
    let third = c.third-item.result in
    let one = c.one-item.result in
    let two = c.two-item.result in
    let items = five_items c.args.fetched.now first second third one two (omega (arith, c.in-len5.len_at_least, c.in-len5.len_below)) c.first-item-then-fetched-lt6.is c.second-item-then-fetched-lt6.is c.third-item.is c.one-item.is c.two-item.is in
    reply_places (named c.args.command) c.args.fetched.now k.out.now k.first.now k.second.now k.third.now k.one.now k.two.now first second third one two (ap named k.is) items c.compose_in.result c.compose_in.ensures.answer c.compose_in.ensures.placed

pub returns-in-len1-clause-answer : goal.returns-in-len1-clause-answer
returns-in-len1-clause-answer g c =
    let k = c.in-Migrate in
    let cert = c.old-item.result in
    let items = one_item c.args.fetched.now cert (omega (arith, c.in-len1.len_at_least, c.in-len1.len_below)) c.old-item.is in
    migrate_answers (named c.args.command) c.args.fetched.now k.out.now k.cert.now cert (ap named k.is) items c.migrate_in.result c.migrate_in.ensures.answer

pub returns-in-len1-clause-placed : goal.returns-in-len1-clause-placed
returns-in-len1-clause-placed g c =
    let k = c.in-Migrate in
    let cert = c.old-item.result in
    let items = one_item c.args.fetched.now cert (omega (arith, c.in-len1.len_at_least, c.in-len1.len_below)) c.old-item.is in
    migrate_places (named c.args.command) c.args.fetched.now k.out.now k.cert.now cert (ap named k.is) items c.migrate_in.result c.migrate_in.ensures.answer c.migrate_in.ensures.placed

pub make_in-requires : goal.make_in-requires
make_in-requires g c = rw c.in-Make.is at c.requires.count

pub returns-in-Make-clause-answer : goal.returns-in-Make-clause-answer
returns-in-Make-clause-answer g c =
    let k = c.in-Make in
    make_answers (named c.args.command) k.seed k.count k.first.now k.second.now (ap named k.is) c.args.fetched.now c.make_in.result c.make_in.ensures.answer

pub returns-in-Make-clause-placed : goal.returns-in-Make-clause-placed
returns-in-Make-clause-placed g c =
    let k = c.in-Make in
    make_places (named c.args.command) k.seed k.count k.first.now k.second.now (ap named k.is) c.args.fetched.now c.make_in.result c.make_in.ensures.answer c.make_in.ensures.placed

pub returns-in-Cert-clause-placed : goal.returns-in-Cert-clause-placed
returns-in-Cert-clause-placed g c =
    let k = c.in-Validate in
    let first = c.first-item.result in
    let second = c.second-item.result in
    let items = two_items c.args.fetched.now first second (omega (arith, c.in-len2.len_at_least, c.in-len2.len_below)) c.first-item.is c.second-item.is in
    let is = ap named k.is ∙ ap (λ (m : Mode (Bor (List ℕ))). Validate k.first.now k.second.now k.axioms k.rounds k.budget (named_mode m)) c.in-Cert.is in
    show_places (named c.args.command) c.args.fetched.now c.in-Cert.name.now k.first.now k.second.now k.axioms k.rounds k.budget first second is items c.show_in.result c.show_in.ensures.answer c.show_in.ensures.placed
