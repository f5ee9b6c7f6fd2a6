use Rattle.std.proofs.Common.{◌≡◌, length, suc, nat_lt, rules}
use Rattle.pv_match.proofs.Uniting.{ordered_front, past_limit, within_limit, united_over, united_all}
use Rattle.pv_match.proofs.together.unite.Goals as goal

pub invariant_of-result : goal.invariant_of-result
invariant_of-result c = record { ordered = ordered_front (suc c.args.limit) c.args.first.items c.args.second.items c.in_ok-list.list.items c.in_ok-list.ensures c.requires.first c.requires.second }

pub returns-clause-over : goal.returns-clause-over
returns-clause-over c =
    let list = c.in_ok-list.list.items in
    let long : c.len.result ≡ length list = search rules in
    united_over c.args.limit c.args.first.items c.args.second.items list c.in_ok-list.ensures (nat_lt c.args.limit c.len.result) (λ e. past_limit c.args.limit c.len.result (length list) long e)

pub returns-clause-all : goal.returns-clause-all
returns-clause-all c =
    let list = c.in_ok-list.list.items in
    let long : c.len.result ≡ length list = search rules in
    united_all c.args.limit c.args.first.items c.args.second.items list c.in_ok-list.ensures (nat_lt c.args.limit c.len.result) (λ e. within_limit c.args.limit c.len.result (length list) long e)
