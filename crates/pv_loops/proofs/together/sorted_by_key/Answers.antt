use Rattle.std.proofs.Common.{◌≡◌, is_lt, rules}
use Rattle.pv_loops.proofs.Words.{always_returns_same, ranks_by, slice_cmp, nat_list_cmp_total, nat_cmp, key_at}
use Rattle.pv_loops.proofs.together.sorted_by_key.Goals as goal

pub returns-clause-sorted : goal.returns-clause-sorted
returns-clause-sorted c =
    let keys = c.args.keys.now in
    c.sort_unstable_by.ensures.sorted (λ x y. is_lt (slice_cmp nat_cmp (key_at keys x) (key_at keys y))) (ranks_by nat_list_cmp_total (key_at keys))
    (always_returns_same _ (λ a r. is_lt r ≡ is_lt (slice_cmp nat_cmp (key_at keys a.0.now) (key_at keys a.1.0.now))) _ (λ a r f' k. search rules))
