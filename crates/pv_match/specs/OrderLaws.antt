-- The order of matches is total, and those that it doesn't tell apart are equal.
use Rattle.std.specs.Prelude.{◌≡◌, Bool}
use Rattle.std.specs.Cmp.{IsTotalOrder, both_tied, on_total, then_total, nat_cmp_total, unsigned_ties}
use Rattle.std.specs.Cmp.Lexicographic.{lists_total, lists_ties}
use Rattle.std.specs.Ordering.{eq_by_cmp, nat_cmp}
use Rattle.pv_match.specs.contracts.found.ParamOrd.TheImpl.Laws as param_laws
use Rattle.pv_match.specs.contracts.found.MatchPartialEq.TheImpl as match_equality
use Rattle.pv_match.specs.declared.found.Match.{Match}
use Rattle.pv_match.specs.Orders.{param_cmp, match_cmp}

pub matches_total : IsTotalOrder match_cmp
matches_total =
    then_total (on_total (λ (x : Match). x.axiom) nat_cmp_total)
    (then_total (on_total (λ (x : Match). x.params.items) (lists_total param_laws.total-law)) (on_total (λ (x : Match). x.classes.items) (lists_total nat_cmp_total)))

-- the equality that the type derives
abbrev pub match_eq : Match → Match → Bool
match_eq = match_equality.eq-value.it

pub matches_tied : (x y : Match) → match_eq x y ≡ eq_by_cmp match_cmp x y
matches_tied x y =
    both_tied _ _ _ _ (unsigned_ties x.axiom y.axiom)
    (both_tied _ _ _ _ (lists_ties param_cmp param_laws.matches_eq-law x.params.items y.params.items) (lists_ties nat_cmp unsigned_ties x.classes.items y.classes.items))
