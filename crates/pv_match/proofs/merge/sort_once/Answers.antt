use Rattle.std.proofs.lemmas.List.Filters.{dedup_is}
use Rattle.pv_match.proofs.Sorting.{once_ordered, once_within, once_kept}
use Rattle.pv_match.proofs.merge.sort_once.Goals as goal

pub returns-clause-ordered : goal.returns-clause-ordered
returns-clause-ordered g c = once_ordered g.T.Ord.cmp g.T.PartialEq.eq g.met.T.Ord.matches_eq c.args.list.now.items c.sort.new.self.items c.dedup.new.self.items (dedup_is g.T.PartialEq.eq c.sort.new.self.items c.dedup.new.self.items c.dedup.ensures.filtered) g.met.T.Ord.total c.in_ok-sort.ensures.sorted

pub returns-clause-within : goal.returns-clause-within
returns-clause-within g c = once_within g.T.Ord.cmp g.T.PartialEq.eq g.met.T.Ord.matches_eq c.args.list.now.items c.sort.new.self.items c.dedup.new.self.items (dedup_is g.T.PartialEq.eq c.sort.new.self.items c.dedup.new.self.items c.dedup.ensures.filtered) c.in_ok-sort.ensures.permutation

pub returns-clause-kept : goal.returns-clause-kept
returns-clause-kept g c = once_kept g.T.Ord.cmp g.T.PartialEq.eq g.met.T.Ord.matches_eq c.args.list.now.items c.sort.new.self.items c.dedup.new.self.items (dedup_is g.T.PartialEq.eq c.sort.new.self.items c.dedup.new.self.items c.dedup.ensures.filtered) g.met.T.Eq.laws c.in_ok-sort.ensures.permutation
