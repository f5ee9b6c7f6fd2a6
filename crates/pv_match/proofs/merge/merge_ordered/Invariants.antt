use Rattle.std.proofs.Common.{◌≡◌, ◌++◌, length}
use Rattle.std.specs.List.Sorted.{IsStrictlySortedBy}
use Rattle.pv_match.proofs.Merging.{merged}
use Rattle.pv_match.proofs.merge.merge_ordered.Given as goal

abbrev pub invariant-loop-first : goal.invariant-loop-first
invariant-loop-first g l = record {
  first : IsStrictlySortedBy g.T.Ord.cmp l.first.items;
  second : IsStrictlySortedBy g.T.Ord.cmp l.second.items;
  whole : l.list.items ++ merged g.T.Ord.cmp l.first.items l.second.items ≡ merged g.T.Ord.cmp l.fn.first.items l.fn.second.items;
}

abbrev pub decreases-loop-first : goal.decreases-loop-first
decreases-loop-first g l = length (merged g.T.Ord.cmp l.first.items l.second.items)
