-- The sort of a filled side, where each kid of a family and each variable has a sort.
use Rattle.std.specs.Prelude.{◌≡◌, List, [], ◌∷◌, Some, slice_get}
use Rattle.pv_graph.specs.declared.node.OpSort.{OpSort}
use Rattle.pv_graph.specs.Ops.{sort_over}
use Rattle.pv_heights.specs.Filled.{kid, variable, Filled, at, of, Parts, no_part, part}

abbrev mutual
  -- the side has this sort, where the kids of a family and the variables have these sorts
  pub IsSorted : List OpSort → List OpSort → Filled → OpSort → Type 0
  IsSorted kids vars (at (kid i)) s = slice_get kids i ≡ Some s
  IsSorted kids vars (at (variable j)) s = slice_get vars j ≡ Some s
  IsSorted kids vars (of o ps) s = (ss : List OpSort) × (sort_over o ss ≡ Some s) × AreSorted kids vars ps ss

  pub AreSorted : List OpSort → List OpSort → Parts → List OpSort → Type 0
  AreSorted kids vars no_part [] = Unit {0}
  AreSorted kids vars no_part (s ∷ ss) = ⊥
  AreSorted kids vars (part p ps) [] = ⊥
  AreSorted kids vars (part p ps) (s ∷ ss) = IsSorted kids vars p s × AreSorted kids vars ps ss
