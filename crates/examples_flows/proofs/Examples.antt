-- Examples: what solves the equations of small flows, as the checker computes it.
use Rattle.std.proofs.Common.{◌≡◌, ℕ, List, [], ◌∷◌, ◌++◌, refl}
use Rattle.pv_graph.specs.declared.node.Op.TheVariants as op
use Rattle.pv_equations.specs.Exp.{Exp, Name, Over, NoExp, Then, two, three, made}
use Rattle.pv_equations.specs.Flow.{Slot, Of, NoPart, Flow}
use Rattle.pv_equations.specs.Equations.{Values, AreEquations, unit_exp, never_exp}
use Rattle.pv_equations.specs.Root.{root_of}
use Rattle.examples_flows.proofs.Shapes.{shaped_solution}
use Rattle.examples_flows.proofs.Evaluate.{Wanted, at_block, where_entered, where_again, whether_left, solved, solved_root}
use Rattle.examples_flows.proofs.Flows.{Block, Go, If, block, header, flow_of, goes, returns, throws, int_part, add_part, less_part, each, Kids, int, add, less, phi, param, clear, heap, eval}

abbrev root : Exp → Exp → Exp → Exp → Exp
root t x r m = Over op.Root (Then t (three x r m))

abbrev both : Exp → Exp → Exp
both a b = Over op.Both (two a b)

-- ---- return n + 1

abbrev pub straight_blocks : List Block
straight_blocks = block [] (Go (returns (add_part (Slot 4) (int_part 1)))) ∷ []

abbrev pub straight : Flow
straight = flow_of straight_blocks

pub straight_solution : (v : Values) × AreEquations straight v
straight_solution = shaped_solution straight_blocks (0 ∷ []) 5 1 0 refl

pub straight_root : (v : Values) → AreEquations straight v → (d : Exp) → root_of straight v d ≡ root unit_exp clear (add (param 0) (int 1)) heap
unfolding made
straight_root v eqs d = solved_root straight 1 v eqs (each (at_block 0) (0 ∷ 3 ∷ 4 ∷ [])) d

-- ---- throw null

abbrev pub thrower_blocks : List Block
thrower_blocks = block [] (Go (throws (Of op.FNull refl NoPart))) ∷ []

abbrev pub thrower : Flow
thrower = flow_of thrower_blocks

pub thrower_solution : (v : Values) × AreEquations thrower v
thrower_solution = shaped_solution thrower_blocks (0 ∷ []) 4 1 0 refl

-- no Return is reached, so the result is the default
pub thrower_root : (v : Values) → AreEquations thrower v → (d : Exp) → root_of thrower v d ≡ root unit_exp (Over op.FNull NoExp) d heap
unfolding made
thrower_root v eqs d = solved_root thrower 1 v eqs (each (at_block 0) (0 ∷ 3 ∷ [])) d

-- ---- if (n < m) x = 1 else x = 2; return x

abbrev pub diamond_blocks : List Block
diamond_blocks = block [] (If (less_part (Slot 4) (Slot 5)) (goes 1 (Slot 4 ∷ Slot 5 ∷ [])) (Go (goes 2 (Slot 4 ∷ Slot 5 ∷ []))))
    ∷ block [] (Go (goes 3 (Slot 4 ∷ int_part 1 ∷ [])))
    ∷ block [] (Go (goes 3 (Slot 4 ∷ int_part 2 ∷ [])))
    ∷ block [] (Go (returns (Slot 5))) ∷ []

abbrev pub diamond : Flow
diamond = flow_of diamond_blocks

pub diamond_solution : (v : Values) × AreEquations diamond v
diamond_solution = shaped_solution diamond_blocks (0 ∷ 1 ∷ 2 ∷ 3 ∷ []) 6 4 0 refl

abbrev diamond_order : List Wanted
diamond_order = each (at_block 0) (0 ∷ 3 ∷ 4 ∷ 5 ∷ []) ++ each (at_block 1) (0 ∷ 3 ∷ 4 ∷ 5 ∷ []) ++ each (at_block 2) (0 ∷ 3 ∷ 4 ∷ 5 ∷ []) ++ each (at_block 3) (0 ∷ 3 ∷ 4 ∷ 5 ∷ [])

pub diamond_root : (v : Values) → AreEquations diamond v → (d : Exp) → root_of diamond v d ≡ root unit_exp clear (phi (less (param 0) (param 1)) (int 1) (int 2)) heap
unfolding made
diamond_root v eqs d = solved_root diamond 4 v eqs diamond_order d

-- ---- s = 0; for (i = 0; i <= n; i++) s += i; return s. Block 1 is the header, block 2 the body; slot 5 is s, slot 6 is i.

abbrev pub sum_loop_blocks : List Block
sum_loop_blocks = block [] (Go (goes 1 (Slot 4 ∷ int_part 0 ∷ int_part 0 ∷ [])))
    ∷ header (1 ∷ []) (3 ∷ 4 ∷ []) (If (less_part (Slot 4) (Slot 6)) (returns (Slot 5)) (Go (goes 2 (Slot 4 ∷ Slot 5 ∷ Slot 6 ∷ []))))
    ∷ block (1 ∷ []) (Go (goes 1 (Slot 4 ∷ add_part (Slot 5) (Slot 6) ∷ add_part (Slot 6) (int_part 1) ∷ []))) ∷ []

abbrev pub sum_loop : Flow
sum_loop = flow_of sum_loop_blocks

pub sum_loop_solution : (v : Values) × AreEquations sum_loop v
sum_loop_solution = shaped_solution sum_loop_blocks (0 ∷ 1 ∷ 2 ∷ []) 7 3 1 refl

abbrev sum_left : Exp
sum_left = phi (less (param 0) (Name 1 6)) (int 1) (int 0)

abbrev sum_order : List Wanted
sum_order = each (at_block 0) (0 ∷ 3 ∷ 4 ∷ []) ++ each (where_entered 1) (0 ∷ 3 ∷ 4 ∷ 5 ∷ 6 ∷ []) ++ each (at_block 1) (0 ∷ 3 ∷ 4 ∷ 5 ∷ 6 ∷ []) ++ each (at_block 2) (0 ∷ 3 ∷ 4 ∷ 5 ∷ 6 ∷ [])
    ++ whether_left 1 ∷ each (where_again 1) (0 ∷ 5 ∷ 6 ∷ [])

pub sum_root : (v : Values) → AreEquations sum_loop v → (d : Exp) → root_of sum_loop v d ≡ root (eval 1 (Name 1 0) sum_left) clear (eval 1 (Name 1 5) sum_left) heap
unfolding made
sum_root v eqs d = solved_root sum_loop 3 v eqs sum_order d

pub sum_names : (v : Values) → AreEquations sum_loop v → Kids v 1 0 unit_exp (Name 1 0) × Kids v 1 5 (int 0) (add (Name 1 5) (Name 1 6)) × Kids v 1 6 (int 0) (add (Name 1 6) (int 1))
unfolding made
sum_names v eqs = (
  (refl, solved sum_loop 3 v eqs sum_order (where_again 1 0)),
  (solved sum_loop 3 v eqs sum_order (where_entered 1 5), solved sum_loop 3 v eqs sum_order (where_again 1 5)),
  (solved sum_loop 3 v eqs sum_order (where_entered 1 6), solved sum_loop 3 v eqs sum_order (where_again 1 6)),
)

-- ---- do n++ while (n < m); return n. The header is the entry.

abbrev pub entry_loop_blocks : List Block
entry_loop_blocks = header (0 ∷ []) (3 ∷ 5 ∷ []) (If (less_part (add_part (Slot 4) (int_part 1)) (Slot 5)) (goes 0 (add_part (Slot 4) (int_part 1) ∷ Slot 5 ∷ [])) (Go (returns (add_part (Slot 4) (int_part 1))))) ∷ []

abbrev pub entry_loop : Flow
entry_loop = flow_of entry_loop_blocks

pub entry_loop_solution : (v : Values) × AreEquations entry_loop v
entry_loop_solution = shaped_solution entry_loop_blocks (0 ∷ []) 6 1 1 refl

abbrev entry_left : Exp
entry_left = phi (less (add (Name 0 4) (int 1)) (param 1)) (int 0) (int 1)

abbrev entry_order : List Wanted
entry_order = each (where_entered 0) (0 ∷ 3 ∷ 4 ∷ 5 ∷ []) ++ each (at_block 0) (0 ∷ 3 ∷ 4 ∷ 5 ∷ []) ++ whether_left 0 ∷ each (where_again 0) (0 ∷ 4 ∷ [])

pub entry_root : (v : Values) → AreEquations entry_loop v → (d : Exp) → root_of entry_loop v d ≡ root (eval 1 (Name 0 0) entry_left) clear (eval 1 (add (Name 0 4) (int 1)) entry_left) heap
unfolding made
entry_root v eqs d = solved_root entry_loop 1 v eqs entry_order d

pub entry_names : (v : Values) → AreEquations entry_loop v → Kids v 0 0 unit_exp (Name 0 0) × Kids v 0 4 (param 0) (add (Name 0 4) (int 1))
unfolding made
entry_names v eqs = (
  (refl, solved entry_loop 1 v eqs entry_order (where_again 0 0)),
  (solved entry_loop 1 v eqs entry_order (where_entered 0 4), solved entry_loop 1 v eqs entry_order (where_again 0 4)),
)

-- ---- if (n < m) for (;;) n++; return n. The token is `never` where the loop is entered.

abbrev pub endless_blocks : List Block
endless_blocks = block [] (If (less_part (Slot 4) (Slot 5)) (goes 1 (Slot 4 ∷ Slot 5 ∷ [])) (Go (returns (Slot 4))))
    ∷ header (1 ∷ []) (3 ∷ 5 ∷ []) (Go (goes 1 (add_part (Slot 4) (int_part 1) ∷ Slot 5 ∷ []))) ∷ []

abbrev pub endless : Flow
endless = flow_of endless_blocks

pub endless_solution : (v : Values) × AreEquations endless v
endless_solution = shaped_solution endless_blocks (0 ∷ 1 ∷ []) 6 2 1 refl

abbrev endless_order : List Wanted
endless_order = each (at_block 0) (0 ∷ 3 ∷ 4 ∷ 5 ∷ []) ++ each (where_entered 1) (0 ∷ 3 ∷ 4 ∷ 5 ∷ []) ++ each (at_block 1) (0 ∷ 3 ∷ 4 ∷ 5 ∷ []) ++ whether_left 1 ∷ each (where_again 1) (0 ∷ 4 ∷ [])

pub endless_root : (v : Values) → AreEquations endless v → (d : Exp) → root_of endless v d ≡ root (phi (less (param 0) (param 1)) never_exp unit_exp) clear (param 0) heap
unfolding made
endless_root v eqs d = solved_root endless 2 v eqs endless_order d

-- the loop is never left
pub endless_names : (v : Values) → AreEquations endless v → (v.ending 1 ≡ int 0) × Kids v 1 0 unit_exp (Name 1 0) × Kids v 1 4 (param 0) (add (Name 1 4) (int 1))
unfolding made
endless_names v eqs = (
  solved endless 2 v eqs endless_order (whether_left 1),
  (refl, solved endless 2 v eqs endless_order (where_again 1 0)),
  (solved endless 2 v eqs endless_order (where_entered 1 4), solved endless 2 v eqs endless_order (where_again 1 4)),
)

-- ---- t = 0; for (i = 0; i < n; i++) for (j = 0; j < m; j++) t += j; return t. Block 1 is the outer header, block 2 the inner one; slots
-- 6 to 8 are t, i and j.

abbrev pub nested_blocks : List Block
nested_blocks = block [] (Go (goes 1 (Slot 4 ∷ Slot 5 ∷ int_part 0 ∷ int_part 0 ∷ [])))
    ∷ header (1 ∷ []) (3 ∷ 4 ∷ 5 ∷ []) (If (less_part (Slot 7) (Slot 4)) (goes 2 (Slot 4 ∷ Slot 5 ∷ Slot 6 ∷ Slot 7 ∷ int_part 0 ∷ [])) (Go (returns (Slot 6))))
    ∷ header (2 ∷ 1 ∷ []) (3 ∷ 4 ∷ 5 ∷ 7 ∷ []) (If (less_part (Slot 8) (Slot 5)) (goes 3 (Slot 4 ∷ Slot 5 ∷ Slot 6 ∷ Slot 7 ∷ Slot 8 ∷ [])) (Go (goes 4 (Slot 4 ∷ Slot 5 ∷ Slot 6 ∷ Slot 7 ∷ []))))
    ∷ block (2 ∷ 1 ∷ []) (Go (goes 2 (Slot 4 ∷ Slot 5 ∷ add_part (Slot 6) (Slot 8) ∷ Slot 7 ∷ add_part (Slot 8) (int_part 1) ∷ [])))
    ∷ block (1 ∷ []) (Go (goes 1 (Slot 4 ∷ Slot 5 ∷ Slot 6 ∷ add_part (Slot 7) (int_part 1) ∷ []))) ∷ []

abbrev pub nested : Flow
nested = flow_of nested_blocks

pub nested_solution : (v : Values) × AreEquations nested v
nested_solution = shaped_solution nested_blocks (0 ∷ 1 ∷ 2 ∷ 3 ∷ 4 ∷ []) 9 5 2 refl

abbrev inner_left : Exp
inner_left = phi (less (Name 2 8) (param 1)) (int 0) (int 1)

abbrev outer_left : Exp
outer_left = phi (less (Name 1 7) (param 0)) (int 0) (int 1)

abbrev nested_slots : List ℕ
nested_slots = 0 ∷ 3 ∷ 4 ∷ 5 ∷ 6 ∷ 7 ∷ 8 ∷ []

abbrev nested_order : List Wanted
nested_order = each (at_block 0) (0 ∷ 3 ∷ 4 ∷ 5 ∷ []) ++ each (where_entered 1) nested_slots ++ each (at_block 1) nested_slots ++ each (where_entered 2) nested_slots ++ each (at_block 2) nested_slots ++ each (at_block 3) nested_slots
    ++ whether_left 2 ∷ each (where_again 2) (0 ∷ 6 ∷ 8 ∷ []) ++ each (at_block 4) (0 ∷ 3 ∷ 4 ∷ 5 ∷ 6 ∷ 7 ∷ []) ++ whether_left 1 ∷ each (where_again 1) (0 ∷ 6 ∷ 7 ∷ [])

pub nested_root : (v : Values) → AreEquations nested v → (d : Exp) → root_of nested v d ≡ root (eval 1 (Name 1 0) outer_left) clear (eval 1 (Name 1 6) outer_left) heap
unfolding made
nested_root v eqs d = solved_root nested 5 v eqs nested_order d

-- the token, t and i of the outer loop; the token, t and j of the inner one
pub nested_names : (v : Values) → AreEquations nested v
    → (Kids v 1 0 unit_exp (both (Name 1 0) (eval 2 (Name 2 0) inner_left)) × Kids v 1 6 (int 0) (eval 2 (Name 2 6) inner_left) × Kids v 1 7 (int 0) (add (Name 1 7) (int 1)))
    × (Kids v 2 0 unit_exp (Name 2 0) × Kids v 2 6 (Name 1 6) (add (Name 2 6) (Name 2 8)) × Kids v 2 8 (int 0) (add (Name 2 8) (int 1)))
unfolding made
nested_names v eqs = (
  (
    (refl, solved nested 5 v eqs nested_order (where_again 1 0)),
    (solved nested 5 v eqs nested_order (where_entered 1 6), solved nested 5 v eqs nested_order (where_again 1 6)),
    (solved nested 5 v eqs nested_order (where_entered 1 7), solved nested 5 v eqs nested_order (where_again 1 7)),
  ),
  (
    (refl, solved nested 5 v eqs nested_order (where_again 2 0)),
    (solved nested 5 v eqs nested_order (where_entered 2 6), solved nested 5 v eqs nested_order (where_again 2 6)),
    (solved nested 5 v eqs nested_order (where_entered 2 8), solved nested 5 v eqs nested_order (where_again 2 8)),
  ),
)

-- ---- for (i = 0; ; i++) for (j = 0; ; j++) { if (n < j) break both; if (i < j) break; } return j. Slots 5 and 6 are i and j.

abbrev pub breaks_blocks : List Block
breaks_blocks = block [] (Go (goes 1 (Slot 4 ∷ int_part 0 ∷ [])))
    ∷ header (1 ∷ []) (3 ∷ 4 ∷ []) (Go (goes 2 (Slot 4 ∷ Slot 5 ∷ int_part 0 ∷ [])))
    ∷ header (2 ∷ 1 ∷ []) (3 ∷ 4 ∷ 5 ∷ []) (If (less_part (Slot 4) (Slot 6)) (goes 4 (Slot 4 ∷ Slot 5 ∷ Slot 6 ∷ [])) (If (less_part (Slot 5) (Slot 6)) (goes 3 (Slot 4 ∷ Slot 5 ∷ []))
    (Go (goes 2 (Slot 4 ∷ Slot 5 ∷ add_part (Slot 6) (int_part 1) ∷ [])))))
    ∷ block (1 ∷ []) (Go (goes 1 (Slot 4 ∷ add_part (Slot 5) (int_part 1) ∷ [])))
    ∷ block [] (Go (returns (Slot 6))) ∷ []

abbrev pub breaks : Flow
breaks = flow_of breaks_blocks

pub breaks_solution : (v : Values) × AreEquations breaks v
breaks_solution = shaped_solution breaks_blocks (0 ∷ 1 ∷ 2 ∷ 3 ∷ 4 ∷ []) 7 5 2 refl

-- the inner loop is left by both tests; the outer one where the first test is true when the inner one is left
abbrev breaks_inner : Exp
breaks_inner = phi (less (param 0) (Name 2 6)) (int 1) (phi (less (Name 1 5) (Name 2 6)) (int 1) (int 0))

abbrev breaks_outer : Exp
breaks_outer = phi (eval 2 (less (param 0) (Name 2 6)) breaks_inner) (int 1) (int 0)

abbrev breaks_slots : List ℕ
breaks_slots = 0 ∷ 3 ∷ 4 ∷ 5 ∷ 6 ∷ []

abbrev breaks_order : List Wanted
breaks_order = each (at_block 0) (0 ∷ 3 ∷ 4 ∷ []) ++ each (where_entered 1) breaks_slots ++ each (at_block 1) breaks_slots ++ each (where_entered 2) breaks_slots ++ each (at_block 2) breaks_slots
    ++ whether_left 2 ∷ each (where_again 2) (0 ∷ 6 ∷ []) ++ each (at_block 3) breaks_slots ++ whether_left 1 ∷ each (where_again 1) (0 ∷ 5 ∷ []) ++ each (at_block 4) breaks_slots

pub breaks_root : (v : Values) → AreEquations breaks v → (d : Exp)
    → root_of breaks v d ≡ root (eval 1 (both (Name 1 0) (eval 2 (Name 2 0) breaks_inner)) breaks_outer) clear (eval 1 (eval 2 (Name 2 6) breaks_inner) breaks_outer) heap
unfolding made
breaks_root v eqs d = solved_root breaks 5 v eqs breaks_order d

pub breaks_names : (v : Values) → AreEquations breaks v
    → (Kids v 1 0 unit_exp (both (Name 1 0) (eval 2 (Name 2 0) breaks_inner)) × Kids v 1 5 (int 0) (add (Name 1 5) (int 1))) × (Kids v 2 0 unit_exp (Name 2 0) × Kids v 2 6 (int 0) (add (Name 2 6) (int 1)))
unfolding made
breaks_names v eqs = (
  (
    (refl, solved breaks 5 v eqs breaks_order (where_again 1 0)),
    (solved breaks 5 v eqs breaks_order (where_entered 1 5), solved breaks 5 v eqs breaks_order (where_again 1 5)),
  ),
  (
    (refl, solved breaks 5 v eqs breaks_order (where_again 2 0)),
    (solved breaks 5 v eqs breaks_order (where_entered 2 6), solved breaks 5 v eqs breaks_order (where_again 2 6)),
  ),
)
