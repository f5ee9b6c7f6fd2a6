-- Worked examples: two loops of their own that stay at 0 are one, and a loop that goes to 1 is another.
use Rattle.std.specs.Prelude.{◌≡◌, ℕ, zero, suc, ◌<◌, pos, List, [], ◌∷◌, refl}
use Rattle.std.specs.List.{Contains}
use Rattle.std.proofs.Common.{sym, ◌∙◌, arith}
use Rattle.pv_list.proofs.Cited.{contains_at}
use Rattle.pv_graph.specs.declared.node.Op.TheVariants as op
use Rattle.pv_graph.specs.declared.node.Node.{Node}
use Rattle.pv_graph.specs.Nodes.{node_of}
use Rattle.pv_graph.specs.Unfold.{unfold_at}
use Rattle.pv_graph.specs.Graphs.{form_at}
use Rattle.pv_graph.proofs.Cited.{Bisimulates, bisimulates_unfolds}
use Rattle.pv_alike.specs.Visits.{Visits, done, again, new}
use Rattle.pv_alike.specs.Least.{UnfoldEqually, UnfoldsAs, IsLeast}
use Rattle.pv_alike.specs.Laws.{AreSameRoots}
use Rattle.pv_alike.proofs.SameLeast.{least_moved}

-- 0, a loop from it that stays there, another, 1, and a loop from 0 that is 1 after each turn
abbrev loops : List Node
loops = node_of (op.Int (pos 0)) [] ∷ node_of (op.Theta 1) (0 ∷ 1 ∷ []) ∷ node_of (op.Theta 1) (0 ∷ 2 ∷ []) ∷ node_of (op.Int (pos 1)) [] ∷ node_of (op.Theta 1) (0 ∷ 3 ∷ []) ∷ []

-- the least graph of the first two loops: one loop, and 0
abbrev one_loop : List Node
one_loop = node_of (op.Theta 1) (1 ∷ 0 ∷ []) ∷ node_of (op.Int (pos 0)) [] ∷ []

-- which nodes of it are which nodes
abbrev Stands : ℕ → ℕ → Type 0
Stands zero (suc zero) = Unit {0}
Stands zero (suc (suc zero)) = Unit {0}
Stands (suc zero) zero = Unit {0}
Stands m n = ⊥

stands : Bisimulates (form_at one_loop) (form_at loops) Stands
stands zero (suc zero) h = (refl, (tt, (tt, tt)))
stands zero (suc (suc zero)) h = (refl, (tt, (tt, tt)))
stands (suc zero) zero h = (refl, tt)
stands m n h = absurd h

as_it_stands : (m n : ℕ) → Stands m n → UnfoldsAs one_loop m loops n
as_it_stands m n h = bisimulates_unfolds (form_at one_loop) (form_at loops) Stands stands m n h

-- the loop is not 0
apart : (m n : ℕ) → m < 2 → n < 2 → UnfoldEqually one_loop m n → m ≡ n
unfolding unfold_at
apart zero zero lt lt' same = refl
apart zero (suc zero) lt lt' same = absurd (let e = same 1 in cc)
apart (suc zero) zero lt lt' same = absurd (let e = same 1 in cc)
apart (suc zero) (suc zero) lt lt' same = refl
apart m (suc (suc n)) lt lt' same = absurd (omega arith)
apart (suc (suc m)) n lt lt' same = absurd (omega arith)

visits_loop : Visits one_loop (0 ∷ 1 ∷ []) [] (0 ∷ 0 ∷ [])
visits_loop =
    new [] 0 (0 ∷ []) (node_of (op.Theta 1) (1 ∷ 0 ∷ [])) (λ there. absurd (omega (arith, there.1))) refl
    (new (0 ∷ []) 1 (0 ∷ 0 ∷ []) (node_of (op.Int (pos 0)) []) not_the_first refl
    (again (0 ∷ 1 ∷ []) 0 (0 ∷ []) (contains_at (0 ∷ 1 ∷ []) 0 0 refl) (again (0 ∷ 1 ∷ []) 0 [] (contains_at (0 ∷ 1 ∷ []) 0 0 refl) (done (0 ∷ 1 ∷ []) refl))))
  where
    not_the_first : Contains {X = ℕ} (0 ∷ []) 1 → ⊥
    not_the_first (zero, lt, e) = absurd (omega arith)
    not_the_first (suc p, lt, e) = absurd (omega arith)

-- both loops are the one loop
two_loops_are_one : IsLeast loops 1 2 one_loop 0 0
two_loops_are_one = record {
  first_root = as_it_stands 0 1 tt;
  second_root = as_it_stands 0 2 tt;
  distinct = apart;
  numbered = visits_loop;
}

-- and the loop that goes to 1 isn't
other_loop : UnfoldEqually loops 1 4 → ⊥
unfolding unfold_at
other_loop same = let e = same 2 in cc

-- the two loops are the same two roots as the one loop of the other graph, taken twice, so that has the same least graph
same_two_loops : AreSameRoots loops 1 2 one_loop 0 0
same_two_loops = record { first = λ m. sym (as_it_stands 0 1 tt m); second = λ m. sym (as_it_stands 0 2 tt m) }

least_elsewhere : IsLeast one_loop 0 0 one_loop 0 0
least_elsewhere = least_moved loops one_loop 1 2 0 0 one_loop 0 0 same_two_loops two_loops_are_one

-- and where the second root goes to 1 they aren't
not_the_same : AreSameRoots loops 1 4 one_loop 0 0 → ⊥
not_the_same same = other_loop (λ m. same.first m ∙ sym (same.second m))
