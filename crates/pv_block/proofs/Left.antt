-- The tests and exits of a row stand for the chain that it is, and have their sorts.
use Rattle.std.proofs.Common.{◌≡◌, ℕ, List, [], ◌∷◌, Option, Some, inr, refl, ap, sym, subst}
use Rattle.pv_block.proofs.Words.{map, AllZip, AllByRecursion, ◌>>=◌, Sort, fits, some_of, no_some, if_some, fits_same, Node, OpSort, I, F, HaveSorts, Graph, Part, Exit, Chain, Leave, Grows, IsOfSort, cell_sort, unit_part, to, throw, give, bound, Cell, Held, Kid, Row, Ending, Leaving, Ran, Entry, StandsFor, CellStands, HoldsFor, op_sort, AreSorted, IsSorted, IsSortedEnding, pick, all_made, part_made, node_at, Stands, AreMade, with_int, exit_by, chain_by, WayFits, with_int_node, leaving_by, LeavesByRow, KeepsSorts, ended, EndsFor, IsExit, LeavesAlong, IsSortedLeaving, AreTests}
use Rattle.pv_frame.specs.declared.sort.Sort.TheVariants as sort
use Rattle.pv_equations.specs.Flow as flow
use Rattle.pv_runs.specs.Held as parts
use Rattle.pv_block.specs.declared.row.Way.{Way}
use Rattle.pv_block.specs.declared.row.Way.TheVariants.{Goes, GoesWith, Throws, ThrowsAfter, Gives, Ends}
use Rattle.pv_block.proofs.Standing.{grown}
use Rattle.pv_block.proofs.Holding.{holds_on}
use Rattle.pv_block.proofs.Lines.{stands_later, sorts_later, picked}
use Rattle.pv_block.proofs.Exits.{ends_on, ending_on, sorted_on, throw_exit, give_exit, ended_for, state_sorted, ended_sorted, faulted_sorted}

-- ---- another int on top of the stack

record HasTop (at : Entry) (nodes : List Node) (n : ℕ) (cs : List Cell) (ds es : List parts.Cell) : Type 0 where
  stand : AllZip (CellStands at nodes) (with_int_node n cs) es
  sorts : map cell_sort ds ≡ map cell_sort es

top_stands : (at : Entry) (nodes : List Node) (n : ℕ) (p : Part) (cs : List Cell) (ds es : List parts.Cell) → StandsFor at nodes n p → AllZip (CellStands at nodes) cs ds → with_int p ds ≡ Some es → HasTop at nodes n cs ds es
top_stands at nodes n p cs [] es s h e = no_some es e
top_stands at nodes n p [] (d ∷ ds) es s h e = absurd h
top_stands at nodes n p (c ∷ cs) (d ∷ ds) es s h e =
    let i = if_some (fits d.sort sort.Int) (record { sort = sort.Int; part = p } ∷ ds) es e in
    let same = fits_same d.sort sort.Int i.0 in
    record {
      stand = subst (AllZip (CellStands at nodes) (with_int_node n (c ∷ cs))) i.1 ((refl, inr s), h.1);
      sorts = subst (λ (l : List parts.Cell). map cell_sort (d ∷ ds) ≡ map cell_sort l) i.1 (ap (λ (s : Sort). s ∷ map cell_sort ds) same);
    }

-- ---- what they stand for

module _ (at : Entry) (nodes : List Node) (given made : List ℕ) (ps qs : List Part) (ends : Ending) (c : Held) (h : parts.Held) (o : Option parts.Held) (given_stand : Stands at nodes given ps) (made_stand : Stands at nodes made qs) (ends_for : EndsFor at nodes ends h)
    (holds : (g : parts.Held) → o ≡ Some g → HoldsFor at nodes c g) where
  kid_stands : (k : Kid) (p : Part) → pick ps qs k ≡ Some p → StandsFor at nodes (node_at given made k) p
  kid_stands k p i = picked (StandsFor at nodes) given made ps qs given_stand made_stand k p i

  way_leaves : (w : Way) (x : Exit) → exit_by ps qs h o w ≡ Some x → IsExit at nodes o (leaving_by given made ends c w) x
  way_leaves (Goes m) x e =
      let b = bound o (λ g. Some (to m g)) x e in
      let s = holds b.0 b.1 in
      (b.0, record { held = b.0; is = b.1; stack = refl; locals = refl }, some_of _ _ b.2, record { stack = s.stack; locals = s.locals; heap = s.heap; token = s.token })
  way_leaves (GoesWith m k) x e =
      let a = bound (pick ps qs k) (λ p. o >>= λ g. with_int p g.stack >>= λ stack. Some (to m (record g { stack = stack }))) x e in
      let b = bound o (λ g. with_int a.0 g.stack >>= λ stack. Some (to m (record g { stack = stack }))) x a.2 in
      let d = bound (with_int a.0 b.0.stack) (λ stack. Some (to m (record b.0 { stack = stack }))) x b.2 in
      let s = holds b.0 b.1 in
      let t = top_stands at nodes (node_at given made k) a.0 c.stack b.0.stack d.0 (kid_stands k a.0 a.1) s.stack d.1 in
      (record b.0 { stack = d.0 }, record { held = b.0; is = b.1; stack = t.sorts; locals = refl }, some_of _ _ d.2, record { stack = t.stand; locals = s.locals; heap = s.heap; token = s.token })
  way_leaves (Throws k) x e =
      let a = bound (pick ps qs k) (λ p. Some (throw p h)) x e in
      subst (IsExit at nodes o (leaving_by given made ends c (Throws k))) (some_of _ _ a.2) (throw_exit at nodes ends h (node_at given made k) a.0 ends_for (kid_stands k a.0 a.1))
  way_leaves (ThrowsAfter k) x e =
      let a = bound (pick ps qs k) (λ p. o >>= λ g. Some (throw p g)) x e in
      let b = bound o (λ g. Some (throw a.0 g)) x a.2 in
      subst (IsExit at nodes o (leaving_by given made ends c (ThrowsAfter k))) (some_of _ _ b.2) (throw_exit at nodes (ended c) b.0 (node_at given made k) a.0 (ended_for at nodes c b.0 (holds b.0 b.1)) (kid_stands k a.0 a.1))
  way_leaves (Gives k) x e =
      let a = bound (pick ps qs k) (λ p. Some (give p h)) x e in
      subst (IsExit at nodes o (leaving_by given made ends c (Gives k))) (some_of _ _ a.2) (give_exit at nodes ends h (node_at given made k) a.0 ends_for (kid_stands k a.0 a.1))
  way_leaves Ends x e = subst (IsExit at nodes o (leaving_by given made ends c Ends)) (some_of _ _ e) (give_exit at nodes ends h ends.result unit_part ends_for ends_for.result_)

  pub chain_leaves : (ts : List Kid) (ws : List Way) (x : Chain) → chain_by ps qs h o ts ws ≡ Some x → LeavesAlong at nodes o (map (node_at given made) ts) (map (leaving_by given made ends c) ws) x
  chain_leaves [] [] x e = no_some x e
  chain_leaves [] (w ∷ []) x e =
      let b = bound (exit_by ps qs h o w) (λ y. Some (Leave y)) x e in
      subst (LeavesAlong at nodes o [] (leaving_by given made ends c w ∷ [])) (some_of _ _ b.2) (way_leaves w b.0 b.1)
  chain_leaves [] (w ∷ v ∷ ws) x e = no_some x e
  chain_leaves (t ∷ ts) [] x e = no_some x e
  chain_leaves (t ∷ ts) (w ∷ ws) x e =
      let a = bound (pick ps qs t) (λ p. exit_by ps qs h o w >>= λ y. chain_by ps qs h o ts ws >>= λ r. Some (flow.Test p y r)) x e in
      let b = bound (exit_by ps qs h o w) (λ y. chain_by ps qs h o ts ws >>= λ r. Some (flow.Test a.0 y r)) x a.2 in
      let d = bound (chain_by ps qs h o ts ws) (λ r. Some (flow.Test a.0 b.0 r)) x b.2 in
      subst (LeavesAlong at nodes o (map (node_at given made) (t ∷ ts)) (map (leaving_by given made ends c) (w ∷ ws))) (some_of _ _ d.2) (kid_stands t a.0 a.1, way_leaves w b.0 b.1, chain_leaves ts ws d.0 d.1)

-- ---- their sorts

top_sorted : (g : Graph) (n : ℕ) (cs : List Cell) → IsOfSort g n I → AreSorted g cs → AreSorted g (with_int_node n cs)
top_sorted g n [] i h = tt
top_sorted g n (c ∷ cs) i h = (i, h.1)

module _ (g : Graph) (given made : List ℕ) (ss ts : List OpSort) (s : Sort) (ends : Ending) (c : Held) (given_have : HaveSorts g.sorts given ss) (made_have : HaveSorts g.sorts made ts) (ends_sorted : IsSortedEnding g sort.Unknown ends) (sorted : IsSorted g c) where
  kid_sorted : (k : Kid) (t : OpSort) → pick ss ts k ≡ Some t → IsOfSort g (node_at given made k) t
  kid_sorted k t i = picked (IsOfSort g) given made ss ts given_have made_have k t i

  way_sorted : (w : Way) → WayFits ss ts s w → IsSortedLeaving g s (leaving_by given made ends c w)
  way_sorted (Goes m) i = state_sorted g c sorted
  way_sorted (GoesWith m k) i = record { stack = top_sorted g (node_at given made k) c.stack (kid_sorted k I i) sorted.stack; locals = sorted.locals; heap = sorted.heap; token = sorted.token }
  way_sorted (Throws k) i = faulted_sorted g s ends (node_at given made k) ends_sorted (kid_sorted k F i)
  way_sorted (ThrowsAfter k) i = faulted_sorted g s (ended c) (node_at given made k) (ended_sorted g c sorted) (kid_sorted k F i)
  way_sorted (Gives k) i = record { token = ends_sorted.token; fault = ends_sorted.fault; result_is = kid_sorted k (op_sort s) i; heap = ends_sorted.heap }
  way_sorted Ends i = subst (λ (s : Sort). IsSortedEnding g s ends) (sym i) ends_sorted

  pub ways_sorted : (ws : List Way) → AllByRecursion (WayFits ss ts s) ws → AllByRecursion (IsSortedLeaving g s) (map (leaving_by given made ends c) ws)
  ways_sorted [] h = tt
  ways_sorted (w ∷ ws) h = (way_sorted w h.0, ways_sorted ws h.1)

  pub tests_sorted : (ks : List Kid) → AllByRecursion (λ k. pick ss ts k ≡ Some I) ks → AreTests g (map (node_at given made) ks)
  tests_sorted [] h = tt
  tests_sorted (k ∷ ks) h = (kid_sorted k I h.0, tests_sorted ks h.1)

-- ---- a row

module _ (old new : Graph) (row : Row) (given made : List ℕ) (ends : Ending) (c : Held) (ran : Ran) (grows : Grows old new) (is_made : AreMade old given row.lines new made) (tests : ran.tests.items ≡ map (node_at given made) row.tests)
    (exits : ran.exits.items ≡ map (leaving_by given made ends c) row.exits) where
  pub row_leaves : LeavesByRow row old.nodes given ends c new.nodes ran
  row_leaves at ps h o x entered stand ends_for holds e =
      let b = bound (all_made part_made ps row.lines []) (λ qs. chain_by ps qs h o row.tests row.exits) x e in
      let there = stands_later old new grows at given ps stand in
      let l = chain_leaves at new.nodes given made ps b.0 ends c h o there (is_made.stand at ps b.0 entered stand b.1) (ends_on at old new ends h grows ends_for) (λ g is. holds_on at old.nodes new.nodes (grown old new grows) c g (holds g is)) row.tests row.exits x b.2 in
      subst (λ (ts : List ℕ). LeavesAlong at new.nodes o ts ran.exits.items x) (sym tests) (subst (λ (es : List Leaving). LeavesAlong at new.nodes o (map (node_at given made) row.tests) es x) (sym exits) l)

  pub row_sorted : IsSortedEnding old sort.Unknown ends → IsSorted old c → KeepsSorts row old given new ran
  row_sorted ends_old sorted ss s have f =
      let there = sorts_later old new grows given ss have in
      let made_have = is_made.sorts ss f.made have f.are in
      let ends_new = ending_on old new sort.Unknown ends grows ends_old in
      let sorted_new = sorted_on old new c grows sorted in
      record {
        tests = subst (AreTests new) (sym tests) (tests_sorted new given made ss f.made s ends c there made_have ends_new sorted_new row.tests f.tests);
        exits = subst (AllByRecursion (IsSortedLeaving new s)) (sym exits) (ways_sorted new given made ss f.made s ends c there made_have ends_new sorted_new row.exits f.exits);
      }
