use Rattle.std.proofs.Common.{◌≡◌, ℕ, List, ap, subst, ◌∙◌}
use Rattle.pv_block.proofs.Words.{map, Line, node_at, AreMade, leaving_by}
use Rattle.pv_block.proofs.Left.{row_leaves, row_sorted}
use Rattle.pv_block.proofs.leaving.left.Goals as goal

-- what is made, and the tests and exits over that
record Found (c : goal.After-drop-made-2) : Type 0 where
  made : AreMade c.args.g.now c.args.given.now c.args.row.now.lines c.emit.new.g c.in_ok-made.made.items
  tests : c.in_ok-tests.tests.items ≡ map (node_at c.args.given.now c.in_ok-made.made.items) c.args.row.now.tests
  exits : c.in_ok-exits.exits.items ≡ map (leaving_by c.args.given.now c.in_ok-made.made.items c.args.ends c.args.after.now) c.args.row.now.exits

found : (c : goal.After-drop-made-2) → Found c
found c =
    let given = c.args.given.now in
    let made = c.in_ok-made.made.items in
    record {
      made = subst (λ (ls : List Line). AreMade c.args.g.now given ls c.emit.new.g made) c.as_slice.ensures c.in_ok-made.ensures.made;
      tests = c.in_ok-tests.ensures ∙ ap (λ (m : List ℕ). map (node_at given m) c.as_slice-2.result.now) c.deref.ensures.value ∙ ap (map (node_at given made)) c.as_slice-2.ensures;
      exits = c.in_ok-exits.ensures ∙ ap (λ (m : List ℕ). map (leaving_by given m c.args.ends c.args.after.now) c.as_slice-3.result.now) c.deref-2.ensures.value ∙ ap (map (leaving_by given made c.args.ends c.args.after.now)) c.as_slice-3.ensures;
    }

pub returns-clause-leaves : goal.returns-clause-leaves
returns-clause-leaves c =
    let f = found c in
    row_leaves c.args.g.now c.emit.new.g c.args.row.now c.args.given.now c.in_ok-made.made.items c.args.ends c.args.after.now (record { tests = c.in_ok-tests.tests; exits = c.in_ok-exits.exits }) c.in_ok-made.ensures.grows f.made f.tests f.exits

pub returns-clause-sorted : goal.returns-clause-sorted
returns-clause-sorted c =
    let f = found c in
    row_sorted c.args.g.now c.emit.new.g c.args.row.now c.args.given.now c.in_ok-made.made.items c.args.ends c.args.after.now (record { tests = c.in_ok-tests.tests; exits = c.in_ok-exits.exits }) c.in_ok-made.ensures.grows f.made f.tests f.exits
    c.requires.ends c.requires.sorted
