use Rattle.std.proofs.Common.{List, Option, ℕ, ◌≡◌, ◌+◌, length, reverse, ◌∙◌, subst, ap}
use Rattle.pv_graph.specs.Graphs.{Graph}
use Rattle.pv_steps.specs.declared.step.Step.{Step}
use Rattle.pv_trim.specs.Moving.{count, kept_steps}
use Rattle.pv_trim.specs.Marks.{is_on, AreMarks}
use Rattle.pv_trim.proofs.Trimming.{IsDone, done, new_size, if_ok}
use Rattle.pv_trim.proofs.section.needed.Goals as goal

is_done : (c : goal.After-drop-ends-2) → (new : List Step) → reverse new ≡ kept_steps (is_on c.in_ok-new-2.field-0) (count (is_on c.in_ok-new.field-0)) (count (is_on c.in_ok-new-2.field-0)) (reverse c.args.steps.now) → IsDone c.args.least.now.graph c.args.least.now.first c.args.least.now.second new
is_done c =
    done c.args.least.now.graph c.requires.made c.requires.sealed c.args.least.now.first c.args.least.now.second c.requires.first c.requires.second c.args.steps.now c.requires.derives c.requires.two
    c.in_ok-ends.ends.items c.in_ok-ends.ensures c.in_ok-marks.marks.steps.items c.in_ok-marks.marks.nodes.items c.len.result (c.len.ensures.len ∙ ap (λ (g : Graph). length g.nodes) c.graph.ensures)
    (subst (λ (q : List (Option ℕ)). AreMarks c.args.steps.now q c.len.result (c.len.result + length c.args.steps.now) 0 c.in_ok-marks.marks.steps.items c.in_ok-marks.marks.nodes.items) c.deref.ensures.value c.in_ok-marks.ensures)
    c.in_ok-new-2.field-0 c.in_ok-new.field-0 c.in_ok-new-2.ensures c.in_ok-new.ensures

pub returns-clause-derives : goal.returns-clause-derives
returns-clause-derives c = if_ok c.kept.result (λ new is. (is_done c new.items is).derives) c.kept.ensures

pub returns-clause-lean : goal.returns-clause-lean
returns-clause-lean c = if_ok c.kept.result (λ new is. (is_done c new.items is).lean) c.kept.ensures

pub returns-clause-members : goal.returns-clause-members
returns-clause-members c = if_ok c.kept.result (λ new is. (is_done c new.items is).members) c.kept.ensures

pub returns-clause-size : goal.returns-clause-size
returns-clause-size c = if_ok c.kept.result (λ new is. new_size (is_on c.in_ok-new-2.field-0) (count (is_on c.in_ok-new.field-0)) (count (is_on c.in_ok-new-2.field-0)) c.args.steps.now new.items is) c.kept.ensures
