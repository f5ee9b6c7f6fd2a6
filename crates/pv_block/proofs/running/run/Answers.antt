use Rattle.std.proofs.Common.{List, refl, ap, sym, ◌∙◌}
use Rattle.pv_block.proofs.Words.{slice_get, slice_get_read, slice_get_past, Action, IsAt, no_some, grows_then}
use Rattle.pv_block.proofs.Whole.{state_is_sorted, last_held, left, runs_for, runs_sorted, gives_result, last_some}
use Rattle.pv_block.proofs.running.run.Goals as goal

pub begin-requires-clause-sorted : goal.begin-requires-clause-sorted
begin-requires-clause-sorted c = state_is_sorted c.args.g.now c.args.state c.requires.state.0 c.requires.state.2

pub unreachable-requires : goal.unreachable-requires
unreachable-requires c =
    let l = last_held c.args.typed.now.program c.args.typed.now.frames c.requires.well_typed c.requires.plain c.args.block.now c.requires.span c.requires.reached c.args.g.now c.args.state c.begin.new.g.nodes c.along.new.g.nodes c.in_ok-held.held c.in_ok-held-2.field-0 c.requires.state c.in_ok-held.ensures.holds c.in_ok-held-2.ensures.acts in
    no_some l.0 (sym c.in_default.is ∙ l.1)

pub unreachable-requires-in_default-get : goal.unreachable-requires-in_default-get
unreachable-requires-in_default-get c = last_some c.args.typed.now.program c.args.typed.now.frames c.requires.well_typed c.requires.plain c.args.block.now c.requires.span c.requires.reached (ap (λ (l : List Action). slice_get l c.args.block.now.last) (sym c.as_slice.ensures) ∙ slice_get_past c.as_slice.result.now c.args.block.now.last c.in_default-get.ensures.lookup.3)

pub leave-requires-clause-plain : goal.leave-requires-clause-plain
leave-requires-clause-plain c =
    let look = c.in-Some-get.ensures.lookup in
    let at : IsAt c.args.typed.now.program c.args.block.now.last c.in-Some-get.action.now = ap (λ (l : List Action). slice_get l c.args.block.now.last) (sym c.as_slice.ensures) ∙ slice_get_read c.as_slice.result.now _ c.args.block.now.last c.in-Some-get.action.now refl look.3.0 look.1 in
    c.requires.plain c.args.block.now.last c.in-Some-get.action.now at

pub leave-requires-clause-gives : goal.leave-requires-clause-gives
leave-requires-clause-gives c =
    let look = c.in-Some-get.ensures.lookup in
    let at : IsAt c.args.typed.now.program c.args.block.now.last c.in-Some-get.action.now = ap (λ (l : List Action). slice_get l c.args.block.now.last) (sym c.as_slice.ensures) ∙ slice_get_read c.as_slice.result.now _ c.args.block.now.last c.in-Some-get.action.now refl look.3.0 look.1 in
    gives_result c.args.typed.now.program c.args.typed.now.frames c.requires.well_typed c.requires.plain c.args.block.now c.requires.span c.requires.reached c.in-Some-get.action.now at

pub unreachable-requires-in_default-2 : goal.unreachable-requires-in_default-2
unreachable-requires-in_default-2 c =
    let look = c.in-Some-get.ensures.lookup in
    let at : IsAt c.args.typed.now.program c.args.block.now.last c.in-Some-get.action.now = ap (λ (l : List Action). slice_get l c.args.block.now.last) (sym c.as_slice.ensures) ∙ slice_get_read c.as_slice.result.now _ c.args.block.now.last c.in-Some-get.action.now refl look.3.0 look.1 in
    let r = left c.args.typed.now.program c.args.typed.now.frames c.requires.well_typed c.requires.plain c.args.block.now c.requires.span c.requires.reached c.args.g.now c.args.state c.begin.new.g.nodes c.along.new.g.nodes c.in_ok-held.held c.in_ok-held-2.field-0 c.requires.state c.in_ok-held.ensures.holds c.in_ok-held-2.ensures.acts c.in-Some.held c.in-Some-get.action.now c.in-Some.is at c.leave.new.g.nodes c.in_ok-ran.field-0 c.in_ok-ran.ensures.stands in
    no_some r.0 (sym c.in_default-2.is ∙ r.1)

pub returns-clause-stands : goal.returns-clause-stands
returns-clause-stands c =
    let look = c.in-Some-get.ensures.lookup in
    let at : IsAt c.args.typed.now.program c.args.block.now.last c.in-Some-get.action.now = ap (λ (l : List Action). slice_get l c.args.block.now.last) (sym c.as_slice.ensures) ∙ slice_get_read c.as_slice.result.now _ c.args.block.now.last c.in-Some-get.action.now refl look.3.0 look.1 in
    let leaves = rw c.in-Some-2.is at c.in_ok-ran.ensures.stands in
    runs_for c.args.typed.now.program c.args.typed.now.frames c.requires.well_typed c.requires.plain c.args.block.now c.requires.span c.requires.reached c.args.g.now c.args.state c.begin.new.g.nodes c.along.new.g.nodes c.in_ok-held.held c.in_ok-held-2.field-0 c.requires.state c.in_ok-held.ensures.holds c.in_ok-held-2.ensures.acts c.in-Some.held c.in-Some-get.action.now c.in-Some.is at c.leave.new.g.nodes c.in-Some-2.ran leaves

pub returns-clause-sorted : goal.returns-clause-sorted
returns-clause-sorted c =
    let look = c.in-Some-get.ensures.lookup in
    let at : IsAt c.args.typed.now.program c.args.block.now.last c.in-Some-get.action.now = ap (λ (l : List Action). slice_get l c.args.block.now.last) (sym c.as_slice.ensures) ∙ slice_get_read c.as_slice.result.now _ c.args.block.now.last c.in-Some-get.action.now refl look.3.0 look.1 in
    let leaves = rw c.in-Some-2.is at c.in_ok-ran.ensures.stands in
    let sorted = rw c.in-Some-2.is at c.in_ok-ran.ensures.sorted in
    runs_sorted c.args.typed.now.program c.args.typed.now.frames c.requires.well_typed c.requires.plain c.args.block.now c.requires.span c.requires.reached c.args.g.now c.args.state c.begin.new.g.nodes c.along.new.g.nodes c.in_ok-held.held c.in_ok-held-2.field-0 c.requires.state c.in_ok-held.ensures.holds c.in_ok-held-2.ensures.acts c.in-Some.held c.in-Some-get.action.now c.in-Some.is at c.leave.new.g c.in-Some-2.ran leaves sorted

pub returns-clause-grows : goal.returns-clause-grows
returns-clause-grows c = grows_then c.args.g.now c.along.new.g c.leave.new.g (grows_then c.args.g.now c.begin.new.g c.along.new.g c.in_ok-held.ensures.grows c.in_ok-held-2.ensures.grows) c.in_ok-ran.ensures.grows

pub returns-in_err-held-2-clause-grows : goal.returns-in_err-held-2-clause-grows
returns-in_err-held-2-clause-grows c = grows_then c.args.g.now c.begin.new.g c.along.new.g c.in_ok-held.ensures.grows c.along.ensures.grows

pub returns-in_err-ran-clause-grows : goal.returns-in_err-ran-clause-grows
returns-in_err-ran-clause-grows c = grows_then c.args.g.now c.along.new.g c.leave.new.g (grows_then c.args.g.now c.begin.new.g c.along.new.g c.in_ok-held.ensures.grows c.in_ok-held-2.ensures.grows) c.leave.ensures.grows
