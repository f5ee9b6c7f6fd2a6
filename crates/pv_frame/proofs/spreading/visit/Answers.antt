use Rattle.std.proofs.Common.{◌≤◌, List, sum_by, ◌∙◌, sym, subst}
use Rattle.pv_frame.proofs.Words.{Sort, width}
use Rattle.pv_frame.proofs.InferenceLaws.{frame_at, action_at, visits_end, no_room, no_after, after_have, visit_answers}
use Rattle.pv_frame.proofs.spreading.visit.Goals as goal

pub returns-then-not-is_within : goal.returns-then-not-is_within
returns-then-not-is_within c =
    let p = c.args.program.now in
    let frames = c.args.frames.now.items in
    let f = c.in-Some-Some.frame in
    let found = c.in-Some-Some.ensures.lookup in
    let at = frame_at c.deref.result.now frames c.args.place c.in-Some-Some.field-0.now f c.deref.ensures.value found.3.0 found.1 c.in-Some-Some.field-0-is in
    let here = action_at p frames c.deref.result.now _ c.as_slice.result.now c.args.place c.index-as_slice-place.result c.requires.inferring c.deref.ensures.value c.as_slice.ensures found.3.0 c.index-as_slice-place.is in
    no_room p frames c.args.work.now.items c.args.place c.requires.inferring f at c.index-as_slice-place.result here
    (λ room. let yes = c.is_within.ensures.1 (subst (λ (s : List Sort). sum_by width s ≤ p.max_stack) (sym c.as_slice-2.ensures) room) in absurd (cc (yes, c.if-not-is_within.true)))

pub returns-then-branch : goal.returns-then-branch
returns-then-branch c =
    let p = c.args.program.now in
    let frames = c.args.frames.now.items in
    let f = c.in-Some-Some.frame in
    let found = c.in-Some-Some.ensures.lookup in
    let at = frame_at c.deref.result.now frames c.args.place c.in-Some-Some.field-0.now f c.deref.ensures.value found.3.0 found.1 c.in-Some-Some.field-0-is in
    let here = action_at p frames c.deref.result.now _ c.as_slice.result.now c.args.place c.index-as_slice-place.result c.requires.inferring c.deref.ensures.value c.as_slice.ensures found.3.0 c.index-as_slice-place.is in
    let room = subst (λ (s : List Sort). sum_by width s ≤ p.max_stack) c.as_slice-2.ensures (c.is_within.ensures.0 c.if-not-is_within.false) in
    visits_end p frames c.args.work.now.items c.args.place c.requires.inferring f at c.index-as_slice-place.result here room (c.in_ok-leaves.ensures.0 c.if-branch.true)

pub returns-in_default-2 : goal.returns-in_default-2
returns-in_default-2 c =
    let p = c.args.program.now in
    let frames = c.args.frames.now.items in
    let f = c.in-Some-Some.frame in
    let found = c.in-Some-Some.ensures.lookup in
    let at = frame_at c.deref.result.now frames c.args.place c.in-Some-Some.field-0.now f c.deref.ensures.value found.3.0 found.1 c.in-Some-Some.field-0-is in
    let here = action_at p frames c.deref.result.now _ c.as_slice.result.now c.args.place c.index-as_slice-place.result c.requires.inferring c.deref.ensures.value c.as_slice.ensures found.3.0 c.index-as_slice-place.is in
    no_after p frames c.args.work.now.items c.args.place c.requires.inferring f at c.index-as_slice-place.result here (λ l. let yes = c.in_ok-leaves.ensures.1 l in absurd (cc (yes, c.if-branch.false))) (sym c.in_ok-after.ensures ∙ c.in_default-2.is)

pub follow_all-requires : goal.follow_all-requires
follow_all-requires c =
    let p = c.args.program.now in
    let frames = c.args.frames.now.items in
    let f = c.in-Some-Some.frame in
    let found = c.in-Some-Some.ensures.lookup in
    let at = frame_at c.deref.result.now frames c.args.place c.in-Some-Some.field-0.now f c.deref.ensures.value found.3.0 found.1 c.in-Some-Some.field-0-is in
    let here = action_at p frames c.deref.result.now _ c.as_slice.result.now c.args.place c.index-as_slice-place.result c.requires.inferring c.deref.ensures.value c.as_slice.ensures found.3.0 c.index-as_slice-place.is in
    after_have p frames c.args.work.now.items c.args.place c.requires.inferring f at c.index-as_slice-place.result here c.in-Some.after (sym c.in_ok-after.ensures ∙ c.in-Some.is)

pub returns : goal.returns
returns c =
    let p = c.args.program.now in
    let frames = c.args.frames.now.items in
    let f = c.in-Some-Some.frame in
    let found = c.in-Some-Some.ensures.lookup in
    let at = frame_at c.deref.result.now frames c.args.place c.in-Some-Some.field-0.now f c.deref.ensures.value found.3.0 found.1 c.in-Some-Some.field-0-is in
    let here = action_at p frames c.deref.result.now _ c.as_slice.result.now c.args.place c.index-as_slice-place.result c.requires.inferring c.deref.ensures.value c.as_slice.ensures found.3.0 c.index-as_slice-place.is in
    let room = subst (λ (s : List Sort). sum_by width s ≤ p.max_stack) c.as_slice-2.ensures (c.is_within.ensures.0 c.if-not-is_within.false) in
    visit_answers p frames c.follow_all.new.frames.items c.args.work.now.items c.follow_all.new.work.items c.args.place c.requires.inferring f at c.index-as_slice-place.result here c.in-Some.after c.deref-2.result.now c.follow_all.result room (sym c.in_ok-after.ensures ∙ c.in-Some.is) (c.deref-2.ensures.value ∙ c.in_ok-places.ensures)
    c.follow_all.ensures
