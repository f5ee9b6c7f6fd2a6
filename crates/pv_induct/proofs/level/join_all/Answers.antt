use Rattle.std.proofs.Common.{◌≡◌, ◌<◌, ℕ, List, take, get_or, sym, ◌∙◌, subst, ap, arith}
use Rattle.std.proofs.lemmas.List.{take_more, take_all}
use Rattle.std.proofs.lemmas.Option.{slice_get-get_or}
use Rattle.pv_classes.specs.Calls.{Joins}
use Rattle.pv_induct.specs.Parts.{AllJoined, reason_of}
use Rattle.pv_induct.proofs.Contained.{in-at}
use Rattle.pv_induct.proofs.Joining.{all-joined-none, all-joined-more, not-kids}
use Rattle.pv_induct.proofs.level.join_all.Goals as goal

pub loop-i-init : goal.loop-i-init
loop-i-init c = all-joined-none c.args.c.now c.args.pairs.now c.args.block c.requires.classes

pub join-requires-clause-first : goal.join-requires-clause-first
join-requires-clause-first c =
    let p = get_or c.args.pairs.now c.loop-i.i (0, 0) in
    let h = c.requires.pairs p.0 p.1 (in-at c.args.pairs.now c.loop-i.i p (slice_get-get_or c.args.pairs.now c.loop-i.i (0, 0) c.loop-i-test.true)) in
    subst (λ (n : ℕ). p.0 < n) (sym c.loop-i.invariant.long) h.0

pub join-requires-clause-second : goal.join-requires-clause-second
join-requires-clause-second c =
    let p = get_or c.args.pairs.now c.loop-i.i (0, 0) in
    let h = c.requires.pairs p.0 p.1 (in-at c.args.pairs.now c.loop-i.i p (slice_get-get_or c.args.pairs.now c.loop-i.i (0, 0) c.loop-i-test.true)) in
    subst (λ (n : ℕ). p.1 < n) (sym c.loop-i.invariant.long) h.1

pub join-requires-clause-why : goal.join-requires-clause-why
join-requires-clause-why c = λ e. not-kids c.args.block c.in_ok-as_u32.field-0 (sym c.reason_for.ensures ∙ e)

pub loop-i-preserved : goal.loop-i-preserved
loop-i-preserved c =
    let p = get_or c.args.pairs.now c.loop-i.i (0, 0) in
    let why : c.reason_for.result ≡ reason_of c.args.block c.loop-i.i = c.reason_for.ensures ∙ ap (λ (n : ℕ). reason_of c.args.block n) c.in_ok-as_u32.ensures in
    subst (λ (l : List (ℕ × ℕ)). AllJoined c.args.c.now c.join.new.self c.args.pairs.now l c.args.block) (sym (take_more c.args.pairs.now c.loop-i.i (0, 0) c.loop-i-test.true))
    (all-joined-more c.args.c.now c.loop-i.c c.join.new.self c.args.pairs.now (take c.loop-i.i c.args.pairs.now) c.args.block p.0 p.1 c.loop-i.i c.requires.classes c.loop-i.invariant
    (slice_get-get_or c.args.pairs.now c.loop-i.i (0, 0) c.loop-i-test.true)
    (subst (λ w. Joins c.loop-i.c c.join.new.self p.0 p.1 w) why c.in_ok-join.ensures))

pub returns : goal.returns
returns c =
    subst (λ (l : List (ℕ × ℕ)). AllJoined c.args.c.now c.loop-i.c c.args.pairs.now l c.args.block) (take_all c.loop-i.i c.args.pairs.now (omega arith)) c.loop-i.invariant
