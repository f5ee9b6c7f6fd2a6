use Rattle.std.proofs.Common.{◌≡◌, ◌≢◌, ℕ, ◌≤◌, ◌+◌, List, length, get_or, refl, sym, ◌∙◌, subst, arith, Option, Some, None}
use Rattle.pv_loops.proofs.Words.{with_items_is, IsNonDecreasingBy-from_sort, with_item, with_items, Loop, MAX_DEPTH, Encloses, KeepsHomes}
use Rattle.pv_loops.proofs.Listing.{read_at}
use Rattle.pv_loops.proofs.Filling.{head_here, nested_skip, nested_more, depth_alone, depth_parent, filled_now, home_unused, too_deep}
use Rattle.pv_loops.proofs.nest.Nest.nest.Goals as goal
use Rattle.pv_loops.proofs.nest.Nest.nest.Goals.{in-None, in-Some-parent}

pub returns-in_default-clause-nested : goal.returns-in_default-clause-nested
returns-in_default-clause-nested c =
    nested_skip c.args.sources.now c.args.order.now.nodes.items c.args.order.now.place.items c.requires.shape c.requires.order c.args.headers.now c.requires.headers MAX_DEPTH c.args.self.now c.args.h c.requires.nested c.requires.node
    (read_at c.args.headers.now.at.items c.args.h None c.index.result.now (omega (arith, c.requires.node, c.requires.headers.size)) c.index.ensures ∙ c.in_default.is)

pub overflow_add-depth : goal.overflow_add-depth
overflow_add-depth c =
    let at : get_or c.args.headers.now.at.items c.args.h None ≡ Some c.in-Some.i = read_at c.args.headers.now.at.items c.args.h None c.index.result.now (omega (arith, c.requires.node, c.requires.headers.size)) c.index.ensures ∙ c.in-Some.is in
    let found = head_here c.args.sources.now c.args.order.now.nodes.items c.args.order.now.place.items c.requires.shape c.requires.order c.args.headers.now c.requires.headers c.args.h c.in-Some.i at in
    let home : get_or c.args.self.now.home.items c.args.h None ≡ Some c.in-Some-parent.p = read_at c.args.self.now.home.items c.args.h None c.index-parent.result.now (omega (arith, c.requires.node, c.requires.nested.homes)) c.index-parent.ensures ∙ c.in-Some-parent.is in
    let d = depth_parent c.args.sources.now c.args.order.now.nodes.items c.args.order.now.place.items c.requires.shape c.requires.order c.args.headers.now c.requires.headers MAX_DEPTH c.args.self.now c.args.h c.requires.nested c.requires.node found.2
    (c.index-in-Some-parent.result.now.depth + 1) c.in-Some-parent.p c.index-in-Some-parent.result.now home c.index-in-Some-parent.ensures refl in
    omega (arith, d.3)

pub body-requires-clause-unused : goal.body-requires-clause-unused
body-requires-clause-unused c =
    let at : get_or c.args.headers.now.at.items c.args.h None ≡ Some c.in-Some.i = read_at c.args.headers.now.at.items c.args.h None c.index.result.now (omega (arith, c.requires.node, c.requires.headers.size)) c.index.ensures ∙ c.in-Some.is in
    let found = head_here c.args.sources.now c.args.order.now.nodes.items c.args.order.now.place.items c.requires.shape c.requires.order c.args.headers.now c.requires.headers c.args.h c.in-Some.i at in
    subst (λ (m : List (Option ℕ)). (x : ℕ) → get_or m x None ≢ Some c.in-Some.i) (sym c.deref_mut.ensures.value)
    (home_unused c.args.sources.now c.args.order.now.nodes.items c.args.order.now.place.items c.requires.shape c.requires.order c.args.headers.now c.requires.headers MAX_DEPTH c.args.self.now c.args.h c.requires.nested c.requires.node found.2 c.in-Some.i found.1)

pub returns-then-depth-gt-MAX_DEPTH-clause-deep : goal.returns-then-depth-gt-MAX_DEPTH-clause-deep
returns-then-depth-gt-MAX_DEPTH-clause-deep c =
    let at : get_or c.args.headers.now.at.items c.args.h None ≡ Some c.in-Some.i = read_at c.args.headers.now.at.items c.args.h None c.index.result.now (omega (arith, c.requires.node, c.requires.headers.size)) c.index.ensures ∙ c.in-Some.is in
    let found = head_here c.args.sources.now c.args.order.now.nodes.items c.args.order.now.place.items c.requires.shape c.requires.order c.args.headers.now c.requires.headers c.args.h c.in-Some.i at in
    let home : get_or c.args.self.now.home.items c.args.h None ≡ c.index-parent.result.now = read_at c.args.self.now.home.items c.args.h None c.index-parent.result.now (omega (arith, c.requires.node, c.requires.nested.homes)) c.index-parent.ensures in
    let d : (around : List ℕ) × Encloses c.args.sources.now c.args.order.now.place.items c.args.h around × (c.match-parent.depth ≡ length around + 1) × (c.match-parent.depth ≤ 17) = elim c.match-parent.branch [
      | in-None w ↦ depth_alone c.args.sources.now c.args.order.now.nodes.items c.args.order.now.place.items c.requires.shape c.requires.order c.args.headers.now c.requires.headers MAX_DEPTH c.args.self.now c.args.h c.requires.nested c.requires.node found.2
          c.match-parent.depth (home ∙ w.in-None.is) w.depth-is
      | in-Some-parent w ↦ depth_parent c.args.sources.now c.args.order.now.nodes.items c.args.order.now.place.items c.requires.shape c.requires.order c.args.headers.now c.requires.headers MAX_DEPTH c.args.self.now c.args.h c.requires.nested c.requires.node found.2
          c.match-parent.depth w.in-Some-parent.p w.index-in-Some-parent.result.now (home ∙ w.in-Some-parent.is) w.index-in-Some-parent.ensures w.depth-is
    ] in (
      omega (arith, d.3, c.if-depth-gt-MAX_DEPTH.true),
      too_deep c.args.sources.now c.args.order.now.nodes.items c.args.order.now.place.items c.requires.shape c.requires.order c.args.headers.now c.requires.headers MAX_DEPTH c.args.self.now c.args.h c.requires.nested c.requires.node found.2
          c.match-parent.depth d c.in_ok-members.members.items c.in_ok-members.ensures.body,
    )

pub index_mut-requires : goal.index_mut-requires
index_mut-requires c =
    let at : get_or c.args.headers.now.at.items c.args.h None ≡ Some c.in-Some.i = read_at c.args.headers.now.at.items c.args.h None c.index.result.now (omega (arith, c.requires.node, c.requires.headers.size)) c.index.ensures ∙ c.in-Some.is in
    let lt = (c.requires.headers.found c.args.h c.in-Some.i at).0 in
    omega (arith, lt, c.requires.nested.size, c.args.self.now.loops.ok)

pub returns-clause-nested : goal.returns-clause-nested
returns-clause-nested c =
    let at : get_or c.args.headers.now.at.items c.args.h None ≡ Some c.in-Some.i = read_at c.args.headers.now.at.items c.args.h None c.index.result.now (omega (arith, c.requires.node, c.requires.headers.size)) c.index.ensures ∙ c.in-Some.is in
    let found = head_here c.args.sources.now c.args.order.now.nodes.items c.args.order.now.place.items c.requires.shape c.requires.order c.args.headers.now c.requires.headers c.args.h c.in-Some.i at in
    let home : get_or c.args.self.now.home.items c.args.h None ≡ c.index-parent.result.now = read_at c.args.self.now.home.items c.args.h None c.index-parent.result.now (omega (arith, c.requires.node, c.requires.nested.homes)) c.index-parent.ensures in
    let d : (c.match-parent.parent ≡ get_or c.args.self.now.home.items c.args.h None) × ((around : List ℕ) × Encloses c.args.sources.now c.args.order.now.place.items c.args.h around × (c.match-parent.depth ≡ length around + 1) × (c.match-parent.depth ≤ 17)) = elim c.match-parent.branch [
      | in-None w ↦ (
        w.parent-is ∙ sym home,
        depth_alone c.args.sources.now c.args.order.now.nodes.items c.args.order.now.place.items c.requires.shape c.requires.order c.args.headers.now c.requires.headers MAX_DEPTH c.args.self.now c.args.h c.requires.nested c.requires.node found.2
            c.match-parent.depth (home ∙ w.in-None.is) w.depth-is,
      )
      | in-Some-parent w ↦ (
        w.parent-is ∙ sym (home ∙ w.in-Some-parent.is),
        depth_parent c.args.sources.now c.args.order.now.nodes.items c.args.order.now.place.items c.requires.shape c.requires.order c.args.headers.now c.requires.headers MAX_DEPTH c.args.self.now c.args.h c.requires.nested c.requires.node found.2
            c.match-parent.depth w.in-Some-parent.p w.index-in-Some-parent.result.now (home ∙ w.in-Some-parent.is) w.index-in-Some-parent.ensures w.depth-is,
      )
    ] in
    let l : Loop = record { header = c.args.h; depth = c.match-parent.depth; parent = c.match-parent.parent; members = c.sort_unstable.new.self } in
    let marked = c.in_ok-members.ensures.marked in
    let kept : KeepsHomes c.in-Some.i c.args.self.now.home.items c.body.new.home = subst (λ (m : List (Option ℕ)). KeepsHomes c.in-Some.i m c.body.new.home) c.deref_mut.ensures.value c.in_ok-members.ensures.kept in
    nested_more c.args.sources.now c.args.order.now.nodes.items c.args.order.now.place.items c.requires.shape c.requires.order c.args.headers.now c.requires.headers MAX_DEPTH c.args.self.now c.args.h c.requires.nested c.requires.node found.2
    c.in-Some.i l (record { loops = with_item c.args.self.now.loops c.in-Some.i l; home = with_items c.args.self.now.home c.body.new.home }) found.0 found.1 refl
    (filled_now c.args.sources.now c.args.order.now.nodes.items c.args.order.now.place.items c.requires.shape c.requires.order c.args.headers.now c.requires.headers MAX_DEPTH c.args.self.now c.args.h c.requires.nested c.requires.node found.2
    l c.in_ok-members.members.items refl d.0 d.1 c.if-depth-gt-MAX_DEPTH.false c.in_ok-members.ensures.body marked.distinct c.sort_unstable.ensures.permutation (IsNonDecreasingBy-from_sort (λ x. x) c.sort_unstable.new.self.items c.sort_unstable.ensures.sorted))
    refl c.in_ok-members.members.items c.body.new.home c.in_ok-members.ensures.body (with_items_is c.args.self.now.home c.body.new.home (kept.size ∙ sym c.args.self.now.home.ok.0)) marked kept
