use Rattle.std.proofs.Common.{◌≡◌, ◌∙◌, ◌+◌, ◌++◌, ◌<◌, List, ap, arith, drop, sym, subst, take, take_all}
use Rattle.std.proofs.lemmas.Option.{same_Some, slice_get_within}
use Rattle.std.specs.List.{Contains}
use Rattle.pv_classes.specs.declared.join.Join.{Join}
use Rattle.pv_classes.specs.Blocks.{Block, depth_of, joins_of, listed, pairs_of}
use Rattle.pv_paths.specs.Paths.{Joined}
use Rattle.pv_classes.proofs.Cited.{listed_blocks}
use Rattle.pv_steps.specs.Steps.{outer_of}
use Rattle.pv_writer.specs.Written.{inside}
use Rattle.pv_writer.proofs.Pushing.{goes_refl, goes_trans}
use Rattle.pv_explain.specs.declared.follow.Line.{Line}
use Rattle.pv_explain.specs.declared.induction.Begun.{Begun}
use Rattle.pv_explain.specs.Levels.{GrowsAt, IsFound, JoinsStand}
use Rattle.pv_explain.specs.Iterations.{AreBegun, BlockStands, IsInside}
use Rattle.pv_explain.proofs.Copying.{source_later}
use Rattle.pv_explain.proofs.Following.{stated_goes}
use Rattle.pv_explain.proofs.Placing.{IsPushed, first_stands, found_line, grows_next, grows_none, join_axiom, join_block, join_kids, join_pair, joins_at, learns_more, learns_none, learns_where_ok, line_low, line_of_some, rest_stand, size_in, size_inside, some_line, take_next}
use Rattle.pv_explain.proofs.Beginning.{begun_inside, block_done, block_goes, block_goes_on, still_inside}
use Rattle.pv_explain.proofs.joins.+blocks.Goals as goal

-- ---- a block

pub state_block-begin-requires : goal.state_block-begin-requires
state_block-begin-requires t c = c.requires

pub state_block-open-requires-clause-stands : goal.state_block-open-requires-clause-stands
state_block-open-requires-clause-stands t c = block_goes c.args.writer.now c.begin.new.writer c.args.source.now c.args.level.now c.args.block.now c.in_ok-begun.ensures.goes c.requires

pub state_block-open-requires-clause-begun : goal.state_block-open-requires-clause-begun
state_block-open-requires-clause-begun t c =
    let w = c.begin.new.writer in
    subst (λ (bs : List Begun). AreBegun w (inside w) c.args.source.now (depth_of c.args.block.now) (pairs_of c.args.block.now) bs) (sym c.deref.ensures.value) c.in_ok-begun.ensures.begun

pub state_block-state_joins-requires : goal.state_block-state_joins-requires
state_block-state_joins-requires t c =
    let same = sym (listed_blocks c.blocks-2.result.now) ∙ ap listed c.blocks-2.ensures in (
      omega (arith, c.decreases, size_inside c.args.block.now c.blocks-2.result.now c.blocks-2.ensures),
      subst (λ (js : List Join). JoinsStand c.open.new.writer c.args.source.now c.in_ok-inner.inner c.blocks-2.result.now js) (sym c.joins.ensures)
          (subst (λ (bs : List Block). JoinsStand c.open.new.writer c.args.source.now c.in_ok-inner.inner bs (joins_of c.args.block.now)) (sym same) c.in_ok-inner.ensures.stand),
    )

pub state_block-close-requires-clause-source : goal.state_block-close-requires-clause-source
state_block-close-requires-clause-source t c =
    source_later c.open.new.writer c.state_joins.new.writer c.args.source.now c.in_ok-state_joins.ensures.goes.later
    (source_later c.begin.new.writer c.open.new.writer c.args.source.now c.in_ok-inner.ensures.opens.later (source_later c.args.writer.now c.begin.new.writer c.args.source.now c.in_ok-begun.ensures.goes.later c.requires.place.source))

pub state_block-close-requires-clause-level : goal.state_block-close-requires-clause-level
state_block-close-requires-clause-level t c = c.in_ok-state_joins.ensures.level.lines

pub state_block-close-requires-clause-inside : goal.state_block-close-requires-clause-inside
state_block-close-requires-clause-inside t c =
    let same = c.deref.ensures.value ∙ sym c.deref-2.ensures.value in
    subst (λ (bs : List Begun). IsInside c.state_joins.new.writer (depth_of c.args.block.now) bs) same
    (still_inside c.begin.new.writer c.open.new.writer c.state_joins.new.writer (depth_of c.args.block.now) c.deref.result.now c.in_ok-inner.ensures.opens c.in_ok-state_joins.ensures.goes)

pub state_block-close-requires-clause-begun : goal.state_block-close-requires-clause-begun
state_block-close-requires-clause-begun t c =
    let first = c.begin.new.writer in
    let w = c.state_joins.new.writer in
    let d = depth_of c.args.block.now in
    let pairs = pairs_of c.args.block.now in
    let begun = subst (λ (bs : List Begun). AreBegun first (inside first) c.args.source.now d pairs bs) (sym c.deref.ensures.value) c.in_ok-begun.ensures.begun in
    subst (λ (bs : List Begun). AreBegun w (outer_of (inside w)) c.args.source.now d pairs bs) (c.deref.ensures.value ∙ sym c.deref-2.ensures.value)
    (begun_inside first c.open.new.writer w c.args.source.now d pairs c.deref.result.now c.in_ok-inner.ensures.opens c.in_ok-state_joins.ensures.goes begun)

pub state_block-close-requires-clause-pairs : goal.state_block-close-requires-clause-pairs
state_block-close-requires-clause-pairs t c =
    let first = c.begin.new.writer in
    let w = c.state_joins.new.writer in
    let s = c.args.source.now in
    let b = c.args.block.now in
    let last = c.state_joins.new.level in
    let begun = subst (λ (bs : List Begun). AreBegun first (inside first) s (depth_of b) (pairs_of b) bs) (sym c.deref.ensures.value) c.in_ok-begun.ensures.begun in
    let now = begun_inside first c.open.new.writer w s (depth_of b) (pairs_of b) c.deref.result.now c.in_ok-inner.ensures.opens c.in_ok-state_joins.ensures.goes begun in
    let grows = subst (λ (js : List Join). GrowsAt w s c.in_ok-inner.inner last js) c.joins.ensures c.in_ok-state_joins.ensures.level in
    λ p m. block_goes_on c.args.writer.now w s c.args.level.now c.in_ok-inner.inner last b c.deref.result.now (outer_of (inside w)) c.requires now c.in_ok-inner.ensures.lines grows p
    (subst (λ (bs : List Begun). Contains bs p) (c.deref-2.ensures.value ∙ sym c.deref.ensures.value) m)

pub state_block-returns-clause-goes : goal.state_block-returns-clause-goes
state_block-returns-clause-goes t c =
    block_done c.args.writer.now c.begin.new.writer c.open.new.writer c.state_joins.new.writer c.close.new.writer (depth_of c.args.block.now) c.deref.result.now c.in_ok-begun.ensures.goes c.in_ok-inner.ensures.opens c.in_ok-state_joins.ensures.goes
    c.in_ok-lines.ensures.ends

-- ---- a pair

pub state_pair-returns-in-Some-clause-line : goal.state_pair-returns-in-Some-clause-line
state_pair-returns-in-Some-clause-line t c =
    let known = c.args.level.now.known.items in
    found_line c.args.writer.now c.args.source.now.map.now known c.args.first c.args.second c.in-Some.line c.requires.stands.place.known
    (subst (λ (ls : List Line). IsFound ls c.args.first c.args.second c.in-Some.line) c.deref.ensures.value (line_of_some c.deref.result.now c.args.first c.args.second c.find.result c.in-Some.line c.find.ensures.found c.in-Some.is))

pub state_pair-returns-in-Some-clause-learns : goal.state_pair-returns-in-Some-clause-learns
state_pair-returns-in-Some-clause-learns t c = learns_none c.args.writer.now c.args.source.now c.args.level.now c.requires.stands.place.known

pub state_pair-returns-in-Some-clause-goes : goal.state_pair-returns-in-Some-clause-goes
state_pair-returns-in-Some-clause-goes t c = goes_refl c.args.writer.now

pub state_pair-state_block-requires : goal.state_pair-state_block-requires
state_pair-state_block-requires t c = (omega (arith, c.decreases), c.requires.stands)

pub state_pair-unwrap-requires : goal.state_pair-unwrap-requires
state_pair-unwrap-requires t c =
    let f = c.in_ok-lines.ensures.lines c.args.first c.args.second c.requires.pair in
    some_line c.find-2.result (λ e. c.find-2.ensures.none e f.0 (subst (λ (ls : List Line). IsFound ls c.args.first c.args.second f.0) (sym c.deref-3.ensures.value) f.1))

pub state_pair-returns-clause-line : goal.state_pair-returns-clause-line
state_pair-returns-clause-line t c =
    found_line c.state_block.new.writer c.args.source.now.map.now c.in_ok-lines.lines.items c.args.first c.args.second c.unwrap.result c.in_ok-lines.ensures.stated
    (subst (λ (ls : List Line). IsFound ls c.args.first c.args.second c.unwrap.result) c.deref-3.ensures.value (line_of_some c.deref-3.result.now c.args.first c.args.second c.find-2.result c.unwrap.result c.find-2.ensures.found c.unwrap.ensures))

pub state_pair-returns-clause-learns : goal.state_pair-returns-clause-learns
state_pair-returns-clause-learns t c =
    let old = c.args.level.now in
    learns_more c.state_block.new.writer c.args.source.now old c.learn.new.self c.in_ok-lines.lines.items c.in_ok-learn.ensures.forest c.in_ok-learn.ensures.lines
    (subst (λ (ls : List Line). c.learn.new.self.known.items ≡ old.known.items ++ ls) c.deref-2.ensures.value c.in_ok-learn.ensures.known)
    (stated_goes c.args.writer.now c.state_block.new.writer c.args.source.now.map.now old.known.items c.in_ok-lines.ensures.goes c.requires.stands.place.known) c.in_ok-lines.ensures.stated

pub state_pair-returns-clause-goes : goal.state_pair-returns-clause-goes
state_pair-returns-clause-goes t c = c.in_ok-lines.ensures.goes

-- ---- a join

pub state_join-state_axiom-requires-clause-source : goal.state_join-state_axiom-requires-clause-source
state_join-state_axiom-requires-clause-source t c = c.requires.place.source

pub state_join-state_axiom-requires-clause-instance : goal.state_join-state_axiom-requires-clause-instance
state_join-state_axiom-requires-clause-instance t c =
    join_axiom c.args.writer.now c.args.source.now c.args.level.now c.args.blocks.now c.args.join.now c.in-Axiom.number c.in-Axiom.nodes c.as_slice-nodes.result.now c.requires c.in-Axiom.is c.as_slice-nodes.ensures

pub state_join-state_kids-requires-clause-source : goal.state_join-state_kids-requires-clause-source
state_join-state_kids-requires-clause-source t c = c.requires.place.source

pub state_join-state_kids-requires-clause-level : goal.state_join-state_kids-requires-clause-level
state_join-state_kids-requires-clause-level t c = c.requires.place.lines

pub state_join-state_kids-requires-clause-kids : goal.state_join-state_kids-requires-clause-kids
state_join-state_kids-requires-clause-kids t c = join_kids c.args.writer.now c.args.source.now c.args.level.now c.args.blocks.now c.args.join.now c.requires c.in-Kids.is

pub state_join-unwrap-requires : goal.state_join-unwrap-requires
state_join-unwrap-requires t c =
    let f = join_pair c.args.writer.now c.args.source.now c.args.level.now c.args.blocks.now c.args.join.now c.in-Pair.field-0 c.requires c.in-Pair.is in
    some_line c.find.result (λ e. c.find.ensures.none e f.0 (subst (λ (ls : List Line). IsFound ls c.args.join.now.first c.args.join.now.second f.0) (sym c.deref.ensures.value) f.1))

pub state_join-returns-in-Pair-clause-line : goal.state_join-returns-in-Pair-clause-line
state_join-returns-in-Pair-clause-line t c =
    found_line c.args.writer.now c.args.source.now.map.now c.args.level.now.known.items c.args.join.now.first c.args.join.now.second c.unwrap.result c.requires.place.known
    (subst (λ (ls : List Line). IsFound ls c.args.join.now.first c.args.join.now.second c.unwrap.result) c.deref.ensures.value (line_of_some c.deref.result.now c.args.join.now.first c.args.join.now.second c.find.result c.unwrap.result c.find.ensures.found c.unwrap.ensures))

pub state_join-returns-in-Pair-clause-learns : goal.state_join-returns-in-Pair-clause-learns
state_join-returns-in-Pair-clause-learns t c = learns_none c.args.writer.now c.args.source.now c.args.level.now c.requires.place.known

pub state_join-returns-in-Pair-clause-goes : goal.state_join-returns-in-Pair-clause-goes
state_join-returns-in-Pair-clause-goes t c = goes_refl c.args.writer.now

pub state_join-block_at-block-requires : goal.state_join-block_at-block-requires
state_join-block_at-block-requires t c =
    let h = join_block c.args.writer.now c.args.source.now c.args.level.now c.args.blocks.now c.args.join.now c.in-Induction.n c.requires c.in-Induction.is in slice_get_within c.args.blocks.now c.in-Induction.n h.b h.there

-- ---- joins

pub state_joins-loop-join-init : goal.state_joins-loop-join-init
state_joins-loop-join-init t c = record { stand = c.requires; grown = grows_none c.args.writer.now c.args.source.now c.args.level.now c.args.blocks.now c.args.joins.now c.requires; goes = goes_refl c.args.writer.now }

pub state_joins-state_join-requires : goal.state_joins-state_join-requires
state_joins-state_join-requires t c = (
  omega (arith, c.decreases),
  first_stands c.loop-join.writer c.args.source.now c.loop-join.level c.args.blocks.now c.join-item.result (drop (c.loop-join.join-index + 1) c.args.joins.now)
      (joins_at c.loop-join.writer c.args.source.now c.loop-join.level c.args.blocks.now c.args.joins.now c.loop-join.join-index c.join-item.result c.loop-join-test.true c.join-item.is c.loop-join.invariant.stand),
)

pub state_join-returns-in-Axiom-clause-learns : goal.state_join-returns-in-Axiom-clause-learns
state_join-returns-in-Axiom-clause-learns t c = learns_where_ok c.args.writer.now c.state_axiom.new.writer c.args.source.now c.args.level.now c.state_axiom.result c.requires.place.known c.state_axiom.ensures.goes

pub state_join-returns-in-Kids-clause-learns : goal.state_join-returns-in-Kids-clause-learns
state_join-returns-in-Kids-clause-learns t c = learns_where_ok c.args.writer.now c.state_kids.new.writer c.args.source.now c.args.level.now c.state_kids.result c.requires.place.known c.state_kids.ensures.goes

pub state_join-state_pair-requires : goal.state_join-state_pair-requires
state_join-state_pair-requires t c =
    let bs = c.args.blocks.now in
    let j = c.args.join.now in
    let h = join_block c.args.writer.now c.args.source.now c.args.level.now bs j c.in-Induction.n c.requires c.in-Induction.is in
    let same : h.b ≡ c.block_at-block.result.now = same_Some h.b c.block_at-block.result.now (sym h.there ∙ c.block_at-block.ensures) in (
      omega (arith, c.decreases, size_in bs c.in-Induction.n c.block_at-block.result.now c.block_at-block.ensures),
      (subst (BlockStands c.args.writer.now c.args.source.now c.args.level.now) same h.stands, subst (λ (b : Block). Contains (pairs_of b) (j.first, j.second)) same h.pair),
    )

pub state_joins-push-requires-clause-first : goal.state_joins-push-requires-clause-first
state_joins-push-requires-clause-first t c =
    subst (λ (f : Joined). c.in_ok-line.line.first < f.nodes) (sym c.in_ok-line.ensures.learns.forest_)
    (line_low c.loop-join.writer c.state_join.new.writer c.args.source.now c.loop-join.level c.args.blocks.now (drop c.loop-join.join-index c.args.joins.now) c.join-item.result.first c.join-item.result.second c.in_ok-line.line c.loop-join.invariant.stand
    c.in_ok-line.ensures.goes c.in_ok-line.ensures.line).0

pub state_joins-push-requires-clause-second : goal.state_joins-push-requires-clause-second
state_joins-push-requires-clause-second t c =
    subst (λ (f : Joined). c.in_ok-line.line.second < f.nodes) (sym c.in_ok-line.ensures.learns.forest_)
    (line_low c.loop-join.writer c.state_join.new.writer c.args.source.now c.loop-join.level c.args.blocks.now (drop c.loop-join.join-index c.args.joins.now) c.join-item.result.first c.join-item.result.second c.in_ok-line.line c.loop-join.invariant.stand
    c.in_ok-line.ensures.goes c.in_ok-line.ensures.line).1

pub state_joins-loop-join-preserved : goal.state_joins-loop-join-preserved
state_joins-loop-join-preserved t c =
    let old = c.loop-join.writer in
    let new = c.state_join.new.writer in
    let s = c.args.source.now in
    let level = c.loop-join.level in
    let then = c.state_join.new.level in
    let last = c.push.new.self in
    let bs = c.args.blocks.now in
    let j = c.join-item.result in
    let rest = drop (c.loop-join.join-index + 1) c.args.joins.now in
    let here = joins_at old s level bs c.args.joins.now c.loop-join.join-index j c.loop-join-test.true c.join-item.is c.loop-join.invariant.stand in
    let learns = c.in_ok-line.ensures.learns in
    let pushed : IsPushed then last c.in_ok-line.line = record { nodes_ = c.in_ok-push.ensures.nodes; ends = c.in_ok-push.ensures.ends; lines = c.in_ok-push.ensures.lines; known = c.in_ok-push.ensures.known } in
    record {
      stand = rest_stand old new s level then last bs j rest c.in_ok-line.line here c.in_ok-line.ensures.goes learns c.in_ok-line.ensures.line pushed;
      grown =
          subst (GrowsAt new s c.args.level.now last) (take_next c.args.joins.now c.loop-join.join-index j c.loop-join-test.true c.join-item.is)
          (grows_next old new s c.args.level.now level then last bs j rest (take c.loop-join.join-index c.args.joins.now) c.in_ok-line.line here c.loop-join.invariant.grown c.in_ok-line.ensures.goes learns c.in_ok-line.ensures.line pushed);
      goes = goes_trans c.args.writer.now old new c.loop-join.invariant.goes c.in_ok-line.ensures.goes;
    }

pub state_joins-returns-clause-level : goal.state_joins-returns-clause-level
state_joins-returns-clause-level t c = subst (GrowsAt c.loop-join.writer c.args.source.now c.args.level.now c.loop-join.level) (take_all c.loop-join.join-index c.args.joins.now c.loop-join-test.false) c.loop-join.invariant.grown

pub state_joins-returns-clause-goes : goal.state_joins-returns-clause-goes
state_joins-returns-clause-goes t c = c.loop-join.invariant.goes
