use Rattle.std.proofs.Common.{None, ◌∷◌, ◌+◌, true≢false, ◌≡◌, ◌<◌, ◌≤◌, ℕ, List, length, drop, refl, sym, subst, ap, ◌∙◌, arith}
use Rattle.std.proofs.lemmas.List.{nil_from_length}
use Rattle.std.proofs.Common.{eqb-true, eq-eqb}
use Rattle.pv_classes.specs.Blocks.{Block}
use Rattle.pv_classes.specs.Calls.{Classes, IsClasses, Knows}
use Rattle.pv_induct.specs.Levels.{IsClosed, IsFrom, IsFull, IsGrown, HoldsInductions}
use Rattle.pv_induct.specs.Parts.{AreApart, AreFirst, ArePairs, InductEnds, PassEnds, IsBlock, IsFinished, IsInside, IsParting, IsProgress, PartsHold, gap_from}
use Rattle.pv_induct.specs.Thetas.{AreThetas}
use Rattle.pv_induct.proofs.Growing.{closes-grown, closes-closed, grown-chain, full-exit}
use Rattle.pv_induct.proofs.Parting.{first-parting, first-hold, next-parting, next-hold, next-above, held, gap-falls}
use Rattle.pv_induct.proofs.Joining.{all-joined-copy}
use Rattle.pv_induct.proofs.Inducting.{can-restore, inside-more, thetas-within, apart-within, stays-induction, finished-progress, above-more, below-or}
use Rattle.pv_induct.proofs.level.+levels.Goals as goal

pub induct_at-first_keys-requires : goal.induct_at-first_keys-requires
induct_at-first_keys-requires t c =
    thetas-within c.args.g.now c.requires.graph c.args.depth (length c.args.c.now.numbers) c.deref-here.result.now
    (subst (λ l. AreThetas c.args.g.now.nodes c.args.depth l) (sym c.deref-here.ensures.value) (c.in_ok-here.ensures c.args.g.now.nodes c.requires.all)) c.requires.knows.long

pub induct_at-refining-init : goal.induct_at-refining-init
induct_at-refining-init t c =
    let all = subst (λ l. AreThetas c.args.g.now.nodes c.args.depth l) (sym c.deref-here.ensures.value) (c.in_ok-here.ensures c.args.g.now.nodes c.requires.all) in
    let f = subst (λ l. AreFirst l c.in_ok-parts.parts.items) c.deref.ensures.value c.in_ok-parts.ensures in
    record {
      same = refl;
      parting = first-parting c.args.g.now.nodes c.args.fixed.now c.args.depth c.deref-here.result.now all c.args.c.now.numbers c.in_ok-first_keys.field-0.items c.in_ok-parts.parts.items c.in_ok-first_keys.ensures f;
      hold = first-hold c.args.g.now.nodes c.args.fixed.now c.args.depth c.deref-here.result.now all c.args.c.now.numbers c.in_ok-first_keys.field-0.items c.in_ok-parts.parts.items c.in_ok-first_keys.ensures f;
    }

pub induct_at-pairs_apart-requires-clause-within : goal.induct_at-pairs_apart-requires-clause-within
induct_at-pairs_apart-requires-clause-within t c =
    thetas-within c.args.g.now c.requires.graph c.args.depth (length c.refining.c.numbers) c.deref-here.result.now
    (subst (λ l. AreThetas c.args.g.now.nodes c.args.depth l) (sym c.deref-here.ensures.value) (c.in_ok-here.ensures c.args.g.now.nodes c.requires.all))
    (subst (λ (v : Classes). length v.numbers ≡ length c.args.g.now.nodes) (sym c.refining.invariant.same) c.requires.knows.long)

pub induct_at-returns-then-is_empty : goal.induct_at-returns-then-is_empty
induct_at-returns-then-is_empty t c =
    let i = c.refining.invariant in
    let all = subst (λ l. AreThetas c.args.g.now.nodes c.args.depth l) (sym c.deref-here.ensures.value) (c.in_ok-here.ensures c.args.g.now.nodes c.requires.all) in
    let apart = subst (λ l. AreApart c.deref-here.result.now l c.refining.c.numbers c.in_ok-pairs.pairs.items) c.deref-now.ensures.value c.in_ok-pairs.ensures in (
      i.same,
      subst (λ (v : Classes). HoldsInductions c.args.g.now.nodes c.args.fixed.now v.numbers c.args.depth) i.same
          (held c.args.g.now.nodes c.args.fixed.now c.args.depth c.deref-here.result.now all c.refining.c.numbers c.refining.parts.items i.parting
          (subst (λ l. AreApart c.deref-here.result.now c.refining.parts.items c.refining.c.numbers l) (nil_from_length c.in_ok-pairs.pairs.items (omega (arith, c.in_ok-pairs.pairs.ok, eqb-true _ _ (sym c.is_empty.ensures ∙ c.if-is_empty.true)))) apart) i.hold),
    )

pub induct_at-go_inside-requires : goal.induct_at-go_inside-requires
induct_at-go_inside-requires t c =
    let i = c.refining.invariant in
    let all = subst (λ l. AreThetas c.args.g.now.nodes c.args.depth l) (sym c.deref-here.ensures.value) (c.in_ok-here.ensures c.args.g.now.nodes c.requires.all) in
    let w = thetas-within c.args.g.now c.requires.graph c.args.depth (length c.refining.c.numbers) c.deref-here.result.now all
    (subst (λ (v : Classes). length v.numbers ≡ length c.args.g.now.nodes) (sym i.same) c.requires.knows.long) in (
      omega (arith, c.decreases),
      (
        c.requires.graph,
        (
          c.requires.all,
          (
            subst (λ (v : Classes). IsClasses v) (sym i.same) c.requires.classes,
            (
              subst (λ (v : Classes). Knows c.args.g.now.nodes v) (sym i.same) c.requires.knows,
              (
                c.requires.above,
                (
                  c.requires.deep,
                  subst (λ l. ArePairs (length c.refining.c.numbers) l) (sym c.deref-in-refining.ensures.value)
                      (apart-within (length c.refining.c.numbers) c.deref-here.result.now c.deref-now.result.now c.refining.c.numbers c.in_ok-pairs.pairs.items w c.in_ok-pairs.ensures),
                ),
              ),
            ),
          ),
        ),
      ),
    )

pub induct_at-next_keys-requires-clause-within : goal.induct_at-next_keys-requires-clause-within
induct_at-next_keys-requires-clause-within t c =
    let i = c.refining.invariant in
    let all = subst (λ l. AreThetas c.args.g.now.nodes c.args.depth l) (sym c.deref-here.ensures.value) (c.in_ok-here.ensures c.args.g.now.nodes c.requires.all) in
    thetas-within c.args.g.now c.requires.graph c.args.depth (length c.go_inside.new.c.numbers) c.deref-here.result.now all
    (c.in_ok-outside.ensures.inside.grown.long ∙ c.in_ok-outside.ensures.inside.begun.long ∙ subst (λ (v : Classes). length v.numbers ≡ length c.args.g.now.nodes) (sym i.same) c.requires.knows.long)

pub induct_at-restore-requires : goal.induct_at-restore-requires
induct_at-restore-requires t c =
    can-restore c.args.g.now.nodes c.args.fixed.now c.args.depth c.deref-in-refining.result.now c.refining.c c.go_inside.new.c c.in_ok-outside.outside c.in_ok-outside.ensures.inside c.in_ok-outside.ensures.outside

pub induct_at-join_induction-requires : goal.induct_at-join_induction-requires
induct_at-join_induction-requires t c =
    let i = c.refining.invariant in
    let all = subst (λ l. AreThetas c.args.g.now.nodes c.args.depth l) (sym c.deref-here.ensures.value) (c.in_ok-here.ensures c.args.g.now.nodes c.requires.all) in
    let w = thetas-within c.args.g.now c.requires.graph c.args.depth (length c.refining.c.numbers) c.deref-here.result.now all
    (subst (λ (v : Classes). length v.numbers ≡ length c.args.g.now.nodes) (sym i.same) c.requires.knows.long) in
    let back = c.in_ok-joins.ensures.back c.refining.c (drop (length c.refining.c.joins) c.go_inside.new.c.joins) (drop (length c.refining.c.blocks) c.go_inside.new.c.blocks) c.in_ok-outside.ensures.outside
    (inside-more c.args.g.now.nodes c.args.fixed.now c.args.depth c.deref-in-refining.result.now c.refining.c c.go_inside.new.c c.in_ok-outside.ensures.inside) in
    let same = back.0 ∙ i.same in
    let inside = subst (λ l. IsInside c.args.g.now.nodes c.args.fixed.now c.args.depth l c.refining.c c.go_inside.new.c) c.deref-in-refining.ensures.value c.in_ok-outside.ensures.inside in
    record {
      graph = c.requires.graph;
      classes = subst (λ (v : Classes). IsClasses v) (sym same) c.requires.classes;
      knows = subst (λ (v : Classes). Knows c.args.g.now.nodes v) (sym same) c.requires.knows;
      first = subst (λ (v : Classes). c.args.first ≤ length v.blocks) (sym same) c.requires.first;
      pairs = subst (λ (v : Classes). ArePairs (length v.numbers) c.in_ok-pairs.pairs.items) (sym back.0)
          (apart-within (length c.refining.c.numbers) c.deref-here.result.now c.deref-now.result.now c.refining.c.numbers c.in_ok-pairs.pairs.items w c.in_ok-pairs.ensures);
      some = λ e. true≢false (sym (c.is_empty.ensures ∙ eq-eqb _ _ (let z : length c.in_ok-pairs.pairs.items ≡ 0 = ap (λ (l : List (ℕ × ℕ)). length l) e in omega (arith, c.in_ok-pairs.pairs.ok))) ∙ c.if-is_empty.false);
      block = subst (λ (v : Classes). IsBlock c.args.g.now.nodes c.args.fixed.now c.args.depth c.in_ok-pairs.pairs.items v c.in_ok-joins.joins.items c.in_ok-joins.blocks.items) (sym back.0)
          (record {
            inner = c.go_inside.new.c;
            inside = inside;
            induction = stays-induction c.args.g.now c.requires.graph c.args.fixed.now c.args.depth c.deref-here.result.now all c.refining.c c.go_inside.new.c c.in_ok-next_keys.field-0.items c.deref-now.result.now c.in_ok-next.next.items c.in_ok-pairs.pairs.items
                c.requires.least c.requires.deep c.requires.above (subst (λ l. IsParting c.deref-here.result.now l c.refining.c.numbers) (sym c.deref-now.ensures.value) i.parting) c.in_ok-pairs.ensures inside
                c.in_ok-next_keys.ensures (subst (λ l. AreFirst l c.in_ok-next.next.items) c.deref-in-refining-2.ensures.value c.in_ok-next.ensures) (sym c.deref-in-refining-3.ensures.value ∙ c.are_same.ensures.0 c.if-are_same.true);
            joins_are = back.1;
            blocks_are = back.2;
          });
    }

pub induct_at-returns-then-are_same : goal.induct_at-returns-then-are_same
induct_at-returns-then-are_same t c =
    let i = c.refining.invariant in
    let all = subst (λ l. AreThetas c.args.g.now.nodes c.args.depth l) (sym c.deref-here.ensures.value) (c.in_ok-here.ensures c.args.g.now.nodes c.requires.all) in
    let w = thetas-within c.args.g.now c.requires.graph c.args.depth (length c.refining.c.numbers) c.deref-here.result.now all
    (subst (λ (v : Classes). length v.numbers ≡ length c.args.g.now.nodes) (sym i.same) c.requires.knows.long) in
    let back = c.in_ok-joins.ensures.back c.refining.c (drop (length c.refining.c.joins) c.go_inside.new.c.joins) (drop (length c.refining.c.blocks) c.go_inside.new.c.blocks) c.in_ok-outside.ensures.outside
    (inside-more c.args.g.now.nodes c.args.fixed.now c.args.depth c.deref-in-refining.result.now c.refining.c c.go_inside.new.c c.in_ok-outside.ensures.inside) in
    subst (λ (v : Classes). IsProgress c.args.g.now.nodes c.args.fixed.now c.args.first v c.join_induction.new.c) i.same
    (finished-progress c.args.g.now.nodes c.args.fixed.now c.args.first c.deref-here.result.now c.deref-now.result.now c.in_ok-pairs.pairs.items c.refining.c c.join_induction.new.c (subst (λ (v : Classes). IsClasses v) (sym i.same) c.requires.classes)
    (apart-within (length c.refining.c.numbers) c.deref-here.result.now c.deref-now.result.now c.refining.c.numbers c.in_ok-pairs.pairs.items w c.in_ok-pairs.ensures) c.in_ok-pairs.ensures (λ e. true≢false (sym (c.is_empty.ensures ∙ eq-eqb _ _ (let z : length c.in_ok-pairs.pairs.items ≡ 0 = ap (λ (l : List (ℕ × ℕ)). length l) e in omega (arith, c.in_ok-pairs.pairs.ok))) ∙ c.if-is_empty.false))
    (subst (λ (v : Classes). IsFinished c.args.g.now.nodes c.args.fixed.now c.args.first c.in_ok-pairs.pairs.items v c.join_induction.new.c) back.0 c.in_ok-join_induction.ensures))

pub induct_at-refining-smaller : goal.induct_at-refining-smaller
induct_at-refining-smaller t c =
    let i = c.refining.invariant in
    let all = subst (λ l. AreThetas c.args.g.now.nodes c.args.depth l) (sym c.deref-here.ensures.value) (c.in_ok-here.ensures c.args.g.now.nodes c.requires.all) in
    let parting = subst (λ l. IsParting c.deref-here.result.now l c.refining.c.numbers) (sym c.deref-now.ensures.value) i.parting in
    let f = subst (λ l. AreFirst l c.in_ok-next.next.items) c.deref-in-refining-2.ensures.value c.in_ok-next.ensures in
    let pl : length c.deref-now.result.now ≡ length c.deref-here.result.now = parting.long in
    let nl : length c.in_ok-next.next.items ≡ length c.deref-here.result.now = f.long ∙ c.in_ok-next_keys.ensures.long in
    subst (λ l. gap_from 0 c.in_ok-next.next.items < gap_from 0 l) c.deref-now.ensures.value
    (gap-falls c.deref-now.result.now c.in_ok-next.next.items (pl ∙ sym nl)
    (λ j l. next-above c.args.g.now.nodes c.args.fixed.now c.args.depth c.deref-here.result.now all c.refining.c.numbers c.go_inside.new.c.numbers c.in_ok-next_keys.field-0.items c.deref-now.result.now c.in_ok-next.next.items parting c.in_ok-next_keys.ensures f j (omega arith))
    (λ j l. f.under j (let kl = c.in_ok-next_keys.ensures.long in omega arith))
    (λ e. true≢false (sym (c.are_same.ensures.1 (c.deref-in-refining-3.ensures.value ∙ sym e)) ∙ c.if-are_same.false)))

pub induct_at-refining-preserved : goal.induct_at-refining-preserved
induct_at-refining-preserved t c =
    let i = c.refining.invariant in let u = c.in_ok-outside.ensures.inside in
    let back = c.in_ok-joins.ensures.back c.refining.c (drop (length c.refining.c.joins) c.go_inside.new.c.joins) (drop (length c.refining.c.blocks) c.go_inside.new.c.blocks) c.in_ok-outside.ensures.outside
    (inside-more c.args.g.now.nodes c.args.fixed.now c.args.depth c.deref-in-refining.result.now c.refining.c c.go_inside.new.c c.in_ok-outside.ensures.inside) in
    let all = subst (λ l. AreThetas c.args.g.now.nodes c.args.depth l) (sym c.deref-here.ensures.value) (c.in_ok-here.ensures c.args.g.now.nodes c.requires.all) in
    let parting = subst (λ l. IsParting c.deref-here.result.now l c.refining.c.numbers) (sym c.deref-now.ensures.value) i.parting in
    let hold = subst (λ l. PartsHold c.args.g.now.nodes c.args.fixed.now c.refining.c.numbers c.args.depth c.deref-here.result.now l) (sym c.deref-now.ensures.value) i.hold in
    let f = subst (λ l. AreFirst l c.in_ok-next.next.items) c.deref-in-refining-2.ensures.value c.in_ok-next.ensures in
    let apart = subst (λ l. AreApart c.deref-here.result.now c.deref-now.result.now c.refining.c.numbers l) (sym c.deref-in-refining.ensures.value) c.in_ok-pairs.ensures in
    record {
      same = back.0 ∙ i.same;
      parting = subst (λ (v : Classes). IsParting c.deref-here.result.now c.in_ok-next.next.items v.numbers) (sym back.0)
          (next-parting c.args.g.now.nodes c.args.fixed.now c.args.depth c.deref-here.result.now all c.refining.c.numbers c.go_inside.new.c.numbers c.in_ok-next_keys.field-0.items c.deref-now.result.now c.in_ok-next.next.items parting c.in_ok-next_keys.ensures f);
      hold = subst (λ (v : Classes). PartsHold c.args.g.now.nodes c.args.fixed.now v.numbers c.args.depth c.deref-here.result.now c.in_ok-next.next.items) (sym back.0)
          (next-hold c.args.g.now.nodes c.args.fixed.now c.args.depth c.deref-here.result.now all c.refining.c.numbers u.mid.numbers c.go_inside.new.c.numbers c.in_ok-next_keys.field-0.items c.deref-now.result.now c.in_ok-next.next.items c.deref-in-refining.result.now
          parting apart u.begun.coarser u.begun.one u.full c.in_ok-next_keys.ensures f hold);
    }

pub go_inside-close_level-requires : goal.go_inside-close_level-requires
go_inside-close_level-requires t c =
    let j = c.in_ok-join_all.ensures in let k = c.in_ok-outside.ensures.same in (
      omega (arith, c.decreases, c.requires.deep),
      (
        c.requires.graph,
        (
          c.requires.all,
          (
            j.classes,
            (
              j.knows c.args.g.now.nodes (k.knows c.args.g.now.nodes c.requires.knows),
              (
                omega (arith, ap (λ (l : List Block). length l) (c.blocks-blocks.ensures ∙ sym (j.blocks ∙ k.blocks))),
                subst (λ l. IsFrom l (c.args.depth + 1)) (sym (c.deref.ensures.value ∙ c.in_ok-more.ensures)) (above-more c.args.fixed.now c.args.depth c.requires.above),
              ),
            ),
          ),
        ),
      ),
    )

pub go_inside-returns-clause-inside : goal.go_inside-returns-clause-inside
go_inside-returns-clause-inside t c =
    let s = c.in_ok-close_level.ensures in
    let f : c.deref.result.now ≡ c.args.depth ∷ c.args.fixed.now = c.deref.ensures.value ∙ c.in_ok-more.ensures in
    let n : length c.blocks-blocks.result.now ≡ length c.args.c.now.blocks = ap (λ (l : List Block). length l) c.blocks-blocks.ensures in
    record {
      mid = c.join_all.new.c;
      begun = all-joined-copy c.args.c.now c.save.new.self c.join_all.new.c c.args.pairs.now None c.in_ok-outside.ensures.same c.in_ok-join_all.ensures;
      grown = subst (λ (l : List ℕ). IsGrown c.args.g.now.nodes l (length c.args.c.now.blocks) c.join_all.new.c c.close_level.new.c) f
          (subst (λ (m : ℕ). IsGrown c.args.g.now.nodes c.deref.result.now m c.join_all.new.c c.close_level.new.c) n s.grown);
      full = subst (λ (l : List ℕ). IsFull c.args.g.now.nodes l c.join_all.new.c.numbers c.close_level.new.c.numbers) f s.full;
    }

pub pass-induct_at-requires : goal.pass-induct_at-requires
pass-induct_at-requires t c =
    let same = c.loop-depth.invariant.same in (
      omega (arith, c.decreases),
      (
        c.requires.graph,
        (
          c.requires.all,
          (
            subst (λ (v : Classes). IsClasses v) (sym same) c.requires.classes,
            (
              subst (λ (v : Classes). Knows c.args.g.now.nodes v) (sym same) c.requires.knows,
              (
                subst (λ (v : Classes). c.args.first ≤ length v.blocks) (sym same) c.requires.first,
                (
                  subst (λ (v : Classes). IsClosed c.args.g.now.nodes c.args.fixed.now v.numbers) (sym same) c.requires.closed,
                  (c.requires.from.down c.loop-depth.depth c.loop-depth.auto.depth, (omega (arith, c.requires.from.least, c.loop-depth.auto.depth), c.loop-depth-test.true)),
                ),
              ),
            ),
          ),
        ),
      ),
    )

pub pass-loop-depth-preserved : goal.pass-loop-depth-preserved
pass-loop-depth-preserved t c =
    let f = subst (λ b. InductEnds c.args.g.now.nodes c.args.fixed.now c.loop-depth.depth c.args.first c.loop-depth.c b c.induct_at.new.c) c.if-branch.false c.in_ok-induct_at.ensures in
    let i = c.loop-depth.invariant in
    record {
      same = f.0 ∙ i.same;
      none = λ d l m. below-or (λ e. c.args.from ≤ e → HoldsInductions c.args.g.now.nodes c.args.fixed.now c.args.c.now.numbers e) c.loop-depth.depth
          (λ e n o. i.none e o n) (λ n. subst (λ (v : Classes). HoldsInductions c.args.g.now.nodes c.args.fixed.now v.numbers c.loop-depth.depth) i.same f.1) d m l;
    }

pub pass-returns : goal.pass-returns
pass-returns t c = let i = c.loop-depth.invariant in (i.same, (λ d l m. i.none d l (omega (arith, c.loop-depth-test.false))))

pub close_level-closing-init : goal.close_level-closing-init
close_level-closing-init t c = record {
  grown = closes-grown c.args.g.now c.requires.graph c.args.fixed.now c.args.c.now c.close.new.self c.requires.classes c.requires.knows.long c.in_ok-close.ensures c.args.first;
  closed = closes-closed c.args.g.now c.requires.graph c.args.fixed.now c.args.c.now c.close.new.self c.requires.classes c.requires.knows.long c.in_ok-close.ensures;
}

pub close_level-returns-then-not-found : goal.close_level-returns-then-not-found
close_level-returns-then-not-found t c =
    let f = subst (λ b. PassEnds c.args.g.now.nodes c.args.fixed.now c.args.from c.args.first c.closing.c b c.pass.new.c) c.if-not-found.true c.in_ok-found.ensures in
    let i = c.closing.invariant in
    record {
      grown = subst (λ (v : Classes). IsGrown c.args.g.now.nodes c.args.fixed.now c.args.first c.args.c.now v) (sym f.0) i.grown;
      full = subst (λ (v : Classes). IsFull c.args.g.now.nodes c.args.fixed.now c.args.c.now.numbers v.numbers) (sym f.0)
          (full-exit c.args.g.now c.requires.graph c.args.fixed.now c.args.c.now.numbers c.closing.c.numbers c.args.from c.requires.from i.grown.coarser (λ a. refl) i.closed f.1);
    }

pub close_level-closing-preserved : goal.close_level-closing-preserved
close_level-closing-preserved t c =
    let f = subst (λ b. PassEnds c.args.g.now.nodes c.args.fixed.now c.args.from c.args.first c.closing.c b c.pass.new.c) c.if-not-found.false c.in_ok-found.ensures in
    let i = c.closing.invariant in
    record {
      grown = grown-chain c.args.g.now.nodes c.args.fixed.now c.args.first c.args.c.now c.closing.c c.pass.new.c c.requires.first i.grown f.grown;
      closed = f.closed;
    }
