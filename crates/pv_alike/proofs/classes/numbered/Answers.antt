use Rattle.std.proofs.Common.{ℕ, List, subst, arith}
use Rattle.pv_graph.specs.Graphs.{form_at}
use Rattle.pv_alike.specs.Partition.{IsPass, IsFiner}
use Rattle.pv_alike.specs.Keys.{number_at}
use Rattle.pv_alike.proofs.Refining.{refining_none, refining_more, refining_end}
use Rattle.pv_alike.proofs.classes.numbered.Goals as goal

pub loop-classes-init : goal.loop-classes-init
loop-classes-init c = record {
  long = omega (arith, c.in_ok-classes.ensures.len, c.len.ensures.len, c.in_ok-classes.classes.ok.0);
  refining = refining_none c.args.g.now.nodes c.len.result c.in_ok-classes.classes.items (c.in_ok-classes.ensures.items_if_clones_equal (λ y e. e));
}

pub returns-then-next-count-clause-numbered : goal.returns-then-next-count-clause-numbered
returns-then-next-count-clause-numbered c =
    let g = c.args.g.now.nodes in
    let classes = c.loop-classes.classes.items in
    let numbers = c.in_ok-numbers.numbers.of.items in
    let next = c.in_ok-next.next.of.items in
    let pass = subst (λ (xs : List ℕ). IsPass (form_at g) (number_at xs) (number_at numbers)) c.deref.ensures.value c.in_ok-numbers.ensures.pass in
    let finer =
    subst (λ (xs : List ℕ). IsFiner (form_at g) (number_at xs) (number_at numbers) (number_at next)) c.deref-in-loop-classes.ensures.value
    (subst (λ (ys : List ℕ). IsFiner (form_at g) (number_at c.deref-in-loop-classes.result.now) (number_at ys) (number_at next)) c.deref-in-loop-classes-2.ensures.value c.in_ok-next.ensures.finer) in
    refining_end g (number_at classes) (number_at numbers) (number_at next) c.loop-classes.count c.in_ok-next.next.count c.loop-classes.invariant.refining pass finer c.in_ok-next.ensures.dense c.args.order.now c.requires.order c.if-next-count.true

pub loop-classes-preserved : goal.loop-classes-preserved
loop-classes-preserved c =
    let g = c.args.g.now.nodes in
    let classes = c.loop-classes.classes.items in
    let numbers = c.in_ok-numbers.numbers.of.items in
    let next = c.in_ok-next.next.of.items in
    let pass = subst (λ (xs : List ℕ). IsPass (form_at g) (number_at xs) (number_at numbers)) c.deref.ensures.value c.in_ok-numbers.ensures.pass in
    let finer =
    subst (λ (xs : List ℕ). IsFiner (form_at g) (number_at xs) (number_at numbers) (number_at next)) c.deref-in-loop-classes.ensures.value
    (subst (λ (ys : List ℕ). IsFiner (form_at g) (number_at c.deref-in-loop-classes.result.now) (number_at ys) (number_at next)) c.deref-in-loop-classes-2.ensures.value c.in_ok-next.ensures.finer) in
    record {
      long = omega (arith, c.in_ok-next.ensures.long, c.in_ok-next.next.of.ok.0);
      refining = refining_more g (number_at classes) (number_at numbers) (number_at next) c.loop-classes.count c.in_ok-next.next.count c.loop-classes.invariant.refining pass finer c.in_ok-next.ensures.dense;
    }
