use Rattle.std.proofs.Common.{rules, ◌≡◌, ◌<◌, ◌*◌, ◌-◌, suc, length, take, subst, arith}
use Rattle.std.specs.declared.cmp.Ordering.TheVariants.{Less}
use Rattle.pv_match.proofs.Merging.{AreBefore, up_to}
use Rattle.pv_match.proofs.merge.count_before.Goals as goal

pub loop-x-preserved : goal.loop-x-preserved
loop-x-preserved g c =
    let items = c.args.queue.now.items in
    let count = c.loop-x.count in
    let some = c.loop-x.invariant.some in
    let there : count * 2 - 1 < length items = search rules in
    let less : g.T.Ord.cmp c.in-Some.x.now c.args.bound.now ≡ Less = search rules in
    let double : suc (2 * count - 1) ≡ count * 2 = omega arith in
    record {
      some = omega arith;
      few = (let small = c.args.queue.now.small in let whole = c.args.queue.now.ok in omega (arith, small, whole, there));
      before = subst (λ n. AreBefore g.T.Ord.cmp c.args.bound.now (take n items)) double
          (up_to g.T.Ord.cmp g.met.T.Ord.total (2 * count - 1) items c.in-Some.x.now c.args.bound.now c.requires.ordered (omega arith) c.in-Some.ensures.lookup less);
    }
