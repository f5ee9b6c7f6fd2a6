use Rattle.std.proofs.Common.{ℕ, ◌<◌, ◌+◌, length, sym, ◌∙◌, subst, arith, true, length-set}
use Rattle.pv_loops.proofs.Words.{All-push, All}
use Rattle.pv_loops.proofs.Walking.{popped, pushed, target_in}
use Rattle.pv_loops.proofs.walk.Walk.step.Goals as goal

pub index-requires : goal.index-requires
index-requires c =
    let found = c.in-Some-get.ensures.lookup in
    let lt = target_in c.args.shape.now c.in-Some.n c.in-Some.k c.in-Some-get.t.now c.targets.result.now c.requires.shape c.targets.ensures found.3.0 found.1 in
    omega (arith, lt, c.requires.walk.size, c.args.self.now.seen.ok)

pub index_mut-requires : goal.index_mut-requires
index_mut-requires c =
    let found = c.in-Some-get.ensures.lookup in
    let lt = target_in c.args.shape.now c.in-Some.n c.in-Some.k c.in-Some-get.t.now c.targets.result.now c.requires.shape c.targets.ensures found.3.0 found.1 in
    omega (arith, lt, c.requires.walk.size, c.args.self.now.seen.ok)

pub returns-in_ok-push-in-None : goal.returns-in_ok-push-in-None
returns-in_ok-push-in-None c =
    let count : ℕ = length c.args.shape.now in
    let p = popped count c.args.self.now.path.items c.pop.new.self.items c.in-Some.n c.in-Some.k c.in-Some.ensures.items c.requires.walk.path in record {
      size = c.requires.walk.size;
      path = p.0;
      done = subst (λ l. All (λ n. n < count) l) (sym c.in_ok-push-in-None.ensures.items) (All-push (λ n. n < count) c.args.self.now.done.items c.in-Some.n c.requires.walk.done p.1);
    }

pub returns-in_ok-push-in-Some-get-2 : goal.returns-in_ok-push-in-Some-get-2
returns-in_ok-push-in-Some-get-2 c =
    let count : ℕ = length c.args.shape.now in
    let p = popped count c.args.self.now.path.items c.pop.new.self.items c.in-Some.n c.in-Some.k c.in-Some.ensures.items c.requires.walk.path in
    let found = c.in-Some-get.ensures.lookup in
    let lt = target_in c.args.shape.now c.in-Some.n c.in-Some.k c.in-Some-get.t.now c.targets.result.now c.requires.shape c.targets.ensures found.3.0 found.1 in record {
      size = length-set c.args.self.now.seen.items c.in-Some-get.t.now true ∙ c.requires.walk.size;
      path = pushed count c.push-in-Some-get.new.self.items c.push-then-not-index.new.self.items c.in-Some-get.t.now 0 c.in_ok-push-in-Some-get-2.ensures.items
          (pushed count c.pop.new.self.items c.push-in-Some-get.new.self.items c.in-Some.n (c.in-Some.k + 1) c.in_ok-push-in-Some-get.ensures.items p.0 p.1) lt;
      done = c.requires.walk.done;
    }

pub returns-else-not-index : goal.returns-else-not-index
returns-else-not-index c =
    let count : ℕ = length c.args.shape.now in
    let p = popped count c.args.self.now.path.items c.pop.new.self.items c.in-Some.n c.in-Some.k c.in-Some.ensures.items c.requires.walk.path in record {
      size = c.requires.walk.size;
      path = pushed count c.pop.new.self.items c.push-in-Some-get.new.self.items c.in-Some.n (c.in-Some.k + 1) c.in_ok-push-in-Some-get.ensures.items p.0 p.1;
      done = c.requires.walk.done;
    }
