use Rattle.std.proofs.Common.{◌+◌, ◌<◌, ◌≤◌, List, length, get_or, drop, sym, subst, arith}
use Rattle.pv_build.proofs.Words.{drop_all, slice_get-get_or, I, IsFlatOrOut, grows_by_then, Closed, IsBeyond, ReadsValueOut}
use Rattle.pv_build.proofs.Outgoing.{all_get, rest_more, loops_grown, grows_out, node_out, no_value_left, more_value_left}
use Rattle.pv_build.proofs.taking.value_outs.Goals as goal

abbrev no_loop : Closed
no_loop = record { depth = 0; token = 0; ending = 0 }

pub returns-in_err-value-clause-grows : goal.returns-in_err-value-clause-grows
returns-in_err-value-clause-grows c d deep =
    let x : Closed = get_or c.args.left.now c.loop-c.c-index no_loop in
    grows_by_then (IsBeyond d) c.args.g.now c.loop-c.g c.out.new.g (c.loop-c.invariant.grows d deep)
    (grows_out d x c.loop-c.g c.out.new.g (all_get (λ (x : Closed). d < x.depth) c.args.left.now c.loop-c.c-index x deep (slice_get-get_or c.args.left.now c.loop-c.c-index no_loop c.loop-c-test.true)) c.out.ensures.grows)

pub loop-c-preserved : goal.loop-c-preserved
loop-c-preserved c =
    let x : Closed = get_or c.args.left.now c.loop-c.c-index no_loop in
    record {
      graph = c.out.ensures.grows.graph;
      closed = loops_grown (IsFlatOrOut x.depth) c.loop-c.g c.out.new.g c.out.ensures.grows c.args.left.now c.loop-c.invariant.closed;
      sort = c.in_ok-value.ensures.sort I c.loop-c.invariant.sort;
      reads = λ new r others. c.loop-c.invariant.reads new r
          (subst (λ (xs : List Closed). ReadsValueOut c.loop-c.g xs c.loop-c.value new r) (sym (rest_more c.args.left.now c.loop-c.c-index no_loop c.loop-c-test.true))
          (more_value_left c.loop-c.g c.out.new.g new x (drop (c.loop-c.c-index + 1) c.args.left.now) c.loop-c.value c.in_ok-value.value r c.out.ensures.grows
          (node_out c.loop-c.g x c.loop-c.value c.out.new.g c.in_ok-value.value c.in_ok-value.ensures.reads c.in_ok-value.ensures.sort) others));
      grows = λ d deep. grows_by_then (IsBeyond d) c.args.g.now c.loop-c.g c.out.new.g (c.loop-c.invariant.grows d deep)
          (grows_out d x c.loop-c.g c.out.new.g (all_get (λ (x : Closed). d < x.depth) c.args.left.now c.loop-c.c-index x deep (slice_get-get_or c.args.left.now c.loop-c.c-index no_loop c.loop-c-test.true)) c.out.ensures.grows);
    }

pub returns-clause-reads : goal.returns-clause-reads
returns-clause-reads c =
    let over : length c.args.left.now ≤ c.loop-c.c-index = omega (arith, c.loop-c-test.false, c.loop-c.auto.c-index-end) in
    c.loop-c.invariant.reads c.loop-c.g c.loop-c.value
    (subst (λ (xs : List Closed). ReadsValueOut c.loop-c.g xs c.loop-c.value c.loop-c.g c.loop-c.value) (sym (drop_all c.loop-c.c-index c.args.left.now over)) (no_value_left c.loop-c.g c.loop-c.value))
