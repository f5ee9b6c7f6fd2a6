use Rattle.std.proofs.Common.{◌+◌, ◌<◌, ◌≤◌, List, length, get_or, drop, sym, ◌∙◌, subst, arith}
use Rattle.pv_build.proofs.Words.{drop_all, slice_get-get_or, IsFlatOrOut, grows_by_then, Closed, IsBeyond, ReadsOutOfAll}
use Rattle.pv_build.proofs.Outgoing.{all_get, rest_more, loops_grown, grows_out, none_left, more_left}
use Rattle.pv_build.proofs.taking.exit_outs.Goals as goal

abbrev no_loop : Closed
no_loop = record { depth = 0; token = 0; ending = 0 }

pub returns-in_err-taken-2-clause-grows : goal.returns-in_err-taken-2-clause-grows
returns-in_err-taken-2-clause-grows c d deep =
    let x : Closed = get_or c.args.left.now c.loop-c.c-index no_loop in
    grows_by_then (IsBeyond d) c.args.g.now c.loop-c.g c.exit_out.new.g (c.loop-c.invariant.grows d deep)
    (grows_out d x c.loop-c.g c.exit_out.new.g (all_get (λ (x : Closed). d < x.depth) c.args.left.now c.loop-c.c-index x deep (slice_get-get_or c.args.left.now c.loop-c.c-index no_loop c.loop-c-test.true)) c.exit_out.ensures.grows)

pub loop-c-preserved : goal.loop-c-preserved
loop-c-preserved c =
    let x : Closed = get_or c.args.left.now c.loop-c.c-index no_loop in
    record {
      graph = c.exit_out.ensures.grows.graph;
      closed = loops_grown (IsFlatOrOut x.depth) c.loop-c.g c.exit_out.new.g c.exit_out.ensures.grows c.args.left.now c.loop-c.invariant.closed;
      sorted = c.in_ok-taken-2.ensures.sorted;
      dest = c.in_ok-taken-2.ensures.dest ∙ c.loop-c.invariant.dest;
      reads = λ new y others. c.loop-c.invariant.reads new y
          (subst (λ (xs : List Closed). ReadsOutOfAll c.loop-c.g xs c.loop-c.taken new y) (sym (rest_more c.args.left.now c.loop-c.c-index no_loop c.loop-c-test.true))
          (more_left c.loop-c.g c.exit_out.new.g new x (drop (c.loop-c.c-index + 1) c.args.left.now) c.loop-c.taken c.in_ok-taken-2.taken y c.exit_out.ensures.grows c.in_ok-taken-2.ensures.reads others));
      grows = λ d deep. grows_by_then (IsBeyond d) c.args.g.now c.loop-c.g c.exit_out.new.g (c.loop-c.invariant.grows d deep)
          (grows_out d x c.loop-c.g c.exit_out.new.g (all_get (λ (x : Closed). d < x.depth) c.args.left.now c.loop-c.c-index x deep (slice_get-get_or c.args.left.now c.loop-c.c-index no_loop c.loop-c-test.true)) c.exit_out.ensures.grows);
    }

pub returns-clause-reads : goal.returns-clause-reads
returns-clause-reads c =
    let over : length c.args.left.now ≤ c.loop-c.c-index = omega (arith, c.loop-c-test.false, c.loop-c.auto.c-index-end) in
    c.loop-c.invariant.reads c.loop-c.g c.loop-c.taken
    (subst (λ (xs : List Closed). ReadsOutOfAll c.loop-c.g xs c.loop-c.taken c.loop-c.g c.loop-c.taken) (sym (drop_all c.loop-c.c-index c.args.left.now over)) (none_left c.loop-c.g c.loop-c.taken))
