use Rattle.std.proofs.Common.{List, Vec, Bool, sym, subst, arith}
use Rattle.std.specs.declared.alloc.Global.{Global}
use Rattle.pv_graph.specs.Known.{AreAllFree}
use Rattle.pv_graph.proofs.Knowing.{all_free_more}
use Rattle.pv_graph.proofs.known.open.Goals as goal

pub loop-init : goal.loop-init
loop-init c = record { places = omega (arith, c.len-counter.ensures); free = λ nodes is. is }

pub returns-in_err-push-clause-free : goal.returns-in_err-push-clause-free
returns-in_err-push-clause-free c nodes is = subst (λ (all : List (Vec Bool Global)). AreAllFree nodes all) (sym c.in_err-push.ensures.items) (c.loop.invariant.free nodes is)

pub loop-preserved : goal.loop-preserved
loop-preserved c = record {
  places = omega (arith, c.in_ok-push.ensures.len, c.loop.invariant.places);
  free = λ nodes is. subst (λ (all : List (Vec Bool Global)). AreAllFree nodes all) (sym c.in_ok-push.ensures.items) (all_free_more nodes c.loop.marks.items c.new.result c.new.ensures.items (c.loop.invariant.free nodes is));
}

pub returns-clause-free : goal.returns-clause-free
returns-clause-free c = c.loop.invariant.free

pub returns-clause-places : goal.returns-clause-places
returns-clause-places c = omega (arith, c.loop.invariant.places, c.loop-test.false)
