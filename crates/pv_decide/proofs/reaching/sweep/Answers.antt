use Rattle.std.proofs.Common.{◌≡◌, ◌<◌, ◌-◌, suc, List, length, set, Some, slice_get, Bool, false, true, ◌⊎◌, inl, inr, ap, ◌∙◌, arith}
use Rattle.pv_decide.proofs.Words.{slice_get-get_or, length-set, Leads, unmarked}
use Rattle.pv_decide.proofs.Reached.{unmarked_set, so_more, done_more}
use Rattle.pv_decide.proofs.reaching.sweep.Goals as goal
use Rattle.pv_decide.proofs.reaching.sweep.Goals.{else-not-known-b-via-then-not-known-b+else-leads, else-not-known-b-via-else-not-known-b}

pub loop-b-preserved-then-leads : goal.loop-b-preserved-then-leads
loop-b-preserved-then-leads c =
    let known : List Bool = c.loop-b.known in
    let low : c.loop-b.b - 1 < length known = omega (arith, c.loop-b.invariant.low, c.loop-b.invariant.len, c.loop-b-test.true) in
    let un : slice_get known (c.loop-b.b - 1) ≡ Some false = slice_get-get_or known (c.loop-b.b - 1) false low ∙ ap Some c.if-not-known-b.true in
    let less : suc (unmarked (set known (c.loop-b.b - 1) true)) ≡ unmarked known = unmarked_set known (c.loop-b.b - 1) un in
    record {
      low = omega (arith, c.loop-b.invariant.low);
      len = length-set known (c.loop-b.b - 1) true ∙ c.loop-b.invariant.len;
      so = so_more c.args.sites.now c.args.aim.scope c.args.aim.target known (c.loop-b.b - 1) low c.loop-b.invariant.so (c.leads.ensures.0 c.if-leads.true);
      fewer = omega (arith, c.loop-b.invariant.fewer, less);
      done = λ e. absurd (cc);
    }

pub loop-b-preserved : goal.loop-b-preserved
loop-b-preserved c =
    let known : List Bool = c.loop-b.known in
    let low : c.loop-b.b - 1 < length known = omega (arith, c.loop-b.invariant.low, c.loop-b.invariant.len, c.loop-b-test.true) in
    let one : c.loop-b.b ≡ suc (c.loop-b.b - 1) = omega (arith, c.loop-b-test.true) in
    let why : (slice_get known (c.loop-b.b - 1) ≡ Some true) ⊎ (Leads c.args.sites.now c.args.aim.scope c.args.aim.target known (c.loop-b.b - 1) → ⊥) = elim c.else-not-known-b.branch [
      | else-not-known-b-via-then-not-known-b+else-leads w ↦ inr (λ le. let y = w.leads.ensures.1 le in let n = w.if-leads.false in absurd (cc))
      | else-not-known-b-via-else-not-known-b w ↦ inl (slice_get-get_or known (c.loop-b.b - 1) false low ∙ ap Some w.if-not-known-b.false)
    ] in
    record {
      low = omega (arith, c.loop-b.invariant.low);
      len = c.loop-b.invariant.len;
      so = c.loop-b.invariant.so;
      fewer = c.loop-b.invariant.fewer;
      done = λ e. done_more c.args.sites.now c.args.aim.scope c.args.aim.target known c.loop-b.b (c.loop-b.b - 1) one why (c.loop-b.invariant.done e);
    }
