use Rattle.std.proofs.Common.{◌≡◌, ◌++◌, length, take, drop, Bool, sym, ap, ◌∙◌, subst, arith}
use Rattle.pv_decide.proofs.Words.{AreSo, KnowAhead, Swept, unmarked, IsDone}
use Rattle.pv_decide.proofs.Reached.{written, know_ahead}
use Rattle.pv_decide.proofs.reaching.ahead.Goals as goal

pub sweep-requires-clause-known : goal.sweep-requires-clause-known
sweep-requires-clause-known c = subst (AreSo c.args.sites.now c.args.aim.scope c.args.aim.target) (sym c.deref_mut.ensures.value) c.loop-aim.invariant.so

pub loop-aim-preserved : goal.loop-aim-preserved
loop-aim-preserved c =
    let size : length c.sweep.new.known ≡ length c.loop-aim.known.items = c.sweep.auto.known ∙ ap length c.deref_mut.ensures.value in
    let w : take c.loop-aim.known.len (c.sweep.new.known ++ drop (length c.sweep.new.known) c.loop-aim.known.items) ≡ c.sweep.new.known = written c.loop-aim.known.len c.loop-aim.known.items c.sweep.new.known (omega (arith, c.loop-aim.known.ok)) size in
    record {
      len = ap length w ∙ size ∙ c.loop-aim.invariant.len;
      so = subst (AreSo c.args.sites.now c.args.aim.scope c.args.aim.target) (sym w) c.sweep.ensures.known;
    }

pub loop-aim-smaller : goal.loop-aim-smaller
loop-aim-smaller c =
    let size : length c.sweep.new.known ≡ length c.loop-aim.known.items = c.sweep.auto.known ∙ ap length c.deref_mut.ensures.value in
    let w : take c.loop-aim.known.len (c.sweep.new.known ++ drop (length c.sweep.new.known) c.loop-aim.known.items) ≡ c.sweep.new.known = written c.loop-aim.known.len c.loop-aim.known.items c.sweep.new.known (omega (arith, c.loop-aim.known.ok)) size in
    let less = subst (λ (t : Bool). Swept c.args.sites.now c.args.aim.scope c.args.aim.target c.deref_mut.result.now c.sweep.new.known t) c.loop-aim-test.true c.sweep.ensures.swept in
    omega (arith, less, ap unmarked w, ap unmarked c.deref_mut.ensures.value)

pub returns : goal.returns
returns c =
    let size : length c.sweep.new.known ≡ length c.loop-aim.known.items = c.sweep.auto.known ∙ ap length c.deref_mut.ensures.value in
    let w : take c.loop-aim.known.len (c.sweep.new.known ++ drop (length c.sweep.new.known) c.loop-aim.known.items) ≡ c.sweep.new.known = written c.loop-aim.known.len c.loop-aim.known.items c.sweep.new.known (omega (arith, c.loop-aim.known.ok)) size in
    let done : IsDone c.args.sites.now c.args.aim.scope c.args.aim.target c.sweep.new.known 0 =
    subst (λ (t : Bool). Swept c.args.sites.now c.args.aim.scope c.args.aim.target c.deref_mut.result.now c.sweep.new.known t) c.loop-aim-test.false c.sweep.ensures.swept in
    subst (KnowAhead c.args.sites.now c.args.aim.scope c.args.aim.target) (sym w)
    (know_ahead c.args.sites.now c.args.aim.scope c.args.aim.target c.sweep.new.known c.requires.range (size ∙ c.loop-aim.invariant.len) c.sweep.ensures.known done)
