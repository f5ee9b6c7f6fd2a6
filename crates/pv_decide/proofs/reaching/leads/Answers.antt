use Rattle.std.proofs.Common.{◌≡◌, List, length, get_or, Some, slice_get, refl, sym, ap, subst, arith}
use Rattle.pv_decide.proofs.Words.{slice_get-get_or, Site}
use Rattle.pv_flow.specs.declared.block.Exit.{Exit}
use Rattle.pv_flow.specs.declared.block.Exit.TheVariants as dest
use Rattle.pv_decide.proofs.Reached.{no_leads, until}
use Rattle.pv_decide.proofs.reaching.leads.Goals as goal

pub returns-then-leads_on : goal.returns-then-leads_on
returns-then-leads_on c =
    let k : Site = get_or c.args.sites.now c.args.b c.index-sites-b.result in
    let here : slice_get c.args.sites.now c.args.b ≡ Some k = slice_get-get_or c.args.sites.now c.args.b c.index-sites-b.result c.requires in
    let d : Exit = get_or c.deref-exit-items.result.now c.loop-exit.exit-index (dest.To 0) in
    let at : slice_get c.deref-exit-items.result.now c.loop-exit.exit-index ≡ Some d = slice_get-get_or c.deref-exit-items.result.now c.loop-exit.exit-index (dest.To 0) c.loop-exit-test.true in (
      (λ _. (k, c.loop-exit.exit-index, d, here, subst (λ (ds : List Exit). slice_get ds c.loop-exit.exit-index ≡ Some d) c.deref-exit-items.ensures.value at, c.leads_on.ensures.0 c.if-leads_on.true)),
      (λ _. refl),
    )

pub loop-exit-preserved : goal.loop-exit-preserved
loop-exit-preserved c =
    until c.args.aim.scope c.args.aim.target c.args.known.now c.deref-exit-items.result.now c.loop-exit.exit-index c.leads_on.result c.loop-exit-test.true c.loop-exit.invariant c.leads_on.ensures c.if-leads_on.false

pub returns : goal.returns
returns c =
    let k : Site = get_or c.args.sites.now c.args.b c.index-sites-b.result in
    let here : slice_get c.args.sites.now c.args.b ≡ Some k = slice_get-get_or c.args.sites.now c.args.b c.index-sites-b.result c.requires in (
      (λ e. absurd (cc)),
      (λ le. absurd (no_leads c.args.sites.now c.args.aim.scope c.args.aim.target c.args.known.now c.args.b k here
          (λ e d less at lo. c.loop-exit.invariant e d (let n : length c.deref-exit-items.result.now ≡ length k.exits.items = ap length c.deref-exit-items.ensures.value in omega (arith, c.loop-exit-test.false)) (subst (λ (ds : List Exit). slice_get ds e ≡ Some d) (sym c.deref-exit-items.ensures.value) at) lo) le)),
    )
