use Rattle.std.proofs.Common.{◌<◌, ◌+◌, ◌∙◌, ℕ, List, get_or, refl, sym, subst, take_all}
use Rattle.std.proofs.lemmas.Option.{slice_get-get_or}
use Rattle.pv_graph.specs.Reach.{Grows}
use Rattle.pv_graph.proofs.Reaching.{grows_none, grows_more}
use Rattle.pv_graph.proofs.reach.add_uses.Goals as goal

pub loop-place-init : goal.loop-place-init
loop-place-init c = record { len = refl; grows = grows_none c.args.first c.args.uses.now.items c.args.node }

pub add_use-requires : goal.add_use-requires
add_use-requires c =
    subst (λ (n : ℕ). get_or c.args.kids.now c.loop-place.place 0 < c.args.first + n) (sym c.loop-place.invariant.len)
    (c.requires c.loop-place.place (get_or c.args.kids.now c.loop-place.place 0) (slice_get-get_or c.args.kids.now c.loop-place.place 0 c.loop-place-test.true))

pub loop-place-preserved : goal.loop-place-preserved
loop-place-preserved c = record {
  len = c.add_use.ensures.len ∙ c.loop-place.invariant.len;
  grows = grows_more c.args.first c.args.uses.now.items c.loop-place.uses.items c.add_use.new.uses.items c.args.node c.args.kids.now c.loop-place.place c.loop-place-test.true c.loop-place.invariant.grows c.in_ok-add_use.ensures.gains;
}

pub returns-clause-grows : goal.returns-clause-grows
returns-clause-grows c = subst (λ (kids : List ℕ). Grows c.args.first c.args.uses.now.items c.loop-place.uses.items c.args.node kids) (take_all c.loop-place.place c.args.kids.now c.loop-place-test.false) c.loop-place.invariant.grows
