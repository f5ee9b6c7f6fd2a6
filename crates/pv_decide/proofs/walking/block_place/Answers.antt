use Rattle.std.proofs.Common.{◌≡◌, ◌<◌, ℕ, suc, ◌-◌, length, Some, slice_get, arith, sym, subst, refl, rules}
use Rattle.pv_decide.proofs.Words.{slice_get_read, Grows}
use Rattle.pv_decide.proofs.Following.{GivesFrom, from_last, from_test, from_first, nothing_grows}
use Rattle.pv_decide.proofs.Folding.{grows_trans}
use Rattle.pv_decide.proofs.Sound.{test_fits, place_grow, exit_before, test_before}
use Rattle.pv_decide.proofs.walking.block_place.Goals as goal

pub exit_place-requires-clause-exit : goal.exit_place-requires-clause-exit
exit_place-requires-clause-exit c =
    let here : slice_get c.args.sites.now c.args.b ≡ Some c.index-sites-b.result = slice_get_read c.args.sites.now (length c.args.sites.now) c.args.b c.index-sites-b.result refl c.requires.block c.index-sites-b.is in
    let some : 0 < length c.index-sites-b.result.exits.items = (c.requires.range.exits c.args.b c.index-sites-b.result here).0 in
    let n : c.len.result ≡ length c.index-sites-b.result.exits.items = search rules in
    (c.requires.inside, c.index-sites-b.result, here, omega arith)

pub loop-e-init : goal.loop-e-init
loop-e-init c =
    let here : slice_get c.args.sites.now c.args.b ≡ Some c.index-sites-b.result = slice_get_read c.args.sites.now (length c.args.sites.now) c.args.b c.index-sites-b.result refl c.requires.block c.index-sites-b.is in
    let some : 0 < length c.index-sites-b.result.exits.items = (c.requires.range.exits c.args.b c.index-sites-b.result here).0 in
    let n : c.len.result ≡ length c.index-sites-b.result.exits.items = search rules in
    record {
      exit = (c.requires.inside, c.index-sites-b.result, here, omega arith);
      grows = c.in_ok-place.ensures.gives.0;
      nothing = nothing_grows c.args.nodes.now.items c.exit_place.new.nodes.items c.in_ok-place.ensures.gives.0 c.requires.nothing;
      sound = c.in_ok-place.ensures.sound;
      gives = from_last c.args.sites.now c.args.aim.scope c.args.aim.target c.args.places.now c.args.b c.index-sites-b.result here c.args.nodes.now.items c.exit_place.new.nodes.items (c.len.result - 1) c.in_ok-place.place (omega arith) c.in_ok-place.ensures.gives;
    }

pub exit_place-requires-in-loop-e-clause-exit : goal.exit_place-requires-in-loop-e-clause-exit
exit_place-requires-in-loop-e-clause-exit c = exit_before c.args.sites.now c.args.aim.scope c.args.b c.loop-e.e c.loop-e.invariant.exit

pub test-requires : goal.test-requires
test-requires c = nothing_grows c.loop-e.nodes.items c.exit_place-in-loop-e.new.nodes.items c.in_ok-yes.ensures.gives.0 c.loop-e.invariant.nothing

pub loop-e-preserved : goal.loop-e-preserved
loop-e-preserved c =
    let x = c.loop-e.invariant.exit in
    let one : suc (c.loop-e.e - 1) ≡ c.loop-e.e = omega (arith, c.loop-e-test.true) in
    let low : suc (c.loop-e.e - 1) < length x.1.exits.items = omega (arith, one, x.3) in
    let g : Grows c.loop-e.nodes.items c.test.new.nodes.items = grows_trans c.loop-e.nodes.items c.exit_place-in-loop-e.new.nodes.items c.test.new.nodes.items c.in_ok-yes.ensures.gives.0 c.in_ok-place-2.ensures.gives.0 in
    let before = exit_before c.args.sites.now c.args.aim.scope c.args.b c.loop-e.e x in
    record {
      exit = before;
      grows = grows_trans c.args.nodes.now.items c.loop-e.nodes.items c.test.new.nodes.items c.loop-e.invariant.grows g;
      nothing = nothing_grows c.loop-e.nodes.items c.test.new.nodes.items g c.loop-e.invariant.nothing;
      sound = test_fits c.args.sites.now c.args.aim.scope c.args.aim.target c.exit_place-in-loop-e.new.nodes.items c.test.new.nodes.items c.args.b (c.loop-e.e - 1) c.in_ok-yes.yes c.loop-e.place c.in_ok-place-2.place
          (test_before c.args.sites.now c.args.aim.scope c.args.b c.loop-e.e c.loop-e-test.true x) c.in_ok-yes.ensures.sound.0 c.in_ok-yes.ensures.sound.1 (place_grow c.args.sites.now c.args.aim.target c.loop-e.nodes.items c.exit_place-in-loop-e.new.nodes.items c.in_ok-yes.ensures.gives.0 c.args.b c.loop-e.place c.loop-e.invariant.sound.1)
          c.in_ok-place-2.ensures.made;
      gives = from_test c.args.sites.now c.args.aim.scope c.args.aim.target c.args.places.now c.args.b x.1 x.2 c.args.nodes.now.items c.loop-e.nodes.items c.exit_place-in-loop-e.new.nodes.items c.test.new.nodes.items
          (c.loop-e.e - 1) c.loop-e.place c.in_ok-yes.yes c.in_ok-place-2.place low c.loop-e.invariant.grows
          (subst (λ (e : ℕ). GivesFrom c.args.sites.now c.args.aim.scope c.args.aim.target c.args.places.now c.args.b c.args.nodes.now.items c.loop-e.nodes.items e c.loop-e.place) (sym one) c.loop-e.invariant.gives)
          c.in_ok-yes.ensures.gives c.in_ok-place-2.ensures.gives;
    }

pub returns-clause-gives : goal.returns-clause-gives
returns-clause-gives c =
    let x = c.loop-e.invariant.exit in
    let none : c.loop-e.e ≡ 0 = omega arith in
    from_first c.args.sites.now c.args.aim.scope c.args.aim.target c.args.places.now c.args.b x.1 x.2 c.args.nodes.now.items c.loop-e.nodes.items c.loop-e.place c.loop-e.invariant.grows
    (subst (λ (e : ℕ). GivesFrom c.args.sites.now c.args.aim.scope c.args.aim.target c.args.places.now c.args.b c.args.nodes.now.items c.loop-e.nodes.items e c.loop-e.place) none c.loop-e.invariant.gives)
