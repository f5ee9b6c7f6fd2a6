use Rattle.std.proofs.Common.{◌<◌, ℕ, get_or, refl, sym, subst}
use Rattle.pv_decide.proofs.Words.{slice_get_within}
use Rattle.pv_decide.proofs.Chains.{goes_as, exit_range}
use Rattle.pv_decide.proofs.Following.{follows_leaf_ok, follows_goes, follows_nothing}
use Rattle.pv_decide.proofs.Sound.{leaf_fits_ok, goes_fits, goes_later, nothing_fits, exit_read}
use Rattle.pv_decide.proofs.walking.exit_place.Goals as goal

pub returns-in-Leaf : goal.returns-in-Leaf
returns-in-Leaf c =
    let read = exit_read c.args.sites.now c.args.aim.scope c.args.b c.args.e c.index-sites-b.result c.index-exit.result.now c.requires.exit c.index-sites-b.is c.index-exit.ensures in
    let range = exit_range c.args.sites.now c.requires.range c.args.b c.args.e c.index-sites-b.result c.index-exit.result.now read.0 read.1 in
    record {
      gives = follows_leaf_ok c.args.sites.now c.args.aim.scope c.args.aim.target c.args.places.now c.args.b c.args.e c.index-sites-b.result c.index-exit.result.now read.0 read.1 range c.lands.result c.lands.ensures c.answer.result c.answer.ensures
          c.args.nodes.now.items c.push.new.nodes.items c.push.result c.in-Leaf.is c.push.ensures;
      sound = leaf_fits_ok c.args.sites.now c.args.aim.scope c.args.aim.target c.args.nodes.now.items c.push.new.nodes.items c.args.b c.args.e c.index-sites-b.result c.index-exit.result.now c.lands.result c.answer.result c.push.result
          read.0 read.1 (goes_as c.args.sites.now c.args.b c.args.e c.index-sites-b.result c.index-exit.result.now read.0 read.1)
          c.answer.ensures c.in-Leaf.is c.lands.ensures c.requires.exit c.requires.sound c.push.ensures;
    }

pub returns-in-Goes : goal.returns-in-Goes
returns-in-Goes c =
    let read = exit_read c.args.sites.now c.args.aim.scope c.args.b c.args.e c.index-sites-b.result c.index-exit.result.now c.requires.exit c.index-sites-b.is c.index-exit.ensures in
    let range = exit_range c.args.sites.now c.requires.range c.args.b c.args.e c.index-sites-b.result c.index-exit.result.now read.0 read.1 in
    let low = slice_get_within c.args.sites.now c.args.b c.index-sites-b.result read.0 in
    let goes = goes_as c.args.sites.now c.args.b c.args.e c.index-sites-b.result c.index-exit.result.now read.0 read.1 in
    let z = goes_later c.args.sites.now c.args.aim.scope c.args.aim.target c.lands.result c.args.b c.in-Goes.m c.index-exit.result.now c.answer.result c.answer.ensures c.in-Goes.is c.lands.ensures range goes in
    record {
      gives = follows_goes c.args.sites.now c.args.aim.scope c.args.aim.target c.args.places.now c.args.b c.args.e c.index-sites-b.result c.index-exit.result.now read.0 read.1 range c.lands.result c.lands.ensures c.answer.result c.answer.ensures
          c.args.nodes.now.items c.in-Goes.m (get_or c.args.places.now c.in-Goes.m 0) c.in-Goes.is refl;
      sound = goes_fits c.args.sites.now c.args.aim.scope c.args.aim.target c.args.nodes.now.items c.args.places.now c.args.b c.in-Goes.m (get_or c.args.places.now c.in-Goes.m 0) refl low z.0 (subst (λ (n : ℕ). c.in-Goes.m < n) (sym c.requires.places) z.0) z.1 z.2
          c.requires.sound c.requires.fit;
    }

pub returns-in-Nothing : goal.returns-in-Nothing
returns-in-Nothing c =
    let read = exit_read c.args.sites.now c.args.aim.scope c.args.b c.args.e c.index-sites-b.result c.index-exit.result.now c.requires.exit c.index-sites-b.is c.index-exit.ensures in
    let range = exit_range c.args.sites.now c.requires.range c.args.b c.args.e c.index-sites-b.result c.index-exit.result.now read.0 read.1 in
    record {
      gives = follows_nothing c.args.sites.now c.args.aim.scope c.args.aim.target c.args.places.now c.args.b c.args.e c.index-sites-b.result c.index-exit.result.now read.0 read.1 range c.lands.result c.lands.ensures c.answer.result c.answer.ensures
          c.args.nodes.now.items c.in-Nothing.is c.requires.nothing;
      sound = nothing_fits c.args.sites.now c.args.aim.scope c.args.aim.target c.args.nodes.now.items c.args.b c.requires.nothing c.requires.sound;
    }
