use Rattle.std.proofs.Common.{◌≡◌, ◌≢◌, ◌<◌, true, false, Some, slice_get, length, ◌⊎◌, inl, inr, ◌∙◌, ap, rules, arith}
use Rattle.pv_decide.proofs.Words.{slice_get-get_or}
use Rattle.pv_decide.specs.declared.tree.Target.TheVariants as target
use Rattle.pv_decide.proofs.Sound.{dead_fits}
use Rattle.pv_decide.proofs.Walked.{place_dead, place_alive_ok}
use Rattle.pv_decide.proofs.walking.place_in.Goals as goal
use Rattle.pv_decide.proofs.walking.place_in.Goals.{then-eq-via-then-eq, then-eq-via-else-eq+then-ahead-b}

pub returns : goal.returns
returns c =
    let ne : c.args.aim.target ≢ target.Leave = search rules in
    let low : c.args.b < length c.args.ahead.now = omega arith in
    record {
      sound = dead_fits c.args.sites.now c.args.aim.scope c.args.aim.target c.args.nodes.now.items c.args.b c.requires.dead c.requires.sound;
      gives = place_dead c.args.sites.now c.args.aim.scope c.args.aim.target c.args.ahead.now c.requires.range c.args.places.now c.args.nodes.now.items c.args.b c.requires.block ne
          (slice_get-get_or c.args.ahead.now c.args.b false low ∙ ap Some c.if-ahead-b.false) c.requires.dead;
    }

pub returns-then-eq : goal.returns-then-eq
returns-then-eq c =
    let low : c.args.b < length c.args.ahead.now = omega arith in
    let why : (c.args.aim.target ≡ target.Leave) ⊎ (slice_get c.args.ahead.now c.args.b ≡ Some true) = elim c.then-eq.branch [
      | then-eq-via-then-eq w ↦ inl (search rules)
      | then-eq-via-else-eq+then-ahead-b w ↦ inr (slice_get-get_or c.args.ahead.now c.args.b false low ∙ ap Some w.if-ahead-b.true)
    ] in
    record {
      sound = c.block_place.ensures.sound;
      gives = place_alive_ok c.args.sites.now c.args.aim.scope c.args.aim.target c.args.ahead.now c.requires.range c.args.places.now c.args.nodes.now.items c.block_place.new.nodes.items c.args.b c.block_place.result c.requires.block why c.block_place.ensures.gives;
    }
