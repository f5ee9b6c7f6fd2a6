use Rattle.std.proofs.Common.{◌≡◌, ◌<◌, ℕ, suc, ◌+◌, ◌-◌, List, [], ◌∷◌, ◌++◌, replicate, length, get_or, take, Some, slice_get, ◌∙◌, sym, ap, subst, refl, arith}
use Rattle.pv_decide.proofs.Words.{length-set, length-replicate, slice_get-get_or, TreeNode, first_of, AreSound, HasNothing, HasDead, IsPlace, IsWalk}
use Rattle.pv_decide.specs.declared.tree.TreeNode.TheVariants as node
use Rattle.pv_decide.proofs.Folding.{grows_dead}
use Rattle.pv_decide.proofs.Sound.{places_set, first_sound}
use Rattle.pv_decide.proofs.Following.{nothing_grows}
use Rattle.pv_decide.proofs.Cut.{cut_sound, length_cut}
use Rattle.pv_decide.proofs.Walked.{HasPlaces, no_places, places_outside, places_more, first_places, first_low, root_place, walked}
use Rattle.pv_decide.proofs.walking.walk.Goals as goal

pub loop-k-init : goal.loop-k-init
loop-k-init c =
    let nodes : c.push-2.new.self.items ≡ node.Nothing ∷ node.Dead ∷ [] =
    c.in_ok-push-2.ensures.items ∙ ap (λ (xs : List TreeNode). xs ++ node.Dead ∷ []) (c.in_ok-push.ensures.items ∙ ap (λ (xs : List TreeNode). xs ++ node.Nothing ∷ []) c.new-nodes.ensures.items) in
    let zeros : c.in_ok-places.places.items ≡ replicate (length c.args.sites.now) 0 = c.in_ok-places.ensures.items_if_clones_equal (λ y e. e) in
    let nothing : HasNothing c.push-2.new.self.items = subst HasNothing (sym nodes) refl in
    record {
      low = omega arith;
      places = ap length zeros ∙ length-replicate (length c.args.sites.now) 0;
      nothing = nothing;
      dead = subst HasDead (sym nodes) refl;
      sound = subst (AreSound c.args.sites.now c.args.aim.scope c.args.aim.target) (sym nodes) (first_sound c.args.sites.now c.args.aim.scope c.args.aim.target);
      fit = first_places c.args.sites.now c.args.aim.target c.push-2.new.self.items c.in_ok-places.places.items (length c.args.sites.now) nothing zeros;
      done = no_places c.args.sites.now c.args.aim.scope c.args.aim.target c.args.ahead.now c.requires.range c.args.order.now c.requires.order c.in_ok-places.places.items c.push-2.new.self.items (length c.args.order.now) (omega arith);
    }

pub is_inside-requires : goal.is_inside-requires
is_inside-requires c =
    let low : c.loop-k.k - 1 < length c.args.order.now = omega (arith, c.loop-k.invariant.low, c.loop-k-test.true) in
    c.requires.order.blocks (c.loop-k.k - 1) (get_or c.args.order.now (c.loop-k.k - 1) 0) (slice_get-get_or c.args.order.now (c.loop-k.k - 1) 0 low)

pub place_in-requires-clause-block : goal.place_in-requires-clause-block
place_in-requires-clause-block c =
    let low : c.loop-k.k - 1 < length c.args.order.now = omega (arith, c.loop-k.invariant.low, c.loop-k-test.true) in
    c.requires.order.blocks (c.loop-k.k - 1) (get_or c.args.order.now (c.loop-k.k - 1) 0) (slice_get-get_or c.args.order.now (c.loop-k.k - 1) 0 low)

pub index_mut-requires : goal.index_mut-requires
index_mut-requires c =
    let low : c.loop-k.k - 1 < length c.args.order.now = omega (arith, c.loop-k.invariant.low, c.loop-k-test.true) in
    let b = c.requires.order.blocks (c.loop-k.k - 1) (get_or c.args.order.now (c.loop-k.k - 1) 0) (slice_get-get_or c.args.order.now (c.loop-k.k - 1) 0 low) in
    let r : get_or c.args.order.now (c.loop-k.k - 1) 0 < c.loop-k.places.len = omega (arith, b, c.loop-k.places.ok, c.loop-k.invariant.places) in r

pub loop-k-preserved-then-is_inside : goal.loop-k-preserved-then-is_inside
loop-k-preserved-then-is_inside c =
    let one : c.loop-k.k ≡ suc (c.loop-k.k - 1) = omega (arith, c.loop-k-test.true) in
    let low : c.loop-k.k - 1 < length c.args.order.now = omega (arith, c.loop-k.invariant.low, c.loop-k-test.true) in
    let b : ℕ = get_or c.args.order.now (c.loop-k.k - 1) 0 in
    let at : slice_get c.args.order.now (c.loop-k.k - 1) ≡ Some b = slice_get-get_or c.args.order.now (c.loop-k.k - 1) 0 low in
    let in_places : b < length c.loop-k.places.items = subst (λ (n : ℕ). b < n) (sym c.loop-k.invariant.places) (c.requires.order.blocks (c.loop-k.k - 1) b at) in
    let p : IsPlace c.args.sites.now c.args.aim.scope c.args.aim.target c.args.ahead.now c.loop-k.places.items c.loop-k.nodes.items c.place_in.new.nodes.items b c.in_ok-places-2.field-0 =
    subst (λ (ps : List ℕ). IsPlace c.args.sites.now c.args.aim.scope c.args.aim.target c.args.ahead.now ps c.loop-k.nodes.items c.place_in.new.nodes.items b c.in_ok-places-2.field-0) c.deref.ensures.value c.in_ok-places-2.ensures.gives in
    record {
      low = omega (arith, c.loop-k.invariant.low);
      places = length-set c.loop-k.places.items b c.in_ok-places-2.field-0 ∙ c.loop-k.invariant.places;
      nothing = nothing_grows c.loop-k.nodes.items c.place_in.new.nodes.items p.0 c.loop-k.invariant.nothing;
      dead = grows_dead c.loop-k.nodes.items c.place_in.new.nodes.items p.0 c.loop-k.invariant.dead;
      sound = c.in_ok-places-2.ensures.sound.0;
      fit = places_set c.args.sites.now c.args.aim.scope c.args.aim.target c.loop-k.nodes.items c.place_in.new.nodes.items c.loop-k.places.items b c.in_ok-places-2.field-0 p.0 in_places c.loop-k.invariant.fit c.in_ok-places-2.ensures.sound.1;
      done = places_more c.args.sites.now c.args.aim.scope c.args.aim.target c.args.ahead.now c.requires.range c.args.order.now c.requires.order c.loop-k.places.items c.loop-k.nodes.items c.place_in.new.nodes.items c.loop-k.k (c.loop-k.k - 1) b c.in_ok-places-2.field-0
          one at in_places p c.loop-k.invariant.done;
    }

pub loop-k-preserved : goal.loop-k-preserved
loop-k-preserved c =
    let one : c.loop-k.k ≡ suc (c.loop-k.k - 1) = omega (arith, c.loop-k-test.true) in
    let low : c.loop-k.k - 1 < length c.args.order.now = omega (arith, c.loop-k.invariant.low, c.loop-k-test.true) in
    record {
      low = omega (arith, c.loop-k.invariant.low);
      places = c.loop-k.invariant.places;
      nothing = c.loop-k.invariant.nothing;
      dead = c.loop-k.invariant.dead;
      sound = c.loop-k.invariant.sound;
      fit = c.loop-k.invariant.fit;
      done = places_outside c.args.sites.now c.args.aim.scope c.args.aim.target c.args.ahead.now c.requires.range c.args.order.now c.requires.order c.loop-k.places.items c.loop-k.nodes.items c.loop-k.k (c.loop-k.k - 1) (get_or c.args.order.now (c.loop-k.k - 1) 0)
          one (slice_get-get_or c.args.order.now (c.loop-k.k - 1) 0 low) (λ i. let e = c.is_inside.ensures.1 i in let d = c.if-is_inside.false in cc) c.loop-k.invariant.done;
    }

pub returns : goal.returns
returns c =
    let z : c.loop-k.k ≡ 0 = omega (arith, c.loop-k-test.false) in
    let first : first_of c.args.aim.scope < length c.loop-k.places.items =
    subst (λ (n : ℕ). first_of c.args.aim.scope < n) (sym c.loop-k.invariant.places) (first_low c.args.sites.now c.args.aim.scope c.requires.range c.requires.scope) in
    let same = root_place c.loop-k.places.items c.first.result (first_of c.args.aim.scope) c.index.result.now c.first.ensures c.index.ensures (subst (λ (n : ℕ). n < length c.loop-k.places.items) (sym c.first.ensures) first) in
    let root : c.index.result.now < length c.loop-k.nodes.items = subst (λ (n : ℕ). n < length c.loop-k.nodes.items) same (c.loop-k.invariant.fit (first_of c.args.aim.scope) first).0 in
    let w = walked c.args.sites.now c.args.aim.scope c.args.aim.target c.args.ahead.now c.requires.range c.args.order.now c.requires.order c.loop-k.places.items c.loop-k.nodes.items c.requires.scope c.loop-k.invariant.sound (c.loop-k.invariant.fit (first_of c.args.aim.scope) first).0
    (subst (λ (k : ℕ). HasPlaces c.args.sites.now c.args.order.now c.args.aim.scope c.args.aim.target c.args.ahead.now c.loop-k.places.items c.loop-k.nodes.items k) z c.loop-k.invariant.done) in
    record {
      gives = subst (λ (nodes : List TreeNode). IsWalk c.args.sites.now c.args.aim.scope c.args.aim.target c.args.ahead.now nodes) (ap (λ (n : ℕ). take (n + 1) c.loop-k.nodes.items) same ∙ sym c.truncate.ensures.items) w;
      sound = subst (AreSound c.args.sites.now c.args.aim.scope c.args.aim.target) (sym c.truncate.ensures.items) (cut_sound c.args.sites.now c.args.aim.scope c.args.aim.target c.loop-k.nodes.items (c.index.result.now + 1) c.loop-k.invariant.sound);
      root =
          let l : length (take (suc c.index.result.now) c.loop-k.nodes.items) ≡ suc c.index.result.now = length_cut c.loop-k.nodes.items c.index.result.now root in
          let e : c.index.result.now + 1 ≡ suc c.index.result.now = omega arith in
          let t : length c.truncate.new.self.items ≡ suc c.index.result.now = ap length c.truncate.ensures.items ∙ ap (λ (n : ℕ). length (take n c.loop-k.nodes.items)) e ∙ l in
          omega (arith, t);
    }
