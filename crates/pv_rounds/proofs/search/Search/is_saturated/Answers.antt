use Rattle.std.proofs.Common.{◌↔◌, Bool, List, IsTrue, map, inl, inr, sym, subst}
use Rattle.pv_instances.proofs.Cited.{if_ok_more}
use Rattle.pv_saturate.specs.declared.decoding.Decoded.{Decoded}
use Rattle.pv_saturate.specs.Decoding.{decoded_seen}
use Rattle.pv_rounds.specs.Standing.{AllStand, AreOver}
use Rattle.pv_rounds.specs.Searching.{axioms_of, IsSaturatedNow}
use Rattle.pv_rounds.proofs.Leaving.{stand_or_are}
use Rattle.pv_rounds.proofs.Searching.{readable, are_shown, congruence, all_decoded, are_over, saturated_by}
use Rattle.pv_rounds.proofs.search.Search.is_saturated.Goals as goal

pub new_matches-requires-clause-readable : goal.new_matches-requires-clause-readable
new_matches-requires-clause-readable c = let (g, k, is) = c.requires.begun in readable g k c.args.self.now is

pub new_matches-requires-clause-once : goal.new_matches-requires-clause-once
new_matches-requires-clause-once c = let (g, k, is) = c.requires.begun in is.table_.once

pub new_matches-requires-clause-shown : goal.new_matches-requires-clause-shown
new_matches-requires-clause-shown c =
    let s = c.args.self.now in
    are_shown s.graph s.classes.numbers s.endings.items (axioms_of s) c.args.list.now c.requires.all

pub all_stand-requires-clause-congruence : goal.all_stand-requires-clause-congruence
all_stand-requires-clause-congruence c = let (g, k, is) = c.requires.begun in congruence g k c.args.self.now is

pub all_stand-requires-clause-over : goal.all_stand-requires-clause-over
all_stand-requires-clause-over c =
    let (g, k, is) = c.requires.begun in
    let s = c.args.self.now in
    let ds = c.in_ok-new.new.items in
    let known = stand_or_are s.graph s.classes.numbers (axioms_of s) c.known.result.now c.known.ensures c.args.list.now (map decoded_seen ds) c.in_ok-new.ensures.leaves in
    subst (λ (xs : List Decoded). AreOver s.graph (map decoded_seen xs)) (sym c.deref.ensures.value)
    (λ m i. are_over g k s is known.all (all_decoded g k s is c.args.list.now known.all c.requires.all known.decoded) m (known.among m i))

pub returns : goal.returns
returns c =
    let (g, k, is) = c.requires.begun in
    let s = c.args.self.now in
    let ds = c.in_ok-new.new.items in
    let known = stand_or_are s.graph s.classes.numbers (axioms_of s) c.known.result.now c.known.ensures c.args.list.now (map decoded_seen ds) c.in_ok-new.ensures.leaves in
    let sat = saturated_by g k s is known.all (all_decoded g k s is c.args.list.now known.all c.requires.all known.decoded) in
    if_ok_more c.all_stand.result (λ (yes : Bool). IsTrue yes ↔ AllStand s.graph s.classes.numbers (map decoded_seen c.deref.result.now)) (λ (yes : Bool). IsTrue yes ↔ IsSaturatedNow s)
    (λ yes p.
    let q : IsTrue yes ↔ AllStand s.graph s.classes.numbers (map decoded_seen ds) = subst (λ (es : List Decoded). IsTrue yes ↔ AllStand s.graph s.classes.numbers (map decoded_seen es)) c.deref.ensures.value p in (
      (λ y. sat.0 (λ m i. elim (known.rest m i) [ inl e ↦ e | inr j ↦ q.0 y m j ])),
      (λ z. q.1 (λ m i. sat.1 z m (known.among m i))),
    ))
    c.all_stand.ensures
