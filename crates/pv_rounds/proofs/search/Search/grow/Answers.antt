use Rattle.std.proofs.Common.{ℕ, List, Some, map, length, refl, sym, ◌∙◌, subst}
use Rattle.pv_heights.specs.Searches.{OneClass}
use Rattle.pv_instances.specs.Classes.{JoinedHaveOneSort}
use Rattle.pv_witness.specs.Numbered.{numbered}
use Rattle.pv_saturate.specs.declared.decoding.Decoded.{Decoded}
use Rattle.pv_saturate.specs.Decoding.{decoded_seen}
use Rattle.pv_rounds.specs.declared.owed.Owed.{Owed}
use Rattle.pv_rounds.specs.Last.{Keeps}
use Rattle.pv_rounds.specs.Owed.{AreMatches}
use Rattle.pv_rounds.specs.Joining.{AreWithin, JoinsAll}
use Rattle.pv_rounds.specs.Searching.{axioms_of}
use Rattle.pv_rounds.proofs.Leaving.{stand_or_are}
use Rattle.pv_rounds.proofs.Searching.{readable, are_shown, all_decoded, sorts_numbered, are_matches, adds_here, first_known, sides_within, next_search}
use Rattle.pv_rounds.proofs.search.Search.grow.Goals as goal

pub new_matches-requires-clause-readable : goal.new_matches-requires-clause-readable
new_matches-requires-clause-readable c = let (g, k, is) = c.requires.begun in readable g k c.args.self.now is

pub new_matches-requires-clause-once : goal.new_matches-requires-clause-once
new_matches-requires-clause-once c = let (g, k, is) = c.requires.begun in is.table_.once

pub new_matches-requires-clause-shown : goal.new_matches-requires-clause-shown
new_matches-requires-clause-shown c =
    let s = c.args.self.now in
    are_shown s.graph s.classes.numbers s.endings.items (axioms_of s) c.args.list.now c.requires.all

pub add_all-requires-clause-sorts : goal.add_all-requires-clause-sorts
add_all-requires-clause-sorts c =
    let (g, k, is) = c.requires.begun in
    let s = c.args.self.now in
    subst (λ (ns : List ℕ). JoinedHaveOneSort (numbered s.graph ns) (OneClass ns)) (sym (c.deref-3.ensures.value ∙ c.in_ok-numbers.ensures)) (sorts_numbered g k s is)

pub add_all-requires-clause-matches : goal.add_all-requires-clause-matches
add_all-requires-clause-matches c =
    let (g, k, is) = c.requires.begun in
    let s = c.args.self.now in
    let ds = c.in_ok-new.new.items in
    let known = stand_or_are s.graph s.classes.numbers (axioms_of s) c.known.result.now c.known.ensures c.args.list.now (map decoded_seen ds) c.in_ok-new.ensures.leaves in
    let are = are_matches g k s is known.all (map decoded_seen ds) (all_decoded g k s is c.args.list.now known.all c.requires.all known.decoded) known.among in
    subst (λ (ns : List ℕ). AreMatches (numbered s.graph ns) ns c.deref-4.result.now (map decoded_seen c.deref-5.result.now)) (sym (c.deref-3.ensures.value ∙ c.in_ok-numbers.ensures))
    (subst (λ (es : List ℕ). AreMatches (numbered s.graph s.classes.numbers) s.classes.numbers es (map decoded_seen c.deref-5.result.now)) (sym c.deref-4.ensures.value)
    (subst (λ (xs : List Decoded). AreMatches (numbered s.graph s.classes.numbers) s.classes.numbers s.endings.items (map decoded_seen xs)) (sym c.deref-5.ensures.value) are))

pub grow-requires : goal.grow-requires
grow-requires c =
    let (g, k, is) = c.requires.begun in
    let s = c.args.self.now in
    let ds = c.in_ok-new.new.items in
    let adds = adds_here s.graph c.add_all.new.graph s.classes.numbers c.deref-3.result.now s.endings.items c.deref-4.result.now ds c.deref-5.result.now c.in_ok-owed.owed.items (c.deref-3.ensures.value ∙ c.in_ok-numbers.ensures) c.deref-4.ensures.value c.deref-5.ensures.value c.in_ok-owed.ensures in
    first_known g k s is c.add_all.new.graph (map decoded_seen ds) c.in_ok-owed.owed.items adds

pub join_all-requires-clause-within : goal.join_all-requires-clause-within
join_all-requires-clause-within c =
    let (g, k, is) = c.requires.begun in
    let s = c.args.self.now in
    let ds = c.in_ok-new.new.items in
    let adds = adds_here s.graph c.add_all.new.graph s.classes.numbers c.deref-3.result.now s.endings.items c.deref-4.result.now ds c.deref-5.result.now c.in_ok-owed.owed.items (c.deref-3.ensures.value ∙ c.in_ok-numbers.ensures) c.deref-4.ensures.value c.deref-5.ensures.value c.in_ok-owed.ensures in
    subst (λ (os : List Owed). AreWithin (length c.grow.new.self.numbers) os) (sym c.deref-6.ensures.value) (sides_within g k s is c.add_all.new.graph (map decoded_seen ds) c.in_ok-owed.owed.items adds c.grow.new.self c.in_ok-grow.ensures)

pub returns-clause-goes : goal.returns-clause-goes
returns-clause-goes c =
    let s = c.args.self.now in
    let ds = c.in_ok-new.new.items in
    let owed : List Owed = c.in_ok-owed.owed.items in
    let adds = adds_here s.graph c.add_all.new.graph s.classes.numbers c.deref-3.result.now s.endings.items c.deref-4.result.now ds c.deref-5.result.now owed (c.deref-3.ensures.value ∙ c.in_ok-numbers.ensures) c.deref-4.ensures.value c.deref-5.ensures.value c.in_ok-owed.ensures in
    let keeps : Keeps s.graph s.classes.numbers s.marks.items c.args.list.now c.in_ok-last.last =
    subst (λ (ns : List ℕ). Keeps s.graph ns s.marks.items c.args.list.now c.in_ok-last.last) (c.deref.ensures.value ∙ c.in_ok-numbers.ensures)
    (subst (λ (ms : List ℕ). Keeps s.graph c.deref.result.now ms c.args.list.now c.in_ok-last.last) c.deref-2.ensures.value c.in_ok-last.ensures) in
    let joined : JoinsAll c.grow.new.self c.join_all.new.classes owed = subst (λ (os : List Owed). JoinsAll c.grow.new.self c.join_all.new.classes os) c.deref-6.ensures.value c.in_ok-join_all.ensures in
    record {
      next = λ g k is.
          next_search g k s (record { graph = c.add_all.new.graph; classes = c.induct.new.c; table = s.table; endings = s.endings; marks = s.marks; budget = s.budget; last = Some c.in_ok-last.last }) is (map decoded_seen ds) owed c.grow.new.self c.join_all.new.classes c.in_ok-induct.field-0
          c.len-here.ensures.graph adds c.in_ok-grow.ensures joined c.in_ok-induct.ensures c.args.list.now c.requires.all
          (stand_or_are s.graph s.classes.numbers (axioms_of s) c.known.result.now c.known.ensures c.args.list.now (map decoded_seen ds) c.in_ok-new.ensures.leaves) c.in_ok-last.last keeps refl refl refl refl;
      table_ = refl;
      endings_ = refl;
      budget_ = refl;
    }

pub returns-clause-made : goal.returns-clause-made
returns-clause-made c =
    let s = c.args.self.now in
    let ds = c.in_ok-new.new.items in
    let owed : List Owed = c.in_ok-owed.owed.items in
    record {
      seen = numbered s.graph s.classes.numbers;
      numbers = s.classes.numbers;
      matches = map decoded_seen ds;
      owed = owed;
      grown = c.grow.new.self;
      joined = c.join_all.new.classes;
      found = c.in_ok-induct.field-0;
      adds = adds_here s.graph c.add_all.new.graph s.classes.numbers c.deref-3.result.now s.endings.items c.deref-4.result.now ds c.deref-5.result.now owed (c.deref-3.ensures.value ∙ c.in_ok-numbers.ensures) c.deref-4.ensures.value c.deref-5.ensures.value c.in_ok-owed.ensures;
      grows = c.in_ok-grow.ensures;
      joins = subst (λ (os : List Owed). JoinsAll c.grow.new.self c.join_all.new.classes os) c.deref-6.ensures.value c.in_ok-join_all.ensures;
      inducts = c.in_ok-induct.ensures;
    }
