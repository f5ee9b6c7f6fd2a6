use Rattle.std.proofs.Common.{◌≡◌, ℕ, Bool, true, false, List, [], ◌∷◌, ◌++◌, map, Some, slice_get, suc, length}
use Rattle.std.specs.Bool.{OnTrue, OnFalse}
use Rattle.pv_graph.specs.Graphs.{Graph}
use Rattle.pv_pattern.specs.Patterns.{Axiom}
use Rattle.pv_pattern.specs.Seen.{axiom_seen}
use Rattle.pv_match.specs.declared.found.Match.{Match}
use Rattle.pv_match.specs.Reading.{AreReadable}
use Rattle.pv_match.specs.Finishing.{AreMatchesAt}
use Rattle.pv_match.specs.All.{AreMatchesWhere}
use Rattle.pv_match.specs.Gathering.{GathersSome, GathersAll, TriedAt, Tries}
use Rattle.pv_match.proofs.Listing.{axiom_there, axiom_past}
use Rattle.pv_match.proofs.Gathers.{place_in_list, tried_more, tried_none, too_many}
use Rattle.pv_match.proofs.finder.Finder.find_of.Goals as goal

pub returns-in_default-clause-found : goal.returns-in_default-clause-found
returns-in_default-clause-found c assumed before places marks is = (tt, tried_none c.args.self.now.reader.graph.now c.args.self.now.reader.numbers.now assumed (map axiom_seen c.args.self.now.table.now) before places c.args.n c.args.place c.args.found.now.keys (axiom_past c.args.self.now.table.now c.args.place c.in_default.ensures.lookup.0) is)

pub matches_at-requires-clause-readable : goal.matches_at-requires-clause-readable
matches_at-requires-clause-readable c = c.requires.ready.readable (axiom_seen c.in-Some.rule.now) (place_in_list (map axiom_seen c.args.self.now.table.now) c.args.place (axiom_seen c.in-Some.rule.now) (axiom_there c.args.self.now.table.now c.args.place c.in-Some.rule.now c.in-Some.ensures.lookup.0 c.in-Some.ensures.lookup.1))

tries : (g : Graph) (numbers assumed : List ℕ) (table : List Axiom) (limit : ℕ) (before places : List ℕ) (n i : ℕ) (a : Axiom) (is_over : Bool) (old more new : List Match) → AreReadable table → slice_get table i ≡ Some a → AreMatchesAt g numbers assumed a n more
    → OnTrue is_over ((length new ≡ suc limit) × GathersSome old more new) → OnFalse is_over (GathersAll old more new) → AreMatchesWhere g numbers assumed (TriedAt table before places n) old → Tries g numbers assumed table limit before (places ++ i ∷ []) n is_over new
tries g numbers assumed table limit before places n i a true old more new readable there at over all is = (too_many g numbers assumed table limit before places n a old more new readable (place_in_list table i a there) over.0 is at over.1, tt)
tries g numbers assumed table limit before places n i a false old more new readable there at over all is = (tt, tried_more g numbers assumed table before places n i a old more new there is at all)

of_pair : (b : Bool) (A B : Type 0) → OnFalse b (A × B) → OnFalse b B
of_pair true A B h = tt
of_pair false A B h = h.1

pub returns-clause-found : goal.returns-clause-found
returns-clause-found c assumed before places marks is =
    tries c.args.self.now.reader.graph.now c.args.self.now.reader.numbers.now assumed (map axiom_seen c.args.self.now.table.now) c.args.self.now.limit before places c.args.n c.args.place (axiom_seen c.in-Some.rule.now) c.in_ok-is_over.is_over c.args.found.now.keys c.in_ok-more.more.items c.gather.new.set.keys c.requires.ready.readable
    (axiom_there c.args.self.now.table.now c.args.place c.in-Some.rule.now c.in-Some.ensures.lookup.0 c.in-Some.ensures.lookup.1) (c.in_ok-more.ensures assumed marks) c.in_ok-is_over.ensures.over (of_pair c.in_ok-is_over.is_over _ _ c.in_ok-is_over.ensures.all) is
