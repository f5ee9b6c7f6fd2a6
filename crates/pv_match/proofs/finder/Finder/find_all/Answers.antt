use Rattle.std.proofs.Common.{◌≡◌, ℕ, List, length, map, ap, ◌∙◌, subst, rules, arith}
use Rattle.std.specs.Prelude.{Ok, IfOk, Result, slice_get, slice_index_or, Some}
use Rattle.std.proofs.lemmas.Option.{slice_get_within, get_or_from_slice_get}
use Rattle.pv_pattern.specs.Seen.{axiom_seen}
use Rattle.pv_pieces.specs.Cut.{joined, nth_piece}
use Rattle.pv_match.specs.declared.gathered.Gathered.{Gathered}
use Rattle.pv_match.specs.Gathering.{AreParts, Finds}
use Rattle.pv_match.specs.Finding.{HasGathered}
use Rattle.pv_match.proofs.Parts.{whole_items}
use Rattle.pv_match.proofs.finder.Finder.find_all.Goals as goal

-- what is known of a part that isn't out of memory
part_of : {E : Type 0} (P : Gathered → Type 0) (parts : List (Result Gathered E)) (k : ℕ) (got : Gathered) → slice_get parts k ≡ Some (Ok got) → IfOk (slice_index_or parts k (Ok got)) P → P got
part_of P parts k got at met = subst (λ (r : Result Gathered _). IfOk r P) (get_or_from_slice_get parts k (Ok got) (Ok got) at) met

pub returns-clause-found : goal.returns-clause-found
returns-clause-found g c assumed marks =
    let it = c.args.self.now in
    let w = c.count-count.result in
    let count : length c.in_ok-parts.parts.items ≡ w = search rules in
    let are : AreParts it.reader.graph.now it.reader.numbers.now assumed (map axiom_seen it.table.now) it.limit (nth_piece c.args.items.now w) c.in_ok-parts.parts.items =
    λ k got at. part_of
    (HasGathered it (nth_piece c.args.items.now w k))
    c.in_ok-parts.parts.items k got at
    (c.in_ok-parts.ensures.each k (Ok got) (let low = slice_get_within c.in_ok-parts.parts.items k (Ok got) at in omega (arith, low, count))).1.met
    assumed marks in
    let whole : joined (nth_piece c.args.items.now w) (length c.in_ok-parts.parts.items) ≡ c.args.items.now = ap (λ k. joined (nth_piece c.args.items.now w) k) count ∙ whole_items c.args.items.now w c.count-count.ensures.some in
    subst (λ (ns : List ℕ). Finds it.reader.graph.now it.reader.numbers.now assumed (map axiom_seen it.table.now) it.limit ns c.in_ok-got.got.is_over c.in_ok-got.got.list.items) whole
    (c.in_ok-got.ensures.found it.reader.graph.now it.reader.numbers.now assumed (map axiom_seen it.table.now) (nth_piece c.args.items.now w) c.requires.ready.readable are)
