use Rattle.std.proofs.Common.{◌≡◌, ℕ, List, sym, ◌∙◌, subst}
use Rattle.pv_marks.specs.Marks.{AreNodeMarks, AreClassMarks}
use Rattle.pv_match.specs.declared.found.Match.{Match}
use Rattle.pv_match.specs.Kept.{KeepsForms}
use Rattle.pv_match.specs.Rematching.{CanTakeOver}
use Rattle.pv_match.proofs.Cited.{firsts_keep}
use Rattle.pv_touched.specs.Earlier.{IsNow, WasSeen}
use Rattle.pv_rounds.specs.Searching.{axioms_of}
use Rattle.pv_rounds.proofs.Searching.{readable, congruence, least_numbers, marks_here}
use Rattle.pv_rounds.proofs.search.Search.matches_since.Goals as goal

pub touched-requires-clause-readable : goal.touched-requires-clause-readable
touched-requires-clause-readable g c = let (least, k, is) = c.requires.begun in readable least k c.args.self.now is

pub touched-requires-clause-kept : goal.touched-requires-clause-kept
touched-requires-clause-kept g c =
    let (least, k, is) = c.requires.begun in
    let s = c.args.self.now in
    subst (λ (ns : List ℕ). KeepsForms s.graph ns c.deref-7.result.now) (sym (c.deref-5.ensures.value ∙ c.in_ok-numbers.ensures))
    (subst (KeepsForms s.graph s.classes.numbers) (sym c.deref-7.ensures.value)
    (firsts_keep s.graph s.classes.numbers c.in_ok-kept.kept.items c.in_ok-kept.ensures))

pub rematch-requires-clause-congruence : goal.rematch-requires-clause-congruence
rematch-requires-clause-congruence g c κs within = let (least, k, is) = c.requires.begun in congruence least k c.args.self.now is

pub rematch-requires-clause-readable : goal.rematch-requires-clause-readable
rematch-requires-clause-readable g c κs within = let (least, k, is) = c.requires.begun in readable least k c.args.self.now is

pub rematch-requires-clause-once : goal.rematch-requires-clause-once
rematch-requires-clause-once g c κs within = let (least, k, is) = c.requires.begun in is.table_.once

pub returns : goal.returns
returns g c =
    let (least, k, is) = c.requires.begun in
    let s = c.args.self.now in
    let l = c.args.last.now in
    let ends : List ℕ = s.endings.items in
    let base : AreNodeMarks s.graph ends s.marks.items = marks_here least k s is in
    let numbers : c.deref-5.result.now ≡ s.classes.numbers = c.deref-5.ensures.value ∙ c.in_ok-numbers.ensures in
    let marked : AreClassMarks s.graph s.classes.numbers ends c.in_ok-marks.marks.items =
    subst (λ (ns : List ℕ). AreClassMarks s.graph ns ends c.in_ok-marks.marks.items) (c.deref.ensures.value ∙ c.in_ok-numbers.ensures) (c.in_ok-marks.ensures ends (subst (AreNodeMarks s.graph ends) (sym c.deref-2.ensures.value) base)) in
    let now_ : IsNow s.graph c.deref-5.result.now ends c.deref-6.result.now =
    subst (IsNow s.graph c.deref-5.result.now ends) (sym c.deref-6.ensures.value)
    (subst (λ (ns : List ℕ). IsNow s.graph ns ends c.in_ok-marks.marks.items) (sym numbers) (record { least = least_numbers least k s is; marks_ = marked })) in
    let (earlier, was, stand) = c.requires.last in
    let seen : WasSeen earlier s.graph c.deref-5.result.now ends (axioms_of s) (record { numbers = c.deref-3.result.now; marks_ = c.deref-4.result.now; known = c.deref-9.result.now }) =
    subst (λ (ns : List ℕ). WasSeen earlier s.graph ns ends (axioms_of s) (record { numbers = c.deref-3.result.now; marks_ = c.deref-4.result.now; known = c.deref-9.result.now })) (sym numbers)
    (subst (λ (xs : List ℕ). WasSeen earlier s.graph s.classes.numbers ends (axioms_of s) (record { numbers = xs; marks_ = c.deref-4.result.now; known = c.deref-9.result.now })) (sym c.deref-3.ensures.value)
    (subst (λ (ms : List ℕ). WasSeen earlier s.graph s.classes.numbers ends (axioms_of s) (record { numbers = l.numbers.items; marks_ = ms; known = c.deref-9.result.now })) (sym c.deref-4.ensures.value)
    (subst (λ (xs : List Match). WasSeen earlier s.graph s.classes.numbers ends (axioms_of s) (record { numbers = l.numbers.items; marks_ = l.marks.items; known = xs })) (sym c.deref-9.ensures.value) was))) in
    let can : CanTakeOver s.graph s.classes.numbers ends (axioms_of s) c.deref-9.result.now c.deref-10.result.now =
    subst (λ (ns : List ℕ). CanTakeOver s.graph ns ends (axioms_of s) c.deref-9.result.now c.deref-10.result.now) numbers
    (subst (CanTakeOver s.graph c.deref-5.result.now ends (axioms_of s) c.deref-9.result.now) (sym c.deref-10.ensures.value) (c.in_ok-nodes.ensures earlier ends c.deref-9.result.now now_ seen)) in
    c.in_ok-answer.ensures ends (subst (AreNodeMarks s.graph ends) (sym c.deref-8.ensures.value) base) can
