use Rattle.std.proofs.Common.{ℕ, List, sym, ◌∙◌, subst, true≢false}
use Rattle.pv_heights.specs.Searches.{base_view, AtLeastAt}
use Rattle.pv_match.specs.declared.found.Match.{Match}
use Rattle.pv_match.specs.declared.found.Matches.{Matches}
use Rattle.pv_match.specs.declared.found.Matches.TheVariants.{All, More}
use Rattle.pv_match.specs.AllMatches.{AreAllMatches, IsAnswer}
use Rattle.pv_rounds.specs.Searching.{axioms_of}
use Rattle.pv_rounds.proofs.Searching.{not_over}
use Rattle.pv_rounds.proofs.search.Search.look.Goals as goal

pub is_saturated-requires-clause-all : goal.is_saturated-requires-clause-all
is_saturated-requires-clause-all g c =
    let (least, k, is) = c.requires in
    let s = c.args.self.now in
    let answer : IsAnswer s.graph s.classes.numbers s.endings.items (axioms_of s) s.budget (All c.in-All.list) =
    subst (λ (a : Matches). IsAnswer s.graph s.classes.numbers s.endings.items (axioms_of s) s.budget a) c.in-All.is c.in_ok-n.ensures in
    subst (λ (list : List Match). AreAllMatches s.graph s.classes.numbers s.endings.items (axioms_of s) list) (sym c.deref.ensures.value) answer.0

pub returns-in-More : goal.returns-in-More
returns-in-More g c =
    let (least, k, is) = c.requires in
    let s = c.args.self.now in
    let answer : IsAnswer s.graph s.classes.numbers s.endings.items (axioms_of s) s.budget (More c.in-More.n) =
    subst (λ (a : Matches). IsAnswer s.graph s.classes.numbers s.endings.items (axioms_of s) s.budget a) c.in-More.is c.in_ok-n.ensures in
    (answer.0, subst (λ (n : ℕ). AtLeastAt (base_view s.graph) s.endings.items (axioms_of s) s.graph s.classes.numbers n) answer.0 answer.1)

pub returns-then-branch : goal.returns-then-branch
returns-then-branch g c =
    let (least, k, is) = c.requires in
    let s = c.args.self.now in
    let answer : IsAnswer s.graph s.classes.numbers s.endings.items (axioms_of s) s.budget (All c.in-All.list) =
    subst (λ (a : Matches). IsAnswer s.graph s.classes.numbers s.endings.items (axioms_of s) s.budget a) c.in-All.is c.in_ok-n.ensures in
    (not_over least k s is c.in-All.list.items answer.0 answer.1, c.in_ok-is_saturated-in-All.ensures.0 c.if-branch.true)

pub returns-else-branch : goal.returns-else-branch
returns-else-branch g c =
    let (least, k, is) = c.requires in
    let s = c.args.self.now in
    let answer : IsAnswer s.graph s.classes.numbers s.endings.items (axioms_of s) s.budget (All c.in-All.list) =
    subst (λ (a : Matches). IsAnswer s.graph s.classes.numbers s.endings.items (axioms_of s) s.budget a) c.in-All.is c.in_ok-n.ensures in
    (not_over least k s is c.in-All.list.items answer.0 answer.1, (λ sat. true≢false (sym (c.in_ok-is_saturated-in-All.ensures.1 sat) ∙ c.if-branch.false)), answer.0)
