use Rattle.std.proofs.Common.{ℕ, List, sym, ◌∙◌, inl, inr, true, false, subst, take, get_or, true≢false}
use Rattle.std.proofs.lemmas.List.{take_more}
use Rattle.std.proofs.lemmas.Option.{same_Some}
use Rattle.pv_witness.proofs.Supporting.{mark_at}
use Rattle.pv_graph.proofs.Cited.{in_at, in_cases}
use Rattle.pv_graph.specs.Walks.{In}
use Rattle.pv_graph.specs.Reach.{IsMarked}
use Rattle.pv_marks.specs.Classes.{class_of}
use Rattle.pv_witness.proofs.supports.all_have.Goals as goal

pub bounds-numbers-kid : goal.bounds-numbers-kid
bounds-numbers-kid c = c.requires.kids _ (in_at c.args.kids.now c.loop-kid.kid-index 0 c.loop-kid-test.true)

pub bounds-has-numbers : goal.bounds-has-numbers
bounds-has-numbers c = c.requires.numbers _ (in_at c.args.kids.now c.loop-kid.kid-index 0 c.loop-kid-test.true)

pub returns-then-not-has-numbers : goal.returns-then-not-has-numbers
returns-then-not-has-numbers c =
    let here = in_at c.args.kids.now c.loop-kid.kid-index 0 c.loop-kid-test.true in
    let kid = get_or c.args.kids.now c.loop-kid.kid-index 0 in
    let no_mark = mark_at c.args.has.now (class_of c.args.numbers.now kid) false (c.requires.numbers kid here) c.if-not-has-numbers.true in
    (λ e. absurd (true≢false (sym e)), λ all. absurd (let yes_mark = all kid here in true≢false (same_Some true false (sym yes_mark ∙ no_mark))))

pub loop-kid-preserved : goal.loop-kid-preserved
loop-kid-preserved c k i =
    let kid = get_or c.args.kids.now c.loop-kid.kid-index 0 in
    elim (in_cases (take c.loop-kid.kid-index c.args.kids.now) kid k (subst (λ (xs : List ℕ). In xs k) (take_more c.args.kids.now c.loop-kid.kid-index 0 c.loop-kid-test.true) i)) [
      | inl old ↦ c.loop-kid.invariant k old
      | inr e ↦
          subst (λ (x : ℕ). IsMarked c.args.has.now (class_of c.args.numbers.now x)) e
          (mark_at c.args.has.now (class_of c.args.numbers.now kid) true (c.requires.numbers kid (in_at c.args.kids.now c.loop-kid.kid-index 0 c.loop-kid-test.true)) c.if-not-has-numbers.false)
    ]
