use Rattle.std.proofs.Common.{◌≡◌, ℕ, Vec, Option, MatchOption, false, map, take_all, ap, ◌∙◌, subst}
use Rattle.std.specs.declared.alloc.Global.{Global}
use Rattle.pv_pattern.specs.declared.names.NameId.TheVariants.{Operation}
use Rattle.pv_marks.specs.Classes.{class_of}
use Rattle.pv_match.specs.Parameters.{is_among}
use Rattle.pv_match.specs.Bindings.{IsPlace, bound}
use Rattle.pv_match.proofs.Finish.{kids_some, kids_none}
use Rattle.pv_match.proofs.reader.Reader.kid_classes.Goals as goal
use Rattle.pv_match.proofs.reader.Reader.kid_classes.Goals.{in-Some+else-loop-kid-test, in_default}

pub returns : goal.returns
returns c = elim c.match-place.branch [
  | in-Some+else-loop-kid-test w ↦
      kids_some c.args.self.now.graph.now c.args.self.now.numbers.now c.args.b.now w.in-Some.n c.match-place.classes.items
      (subst (λ (o : Option ℕ). MatchOption o (is_among (bound c.args.b.now) Operation ≡ false) (λ n. IsPlace c.args.b.now Operation n)) w.in-Some.is c.place.ensures)
      (ap (λ (v : Vec ℕ Global). v.items) w.classes-is ∙ (w.loop-kid.invariant ∙ (ap (map (class_of c.args.self.now.numbers.now)) (take_all w.loop-kid.kid-index w.kids_at-kid-items.result.now w.loop-kid-test.false) ∙ ap (map (class_of c.args.self.now.numbers.now)) w.kids_at-kid-items.ensures)))
  | in_default w ↦
      kids_none c.args.self.now.graph.now c.args.self.now.numbers.now c.args.b.now c.match-place.classes.items
      (subst (λ (o : Option ℕ). MatchOption o (is_among (bound c.args.b.now) Operation ≡ false) (λ n. IsPlace c.args.b.now Operation n)) w.in_default.is c.place.ensures)
      (ap (λ (v : Vec ℕ Global). v.items) w.classes-is ∙ c.new-classes.ensures.items)
]
