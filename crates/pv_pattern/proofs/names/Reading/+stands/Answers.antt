use Rattle.std.proofs.Common.{◌≡◌, rules, sym, subst}
use Rattle.pv_pattern.specs.Found.{names_of, view_of}
use Rattle.pv_pattern.specs.Instances.{Stands}
use Rattle.pv_pattern.specs.Patterns.{Pattern, over_each}
use Rattle.pv_pattern.specs.Seen.{each_seen, seen}
use Rattle.pv_pattern.specs.declared.pattern.Pattern.{the_lemmas}
use Rattle.pv_pattern.proofs.names.Reading.+stands.Goals as goal

pub stands-returns-in-OverEach : goal.stands-returns-in-OverEach
stands-returns-in-OverEach t c =
    let same : over_each c.in-OverEach.which (each_seen c.in-OverEach.each) ≡ seen c.args.pattern.now = rw c.in-OverEach.is (search (rules, the_lemmas)) in
    let At : Pattern → Type 0 = λ p. Stands (view_of c.args.self.now) (names_of c.args.self.now) p c.args.n in (
      λ yes. subst At same (c.is_over_each.ensures.0 yes),
      λ stands. c.is_over_each.ensures.1 (subst At (sym same) stands),
    )
