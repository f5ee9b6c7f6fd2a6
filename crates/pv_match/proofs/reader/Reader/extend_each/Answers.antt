use Rattle.std.proofs.Common.{refl, ◌≡◌, ℕ, OnOk, length, sym, subst}
use Rattle.pv_pattern.specs.declared.pattern.Each.{Each}
use Rattle.pv_pattern.specs.declared.pattern.Each.TheVariants.{Bare, Shifted, Evaluated}
use Rattle.pv_pattern.specs.Patterns.{over_each}
use Rattle.pv_pattern.specs.Binding.{names}
use Rattle.pv_pattern.specs.Seen.{each_seen}
use Rattle.pv_match.specs.Standing.{StandsIn}
use Rattle.pv_match.specs.Bindings.{AddsWhere, IsRead}
use Rattle.pv_match.specs.Reading.{reads}
use Rattle.pv_match.proofs.reader.Reader.extend_each.Goals as goal

not_bare : (x : Each) (n which : ℕ) → (x ≡ Bare → ⊥) → IsRead n (over_each which (each_seen x)) → ⊥
not_bare Bare n which not read = not refl
not_bare Shifted n which not read = absurd (let e = read.1 in cc)
not_bare (Evaluated j) n which not read = absurd (let e = read.1 in cc)

pub returns-in-Bare : goal.returns-in-Bare
returns-in-Bare c =
    subst (λ (x : Each). OnOk c.extend_family.result (AddsWhere c.args.self.now.graph.now c.args.self.now.numbers.now c.args.found.now.items c.extend_family.new.found.items c.args.from.now (λ m. StandsIn c.args.self.now.graph.now c.args.self.now.numbers.now m (over_each c.args.which (each_seen x)) c.args.class) (names (over_each c.args.which (each_seen x))) (reads (length c.args.from.now.vars.items) (over_each c.args.which (each_seen x)))))
    (sym c.in-Bare.is) c.extend_family.ensures

pub returns-in_default : goal.returns-in_default
returns-in_default c = absurd (not_bare c.args.each (length c.args.from.now.vars.items) c.args.which c.in_default.not-Bare c.requires.read)
