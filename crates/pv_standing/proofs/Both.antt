-- Whether both sides of an instance stand in one class.
use Rattle.std.proofs.Common.{◌≡◌, ℕ, Bool, false, Option, Some, None, ◌↔◌, IsTrue, refl, sym, ◌∙◌, subst}
use Rattle.std.proofs.lemmas.Option.{same_Some}
use Rattle.pv_graph.specs.Graphs.{Graph}
use Rattle.pv_pattern.specs.Patterns.{Pattern}
use Rattle.pv_classes.specs.Partition.{AreOne}
use Rattle.pv_classes.specs.Calls.{Classes}
use Rattle.pv_heights.specs.Filled.{Filled}
use Rattle.pv_heights.specs.Sides.{Match}
use Rattle.pv_heights.specs.Searches.{BothStand, nodes, IsNode, OneClass}
use Rattle.pv_standing.specs.Standing.{StandsAt, IsClassOfSide}
use Rattle.pv_standing.specs.Parts.{CanLook, StandsFilled}
use Rattle.pv_standing.proofs.Numbers.{one_class, one_number}
use Rattle.pv_standing.proofs.Standing.{stands_once, stands_on}

module _ (g : Graph) (c : Classes) (m : Match ℕ) where
  abbrev Both : Type 0
  Both = BothStand (nodes g) (IsNode g) (OneClass c.numbers) m

  -- where one side stands in no class, both stand in none
  pub no_left : (found : Option ℕ) → ((t : ℕ) → found ≡ Some t → ⊥) → IsClassOfSide g c.numbers m m.entry.left found → IsTrue false ↔ Both
  no_left (Some t) lacks none = absurd (lacks t refl)
  no_left None lacks none = (λ b. absurd (cc), λ h. absurd (none h.0 h.1 h.2))

  pub no_right : (found : Option ℕ) → ((t : ℕ) → found ≡ Some t → ⊥) → IsClassOfSide g c.numbers m m.entry.right found → IsTrue false ↔ Both
  no_right (Some t) lacks none = absurd (lacks t refl)
  no_right None lacks none = (λ b. absurd (cc), λ h. absurd (none h.0 h.1 h.3))

  module _ (can : CanLook g c m) where
    -- a side stands in one class
    at_once : (p : Pattern) (t u : ℕ) → StandsAt g c.numbers m p t → StandsAt g c.numbers m p u → OneClass c.numbers t u
    at_once p t u h k = stands_once g c m can h.0 t u h.2 (subst (λ (r : Filled). StandsFilled g c.numbers m r u) (same_Some k.0 h.0 (sym k.1 ∙ h.1)) k.2)

    -- .. so both stand in one class exactly where the classes in which they stand are one
    pub both : (l r : ℕ) (b : Bool) → IsClassOfSide g c.numbers m m.entry.left (Some l) → IsClassOfSide g c.numbers m m.entry.right (Some r) → IsTrue b ↔ AreOne c.numbers l r → IsTrue b ↔ Both
    both l r b left right says = (there, back)
      where
        there : IsTrue b → Both
        there y =
            let j = one_class g c can.knows r l right.0 left.0 (sym (says.0 y)) in
            (l, left.0, left.1, (right.1.0, right.1.1, stands_on g c m can right.1.0 r l j right.1.2))

        back : Both → IsTrue b
        back h =
            let k = at_once m.entry.left l h.0 left.1 h.2 in
            let n = at_once m.entry.right h.0 r h.3 right.1 in
            says.1 (one_number g c can.knows l r (can.congruence.chain l h.0 r k n))
