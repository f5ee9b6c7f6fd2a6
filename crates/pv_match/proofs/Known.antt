-- Known matches with the classes of now, each once.
use Rattle.std.specs.Prelude.{◌≡◌, ℕ, zero, suc, List, [], ◌∷◌}
use Rattle.std.specs.List.{Any, Contains}
use Rattle.std.specs.declared.cmp.Ordering.TheVariants.{Equal}
use Rattle.std.proofs.Common.{inl, inr, sym, ◌∙◌, arith}
use Rattle.pv_graph.specs.Walks.{In}
use Rattle.pv_match.specs.declared.found.Match.{Match}
use Rattle.pv_match.specs.Orders.{match_cmp}
use Rattle.pv_match.specs.Rematching.{AreRenumbered, IsRenumbered}
use Rattle.pv_match.proofs.Ordered.{ordered}

in_of : {X : Type 0} (xs : List X) (x : X) → Contains xs x → In xs x
in_of {X} [] x h = absurd (omega (arith, h.1))
in_of {X} (y ∷ ys) x (zero, l, e) = inl e
in_of {X} (y ∷ ys) x (suc k, l, e) = inr (in_of ys x (k, omega arith, e))

of_in : {X : Type 0} (xs : List X) (x : X) → In xs x → Contains xs x
of_in {X} [] x h = absurd h
of_in {X} (y ∷ ys) x (inl e) = (zero, omega arith, e)
of_in {X} (y ∷ ys) x (inr h) = let r = of_in ys x h in let l = r.1 in (suc r.0, omega arith, r.2)

-- a match that is one with a renumbered one is renumbered too
renumbered_as : (numbers : List ℕ) (x y z : Match) → match_cmp y z ≡ Equal → IsRenumbered numbers x y → IsRenumbered numbers x z
renumbered_as numbers x y z e is =
    let one = (ordered.exact y z).0 e in
    record { number = sym one.0 ∙ is.number; params = sym one.1 ∙ is.params; classes = sym one.2 ∙ is.classes }

pub renumbered_once : (numbers : List ℕ) (known list once : List Match) → AreRenumbered numbers known list → ((x : Match) → Contains once x → Contains list x) → ((x : Match) → Contains list x → Any (λ y. match_cmp x y ≡ Equal) once)
    → AreRenumbered numbers known once
renumbered_once numbers known list once are within kept = record {
  each = λ y i. are.each y (in_of list y (within y (of_in once y i)));
  all = λ x i.
      let y = are.all x i in
      let z = kept y.0 (of_in list y.0 y.1) in
      (z.1, in_of once z.1 (z.0, z.2, z.3), renumbered_as numbers x y.0 z.1 z.4 y.2);
}
