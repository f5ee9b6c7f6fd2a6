-- What is known of a graph is known of one with the same nodes.
use Rattle.std.specs.Prelude.{◌≡◌, ◌⊎◌, ℕ, refl, List, [], ◌∷◌, ◌++◌, length, Some, slice_get}
use Rattle.std.proofs.Common.{inl, inr, sym, ap, ◌∙◌, subst, arith, length-append}
use Rattle.std.proofs.lemmas.Option.{slice_get_within}
use Rattle.pv_graph.specs.Graphs.{Graph}
use Rattle.pv_graph.specs.Calls.{IsSame}
use Rattle.pv_graph.proofs.Cited.{push_cases}
use Rattle.pv_heights.specs.Sides.{Match}
use Rattle.pv_heights.specs.Searches.{OneClass}
use Rattle.pv_instances.specs.Classes.{JoinedHaveOneSort}
use Rattle.pv_witness.specs.Numbered.{AreNumbered, numbered}
use Rattle.pv_witness.specs.Witnesses.{IsWitness}
use Rattle.pv_saturate.specs.declared.choice.Witnesses.{Witnesses}
use Rattle.pv_saturate.specs.Choice.{CanChoose, IsChosenFor, AreChosenFor}

pub same_both : (a b c : Graph) → IsSame a b → IsSame b c → IsSame a c
same_both a b c e f = f ∙ ap (λ (g : Graph). record g { is_prepared = c.is_prepared }) e

module _ (g k : Graph) (numbers : List ℕ) (e : IsSame g k) where
  pub same_numbered : AreNumbered g numbers → AreNumbered k numbers
  same_numbered x = subst (λ (z : Graph). AreNumbered z numbers) (sym e) (record { few = x.few; base = x.base; within = x.within })

  pub same_sorts : JoinedHaveOneSort (numbered g numbers) (OneClass numbers) → JoinedHaveOneSort (numbered k numbers) (OneClass numbers)
  same_sorts x = subst (λ (z : Graph). JoinedHaveOneSort (numbered z numbers) (OneClass numbers)) (sym e) x

  abbrev l : Graph
  l = record g { is_prepared = k.is_prepared }

  witness_there : (c w : ℕ) → IsWitness (numbered g numbers) g numbers c w → IsWitness (numbered l numbers) l numbers c w
  witness_there c w x = record { there = x.there; of_ = x.of_; is_node = x.is_node; class = x.class; copy = x.copy; sort_ = x.sort_ }

  pub same_can : (m : Match ℕ) (t : Witnesses) → CanChoose (numbered g numbers) g numbers m t → CanChoose (numbered k numbers) k numbers m t
  same_can m t x = subst (λ (z : Graph). CanChoose (numbered z numbers) z numbers m t) (sym e) (record {
    entry = x.entry;
    vars = x.vars;
    settled_ = x.settled_;
    not_free_ = x.not_free_;
    constants = λ j v i at_. (let y = x.constants j v i at_ in let u = y.2 in (y.0, y.1, record { thing = u.thing; is = u.is; joins = u.joins; has = u.has }));
    of_settled = λ c w h. witness_there c w (x.of_settled c w h);
    of_not_free = λ c w h. witness_there c w (x.of_not_free c w h);
  })

  pub chosen_back : (m : Match ℕ) (t : Witnesses) (j v w : ℕ) → IsChosenFor (numbered k numbers) k numbers m t j v w → IsChosenFor (numbered g numbers) g numbers m t j v w
  chosen_back m t j v w x =
      let y = subst (λ (z : Graph). IsChosenFor (numbered z numbers) z numbers m t j v w) e x in
      record { copy = record { thing = y.copy.thing; is = y.copy.is; joins = y.copy.joins; copy = y.copy.copy }; sort_ = y.sort_; settled_ = y.settled_; not_free_ = y.not_free_; constant = y.constant }

pub none_chosen : (h g : Graph) (numbers : List ℕ) (m : Match ℕ) (t : Witnesses) → AreChosenFor h g numbers m t [] []
none_chosen h g numbers m t = record { long = refl; each = λ j v w a b. absurd (cc) }

pub chosen_more : (h g : Graph) (numbers : List ℕ) (m : Match ℕ) (t : Witnesses) (vs ws : List ℕ) (v w : ℕ) → AreChosenFor h g numbers m t vs ws → IsChosenFor h g numbers m t (length vs) v w → AreChosenFor h g numbers m t (vs ++ v ∷ []) (ws ++ w ∷ [])
chosen_more h g numbers m t vs ws v w all one = record {
  long = (let a = length-append vs (v ∷ []) in let b = length-append ws (w ∷ []) in let c = all.long in omega (arith, a, b, c));
  each = λ j x y a b. each j x y (push_cases vs v x j a) (push_cases ws w y j b);
}
  where
    each : (j x y : ℕ) → (slice_get vs j ≡ Some x) ⊎ ((j ≡ length vs) × (v ≡ x)) → (slice_get ws j ≡ Some y) ⊎ ((j ≡ length ws) × (w ≡ y)) → IsChosenFor h g numbers m t j x y
    each j x y (inl a) (inl b) = all.each j x y a b
    each j x y (inl a) (inr (b, f)) = absurd (let z = slice_get_within vs j x a in let c = all.long in omega (arith, z, b, c))
    each j x y (inr (a, e)) (inl b) = absurd (let z = slice_get_within ws j y b in let c = all.long in omega (arith, z, a, c))
    each j x y (inr (a, e)) (inr (b, f)) = subst (λ (i : ℕ). IsChosenFor h g numbers m t i x y) (sym a) (subst (λ (z : ℕ). IsChosenFor h g numbers m t (length vs) z y) e (subst (λ (z : ℕ). IsChosenFor h g numbers m t (length vs) v z) f one))
