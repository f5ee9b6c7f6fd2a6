-- No match joins more exactly where both sides of each listed match stand in one class.
use Rattle.std.proofs.Common.{◌≡◌, ℕ, List, [], ◌∷◌, length, Some, ◌↔◌, sym, ap, ◌∙◌, subst}
use Rattle.std.specs.List.{AllByRecursion}
use Rattle.pv_graph.specs.Walks.{In}
use Rattle.pv_graph.specs.Graphs.{Graph, form_at}
use Rattle.pv_pattern.specs.declared.names.NameId.{NameId}
use Rattle.pv_pattern.specs.Patterns.{Pattern, Axiom}
use Rattle.pv_pattern.specs.Binding.{names, BindsItsNames}
use Rattle.pv_steps.specs.Facts.{View}
use Rattle.pv_heights.specs.Systems.{System, Relation, Subset}
use Rattle.pv_heights.specs.Filled.{Hole, kid, variable, Filled, at, of, Parts, no_part, part, filled}
use Rattle.pv_heights.specs.Sides.{Match, thing_at, InClass, AllInClass, StandsIn}
use Rattle.pv_heights.specs.Matches.{AreOne, IsSaturated}
use Rattle.pv_heights.specs.Searches.{AreAll, BothStand, nodes, IsNode, OneClass, Reached, IsWhole}
use Rattle.pv_heights.specs.SameClasses.{IsCongruence}
use Rattle.pv_heights.proofs.Zips.{some_once, zip_length}
use Rattle.pv_heights.proofs.Both.{In-slice_get, place_of}
use Rattle.pv_heights.proofs.Sides.{zip_right}
use Rattle.pv_heights.proofs.Height.{over_self}
use Rattle.pv_heights.proofs.Round.{in_class_once}
use Rattle.pv_heights.proofs.Named.{filled_agrees, right_named}
use Rattle.pv_heights.proofs.Reached.{reached_exact}

module _ (view : View) (S : System) (C : Subset S) (J : Relation S) (c : IsCongruence view S C J) where
  -- a side stands in the class of each thing that is joined to one in whose class it stands
  pub class_moved : (m : Match S.Thing) (s : Filled) (t u : S.Thing) → J t u → InClass S C J m s t → InClass S C J m s u
  class_moved m (at x) t u j h = (h.0, h.1, c.chain h.0 t u h.2 j)
  class_moved m (of o ps) t u j h = (h.0, record { thing = h.1.thing; is = h.1.is; joins = c.chain h.1.thing t u h.1.joins j; has = h.1.has }, h.2)

  mutual
    -- .. and over things of the same classes
    class_on_one : (m n : Match S.Thing) → ((x : Hole) (u : S.Thing) → thing_at n x ≡ Some u → (v : S.Thing) × (thing_at m x ≡ Some v) × J v u) → (s : Filled) (t : S.Thing) → InClass S C J n s t → InClass S C J m s t
    class_on_one m n f (at x) t h = let v = f x h.0 h.1 in (v.0, v.1, c.chain v.0 h.0 t v.2 h.2)
    class_on_one m n f (of o ps) t h = (h.0, h.1, classes_on_one m n f ps h.0 h.2)

    classes_on_one : (m n : Match S.Thing) → ((x : Hole) (u : S.Thing) → thing_at n x ≡ Some u → (v : S.Thing) × (thing_at m x ≡ Some v) × J v u) → (ps : Parts) (ts : List S.Thing) → AllInClass S C J n ps ts → AllInClass S C J m ps ts
    classes_on_one m n f no_part [] h = h
    classes_on_one m n f no_part (t ∷ ts) h = h
    classes_on_one m n f (part s ss) [] h = h
    classes_on_one m n f (part s ss) (t ∷ ts) h = (class_on_one m n f s t h.0, classes_on_one m n f ss ts h.1)

  things_on_one : (m n : Match S.Thing) → AreOne J m n → (x : Hole) (u : S.Thing) → thing_at n x ≡ Some u → (v : S.Thing) × (thing_at m x ≡ Some v) × J v u
  things_on_one m n o (kid i) u e = zip_right J m.kids n.kids o.kids i u e
  things_on_one m n o (variable j) u e = zip_right J m.vars n.vars o.vars j u e

  -- a side of one match stands where that of a match that is one with it does
  pub stands_on_one : (m n : Match S.Thing) → AreOne J m n → (p : Pattern) → ((i : NameId) → In (names p) i → In (names m.entry.left) i) → (t : S.Thing) → StandsIn S C J n p t → StandsIn S C J m p t
  stands_on_one m n o p up t h =
      (h.0, filled_agrees m.params n.params (length m.kids) p (λ i v. o.params i (up i v)) ∙ (ap (λ k. filled n.params k p) (zip_length J m.kids n.kids o.kids) ∙ h.1), class_on_one m n (things_on_one m n o) h.0 t h.2)

  -- both sides of a match stand in the class in which those of a match that is one with it do
  pub both_on_one : (m n : Match S.Thing) → BindsItsNames m.entry → AreOne J m n → BothStand S C J n → BothStand S C J m
  both_on_one m n b o h = (
    h.0,
    h.1,
    stands_on_one m n o m.entry.left (λ i v. v) h.0 (subst (λ (e : Axiom). StandsIn S C J n e.left h.0) (sym o.entry) h.2),
    stands_on_one m n o m.entry.right (right_named m.entry b) h.0 (subst (λ (e : Axiom). StandsIn S C J n e.right h.0) (sym o.entry) h.3),
  )

  -- .. so its right side stands where its left side does
  still_on_one : (m n : Match S.Thing) → AllByRecursion C m.kids → AllByRecursion C m.vars → BindsItsNames m.entry → AreOne J m n → BothStand S C J n → (t : S.Thing) → StandsIn S C J m m.entry.left t → StandsIn S C J m m.entry.right t
  still_on_one m n ks xs b o h t l =
      let s = both_on_one m n b o h in
      let one = in_class_once view S C J c m m (over_self C J c.same m ks xs) l.0 s.0 t (subst (λ f. InClass S C J m f s.0) (some_once (sym s.2.1 ∙ l.1)) s.2.2) l.2 in
      (s.3.0, s.3.1, class_moved m s.3.0 s.0 t one s.3.2)

-- no match joins more exactly where both sides of each listed match stand in one class
pub saturated_where : (g : Graph) → IsWhole (form_at g.nodes) → (assumed : List ℕ) (table : List Axiom) → ((e : Axiom) → In table e → BindsItsNames e) → (k : ℕ) (h : Graph) (numbers : List ℕ) → Reached g assumed table k h numbers
    → (list : List (Match ℕ)) → AreAll (form_at g.nodes) assumed table (nodes h) (IsNode h) (OneClass numbers) list
    → IsSaturated (form_at g.nodes) assumed table (nodes h) (IsNode h) (OneClass numbers) ↔ ((m : Match ℕ) → In list m → BothStand (nodes h) (IsNode h) (OneClass numbers) m)
saturated_where g whole assumed table binds k h numbers r list a = (there, back)
  where
    there : IsSaturated (form_at g.nodes) assumed table (nodes h) (IsNode h) (OneClass numbers) → (m : Match ℕ) → In list m → BothStand (nodes h) (IsNode h) (OneClass numbers) m
    there s m i = let p = place_of list m i in let k = a.each p.0 m p.1 in (k.at_, k.is, k.stands, s m k.at_ k k.is k.stands)

    back : ((m : Match ℕ) → In list m → BothStand (nodes h) (IsNode h) (OneClass numbers) m) → IsSaturated (form_at g.nodes) assumed table (nodes h) (IsNode h) (OneClass numbers)
    back f m t i d l =
        let n = a.all m i in
        let x = reached_exact g whole assumed table k h numbers r in
        still_on_one (form_at g.nodes) (nodes h) (IsNode h) (OneClass numbers) x.congruence m n.1 i.kids i.vars (binds m.entry i.of_table) n.3 (f n.1 (In-slice_get list n.0 n.1 n.2)) t l
