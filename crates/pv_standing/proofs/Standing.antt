-- Where a filled side stands, by its parts.
use Rattle.std.proofs.Common.{◌≡◌, ℕ, zero, suc, List, [], ◌∷◌, ◌++◌, Option, Some, None, slice_get, sym, subst}
use Rattle.std.specs.List.{AllByRecursion, AllZip}
use Rattle.std.proofs.lemmas.Option.{same_Some}
use Rattle.pv_graph.specs.declared.node.Op.{Op}
use Rattle.pv_graph.specs.Graphs.{Graph}
use Rattle.pv_classes.specs.Calls.{Classes}
use Rattle.pv_heights.specs.Filled.{Hole, kid, variable, Filled, at, of, Parts, no_part, part}
use Rattle.pv_heights.specs.Sides.{Match, thing_at}
use Rattle.pv_heights.specs.Heights.{Corresponds}
use Rattle.pv_heights.specs.Searches.{nodes, IsNode, OneClass, base_view}
use Rattle.pv_heights.proofs.Cited.{class_moved}
use Rattle.pv_heights.proofs.Height.{over_self}
use Rattle.pv_heights.proofs.Round.{in_class_once, in_classes_once}
use Rattle.pv_instances.specs.Seen.{parts}
use Rattle.pv_standing.specs.Parts.{CanLook, IsClassOver, StandsFilled, PartsStand, IsClassOf, AreClassesOf}

each_at : (P : ℕ → Type 0) (xs : List ℕ) → AllByRecursion P xs → (j x : ℕ) → slice_get xs j ≡ Some x → P x
each_at P [] h j x e = absurd (cc)
each_at P (y ∷ xs) h zero x e = subst P (same_Some y x e) h.0
each_at P (y ∷ xs) h (suc j) x e = each_at P xs h.1 j x e

each_more : (P : ℕ → Type 0) (xs : List ℕ) (x : ℕ) → AllByRecursion P xs → P x → AllByRecursion P (xs ++ x ∷ [])
each_more P [] x h p = (p, tt)
each_more P (y ∷ xs) x h p = (h.0, each_more P xs x h.1 p)

module _ (g : Graph) (c : Classes) (m : Match ℕ) (can : CanLook g c m) where
  abbrev J : ℕ → ℕ → Type 0
  J = OneClass c.numbers

  over_itself : Corresponds J m m
  over_itself = over_self (IsNode g) J can.congruence.same m can.kids can.vars

  -- a side stands in one class, and parts stand in the same classes
  pub stands_once : (s : Filled) (t u : ℕ) → StandsFilled g c.numbers m s t → StandsFilled g c.numbers m s u → J t u
  stands_once s t u h k = in_class_once (base_view g) (nodes g) (IsNode g) J can.congruence m m over_itself s t u h k

  parts_once : (ps : Parts) (ts us : List ℕ) → PartsStand g c.numbers m ps ts → PartsStand g c.numbers m ps us → AllZip J ts us
  parts_once ps ts us h k = in_classes_once (base_view g) (nodes g) (IsNode g) J can.congruence m m over_itself ps ts us h k

  -- a side stands where it stood, by another node of the class
  pub stands_on : (s : Filled) (t u : ℕ) → J t u → StandsFilled g c.numbers m s t → StandsFilled g c.numbers m s u
  stands_on s t u j h = class_moved (base_view g) (nodes g) (IsNode g) J can.congruence m s t u j h

  parts_on : (ps : Parts) (ts us : List ℕ) → AllZip J us ts → PartsStand g c.numbers m ps ts → PartsStand g c.numbers m ps us
  parts_on no_part [] [] z h = h
  parts_on no_part [] (u ∷ us) z h = absurd z
  parts_on no_part (t ∷ ts) us z h = absurd h
  parts_on (part s ps) [] us z h = absurd h
  parts_on (part s ps) (t ∷ ts) [] z h = absurd z
  parts_on (part s ps) (t ∷ ts) (u ∷ us) z h = (stands_on s t u (can.congruence.flip t u z.0) h.0, parts_on ps ts us z.1 h.1)

  -- ---- a hole

  hole_node : (x : Hole) (u : ℕ) → thing_at m x ≡ Some u → IsNode g u
  hole_node (kid i) u e = each_at (IsNode g) m.kids can.kids i u e
  hole_node (variable j) u e = each_at (IsNode g) m.vars can.vars j u e

  pub hole_found : (x : Hole) (found : Option ℕ) → found ≡ thing_at m x → IsClassOf g c.numbers m (at x) found
  hole_found x (Some u) e = let l = hole_node x u (sym e) in (l, (u, sym e, can.congruence.same u l))
  hole_found x None e = λ t h. absurd (let z : thing_at m x ≡ Some h.0 = h.1 in cc)

  -- ---- an operation over parts

  pub over_found : (o : Op) (ps : Parts) (over : List ℕ) → PartsStand g c.numbers m ps over → (found : Option ℕ) → IsClassOver g c.numbers o over found → IsClassOf g c.numbers m (of o ps) found
  over_found o ps over all (Some t) (l, h) = (l, (h.0, h.1, parts_on ps over h.0 h.2 all))
  over_found o ps over all None none = λ t h. none t (h.0, h.1, parts_once ps h.0 over h.2 all)

  -- ---- parts, one after another

  parts_more : (xs : List Filled) (ts : List ℕ) (x : Filled) (t : ℕ) → PartsStand g c.numbers m (parts xs) ts → StandsFilled g c.numbers m x t → PartsStand g c.numbers m (parts (xs ++ x ∷ [])) (ts ++ t ∷ [])
  parts_more [] [] x t a h = (h, tt)
  parts_more [] (u ∷ ts) x t a h = absurd a
  parts_more (y ∷ xs) [] x t a h = absurd a
  parts_more (y ∷ xs) (u ∷ ts) x t a h = (a.0, parts_more xs ts x t a.1 h)

  pub more_found : (xs : List Filled) (ts : List ℕ) (x : Filled) (t : ℕ) → AreClassesOf g c.numbers m (parts xs) (Some ts) → IsClassOf g c.numbers m x (Some t) → AreClassesOf g c.numbers m (parts (xs ++ x ∷ [])) (Some (ts ++ t ∷ []))
  more_found xs ts x t a h = (each_more (IsNode g) ts t a.0 h.0, parts_more xs ts x t a.1 h.1)

  pub none_found : (xs : List Filled) (j : ℕ) (x : Filled) → slice_get xs j ≡ Some x → IsClassOf g c.numbers m x None → AreClassesOf g c.numbers m (parts xs) None
  none_found [] j x e none = absurd (cc)
  none_found (y ∷ xs) zero x e none = first_none
    where
      first_none : (ts : List ℕ) → PartsStand g c.numbers m (part y (parts xs)) ts → ⊥
      first_none [] h = h
      first_none (t ∷ ts) h = none t (subst (λ (s : Filled). StandsFilled g c.numbers m s t) (same_Some y x e) h.0)
  none_found (y ∷ xs) (suc j) x e none = λ ts h. later (none_found xs j x e none) ts h
    where
      later : ((ts : List ℕ) → PartsStand g c.numbers m (parts xs) ts → ⊥) → (ts : List ℕ) → PartsStand g c.numbers m (part y (parts xs)) ts → ⊥
      later f [] h = h
      later f (t ∷ ts) h = f ts h.1
