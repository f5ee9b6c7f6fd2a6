-- After a round both sides of each match of its list stand in one class.
use Rattle.std.specs.Prelude.{◌≡◌, ℕ, List, [], ◌∷◌, Some, refl}
use Rattle.std.proofs.Common.{inr, subst}
use Rattle.pv_graph.specs.declared.node.Op.{Op}
use Rattle.pv_graph.specs.Forms.{form}
use Rattle.pv_graph.specs.Walks.{In}
use Rattle.pv_graph.specs.Graphs.{Graph, Extends}
use Rattle.pv_pattern.specs.declared.names.NameId.{NameId}
use Rattle.pv_pattern.specs.declared.names.NameId.TheVariants as name
use Rattle.pv_pattern.specs.Patterns.{Pattern}
use Rattle.pv_pattern.specs.Binding.{names, BindsItsNames}
use Rattle.pv_steps.specs.Facts.{View}
use Rattle.pv_heights.specs.Filled.{Params, Hole, Filled, at, of, Parts, no_part, part}
use Rattle.pv_heights.specs.Sides.{Match, thing_at, ClassHas, InClass, AllInClass, StandsIn, IsSideOf}
use Rattle.pv_heights.specs.Matches.{AgreeOn, AreOne}
use Rattle.pv_heights.specs.SameClasses.{IsCongruence}
use Rattle.pv_heights.specs.Rounds.{ClassCopy, IsInstanceOf}
use Rattle.pv_heights.specs.Searches.{nodes, IsNode, OneClass}
use Rattle.pv_heights.proofs.Zips.{zip_map}
use Rattle.pv_heights.proofs.Round.{side_in_class}
use Rattle.pv_heights.proofs.Height.{thing_under, copy_in, end_in, class_copy_joined}
use Rattle.pv_heights.proofs.Cited.{class_moved, stands_on_one, right_named}
use Rattle.pv_instances.proofs.Growing.{form_kept, node_kept}
use Rattle.pv_rounds.specs.Known.{StandsAt}

agree_self : (p : Params) (i : NameId) → AgreeOn p p i
agree_self p name.Depth = refl
agree_self p (name.Symbol s) = refl
agree_self p (name.Kind k) = refl
agree_self p (name.Constant j) = refl
agree_self p name.Operation = refl

module _ (h i : Graph) (old after : List ℕ) (grown : Extends h i) (joined : (a b : ℕ) → OneClass old a b → OneClass after a b) where
  kept : (n : ℕ) → IsNode h n → IsNode i n
  kept n lt = node_kept h i grown n lt

  -- ---- where they stood before

  has_kept : (t : ℕ) (o : Op) (ks : List ℕ) → ClassHas (nodes h) (IsNode h) (OneClass old) t o ks → ClassHas (nodes i) (IsNode i) (OneClass after) t o ks
  has_kept t o ks c = record { thing = c.thing; is = kept c.thing c.is; joins = joined c.thing t c.joins; has = form_kept h i grown c.thing (form o ks) c.has }

  mutual
    class_kept : (m : Match ℕ) (s : Filled) (t : ℕ) → InClass (nodes h) (IsNode h) (OneClass old) m s t → InClass (nodes i) (IsNode i) (OneClass after) m s t
    class_kept m (at x) t k = (k.0, k.1, joined k.0 t k.2)
    class_kept m (of o ps) t k = (k.0, has_kept t o k.0 k.1, classes_kept m ps k.0 k.2)

    classes_kept : (m : Match ℕ) (ps : Parts) (ts : List ℕ) → AllInClass (nodes h) (IsNode h) (OneClass old) m ps ts → AllInClass (nodes i) (IsNode i) (OneClass after) m ps ts
    classes_kept m no_part [] k = k
    classes_kept m no_part (t ∷ ts) k = k
    classes_kept m (part s ss) [] k = k
    classes_kept m (part s ss) (t ∷ ts) k = (class_kept m s t k.0, classes_kept m ss ts k.1)

  pub stands_still : (m : Match ℕ) → StandsAt h old m → StandsAt i after m
  stands_still m k = (k.0, kept k.0 k.1, (k.2.0, k.2.1, class_kept m k.2.0 k.0 k.2.2), (k.3.0, k.3.1, class_kept m k.3.0 k.0 k.3.2))

  -- ---- where the sides of an instance were joined

  module _ (view : View) (c : IsCongruence view (nodes i) (IsNode i) (OneClass after)) (m : Match ℕ) (binds : BindsItsNames m.entry) (a b : ℕ) (s : IsInstanceOf (nodes i) (IsNode h) (OneClass old) (IsNode i) m a b) where
    abbrev Chosen : ℕ → ℕ → Type 0
    Chosen = ClassCopy (nodes i) (IsNode h) (OneClass old) (IsNode i)

    chosen_joined : (x y : ℕ) → Chosen x y → OneClass after x y
    chosen_joined x y k = class_copy_joined (nodes i) (IsNode h) (OneClass old) (IsNode i) kept view (OneClass after) c joined x y k

    one : AreOne (OneClass after) m s.chosen
    one = record {
      entry = s.is_chosen.entry;
      params = λ j k. subst (λ (p : Params). AgreeOn m.params p j) s.is_chosen.params (agree_self m.params j);
      kids = zip_map Chosen (OneClass after) chosen_joined m.kids s.chosen.kids s.is_chosen.kids;
      vars = zip_map Chosen (OneClass after) chosen_joined m.vars s.chosen.vars s.is_chosen.vars;
    }

    chosen_in : (x : Hole) (u : ℕ) → thing_at s.chosen x ≡ Some u → IsNode i u
    chosen_in x u e = let k = thing_under Chosen m s.chosen s.is_chosen x u e in copy_in (nodes i) (IsNode h) (OneClass old) (IsNode i) kept u k.2.thing k.2.copy

    stands : (p : Pattern) (t : ℕ) → ((j : NameId) → In (names p) j → In (names m.entry.left) j) → IsSideOf (nodes i) (IsNode i) s.chosen p t → StandsIn (nodes i) (IsNode i) (OneClass after) m p t
    stands p t up k = stands_on_one view (nodes i) (IsNode i) (OneClass after) c m s.chosen one p up t
        (k.0, k.1, side_in_class view (nodes i) (IsNode i) (OneClass after) c s.chosen chosen_in k.0 t k.2)

    pub joined_stands : OneClass after a b → StandsAt i after m
    joined_stands o =
        let r = stands m.entry.right b (right_named m.entry binds) s.right in (
          a,
          end_in (nodes i) (IsNode h) (OneClass old) (IsNode i) kept m s.chosen s.is_chosen m.entry.left a (inr s.left),
          stands m.entry.left a (λ j k. k) s.left,
          (r.0, r.1, class_moved view (nodes i) (IsNode i) (OneClass after) c m r.0 b a (c.flip b a o) r.2),
        )
