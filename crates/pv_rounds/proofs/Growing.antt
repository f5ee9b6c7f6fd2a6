-- An instance of an axiom is one in each graph that grew from its own.
use Rattle.std.specs.Prelude.{◌≡◌, ℕ, List, [], ◌∷◌, Some}
use Rattle.std.specs.List.{AllByRecursion}
use Rattle.std.proofs.Common.{sym, subst}
use Rattle.pv_value.specs.declared.descriptor.JType.{JType}
use Rattle.pv_value.specs.declared.descriptor.JType.TheVariants as jtype
use Rattle.pv_value.specs.declared.number.Num.{Num}
use Rattle.pv_graph.specs.Forms.{Form, form}
use Rattle.pv_graph.specs.Walks.{In}
use Rattle.pv_graph.specs.Graphs.{Graph, form_at, IsGraph, Extends}
use Rattle.pv_pattern.specs.Patterns.{Each, bare, shifted, evaluated, Pattern, var, constant, fold, narrowed, over, over_each, Patterns, none, first, Side, settled, not_free, symbols_differ, kinds_differ, not_byte, constants_differ}
use Rattle.pv_pattern.specs.Instances.{Names, IsConstantAt, Narrows, IsEach, Stands, StandAll, Holds}
use Rattle.pv_steps.specs.Facts.{View}
use Rattle.pv_axioms.specs.Entries.{Instance}
use Rattle.pv_heights.specs.Searches.{IsNode}
use Rattle.pv_heights.proofs.Cited.{In-right}
use Rattle.pv_instances.proofs.Growing.{zip_more}
use Rattle.pv_instances.proofs.Cited.{form_kept}
use Rattle.pv_witness.specs.declared.condition.Condition.TheVariants as condition
use Rattle.pv_witness.proofs.Cited.{has_kept}
use Rattle.pv_saturate.proofs.Lists.{get_in}

-- ---- patterns

module _ (view other : View) (up : (n : ℕ) (f : Form ℕ) → view n ≡ Some f → other n ≡ Some f) (m : Names) where
  constant_up : (n : ℕ) (c : Num) → IsConstantAt view n c → IsConstantAt other n c
  constant_up n c h = (h.0, up n (form h.0 []) h.1, h.2)

  narrows_up : (y : JType) (P Q : ℕ → Type 0) → ((n : ℕ) → P n → Q n) → (n : ℕ) → Narrows view y P n → Narrows other y Q n
  narrows_up jtype.Z P Q go n h = (h.0, h.1, up n _ h.2, go h.0 h.3, up h.1 _ h.4)
  narrows_up jtype.B P Q go n h = (h.0, up n _ h.1, go h.0 h.2)
  narrows_up jtype.C P Q go n h = (h.0, up n _ h.1, go h.0 h.2)
  narrows_up jtype.S P Q go n h = (h.0, up n _ h.1, go h.0 h.2)
  narrows_up jtype.I P Q go n h = go n h
  narrows_up jtype.J P Q go n h = go n h
  narrows_up jtype.F P Q go n h = go n h
  narrows_up jtype.D P Q go n h = go n h
  narrows_up jtype.A P Q go n h = go n h

  each_up : (x : Each) (k n : ℕ) → IsEach view m x k n → IsEach other m x k n
  each_up bare k n h = h
  each_up shifted k n h = up n _ h
  each_up (evaluated j) k n h = (h.0, h.1, up n _ h.2)

  mutual
    stands_up : (p : Pattern) (n : ℕ) → Stands view m p n → Stands other m p n
    stands_up (var j) n h = h
    stands_up (constant j) n h = (h.0, constant_up n (m.constants j) h.1)
    stands_up (fold o atoms) n h = (h.0, h.1, constant_up n h.0 h.2)
    stands_up (narrowed t p) n h = (h.0, h.1, narrows_up h.0 (Stands view m p) (Stands other m p) (λ k s. stands_up p k s) n h.2)
    stands_up (over x ps) n h = (h.0, up n _ h.1, all_up ps h.0 h.2)
    stands_up (over_each which x) n h = (h.0, up n _ h.1, h.2, zip_more (IsEach view m x) (IsEach other m x) m.kids h.0 (λ a b r. each_up x a b r) h.3)

    all_up : (ps : Patterns) (ks : List ℕ) → StandAll view m ps ks → StandAll other m ps ks
    all_up none [] h = tt
    all_up none (k ∷ ks) h = absurd h
    all_up (first p ps) [] h = absurd h
    all_up (first p ps) (k ∷ ks) h = (stands_up p k h.0, all_up ps ks h.1)

-- ---- instances

module _ (old new : Graph) (is : IsGraph old) (e : Extends old new) (assumed : List ℕ) where
  holds_up : (m : Names) → ((v : ℕ) → In m.vars v → IsNode old v) → (s : Side) → Holds old assumed m s → Holds new assumed m s
  holds_up m low (settled j) h = (h.0, h.1, has_kept old new is e assumed condition.Settled h.0 (low h.0 (get_in m.vars j h.0 h.1)) h.2)
  holds_up m low (not_free j) h = (h.0, h.1, has_kept old new is e assumed (condition.NotFree m.depth) h.0 (low h.0 (get_in m.vars j h.0 h.1)) h.2)
  holds_up m low (symbols_differ s t) h = h
  holds_up m low (kinds_differ k l) h = h
  holds_up m low (not_byte k) h = h
  holds_up m low (constants_differ j k) h = h

  all_hold : (m : Names) → ((v : ℕ) → In m.vars v → IsNode old v) → (ss : List Side) → AllByRecursion (Holds old assumed m) ss → AllByRecursion (Holds new assumed m) ss
  all_hold m low [] h = tt
  all_hold m low (s ∷ ss) h = (holds_up m low s h.0, all_hold m low ss h.1)

  pub instance_grows : (n : ℕ) (ns : List ℕ) (l r : ℕ) → ((k : ℕ) → In ns k → IsNode old k) → Instance old assumed n ns l r → Instance new assumed n ns l r
  instance_grows n ns l r low i =
      let m = i.2.names in
      let up = form_kept old new e in
      let vars : (v : ℕ) → In m.vars v → IsNode old v = λ v z. low v (subst (λ (q : List ℕ). In q v) (sym i.2.are) (In-right m.kids m.vars v z)) in (
        i.0,
        i.1,
        record {
          names = m;
          are = i.2.are;
          long = i.2.long;
          alone = i.2.alone;
          left = stands_up (form_at old.nodes) (form_at new.nodes) up m i.0.left l i.2.left;
          right = stands_up (form_at old.nodes) (form_at new.nodes) up m i.0.right r i.2.right;
          sides = all_hold m vars i.0.sides i.2.sides;
        },
      )
