-- Whether a graph is prepared makes no difference to the instances of axioms and to the uses of lemmas.
use Rattle.std.specs.Prelude.{ℕ, suc, Bool, true, false, List, [], ◌∷◌, length, reverse, ◌==◌, refl}
use Rattle.std.specs.List.{AllByRecursion}
use Rattle.pv_graph.specs.Graphs.{Graph}
use Rattle.pv_pattern.specs.Patterns.{Side, settled, not_free, symbols_differ, kinds_differ, not_byte, constants_differ}
use Rattle.pv_pattern.specs.Instances.{Names, Holds, HoldsForAll}
use Rattle.pv_steps.specs.declared.step.Lemma.{Lemma}
use Rattle.pv_steps.specs.Right.{Rule, by_axiom, by_lemma}
use Rattle.pv_axioms.specs.Entries.{OpenInstance}
use Rattle.pv_axioms.proofs.Cited.{same_instance}
use Rattle.pv_lemmas.specs.Lemmas.{ByLemmas, InLemma, IsAccepted, IsUnder, variable, operation, IsUse, Uses}

-- the graph, prepared or not
abbrev pub made_ready : Graph → Bool → Graph
made_ready g p = record g { is_prepared = p }

-- a use of this lemma, if it is the one with the number, or of one before it
abbrev UsesIf : Lemma → List Lemma → List ℕ → ℕ → List ℕ → ℕ → ℕ → Bool → Graph → Type 0
UsesIf lemma before assumed n nodes a b t g = elim t as (λ (z : Bool). Type 0) [ true ↦ IsAccepted (Uses before) lemma × IsUse lemma g assumed nodes a b | false ↦ Uses before g assumed n nodes a b ]

module _ (g : Graph) (p : Bool) where
  -- ---- axioms

  holds : (assumed : List ℕ) (m : Names) (s : Side) → Holds g assumed m s → Holds (made_ready g p) assumed m s
  holds assumed m (settled j) h = h
  holds assumed m (not_free j) h = h
  holds assumed m (symbols_differ s t) h = h
  holds assumed m (kinds_differ k l) h = h
  holds assumed m (not_byte k) h = h
  holds assumed m (constants_differ j k) h = h

  all_hold : (assumed : List ℕ) (m : Names) (sides : List Side) → AllByRecursion (Holds g assumed m) sides → AllByRecursion (Holds (made_ready g p) assumed m) sides
  all_hold assumed m [] all = tt
  all_hold assumed m (s ∷ sides) all = (holds assumed m s all.0, all_hold assumed m sides all.1)

  holds_for_all : (m : Names) (s : Side) → HoldsForAll g m s → HoldsForAll (made_ready g p) m s
  holds_for_all m (settled j) h = tt
  holds_for_all m (not_free j) h = h
  holds_for_all m (symbols_differ s t) h = tt
  holds_for_all m (kinds_differ k l) h = tt
  holds_for_all m (not_byte k) h = tt
  holds_for_all m (constants_differ j k) h = tt

  all_for_all : (m : Names) (sides : List Side) → AllByRecursion (HoldsForAll g m) sides → AllByRecursion (HoldsForAll (made_ready g p) m) sides
  all_for_all m [] all = tt
  all_for_all m (s ∷ sides) all = (holds_for_all m s all.0, all_for_all m sides all.1)

  open_prepared : (assumed : List ℕ) (n : ℕ) (nodes : List ℕ) (l r : ℕ) → OpenInstance g assumed n nodes l r → OpenInstance (made_ready g p) assumed n nodes l r
  open_prepared assumed n nodes l r (a, entry, o) =
      let i = o.instance_ in (
        a,
        entry,
        record {
          instance_ = record { names = i.names; are = i.are; long = i.long; alone = i.alone; left = i.left; right = i.right; sides = all_hold assumed i.names a.sides i.sides };
          for_all = all_for_all i.names a.sides o.for_all;
        },
      )

  -- ---- lemmas

  under_prepared : (inner : Graph) (nodes : List ℕ) (q n : ℕ) → IsUnder inner nodes g q n → IsUnder inner nodes (made_ready g p) q n
  under_prepared inner nodes q n (variable _ _ j s e at) = variable q n j s e at
  under_prepared inner nodes q n (operation _ _ o ps ns plain_ e f l kids) = operation q n o ps ns plain_ e f l (λ i k m a b. under_prepared inner nodes k m (kids i k m a b))

  use_prepared : (lemma : Lemma) (assumed nodes : List ℕ) (a b : ℕ) → IsUse lemma g assumed nodes a b → IsUse lemma (made_ready g p) assumed nodes a b
  use_prepared lemma assumed nodes a b u = record {
    graph = u.graph;
    after = u.after;
    sorts = u.sorts;
    settled = u.settled;
    left_ = under_prepared u.graph nodes lemma.left a u.left_;
    right_ = under_prepared u.graph nodes lemma.right b u.right_;
  }

  uses_prepared : (lemmas : List Lemma) (assumed : List ℕ) (n : ℕ) (nodes : List ℕ) (a b : ℕ) → Uses lemmas g assumed n nodes a b → Uses lemmas (made_ready g p) assumed n nodes a b
  uses_prepared [] assumed n nodes a b u = u
  uses_prepared (lemma ∷ before) assumed n nodes a b u = go (n == suc (length before)) (uses_prepared before assumed n nodes a b) u
    where
      go : (t : Bool) → (Uses before g assumed n nodes a b → Uses before (made_ready g p) assumed n nodes a b) → UsesIf lemma before assumed n nodes a b t g → UsesIf lemma before assumed n nodes a b t (made_ready g p)
      go true earlier v = (v.0, use_prepared lemma assumed nodes a b v.1)
      go false earlier v = earlier v

-- the rules inside a lemma, after these
pub in_lemma_prepared : (before : List Lemma) (settled_ : List ℕ) (g : Graph) (p : Bool) (assumed : List ℕ) (r : Rule) (nodes : List ℕ) (a b : ℕ) → InLemma (Uses before) settled_ g assumed r nodes a b → InLemma (Uses before) settled_ (record g { is_prepared = p }) assumed r nodes a b
in_lemma_prepared before settled_ g p assumed (by_axiom n) nodes a b h = open_prepared g p settled_ n nodes a b h
in_lemma_prepared before settled_ g p assumed (by_lemma n) nodes a b h = uses_prepared g p before settled_ n nodes a b h

-- the rules of a section
pub by_lemmas_prepared : (lemmas : List Lemma) (g : Graph) (p : Bool) (assumed : List ℕ) (r : Rule) (nodes : List ℕ) (a b : ℕ) → ByLemmas lemmas g assumed r nodes a b → ByLemmas lemmas (record g { is_prepared = p }) assumed r nodes a b
by_lemmas_prepared lemmas g p assumed (by_axiom n) nodes a b h = (same_instance g (made_ready g p) refl assumed n nodes a b).0 h
by_lemmas_prepared lemmas g p assumed (by_lemma n) nodes a b h = uses_prepared g p (reverse lemmas) assumed n nodes a b h
