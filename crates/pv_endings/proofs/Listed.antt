-- The nodes that may be assumed to end are listed one after another.
use Rattle.std.specs.Prelude.{◌≡◌, ◌⊎◌, ℕ, ◌+◌, ◌<◌, Bool, List, [], ◌∷◌, ◌++◌, length}
use Rattle.std.proofs.Common.{inl, inr, sym, subst, arith}
use Rattle.std.proofs.lemmas.Option.{slice_get_within}
use Rattle.pv_graph.specs.Nodes.{node_of}
use Rattle.pv_graph.specs.Walks.{In}
use Rattle.pv_graph.specs.Graphs.{Graph, IsGraph}
use Rattle.pv_graph.proofs.Cited.{in_cases, in_front, in_last, push_cases}
use Rattle.pv_graph.proofs.Marking.{in_place}
use Rattle.pv_endings.specs.Spine.{IsSpine}
use Rattle.pv_endings.specs.Endings.{IsAscending}
use Rattle.pv_endings.specs.Waiting.{MayBe, AreFirst, AreWaitingOn}
use Rattle.pv_endings.proofs.Tested.{may_be_is}

pub none_ascend : IsAscending []
none_ascend i j a b lt e f = absurd (let z = e in cc)

pub first_none : (g : Graph) (marks : List Bool) → AreFirst g marks 0 []
first_none g marks = record { are = λ m. ((λ i. absurd i), (λ h. absurd (let z = h.0 in omega (arith, z)))); ordered = none_ascend }

below_or : (m n : ℕ) → m < n + 1 → (m < n) ⊎ (m ≡ n)
below_or m n lt = grind arith

-- one node more that may be
pub first_more : (g : Graph) (marks : List Bool) (n : ℕ) (ns : List ℕ) → AreFirst g marks n ns → MayBe g marks n → AreFirst g marks (n + 1) (ns ++ n ∷ [])
first_more g marks n ns first may = record { are = λ m. (there m, back m); ordered = ordered }
  where
    there : (m : ℕ) → In (ns ++ n ∷ []) m → (m < n + 1) × MayBe g marks m
    there m i = elim (in_cases ns n m i) [
      | inl h ↦ let r = (first.are m).0 h in let low = r.0 in (omega (arith, low), r.1)
      | inr e ↦ (omega (arith, e), subst (λ (k : ℕ). MayBe g marks k) e may)
    ]

    back : (m : ℕ) → (m < n + 1) × MayBe g marks m → In (ns ++ n ∷ []) m
    back m h = elim (below_or m n h.0) [
      | inl lt ↦ in_front ns n m ((first.are m).1 (lt, h.1))
      | inr e ↦ subst (λ (k : ℕ). In (ns ++ n ∷ []) k) (sym e) (in_last ns n)
    ]

    ordered : IsAscending (ns ++ n ∷ [])
    ordered i j a b lt e f = elim (push_cases ns n b j f) [
      | inl f' ↦ elim (push_cases ns n a i e) [
        | inl e' ↦ first.ordered i j a b lt e' f'
        | inr h ↦ absurd (let z = slice_get_within ns j b f' in let y = h.0 in omega (arith, z, y, lt))
      ]
      | inr h ↦ elim (push_cases ns n a i e) [
        | inl e' ↦ let r = ((first.are a).0 (in_place ns i a e')).0 in let q = h.1 in omega (arith, r, q)
        | inr k ↦ absurd (let z = h.0 in let y = k.0 in omega (arith, z, y, lt))
      ]
    ]

-- one node that may not be
pub first_same : (g : Graph) (marks : List Bool) (n : ℕ) (ns : List ℕ) → AreFirst g marks n ns → (MayBe g marks n → ⊥) → AreFirst g marks (n + 1) ns
first_same g marks n ns first none = record {
  are = λ m. (
    (λ i. let r = (first.are m).0 i in let low = r.0 in (omega (arith, low), r.1)),
    (λ h. (first.are m).1 (strict m h, h.1)),
  );
  ordered = first.ordered;
}
  where
    strict : (m : ℕ) → (m < n + 1) × MayBe g marks m → m < n
    strict m h = elim (below_or m n h.0) [ inl lt ↦ lt | inr e ↦ absurd (none (subst (λ (k : ℕ). MayBe g marks k) e h.1)) ]

-- all nodes
pub all_waiting : (g : Graph) → IsGraph g → (t : ℕ) (marks : List Bool) → IsSpine g.nodes t marks → (n : ℕ) (ns : List ℕ) → n ≡ length g.nodes → AreFirst g marks n ns → AreWaitingOn g t ns
all_waiting g graph t marks spine n ns e first = record {
  are = λ m. (
    (λ i. (may_be_is g graph t marks spine m).0 ((first.are m).0 i).1),
    (λ h. (first.are m).1 (let z = slice_get_within g.nodes m (node_of h.o h.kids) h.is in omega (arith, z, e), (may_be_is g graph t marks spine m).1 h)),
  );
  ordered = first.ordered;
}
