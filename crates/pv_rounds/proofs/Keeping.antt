-- What a round keeps can be taken over by the next look.
use Rattle.std.specs.Prelude.{◌≡◌, ℕ, List, [], ◌∷◌, ◌++◌, length, map}
use Rattle.std.proofs.Common.{inl, inr, sym, ap, ◌∙◌, subst, arith}
use Rattle.pv_graph.specs.Walks.{In}
use Rattle.pv_graph.specs.Graphs.{Graph, Extends}
use Rattle.pv_graph.proofs.Cited.{in_cases, in_front, in_last}
use Rattle.pv_pattern.specs.Patterns.{Axiom}
use Rattle.pv_heights.specs.Searches.{IsNode, OneClass}
use Rattle.pv_marks.specs.Classes.{class_of}
use Rattle.pv_marks.specs.Marks.{AreNodeMarks, AreClassMarks}
use Rattle.pv_match.specs.declared.found.Match.{Match}
use Rattle.pv_match.specs.declared.found.Param.{Param}
use Rattle.pv_match.specs.Matches.{IsMatch}
use Rattle.pv_match.specs.Orders.{AreOne}
use Rattle.pv_match.specs.Agreeing.{AreLeast}
use Rattle.pv_match.specs.Rematching.{AreKnown}
use Rattle.pv_touched.specs.Earlier.{WasSeen}
use Rattle.pv_rounds.specs.declared.last.Last.{Last}
use Rattle.pv_rounds.specs.Last.{look_in, AreCopies, Keeps}
use Rattle.pv_rounds.proofs.Numbers.{of_one, one_of}

-- ---- copies

pub copies_none : AreCopies [] []
copies_none = record { each = λ y i. absurd i; all = λ x i. absurd i }

pub copies_more : (list copies : List Match) (x y : Match) → AreOne y x → AreCopies list copies → AreCopies (list ++ x ∷ []) (copies ++ y ∷ [])
copies_more list copies x y one are = record {
  each = λ z i. elim (in_cases copies y z i) [
    | inl j ↦ let r = are.each z j in (r.0, in_front list x r.0 r.1, r.2)
    | inr e ↦ (x, in_last list x, subst (λ (w : Match). AreOne w x) e one)
  ];
  all = λ z i. elim (in_cases list x z i) [
    | inl j ↦ let r = are.all z j in (r.0, in_front copies y r.0 r.1, r.2)
    | inr e ↦ (y, in_last copies y, subst (AreOne y) e one)
  ];
}

-- copies of all matches are all matches
pub known_copies : (g : Graph) (numbers assumed : List ℕ) (table : List Axiom) (list copies : List Match) → AreCopies list copies → AreKnown g numbers assumed table list → AreKnown g numbers assumed table copies
known_copies g numbers assumed table list copies are known = record {
  within = λ y c i j. (let r = are.each y i in known.within r.0 c r.1 (subst (λ (cs : List ℕ). In cs c) r.2.2 j));
  over_ = record {
    stay = λ y i.
        let r = are.each y i in
        let s = known.over_.stay r.0 r.1 in (
          s.0,
          s.1,
          r.2.0 ∙ s.2,
          subst (λ (ps : List Param). IsMatch g numbers assumed s.0 ps (map (class_of numbers) y.classes.items)) (sym r.2.1)
              (subst (λ (cs : List ℕ). IsMatch g numbers assumed s.0 r.0.params.items (map (class_of numbers) cs)) (sym r.2.2) s.3),
        );
    rest = λ a params classes t m. elim (known.over_.rest a params classes t m) [
      | inl s ↦ inl s
      | inr k ↦ let r = are.all k.0 k.1 in inr (r.0, r.1, r.2.0 ∙ k.2, r.2.1 ∙ k.3, ap (map (class_of numbers)) r.2.2 ∙ k.4)
    ];
  };
}

-- ---- one look later

module _ (h i : Graph) (old new base assumed : List ℕ) (table : List Axiom) (list : List Match) (l : Last) where
  -- classes by class numbers
  joined_numbers : length old ≡ length h.nodes → ((a b : ℕ) → OneClass old a b → OneClass new a b) → (a b : ℕ) → IsNode h a → IsNode h b → class_of old a ≡ class_of old b → class_of new a ≡ class_of new b
  joined_numbers long joined a b x y e = (one_of new a b (joined a b (of_one old a b (omega (arith, x, long)) (omega (arith, y, long)) e))).2

  pub seen_later : AreLeast h old → Extends h i → i.base ≡ h.base → AreNodeMarks h assumed base → AreKnown h old assumed table list → ((a b : ℕ) → OneClass old a b → OneClass new a b) → Keeps h old base list l → WasSeen h i new assumed table (look_in l)
  seen_later least grown based marks known joined keeps =
      let same = sym keeps.numbers_ in
      record {
        graph = least.graph;
        grown = grown;
        base = based;
        least = subst (AreLeast h) same least;
        marks_ = subst (λ (ns : List ℕ). AreClassMarks h ns assumed l.marks.items) same (keeps.marks_ assumed marks);
        known_ = subst (λ (ns : List ℕ). AreKnown h ns assumed table l.list.items) same (known_copies h old assumed table list l.list.items keeps.list_ known);
        joined = λ a b x y e. joined_numbers least.long joined a b x y (subst (λ (ns : List ℕ). class_of ns a ≡ class_of ns b) keeps.numbers_ e);
      }
