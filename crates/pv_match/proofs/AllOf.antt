-- Lists of matches: one axiom at one node more, pieces, and that each match starts somewhere.
use Rattle.std.specs.Prelude.{◌≡◌, ◌↔◌, ◌⊎◌, ℕ, zero, suc, ◌<◌, List, [], ◌∷◌, ◌++◌, map, length, Some, slice_get, refl}
use Rattle.std.proofs.Common.{inl, inr, sym, ap, ◌∙◌, subst}
use Rattle.std.proofs.lemmas.Option.{slice_get_within, same_Some}
use Rattle.pv_pattern.specs.declared.pattern.Axiom as declared
use Rattle.pv_pattern.specs.Seen.{axiom_seen}
use Rattle.pv_graph.proofs.Cited.{node_at}
use Rattle.pv_graph.specs.Walks.{In}
use Rattle.pv_graph.specs.Graphs.{Graph}
use Rattle.pv_pattern.specs.Patterns.{Axiom, Pattern, over}
use Rattle.pv_pattern.specs.Instances.{head_op}
use Rattle.pv_marks.specs.Classes.{class_of}
use Rattle.pv_match.specs.declared.found.Param.{Param}
use Rattle.pv_match.specs.declared.found.Match.{Match}
use Rattle.pv_match.specs.Standing.{StandsIn, AllStandIn}
use Rattle.pv_match.specs.Matches.{IsMatch, IsMatchAt, StartsAt}
use Rattle.pv_match.specs.Reading.{IsReadable}
use Rattle.pv_match.specs.Finishing.{AreMatchesAt}
use Rattle.pv_match.specs.All.{AreMatchesWhere, AreMatchesOf}
use Rattle.pv_match.proofs.Adding.{in_left, in_right, in_both}

module _ (g : Graph) (numbers assumed : List ℕ) where
  pub where_none : (P : Axiom → ℕ → Type 0) → ((a : Axiom) (n : ℕ) → P a n → ⊥) → AreMatchesWhere g numbers assumed P []
  where_none P no_ = record { each = λ x i. absurd i; all = λ a n ps cs p. absurd (no_ a n p) }

  pub where_same : (P Q : Axiom → ℕ → Type 0) (list : List Match) → ((a : Axiom) (n : ℕ) → P a n ↔ Q a n) → AreMatchesWhere g numbers assumed P list → AreMatchesWhere g numbers assumed Q list
  where_same P Q list same is = record {
    each = λ x i. let r = is.each x i in (r.0, r.1, (same r.0 r.1).0 r.2, r.3, r.4);
    all = λ a n ps cs q m. is.all a n ps cs ((same a n).1 q) m;
  }

  pub where_both : (P Q : Axiom → ℕ → Type 0) (xs ys : List Match) → AreMatchesWhere g numbers assumed P xs → AreMatchesWhere g numbers assumed Q ys → AreMatchesWhere g numbers assumed (λ a n. P a n ⊎ Q a n) (xs ++ ys)
  where_both P Q xs ys is are = record {
    each = λ x i. elim (in_both xs ys x i) [
      | inl j ↦ let r = is.each x j in (r.0, r.1, inl r.2, r.3, r.4)
      | inr j ↦ let r = are.each x j in (r.0, r.1, inr r.2, r.3, r.4)
    ];
    all = λ a n ps cs h m. elim h [
      | inl p ↦ let r = is.all a n ps cs p m in (r.0, in_left xs ys r.0 r.1, r.2, r.3, r.4)
      | inr q ↦ let r = are.all a n ps cs q m in (r.0, in_right xs ys r.0 r.1, r.2, r.3, r.4)
    ];
  }

  pub where_at : (a : Axiom) (n : ℕ) (list : List Match) → AreMatchesAt g numbers assumed a n list → AreMatchesWhere g numbers assumed (λ b m. (b ≡ a) × (m ≡ n)) list
  where_at a n list is = record {
    each = λ x i. let r = is.each x i in (a, n, (refl, refl), r.0, r.1);
    all = λ b m ps cs e h.
        let k : IsMatchAt g numbers assumed a n ps cs = subst (λ (c : Axiom). IsMatchAt g numbers assumed c n ps cs) e.0 (subst (λ (j : ℕ). IsMatchAt g numbers assumed b j ps cs) e.1 h) in
        let r = is.all ps cs k in
        (r.0, r.1, (is.each r.0 r.1).0 ∙ ap (λ (c : Axiom). c.number) (sym e.0), r.2, r.3);
  }

  -- what was done before, and these axioms at the node at hand
  abbrev pub DoneAt : List Axiom → List ℕ → List Axiom → ℕ → Axiom → ℕ → Type 0
  DoneAt table before rules n b m = (In table b × In before m) ⊎ (In rules b × (m ≡ n))

  pub done_begin : (table : List Axiom) (before : List ℕ) (n : ℕ) (list : List Match) → AreMatchesOf g numbers assumed table before list → AreMatchesWhere g numbers assumed (DoneAt table before [] n) list
  done_begin table before n list is = where_same (λ b m. In table b × In before m) (DoneAt table before [] n) list (λ b m. ((λ h. inl h), (λ h. elim h [ inl x ↦ x | inr y ↦ absurd y.0 ]))) is

  pub done_more : (table : List Axiom) (before : List ℕ) (rules : List Axiom) (n : ℕ) (a : Axiom) (xs ys : List Match) → AreMatchesWhere g numbers assumed (DoneAt table before rules n) xs → AreMatchesAt g numbers assumed a n ys
      → AreMatchesWhere g numbers assumed (DoneAt table before (rules ++ a ∷ []) n) (xs ++ ys)
  done_more table before rules n a xs ys is are =
      where_same (λ b m. DoneAt table before rules n b m ⊎ ((b ≡ a) × (m ≡ n))) (DoneAt table before (rules ++ a ∷ []) n) (xs ++ ys)
      (λ b m. (
        (λ h. elim h [
          | inl d ↦ elim d [ inl x ↦ inl x | inr y ↦ inr (in_left rules (a ∷ []) b y.0, y.1) ]
          | inr e ↦ inr (in_right rules (a ∷ []) b (inl (sym e.0)), e.1)
        ]),
        (λ h. elim h [
          | inl x ↦ inl (inl x)
          | inr y ↦ elim (in_both rules (a ∷ []) b y.0) [
            | inl i ↦ inl (inr (i, y.1))
            | inr i ↦ elim i [ inl e ↦ inr (sym e, y.1) | inr j ↦ absurd j ]
          ]
        ]),
      ))
      (where_both (DoneAt table before rules n) (λ b m. (b ≡ a) × (m ≡ n)) xs ys is (where_at a n ys are))

  pub done_end : (table : List Axiom) (before : List ℕ) (n : ℕ) (list : List Match) → AreMatchesWhere g numbers assumed (DoneAt table before table n) list → AreMatchesOf g numbers assumed table (before ++ n ∷ []) list
  done_end table before n list is = where_same (DoneAt table before table n) (λ b m. In table b × In (before ++ n ∷ []) m) list
      (λ b m. (
        (λ h. elim h [ inl x ↦ (x.0, in_left before (n ∷ []) m x.1) | inr y ↦ (y.0, in_right before (n ∷ []) m (inl (sym y.1))) ]),
        (λ h. elim (in_both before (n ∷ []) m h.1) [ inl i ↦ inl (h.0, i) | inr i ↦ elim i [ inl e ↦ inr (h.0, sym e) | inr j ↦ absurd j ] ]),
      )) is

  pub pieces : (table : List Axiom) (first second : List ℕ) (xs ys : List Match) → AreMatchesOf g numbers assumed table first xs → AreMatchesOf g numbers assumed table second ys → AreMatchesOf g numbers assumed table (first ++ second) (xs ++ ys)
  pieces table first second xs ys is are = where_same (λ a n. (In table a × In first n) ⊎ (In table a × In second n)) (λ a n. In table a × In (first ++ second) n) (xs ++ ys)
      (λ a n. (
        (λ h. elim h [ inl x ↦ (x.0, in_left first second n x.1) | inr y ↦ (y.0, in_right first second n y.1) ]),
        (λ h. elim (in_both first second n h.1) [ inl i ↦ inl (h.0, i) | inr i ↦ inr (h.0, i) ]),
      ))
      (where_both (λ a n. In table a × In first n) (λ a n. In table a × In second n) xs ys is are)

  pub starts : (a : Axiom) (params : List Param) (classes : List ℕ) → IsReadable a → IsMatch g numbers assumed a params classes ↔ ((n : ℕ) × (n < length g.nodes) × IsMatchAt g numbers assumed a n params classes)
  starts a params classes is = (
    (λ m.
        let s : StandsIn g numbers m.names (over is.head is.parts) m.at_ = subst (λ (p : Pattern). StandsIn g numbers m.names p m.at_) is.left m.stands in
        let f = s.1 in
        let node = node_at g.nodes f.node (head_op m.names is.head) f.kids f.is in
        let t : StartsAt g numbers m.names (over is.head is.parts) f.node = (f.kids, f.is, subst (λ (cs : List ℕ). AllStandIn g numbers m.names is.parts cs) (sym f.classes) s.2) in
        (f.node, slice_get_within g.nodes f.node node.0 node.1, record { names = m.names; starts = subst (λ (p : Pattern). StartsAt g numbers m.names p f.node) (sym is.left) t; fits = m.fits })),
    (λ x.
        let m = x.2 in
        let t : StartsAt g numbers m.names (over is.head is.parts) x.0 = subst (λ (p : Pattern). StartsAt g numbers m.names p x.0) is.left m.starts in
        let s : StandsIn g numbers m.names (over is.head is.parts) (class_of numbers x.0) = (map (class_of numbers) t.0, record { node = x.0; kids = t.0; is = t.1; here = refl; classes = refl }, t.2) in
        record { names = m.names; at_ = class_of numbers x.0; stands = subst (λ (p : Pattern). StandsIn g numbers m.names p (class_of numbers x.0)) (sym is.left) s; fits = m.fits }),
  )

pub in_map : (xs : List declared.Axiom) (i : ℕ) (x : declared.Axiom) → slice_get xs i ≡ Some x → In (map axiom_seen xs) (axiom_seen x)
in_map [] i x e = absurd (cc)
in_map (y ∷ xs) zero x e = inl (ap axiom_seen (same_Some y x e))
in_map (y ∷ xs) (suc i) x e = inr (in_map xs i x e)
