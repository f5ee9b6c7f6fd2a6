-- Known matches beside those that are found at the touched nodes are all matches of a table.
use Rattle.std.specs.Prelude.{◌≡◌, ◌≤◌, ℕ, suc, Bool, true, false, List, [], ◌∷◌, ◌++◌, length, refl}
use Rattle.std.specs.Bool.{OnTrue, OnFalse}
use Rattle.std.proofs.Common.{inl, inr, sym, ◌∙◌, subst}
use Rattle.pv_graph.specs.Walks.{In}
use Rattle.pv_graph.specs.Graphs.{Graph}
use Rattle.pv_pattern.specs.Patterns.{Axiom}
use Rattle.pv_match.specs.declared.found.Match.{Match}
use Rattle.pv_match.specs.declared.found.Param.{Param}
use Rattle.pv_match.specs.Matches.{IsMatch}
use Rattle.pv_match.specs.Reading.{AreReadable}
use Rattle.pv_match.specs.All.{AreMatchesOf}
use Rattle.pv_match.specs.Gathering.{AreFrom, GathersAll, AreTooMany, AreMatchesAll, FindsAll}
use Rattle.pv_match.specs.Rematching.{CanTakeOver, IsRenumbered, AreRenumbered}
use Rattle.pv_match.proofs.Adding.{in_left, in_right, in_both}
use Rattle.pv_match.proofs.Gathers.{match_from}

-- ---- one known match more

pub renumbered_none : (numbers : List ℕ) → AreRenumbered numbers [] []
renumbered_none numbers = record { each = λ y i. absurd i; all = λ x i. absurd i }

pub renumbered_more : (numbers : List ℕ) (known new : List Match) (x y : Match) → IsRenumbered numbers x y → AreRenumbered numbers known new → AreRenumbered numbers (known ++ x ∷ []) (new ++ y ∷ [])
renumbered_more numbers known new x y one are = record {
  each = λ z i. elim (in_both new (y ∷ []) z i) [
    | inl j ↦ let r = are.each z j in (r.0, in_left known (x ∷ []) r.0 r.1, r.2)
    | inr j ↦ elim j [ inl e ↦ (x, in_right known (x ∷ []) x (inl refl), subst (IsRenumbered numbers x) e one) | inr v ↦ absurd v ]
  ];
  all = λ z i. elim (in_both known (x ∷ []) z i) [
    | inl j ↦ let r = are.all z j in (r.0, in_left new (y ∷ []) r.0 r.1, r.2)
    | inr j ↦ elim j [ inl e ↦ (y, in_right new (y ∷ []) y (inl refl), subst (λ (w : Match). IsRenumbered numbers w y) e one) | inr v ↦ absurd v ]
  ];
}

-- ---- all matches

pub finds_all_over : (g : Graph) (numbers assumed : List ℕ) (table : List Axiom) (limit : ℕ) (over : Bool) (set : List Match) → over ≡ true → AreTooMany g numbers assumed table limit set → FindsAll g numbers assumed table limit over set
finds_all_over g numbers assumed table limit true set e many = (many, tt)
finds_all_over g numbers assumed table limit false set e many = absurd (cc)

module _ (g : Graph) (numbers assumed : List ℕ) (table : List Axiom) (limit : ℕ) (readable : AreReadable table) (known : List Match) (items : List ℕ) (t : CanTakeOver g numbers assumed table known items)
    (got more all : List Match) (is : AreMatchesOf g numbers assumed table items got) (are : AreRenumbered numbers known more) where
  abbrev HasAxiom : Match → Type 0
  HasAxiom x = (a : Axiom) × In table a × (x.axiom ≡ a.number) × IsMatch g numbers assumed a x.params.items x.classes.items

  from_known : (y : Match) → In more y → HasAxiom y
  from_known y i =
      let r = are.each y i in
      let s = t.stay r.0 r.1 in (
        s.0,
        s.1,
        r.2.number ∙ s.2,
        subst (λ (ps : List Param). IsMatch g numbers assumed s.0 ps y.classes.items) (sym r.2.params) (subst (λ (cs : List ℕ). IsMatch g numbers assumed s.0 r.0.params.items cs) (sym r.2.classes) s.3),
      )

  from_found : (x : Match) → In got x → HasAxiom x
  from_found x i =
      let r = is.each x i in
      (r.0, r.2.0, r.3, match_from g numbers assumed table readable r.0 r.1 x.params.items x.classes.items r.2.0 r.4)

  from_both : AreFrom got more all → (x : Match) → In all x → HasAxiom x
  from_both gathers x i = elim (gathers x i) [ inl j ↦ from_found x j | inr j ↦ from_known x j ]

  pub beside_over : length all ≡ suc limit → AreFrom got more all → AreTooMany g numbers assumed table limit all
  beside_over long gathers = record { long = long; each = from_both gathers }

  pub beside_all : GathersAll got more all → AreMatchesAll g numbers assumed table all
  beside_all gathers = record {
    each = from_both gathers.some_.each;
    all = λ a ps cs there m. elim (t.rest a ps cs there m) [
      | inl s ↦ let x = is.all a s.0 ps cs (there, s.1) s.2 in (x.0, gathers.some_.kept x.0 x.1, x.2, x.3, x.4)
      | inr k ↦
          let y = are.all k.0 k.1 in
          let z = gathers.has y.0 y.1 in
          (z.0, z.1, sym z.2.0 ∙ (y.2.number ∙ k.2), sym z.2.1 ∙ (y.2.params ∙ k.3), sym z.2.2 ∙ (y.2.classes ∙ k.4))
    ];
  }

  pub finds_beside : (over : Bool) → OnTrue over ((length all ≡ suc limit) × AreFrom got more all) → OnFalse over ((length all ≤ limit) × GathersAll got more all) → FindsAll g numbers assumed table limit over all
  finds_beside true o f = (beside_over o.0 o.1, tt)
  finds_beside false o f = (tt, beside_all f.1)
