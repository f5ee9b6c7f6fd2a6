-- A list of all matches can be taken over while nothing is touched.
use Rattle.std.proofs.Common.{◌≡◌, ℕ, List, [], ◌∷◌, ◌++◌, map, inl, inr, sym, ap, ◌∙◌, subst}
use Rattle.std.specs.List.{AllByRecursion}
use Rattle.std.proofs.lemmas.List.{map-append}
use Rattle.pv_graph.specs.Walks.{In}
use Rattle.pv_graph.specs.Graphs.{Graph}
use Rattle.pv_pattern.specs.Patterns.{Axiom}
use Rattle.pv_marks.specs.Classes.{class_of}
use Rattle.pv_heights.specs.Sides as sides
use Rattle.pv_heights.specs.Matches as heights
use Rattle.pv_heights.specs.SameClasses.{IsCongruence}
use Rattle.pv_heights.specs.Searches.{nodes, IsNode, OneClass, base_view, match_of}
use Rattle.pv_heights.proofs.Cited.{zip_left, zip_right, one_chain}
use Rattle.pv_match.specs.declared.found.Match.{Match}
use Rattle.pv_match.specs.declared.found.Param.{Param}
use Rattle.pv_match.specs.Matches.{IsMatch}
use Rattle.pv_match.specs.Parameters.{params_of}
use Rattle.pv_match.specs.Reading.{AreReadable}
use Rattle.pv_match.specs.Agreeing.{AreLeast}
use Rattle.pv_match.specs.AllMatches.{Shows, AreAllMatches}
use Rattle.pv_match.specs.Rematching.{IsKnown, AreKnown}
use Rattle.pv_match.proofs.Adding.{in_both}
use Rattle.pv_match.proofs.Gathers.{in_place, place_in_list}
use Rattle.pv_match.proofs.Sound.{found_match}
use Rattle.pv_match.proofs.Full.{names_of, match_back}
use Rattle.pv_match.proofs.Agreed.{turn, chain, renumbered, same_parts}
use Rattle.pv_match.proofs.Answering.{named_params}

all_there : (P : ℕ → Type 0) (xs : List ℕ) → AllByRecursion P xs → (x : ℕ) → In xs x → P x
all_there P [] h x i = absurd i
all_there P (y ∷ xs) h x (inl e) = subst P e h.0
all_there P (y ∷ xs) h x (inr i) = all_there P xs h.1 x i

module _ (g : Graph) (numbers assumed : List ℕ) (table : List Axiom) (list : List Match) (a : AreLeast g numbers) (c : IsCongruence (base_view g) (nodes g) (IsNode g) (OneClass numbers)) (read : AreReadable table) (all : AreAllMatches g numbers assumed table list) where
  abbrev J : ℕ → ℕ → Type 0
  J = OneClass numbers

  abbrev Sound : sides.Match ℕ → Type 0
  Sound m = heights.IsMatch (base_view g) assumed table (nodes g) (IsNode g) J m

  -- a match of the list, as the definitions have it
  seen : (x : Match) → In list x → (m : sides.Match ℕ) × Shows x m × Sound m
  seen x i =
      let p = in_place list x i in
      let z = zip_left Shows list all.matches all.shown p.0 x p.1 in
      (z.0, z.2, all.all.each p.0 z.0 z.1)

  within : (x : Match) (k : ℕ) → In list x → In x.classes.items k → IsNode g k
  within x k i j =
      let s = seen x i in
      elim (in_both s.0.kids s.0.vars k (subst (λ (cs : List ℕ). In cs k) s.1.classes j)) [
        | inl h ↦ all_there (IsNode g) s.0.kids s.2.kids k h
        | inr h ↦ all_there (IsNode g) s.0.vars s.2.vars k h
      ]

  numbers_are : (x : Match) (m : sides.Match ℕ) → Shows x m → map (class_of numbers) x.classes.items ≡ map (class_of numbers) m.kids ++ map (class_of numbers) m.vars
  numbers_are x m s = ap (map (class_of numbers)) s.classes ∙ map-append (class_of numbers) m.kids m.vars

  params_are : (x : Match) (m : sides.Match ℕ) → Shows x m → x.params.items ≡ params_of (names_of numbers m) m.entry.left
  params_are x m s = s.params ∙ sym (named_params (names_of numbers m) m.entry.left)

  stay : (x : Match) → In list x → (b : Axiom) × In table b × (x.axiom ≡ b.number) × IsMatch g numbers assumed b x.params.items (map (class_of numbers) x.classes.items)
  stay x i =
      let s = seen x i in
      let m = s.0 in
      let b = match_back g numbers a c m assumed table (read m.entry s.2.of_table) s.2 in (
        m.entry,
        s.2.of_table,
        s.1.number,
        subst (λ (ps : List Param). IsMatch g numbers assumed m.entry ps (map (class_of numbers) x.classes.items)) (sym (params_are x m s.1))
            (subst (λ (cs : List ℕ). IsMatch g numbers assumed m.entry (params_of (names_of numbers m) m.entry.left) cs) (sym (numbers_are x m s.1)) b.0),
      )

  rest : (b : Axiom) (params : List Param) (classes : List ℕ) → In table b → IsMatch g numbers assumed b params classes → IsKnown numbers list b params classes
  rest b params classes t i =
      let f = found_match g numbers assumed table a b t (read b t) params classes i in
      let r = all.all.all (match_of b i.names) f.0 in
      let n = r.1 in
      let sound : Sound n = all.all.each r.0 n r.2 in
      let k = match_back g numbers a c n assumed table (read n.entry sound.of_table) sound in
      let z = zip_right Shows list all.matches all.shown r.0 n r.2 in
      let one = one_chain J (turn g numbers assumed table a c read) (chain g numbers assumed table a c read) (match_of b i.names) n (match_of n.entry k.0.names) r.3
      (subst (λ v. heights.AreOne J n (match_of n.entry v)) (sym k.1) (renumbered g numbers assumed table a c read n sound)) in
      let e = same_parts g numbers assumed table a c read b n.entry r.3.entry t params (params_of (names_of numbers n) n.entry.left) classes (map (class_of numbers) n.kids ++ map (class_of numbers) n.vars) i k.0 one in (
        z.0,
        place_in_list list r.0 z.0 z.1,
        z.2.number ∙ ap (λ (d : Axiom). d.number) (sym r.3.entry),
        params_are z.0 n z.2 ∙ sym e.0,
        numbers_are z.0 n z.2 ∙ sym e.1,
      )

  pub all_known : AreKnown g numbers assumed table list
  all_known = record { within = within; over_ = record { stay = stay; rest = λ b params classes t i. inr (rest b params classes t i) } }
