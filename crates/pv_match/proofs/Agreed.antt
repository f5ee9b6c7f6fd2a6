-- The matches that are found are all matches of the verdict, each once.
use Rattle.std.proofs.Common.{◌≡◌, ℕ, zero, suc, ◌<◌, List, [], ◌∷◌, ◌++◌, map, Some, slice_get, refl, sym, ap, ap₂, ◌∙◌, subst, arith}
use Rattle.std.specs.List.{AllZip, AllByRecursion}
use Rattle.pv_graph.specs.Walks.{In}
use Rattle.pv_graph.specs.Graphs.{Graph}
use Rattle.pv_pattern.specs.declared.names.NameId.{NameId}
use Rattle.pv_pattern.specs.declared.names.NameId.TheVariants as name
use Rattle.pv_pattern.specs.Patterns.{over, Axiom, variables}
use Rattle.pv_pattern.specs.Binding.{names, names_in, listed_name}
use Rattle.pv_pattern.specs.Found.{head_name}
use Rattle.pv_marks.specs.Classes.{class_of}
use Rattle.pv_match.specs.declared.found.Param.{Param}
use Rattle.pv_match.specs.Standing.{StandsIn}
use Rattle.pv_match.specs.Parameters.{params_of}
use Rattle.pv_match.specs.Matches as found
use Rattle.pv_heights.specs.Filled.{Params}
use Rattle.pv_heights.specs.Sides.{Match}
use Rattle.pv_heights.specs.Matches.{IsMatch, AgreeOn, AreOne}
use Rattle.pv_heights.specs.SameClasses.{IsCongruence}
use Rattle.pv_heights.specs.Searches.{nodes, IsNode, OneClass, base_view, match_of, AreAll}
use Rattle.pv_heights.proofs.Cited.{zip_left, zip_right, one_chain}
use Rattle.pv_match.specs.Reading.{IsReadable}
use Rattle.pv_match.specs.Agreeing.{AreLeast, Found, AreSomeFound, AreFound}
use Rattle.pv_match.proofs.Numbered.{some_once, IsNumber, number_of, one, same_class}
use Rattle.pv_match.proofs.Sound.{found_match, by_cases, split_in}
use Rattle.pv_match.proofs.Full.{names_of, match_back}
use Rattle.pv_match.proofs.Decoded.{Shown, HaveFamilies, no_operation, ends_apart, all_stand_families, same_families, equal_agree, agree_equal}

module _ (g : Graph) (numbers assumed : List ℕ) (table : List Axiom) (a : AreLeast g numbers) (c : IsCongruence (base_view g) (nodes g) (IsNode g) (OneClass numbers)) (read : (e : Axiom) → In table e → IsReadable e) where
  abbrev J : ℕ → ℕ → Type 0
  J = OneClass numbers

  abbrev Is : Axiom → List Param → List ℕ → Type 0
  Is e params classes = found.IsMatch g numbers assumed e params classes

  abbrev Sound : Match ℕ → Type 0
  Sound m = IsMatch (base_view g) assumed table (nodes g) (IsNode g) J m

  self : (xs : List ℕ) → AllByRecursion (IsNumber g numbers a) xs → AllZip J xs xs
  self [] h = tt
  self (x ∷ xs) h = (one g numbers a x x h.0.0 h.0.0 refl, self xs h.1)

  one_list : (xs ys : List ℕ) → AllByRecursion (IsNumber g numbers a) xs → AllByRecursion (IsNumber g numbers a) ys → AllZip J xs ys → xs ≡ ys
  one_list [] [] h k z = refl
  one_list [] (y ∷ ys) h k z = absurd z
  one_list (x ∷ xs) [] h k z = absurd z
  one_list (x ∷ xs) (y ∷ ys) h k z = ap₂ (λ u v. u ∷ v) (sym h.0.1 ∙ (same_class g numbers a x y z.0 ∙ k.0.1)) (one_list xs ys h.1 k.1 z.1)

  families_of : (e : Axiom) (r : IsReadable e) (params : List Param) (classes : List ℕ) (i : Is e params classes) → HaveFamilies i.names r.parts
  families_of e r params classes i =
      let s : StandsIn g numbers i.names (over r.head r.parts) i.at_ = subst (λ p. StandsIn g numbers i.names p i.at_) r.left i.stands in
      all_stand_families g numbers i.names 0 (variables e.left) r.parts r.reads_ s.0 s.2

  module _ (e : Axiom) (t : In table e) (params other : List Param) (classes more : List ℕ) (i : Is e params classes) (k : Is e other more) where
    shown : (n : NameId) → In (names e.left) n → Shown i.names k.names n
    shown name.Depth v = tt
    shown (name.Symbol s) v = tt
    shown (name.Kind s) v = tt
    shown (name.Constant j) v =
        let x = (found_match g numbers assumed table a e t (read e t) params classes i).0.constants j v in
        let y = (found_match g numbers assumed table a e t (read e t) other more k).0.constants j v in
        ((x.1, x.3), (y.1, y.3))
    shown name.Operation v =
        let r = read e t in
        same_families i.names k.names 0 (variables e.left) r.parts r.reads_ r.families_ (families_of e r params classes i) (families_of e r other more k)
        (in_parts r (subst (λ p. In (names p) name.Operation) r.left v))
      where
        in_parts : (r : IsReadable e) → In (names (over r.head r.parts)) name.Operation → In (names_in r.parts) name.Operation
        in_parts r w = by_cases (split_in (listed_name (head_name r.head)) (names_in r.parts) name.Operation w) (λ u. absurd (no_operation r.head u)) (λ u. u)

    -- equal parameters and classes are one match
    pub equal_one : params ≡ other → classes ≡ more → AreOne J (match_of e i.names) (match_of e k.names)
    equal_one p q =
        let s = found_match g numbers assumed table a e t (read e t) params classes i in
        let w = ends_apart i.names.kids k.names.kids i.names.vars k.names.vars (i.fits.long ∙ sym k.fits.long) (sym i.fits.are ∙ (q ∙ k.fits.are)) in
        record {
          entry = refl;
          params = equal_agree i.names k.names e.left shown (sym i.fits.params_ ∙ (p ∙ k.fits.params_));
          kids = subst (λ xs. AllZip J i.names.kids xs) w.0 (self i.names.kids s.1);
          vars = subst (λ xs. AllZip J i.names.vars xs) w.1 (self i.names.vars s.2);
        }

    pub one_equal : AreOne J (match_of e i.names) (match_of e k.names) → (params ≡ other) × (classes ≡ more)
    one_equal o =
        let s = found_match g numbers assumed table a e t (read e t) params classes i in
        let u = found_match g numbers assumed table a e t (read e t) other more k in (
          i.fits.params_ ∙ (agree_equal i.names k.names e.left o.params ∙ sym k.fits.params_),
          i.fits.are ∙ (ap₂ (λ xs ys. xs ++ ys) (one_list i.names.kids k.names.kids s.1 u.1 o.kids) (one_list i.names.vars k.names.vars s.2 u.2 o.vars) ∙ sym k.fits.are),
        )

  -- ---- the list

  -- m is the match that was found
  abbrev pub Sees : Found → Match ℕ → Type 0
  Sees f m = (t : In table f.entry) × (i : Is f.entry f.params f.classes) × (m ≡ match_of f.entry i.names)

  pub seen_all : (fs : List Found) → ((i : ℕ) (f : Found) → slice_get fs i ≡ Some f → In table f.entry × Is f.entry f.params f.classes) → (ms : List (Match ℕ)) × AllZip Sees fs ms
  seen_all [] h = ([], tt)
  seen_all (f ∷ fs) h =
      let k = h zero f refl in let r = seen_all fs (λ i f e. h (suc i) f e) in
      (match_of f.entry k.1.names ∷ r.0, ((k.0, k.1, refl), r.1))

  numbered : (xs : List ℕ) → AllByRecursion (IsNode g) xs → AllZip J xs (map (class_of numbers) xs)
  numbered [] h = tt
  numbered (x ∷ xs) h = let n = number_of g numbers a x h.0 in (one g numbers a x (class_of numbers x) h.0 n.0 (sym n.1), numbered xs h.1)

  pub turn : (x y : ℕ) → J x y → J y x
  turn x y j = (j.0, j.2, j.1)

  pub chain : (x y z : ℕ) → J x y → J y z → J x z
  chain x y z j k = (j.0, j.1, subst (λ v. slice_get numbers z ≡ Some v) (some_once (sym k.1 ∙ j.2)) k.2)

  agree_self : (p : Params) (i : NameId) → AgreeOn p p i
  agree_self p name.Depth = refl
  agree_self p (name.Symbol s) = refl
  agree_self p (name.Kind s) = refl
  agree_self p (name.Constant s) = refl
  agree_self p name.Operation = refl

  -- a match and the one on the numbers of its classes are one
  pub renumbered : (m : Match ℕ) → Sound m → AreOne J m (match_of m.entry (names_of numbers m))
  renumbered m s = record { entry = refl; params = λ i v. agree_self m.params i; kids = numbered m.kids s.kids; vars = numbered m.vars s.vars }

  pub same_parts : (e d : Axiom) → e ≡ d → In table e → (params other : List Param) (classes more : List ℕ) (i : Is e params classes) (k : Is d other more) → AreOne J (match_of e i.names) (match_of d k.names) → (params ≡ other) × (classes ≡ more)
  same_parts e d q t params other classes more i =
      subst (λ d. (k : Is d other more) → AreOne J (match_of e i.names) (match_of d k.names) → (params ≡ other) × (classes ≡ more)) q (λ k o. one_equal e t params other classes more i k o)

  same_found : (f h : Found) (m n : Match ℕ) → Sees f m → Sees h n → AreOne J m n → f ≡ h
  same_found f h m n s u o =
      let l : AreOne J (match_of f.entry s.1.names) (match_of h.entry u.1.names) = subst (λ v. AreOne J v (match_of h.entry u.1.names)) s.2 (subst (λ v. AreOne J m v) u.2 o) in
      let p = same_parts f.entry h.entry l.entry s.0 f.params h.params f.classes h.classes s.1 u.1 l in
      ap (λ e. record f { entry = e }) l.entry ∙ (ap (λ ps. record h { params = ps; classes = f.classes }) p.0 ∙ ap (λ cs. record h { classes = cs }) p.1)

  -- ---- matches, one for each that is found

  pub sees_each : (fs : List Found) (ms : List (Match ℕ)) → AllZip Sees fs ms → (i : ℕ) (m : Match ℕ) → slice_get ms i ≡ Some m → Sound m
  sees_each fs ms zip i m e =
      let z = zip_right Sees fs ms zip i m e in
      subst Sound (sym z.2.2) (found_match g numbers assumed table a z.0.entry z.2.0 (read z.0.entry z.2.0) z.0.params z.0.classes z.2.1).0

  pub sees_once : (fs : List Found) (ms : List (Match ℕ)) → AllZip Sees fs ms → AreSomeFound g numbers assumed table fs → (i j : ℕ) (m n : Match ℕ) → i < j → slice_get ms i ≡ Some m → slice_get ms j ≡ Some n → AreOne J m n → ⊥
  sees_once fs ms zip f i j m n l d e o =
      let y = zip_right Sees fs ms zip i m d in
      let z = zip_right Sees fs ms zip j n e in
      let q = f.once i j z.0 (y.1 ∙ ap Some (same_found y.0 z.0 m n y.2 z.2 o)) z.1 in
      absurd (omega (arith, l, q))

  pub sees_all : (fs : List Found) (ms : List (Match ℕ)) → AllZip Sees fs ms → AreFound g numbers assumed table fs → AreAll (base_view g) assumed table (nodes g) (IsNode g) J ms
  sees_all fs ms zip f = record {
    each = sees_each fs ms zip;
    all = λ m s.
        let b = match_back g numbers a c m assumed table (read m.entry s.of_table) s in
        let x : Found = record { entry = m.entry; params = params_of (names_of numbers m) m.entry.left; classes = map (class_of numbers) m.kids ++ map (class_of numbers) m.vars } in
        let p = f.all x (s.of_table, b.0) in
        let z = zip_left Sees fs ms zip p.0 x p.1 in (
          p.0,
          z.0,
          z.1,
          subst (λ v. AreOne J m v) (sym z.2.2)
              (one_chain J turn chain m (match_of m.entry b.0.names) (match_of m.entry z.2.1.names) (subst (λ k. AreOne J m (match_of m.entry k)) (sym b.1) (renumbered m s))
              (equal_one m.entry s.of_table x.params x.params x.classes x.classes b.0 z.2.1 refl refl)),
        );
    once = sees_once fs ms zip f.some_;
  }
