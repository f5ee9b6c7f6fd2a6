-- Further formats made of formats: what is spelled is read, and nothing else is.
use Rattle.std.proofs.Common.{◌≡◌, List, [], ◌∷◌, Option, Some, None, refl, sym, ap, subst, ◌∙◌}
use Rattle.std.specs.Option.{option_map, option_and_then}
use Rattle.std.specs.List.{AllByRecursion, flat_map}
use Rattle.std.proofs.lemmas.Bool.{cond-true}
use Rattle.pv_format.specs.Formats.{Format}
use Rattle.pv_format.specs.Grammars.{Test}
use Rattle.pv_format.specs.Reading.{take_one, by_case, read_both}
use Rattle.pv_format.specs.Options.{some_is, mapped, found, passed}
use Rattle.pv_format.specs.FormatLaws.{one_again, one_back}
use Rattle.pv_listing.specs.Cases.{AreCases, ArePart, passes, read_twos}

-- ---- values that pass a test

pub passing_again : {T A : Type 0} {P : T → Type 0} (test : A → Test) (w : Format P A) (a : A) → w.fits a × (test a).Holds → option_and_then (passes test) (w.reads (w.spells a)) ≡ Some a
passing_again test w a fits = ap (option_and_then (passes test)) (w.again a fits.0) ∙ cond-true (test a).tells (Some a) None ((test a).law.1 fits.1)

pub passing_back : {T A : Type 0} {P : T → Type 0} (test : A → Test) (w : Format P A) (text : T) (a : A) → option_and_then (passes test) (w.reads text) ≡ Some a → (w.fits a × (test a).Holds) × (text ≡ w.spells a)
passing_back {T} {A} test w text a e =
    let f = found (w.reads text) (passes test) a e in
    let p = passed (test f.0).tells (Some f.0) a f.2 in
    let is : f.0 ≡ a = some_is (Some f.0) f.0 a refl p.1 in
    let b = w.back text f.0 f.1 in
    subst (λ (x : A). (w.fits x × (test x).Holds) × (text ≡ w.spells x)) is ((b.0, (test f.0).law.0 p.0), b.1)

-- ---- values of a larger type

pub part_again : {T X A : Type 0} {P : T → Type 0} (make : X → A) (w : Format P X) (fits : A → Type 0) (spells : A → T) → ArePart make w.fits w.spells fits spells
    → (a : A) → fits a → option_map make (w.reads (spells a)) ≡ Some a
part_again {T} {X} {A} make w fits spells are a p =
    let x = are.each a p in
    subst (λ (b : A). option_map make (w.reads (spells b)) ≡ Some b) x.1 (ap (λ (t : T). option_map make (w.reads t)) (are.spelled x.0) ∙ ap (option_map make) (w.again x.0 x.2))

pub part_back : {T X A : Type 0} {P : T → Type 0} (make : X → A) (w : Format P X) (fits : A → Type 0) (spells : A → T) → ArePart make w.fits w.spells fits spells
    → (text : T) (a : A) → option_map make (w.reads text) ≡ Some a → fits a × (text ≡ spells a)
part_back {T} {X} {A} make w fits spells are text a e =
    let m = mapped (w.reads text) make a e in
    let b = w.back text m.0 m.1 in
    subst (λ (y : A). fits y × (text ≡ spells y)) m.2 (are.fitted m.0 b.0, b.1 ∙ sym (are.spelled m.0))

pub part_proper : {T X A : Type 0} {P : T → Type 0} (make : X → A) (w : Format P X) (fits : A → Type 0) (spells : A → T) → ArePart make w.fits w.spells fits spells → (a : A) → fits a → P (spells a)
part_proper {T} {X} {A} {P} make w fits spells are a p = let x = are.each a p in subst (λ (b : A). P (spells b)) x.1 (subst P (sym (are.spelled x.0)) (w.proper x.0 x.2))

-- ---- cases that the first symbol tells apart

module _ {S H A : Type 0} {P : S → Type 0} (key : Format P H) (Held : H → Type 0) (make : (h : H) → Held h → A) (words : (h : H) → Format (AllByRecursion P) (Held h)) (fits : A → Type 0) (spells : A → List S)
    (are : AreCases key.fits key.spells Held make (λ h. (words h).fits) (λ h. (words h).spells) fits spells) where
  abbrev go : H → List S → Option A
  go h text = option_map (make h) ((words h).reads text)

  pub keyed_again : (a : A) → fits a → by_case key.reads go (spells a) ≡ Some a
  keyed_again a fit = let e = are.each a in subst (λ (b : A). fits b → by_case key.reads go (spells b) ≡ Some b) e.2 (λ f. made_again e.0 e.1 f) fit
    where
      made_again : (h : H) (x : Held h) → fits (make h x) → by_case key.reads go (spells (make h x)) ≡ Some (make h x)
      made_again h x f =
          let p = are.fitting h x f in
          ap (by_case key.reads go) (are.spelled h x) ∙ ap (option_and_then (λ (p : H × List S). go p.0 p.1)) (one_again key h ((words h).spells x) p.0) ∙ ap (option_map (make h)) ((words h).again x p.1)

  pub keyed_back : (text : List S) (a : A) → by_case key.reads go text ≡ Some a → fits a × (text ≡ spells a)
  keyed_back text a e =
      let h = found (take_one key.reads text) (λ p. go p.0 p.1) a e in
      let m = mapped ((words h.0.0).reads h.0.1) (make h.0.0) a h.2 in
      let name = one_back key text h.0.0 h.0.1 h.1 in
      let b = (words h.0.0).back h.0.1 m.0 m.1 in
      subst (λ (x : A). fits x × (text ≡ spells x)) m.2 (are.fitted h.0.0 m.0 name.0 b.0, name.1 ∙ ap (λ (t : List S). key.spells h.0.0 ∷ t) b.1 ∙ sym (are.spelled h.0.0 m.0))

  pub keyed_proper : (a : A) → fits a → AllByRecursion P (spells a)
  keyed_proper a fit = let e = are.each a in subst (λ (b : A). fits b → AllByRecursion P (spells b)) e.2 (λ f. made_proper e.0 e.1 f) fit
    where
      made_proper : (h : H) (x : Held h) → fits (make h x) → AllByRecursion P (spells (make h x))
      made_proper h x f = let p = are.fitting h x f in subst (AllByRecursion P) (sym (are.spelled h x)) (key.proper h p.0, (words h).proper x p.1)

-- ---- lists of pairs

pub twos_again : {T A B : Type 0} {P : T → Type 0} (f : Format P A) (g : Format P B) (list : List (A × B)) → AllByRecursion (λ p. f.fits p.0 × g.fits p.1) list
    → read_twos f.reads g.reads (flat_map (λ p. f.spells p.0 ∷ g.spells p.1 ∷ []) list) ≡ Some list
twos_again f g [] fits = refl
twos_again {T} {A} {B} f g (p ∷ list) fits =
    let texts : List T = flat_map (λ p. f.spells p.0 ∷ g.spells p.1 ∷ []) list in
    let both : read_both f.reads g.reads (f.spells p.0, g.spells p.1) ≡ Some p =
    ap (option_and_then (λ (a : A). option_map (λ (b : B). (a, b)) (g.reads (g.spells p.1)))) (f.again p.0 fits.0.0) ∙ ap (option_map (λ (b : B). (p.0, b))) (g.again p.1 fits.0.1)
    in
    ap (option_and_then (λ (q : A × B). option_map (λ (more : List (A × B)). q ∷ more) (read_twos f.reads g.reads texts))) both ∙ ap (option_map (λ (more : List (A × B)). p ∷ more)) (twos_again f g list fits.1)

pub twos_back : {T A B : Type 0} {P : T → Type 0} (f : Format P A) (g : Format P B) (texts : List T) (list : List (A × B)) → read_twos f.reads g.reads texts ≡ Some list
    → AllByRecursion (λ p. f.fits p.0 × g.fits p.1) list × (texts ≡ flat_map (λ p. f.spells p.0 ∷ g.spells p.1 ∷ []) list)
twos_back {T} {A} {B} f g [] list e = subst (λ (l : List (A × B)). AllByRecursion (λ p. f.fits p.0 × g.fits p.1) l × ([] ≡ flat_map (λ p. f.spells p.0 ∷ g.spells p.1 ∷ []) l)) (some_is (Some []) [] list refl e) (tt, refl)
twos_back f g (text ∷ []) list e = absurd (cc)
twos_back {T} {A} {B} f g (first ∷ second ∷ texts) list e =
    let p = found (read_both f.reads g.reads (first, second)) (λ p. option_map (λ more. p ∷ more) (read_twos f.reads g.reads texts)) list e in
    let a = found (f.reads first) (λ a. option_map (λ b. (a, b)) (g.reads second)) p.0 p.1 in
    let b = mapped (g.reads second) (λ b. (a.0, b)) p.0 a.2 in
    let m = mapped (read_twos f.reads g.reads texts) (λ more. p.0 ∷ more) list p.2 in
    let fa = f.back first a.0 a.1 in
    let gb = g.back second b.0 b.1 in
    let rest = twos_back f g texts m.0 m.1 in
    let here : (f.fits p.0.0 × g.fits p.0.1) × (first ≡ f.spells p.0.0) × (second ≡ g.spells p.0.1) =
    subst (λ (q : A × B). (f.fits q.0 × g.fits q.1) × (first ≡ f.spells q.0) × (second ≡ g.spells q.1)) b.2 ((fa.0, gb.0), fa.1, gb.1)
    in
    subst (λ (l : List (A × B)). AllByRecursion (λ p. f.fits p.0 × g.fits p.1) l × (first ∷ second ∷ texts ≡ flat_map (λ p. f.spells p.0 ∷ g.spells p.1 ∷ []) l)) m.2
    ((here.0, rest.0), ap (λ (x : T). x ∷ second ∷ texts) here.1 ∙ ap (λ (x : T). f.spells p.0.0 ∷ x ∷ texts) here.2 ∙ ap (λ (r : List T). f.spells p.0.0 ∷ g.spells p.0.1 ∷ r) rest.1)

pub twos_proper : {T A B : Type 0} {P : T → Type 0} (f : Format P A) (g : Format P B) (list : List (A × B)) → AllByRecursion (λ p. f.fits p.0 × g.fits p.1) list → AllByRecursion P (flat_map (λ p. f.spells p.0 ∷ g.spells p.1 ∷ []) list)
twos_proper f g [] fits = tt
twos_proper f g (p ∷ list) fits = (f.proper p.0 fits.0.0, (g.proper p.1 fits.0.1, twos_proper f g list fits.1))
