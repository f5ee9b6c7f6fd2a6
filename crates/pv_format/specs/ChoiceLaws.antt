-- One of several cases: what is spelled is read, and nothing else is.
use Rattle.std.proofs.Common.{◌≡◌, ◌≢◌, List, [], ◌∷◌, ◌++◌, Some, sym, ap, subst, ◌∙◌}
use Rattle.std.specs.Option.{option_map, option_and_then}
use Rattle.std.specs.List.{AllByRecursion}
use Rattle.pv_format.specs.Formats.{Format, Front}
use Rattle.pv_format.specs.Reading.{take_one, made, by_case}
use Rattle.pv_format.specs.Cases.{AreCases}
use Rattle.pv_format.specs.Options.{mapped, found}
use Rattle.pv_format.specs.FormatLaws.{cons_some, one_again, one_back}

pub choice_again : {S H A : Type 0} {P : S → Type 0} (key : Format P H) (Held : H → Type 0) (make : (h : H) → Held h → A) (words : (h : H) → Front P (Held h)) (fits : A → Type 0) (spells : A → List S)
    → AreCases key.fits key.spells Held make (λ h. (words h).fits) (λ h. (words h).spells) fits spells
    → (a : A) (rest : List S) → fits a → by_case key.reads (λ h. made (make h) (words h).takes) (spells a ++ rest) ≡ Some (a, rest)
choice_again {S} {H} {A} key Held make words fits spells are a rest fit =
    let e = are.each a in
    subst (λ (b : A). fits b → by_case key.reads (λ h. made (make h) (words h).takes) (spells b ++ rest) ≡ Some (b, rest)) e.2 (λ f. made_again e.0 e.1 f) fit
  where
    made_again : (h : H) (x : Held h) → fits (make h x) → by_case key.reads (λ h. made (make h) (words h).takes) (spells (make h x) ++ rest) ≡ Some (make h x, rest)
    made_again h x fit =
        ap (λ (t : List S). by_case key.reads (λ h. made (make h) (words h).takes) (t ++ rest)) (are.spelled h x)
        ∙ ap (option_and_then (λ (p : H × List S). made (make p.0) (words p.0).takes p.1)) (one_again key h ((words h).spells x ++ rest) (are.known h))
        ∙ ap (option_map (λ p. (make h p.0, p.1))) ((words h).again x rest (are.fitting h x fit))

pub choice_back : {S H A : Type 0} {P : S → Type 0} (key : Format P H) (Held : H → Type 0) (make : (h : H) → Held h → A) (words : (h : H) → Front P (Held h)) (fits : A → Type 0) (spells : A → List S)
    → AreCases key.fits key.spells Held make (λ h. (words h).fits) (λ h. (words h).spells) fits spells
    → (text : List S) (a : A) (rest : List S) → by_case key.reads (λ h. made (make h) (words h).takes) text ≡ Some (a, rest) → fits a × (text ≡ spells a ++ rest)
choice_back {S} {H} {A} key Held make words fits spells are text a rest e =
    let h = found (take_one key.reads text) (λ p. made (make p.0) (words p.0).takes p.1) (a, rest) e in
    let m = mapped ((words h.0.0).takes h.0.1) (λ p. (make h.0.0 p.0, p.1)) (a, rest) h.2 in
    let name = one_back key text h.0.0 h.0.1 h.1 in
    let b = (words h.0.0).back h.0.1 m.0.0 m.0.1 m.1 in
    subst (λ (p : A × List S). fits p.0 × (text ≡ spells p.0 ++ p.1)) m.2
    (are.fitted h.0.0 m.0.0 b.0, name.1 ∙ ap (λ (t : List S). key.spells h.0.0 ∷ t) b.1 ∙ ap (λ (t : List S). t ++ m.0.1) (sym (are.spelled h.0.0 m.0.0)))

pub whole_choice_again : {S H A : Type 0} {P : S → Type 0} (key : Format P H) (Held : H → Type 0) (make : (h : H) → Held h → A) (words : (h : H) → Format (AllByRecursion P) (Held h)) (fits : A → Type 0) (spells : A → List S)
    → AreCases key.fits key.spells Held make (λ h. (words h).fits) (λ h. (words h).spells) fits spells
    → (a : A) → fits a → by_case key.reads (λ h text. option_map (make h) ((words h).reads text)) (spells a) ≡ Some a
whole_choice_again {S} {H} {A} key Held make words fits spells are a fit =
    let e = are.each a in
    subst (λ (b : A). fits b → by_case key.reads (λ h text. option_map (make h) ((words h).reads text)) (spells b) ≡ Some b) e.2 (λ f. made_again e.0 e.1 f) fit
  where
    made_again : (h : H) (x : Held h) → fits (make h x) → by_case key.reads (λ h text. option_map (make h) ((words h).reads text)) (spells (make h x)) ≡ Some (make h x)
    made_again h x fit =
        ap (by_case key.reads (λ h text. option_map (make h) ((words h).reads text))) (are.spelled h x)
        ∙ ap (option_and_then (λ (p : H × List S). option_map (make p.0) ((words p.0).reads p.1))) (one_again key h ((words h).spells x) (are.known h))
        ∙ ap (option_map (make h)) ((words h).again x (are.fitting h x fit))

pub whole_choice_back : {S H A : Type 0} {P : S → Type 0} (key : Format P H) (Held : H → Type 0) (make : (h : H) → Held h → A) (words : (h : H) → Format (AllByRecursion P) (Held h)) (fits : A → Type 0) (spells : A → List S)
    → AreCases key.fits key.spells Held make (λ h. (words h).fits) (λ h. (words h).spells) fits spells
    → (text : List S) (a : A) → by_case key.reads (λ h text. option_map (make h) ((words h).reads text)) text ≡ Some a → fits a × (text ≡ spells a)
whole_choice_back {S} {H} {A} key Held make words fits spells are text a e =
    let h = found (take_one key.reads text) (λ p. option_map (make p.0) ((words p.0).reads p.1)) a e in
    let m = mapped ((words h.0.0).reads h.0.1) (make h.0.0) a h.2 in
    let name = one_back key text h.0.0 h.0.1 h.1 in
    let b = (words h.0.0).back h.0.1 m.0 m.1 in
    subst (λ (x : A). fits x × (text ≡ spells x)) m.2 (are.fitted h.0.0 m.0 b.0, name.1 ∙ ap (λ (t : List S). key.spells h.0.0 ∷ t) b.1 ∙ sym (are.spelled h.0.0 m.0))

pub choice_proper : {S H A : Type 0} {P : S → Type 0} (key : Format P H) (Held : H → Type 0) (make : (h : H) → Held h → A) (holds : (h : H) → Held h → Type 0) (words : (h : H) → Held h → List S)
    → ((h : H) (x : Held h) → holds h x → AllByRecursion P (words h x)) → (fits : A → Type 0) (spells : A → List S)
    → AreCases key.fits key.spells Held make holds words fits spells → (a : A) → fits a → AllByRecursion P (spells a)
choice_proper {S} {H} {A} {P} key Held make holds words proper fits spells are a fit =
    let e = are.each a in
    subst (λ (b : A). fits b → AllByRecursion P (spells b)) e.2 (λ f. subst (AllByRecursion P) (sym (are.spelled e.0 e.1)) (key.proper e.0 (are.known e.0), proper e.0 e.1 (are.fitting e.0 e.1 f))) fit

-- a spelling begins with the name
pub choice_some : {S H A : Type 0} {named : H → Type 0} {name : H → S} {Held : H → Type 0} {make : (h : H) → Held h → A} {holds : (h : H) → Held h → Type 0} {words : (h : H) → Held h → List S} {fits : A → Type 0} {spells : A → List S}
    → AreCases named name Held make holds words fits spells → (a : A) → spells a ≢ []
choice_some {S} {H} {A} {named} {name} {Held} {make} {holds} {words} {fits} {spells} are a none =
    let e = are.each a in
    cons_some (name e.0) (words e.0 e.1) (sym (are.spelled e.0 e.1) ∙ ap spells e.2 ∙ none)
