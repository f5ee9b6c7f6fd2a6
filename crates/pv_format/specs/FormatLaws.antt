-- Formats made of formats: what is spelled is read, and nothing else is.
use Rattle.std.proofs.Common.{◌≡◌, ◌≢◌, ◌&&◌, ◌⊎◌, inl, inr, ℕ, Bool, true, false, cond, map, List, [], ◌∷◌, ◌++◌, Option, Some, None, refl, sym, ap, subst, ◌∙◌, append_assoc}
use Rattle.std.specs.Str.{bytes_eq}
use Rattle.std.proofs.lemmas.Bool.{cond-true, and_from, and_parts}
use Rattle.std.proofs.lemmas.Slice.Eq.{bytes_eq-Decides}
use Rattle.std.specs.Option.{option_map, option_and_then}
use Rattle.std.specs.List.{flat_map, AllByRecursion}
use Rattle.std.proofs.lemmas.List.{append-nil}
use Rattle.pv_format.specs.Formats.{Format, Front}
use Rattle.pv_format.specs.Reading.{take_one, take_pair, read_follow, at_end, read_each, read_pairs, some_of, made, read_canonical, IsCanonical, find_named, read_constant}
use Rattle.pv_format.specs.Options.{some_is, mapped, found, passed}

-- ---- lists

pub all-append : {S : Type 0} (P : S → Type 0) (front back : List S) → AllByRecursion P front → AllByRecursion P back → AllByRecursion P (front ++ back)
all-append P [] back p q = q
all-append P (s ∷ front) back p q = (p.0, all-append P front back p.1 q)

pub cons_some : {S : Type 0} (s : S) (text : List S) → s ∷ text ≢ []
cons_some s text e = absurd (cc)

pub map_some : {A B : Type 0} (f : A → B) (list : List A) → list ≢ [] → map f list ≢ []
map_some f [] some e = some refl
map_some f (a ∷ list) some e = absurd (cc)

-- ---- at the front

pub one_again : {T A : Type 0} {P : T → Type 0} (w : Format P A) (a : A) (rest : List T) → w.fits a → take_one w.reads (w.spells a ∷ rest) ≡ Some (a, rest)
one_again w a rest fits = ap (option_map (λ a. (a, rest))) (w.again a fits)

pub one_back : {T A : Type 0} {P : T → Type 0} (w : Format P A) (text : List T) (a : A) (rest : List T) → take_one w.reads text ≡ Some (a, rest) → w.fits a × (text ≡ w.spells a ∷ rest)
one_back w [] a rest e = absurd (cc)
one_back {T} w (s ∷ text) a rest e =
    let m = mapped (w.reads s) (λ a. (a, text)) (a, rest) e in
    let b = w.back s m.0 m.1 in
    let a_is : m.0 ≡ a = ap (λ p. p.0) m.2 in
    let rest_is : text ≡ rest = ap (λ p. p.1) m.2 in
    (subst w.fits a_is b.0, ap (λ (r : List T). s ∷ r) rest_is ∙ ap (λ (x : T). x ∷ rest) (b.1 ∙ ap w.spells a_is))

pub nothing_back : {S : Type 0} (text : List S) (a : Unit {0}) (rest : List S) → ◌≡◌ {A = Option (Unit {0} × List S)} (Some (tt, text)) (Some (a, rest)) → Unit {0} × (text ≡ rest)
nothing_back {S} text a rest e = (tt, ap (λ (p : Unit {0} × List S). p.1) (some_is (Some (tt, text)) (tt, text) (a, rest) refl e))

pub pair_again : {S A B : Type 0} {P : S → Type 0} (f : Front P A) (g : Front P B) (p : A × B) (rest : List S) → f.fits p.0 × g.fits p.1
    → take_pair f.takes g.takes ((f.spells p.0 ++ g.spells p.1) ++ rest) ≡ Some (p, rest)
pair_again f g p rest fits =
    ap (take_pair f.takes g.takes) (append_assoc (f.spells p.0) (g.spells p.1) rest)
    ∙ ap (option_and_then (λ a. option_map (λ b. ((a.0, b.0), b.1)) (g.takes a.1))) (f.again p.0 (g.spells p.1 ++ rest) fits.0)
    ∙ ap (option_map (λ b. ((p.0, b.0), b.1))) (g.again p.1 rest fits.1)

pub pair_back : {S A B : Type 0} {P : S → Type 0} (f : Front P A) (g : Front P B) (text : List S) (p : A × B) (rest : List S) → take_pair f.takes g.takes text ≡ Some (p, rest)
    → (f.fits p.0 × g.fits p.1) × (text ≡ (f.spells p.0 ++ g.spells p.1) ++ rest)
pair_back {S} {A} {B} f g text p rest e =
    let a = found (f.takes text) (λ a. option_map (λ b. ((a.0, b.0), b.1)) (g.takes a.1)) (p, rest) e in
    let b = mapped (g.takes a.0.1) (λ b. ((a.0.0, b.0), b.1)) (p, rest) a.2 in
    let bf = f.back text a.0.0 a.0.1 a.1 in
    let bg = g.back a.0.1 b.0.0 b.0.1 b.1 in
    subst (λ (q : (A × B) × List S). (f.fits q.0.0 × g.fits q.0.1) × (text ≡ (f.spells q.0.0 ++ g.spells q.0.1) ++ q.1)) b.2
    ((bf.0, bg.0), bf.1 ∙ ap (λ (r : List S). f.spells a.0.0 ++ r) bg.1 ∙ sym (append_assoc (f.spells a.0.0) (g.spells b.0.0) b.0.1))

pub seen_again : {S A B : Type 0} {P : S → Type 0} (to : A → B) (from : B → A) → ((b : B) → to (from b) ≡ b) → (f : Front P A) (b : B) (rest : List S) → f.fits (from b)
    → made to f.takes (f.spells (from b) ++ rest) ≡ Some (b, rest)
seen_again {S} {A} {B} to from there f b rest fits =
    let move : A × List S → B × List S = λ p. (to p.0, p.1) in
    let pack : B → Option (B × List S) = λ x. Some (x, rest) in
    ap (option_map move) (f.again (from b) rest fits) ∙ ap pack (there b)

pub seen_back : {S A B : Type 0} {P : S → Type 0} (to : A → B) (from : B → A) → ((a : A) → from (to a) ≡ a) → (f : Front P A) (text : List S) (b : B) (rest : List S) → made to f.takes text ≡ Some (b, rest)
    → f.fits (from b) × (text ≡ f.spells (from b) ++ rest)
seen_back {S} {A} {B} to from here f text b rest e =
    let m = mapped (f.takes text) (λ p. (to p.0, p.1)) (b, rest) e in
    let k = f.back text m.0.0 m.0.1 m.1 in
    let a_is : m.0.0 ≡ from b = sym (here m.0.0) ∙ ap (λ (p : B × List S). from p.0) m.2 in
    (subst f.fits a_is k.0, k.1 ∙ ap (λ (p : B × List S). f.spells m.0.0 ++ p.1) m.2 ∙ ap (λ (a : A). f.spells a ++ rest) a_is)

-- ---- whole texts

pub follow_again : {S A B : Type 0} {P : S → Type 0} (f : Front P A) (g : Format (AllByRecursion P) B) (p : A × B) → f.fits p.0 × g.fits p.1 → read_follow f.takes g.reads (f.spells p.0 ++ g.spells p.1) ≡ Some p
follow_again f g p fits =
    ap (option_and_then (λ a. option_map (λ b. (a.0, b)) (g.reads a.1))) (f.again p.0 (g.spells p.1) fits.0)
    ∙ ap (option_map (λ b. (p.0, b))) (g.again p.1 fits.1)

pub follow_back : {S A B : Type 0} {P : S → Type 0} (f : Front P A) (g : Format (AllByRecursion P) B) (text : List S) (p : A × B) → read_follow f.takes g.reads text ≡ Some p
    → (f.fits p.0 × g.fits p.1) × (text ≡ f.spells p.0 ++ g.spells p.1)
follow_back {S} {A} {B} f g text p e =
    let a = found (f.takes text) (λ a. option_map (λ b. (a.0, b)) (g.reads a.1)) p e in
    let b = mapped (g.reads a.0.1) (λ b. (a.0.0, b)) p a.2 in
    let bf = f.back text a.0.0 a.0.1 a.1 in
    let bg = g.back a.0.1 b.0 b.1 in
    subst (λ (q : A × B). (f.fits q.0 × g.fits q.1) × (text ≡ f.spells q.0 ++ g.spells q.1)) b.2
    ((bf.0, bg.0), bf.1 ∙ ap (λ (r : List S). f.spells a.0.0 ++ r) bg.1)

ended_is : {S A : Type 0} (p : A × List S) (a : A) → at_end p ≡ Some a → (p.0 ≡ a) × (p.1 ≡ [])
ended_is (x, []) a e = (cc, refl)
ended_is (x, s ∷ rest) a e = absurd (cc)

pub exactly_again : {S A : Type 0} {P : S → Type 0} (f : Front P A) (a : A) → f.fits a → option_and_then at_end (f.takes (f.spells a)) ≡ Some a
exactly_again {S} f a fits = ap (λ (t : List S). option_and_then at_end (f.takes t)) (sym (append-nil (f.spells a))) ∙ ap (option_and_then at_end) (f.again a [] fits)

pub exactly_back : {S A : Type 0} {P : S → Type 0} (f : Front P A) (text : List S) (a : A) → option_and_then at_end (f.takes text) ≡ Some a → f.fits a × (text ≡ f.spells a)
exactly_back {S} f text a e =
    let p = found (f.takes text) at_end a e in
    let is = ended_is p.0 a p.2 in
    let b = f.back text p.0.0 p.0.1 p.1 in
    (subst f.fits is.0 b.0, b.1 ∙ ap (λ (r : List S). f.spells p.0.0 ++ r) is.1 ∙ append-nil (f.spells p.0.0) ∙ ap f.spells is.0)

pub each_again : {T A : Type 0} {P : T → Type 0} (w : Format P A) (list : List A) → AllByRecursion w.fits list → read_each w.reads (map w.spells list) ≡ Some list
each_again w [] fits = refl
each_again w (a ∷ list) fits =
    ap (option_and_then (λ a. option_map (λ more. a ∷ more) (read_each w.reads (map w.spells list)))) (w.again a fits.0)
    ∙ ap (option_map (λ more. a ∷ more)) (each_again w list fits.1)

pub each_back : {T A : Type 0} {P : T → Type 0} (w : Format P A) (texts : List T) (list : List A) → read_each w.reads texts ≡ Some list → AllByRecursion w.fits list × (texts ≡ map w.spells list)
each_back {T} {A} w [] list e = subst (λ (l : List A). AllByRecursion w.fits l × ([] ≡ map w.spells l)) (some_is (Some []) [] list refl e) (tt, refl)
each_back {T} {A} w (text ∷ texts) list e =
    let a = found (w.reads text) (λ a. option_map (λ more. a ∷ more) (read_each w.reads texts)) list e in
    let m = mapped (read_each w.reads texts) (λ more. a.0 ∷ more) list a.2 in
    let b = w.back text a.0 a.1 in
    let c = each_back w texts m.0 m.1 in
    subst (λ (l : List A). AllByRecursion w.fits l × (text ∷ texts ≡ map w.spells l)) m.2
    ((b.0, c.0), ap (λ (x : T). x ∷ texts) b.1 ∙ ap (λ (r : List T). w.spells a.0 ∷ r) c.1)

pub each_proper : {T A : Type 0} {P : T → Type 0} (w : Format P A) (list : List A) → AllByRecursion w.fits list → AllByRecursion P (map w.spells list)
each_proper w [] fits = tt
each_proper w (a ∷ list) fits = (w.proper a fits.0, each_proper w list fits.1)

pub pairs_again : {T A : Type 0} {P : T → Type 0} (w : Format P A) (list : List (A × A)) → AllByRecursion (λ p. w.fits p.0 × w.fits p.1) list
    → read_pairs w.reads (flat_map (λ p. w.spells p.0 ∷ w.spells p.1 ∷ []) list) ≡ Some list
pairs_again w [] fits = refl
pairs_again {T} {A} w (p ∷ list) fits =
    let texts : List T = flat_map (λ p. w.spells p.0 ∷ w.spells p.1 ∷ []) list in
    ap (option_and_then (λ a. option_and_then (λ b. option_map (λ more. (a, b) ∷ more) (read_pairs w.reads texts)) (w.reads (w.spells p.1)))) (w.again p.0 fits.0.0)
    ∙ ap (option_and_then (λ b. option_map (λ more. (p.0, b) ∷ more) (read_pairs w.reads texts))) (w.again p.1 fits.0.1)
    ∙ ap (option_map (λ (more : List (A × A)). p ∷ more)) (pairs_again w list fits.1)

pub pairs_back : {T A : Type 0} {P : T → Type 0} (w : Format P A) (texts : List T) (list : List (A × A)) → read_pairs w.reads texts ≡ Some list
    → AllByRecursion (λ p. w.fits p.0 × w.fits p.1) list × (texts ≡ flat_map (λ p. w.spells p.0 ∷ w.spells p.1 ∷ []) list)
pairs_back {T} {A} w [] list e = subst (λ (l : List (A × A)). AllByRecursion (λ p. w.fits p.0 × w.fits p.1) l × ([] ≡ flat_map (λ p. w.spells p.0 ∷ w.spells p.1 ∷ []) l)) (some_is (Some []) [] list refl e) (tt, refl)
pairs_back w (text ∷ []) list e = absurd (cc)
pairs_back {T} {A} w (first ∷ second ∷ texts) list e =
    let a = found (w.reads first) (λ a. option_and_then (λ b. option_map (λ more. (a, b) ∷ more) (read_pairs w.reads texts)) (w.reads second)) list e in
    let b = found (w.reads second) (λ b. option_map (λ more. (a.0, b) ∷ more) (read_pairs w.reads texts)) list a.2 in
    let m = mapped (read_pairs w.reads texts) (λ more. (a.0, b.0) ∷ more) list b.2 in
    let fa = w.back first a.0 a.1 in
    let fb = w.back second b.0 b.1 in
    let rest = pairs_back w texts m.0 m.1 in
    subst (λ (l : List (A × A)). AllByRecursion (λ p. w.fits p.0 × w.fits p.1) l × (first ∷ second ∷ texts ≡ flat_map (λ p. w.spells p.0 ∷ w.spells p.1 ∷ []) l)) m.2
    (((fa.0, fb.0), rest.0), ap (λ (x : T). x ∷ second ∷ texts) fa.1 ∙ ap (λ (x : T). w.spells a.0 ∷ x ∷ texts) fb.1 ∙ ap (λ (r : List T). w.spells a.0 ∷ w.spells b.0 ∷ r) rest.1)

pub pairs_proper : {T A : Type 0} {P : T → Type 0} (w : Format P A) (list : List (A × A)) → AllByRecursion (λ p. w.fits p.0 × w.fits p.1) list → AllByRecursion P (flat_map (λ p. w.spells p.0 ∷ w.spells p.1 ∷ []) list)
pairs_proper w [] fits = tt
pairs_proper w (p ∷ list) fits = (w.proper p.0 fits.0.0, (w.proper p.1 fits.0.1, pairs_proper w list fits.1))

is_some_of : {A : Type 0} (list : List A) → list ≢ [] → some_of list ≡ Some list
is_some_of [] some = absurd (some refl)
is_some_of (a ∷ list) some = refl

some_of_is : {A : Type 0} (list l : List A) → some_of list ≡ Some l → (list ≡ l) × (l ≢ [])
some_of_is [] l e = absurd (cc)
some_of_is (a ∷ list) [] e = absurd (cc)
some_of_is (a ∷ list) (b ∷ l) e = (some_is (Some (a ∷ list)) (a ∷ list) (b ∷ l) refl e, λ no. absurd (cc))

pub some_again : {T A : Type 0} {P : T → Type 0} (w : Format P (List A)) (list : List A) → (list ≢ []) × w.fits list → option_and_then some_of (w.reads (w.spells list)) ≡ Some list
some_again w list fits = ap (option_and_then some_of) (w.again list fits.1) ∙ is_some_of list fits.0

pub some_back : {T A : Type 0} {P : T → Type 0} (w : Format P (List A)) (text : T) (list : List A) → option_and_then some_of (w.reads text) ≡ Some list → ((list ≢ []) × w.fits list) × (text ≡ w.spells list)
some_back {T} {A} w text list e =
    let f = found (w.reads text) some_of list e in
    let s = some_of_is f.0 list f.2 in
    let b = w.back text f.0 f.1 in
    subst (λ (l : List A). ((list ≢ []) × w.fits l) × (text ≡ w.spells l)) s.0 ((s.1, b.0), b.1)

pub whole_again : {T A B : Type 0} {P : T → Type 0} (to : A → B) (from : B → A) → ((b : B) → to (from b) ≡ b) → (f : Format P A) (b : B) → f.fits (from b) → option_map to (f.reads (f.spells (from b))) ≡ Some b
whole_again {T} {A} {B} to from there f b fits = ap (option_map to) (f.again (from b) fits) ∙ ap (λ (x : B). Some x) (there b)

pub whole_back : {T A B : Type 0} {P : T → Type 0} (to : A → B) (from : B → A) → ((a : A) → from (to a) ≡ a) → (f : Format P A) (text : T) (b : B) → option_map to (f.reads text) ≡ Some b → f.fits (from b) × (text ≡ f.spells (from b))
whole_back to from here f text b e =
    let m = mapped (f.reads text) to b e in
    let k = f.back text m.0 m.1 in
    let a_is : m.0 ≡ from b = sym (here m.0) ∙ ap from m.2 in
    (subst f.fits a_is k.0, k.1 ∙ ap f.spells a_is)

pub within_again : {T U A : Type 0} {P : T → Type 0} {Q : U → Type 0} (outer : Format P U) (inner : Format Q A) → ((u : U) → Q u → outer.fits u) → (a : A) → inner.fits a → option_and_then inner.reads (outer.reads (outer.spells (inner.spells a))) ≡ Some a
within_again outer inner fit a fits = ap (option_and_then inner.reads) (outer.again (inner.spells a) (fit (inner.spells a) (inner.proper a fits))) ∙ inner.again a fits

pub within_back : {T U A : Type 0} {P : T → Type 0} {Q : U → Type 0} (outer : Format P U) (inner : Format Q A) (text : T) (a : A) → option_and_then inner.reads (outer.reads text) ≡ Some a → inner.fits a × (text ≡ outer.spells (inner.spells a))
within_back outer inner text a e =
    let f = found (outer.reads text) inner.reads a e in
    let b = inner.back f.0 a f.2 in
    (b.0, (outer.back text f.0 f.1).1 ∙ ap outer.spells b.1)

-- ---- texts of bytes

pub canonical_again : {A : Type 0} {P : List ℕ → Type 0} {fits : A → Type 0} {test : A → Bool} {spells : A → List ℕ} {means : List ℕ → A} → IsCanonical P fits test spells means → (a : A) → fits a → read_canonical test spells means (spells a) ≡ Some a
canonical_again {A} {P} {fits} {test} {spells} {means} is a fit =
    let same : means (spells a) ≡ a = is.meant a fit in
    cond-true (test (means (spells a)) && bytes_eq (spells (means (spells a))) (spells a)) (Some (means (spells a))) None
    (and_from (test (means (spells a))) (bytes_eq (spells (means (spells a))) (spells a)) (ap test same ∙ is.passes a fit) ((bytes_eq-Decides (spells (means (spells a))) (spells a)).1 (ap spells same)))
    ∙ ap (λ (b : A). Some b) same

pub canonical_back : {A : Type 0} {P : List ℕ → Type 0} {fits : A → Type 0} {test : A → Bool} {spells : A → List ℕ} {means : List ℕ → A} → IsCanonical P fits test spells means → (text : List ℕ) (a : A) → read_canonical test spells means text ≡ Some a → fits a × (text ≡ spells a)
canonical_back {A} {P} {fits} {test} {spells} {means} is text a e =
    let p = passed (test (means text) && bytes_eq (spells (means text)) text) (Some (means text)) a e in
    let t = and_parts (test (means text)) (bytes_eq (spells (means text)) text) p.0 in
    let same : means text ≡ a = some_is (Some (means text)) (means text) a refl p.1 in
    (subst fits same (is.passed (means text) t.0), sym ((bytes_eq-Decides (spells (means text)) text).0 t.1) ∙ ap spells same)

pub constant_again : (text : List ℕ) → read_constant text text ≡ Some tt
constant_again text = cond-true (bytes_eq text text) (Some tt) None ((bytes_eq-Decides text text).1 refl)

pub constant_back : (text t : List ℕ) (a : Unit {0}) → read_constant text t ≡ Some a → Unit {0} × (t ≡ text)
constant_back text t a e = (tt, (bytes_eq-Decides t text).0 (passed (bytes_eq t text) (Some tt) a e).0)

one_more : {A : Type 0} (b : Bool) (x a : A) (more : Option A) → cond b (Some x) more ≡ Some a → ((b ≡ true) × (x ≡ a)) ⊎ (more ≡ Some a)
one_more true x a more e = inl (refl, cc)
one_more false x a more e = inr e

pub named_back : {A : Type 0} (name : A → List ℕ) (all : List A) (word : List ℕ) (a : A) → find_named name all word ≡ Some a → Unit {0} × (word ≡ name a)
named_back name [] word a e = absurd (cc)
named_back name (x ∷ all) word a e =
    elim (one_more (bytes_eq (name x) word) x a (find_named name all word) e) [
      | inl p ↦ (tt, sym ((bytes_eq-Decides (name x) word).0 p.0) ∙ ap name p.1)
      | inr more ↦ named_back name all word a more
    ]

-- ---- what a reader owes

-- a text that is spelled so is read
pub reads_it : {T A : Type 0} {P : T → Type 0} (f : Format P A) (text : T) (a : A) → f.fits a → text ≡ f.spells a → f.reads text ≡ Some a
reads_it f text a fits e = ap f.reads e ∙ f.again a fits
