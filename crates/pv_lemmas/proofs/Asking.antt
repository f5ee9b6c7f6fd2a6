-- What is noted of the nodes of a lemma.
use Rattle.std.specs.Prelude.{◌≡◌, ◌⊎◌, ◌↔◌, ℕ, zero, suc, ◌+◌, ◌<◌, ◌≤◌, Bool, true, false, IsTrue, List, [], ◌∷◌, ◌++◌, length, Some, slice_get, slice_set, Vec, refl}
use Rattle.std.specs.declared.alloc.Global.{Global}
use Rattle.std.proofs.Common.{inl, inr, sym, ap, ◌∙◌, subst, arith}
use Rattle.std.proofs.lemmas.Option.{slice_get_within, same_Some}
use Rattle.std.specs.Bool.{OnTrue, OnFalse}
use Rattle.pv_graph.specs.declared.node.Op.{Op}
use Rattle.pv_graph.specs.declared.node.Op.TheVariants as op
use Rattle.pv_graph.specs.declared.node.OpSort.{OpSort}
use Rattle.pv_graph.specs.Ops.{is_variable}
use Rattle.pv_graph.specs.Forms.{form}
use Rattle.pv_graph.specs.Walks.{In}
use Rattle.pv_graph.specs.Graphs.{Graph, form_at}
use Rattle.pv_graph.proofs.Cited.{equal_or_not, set_same, set_other, in_cases, in_front, in_last, push_cases}
use Rattle.pv_lemmas.specs.Lemmas.{IsUnder, variable, operation}
use Rattle.pv_lemmas.specs.Asked.{Asked, IsAsked, Adds, AddsAll, ArePlaced, IsInner, IsMet, at_variable, at_operation, Meets, AreUnder, MeetsAll, AreSides}

pub in_place : (ks : List ℕ) (p k : ℕ) → slice_get ks p ≡ Some k → In ks k
in_place [] p k e = absurd (cc)
in_place (l ∷ ks) zero k e = inl (same_Some l k e)
in_place (l ∷ ks) (suc p) k e = inr (in_place ks p k e)

pub place_of : (ks : List ℕ) (k : ℕ) → In ks k → (p : ℕ) × (slice_get ks p ≡ Some k)
place_of [] k m = absurd m
place_of (l ∷ ks) k (inl e) = (0, ap Some e)
place_of (l ∷ ks) k (inr m) = let r = place_of ks k m in (suc r.0, r.1)

-- ---- one node

pub adds_none : (asked : Asked) (p n : ℕ) (list : Vec ℕ Global) → slice_get asked p ≡ Some list → In list.items n → Adds asked asked p n
adds_none asked p n list at i q m = (
  inl,
  λ h. elim h [
    | inl there ↦ there
    | inr e ↦ (list, ap (slice_get asked) (sym e.0) ∙ at, subst (In list.items) e.1 i)
  ],
)

module _ (asked : Asked) (p n : ℕ) (list new : Vec ℕ Global) (at : slice_get asked p ≡ Some list) (is : new.items ≡ list.items ++ n ∷ []) where
  here : slice_get (slice_set asked p new) p ≡ Some new
  here = set_same asked p new (slice_get_within asked p list at)

  forth : (q m : ℕ) → IsAsked (slice_set asked p new) q m → IsAsked asked q m ⊎ ((p ≡ q) × (n ≡ m))
  forth q m (l, there, i) = elim (equal_or_not q p) [
    | inl same ↦
        (let one : new ≡ l = same_Some new l (sym here ∙ ap (slice_get (slice_set asked p new)) (sym same) ∙ there) in
        let j : In (list.items ++ n ∷ []) m = subst (λ (xs : List ℕ). In xs m) is (subst (λ (v : Vec ℕ Global). In v.items m) (sym one) i) in
        elim (in_cases list.items n m j) [ inl old ↦ inl (list, ap (slice_get asked) same ∙ at, old) | inr e ↦ inr (sym same, e) ])
    | inr ne ↦ inl (l, sym (set_other asked p new q ne) ∙ there, i)
  ]

  back : (q m : ℕ) → IsAsked asked q m ⊎ ((p ≡ q) × (n ≡ m)) → IsAsked (slice_set asked p new) q m
  back q m (inl (l, there, i)) = elim (equal_or_not q p) [
    | inl same ↦
        (let one : l ≡ list = same_Some l list (sym there ∙ ap (slice_get asked) same ∙ at) in
        (new, ap (slice_get (slice_set asked p new)) same ∙ here, subst (λ (xs : List ℕ). In xs m) (sym is) (in_front list.items n m (subst (λ (v : Vec ℕ Global). In v.items m) one i))))
    | inr ne ↦ (l, set_other asked p new q ne ∙ there, i)
  ]
  back q m (inr (e, f)) = (new, ap (slice_get (slice_set asked p new)) (sym e) ∙ here, subst (λ (xs : List ℕ). In xs m) (sym is) (subst (In (list.items ++ n ∷ [])) f (in_last list.items n)))

  pub adds_push : Adds asked (slice_set asked p new) p n
  adds_push q m = (forth q m, back q m)

-- ---- none

pub none_push : (asked : Asked) (new : Vec ℕ Global) → new.items ≡ [] → ((p n : ℕ) → IsAsked asked p n → ⊥) → (p n : ℕ) → IsAsked (asked ++ new ∷ []) p n → ⊥
none_push asked new empty none p n (list, at, i) = elim (push_cases asked new list p at) [
  | inl old ↦ none p n (list, old, i)
  | inr last ↦ absurd (subst (λ (xs : List ℕ). In xs n) empty (subst (λ (v : Vec ℕ Global). In v.items n) (sym last.1) i))
]

pub none_empty : (asked : Asked) → asked ≡ [] → (p n : ℕ) → IsAsked asked p n → ⊥
none_empty asked empty p n (list, at, i) = absurd (let z = sym at ∙ ap (λ (a : Asked). slice_get a p) empty in cc)

-- ---- kids

-- the first k of these kids
abbrev pub PlacedUpTo : ℕ → List ℕ → List ℕ → ℕ → ℕ → Type 0
PlacedUpTo k kids are q m = (i : ℕ) × (i < k) × (slice_get kids i ≡ Some q) × (slice_get are i ≡ Some m)

abbrev pub AddsUpTo : Asked → Asked → List ℕ → List ℕ → ℕ → Type 0
AddsUpTo old new kids are k = (q m : ℕ) → IsAsked new q m ↔ (IsAsked old q m ⊎ PlacedUpTo k kids are q m)

pub adds_no_kids : (old : Asked) (kids are : List ℕ) → AddsUpTo old old kids are 0
adds_no_kids old kids are q m = (inl, λ h. elim h [ inl z ↦ z | inr z ↦ absurd (let y = z.1 in omega (arith, y)) ])

pub adds_kid : (old mid new : Asked) (kids are : List ℕ) (k p n : ℕ) → AddsUpTo old mid kids are k → Adds mid new p n → slice_get kids k ≡ Some p → slice_get are k ≡ Some n → AddsUpTo old new kids are (k + 1)
adds_kid old mid new kids are k p n first one kid is q m = (
  λ h. elim ((one q m).0 h) [
    | inl there ↦ elim ((first q m).0 there) [ inl z ↦ inl z | inr z ↦ inr (z.0, (let y = z.1 in omega (arith, y)), z.2, z.3) ]
    | inr e ↦ inr (k, omega arith, kid ∙ ap Some e.0, is ∙ ap Some e.1)
  ],
  λ h. elim h [
    | inl z ↦ (one q m).1 (inl ((first q m).1 (inl z)))
    | inr z ↦ elim (equal_or_not z.0 k) [
      | inl same ↦
          (let e : p ≡ q = same_Some p q (sym kid ∙ ap (slice_get kids) (sym same) ∙ z.2) in
          let f : n ≡ m = same_Some n m (sym is ∙ ap (slice_get are) (sym same) ∙ z.3) in
          (one q m).1 (inr (e, f)))
      | inr ne ↦ (one q m).1 (inl ((first q m).1 (inr (z.0, (let y = z.1 in omega (arith, y, ne)), z.2, z.3))))
    ]
  ],
)

pub adds_all : (old new : Asked) (kids are : List ℕ) (k : ℕ) → length kids ≤ k → AddsUpTo old new kids are k → AddsAll old new kids are
adds_all old new kids are k le h q m = (
  λ there. elim ((h q m).0 there) [ inl z ↦ inl z | inr z ↦ inr (z.0, z.2, z.3) ],
  λ z. elim z [
    | inl y ↦ (h q m).1 (inl y)
    | inr y ↦ (h q m).1 (inr (y.0, (let w = slice_get_within kids y.0 q y.1 in omega (arith, w, le)), y.1, y.2))
  ],
)

-- ---- what a node can be

pub on_true : {P : Type 0} (b : Bool) → (IsTrue b → P) → OnTrue b P
on_true true f = f refl
on_true false f = tt

pub on_false : {P : Type 0} (b : Bool) → (b ≡ false → P) → OnFalse b P
on_false true f = tt
on_false false f = f refl

pub true_of : {P : Type 0} (b : Bool) → b ≡ true → OnTrue b P → P
true_of true e p = p
true_of false e p = absurd (cc)

pub false_of : {P : Type 0} (b : Bool) → b ≡ false → OnFalse b P → P
false_of true e p = absurd (cc)
false_of false e p = p

-- an operation that is no variable
pub plain_if : (o : Op) → ((j : ℕ) (s : OpSort) → o ≡ op.Var j s → ⊥) → is_variable o ≡ false
plain_if (op.Var j s) f = absurd (f j s refl)
plain_if o f = refl

module _ (inner : Graph) (nodes : List ℕ) (g : Graph) where
  -- what it says of node p, which is this operation over these kids, that it stands at node n
  data Found (o : Op) (ps : List ℕ) (n : ℕ) : Type 0 where
    by_variable : (j : ℕ) (s : OpSort) → o ≡ op.Var j s → slice_get nodes j ≡ Some n → Found o ps n
    by_operation : is_variable o ≡ false → (ns : List ℕ) → form_at g.nodes n ≡ Some (form o ns) → length ps ≡ length ns → ((k m : ℕ) → ArePlaced ps ns k m → IsUnder inner nodes g k m) → Found o ps n

  same_op : (o q : Op) (ks ls : List ℕ) → Some (form o ks) ≡ Some (form q ls) → o ≡ q
  same_op o q ks ls e = cc

  same_kids : (o q : Op) (ks ls : List ℕ) → Some (form o ks) ≡ Some (form q ls) → ks ≡ ls
  same_kids o q ks ls e = cc

  found_at : (p n : ℕ) (o : Op) (ps : List ℕ) → form_at inner.nodes p ≡ Some (form o ps) → IsUnder inner nodes g p n → Found o ps n
  found_at p n o ps at (variable _ _ j s is get) = by_variable j s (same_op o (op.Var j s) ps [] (sym at ∙ is)) get
  found_at p n o ps at (operation _ _ q qs ns plain is there long kids) =
      let e : o ≡ q = same_op o q ps qs (sym at ∙ is) in
      let f : ps ≡ qs = same_kids o q ps qs (sym at ∙ is) in
      by_operation (ap is_variable e ∙ plain) ns (there ∙ ap (λ (x : Op). Some (form x ns)) (sym e)) (ap length f ∙ long)
      (λ k m placed. kids placed.0 k m (ap (λ (xs : List ℕ). slice_get xs placed.0) (sym f) ∙ placed.1) placed.2)

  module _ (is : IsInner inner) where
    pub variable_meets : (asked : Asked) (p n j : ℕ) (s : OpSort) (ks : List ℕ) → form_at inner.nodes p ≡ Some (form (op.Var j s) ks) → slice_get nodes j ≡ Some n → Meets inner nodes g asked asked p n
    variable_meets asked p n j s ks at get = record {
      met = at_variable p n j s (at ∙ ap (λ (xs : List ℕ). Some (form (op.Var j s) xs)) (is.alone p j s ks at)) get;
      grows = λ q m z. z;
      only = λ q m z. inl z;
    }

    pub operation_meets : (old new : Asked) (p n : ℕ) (o : Op) (ps ns : List ℕ) → is_variable o ≡ false → form_at inner.nodes p ≡ Some (form o ps) → form_at g.nodes n ≡ Some (form o ns) → length ps ≡ length ns
        → AddsAll old new ps ns → Meets inner nodes g old new p n
    operation_meets old new p n o ps ns plain at there long adds = record {
      met = at_operation p n o ps ns plain at there long (λ k m placed. (adds k m).1 (inr placed));
      grows = λ q m z. (adds q m).1 (inl z);
      only = λ q m z. elim ((adds q m).0 z) [
        | inl old ↦ inl old
        | inr placed ↦ inr (is.late p q o ps at (in_place ps placed.0 q placed.1), λ under. kid_under o ps ns plain q m placed there (found_at p n o ps at under))
      ];
    }
      where
        kid_under : (o : Op) (ps ns : List ℕ) → is_variable o ≡ false → (q m : ℕ) → ArePlaced ps ns q m → form_at g.nodes n ≡ Some (form o ns) → Found o ps n → IsUnder inner nodes g q m
        kid_under o ps ns plain q m placed there (by_variable j s e get) = absurd (let z = plain in cc)
        kid_under o ps ns plain q m placed there (by_operation p' ls at' long' kids) =
            let same : ns ≡ ls = same_kids o o ns ls (sym there ∙ at') in
            kids q m (placed.0, placed.1, ap (λ (xs : List ℕ). slice_get xs placed.0) (sym same) ∙ placed.2)

  pub variable_for : (p n j : ℕ) (s : OpSort) (ks : List ℕ) → form_at inner.nodes p ≡ Some (form (op.Var j s) ks) → IsUnder inner nodes g p n → slice_get nodes j ≡ Some n
  variable_for p n j s ks at under = by (found_at p n (op.Var j s) ks at under)
    where
      by : Found (op.Var j s) ks n → slice_get nodes j ≡ Some n
      by (by_variable i r e get) = (let same : j ≡ i = cc in ap (slice_get nodes) same ∙ get)
      by (by_operation plain ns there long kids) = absurd (let z : true ≡ false = plain in cc)

  pub operation_for : (p n : ℕ) (o : Op) (ps : List ℕ) → is_variable o ≡ false → form_at inner.nodes p ≡ Some (form o ps) → IsUnder inner nodes g p n
      → (ns : List ℕ) × (form_at g.nodes n ≡ Some (form o ns)) × (length ps ≡ length ns)
  operation_for p n o ps plain at under = by (found_at p n o ps at under)
    where
      by : Found o ps n → (ns : List ℕ) × (form_at g.nodes n ≡ Some (form o ns)) × (length ps ≡ length ns)
      by (by_variable j s e get) = absurd (let z = plain in cc)
      by (by_operation p' ns there long kids) = (ns, there, long)

-- ---- all that a node has to be

-- a node that can be another one still can where more is noted
met_more : (inner : Graph) (nodes : List ℕ) (g : Graph) (old new : Asked) (p n : ℕ) → ((q m : ℕ) → IsAsked old q m → IsAsked new q m) → IsMet inner nodes g old p n → IsMet inner nodes g new p n
met_more inner nodes g old new p n grows (at_variable _ _ j s at get) = at_variable p n j s at get
met_more inner nodes g old new p n grows (at_operation _ _ o ps ns plain at there long kids) = at_operation p n o ps ns plain at there long (λ k m placed. grows k m (kids k m placed))

-- the first k of those that node p has to be
pub record MeetsUpTo (inner : Graph) (nodes : List ℕ) (g : Graph) (old new : Asked) (p : ℕ) (are : List ℕ) (k : ℕ) : Type 0 where
  pub met : (i n : ℕ) → i < k → slice_get are i ≡ Some n → IsMet inner nodes g new p n
  pub grows : (q m : ℕ) → IsAsked old q m → IsAsked new q m
  pub only : (q m : ℕ) → IsAsked new q m → IsAsked old q m ⊎ ((q < p) × (AreUnder inner nodes g old p → IsUnder inner nodes g q m))

module _ (inner : Graph) (nodes : List ℕ) (g : Graph) where
  pub meets_none : (old : Asked) (p : ℕ) (are : List ℕ) → MeetsUpTo inner nodes g old old p are 0
  meets_none old p are = record { met = λ i n lt. absurd (let z = lt in omega (arith, z)); grows = λ q m z. z; only = λ q m z. inl z }

  module _ (old : Asked) (p : ℕ) (list : Vec ℕ Global) (are : List ℕ) (at : slice_get old p ≡ Some list) (is : are ≡ list.items) where
    -- what stands in the list is noted
    pub noted : (n k : ℕ) → slice_get are k ≡ Some n → IsAsked old p n
    noted n k one = (list, at, subst (λ (xs : List ℕ). In xs n) is (in_place are k n one))

    pub meets_one : (mid new : Asked) (n k : ℕ) → slice_get are k ≡ Some n → MeetsUpTo inner nodes g old mid p are k → Meets inner nodes g mid new p n → MeetsUpTo inner nodes g old new p are (k + 1)
    meets_one mid new n k one first next = record {
      met = λ i m lt get. elim (equal_or_not i k) [
        | inl same ↦ subst (IsMet inner nodes g new p) (same_Some n m (sym one ∙ ap (slice_get are) (sym same) ∙ get)) next.met
        | inr ne ↦ met_more inner nodes g mid new p m next.grows (first.met i m (omega (arith, lt, ne)) get)
      ];
      grows = λ q m z. next.grows q m (first.grows q m z);
      only = λ q m z. elim (next.only q m z) [
        | inl there ↦ first.only q m there
        | inr more ↦ inr (more.0, λ under. more.1 (under n (noted n k one)))
      ];
    }

    pub meets_all : (new : Asked) (k : ℕ) → length are ≤ k → MeetsUpTo inner nodes g old new p are k → MeetsAll inner nodes g old new p
    meets_all new k le h = record { met = met; grows = h.grows; only = h.only }
      where
        low : p < p → ⊥
        low lt = omega (arith, lt)

        met : (n : ℕ) → IsAsked new p n → IsMet inner nodes g new p n
        met n asked = elim (h.only p n asked) [
          | inl (l, there, i) ↦
              (let same : l ≡ list = same_Some l list (sym there ∙ at) in
              let place = place_of are n (subst (λ (xs : List ℕ). In xs n) (sym is) (subst (λ (v : Vec ℕ Global). In v.items n) same i)) in
              h.met place.0 n (let w = slice_get_within are place.0 n place.1 in omega (arith, w, le)) place.1)
          | inr more ↦ absurd (low more.0)
        ]

-- ---- both sides

-- each node of the lemma from k on is all that it has to be
abbrev pub AreMetFrom : Graph → List ℕ → Graph → Asked → ℕ → Type 0
AreMetFrom inner nodes g asked k = (p n : ℕ) → k ≤ p → IsAsked asked p n → IsMet inner nodes g asked p n

pub record AreSought (inner : Graph) (nodes : List ℕ) (g : Graph) (sides at : ℕ × ℕ) (asked : Asked) (k : ℕ) : Type 0 where
  pub long : length asked ≡ length inner.nodes
  pub left : IsAsked asked sides.0 at.0
  pub right : IsAsked asked sides.1 at.1
  pub met : AreMetFrom inner nodes g asked k
  pub needed : AreSides inner nodes g sides at → (p n : ℕ) → IsAsked asked p n → IsUnder inner nodes g p n

module _ (inner : Graph) (nodes : List ℕ) (g : Graph) (sides at : ℕ × ℕ) where
  pub sought_first : (one two three : Asked) → ((p n : ℕ) → IsAsked one p n → ⊥) → Adds one two sides.0 at.0 → Adds two three sides.1 at.1 → length three ≡ length inner.nodes
      → AreSought inner nodes g sides at three (length inner.nodes)
  sought_first one two three none first second long = record {
    long = long;
    left = (second sides.0 at.0).1 (inl ((first sides.0 at.0).1 (inr (refl, refl))));
    right = (second sides.1 at.1).1 (inr (refl, refl));
    met = λ p n le (list, there, i). absurd (let w = slice_get_within three p list there in omega (arith, w, le, long));
    needed = λ are p n asked. elim ((second p n).0 asked) [
      | inl z ↦ elim ((first p n).0 z) [ inl y ↦ absurd (none p n y) | inr e ↦ subst (λ (q : ℕ). IsUnder inner nodes g q n) e.0 (subst (IsUnder inner nodes g sides.0) e.1 are.0) ]
      | inr e ↦ subst (λ (q : ℕ). IsUnder inner nodes g q n) e.0 (subst (IsUnder inner nodes g sides.1) e.1 are.1)
    ];
  }

  pub sought_next : (old new : Asked) (p : ℕ) → length new ≡ length old → AreSought inner nodes g sides at old (p + 1) → MeetsAll inner nodes g old new p → AreSought inner nodes g sides at new p
  sought_next old new p long h all = record {
    long = long ∙ h.long;
    left = all.grows sides.0 at.0 h.left;
    right = all.grows sides.1 at.1 h.right;
    met = met;
    needed = λ are q n asked. elim (all.only q n asked) [
      | inl z ↦ h.needed are q n z
      | inr more ↦ more.1 (λ m z. h.needed are p m z)
    ];
  }
    where
      met : AreMetFrom inner nodes g new p
      met q n le asked = elim (equal_or_not q p) [
        | inl same ↦ subst (λ (k : ℕ). IsMet inner nodes g new k n) (sym same) (all.met n (subst (λ (k : ℕ). IsAsked new k n) same asked))
        | inr ne ↦ elim (all.only q n asked) [
          | inl z ↦ met_more inner nodes g old new q n all.grows (h.met q n (omega (arith, le, ne)) z)
          | inr more ↦ absurd (let w = more.0 in omega (arith, w, le))
        ]
      ]

  -- what all nodes have to be they are
  module _ (is : IsInner inner) (asked : Asked) (met : AreMetFrom inner nodes g asked 0) where
    met_under : (bound p n : ℕ) → p < suc bound → IsMet inner nodes g asked p n → ((q m : ℕ) → q < bound → IsAsked asked q m → IsUnder inner nodes g q m) → IsUnder inner nodes g p n
    met_under bound p n lt (at_variable _ _ j s is' get) below = variable p n j s is' get
    met_under bound p n lt (at_operation _ _ o ps ns plain is' there long kids) below =
        operation p n o ps ns plain is' there long (λ i k m kid are. below k m (let z = is.late p k o ps is' (in_place ps i k kid) in omega (arith, z, lt)) (kids k m (i, kid, are)))

    under_below : (bound p n : ℕ) → p < bound → IsAsked asked p n → IsUnder inner nodes g p n
    under_below zero p n lt there = absurd (let z = lt in omega (arith, z))
    under_below (suc bound) p n lt there = met_under bound p n lt (met p n (omega arith) there) (λ q m low z. under_below bound q m low z)

    pub all_under : (p n : ℕ) → IsAsked asked p n → IsUnder inner nodes g p n
    all_under p n there = under_below (suc p) p n (omega arith) there

  pub sought_all : IsInner inner → (asked : Asked) → AreSought inner nodes g sides at asked 0 → AreSides inner nodes g sides at
  sought_all is asked h = (all_under is asked h.met sides.0 at.0 h.left, all_under is asked h.met sides.1 at.1 h.right)

  pub not_sides : (old : Asked) (p k : ℕ) → AreSought inner nodes g sides at old k → (AreUnder inner nodes g old p → ⊥) → AreSides inner nodes g sides at → ⊥
  not_sides old p k h unmet are = unmet (λ n z. h.needed are p n z)
