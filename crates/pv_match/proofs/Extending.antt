-- Bindings under which patterns stand: an operation over kids, and patterns one after the other.
use Rattle.std.specs.Prelude.{◌-◌, take, drop, ◌≡◌, ◌↔◌, ℕ, zero, suc, ◌≤◌, ◌+◌, List, [], ◌∷◌, ◌++◌, map, length, Option, Some, None, slice_get, refl}
use Rattle.std.proofs.Common.{inl, inr, sym, ap, ◌∙◌, subst, arith, get_or, take_all}
use Rattle.std.proofs.lemmas.List.{take_more, drop_all}
use Rattle.std.proofs.Math.Seq.{drop-cons}
use Rattle.std.proofs.lemmas.Option.{same_Some, slice_get_within, get_or_from_slice_get}
use Rattle.pv_pattern.specs.declared.pattern.Pattern as declared
use Rattle.pv_pattern.specs.Seen.{listed, seen}
use Rattle.pv_value.specs.Spelled.{bind}
use Rattle.pv_graph.specs.Walks.{In}
use Rattle.pv_graph.specs.Graphs.{Graph, form_at}
use Rattle.pv_pattern.specs.declared.names.NameId.{NameId}
use Rattle.pv_pattern.specs.Patterns.{Head, Pattern, over, Patterns, none, first}
use Rattle.pv_pattern.specs.Instances.{Names, head_op}
use Rattle.pv_pattern.specs.Binding.{names, names_in, listed_name}
use Rattle.pv_pattern.specs.Found.{head_name, kids_of}
use Rattle.pv_marks.specs.Classes.{class_of}
use Rattle.pv_match.specs.declared.binding.Binding.{Binding}
use Rattle.pv_match.specs.declared.binding.Named.{Named}
use Rattle.pv_match.specs.declared.reader.Start.{Start}
use Rattle.pv_match.proofs.Binds.{agrees_same, empty_agrees}
use Rattle.pv_match.specs.Standing.{StandsIn, AllStandIn}
use Rattle.pv_match.specs.Matches.{StartsAt}
use Rattle.pv_match.specs.Parameters.{once_more}
use Rattle.pv_match.specs.Bindings.{Agrees, SomeAgrees, bound, HasHead, BindsHead, NeverBindsHead, IsRead, AreRead, AddsWhere, AreMembers, AreStarts, head_number, IsEmpty}
use Rattle.pv_match.specs.Reading.{reads, reads_all}
use Rattle.pv_match.proofs.Naming.{once_append, heads_number}
use Rattle.pv_match.proofs.Adding.{in_left, in_right, in_both, adds_none, adds_same, adds_all, adds_more, adds_through}

module _ (g : Graph) (numbers : List ℕ) where
  -- ---- nodes with the operation of a head

  -- .. those that were looked at
  pub record StartsSo (h : Head) (c : ℕ) (b : Binding) (nodes : List ℕ) (starts : List Start) : Type 0 where
    pub sound : (s : Start) → In starts s → (class_of numbers s.node ≡ c) × BindsHead g numbers b h s.node s.binding
    pub full : (m : Names) (n : ℕ) → Agrees g numbers m b → In nodes n → HasHead g m h n → (s : Start) × In starts s × (s.node ≡ n)

  pub starts_none : (h : Head) (c : ℕ) (b : Binding) → StartsSo h c b [] []
  starts_none h c b = record { sound = λ s i. absurd i; full = λ m n a i. absurd i }

  pub starts_more : (h : Head) (c : ℕ) (b : Binding) (nodes : List ℕ) (starts : List Start) (n : ℕ) (s : Start) → StartsSo h c b nodes starts → s.node ≡ n → class_of numbers n ≡ c → BindsHead g numbers b h n s.binding → StartsSo h c b (nodes ++ n ∷ []) (starts ++ s ∷ [])
  starts_more h c b nodes starts n s is e cl binds = record {
    sound = λ t i. elim (in_both starts (s ∷ []) t i) [
      | inl j ↦ is.sound t j
      | inr j ↦ elim j [ inl f ↦ subst (λ (x : Start). (class_of numbers x.node ≡ c) × BindsHead g numbers b h x.node x.binding) f (ap (class_of numbers) e ∙ cl, subst (λ (x : ℕ). BindsHead g numbers b h x s.binding) (sym e) binds) | inr k ↦ absurd k ]
    ];
    full = λ m k a i x. elim (in_both nodes (n ∷ []) k i) [
      | inl j ↦ let y = is.full m k a j x in (y.0, in_left starts (s ∷ []) y.0 y.1, y.2)
      | inr j ↦ elim j [ inl f ↦ (s, in_right starts (s ∷ []) s (inl refl), e ∙ f) | inr l ↦ absurd l ]
    ];
  }

  pub starts_same : (h : Head) (c : ℕ) (b : Binding) (nodes : List ℕ) (starts : List Start) (n : ℕ) → StartsSo h c b nodes starts → NeverBindsHead g numbers b h n → StartsSo h c b (nodes ++ n ∷ []) starts
  starts_same h c b nodes starts n is never = record {
    sound = is.sound;
    full = λ m k a i x. elim (in_both nodes (n ∷ []) k i) [
      | inl j ↦ is.full m k a j x
      | inr j ↦ elim j [ inl f ↦ absurd (never m a (subst (λ (y : ℕ). HasHead g m h y) (sym f) x)) | inr l ↦ absurd l ]
    ];
  }

  pub starts_all : (h : Head) (c : ℕ) (b : Binding) (nodes : List ℕ) (starts : List Start) → AreMembers g numbers c (head_number h) nodes → StartsSo h c b nodes starts → AreStarts g numbers h c b starts
  starts_all h c b nodes starts are is = record {
    sound = is.sound;
    full = λ m cs a f.
        let y = are.1 (head_op m h) cs f (heads_number m h) in
        let s = is.full m y.0 a y.2 (y.1, y.3) in
        (s.0, y.1, s.1, ap (form_at g.nodes) s.2 ∙ y.3, y.4);
  }

  -- ---- an operation over kids, from one of its nodes after the other

  abbrev pub TakenAt : Head → Patterns → Start → Names → Type 0
  TakenAt h ps s m = HasHead g m h s.node × AllStandIn g numbers m ps (map (class_of numbers) (kids_of (form_at g.nodes s.node)))

  abbrev pub Taken : Head → Patterns → List Start → Names → Type 0
  Taken h ps starts m = (s : Start) × In starts s × TakenAt h ps s m

  pub taken_stands : (m : Names) (h : Head) (ps : Patterns) (c : ℕ) (b : Binding) (starts : List Start) → AreStarts g numbers h c b starts → Agrees g numbers m b → Taken h ps starts m ↔ StandsIn g numbers m (over h ps) c
  taken_stands m h ps c b starts are a = (
    (λ x.
        let s = x.0 in
        let y = are.sound s x.1 in
        let kids : kids_of (form_at g.nodes s.node) ≡ x.2.0.0 = ap kids_of x.2.0.1 in (
          map (class_of numbers) x.2.0.0,
          record { node = s.node; kids = x.2.0.0; is = x.2.0.1; here = y.0; classes = refl },
          subst (λ (ks : List ℕ). AllStandIn g numbers m ps (map (class_of numbers) ks)) kids x.2.1,
        )),
    (λ y.
        let s = are.full m y.0 a y.1 in
        let kids : kids_of (form_at g.nodes s.0.node) ≡ s.1 = ap kids_of s.3 in
        (s.0, s.2, ((s.1, s.3), subst (λ (cs : List ℕ). AllStandIn g numbers m ps cs) (sym s.4 ∙ ap (map (class_of numbers)) (sym kids)) y.2))),
  )

  -- .. of a pattern
  abbrev pub TakenFrom : Pattern → Start → Names → Type 0
  TakenFrom (over h ps) s m = TakenAt h ps s m
  TakenFrom p s m = ⊥

  pub taken_from : (old new : List Binding) (from : Binding) (h : Head) (ps : Patterns) (s : Start) → BindsHead g numbers from h s.node s.binding
      → AddsWhere g numbers old new s.binding (λ m. AllStandIn g numbers m ps (map (class_of numbers) (kids_of (form_at g.nodes s.node)))) (names_in ps) (reads_all (length s.binding.vars.items) ps)
      → AddsWhere g numbers old new from (TakenAt h ps s) (names (over h ps)) (reads_all (length from.vars.items) ps)
  taken_from old new from h ps s binds adds =
      subst (λ (k : ℕ). AddsWhere g numbers old new from (TakenAt h ps s) (names (over h ps)) (reads_all k ps)) (ap (λ (xs : List ℕ). length xs) binds.vars)
      (adds_through g numbers old new from s.binding (λ m. AllStandIn g numbers m ps (map (class_of numbers) (kids_of (form_at g.nodes s.node)))) (λ m. HasHead g m h s.node) (listed_name (head_name h)) (names_in ps) (reads_all (length s.binding.vars.items) ps) binds.exact binds.bound_ adds)

  -- ---- one pattern, from one binding after the other

  pub record Extends (bs new : List Binding) (P : Names → Type 0) (ns : List NameId) (known : ℕ → Option ℕ) : Type 0 where
    pub sound : (m : Names) → SomeAgrees g numbers m new → SomeAgrees g numbers m bs × P m
    pub full : (m : Names) → SomeAgrees g numbers m bs → P m → SomeAgrees g numbers m new
    pub shape : (x : Binding) → In new x → (b : Binding) × In bs b × (bound x ≡ once_more (bound b) ns) × (known (length b.vars.items) ≡ Some (length x.vars.items))

  pub extends_none : (P : Names → Type 0) (ns : List NameId) (known : ℕ → Option ℕ) → Extends [] [] P ns known
  extends_none P ns known = record { sound = λ m s. absurd s.1; full = λ m s. absurd s.1; shape = λ x i. absurd i }

  pub extends_more : (bs mid new : List Binding) (b : Binding) (P : Names → Type 0) (ns : List NameId) (known : ℕ → Option ℕ) → Extends bs mid P ns known → AddsWhere g numbers mid new b P ns (known (length b.vars.items)) → Extends (bs ++ b ∷ []) new P ns known
  extends_more bs mid new b P ns known is adds = record {
    sound = λ m s. elim (adds.sound m s) [
      | inl x ↦ let y = is.sound m x in ((y.0.0, in_left bs (b ∷ []) y.0.0 y.0.1, y.0.2), y.1)
      | inr y ↦ ((b, in_right bs (b ∷ []) b (inl refl), y.0), y.1)
    ];
    full = λ m s p. elim (in_both bs (b ∷ []) s.0 s.1) [
      | inl i ↦ let y = is.full m (s.0, i, s.2) p in (y.0, adds.kept y.0 y.1, y.2)
      | inr i ↦ elim i [ inl e ↦ adds.full m (subst (λ (x : Binding). Agrees g numbers m x) (sym e) s.2) p | inr j ↦ absurd j ]
    ];
    shape = λ x i. elim (adds.shape x i) [
      | inl j ↦ let y = is.shape x j in (y.0, in_left bs (b ∷ []) y.0 y.1, y.2, y.3)
      | inr h ↦ (b, in_right bs (b ∷ []) b (inl refl), h.0, h.1)
    ];
  }

  -- ---- patterns one after the other, each in the class of a kid

  module _ (from : Binding) (all : Patterns) (classes : List ℕ) where
    -- the bindings under which the first patterns stand; the others and their classes are left
    pub record Goes (bs : List Binding) (left : Patterns) (rest : List ℕ) : Type 0 where
      pub sound : (m : Names) → SomeAgrees g numbers m bs → AllStandIn g numbers m left rest → Agrees g numbers m from × AllStandIn g numbers m all classes
      pub full : (m : Names) → Agrees g numbers m from → AllStandIn g numbers m all classes → SomeAgrees g numbers m bs × AllStandIn g numbers m left rest
      pub shape : (x : Binding) → In bs x → (once_more (bound x) (names_in left) ≡ once_more (bound from) (names_in all)) × (reads_all (length x.vars.items) left ≡ reads_all (length from.vars.items) all)

    pub goes_begin : (b : Binding) → b.names.items ≡ from.names.items → b.vars.items ≡ from.vars.items → Goes (b ∷ []) all classes
    goes_begin b e f = record {
      sound = λ m s a. (elim s.1 [ inl x ↦ agrees_back m (subst (λ (y : Binding). Agrees g numbers m y) (sym x) s.2) | inr x ↦ absurd x ], a);
      full = λ m h a. ((b, inl refl, agrees_to m h), a);
      shape = λ x i. elim i [
        | inl y ↦ (ap (λ (z : Binding). once_more (bound z) (names_in all)) (sym y) ∙ ap (λ (xs : List Named). once_more (map (λ n. n.name) xs) (names_in all)) e, ap (λ (z : Binding). reads_all (length z.vars.items) all) (sym y) ∙ ap (λ (xs : List ℕ). reads_all (length xs) all) f)
        | inr y ↦ absurd y
      ];
    }
      where
        agrees_back : (m : Names) → Agrees g numbers m b → Agrees g numbers m from
        agrees_back m a = agrees_same g numbers m b from (sym e) (sym f) a

        agrees_to : (m : Names) → Agrees g numbers m from → Agrees g numbers m b
        agrees_to m a = agrees_same g numbers m from b e f a

    pub goes_on : (bs new : List Binding) (p : Pattern) (left : Patterns) (c : ℕ) (rest : List ℕ) → Goes bs (first p left) (c ∷ rest) → Extends bs new (λ m. StandsIn g numbers m p c) (names p) (λ n. reads n p) → Goes new left rest
    goes_on bs new p left c rest is extends = record {
      sound = λ m s a. let y = extends.sound m s in is.sound m y.0 (y.1, a);
      full = λ m a h. let y = is.full m a h in (extends.full m y.0 y.1.0, y.1.1);
      shape = λ x i.
          let y = extends.shape x i in
          let z = is.shape y.0 y.1 in (
            ap (λ (l : List NameId). once_more l (names_in left)) y.2 ∙ (sym (once_append (bound y.0) (names p) (names_in left)) ∙ z.0),
            sym (ap (λ (o : Option ℕ). bind o (λ k. reads_all k left)) y.3) ∙ z.1,
          );
    }

    -- .. the first of them is read
    pub goes_read : (bs : List Binding) (p : Pattern) (left : Patterns) (c : ℕ) (rest : List ℕ) → AreRead (length from.vars.items) all → Goes bs (first p left) (c ∷ rest) → (b : Binding) → In bs b → IsRead (length b.vars.items) p
    goes_read bs p left c rest are is b i = go (reads (length b.vars.items) p) refl ((is.shape b i).1 ∙ are.1)
      where
        go : (o : Option ℕ) → reads (length b.vars.items) p ≡ o → bind o (λ k. reads_all k left) ≡ Some are.0 → IsRead (length b.vars.items) p
        go None e f = absurd (cc)
        go (Some k) e f = (k, e)

    pub goes_short : (old bs : List Binding) (p : Pattern) (left : Patterns) → Goes bs (first p left) [] → AddsWhere g numbers old old from (λ m. AllStandIn g numbers m all classes) (names_in all) (reads_all (length from.vars.items) all)
    goes_short old bs p left is = adds_none g numbers old from (λ m. AllStandIn g numbers m all classes) (names_in all) (reads_all (length from.vars.items) all) (λ m a h. (is.full m a h).1)

    pub goes_long : (old bs : List Binding) (c : ℕ) (rest : List ℕ) → Goes bs none (c ∷ rest) → AddsWhere g numbers old old from (λ m. AllStandIn g numbers m all classes) (names_in all) (reads_all (length from.vars.items) all)
    goes_long old bs c rest is = adds_none g numbers old from (λ m. AllStandIn g numbers m all classes) (names_in all) (reads_all (length from.vars.items) all) (λ m a h. (is.full m a h).1)

    pub goes_end : (old bs : List Binding) → Goes bs none [] → AddsWhere g numbers old (old ++ bs) from (λ m. AllStandIn g numbers m all classes) (names_in all) (reads_all (length from.vars.items) all)
    goes_end old bs is = adds_all g numbers old bs from (λ m. AllStandIn g numbers m all classes) (names_in all) (reads_all (length from.vars.items) all)
        (λ m. ((λ s. is.sound m s tt), (λ h. (is.full m h.0 h.1).0)))
        (λ x i. let y = is.shape x i in (y.0, sym y.1))

module _ (g : Graph) (numbers : List ℕ) where
  abbrev pub TakenOf : Pattern → List Start → Names → Type 0
  TakenOf p starts m = (s : Start) × In starts s × TakenFrom g numbers p s m

  -- one more node of the class, where the pattern is this operation over patterns
  pub start_added : (old mid new : List Binding) (from : Binding) (h : Head) (ps : Patterns) (p : Pattern) (s : Start) (before : List Start) → over h ps ≡ p → BindsHead g numbers from h s.node s.binding
      → AddsWhere g numbers old mid from (TakenOf p before) (names p) (reads (length from.vars.items) p)
      → AddsWhere g numbers mid new s.binding (λ m. AllStandIn g numbers m ps (map (class_of numbers) (kids_of (form_at g.nodes s.node)))) (names_in ps) (reads_all (length s.binding.vars.items) ps)
      → AddsWhere g numbers old new from (TakenOf p (before ++ s ∷ [])) (names p) (reads (length from.vars.items) p)
  start_added old mid new from h ps p s before e binds is adds =
      subst (λ (q : Pattern). AddsWhere g numbers old new from (TakenOf q (before ++ s ∷ [])) (names q) (reads (length from.vars.items) q)) e
      (adds_more g numbers old mid new from (λ t m. TakenAt g numbers h ps t m) before s (names (over h ps)) (reads_all (length from.vars.items) ps)
      (subst (λ (q : Pattern). AddsWhere g numbers old mid from (TakenOf q before) (names q) (reads (length from.vars.items) q)) (sym e) is)
      (taken_from g numbers mid new from h ps s binds adds))

  pub start_none : (old : List Binding) (from : Binding) (p : Pattern) → AddsWhere g numbers old old from (TakenOf p []) (names p) (reads (length from.vars.items) p)
  start_none old from p = adds_none g numbers old from (TakenOf p []) (names p) (reads (length from.vars.items) p) (λ m a h. h.1)

  pub start_ends : (old new : List Binding) (from : Binding) (h : Head) (ps : Patterns) (p : Pattern) (c : ℕ) (starts : List Start) → over h ps ≡ p → AreStarts g numbers h c from starts
      → AddsWhere g numbers old new from (TakenOf p starts) (names p) (reads (length from.vars.items) p)
      → AddsWhere g numbers old new from (λ m. StandsIn g numbers m p c) (names p) (reads (length from.vars.items) p)
  start_ends old new from h ps p c starts e are is =
      subst (λ (q : Pattern). AddsWhere g numbers old new from (λ m. StandsIn g numbers m q c) (names q) (reads (length from.vars.items) q)) e
      (adds_same g numbers old new from (Taken g numbers h ps starts) (λ m. StandsIn g numbers m (over h ps) c) (names (over h ps)) (reads_all (length from.vars.items) ps) (λ m a. taken_stands g numbers m h ps c from starts are a)
      (subst (λ (q : Pattern). AddsWhere g numbers old new from (TakenOf q starts) (names q) (reads (length from.vars.items) q)) (sym e) is))

  pub start_reads : (from b : Binding) (h : Head) (n : ℕ) (ps : Patterns) (p : Pattern) → over h ps ≡ p → BindsHead g numbers from h n b → IsRead (length from.vars.items) p → AreRead (length b.vars.items) ps
  start_reads from b h n ps p e binds read =
      let r : IsRead (length from.vars.items) (over h ps) = subst (λ (q : Pattern). IsRead (length from.vars.items) q) (sym e) read in
      (r.0, ap (λ (xs : List ℕ). reads_all (length xs) ps) binds.vars ∙ r.1)

  -- a left side at a node
  pub read_whole : (h : Head) (ps : Patterns) (n : ℕ) (empty b : Binding) (new : List Binding) → IsEmpty empty → BindsHead g numbers empty h n b → AreRead 0 ps
      → AddsWhere g numbers [] new b (λ m. AllStandIn g numbers m ps (map (class_of numbers) (kids_of (form_at g.nodes n)))) (names_in ps) (reads_all (length b.vars.items) ps)
      → (m : Names) → SomeAgrees g numbers m new ↔ StartsAt g numbers m (over h ps) n
  read_whole h ps n empty b new none_ binds read adds m = (
    (λ s. elim (adds.sound m s) [
      | inl x ↦ absurd x.1
      | inr y ↦ let hh = ((binds.exact m).0 y.0).1 in (hh.0, hh.1, subst (λ (ks : List ℕ). AllStandIn g numbers m ps (map (class_of numbers) ks)) (ap kids_of hh.1) y.1)
    ]),
    (λ x. adds.full m ((binds.exact m).1 (empty_agrees g numbers m empty none_, (x.0, x.1))) (subst (λ (ks : List ℕ). AllStandIn g numbers m ps (map (class_of numbers) ks)) (sym (ap kids_of x.1)) x.2)),
  )

  pub read_shape : (h : Head) (ps : Patterns) (n k : ℕ) (empty b : Binding) (new : List Binding) → IsEmpty empty → BindsHead g numbers empty h n b → reads_all 0 ps ≡ Some k
      → AddsWhere g numbers [] new b (λ m. AllStandIn g numbers m ps (map (class_of numbers) (kids_of (form_at g.nodes n)))) (names_in ps) (reads_all (length b.vars.items) ps)
      → (x : Binding) → In new x → (bound x ≡ once_more [] (names (over h ps))) × (length x.vars.items ≡ k)
  read_shape h ps n k empty b new none_ binds read adds x i = elim (adds.shape x i) [
    | inl j ↦ absurd j
    | inr y ↦ (
      y.0 ∙ (ap (λ (ns : List NameId). once_more ns (names_in ps)) (binds.bound_ ∙ ap (λ (xs : List Named). once_more (map (λ z. z.name) xs) (listed_name (head_name h))) none_.names) ∙ sym (once_append [] (listed_name (head_name h)) (names_in ps))),
      same_Some (length x.vars.items) k (sym y.1 ∙ (ap (λ (xs : List ℕ). reads_all (length xs) ps) (binds.vars ∙ none_.vars) ∙ read)),
    )
  ]

-- ---- lists as loops go over them

pub take_next : {X : Type 0} → (xs : List X) (i : ℕ) (x : X) → slice_get xs i ≡ Some x → take (i + 1) xs ≡ take i xs ++ x ∷ []
take_next xs i x at = take_more xs i x (slice_get_within xs i x at) ∙ ap (λ y. take i xs ++ y ∷ []) (get_or_from_slice_get xs i x x at)

pub drop_next : {X : Type 0} → (xs : List X) (i : ℕ) (x : X) → slice_get xs i ≡ Some x → drop i xs ≡ x ∷ drop (i + 1) xs
drop_next xs i x at =
    let e : suc i ≡ i + 1 = omega arith in
    drop-cons xs i x (slice_get_within xs i x at) ∙ (ap (λ y. y ∷ drop (suc i) xs) (get_or_from_slice_get xs i x x at) ∙ ap (λ (k : ℕ). x ∷ drop k xs) e)

pub get_in : {X : Type 0} → (xs : List X) (i : ℕ) (x : X) → slice_get xs i ≡ Some x → In xs x
get_in [] i x e = absurd (cc)
get_in (y ∷ xs) zero x e = inl (same_Some y x e)
get_in (y ∷ xs) (suc i) x e = inr (get_in xs i x e)

pub first_and_rest : (ks : List ℕ) → 1 ≤ length ks → ks ≡ get_or ks 0 0 ∷ take (length ks - 1) (drop 1 ks)
first_and_rest [] long = absurd (omega arith)
first_and_rest (k ∷ ks) long = ap (λ (ls : List ℕ). k ∷ ls) (sym (take_all (length (k ∷ ks) - 1) ks (omega arith)))

pub none_of : (ks : List ℕ) → length ks ≡ 0 → ks ≡ []
none_of [] e = refl
none_of (k ∷ ks) e = absurd (omega arith)

module _ (g : Graph) (numbers : List ℕ) (from : Binding) (all : Patterns) (classes : List ℕ) where
  -- what is left begins with the pattern and the kid at hand
  pub goes_next : (bs : List Binding) (patterns : List declared.Pattern) (i : ℕ) (item : declared.Pattern) (rest : List ℕ) → slice_get patterns i ≡ Some item → 1 ≤ length rest
      → Goes g numbers from all classes bs (listed (map seen (drop i patterns))) (map (class_of numbers) rest)
      → Goes g numbers from all classes bs (first (seen item) (listed (map seen (drop (i + 1) patterns)))) (class_of numbers (get_or rest 0 0) ∷ map (class_of numbers) (take (length rest - 1) (drop 1 rest)))
  goes_next bs patterns i item rest at long is =
      subst (λ (ks : List ℕ). Goes g numbers from all classes bs (first (seen item) (listed (map seen (drop (i + 1) patterns)))) (map (class_of numbers) ks)) (first_and_rest rest long)
      (subst (λ (ps : List declared.Pattern). Goes g numbers from all classes bs (listed (map seen ps)) (map (class_of numbers) rest)) (drop_next patterns i item at) is)

  pub goes_short_at : (old bs : List Binding) (patterns : List declared.Pattern) (i : ℕ) (item : declared.Pattern) (rest : List ℕ) → slice_get patterns i ≡ Some item → length rest ≡ 0
      → Goes g numbers from all classes bs (listed (map seen (drop i patterns))) (map (class_of numbers) rest)
      → AddsWhere g numbers old old from (λ m. AllStandIn g numbers m all classes) (names_in all) (reads_all (length from.vars.items) all)
  goes_short_at old bs patterns i item rest at empty is =
      goes_short g numbers from all classes old bs (seen item) (listed (map seen (drop (i + 1) patterns)))
      (subst (λ (ks : List ℕ). Goes g numbers from all classes bs (first (seen item) (listed (map seen (drop (i + 1) patterns)))) (map (class_of numbers) ks)) (none_of rest empty)
      (subst (λ (ps : List declared.Pattern). Goes g numbers from all classes bs (listed (map seen ps)) (map (class_of numbers) rest)) (drop_next patterns i item at) is))

  pub goes_at_end : (old bs : List Binding) (patterns : List declared.Pattern) (i : ℕ) (rest : List ℕ) → length patterns ≤ i
      → Goes g numbers from all classes bs (listed (map seen (drop i patterns))) (map (class_of numbers) rest)
      → Goes g numbers from all classes bs none (map (class_of numbers) rest)
  goes_at_end old bs patterns i rest past is = subst (λ (ps : List declared.Pattern). Goes g numbers from all classes bs (listed (map seen ps)) (map (class_of numbers) rest)) (drop_all i patterns past) is

  pub goes_done : (old bs : List Binding) (patterns : List declared.Pattern) (i : ℕ) (rest : List ℕ) → length patterns ≤ i → length rest ≡ 0
      → Goes g numbers from all classes bs (listed (map seen (drop i patterns))) (map (class_of numbers) rest)
      → AddsWhere g numbers old (old ++ bs) from (λ m. AllStandIn g numbers m all classes) (names_in all) (reads_all (length from.vars.items) all)
  goes_done old bs patterns i rest past empty is =
      goes_end g numbers from all classes old bs (subst (λ (ks : List ℕ). Goes g numbers from all classes bs none (map (class_of numbers) ks)) (none_of rest empty) (goes_at_end old bs patterns i rest past is))

  pub goes_too_long : (old bs : List Binding) (patterns : List declared.Pattern) (i : ℕ) (rest : List ℕ) → length patterns ≤ i → 1 ≤ length rest
      → Goes g numbers from all classes bs (listed (map seen (drop i patterns))) (map (class_of numbers) rest)
      → AddsWhere g numbers old old from (λ m. AllStandIn g numbers m all classes) (names_in all) (reads_all (length from.vars.items) all)
  goes_too_long old bs patterns i rest past long is =
      goes_long g numbers from all classes old bs (class_of numbers (get_or rest 0 0)) (map (class_of numbers) (take (length rest - 1) (drop 1 rest)))
      (subst (λ (ks : List ℕ). Goes g numbers from all classes bs none (map (class_of numbers) ks)) (first_and_rest rest long) (goes_at_end old bs patterns i rest past is))
