-- From bindings to matches.
use Rattle.std.specs.Prelude.{◌≡◌, ◌⊎◌, ◌↔◌, ℕ, pos, zero, suc, ◌≤◌, Bool, true, false, ◌&&◌, ◌||◌, IsTrue, List, [], ◌∷◌, ◌++◌, map, length, Option, Some, None, slice_get, flat_map, if◌then◌else◌, refl}
use Rattle.std.proofs.Common.{inl, inr, sym, ap, ◌∙◌, subst, arith, true≢false, eq-eqb}
use Rattle.std.proofs.lemmas.Option.{slice_get_within, same_Some}
use Rattle.std.proofs.lemmas.List.{map-append}
use Rattle.std.proofs.lemmas.List.Concat.{flat_map-append}
use Rattle.pv_value.specs.Spelled.{bind}
use Rattle.pv_value.specs.declared.heap.Kind.TheVariants as kind
use Rattle.pv_value.specs.declared.number.Num.TheVariants as num
use Rattle.pv_graph.specs.Walks.{In}
use Rattle.pv_graph.specs.Forms.{Form, form}
use Rattle.pv_graph.specs.Graphs.{Graph, form_at}
use Rattle.pv_graph.specs.declared.node.Op.{Op}
use Rattle.pv_graph.specs.declared.node.Op.TheVariants as op
use Rattle.pv_pattern.specs.declared.names.NameId.{NameId}
use Rattle.pv_pattern.specs.declared.names.NameId.TheVariants.{Depth, Symbol, Kind, Constant, Operation}
use Rattle.pv_pattern.specs.Patterns as patt
use Rattle.pv_marks.specs.Marks.{AreClassMarks}
use Rattle.pv_pattern.specs.Patterns.{Atom, number, By, by_symbol, by_kind, Head, fixed, theta_d, eval_d, pass_d, shift_d, getstatic, putstatic, getfield, putfield, load, store, Pattern, var, constant, fold, narrowed, over, over_each, Patterns, none, first, Side, Axiom, variables, variables_of, is_family, is_family_of}
use Rattle.pv_pattern.specs.Instances.{Names, constant_of}
use Rattle.pv_pattern.specs.Binding.{names, names_in, side_names, sides_names, atoms_names, by_name, each_names, binds_all, binds, binds_in, listed_name, BindsItsNames}
use Rattle.pv_pattern.specs.Found.{kids_of, same_name, is_name, empty_symbol, head_name}
use Rattle.std.specs.Prelude.{MatchOption}
use Rattle.pv_graph.specs.declared.node.Node.{Node}
use Rattle.pv_graph.specs.declared.node.OpSort.{OpSort}
use Rattle.pv_graph.specs.declared.node.OpSort.TheVariants.{I, L, A, N, F, T, H, R}
use Rattle.pv_graph.specs.Graphs.{IsGraph, IsUnfinished}
use Rattle.pv_graph.specs.Ops.{is_depth, alike, eval_sort, shift_sort, exactly, sort_over}
use Rattle.pv_graph.proofs.Cited.{node_at, sort_there}
use Rattle.pv_match.specs.Finishing.{HasAt, IsDepthOf}
use Rattle.pv_match.specs.Bindings.{IsEmpty, BindsHead, NeverBindsHead, AddsWhere}
use Rattle.pv_match.specs.Reading.{IsReadable, reads_all}
use Rattle.pv_match.specs.Standing.{AllStandIn}
use Rattle.pv_match.proofs.Binds.{empty_agrees}
use Rattle.pv_match.proofs.Extending.{read_whole, read_shape}
use Rattle.pv_marks.specs.Marks.{trait_of}
use Rattle.pv_marks.specs.Classes.{class_of, ClassHas, Trait, unfree}
use Rattle.pv_match.specs.declared.binding.Named.{Named}
use Rattle.pv_match.specs.declared.binding.Binding.{Binding}
use Rattle.pv_match.specs.declared.found.Param.{Param}
use Rattle.pv_match.specs.declared.found.Match.{Match}
use Rattle.pv_match.specs.Matches.{HoldsIn, Fits}
use Rattle.pv_match.specs.Parameters.{name_params, is_among, once_more}
use Rattle.pv_match.specs.Bindings.{depth_in, symbol_in, kind_in, IsNamed, ShowsAt, Agrees, bound, named, IsPlace, IsWhole}
use Rattle.pv_match.specs.Finishing.{CanShow, all_among, AddsParams, ShowsNothing, AreShown, NoneAgree, AreKids, Completes, AllSided, Sided, all_sides_among, AreReadAt, AreMatchesAt, Matched, NotMatched}
use Rattle.pv_match.proofs.Naming.{same_names}
use Rattle.pv_match.proofs.Adding.{in_left, in_right, in_both}

some_is : {A : Type 0} {a b : A} → Some a ≡ Some b → a ≡ b
some_is {A} {a} {b} e = same_Some a b e

-- ---- names in lists

same_itself : (n : NameId) → same_name n n ≡ true
same_itself Depth = refl
same_itself (Symbol s) = eq-eqb s s refl
same_itself (Kind k) = eq-eqb k k refl
same_itself (Constant j) = eq-eqb j j refl
same_itself Operation = refl

same_turns : (a b : NameId) → same_name a b ≡ false → same_name b a ≡ false
same_turns a b e = go (same_name b a) refl
  where
    go : (t : Bool) → same_name b a ≡ t → same_name b a ≡ false
    go false f = f
    go true f = absurd (true≢false (sym (ap (λ (x : NameId). same_name x b) (sym (same_names b a f)) ∙ same_itself b) ∙ e))

or_false : (a b : Bool) → (a || b) ≡ false → (a ≡ false) × (b ≡ false)
or_false false b e = (refl, e)
or_false true b e = absurd (cc)

or_cases : (a b : Bool) → (a || b) ≡ true → (a ≡ true) ⊎ (b ≡ true)
or_cases true b e = inl refl
or_cases false b e = inr e

or_right : (a b : Bool) → b ≡ true → (a || b) ≡ true
or_right true b e = refl
or_right false b e = e

or_left : (a b : Bool) → a ≡ true → (a || b) ≡ true
or_left true b e = refl
or_left false b e = absurd (cc)

pub or_none : (a b : Bool) → a ≡ false → b ≡ false → (a || b) ≡ false
or_none false b e f = f
or_none true b e f = absurd (cc)

pub among_append : (xs ys : List NameId) (n : NameId) → is_among (xs ++ ys) n ≡ (is_among xs n || is_among ys n)
among_append [] ys n = refl
among_append (x ∷ xs) ys n = ap (λ (t : Bool). same_name x n || t) (among_append xs ys n) ∙ assoc (same_name x n) (is_among xs n) (is_among ys n)
  where
    assoc : (a b c : Bool) → (a || (b || c)) ≡ ((a || b) || c)
    assoc true b c = refl
    assoc false b c = refl

abbrev NoRepeat : List NameId → Type 0
NoRepeat [] = Unit {0}
NoRepeat (n ∷ ns) = (is_among ns n ≡ false) × NoRepeat ns

push_once : (xs : List NameId) (n : NameId) → NoRepeat xs → is_among xs n ≡ false → NoRepeat (xs ++ n ∷ [])
push_once [] n h e = (refl, tt)
push_once (x ∷ xs) n h e =
    let parts = or_false (same_name x n) (is_among xs n) e in
    (among_append xs (n ∷ []) x ∙ or_none (is_among xs x) (is_among (n ∷ []) x) h.0 (or_none (same_name n x) false (same_turns x n parts.0) refl), push_once xs n h.1 parts.1)

once_norepeat : (seen ns : List NameId) → NoRepeat seen → NoRepeat (once_more seen ns)
once_norepeat seen [] h = h
once_norepeat seen (n ∷ ns) h = once_norepeat (if is_among seen n then seen else seen ++ n ∷ []) ns (go (is_among seen n) refl)
  where
    go : (t : Bool) → is_among seen n ≡ t → NoRepeat (if t then seen else seen ++ n ∷ [])
    go true e = h
    go false e = push_once seen n h e

-- what is among the names once each is among them
among_once : (seen ns : List NameId) (n : NameId) → is_among (once_more seen ns) n ≡ (is_among seen n || is_among ns n)
among_once seen [] n = or_nothing (is_among seen n)
  where
    or_nothing : (a : Bool) → a ≡ (a || false)
    or_nothing true = refl
    or_nothing false = refl
among_once seen (m ∷ ns) n = among_once (if is_among seen m then seen else seen ++ m ∷ []) ns n ∙ go (is_among seen m) refl
  where
    assoc : (a b c : Bool) → ((a || (b || false)) || c) ≡ (a || (b || c))
    assoc true b c = refl
    assoc false true c = refl
    assoc false false c = refl

    known : (a b c : Bool) → ((b ≡ true) → a ≡ true) → (a || c) ≡ (a || (b || c))
    known true b c h = refl
    known false true c h = absurd (let e = h refl in cc)
    known false false c h = refl

    go : (t : Bool) → is_among seen m ≡ t → (is_among (if t then seen else seen ++ m ∷ []) n || is_among ns n) ≡ (is_among seen n || (same_name m n || is_among ns n))
    go true e = known (is_among seen n) (same_name m n) (is_among ns n) (λ f. ap (is_among seen) (sym (same_names m n f)) ∙ e)
    go false e = ap (λ (t : Bool). t || is_among ns n) (among_append seen (m ∷ []) n) ∙ assoc (is_among seen n) (same_name m n) (is_among ns n)

pub among_in : (xs : List Named) (x : Named) → In xs x → is_among (map (λ y. y.name) xs) x.name ≡ true
among_in [] x i = absurd i
among_in (y ∷ xs) x (inl e) = or_left (same_name y.name x.name) (is_among (map (λ z. z.name) xs) x.name) (ap (λ (z : Named). same_name z.name x.name) e ∙ same_itself x.name)
among_in (y ∷ xs) x (inr i) = or_right (same_name y.name x.name) (is_among (map (λ z. z.name) xs) x.name) (among_in xs x i)

module _ (g : Graph) (numbers : List ℕ) where
  -- ---- parameters

  pub record ShownSo (names_ : List Named) (params : List Param) : Type 0 where
    pub each : (x : Named) → In names_ x → CanShow g numbers x
    pub are : (m : Names) → ((x : Named) → In names_ x → ShowsAt g numbers m x.name x.node) → params ≡ flat_map (name_params m) (map (λ x. x.name) names_)

  pub shown_none : ShownSo [] []
  shown_none = record { each = λ x i. absurd i; are = λ m h. refl }

  pub shown_more : (xs : List Named) (x : Named) (old new : List Param) → ShownSo xs old → AddsParams g numbers x old new → ShownSo (xs ++ x ∷ []) new
  shown_more xs x old new is adds = record {
    each = λ y i. elim (in_both xs (x ∷ []) y i) [ inl j ↦ is.each y j | inr j ↦ elim j [ inl e ↦ subst (λ (z : Named). CanShow g numbers z) e adds.shows | inr k ↦ absurd k ] ];
    are = λ m h.
        let before : old ≡ flat_map (name_params m) (map (λ y. y.name) xs) = is.are m (λ y i. h y (in_left xs (x ∷ []) y i)) in
        let now : new ≡ old ++ name_params m x.name = adds.params m (h x (in_right xs (x ∷ []) x (inl refl))) in
        now ∙ (ap (λ (ps : List Param). ps ++ name_params m x.name) before
        ∙ (last m xs x ∙ ap (flat_map (name_params m)) (sym (map-append (λ (y : Named). y.name) xs (x ∷ [])))));
  }
    where
      append_none : (ps : List Param) → ps ≡ ps ++ []
      append_none [] = refl
      append_none (p ∷ ps) = ap (λ (qs : List Param). p ∷ qs) (append_none ps)

      last : (m : Names) (ys : List Named) (y : Named) → flat_map (name_params m) (map (λ z. z.name) ys) ++ name_params m y.name ≡ flat_map (name_params m) (map (λ z. z.name) ys ++ y.name ∷ [])
      last m ys y = ap (λ (ps : List Param). flat_map (name_params m) (map (λ z. z.name) ys) ++ ps) (append_none (name_params m y.name)) ∙ sym (flat_map-append (name_params m) (map (λ z. z.name) ys) (y.name ∷ []))

  pub shown_all : (b : Binding) (params : List Param) → ShownSo b.names.items params → AreShown g numbers b params
  shown_all b params is = record { each = is.each; are = λ m a. is.are m a.shown }

  pub shown_not : (b : Binding) (x : Named) → In b.names.items x → ShowsNothing g numbers x → NoneAgree g numbers b
  shown_not b x i nothing m a = nothing m (a.shown x i)

  -- ---- the names that a binding has

  -- the first node of a name
  abbrev place_in : List Named → NameId → Option ℕ
  place_in [] name = None
  place_in (x ∷ xs) name = if same_name x.name name then Some x.node else place_in xs name

  among_has : (xs : List Named) (n : NameId) → is_among (map (λ y. y.name) xs) n ≡ true → (x : Named) × In xs x × (x.name ≡ n)
  among_has [] n e = absurd (cc)
  among_has (y ∷ xs) n e = elim (or_cases (same_name y.name n) (is_among (map (λ z. z.name) xs) n) e) [
    | inl f ↦ (y, inl refl, same_names y.name n f)
    | inr f ↦ let r = among_has xs n f in (r.0, inr r.1, r.2)
  ]

  place_first : (xs : List Named) → NoRepeat (map (λ y. y.name) xs) → (x : Named) → In xs x → place_in xs x.name ≡ Some x.node
  place_first [] h x i = absurd i
  place_first (y ∷ xs) h x (inl e) = ap (λ (t : Bool). if t then Some y.node else place_in xs x.name) (ap (λ (z : Named). same_name z.name x.name) e ∙ same_itself x.name) ∙ ap (λ (z : Named). Some z.node) e
  place_first (y ∷ xs) h x (inr i) = ap (λ (t : Bool). if t then Some y.node else place_in xs x.name) (apart (same_name y.name x.name) refl) ∙ place_first xs h.1 x i
    where
      apart : (t : Bool) → same_name y.name x.name ≡ t → same_name y.name x.name ≡ false
      apart false f = f
      apart true f = absurd (true≢false (sym (ap (is_among (map (λ z. z.name) xs)) (same_names y.name x.name f) ∙ among_in xs x i) ∙ h.0))

  abbrev op_in : Option (Form ℕ) → Option Op
  op_in None = None
  op_in (Some (form o ks)) = Some o

  abbrev or_ : {A : Type 0} → A → Option A → A
  or_ d None = d
  or_ d (Some a) = a

  abbrev shown_by : Binding → NameId → Option Op
  shown_by b name = bind (place_in b.names.items name) (λ n. op_in (form_at g.nodes n))

  abbrev names_of : Binding → List ℕ → Names
  names_of b kids = record {
    depth = or_ 0 (bind (shown_by b Depth) depth_in);
    symbols = λ s. or_ empty_symbol (bind (shown_by b (Symbol s)) symbol_in);
    kinds = λ k. or_ kind.Int (bind (shown_by b (Kind k)) kind_in);
    constants = λ j. or_ (num.Int (pos 0)) (bind (shown_by b (Constant j)) constant_of);
    op_ = or_ op.Unit (shown_by b Operation);
    kids = kids;
    vars = b.vars.items;
  }

  module _ (b : Binding) (kids : List ℕ) (once : NoRepeat (bound b)) (can : (x : Named) → In b.names.items x → CanShow g numbers x) (are : AreKids g numbers b kids) where
    shown_is : (x : Named) → In b.names.items x → (o : Op) (ks : List ℕ) → form_at g.nodes x.node ≡ Some (form o ks) → shown_by b x.name ≡ Some o
    shown_is x i o ks at = ap (λ (p : Option ℕ). bind p (λ n. op_in (form_at g.nodes n))) (place_first b.names.items once x i) ∙ ap op_in at

    operation_kids : (x : Named) → In b.names.items x → x.name ≡ Operation → (ks : List ℕ) {o : Op} → form_at g.nodes x.node ≡ Some (form o ks) → map (class_of numbers) ks ≡ kids
    operation_kids x i e ks {o} at =
        let y = are.some_ (ap (is_among (bound b)) (sym e) ∙ among_in b.names.items x i) in
        let same : x.node ≡ y.0 = same_Some x.node y.0 (sym (place_first b.names.items once x i) ∙ (ap (place_in b.names.items) e ∙ place_first b.names.items once (named Operation y.0) y.1.1)) in
        ap (map (class_of numbers)) (sym (ap kids_of at)) ∙ (ap (λ (n : ℕ). map (class_of numbers) (kids_of (form_at g.nodes n))) same ∙ sym y.2)

    names_shown : (x : Named) → In b.names.items x → (name : NameId) → x.name ≡ name → (m : Names) (o : Op) (ks : List ℕ) → form_at g.nodes x.node ≡ Some (form o ks) → IsNamed m name o (map (class_of numbers) ks) → IsNamed (names_of b kids) name o (map (class_of numbers) ks)
    names_shown x i Depth e m o ks at h = h ∙ ap Some (sym (ap (λ (p : Option Op). or_ 0 (bind p depth_in)) (ap (shown_by b) (sym e) ∙ shown_is x i o ks at) ∙ ap (or_ 0) h))
    names_shown x i (Symbol s) e m o ks at h = h ∙ ap Some (sym (ap (λ (p : Option Op). or_ empty_symbol (bind p symbol_in)) (ap (shown_by b) (sym e) ∙ shown_is x i o ks at) ∙ ap (or_ empty_symbol) h))
    names_shown x i (Kind k) e m o ks at h = h ∙ ap Some (sym (ap (λ (p : Option Op). or_ kind.Int (bind p kind_in)) (ap (shown_by b) (sym e) ∙ shown_is x i o ks at) ∙ ap (or_ kind.Int) h))
    names_shown x i (Constant j) e m o ks at h = h ∙ ap Some (sym (ap (λ (p : Option Op). or_ (num.Int (pos 0)) (bind p constant_of)) (ap (shown_by b) (sym e) ∙ shown_is x i o ks at) ∙ ap (or_ (num.Int (pos 0))) h))
    names_shown x i Operation e m o ks at h = (
      sym (ap (or_ op.Unit) (ap (shown_by b) (sym e) ∙ shown_is x i o ks at)),
      operation_kids x i e ks at,
    )

    pub names_agree : Agrees g numbers (names_of b kids) b
    names_agree = record {
      shown = λ x i. let s = can x i in (s.1.0, s.1.1, s.1.2, names_shown x i x.name refl s.0 s.1.0 s.1.1 s.1.2 s.1.3);
      vars = λ j c e. e;
    }

  -- ---- what a left side names

  atoms_no_family : (atoms : List Atom) → is_among (atoms_names atoms) Operation ≡ false
  atoms_no_family [] = refl
  atoms_no_family (number c ∷ atoms) = atoms_no_family atoms
  atoms_no_family (patt.named j ∷ atoms) = atoms_no_family atoms

  head_no_family : (h : Head) (ns : List NameId) → is_among (listed_name (head_name h) ++ ns) Operation ≡ is_among ns Operation
  head_no_family (fixed o) ns = refl
  head_no_family theta_d ns = refl
  head_no_family eval_d ns = refl
  head_no_family pass_d ns = refl
  head_no_family shift_d ns = refl
  head_no_family (getstatic s) ns = refl
  head_no_family (putstatic s) ns = refl
  head_no_family (getfield s) ns = refl
  head_no_family (putfield s) ns = refl
  head_no_family (load k) ns = refl
  head_no_family (store k) ns = refl

  by_no_family : (t : By) (ns : List NameId) → is_among (by_name t ∷ ns) Operation ≡ is_among ns Operation
  by_no_family (by_symbol s) ns = refl
  by_no_family (by_kind k) ns = refl

  mutual
    family_named : (p : Pattern) → is_among (names p) Operation ≡ is_family p
    family_named (var j) = refl
    family_named (constant j) = refl
    family_named (fold o atoms) = atoms_no_family atoms
    family_named (narrowed t p) = by_no_family t (names p) ∙ family_named p
    family_named (over h ps) = head_no_family h (names_in ps) ∙ families_named ps
    family_named (over_each n e) = refl

    families_named : (ps : Patterns) → is_among (names_in ps) Operation ≡ is_family_of ps
    families_named none = refl
    families_named (first p ps) = among_append (names p) (names_in ps) Operation ∙ (ap (λ (t : Bool). t || is_among (names_in ps) Operation) (family_named p) ∙ ap (λ (t : Bool). is_family p || t) (families_named ps))

  head_binds : (h : Head) (ns : List NameId) (n : NameId) → is_name (head_name h) n ≡ true → is_among (listed_name (head_name h) ++ ns) n ≡ true
  head_binds h ns n e = go (head_name h) e
    where
      go : (o : Option NameId) → is_name o n ≡ true → is_among (listed_name o ++ ns) n ≡ true
      go None f = absurd (true≢false (sym f))
      go (Some m) f = or_left (same_name m n) (is_among ns n) f

  mutual
    binds_named : (p : Pattern) (n : NameId) → binds p n ≡ true → is_among (names p) n ≡ true
    binds_named (var j) n e = absurd (true≢false (sym e))
    binds_named (constant j) n e = or_left (same_name (Constant j) n) false e
    binds_named (fold o atoms) n e = absurd (true≢false (sym e))
    binds_named (narrowed t p) n e = absurd (true≢false (sym e))
    binds_named (over h ps) n e = elim (or_cases (is_name (head_name h) n) (binds_in ps n) e) [
      | inl f ↦ head_binds h (names_in ps) n f
      | inr f ↦ among_append (listed_name (head_name h)) (names_in ps) n ∙ or_right (is_among (listed_name (head_name h)) n) (is_among (names_in ps) n) (binds_in_named ps n f)
    ]
    binds_named (over_each k e') n e = or_left (same_name Operation n) (is_among (each_names e') n) e

    binds_in_named : (ps : Patterns) (n : NameId) → binds_in ps n ≡ true → is_among (names_in ps) n ≡ true
    binds_in_named none n e = absurd (true≢false (sym e))
    binds_in_named (first p ps) n e = among_append (names p) (names_in ps) n ∙ elim (or_cases (binds p n) (binds_in ps n) e) [
      | inl f ↦ or_left (is_among (names p) n) (is_among (names_in ps) n) (binds_named p n f)
      | inr f ↦ or_right (is_among (names p) n) (is_among (names_in ps) n) (binds_in_named ps n f)
    ]

  and_parts : (a b : Bool) → (a && b) ≡ true → (a ≡ true) × (b ≡ true)
  and_parts true b e = (refl, e)
  and_parts false b e = absurd (true≢false (sym e))

  and_both : (a b : Bool) → a ≡ true → b ≡ true → (a && b) ≡ true
  and_both true b e f = f
  and_both false b e f = absurd (true≢false (sym e))

  binds_split : (p : Pattern) (xs ys : List NameId) → binds_all p (xs ++ ys) ≡ true → (binds_all p xs ≡ true) × (binds_all p ys ≡ true)
  binds_split p [] ys e = (refl, e)
  binds_split p (x ∷ xs) ys e =
      let parts = and_parts (binds p x) (binds_all p (xs ++ ys)) e in
      let r = binds_split p xs ys parts.1 in
      (and_both (binds p x) (binds_all p xs) parts.0 r.0, r.1)

  all_bound : (p : Pattern) (ms ns : List NameId) → ((n : NameId) → is_among (names p) n ≡ true → is_among ms n ≡ true) → binds_all p ns ≡ true → all_among ms ns ≡ true
  all_bound p ms [] h e = refl
  all_bound p ms (n ∷ ns) h e =
      let parts = and_parts (binds p n) (binds_all p ns) e in
      and_both (is_among ms n) (all_among ms ns) (h n (binds_named p n parts.0)) (all_bound p ms ns h parts.1)

  sides_bound : (p : Pattern) (ms : List NameId) (ss : List Side) → ((n : NameId) → is_among (names p) n ≡ true → is_among ms n ≡ true) → binds_all p (sides_names ss) ≡ true → all_sides_among ms ss ≡ true
  sides_bound p ms [] h e = refl
  sides_bound p ms (s ∷ ss) h e =
      let parts = binds_split p (side_names s) (sides_names ss) e in
      and_both (all_among ms (side_names s)) (all_sides_among ms ss) (all_bound p ms (side_names s) h parts.0) (sides_bound p ms ss h parts.1)

  -- ---- a match

  same_list : (xs ys : List ℕ) → length ys ≡ length xs → ((j c : ℕ) → slice_get xs j ≡ Some c → slice_get ys j ≡ Some c) → ys ≡ xs
  same_list [] [] e h = refl
  same_list [] (y ∷ ys) e h = absurd (omega arith)
  same_list (x ∷ xs) [] e h = absurd (omega arith)
  same_list (x ∷ xs) (y ∷ ys) e h =
      let first_ : y ≡ x = same_Some y x (h 0 x refl) in
      ap (λ (n : ℕ). n ∷ ys) first_ ∙ ap (λ (zs : List ℕ). x ∷ zs) (same_list xs ys (omega arith) (λ j c f. h (suc j) c f))

  module _ (a : Axiom) (b : Binding) (whole : IsWhole a b) where
    once_each : NoRepeat (bound b)
    once_each = subst NoRepeat (sym whole.bound_) (once_norepeat [] (names a.left) tt)

    among_left : (n : NameId) → is_among (bound b) n ≡ is_among (names a.left) n
    among_left n = ap (λ (ns : List NameId). is_among ns n) whole.bound_ ∙ among_once [] (names a.left) n

    pub sides_are : BindsItsNames a → all_sides_among (bound b) a.sides ≡ true
    sides_are binds_ =
        let parts = binds_split a.left (names a.left) (names a.right ++ sides_names a.sides) binds_ in
        let later = binds_split a.left (names a.right) (sides_names a.sides) parts.1 in
        sides_bound a.left (bound b) a.sides (λ n e. among_left n ∙ e) later.1

    completes : (m : Names) (assumed : List ℕ) (params : List Param) (classes : List ℕ) → Agrees g numbers m b → Fits g numbers assumed a params classes m → Completes g numbers m b
    completes m assumed params classes agrees fits = record { agrees = agrees; long = fits.long ∙ sym whole.known }

    pub not_held : (marks assumed : List ℕ) → AreClassMarks g numbers assumed marks → BindsItsNames a → AllSided g numbers marks b a.sides false → NotMatched g numbers assumed a b
    not_held marks assumed are binds_ sided m params classes agrees fits =
        absurd (true≢false (sym ((sided assumed m are (completes m assumed params classes agrees fits) (sides_are binds_)).1 fits.sides)))

    pub not_shown : (assumed : List ℕ) → NoneAgree g numbers b → NotMatched g numbers assumed a b
    not_shown assumed none_ m params classes agrees fits = none_ m agrees

    pub matched_is : (marks assumed : List ℕ) (x : Match) (params : List Param) (kids : List ℕ) → AreClassMarks g numbers assumed marks → BindsItsNames a → AllSided g numbers marks b a.sides true → AreShown g numbers b params → AreKids g numbers b kids
        → x.axiom ≡ a.number → x.params.items ≡ params → x.classes.items ≡ kids ++ b.vars.items → Matched g numbers assumed a b x
    matched_is marks assumed x params kids are binds_ sided shown kids_ number_ ps cs = record {
      number = number_;
      each = λ n bs read i. record {
        names = names_of b kids;
        starts = (read.exact (names_of b kids)).0 (b, i, mine);
        fits = record {
          sides = (sided assumed (names_of b kids) are (record { agrees = mine; long = refl }) (sides_are binds_)).0 refl;
          long = whole.known;
          alone = λ e. kids_.none (among_left Operation ∙ (family_named a.left ∙ e));
          are = cs;
          params_ = ps ∙ (shown.are (names_of b kids) mine ∙ ap (flat_map (name_params (names_of b kids))) whole.bound_);
        };
      };
      are = λ m qs ds agrees fits. (
        ps ∙ (shown.are m agrees ∙ (ap (flat_map (name_params m)) whole.bound_ ∙ sym fits.params_)),
        cs ∙ (ap (λ (ks : List ℕ). ks ++ b.vars.items) (sym (kids_are m qs ds agrees fits)) ∙ (ap (λ (vs : List ℕ). m.kids ++ vs) (sym (same_list b.vars.items m.vars (fits.long ∙ sym whole.known) agrees.vars)) ∙ sym fits.are)),
      );
    }
      where
        mine : Agrees g numbers (names_of b kids) b
        mine = names_agree b kids once_each shown.each kids_

        kids_are : (m : Names) (qs : List Param) (ds : List ℕ) → Agrees g numbers m b → Fits g numbers assumed a qs ds m → m.kids ≡ kids
        kids_are m qs ds agrees fits = go (is_among (bound b) Operation) refl
          where
            go : (t : Bool) → is_among (bound b) Operation ≡ t → m.kids ≡ kids
            go false e = fits.alone (sym (family_named a.left) ∙ (sym (among_left Operation) ∙ e)) ∙ sym (kids_.none e)
            go true e =
                let y = kids_.some_ e in
                let s = agrees.shown (named Operation y.0) y.1.1 in
                sym s.3.1 ∙ (ap (map (class_of numbers)) (sym (ap kids_of s.2)) ∙ sym y.2)

  -- ---- all bindings of a left side

  pub record MatchedSo (assumed : List ℕ) (a : Axiom) (bs : List Binding) (list : List Match) : Type 0 where
    pub each : (x : Match) → In list x → (b : Binding) × In bs b × Matched g numbers assumed a b x
    pub all : (b : Binding) → In bs b → (m : Names) (params : List Param) (classes : List ℕ) → Agrees g numbers m b → Fits g numbers assumed a params classes m → (x : Match) × In list x × (x.params.items ≡ params) × (x.classes.items ≡ classes)

  pub matched_none : (assumed : List ℕ) (a : Axiom) → MatchedSo assumed a [] []
  matched_none assumed a = record { each = λ x i. absurd i; all = λ b i. absurd i }

  pub matched_more : (assumed : List ℕ) (a : Axiom) (bs : List Binding) (list : List Match) (b : Binding) (x : Match) → MatchedSo assumed a bs list → Matched g numbers assumed a b x → MatchedSo assumed a (bs ++ b ∷ []) (list ++ x ∷ [])
  matched_more assumed a bs list b x is m = record {
    each = λ y i. elim (in_both list (x ∷ []) y i) [
      | inl j ↦ let r = is.each y j in (r.0, in_left bs (b ∷ []) r.0 r.1, r.2)
      | inr j ↦ elim j [ inl e ↦ (b, in_right bs (b ∷ []) b (inl refl), subst (λ (z : Match). Matched g numbers assumed a b z) e m) | inr k ↦ absurd k ]
    ];
    all = λ c i n ps cs agrees fits. elim (in_both bs (b ∷ []) c i) [
      | inl j ↦ let r = is.all c j n ps cs agrees fits in (r.0, in_left list (x ∷ []) r.0 r.1, r.2, r.3)
      | inr j ↦ elim j [
        | inl e ↦ let r = m.are n ps cs (subst (λ (z : Binding). Agrees g numbers n z) (sym e) agrees) fits in (x, in_right list (x ∷ []) x (inl refl), r.0, r.1)
        | inr k ↦ absurd k
      ]
    ];
  }

  pub matched_left : (assumed : List ℕ) (a : Axiom) (bs : List Binding) (list : List Match) (b : Binding) → MatchedSo assumed a bs list → NotMatched g numbers assumed a b → MatchedSo assumed a (bs ++ b ∷ []) list
  matched_left assumed a bs list b is not = record {
    each = λ y i. let r = is.each y i in (r.0, in_left bs (b ∷ []) r.0 r.1, r.2);
    all = λ c i n ps cs agrees fits. elim (in_both bs (b ∷ []) c i) [
      | inl j ↦ is.all c j n ps cs agrees fits
      | inr j ↦ elim j [ inl e ↦ absurd (not n ps cs (subst (λ (z : Binding). Agrees g numbers n z) (sym e) agrees) fits) | inr k ↦ absurd k ]
    ];
  }

  pub matched_all : (assumed : List ℕ) (a : Axiom) (n : ℕ) (bs : List Binding) (list : List Match) → AreReadAt g numbers a.left n bs → MatchedSo assumed a bs list → AreMatchesAt g numbers assumed a n list
  matched_all assumed a n bs list read is = record {
    each = λ x i. let r = is.each x i in (r.2.number, r.2.each n bs read r.1);
    all = λ ps cs m. let s = (read.exact m.names).1 m.starts in is.all s.0 s.1 m.names ps cs s.2 m.fits;
  }

-- the depth of an operation of a graph's node is one
pub depth_range : (g : Graph) → IsGraph g → (n : ℕ) (node : Node) → slice_get g.nodes n ≡ Some node → (d : ℕ) → depth_in node.op ≡ Some d → (1 ≤ d) × (d ≤ 16)
depth_range g whole n node at d e =
    let s = sort_there g whole n (slice_get_within g.nodes n node at) in
    elim (whole.sorted n node s.0 at s.1) [
      | inl sorted ↦ of_sort node.op sorted.sorts s.0 d e sorted.over
      | inr open_ ↦ of_open node s.0 d e open_.1
    ]
  where
    sort_range : (d : ℕ) (o : Option OpSort) (s : OpSort) → (if is_depth d then o else None) ≡ Some s → (1 ≤ d) × (d ≤ 16)
    sort_range d o s e = is_range d (test (is_depth d) e)
      where
        test : (t : Bool) → (if t then o else None) ≡ Some s → t ≡ true
        test true e = refl
        test false e = absurd (cc)

        is_range : (d : ℕ) → is_depth d ≡ true → (1 ≤ d) × (d ≤ 16)
        is_range d e = grind (arith)

    of_sort : (o : Op) (ss : List OpSort) (s : OpSort) (d : ℕ) → depth_in o ≡ Some d → sort_over o ss ≡ Some s → (1 ≤ d) × (d ≤ 16)
    of_sort (op.Theta k) ss s d e f = subst (λ (x : ℕ). (1 ≤ x) × (x ≤ 16)) (same_Some k d e) (sort_range k (alike ss) s f)
    of_sort (op.Eval k) ss s d e f = subst (λ (x : ℕ). (1 ≤ x) × (x ≤ 16)) (same_Some k d e) (sort_range k (eval_sort ss) s f)
    of_sort (op.Pass k) ss s d e f = subst (λ (x : ℕ). (1 ≤ x) × (x ≤ 16)) (same_Some k d e) (sort_range k (exactly (I ∷ []) N ss) s f)
    of_sort (op.Shift k) ss s d e f = subst (λ (x : ℕ). (1 ≤ x) × (x ≤ 16)) (same_Some k d e) (sort_range k (shift_sort ss) s f)
    of_sort o ss s d e f = absurd (cc)

    of_open : (node : Node) (s : OpSort) (d : ℕ) → depth_in node.op ≡ Some d → IsUnfinished node s → (1 ≤ d) × (d ≤ 16)
    of_open node s d e is = of_sort (op.Theta is.depth) (s ∷ s ∷ []) s d (sym (ap depth_in is.theta_) ∙ e) (open_sort is.depth s is.loop is.sort_)
      where
        alike_same : (s : OpSort) → (s ≡ R → ⊥) → alike (s ∷ s ∷ []) ≡ Some s
        alike_same I n = refl
        alike_same L n = refl
        alike_same A n = refl
        alike_same N n = refl
        alike_same F n = refl
        alike_same T n = refl
        alike_same H n = refl
        alike_same R n = absurd (n refl)

        open_sort : (k : ℕ) (s : OpSort) → is_depth k ≡ true → (s ≡ R → ⊥) → sort_over (op.Theta k) (s ∷ s ∷ []) ≡ Some s
        open_sort k s t n = ap (λ (b : Bool). if b then alike (s ∷ s ∷ []) else None) t ∙ alike_same s n

-- ---- the classes of a family's kids

module _ (g : Graph) (numbers : List ℕ) where
  pub kids_some : (b : Binding) (n : ℕ) (kids : List ℕ) → IsPlace b Operation n → kids ≡ map (class_of numbers) (kids_of (form_at g.nodes n)) → AreKids g numbers b kids
  kids_some b n kids place e = record { some_ = λ h. (n, place, e); none = λ h. absurd (true≢false (sym place.0 ∙ h)) }

  pub kids_none : (b : Binding) (kids : List ℕ) → is_among (bound b) Operation ≡ false → kids ≡ [] → AreKids g numbers b kids
  kids_none b kids fresh e = record { some_ = λ h. absurd (true≢false (sym h ∙ fresh)); none = λ h. e }

  -- ---- conditions

  -- a depth that is bound and shown is one
  pub depth_shown : IsGraph g → (m : Names) (b : Binding) → Agrees g numbers m b → is_among (bound b) Depth ≡ true → (1 ≤ m.depth) × (m.depth ≤ 16)
  depth_shown whole m b agrees e =
      let y = among_has g numbers b.names.items Depth e in
      let s = subst (λ (n : NameId). ShowsAt g numbers m n y.0.node) y.2 (agrees.shown y.0 y.1) in
      let node = node_at g.nodes y.0.node s.0 s.1 s.2 in
      depth_range g whole y.0.node node.0 node.1 m.depth (subst (λ (o : Op). depth_in o ≡ Some m.depth) (sym node.2) s.3)

  pub depth_within_is : IsGraph g → (b : Binding) (d : ℕ) (r : Option ℕ) → ((m : Names) → Agrees g numbers m b → m.depth ≡ d) → MatchOption r ((1 ≤ d) × (d ≤ 16) → ⊥) (λ e. (e ≡ d) × (1 ≤ d) × (d ≤ 16))
      → MatchOption r (is_among (bound b) Depth ≡ true → NoneAgree g numbers b) (λ e. IsDepthOf g numbers b e)
  depth_within_is whole b d None is no_ = λ e m agrees. no_ (subst (λ (x : ℕ). (1 ≤ x) × (x ≤ 16)) (is m agrees) (depth_shown whole m b agrees e))
  depth_within_is whole b d (Some k) is h = (subst (λ (x : ℕ). 1 ≤ x) (sym h.0) h.1, subst (λ (x : ℕ). x ≤ 16) (sym h.0) h.2, λ m agrees. is m agrees ∙ sym h.0)

  -- ---- what a bit of the class of a variable says

  vars_same : (m : Names) (b : Binding) → Completes g numbers m b → m.vars ≡ b.vars.items
  vars_same m b c = same_list g numbers b.vars.items m.vars c.long c.agrees.vars

  trait_depth : (d : ℕ) → 1 ≤ d → trait_of d ≡ unfree d
  trait_depth zero h = absurd (omega arith)
  trait_depth (suc d) h = refl

  bit_is : (marks assumed : List ℕ) (b : Binding) (j q : ℕ) (m : Names) (answer : Bool) → q ≤ 16 → AreClassMarks g numbers assumed marks → Completes g numbers m b → (IsTrue answer ↔ HasAt marks b j q)
      → IsTrue answer ↔ ((c : ℕ) × (slice_get m.vars j ≡ Some c) × ClassHas g numbers assumed (trait_of q) c)
  bit_is marks assumed b j q m answer small are c says = (
    (λ t. let h = says.0 t in (h.0, ap (λ (xs : List ℕ). slice_get xs j) (vars_same m b c) ∙ h.1, (are.says q h.0 small).0 h.2)),
    (λ h. says.1 (h.0, ap (λ (xs : List ℕ). slice_get xs j) (sym (vars_same m b c)) ∙ h.1, (are.says q h.0 small).1 h.2)),
  )

  pub sided_settled : (marks : List ℕ) (b : Binding) (j : ℕ) (answer : Bool) → (IsTrue answer ↔ HasAt marks b j 0) → Sided g numbers marks b (patt.settled j) answer
  sided_settled marks b j answer says assumed m are c e = bit_is marks assumed b j 0 m answer (omega arith) are c says

  pub sided_free : (marks : List ℕ) (b : Binding) (j d : ℕ) (answer : Bool) → IsDepthOf g numbers b d → (IsTrue answer ↔ HasAt marks b j d) → Sided g numbers marks b (patt.not_free j) answer
  sided_free marks b j d answer is says assumed m are c e =
      let r = bit_is marks assumed b j d m answer is.1 are c says in
      let f : trait_of d ≡ unfree m.depth = trait_depth d is.0 ∙ ap unfree (sym (is.2 m c.agrees)) in (
        (λ t. let h = r.0 t in (h.0, h.1, subst (λ (x : Trait). ClassHas g numbers assumed x h.0) f h.2)),
        (λ h. r.1 (h.0, h.1, subst (λ (x : Trait). ClassHas g numbers assumed x h.0) (sym f) h.2)),
      )

  pub sided_none : (marks : List ℕ) (b : Binding) (j : ℕ) → (is_among (bound b) Depth ≡ true → NoneAgree g numbers b) → Sided g numbers marks b (patt.not_free j) false
  sided_none marks b j none_ assumed m are c e = absurd (none_ (and_parts g numbers (is_among (bound b) Depth) true e).0 m c.agrees)

  -- ---- all conditions

  pub all_here : (marks : List ℕ) (b : Binding) (s : Side) (ss : List Side) (answer : Bool) → Sided g numbers marks b s answer → (assumed : List ℕ) (m : Names) → AreClassMarks g numbers assumed marks → Completes g numbers m b → all_sides_among (bound b) (s ∷ ss) ≡ true
      → (IsTrue answer ↔ HoldsIn g numbers assumed m s) × (all_sides_among (bound b) ss ≡ true)
  all_here marks b s ss answer sided assumed m are c e =
      let parts = and_parts g numbers (all_among (bound b) (side_names s)) (all_sides_among (bound b) ss) e in
      (sided assumed m are c parts.0, parts.1)

  -- ---- a left side

  pub parts_read : (h : Head) (ps : Patterns) (a : Axiom) → over h ps ≡ a.left → IsReadable a → reads_all 0 ps ≡ Some (variables a.left)
  parts_read h ps a e is =
      let f : over h ps ≡ over is.head is.parts = e ∙ is.left in
      let g' : ps ≡ is.parts = cc in
      ap (λ (qs : Patterns). reads_all 0 qs) g' ∙ is.reads_

  pub shape_whole : (h : Head) (ps : Patterns) (a : Axiom) (n : ℕ) (bs : List Binding) (b : Binding) → over h ps ≡ a.left → AreReadAt g numbers (over h ps) n bs → In bs b → IsWhole a b
  shape_whole h ps a n bs b e read i =
      let s = read.shape b i in
      record { bound_ = s.0 ∙ ap (λ (p : Pattern). once_more [] (names p)) e; known = s.1 ∙ ap variables e }

  pub read_some : (h : Head) (ps : Patterns) (n : ℕ) (empty b : Binding) (new : List Binding) → IsEmpty empty → BindsHead g numbers empty h n b → reads_all 0 ps ≡ Some (variables_of ps)
      → AddsWhere g numbers [] new b (λ m. AllStandIn g numbers m ps (map (class_of numbers) (kids_of (form_at g.nodes n)))) (names_in ps) (reads_all (length b.vars.items) ps) → AreReadAt g numbers (over h ps) n new
  read_some h ps n empty b new none_ binds read adds = record {
    exact = read_whole g numbers h ps n empty b new none_ binds (variables_of ps, read) adds;
    shape = read_shape g numbers h ps n (variables_of ps) empty b new none_ binds read adds;
  }

  pub read_none : (h : Head) (ps : Patterns) (n : ℕ) (empty : Binding) → IsEmpty empty → NeverBindsHead g numbers empty h n → AreReadAt g numbers (over h ps) n []
  read_none h ps n empty none_ never = record {
    exact = λ m. ((λ s. absurd s.1), (λ x. absurd (never m (empty_agrees g numbers m empty none_) (x.0, x.1))));
    shape = λ x i. absurd i;
  }
