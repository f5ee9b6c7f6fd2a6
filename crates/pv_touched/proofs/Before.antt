-- A match at a node that is untouched was one at the earlier look.
use Rattle.std.proofs.Common.{◌≡◌, ◌⊎◌, ℕ, zero, suc, ◌+◌, ◌<◌, ◌≤◌, Bool, true, false, ◌||◌, ◌&&◌, List, [], ◌∷◌, ◌++◌, map, length, Some, None, slice_get, inl, inr, refl, sym, ◌∙◌, subst, arith, tests, nat_lt, nat_eq, if◌then◌else◌}
use Rattle.std.specs.Int.{bit_at}
use Rattle.std.specs.List.{AllZip, AllByRecursion}
use Rattle.std.proofs.lemmas.Option.{slice_get_within}
use Rattle.pv_graph.specs.declared.node.Op.{Op}
use Rattle.pv_graph.specs.Forms.{form}
use Rattle.pv_graph.specs.Walks.{In}
use Rattle.pv_graph.specs.Graphs.{Graph, form_at, IsGraph, Extends}
use Rattle.pv_value.specs.declared.number.Num.{Num}
use Rattle.pv_pattern.specs.declared.names.NameId.{NameId}
use Rattle.pv_pattern.specs.declared.names.NameId.TheVariants as name
use Rattle.pv_pattern.specs.Patterns.{Head, fixed, theta_d, eval_d, pass_d, shift_d, getstatic, putstatic, getfield, putfield, load, store, bare, shifted, evaluated, Pattern, var, constant, fold, narrowed, over, over_each, Patterns, none, first, Side, settled, not_free, symbols_differ, kinds_differ, not_byte, constants_differ, Axiom, variables}
use Rattle.pv_pattern.specs.Instances.{Names, head_op}
use Rattle.pv_pattern.specs.Found.{head_name, is_name}
use Rattle.pv_pattern.specs.Binding.{names, side_names, sides_names, binds, binds_in, binds_all, BindsItsNames}
use Rattle.pv_marks.specs.Classes.{class_of, HasForm, Trait, unfree, ClassHas}
use Rattle.pv_marks.specs.Marks.{trait_of, AreClassMarks}
use Rattle.pv_match.specs.declared.found.Param.{Param}
use Rattle.pv_match.specs.Bindings.{depth_in}
use Rattle.pv_match.specs.Standing.{HoldsConstant, IsEachIn, StandsIn, AllStandIn}
use Rattle.pv_match.specs.Matches.{HoldsIn, StartsAt, IsMatchAt}
use Rattle.pv_match.specs.Reading.{next_var, reads, reads_all, IsReadable}
use Rattle.pv_touched.specs.declared.since.Since.{Since}
use Rattle.pv_touched.specs.Looks.{looks_within, all_within, parts_within}
use Rattle.pv_touched.specs.Far.{Stayed, IsFar, AllFar, IsUntouched}
use Rattle.pv_touched.proofs.Clear.{far_stayed}
use Rattle.pv_touched.proofs.Onward.{bind_some, is_there, kid_there, map_same, same_form}

-- ---- tests

both_true : (a b : Bool) → (a && b) ≡ true → (a ≡ true) × (b ≡ true)
both_true true b e = (refl, e)
both_true false b e = absurd (cc)

either_true : (a b : Bool) → (a || b) ≡ true → (a ≡ true) ⊎ (b ≡ true)
either_true true b e = inl refl
either_true false b e = inr e

some_once : {A : Type 0} {a b : A} → Some a ≡ Some b → a ≡ b
some_once e = cc

number_cases : (i n k : ℕ) → next_var n i ≡ Some k → ((i < n) × (k ≡ n)) ⊎ ((i ≡ n) × (k ≡ n + 1))
number_cases i n k e = go (nat_lt i n) (nat_eq i n) refl refl e
  where
    go : (a b : Bool) → nat_lt i n ≡ a → nat_eq i n ≡ b → (if a then Some n else (if b then Some (n + 1) else None)) ≡ Some k → ((i < n) × (k ≡ n)) ⊎ ((i ≡ n) × (k ≡ n + 1))
    go true b p q f = inl (grind (arith, tests, p), sym (some_once f))
    go false true p q f = inr (grind (arith, tests, q), sym (some_once f))
    go false false p q f = absurd (cc)

-- ---- the names of conditions are bound

bound_there : (p : Pattern) (ns : List NameId) (n : NameId) → binds_all p ns ≡ true → In ns n → binds p n ≡ true
bound_there p [] n e i = absurd i
bound_there p (m ∷ ns) n e (inl same) = subst (λ k. binds p k ≡ true) same (both_true (binds p m) (binds_all p ns) e).0
bound_there p (m ∷ ns) n e (inr i) = bound_there p ns n (both_true (binds p m) (binds_all p ns) e).1 i

in_right : {A : Type 0} (xs ys : List A) (x : A) → In ys x → In (xs ++ ys) x
in_right [] ys x i = i
in_right (y ∷ xs) ys x i = inr (in_right xs ys x i)

in_left : {A : Type 0} (xs ys : List A) (x : A) → In xs x → In (xs ++ ys) x
in_left [] ys x i = absurd i
in_left (y ∷ xs) ys x (inl e) = inl e
in_left (y ∷ xs) ys x (inr i) = inr (in_left xs ys x i)

side_there : (ss : List Side) (s : Side) (n : NameId) → In ss s → In (side_names s) n → In (sides_names ss) n
side_there [] s n i j = absurd i
side_there (t ∷ ss) s n (inl e) j = in_left (side_names t) (sides_names ss) n (subst (λ u. In (side_names u) n) (sym e) j)
side_there (t ∷ ss) s n (inr i) j = in_right (side_names t) (sides_names ss) n (side_there ss s n i j)

side_bound : (a : Axiom) → BindsItsNames a → (s : Side) (n : NameId) → In a.sides s → In (side_names s) n → binds a.left n ≡ true
side_bound a b s n i j =
    bound_there a.left (names a.left ++ (names a.right ++ sides_names a.sides)) n b
    (in_right (names a.left) (names a.right ++ sides_names a.sides) n (in_right (names a.right) (sides_names a.sides) n (side_there a.sides s n i j)))

module _ (e g : Graph) (ie : IsGraph e) (ig : IsGraph g) (grown : Extends e g) (s : Since) (long_old : length s.old_numbers.now ≡ length e.nodes) (long : length s.numbers.now ≡ length g.nodes) where
  abbrev f : ℕ → ℕ
  f = class_of s.numbers.now

  abbrev old : List ℕ
  old = s.old_numbers.now

  within : (n : ℕ) → n < length g.nodes → n < length s.numbers.now
  within n lt = omega (arith, lt, long)

  -- a node of a class that stayed
  was_there : (n c : ℕ) → n < length g.nodes → f n ≡ c → Stayed s c → (n < length e.nodes) × (class_of old n ≡ c)
  was_there n c lt at stayed = let m = stayed.members n (within n lt) at in (omega (arith, m.0, long_old), m.1)

  node_before : (n : ℕ) (o : Op) (ks : List ℕ) → n < length e.nodes → form_at g.nodes n ≡ Some (form o ks) → form_at e.nodes n ≡ Some (form o ks)
  node_before n o ks lt at = sym (same_form e g ie grown n lt) ∙ at

  node_now : (n : ℕ) (o : Op) (ks : List ℕ) → form_at g.nodes n ≡ Some (form o ks) → n < length g.nodes
  node_now n o ks at = is_there g g ig (record { nodes = λ k node x. x; sorts = λ k o x. x }) n o ks at

  kid_now : (n k : ℕ) (o : Op) (ks : List ℕ) → form_at g.nodes n ≡ Some (form o ks) → In ks k → k < length g.nodes
  kid_now n k o ks at i = kid_there g g ig (record { nodes = λ k node x. x; sorts = λ k o x. x }) n k o ks at i

  all_same : (n : ℕ) (o : Op) (ks : List ℕ) → form_at g.nodes n ≡ Some (form o ks) → ((k : ℕ) → In ks k → Stayed s (f k)) → map (class_of old) ks ≡ map f ks
  all_same n o ks at stayed = map_same (class_of old) f ks (λ k i. (was_there k (f k) (kid_now n k o ks at i) refl (stayed k i)).1)

  form_before : (c : ℕ) (o : Op) (cs : List ℕ) (h : HasForm g s.numbers.now c o cs) → Stayed s c → ((k : ℕ) → In h.kids k → Stayed s (f k)) → HasForm e old c o cs
  form_before c o cs h stayed kids =
      let w = was_there h.node c (node_now h.node o h.kids h.is) h.here stayed in
      record { node = h.node; kids = h.kids; is = node_before h.node o h.kids w.0 h.is; here = w.1; classes = all_same h.node o h.kids h.is kids ∙ h.classes }

  no_kids : (ks : List ℕ) → map f ks ≡ [] → (k : ℕ) → In ks k → Stayed s (f k)
  no_kids [] x k i = absurd i
  no_kids (j ∷ ks) x k i = absurd (cc)

  constant_before : (c : ℕ) (n : Num) → Stayed s c → HoldsConstant g s.numbers.now c n → HoldsConstant e old c n
  constant_before c n stayed h = (h.0, form_before c h.0 [] h.1 stayed (no_kids h.1.kids h.1.classes), h.2)

  module _ (m : Names) where
    abbrev Stands : Pattern → ℕ → Type 0
    Stands p c = StandsIn g s.numbers.now m p c

    abbrev AllStand : Patterns → List ℕ → Type 0
    AllStand ps ks = AllStandIn g s.numbers.now m ps (map f ks)

    each_before : (ks cs : List ℕ) → AllZip (IsEachIn g s.numbers.now m bare) ks cs → AllZip (IsEachIn e old m bare) ks cs
    each_before [] [] z = tt
    each_before [] (c ∷ cs) z = absurd z
    each_before (k ∷ ks) [] z = absurd z
    each_before (k ∷ ks) (c ∷ cs) z = (z.0, each_before ks cs z.1)

    mutual
      stands_before : (d : ℕ) (p : Pattern) → looks_within d p ≡ true → (c : ℕ) → IsFar g s d c → Stands p c → StandsIn e old m p c
      stands_before d (var j) w c far h = h
      stands_before d (constant j) w c far h = (h.0, constant_before c (m.constants j) (far_stayed g s d c far) h.1)
      stands_before d (fold o atoms) w c far h = absurd (no_fold d w)
        where
          no_fold : (d : ℕ) → looks_within d (fold o atoms) ≡ true → ⊥
          no_fold zero w = absurd (cc)
          no_fold (suc d) w = absurd (cc)
      stands_before d (narrowed t p) w c far h = absurd (no_narrowed d w)
        where
          no_narrowed : (d : ℕ) → looks_within d (narrowed t p) ≡ true → ⊥
          no_narrowed zero w = absurd (cc)
          no_narrowed (suc d) w = absurd (cc)
      stands_before zero (over h ps) w c far x = absurd (cc)
      stands_before (suc d) (over h ps) w c far x =
          let form_ = x.1 in
          let kids : AllFar g s d form_.kids = far.1 form_.node (head_op m h) form_.kids form_.is form_.here in (
            x.0,
            form_before c (head_op m h) x.0 form_ far.0 (λ k i. far_stayed g s d (f k) (kids k i)),
            subst (AllStandIn e old m ps) form_.classes (all_before d ps w form_.kids kids (subst (AllStandIn g s.numbers.now m ps) (sym form_.classes) x.2)),
          )
      stands_before zero (over_each which y) w c far x = absurd (cc)
      stands_before (suc d) (over_each which bare) w c far x =
          let form_ = x.1 in (
            x.0,
            form_before c m.op_ x.0 form_ far.0 (λ k i. far_stayed g s d (f k) (far.1 form_.node m.op_ form_.kids form_.is form_.here k i)),
            x.2,
            each_before m.kids x.0 x.3,
          )
      stands_before (suc d) (over_each which shifted) w c far x = absurd (cc)
      stands_before (suc d) (over_each which (evaluated j)) w c far x = absurd (cc)

      -- over the classes of these kids, which are the classes that they were in
      all_before : (d : ℕ) (ps : Patterns) → all_within d ps ≡ true → (ks : List ℕ) → AllFar g s d ks → AllStand ps ks → AllStandIn e old m ps (map f ks)
      all_before d none w [] far x = tt
      all_before d none w (k ∷ ks) far x = absurd x
      all_before d (first p ps) w [] far x = absurd x
      all_before d (first p ps) w (k ∷ ks) far x =
          let b = both_true (looks_within d p) (all_within d ps) w in
          (stands_before d p b.0 (f k) (far k (inl refl)) x.0, all_before d ps b.1 ks (λ j i. far j (inr i)) x.1)

    -- ---- each variable stands for a class that stayed

    abbrev HasStayed : ℕ → Type 0
    HasStayed j = (x : ℕ) × (slice_get m.vars j ≡ Some x) × Stayed s x

    var_stayed : (i n k c : ℕ) → next_var n i ≡ Some k → slice_get m.vars i ≡ Some c → Stayed s c → (j : ℕ) → n ≤ j → j < k → HasStayed j
    var_stayed i n k c r at stayed j l u = go (number_cases i n k r)
      where
        go : ((i < n) × (k ≡ n)) ⊎ ((i ≡ n) × (k ≡ n + 1)) → HasStayed j
        go (inl q) = absurd (omega (arith, l, u, q.0, q.1))
        go (inr q) = let same : i ≡ j = omega (arith, l, u, q.0, q.1) in (c, subst (λ v. slice_get m.vars v ≡ Some c) same at, stayed)

    by_part : (b j : ℕ) → (j < b) ⊎ (b ≤ j) → (j < b → HasStayed j) → (b ≤ j → HasStayed j) → HasStayed j
    by_part b j (inl v) x y = x v
    by_part b j (inr v) x y = y v

    either_part : (b j : ℕ) → (j < b) ⊎ (b ≤ j)
    either_part b j = grind arith

    mutual
      vars_stayed : (n k d : ℕ) (p : Pattern) → reads n p ≡ Some k → looks_within d p ≡ true → (c : ℕ) → IsFar g s d c → Stands p c → (j : ℕ) → n ≤ j → j < k → HasStayed j
      vars_stayed n k d (var i) r w c far h j l u = var_stayed i n k c r h (far_stayed g s d c far) j l u
      vars_stayed n k d (constant i) r w c far h j l u = var_stayed i n k c r h.0 (far_stayed g s d c far) j l u
      vars_stayed n k d (fold o atoms) r w c far h j l u = absurd (cc)
      vars_stayed n k d (narrowed t p) r w c far h j l u = absurd (cc)
      vars_stayed n k zero (over h ps) r w c far x j l u = absurd (cc)
      vars_stayed n k (suc d) (over h ps) r w c far x j l u =
          let form_ = x.1 in
          all_stayed n k d ps r w form_.kids (far.1 form_.node (head_op m h) form_.kids form_.is form_.here) (subst (AllStandIn g s.numbers.now m ps) (sym form_.classes) x.2) j l u
      vars_stayed n k d (over_each which bare) r w c far x j l u = let same : n ≡ k = some_once r in absurd (omega (arith, l, u, same))
      vars_stayed n k d (over_each which shifted) r w c far x j l u = absurd (cc)
      vars_stayed n k d (over_each which (evaluated i)) r w c far x j l u = absurd (cc)

      all_stayed : (n k d : ℕ) (ps : Patterns) → reads_all n ps ≡ Some k → all_within d ps ≡ true → (ks : List ℕ) → AllFar g s d ks → AllStand ps ks → (j : ℕ) → n ≤ j → j < k → HasStayed j
      all_stayed n k d none r w ks far x j l u = let same : n ≡ k = some_once r in absurd (omega (arith, l, u, same))
      all_stayed n k d (first p ps) r w [] far x j l u = absurd x
      all_stayed n k d (first p ps) r w (i ∷ ks) far x j l u =
          let b = bind_some (reads n p) (λ j. reads_all j ps) k r in
          let t = both_true (looks_within d p) (all_within d ps) w in
          by_part b.0 j (either_part b.0 j) (λ v. vars_stayed n b.0 d p b.1 t.0 (f i) (far i (inl refl)) x.0 j l v) (λ v. all_stayed b.0 k d ps b.2 t.1 ks (λ q z. far q (inr z)) x.1 j v u)

    -- ---- a depth that is bound is that of some node

    abbrev ShowsDepth : Type 0
    ShowsDepth = (n : ℕ) × (o : Op) × (ks : List ℕ) × (form_at g.nodes n ≡ Some (form o ks)) × (depth_in o ≡ Some m.depth)

    head_depth : (h : Head) → is_name (head_name h) name.Depth ≡ true → depth_in (head_op m h) ≡ Some m.depth
    head_depth (fixed o) e = absurd (cc)
    head_depth theta_d e = refl
    head_depth eval_d e = refl
    head_depth pass_d e = refl
    head_depth shift_d e = refl
    head_depth (getstatic j) e = absurd (cc)
    head_depth (putstatic j) e = absurd (cc)
    head_depth (getfield j) e = absurd (cc)
    head_depth (putfield j) e = absurd (cc)
    head_depth (load j) e = absurd (cc)
    head_depth (store j) e = absurd (cc)

    mutual
      depth_at : (p : Pattern) → binds p name.Depth ≡ true → (c : ℕ) → Stands p c → ShowsDepth
      depth_at (var j) b c h = absurd (cc)
      depth_at (constant j) b c h = absurd (cc)
      depth_at (fold o atoms) b c h = absurd (cc)
      depth_at (narrowed t p) b c h = absurd (cc)
      depth_at (over h ps) b c x =
          let form_ = x.1 in
          elim (either_true (is_name (head_name h) name.Depth) (binds_in ps name.Depth) b) [
            | inl y ↦ (form_.node, head_op m h, form_.kids, form_.is, head_depth h y)
            | inr y ↦ all_depth ps y x.0 x.2
          ]
      depth_at (over_each which y) b c x = absurd (cc)

      all_depth : (ps : Patterns) → binds_in ps name.Depth ≡ true → (cs : List ℕ) → AllStandIn g s.numbers.now m ps cs → ShowsDepth
      all_depth none b cs x = absurd (cc)
      all_depth (first p ps) b [] x = absurd x
      all_depth (first p ps) b (c ∷ cs) x = elim (either_true (binds p name.Depth) (binds_in ps name.Depth) b) [
        | inl y ↦ depth_at p y c x.0
        | inr y ↦ all_depth ps y cs x.1
      ]

    -- ---- conditions

    module _ (assumed : List ℕ) (then_ : AreClassMarks e old assumed s.old_marks.now) (now_ : AreClassMarks g s.numbers.now assumed s.marks.now) where
      trait_before : (q c : ℕ) → q ≤ 16 → Stayed s c → ClassHas g s.numbers.now assumed (trait_of q) c → ClassHas e old assumed (trait_of q) c
      trait_before q c small stayed has = (then_.says q c small).0 (subst (λ (x : ℕ). bit_at x q ≡ 1) (sym stayed.mark) ((now_.says q c small).1 has))

      depth_trait : (d : ℕ) → 1 ≤ d → trait_of d ≡ unfree d
      depth_trait zero l = absurd (omega arith)
      depth_trait (suc d) l = refl

      stays_in : (j c : ℕ) → slice_get m.vars j ≡ Some c → HasStayed j → Stayed s c
      stays_in j c at h = subst (Stayed s) (some_once (sym h.1 ∙ at)) h.2

      side_before : (t : Side) → ((j : ℕ) → j < length m.vars → HasStayed j) → (In (side_names t) name.Depth → (1 ≤ m.depth) × (m.depth ≤ 16)) → HoldsIn g s.numbers.now assumed m t → HoldsIn e old assumed m t
      side_before (settled j) stayed depth h = (h.0, h.1, trait_before 0 h.0 (omega arith) (stays_in j h.0 h.1 (stayed j (slice_get_within m.vars j h.0 h.1))) h.2)
      side_before (not_free j) stayed depth h =
          let r = depth (inl refl) in (
            h.0,
            h.1,
            subst (λ (t : Trait). ClassHas e old assumed t h.0) (depth_trait m.depth r.0)
                (trait_before m.depth h.0 r.1 (stays_in j h.0 h.1 (stayed j (slice_get_within m.vars j h.0 h.1))) (subst (λ (t : Trait). ClassHas g s.numbers.now assumed t h.0) (sym (depth_trait m.depth r.0)) h.2)),
          )
      side_before (symbols_differ t u) stayed depth h = h
      side_before (kinds_differ k l) stayed depth h = h
      side_before (not_byte k) stayed depth h = h
      side_before (constants_differ j k) stayed depth h = h

      sides_before : (ss : List Side) → ((j : ℕ) → j < length m.vars → HasStayed j) → ((t : Side) → In ss t → In (side_names t) name.Depth → (1 ≤ m.depth) × (m.depth ≤ 16)) → AllByRecursion (HoldsIn g s.numbers.now assumed m) ss
          → AllByRecursion (HoldsIn e old assumed m) ss
      sides_before [] stayed depth h = tt
      sides_before (t ∷ ss) stayed depth h = (side_before t stayed (depth t (inl refl)) h.0, sides_before ss stayed (λ u i. depth u (inr i)) h.1)

  -- ---- a match

  module _ (assumed : List ℕ) (then_ : AreClassMarks e old assumed s.old_marks.now) (now_ : AreClassMarks g s.numbers.now assumed s.marks.now) (depth_range : (n : ℕ) (o : Op) (ks : List ℕ) (d : ℕ) → form_at g.nodes n ≡ Some (form o ks) → depth_in o ≡ Some d → (1 ≤ d) × (d ≤ 16)) where
    pub match_before : (d : ℕ) (a : Axiom) → IsReadable a → parts_within d a.left ≡ true → (n : ℕ) → IsUntouched g s d n → (params : List Param) (classes : List ℕ) → IsMatchAt g s.numbers.now assumed a n params classes → IsMatchAt e old assumed a n params classes
    match_before d a r w n u params classes i =
        let m = i.names in
        let x : StartsAt g s.numbers.now m (over r.head r.parts) n = subst (λ p. StartsAt g s.numbers.now m p n) r.left i.starts in
        let o = head_op m r.head in
        let ks = x.0 in
        let far : AllFar g s d ks = u.1 o ks x.1 in
        let parts : all_within d r.parts ≡ true = subst (λ p. parts_within d p ≡ true) r.left w in
        let lt : n < length e.nodes = let l = u.0 in omega (arith, l, long_old) in
        let same : map (class_of old) ks ≡ map f ks = all_same n o ks x.1 (λ k y. far_stayed g s d (f k) (far k y)) in
        let y : StartsAt e old m (over r.head r.parts) n = (ks, node_before n o ks lt x.1, subst (AllStandIn e old m r.parts) (sym same) (all_before m d r.parts parts ks far x.2)) in
        let stayed : (j : ℕ) → j < length m.vars → HasStayed m j = λ j l. all_stayed m 0 (variables a.left) d r.parts r.reads_ parts ks far x.2 j (omega arith) (subst (λ k. j < k) i.fits.long l) in
        let shows : binds a.left name.Depth ≡ true → ShowsDepth m = λ b.
        elim (either_true (is_name (head_name r.head) name.Depth) (binds_in r.parts name.Depth) (subst (λ p. binds p name.Depth ≡ true) r.left b)) [
          | inl z ↦ (n, o, ks, x.1, head_depth m r.head z)
          | inr z ↦ all_depth m r.parts z (map f ks) x.2
        ] in
        let depth : (t : Side) → In a.sides t → In (side_names t) name.Depth → (1 ≤ m.depth) × (m.depth ≤ 16) = λ t z q. let v = shows (side_bound a r.binds t name.Depth z q) in depth_range v.0 v.1 v.2 m.depth v.3 v.4 in
        record {
          names = m;
          starts = subst (λ p. StartsAt e old m p n) (sym r.left) y;
          fits = record {
            sides = sides_before m assumed then_ now_ a.sides stayed depth i.fits.sides;
            long = i.fits.long;
            alone = i.fits.alone;
            are = i.fits.are;
            params_ = i.fits.params_;
          };
        }
