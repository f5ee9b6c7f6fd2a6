-- A match on class numbers is a match on classes of nodes, conditions included.
use Rattle.std.proofs.Common.{◌≡◌, ℕ, ◌<◌, Bool, true, false, ◌||◌, List, [], ◌∷◌, ◌++◌, map, Some, slice_get, ◌⊎◌, inl, inr, refl, sym, ◌∙◌, subst, arith}
use Rattle.std.specs.List.{AllZip, AllByRecursion}
use Rattle.std.proofs.lemmas.Option.{slice_get_within}
use Rattle.pv_graph.specs.declared.node.Op.{Op}
use Rattle.pv_graph.specs.Walks.{In}
use Rattle.pv_graph.specs.Graphs.{Graph}
use Rattle.pv_pattern.specs.declared.names.NameId.TheVariants as name
use Rattle.pv_pattern.specs.Patterns.{Head, fixed, theta_d, eval_d, pass_d, shift_d, getstatic, putstatic, getfield, putfield, load, store, bare, shifted, evaluated, Pattern, var, constant, fold, narrowed, over, over_each, Patterns, none, first, Side, settled, not_free, symbols_differ, kinds_differ, not_byte, constants_differ, Axiom, variables, is_family, is_family_of}
use Rattle.pv_pattern.specs.Instances.{Names, head_op}
use Rattle.pv_pattern.specs.Binding.{names, names_in, listed_name}
use Rattle.pv_pattern.specs.Found.{head_name}
use Rattle.pv_marks.specs.Classes.{class_of}
use Rattle.pv_match.specs.declared.found.Param.{Param}
use Rattle.pv_match.specs.Standing.{IsEachIn, StandsIn, AllStandIn}
use Rattle.pv_match.specs.Matches.{HoldsIn}
use Rattle.pv_match.specs.Matches as found
use Rattle.pv_heights.proofs.Cited.{base_is_node}
use Rattle.pv_heights.specs.Filled.{number_op}
use Rattle.pv_heights.specs.Sides.{Match, ClassHas, InClass}
use Rattle.pv_heights.specs.Sides as sides
use Rattle.pv_heights.specs.Conditions.{Holds}
use Rattle.pv_heights.specs.Matches.{IsMatch}
use Rattle.pv_heights.specs.Searches.{nodes, IsNode, OneClass, base_view, match_of}
use Rattle.pv_match.specs.Reading.{reads, reads_all, IsReadable}
use Rattle.pv_match.specs.Agreeing.{AreLeast}
use Rattle.pv_match.proofs.Numbered.{all_at, all_get, some_once, bind_some, number_of, kids_are, form_has, IsNumber}
use Rattle.pv_match.proofs.SidesThere.{constant_there, stands_there, read_all_vars}
use Rattle.pv_match.proofs.Marked.{settled_there, unfree_there}

either_true : (x y : Bool) → (x || y) ≡ true → (x ≡ true) ⊎ (y ≡ true)
either_true true y e = inl refl
either_true false y e = inr e

pub by_cases : {A B C : Type 0} → A ⊎ B → (A → C) → (B → C) → C
by_cases (inl a) f h = f a
by_cases (inr b) f h = h b

pub split_in : {A : Type 0} (xs ys : List A) (x : A) → In (xs ++ ys) x → In xs x ⊎ In ys x
split_in [] ys x i = inr i
split_in (y ∷ xs) ys x (inl e) = inl (inl e)
split_in (y ∷ xs) ys x (inr i) = go (split_in xs ys x i)
  where
    go : In xs x ⊎ In ys x → (((y ≡ x) ⊎ In xs x)) ⊎ In ys x
    go (inl k) = inl (inr k)
    go (inr k) = inr k

-- no head names a constant
no_constant : (h : Head) (j : ℕ) → In (listed_name (head_name h)) (name.Constant j) → ⊥
no_constant (fixed o) j i = i
no_constant theta_d j (inl e) = absurd (cc)
no_constant theta_d j (inr v) = v
no_constant eval_d j (inl e) = absurd (cc)
no_constant eval_d j (inr v) = v
no_constant pass_d j (inl e) = absurd (cc)
no_constant pass_d j (inr v) = v
no_constant shift_d j (inl e) = absurd (cc)
no_constant shift_d j (inr v) = v
no_constant (getstatic s) j (inl e) = absurd (cc)
no_constant (getstatic s) j (inr v) = v
no_constant (putstatic s) j (inl e) = absurd (cc)
no_constant (putstatic s) j (inr v) = v
no_constant (getfield s) j (inl e) = absurd (cc)
no_constant (getfield s) j (inr v) = v
no_constant (putfield s) j (inl e) = absurd (cc)
no_constant (putfield s) j (inr v) = v
no_constant (load k) j (inl e) = absurd (cc)
no_constant (load k) j (inr v) = v
no_constant (store k) j (inl e) = absurd (cc)
no_constant (store k) j (inr v) = v

constant_same : (i j : ℕ) → name.Constant i ≡ name.Constant j → i ≡ j
constant_same i j e = cc

module _ (g : Graph) (numbers : List ℕ) (a : AreLeast g numbers) (entry : Axiom) (m : Names) where
  -- ---- the kids of a family have classes

  all_numbers : (rest ks : List ℕ) → AllByRecursion (IsNode g) ks → AllZip (IsEachIn g numbers m bare) rest (map (class_of numbers) ks) → AllByRecursion (IsNumber g numbers a) rest
  all_numbers [] ks l z = tt
  all_numbers (c ∷ rest) [] l z = absurd z
  all_numbers (c ∷ rest) (k ∷ ks) l z = (subst (IsNumber g numbers a) (sym z.0) (number_of g numbers a k l.0), all_numbers rest ks l.1 z.1)

  mutual
    family_numbers : (n k : ℕ) (p : Pattern) → reads n p ≡ Some k → is_family p ≡ true → (c : ℕ) → IsNumber g numbers a c → StandsIn g numbers m p c → AllByRecursion (IsNumber g numbers a) m.kids
    family_numbers n k (var j) r y c d h = absurd (cc)
    family_numbers n k (constant j) r y c d h = absurd (cc)
    family_numbers n k (fold o atoms) r y c d h = absurd (cc)
    family_numbers n k (narrowed b p) r y c d h = absurd (cc)
    family_numbers n k (over h ps) r y c d s =
        let f = form_has g numbers a c (head_op m h) s.0 s.1 c d.0 d.1 in
        all_family_numbers n k ps r y f.0 (kids_are g numbers a c (head_op m h) f.0 f.1) (subst (λ cs. AllStandIn g numbers m ps cs) (sym f.2) s.2)
    family_numbers n k (over_each w bare) r y c d s =
        let f = form_has g numbers a c m.op_ s.0 s.1 c d.0 d.1 in
        all_numbers m.kids f.0 (kids_are g numbers a c m.op_ f.0 f.1) (subst (λ cs. AllZip (IsEachIn g numbers m bare) m.kids cs) (sym f.2) s.3)
    family_numbers n k (over_each w shifted) r y c d s = absurd (cc)
    family_numbers n k (over_each w (evaluated j)) r y c d s = absurd (cc)

    all_family_numbers : (n k : ℕ) (ps : Patterns) → reads_all n ps ≡ Some k → is_family_of ps ≡ true → (ks : List ℕ) → AllByRecursion (IsNode g) ks → AllStandIn g numbers m ps (map (class_of numbers) ks) → AllByRecursion (IsNumber g numbers a) m.kids
    all_family_numbers n k none r y ks l h = absurd (cc)
    all_family_numbers n k (first p ps) r y [] l h = absurd h
    all_family_numbers n k (first p ps) r y (i ∷ ks) l h =
        let b = bind_some (reads n p) (λ j. reads_all j ps) k r in
        by_cases (either_true (is_family p) (is_family_of ps) y)
        (λ e. family_numbers n b.0 p b.1 e (class_of numbers i) (number_of g numbers a i l.0) h.0) (λ e. all_family_numbers b.0 k ps b.2 e ks l.1 h.1)

  -- ---- variables for constants

  abbrev IsConstant : ℕ → Type 0
  IsConstant j = (x : ℕ) × (o : Op) × (slice_get m.vars j ≡ Some x) × (number_op (m.constants j) ≡ Some o) × ClassHas (nodes g) (IsNode g) (OneClass numbers) x o []

  mutual
    constants_there : (n k : ℕ) (p : Pattern) → reads n p ≡ Some k → (c : ℕ) → IsNumber g numbers a c → StandsIn g numbers m p c → (j : ℕ) → In (names p) (name.Constant j) → IsConstant j
    constants_there n k (var i) r c d h j v = absurd v
    constants_there n k (constant i) r c d h j (inl e) =
        let o = constant_there g numbers a entry m c c d.0 d.1 (m.constants i) h.1 in
        subst IsConstant (constant_same i j e) (c, o.0, h.0, o.1, o.2)
    constants_there n k (constant i) r c d h j (inr v) = absurd v
    constants_there n k (fold o atoms) r c d h j v = absurd (cc)
    constants_there n k (narrowed b p) r c d h j v = absurd (cc)
    constants_there n k (over h ps) r c d s j v =
        let f = form_has g numbers a c (head_op m h) s.0 s.1 c d.0 d.1 in
        by_cases (split_in (listed_name (head_name h)) (names_in ps) (name.Constant j) v) (λ i. absurd (no_constant h j i))
        (λ i. all_constants_there n k ps r f.0 (kids_are g numbers a c (head_op m h) f.0 f.1) (subst (λ cs. AllStandIn g numbers m ps cs) (sym f.2) s.2) j i)
    constants_there n k (over_each w bare) r c d s j (inl e) = absurd (cc)
    constants_there n k (over_each w bare) r c d s j (inr v) = absurd v
    constants_there n k (over_each w shifted) r c d s j v = absurd (cc)
    constants_there n k (over_each w (evaluated i)) r c d s j v = absurd (cc)

    all_constants_there : (n k : ℕ) (ps : Patterns) → reads_all n ps ≡ Some k → (ks : List ℕ) → AllByRecursion (IsNode g) ks → AllStandIn g numbers m ps (map (class_of numbers) ks) → (j : ℕ) → In (names_in ps) (name.Constant j) → IsConstant j
    all_constants_there n k none r ks l h j v = absurd v
    all_constants_there n k (first p ps) r [] l h j v = absurd h
    all_constants_there n k (first p ps) r (i ∷ ks) l h j v =
        let b = bind_some (reads n p) (λ j. reads_all j ps) k r in
        by_cases (split_in (names p) (names_in ps) (name.Constant j) v) (λ u. constants_there n b.0 p b.1 (class_of numbers i) (number_of g numbers a i l.0) h.0 j u)
        (λ u. all_constants_there b.0 k ps b.2 ks l.1 h.1 j u)

  -- ---- conditions

  holds_there : (assumed : List ℕ) → AllByRecursion (IsNumber g numbers a) m.vars → (s : Side) → HoldsIn g numbers assumed m s → Holds (base_view g) assumed (nodes g) (IsNode g) (OneClass numbers) (match_of entry m) s
  holds_there assumed v (settled j) h = let d = all_at (IsNumber g numbers a) m.vars v j h.0 h.1 in (h.0, h.1, settled_there g numbers assumed a h.0 h.2 h.0 d.0 d.1)
  holds_there assumed v (not_free j) h = let d = all_at (IsNumber g numbers a) m.vars v j h.0 h.1 in (h.0, h.1, unfree_there g numbers assumed a m.depth h.0 h.2 h.0 d.0 d.1)
  holds_there assumed v (symbols_differ s t) h = h
  holds_there assumed v (kinds_differ k l) h = h
  holds_there assumed v (not_byte k) h = h
  holds_there assumed v (constants_differ j k) h = h

pub all_to : {A : Type 0} (P Q : A → Type 0) → ((x : A) → P x → Q x) → (xs : List A) → AllByRecursion P xs → AllByRecursion Q xs
all_to P Q f [] h = tt
all_to P Q f (x ∷ xs) h = (f x h.0, all_to P Q f xs h.1)

true_or_false : (b : Bool) → (b ≡ true) ⊎ (b ≡ false)
true_or_false true = inl refl
true_or_false false = inr refl

-- a match that is found is a match of the verdict
pub found_match : (g : Graph) (numbers assumed : List ℕ) (table : List Axiom) (a : AreLeast g numbers) (entry : Axiom) → In table entry → IsReadable entry → (params : List Param) (classes : List ℕ)
    → (i : found.IsMatch g numbers assumed entry params classes)
    → IsMatch (base_view g) assumed table (nodes g) (IsNode g) (OneClass numbers) (match_of entry i.names) × AllByRecursion (IsNumber g numbers a) i.names.kids × AllByRecursion (IsNumber g numbers a) i.names.vars
found_match g numbers assumed table a entry t r params classes i = (
  record {
    of_table = t;
    kids = all_to (IsNumber g numbers a) (IsNode g) (λ x h. h.0) m.kids kids;
    vars = all_to (IsNumber g numbers a) (IsNode g) (λ x h. h.0) m.vars vars;
    long = i.fits.long;
    alone = i.fits.alone;
    at_ = i.at_;
    is = top.0;
    stands = subst (λ p. sides.StandsIn (nodes g) (IsNode g) (OneClass numbers) (match_of entry m) p i.at_) (sym r.left) (stands_there g numbers a entry m 0 (variables entry.left) (over r.head r.parts) r.reads_ i.at_ i.at_ top.0 top.1 stands);
    constants = λ j v. constants_there g numbers a entry m 0 (variables entry.left) (over r.head r.parts) r.reads_ i.at_ top stands j (subst (λ p. In (names p) (name.Constant j)) r.left v);
    sides = all_to (HoldsIn g numbers assumed m) (Holds (base_view g) assumed (nodes g) (IsNode g) (OneClass numbers) (match_of entry m)) (holds_there g numbers a entry m assumed vars) entry.sides i.fits.sides;
  },
  kids,
  vars,
)
  where
    m : Names
    m = i.names

    stands : StandsIn g numbers m (over r.head r.parts) i.at_
    stands = subst (λ p. StandsIn g numbers m p i.at_) r.left i.stands

    top : IsNumber g numbers a i.at_
    top = let h = stands.1 in subst (IsNumber g numbers a) h.here (number_of g numbers a h.node (base_is_node g h.node (head_op m r.head, h.kids, h.is)))

    inner : (ks : List ℕ) × ClassHas (nodes g) (IsNode g) (OneClass numbers) i.at_ (head_op m r.head) ks × (map (class_of numbers) ks ≡ stands.0)
    inner = form_has g numbers a i.at_ (head_op m r.head) stands.0 stands.1 i.at_ top.0 top.1

    all : AllStandIn g numbers m r.parts (map (class_of numbers) inner.0)
    all = subst (λ cs. AllStandIn g numbers m r.parts cs) (sym inner.2) stands.2

    vars : AllByRecursion (IsNumber g numbers a) m.vars
    vars = all_get (IsNumber g numbers a) m.vars (λ j x e.
        let n = read_all_vars g numbers a entry m 0 (variables entry.left) r.parts r.reads_ inner.0 (kids_are g numbers a i.at_ (head_op m r.head) inner.0 inner.1) all j (omega arith)
        (subst (λ l. j < l) i.fits.long (slice_get_within m.vars j x e)) in
        subst (IsNumber g numbers a) (some_once (sym n.1 ∙ e)) n.2)

    kids : AllByRecursion (IsNumber g numbers a) m.kids
    kids = by_cases (true_or_false (is_family entry.left))
        (λ e. all_family_numbers g numbers a entry m 0 (variables entry.left) r.parts r.reads_ (subst (λ p. is_family p ≡ true) r.left e) inner.0 (kids_are g numbers a i.at_ (head_op m r.head) inner.0 inner.1) all)
        (λ e. subst (λ ks. AllByRecursion (IsNumber g numbers a) ks) (sym (i.fits.alone e)) tt)
