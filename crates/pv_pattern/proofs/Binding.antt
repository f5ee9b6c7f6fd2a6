-- An instance has just the names that are found at its left side, where that binds all that the axiom names.
use Rattle.std.proofs.Common.{◌≡◌, ◌⊎◌, inl, inr, ℕ, Bool, true, false, ◌&&◌, ◌||◌, List, [], ◌∷◌, ◌++◌, Option, Some, None, map, slice_get, if◌then◌else◌, refl, sym, ap, ◌∙◌, subst, true≢false}
use Rattle.std.specs.List.{AllZip, AllByRecursion}
use Rattle.std.proofs.lemmas.Bool.Decides.{Decides-eqb}
use Rattle.pv_value.specs.Spelled.{bind, field_type}
use Rattle.pv_value.specs.declared.name.Sym.{Sym}
use Rattle.pv_value.specs.declared.number.Num.{Num}
use Rattle.pv_value.specs.declared.number.Num.TheVariants as num
use Rattle.pv_value.specs.Operations.{takes, gives}
use Rattle.pv_value.specs.declared.heap.Kind as kinds
use Rattle.pv_value.specs.declared.outcome.Val.{Val}
use Rattle.pv_value.specs.declared.outcome.Val.TheVariants as val
use Rattle.pv_denote.specs.Denote.{scalar_on, num_of}
use Rattle.pv_pattern.specs.Numbers.{op_number}
use Rattle.pv_value.specs.declared.descriptor.JType.{JType}
use Rattle.pv_value.specs.declared.descriptor.JType.TheVariants as jtype
use Rattle.pv_graph.specs.declared.node.Op.{Op}
use Rattle.pv_graph.specs.declared.node.Op.TheVariants as op
use Rattle.pv_graph.specs.Forms.{Form, form}
use Rattle.pv_graph.specs.Walks.{In, Free, MeetsVariable, IsSettled}
use Rattle.pv_graph.specs.Graphs.{Graph, form_at}
use Rattle.pv_pattern.specs.declared.names.NameId.{NameId}
use Rattle.pv_pattern.specs.declared.names.NameId.TheVariants.{Depth, Symbol, Kind, Constant, Operation}
use Rattle.pv_pattern.specs.Patterns.{Atom, number, named, By, by_symbol, by_kind, Head, fixed, theta_d, eval_d, pass_d, shift_d, getstatic, putstatic, getfield, putfield, load, store, Each, bare, shifted, evaluated, Pattern, var, constant, fold, narrowed, over, over_each, Patterns, none, first, Side, settled, not_free, symbols_differ, kinds_differ, not_byte, constants_differ, Axiom}
use Rattle.pv_pattern.specs.Instances.{Names, head_op, constant_of, IsConstantAt, atom_of, folded, type_by, kind_type, Narrows, IsEach, Stands, StandAll, Holds, HoldsForAll}
use Rattle.pv_pattern.specs.Found.{head_name, same_name, is_name, kids_of, op_of, or_else, place, place_in, shown, or_unit, depth_of, symbol_of, kind_of, constant_in, found}
use Rattle.pv_pattern.specs.Binding.{listed_name, atoms_names, by_name, each_names, names, names_in, side_names, sides_names, binds, binds_in, binds_all, BindsItsNames}

-- ---- names one by one

-- what the operation shows of a name is what the names have
abbrev pub Shows : Names → NameId → Op → Type 0
Shows m Depth o = depth_of o ≡ m.depth
Shows m (Symbol s) o = symbol_of o ≡ m.symbols s
Shows m (Kind k) o = kind_of o ≡ m.kinds k
Shows m (Constant j) o = constant_in o ≡ m.constants j
Shows m Operation o = o ≡ m.op_

-- two have one thing for a name
abbrev pub Agree : Names → Names → NameId → Type 0
Agree m n Depth = m.depth ≡ n.depth
Agree m n (Symbol s) = m.symbols s ≡ n.symbols s
Agree m n (Kind k) = m.kinds k ≡ n.kinds k
Agree m n (Constant j) = m.constants j ≡ n.constants j
Agree m n Operation = m.op_ ≡ n.op_

same_names : (a b : NameId) → same_name a b ≡ true → a ≡ b
same_names Depth Depth e = refl
same_names (Symbol s) (Symbol t) e = ap Symbol ((Decides-eqb s t).0 e)
same_names (Kind k) (Kind l) e = ap Kind ((Decides-eqb k l).0 e)
same_names (Constant j) (Constant k) e = ap Constant ((Decides-eqb j k).0 e)
same_names Operation Operation e = refl
same_names a b e = absurd (true≢false (sym e))

or_cases : (a b : Bool) → (a || b) ≡ true → (a ≡ true) ⊎ (b ≡ true)
or_cases true b e = inl refl
or_cases false b e = inr e

-- the operation of a head shows what the head names
head_shows : (m : Names) (h : Head) (n : NameId) → is_name (head_name h) n ≡ true → Shows m n (head_op m h)
head_shows m (fixed o) n e = absurd (true≢false (sym e))
head_shows m theta_d n e = subst (λ n. Shows m n (op.Theta m.depth)) (same_names Depth n e) refl
head_shows m eval_d n e = subst (λ n. Shows m n (op.Eval m.depth)) (same_names Depth n e) refl
head_shows m pass_d n e = subst (λ n. Shows m n (op.Pass m.depth)) (same_names Depth n e) refl
head_shows m shift_d n e = subst (λ n. Shows m n (op.Shift m.depth)) (same_names Depth n e) refl
head_shows m (getstatic s) n e = subst (λ n. Shows m n (op.GetStatic (m.symbols s))) (same_names (Symbol s) n e) refl
head_shows m (putstatic s) n e = subst (λ n. Shows m n (op.PutStatic (m.symbols s))) (same_names (Symbol s) n e) refl
head_shows m (getfield s) n e = subst (λ n. Shows m n (op.GetField (m.symbols s))) (same_names (Symbol s) n e) refl
head_shows m (putfield s) n e = subst (λ n. Shows m n (op.PutField (m.symbols s))) (same_names (Symbol s) n e) refl
head_shows m (load k) n e = subst (λ n. Shows m n (op.Load (m.kinds k))) (same_names (Kind k) n e) refl
head_shows m (store k) n e = subst (λ n. Shows m n (op.Store (m.kinds k))) (same_names (Kind k) n e) refl

constant_shows : (o : Op) (c : Num) → constant_of o ≡ Some c → constant_in o ≡ c
constant_shows (op.Int k) c e = cc
constant_shows (op.Long k) c e = cc
constant_shows o c e = absurd (cc)

-- ---- where a pattern stands, the first place of each name that it binds shows it

module _ (view : ℕ → Option (Form ℕ)) (m : Names) (n : NameId) where
  -- there is no place, or one that shows the name
  abbrev Shown : Bool → Option ℕ → Type 0
  Shown b None = b ≡ false
  Shown b (Some k) = (o : Op) × (op_of (view k) ≡ Some o) × Shows m n o

  joined : (a b : Bool) (p q : Option ℕ) → Shown a p → Shown b q → Shown (a || b) (or_else p q)
  joined true b None q x y = absurd (true≢false x)
  joined false b None q x y = y
  joined a b (Some k) q x y = x

  here : (b rest : Bool) (k : ℕ) (q : Option ℕ) (o : Op) → op_of (view k) ≡ Some o → (b ≡ true → Shows m n o) → Shown rest q → Shown (b || rest) (if b then Some k else q)
  here true rest k q o at shows other = (o, at, shows refl)
  here false rest k q o at shows other = other

  one : (b : Bool) (k : ℕ) (o : Op) → op_of (view k) ≡ Some o → (b ≡ true → Shows m n o) → Shown b (if b then Some k else None)
  one true k o at shows = (o, at, shows refl)
  one false k o at shows = refl

  mutual
    places : (p : Pattern) (l : ℕ) → Stands view m p l → Shown (binds p n) (place view n p l)
    places (var j) l s = refl
    places (constant j) l (is, (o, at, c)) =
        let shows : same_name (Constant j) n ≡ true → Shows m n o = λ e. subst (λ n. Shows m n o) (same_names (Constant j) n e) (constant_shows o (m.constants j) c) in
        one (same_name (Constant j) n) l o (ap op_of at) shows
    places (fold o atoms) l s = refl
    places (narrowed t p) l s = refl
    places (over h ps) l (ks, at, all) =
        subst (λ (w : Option (Form ℕ)). Shown (is_name (head_name h) n || binds_in ps n) (if is_name (head_name h) n then Some l else place_in view n ps (kids_of w))) (sym at)
        (here (is_name (head_name h) n) (binds_in ps n) l (place_in view n ps ks) (head_op m h) (ap op_of at) (head_shows m h n) (places_in ps ks all))
    places (over_each k e) l (ks, at, which, zip) =
        let shows : same_name Operation n ≡ true → Shows m n m.op_ = λ e. subst (λ n. Shows m n m.op_) (same_names Operation n e) refl in
        one (same_name Operation n) l m.op_ (ap op_of at) shows

    places_in : (ps : Patterns) (ks : List ℕ) → StandAll view m ps ks → Shown (binds_in ps n) (place_in view n ps ks)
    places_in none ks s = refl
    places_in (first p ps) [] s = absurd s
    places_in (first p ps) (k ∷ ks) (s, all) = joined (binds p n) (binds_in ps n) (place view n p k) (place_in view n ps ks) (places p k s) (places_in ps ks all)

-- ---- the names found are those that stand

shown_at : (view : ℕ → Option (Form ℕ)) (m : Names) (n : NameId) (left : Pattern) (l : ℕ) → Stands view m left l → binds left n ≡ true → Shows m n (or_unit (shown view left l n))
shown_at view m n left l s b = by (place view n left l) refl (places view m n left l s)
  where
    by : (p : Option ℕ) → place view n left l ≡ p → Shown view m n (binds left n) p → Shows m n (or_unit (shown view left l n))
    by None e x = absurd (true≢false (sym b ∙ x))
    by (Some k) e (o, at, shows) =
        let is : shown view left l n ≡ Some o = ap (λ (q : Option ℕ). bind q (λ k. op_of (view k))) e ∙ at in
        subst (Shows m n) (sym (ap or_unit is)) shows

pub agree : (view : ℕ → Option (Form ℕ)) (m : Names) (left : Pattern) (l : ℕ) (kids vars : List ℕ) → Stands view m left l → (n : NameId) → binds left n ≡ true → Agree (found view left l kids vars) m n
agree view m left l kids vars s Depth b = shown_at view m Depth left l s b
agree view m left l kids vars s (Symbol t) b = shown_at view m (Symbol t) left l s b
agree view m left l kids vars s (Kind k) b = shown_at view m (Kind k) left l s b
agree view m left l kids vars s (Constant j) b = shown_at view m (Constant j) left l s b
agree view m left l kids vars s Operation b = shown_at view m Operation left l s b

pub agree_back : (m n : Names) (k : NameId) → Agree m n k → Agree n m k
agree_back m n Depth e = sym e
agree_back m n (Symbol s) e = sym e
agree_back m n (Kind k) e = sym e
agree_back m n (Constant j) e = sym e
agree_back m n Operation e = sym e

-- ---- what stands with some names stands with others that agree

pub in_left : (xs ys : List NameId) (n : NameId) → In xs n → In (xs ++ ys) n
in_left [] ys n i = absurd i
in_left (x ∷ xs) ys n (inl e) = inl e
in_left (x ∷ xs) ys n (inr i) = inr (in_left xs ys n i)

pub in_right : (xs ys : List NameId) (n : NameId) → In ys n → In (xs ++ ys) n
in_right [] ys n i = i
in_right (x ∷ xs) ys n i = inr (in_right xs ys n i)

narrows_to : (view : ℕ → Option (Form ℕ)) (t : JType) (P Q : ℕ → Type 0) (n : ℕ) → ((k : ℕ) → P k → Q k) → Narrows view t P n → Narrows view t Q n
narrows_to view jtype.Z P Q n f (k, one, at, p, is) = (k, one, at, f k p, is)
narrows_to view jtype.B P Q n f (k, at, p) = (k, at, f k p)
narrows_to view jtype.C P Q n f (k, at, p) = (k, at, f k p)
narrows_to view jtype.S P Q n f (k, at, p) = (k, at, f k p)
narrows_to view jtype.I P Q n f p = f n p
narrows_to view jtype.J P Q n f p = f n p
narrows_to view jtype.F P Q n f p = f n p
narrows_to view jtype.D P Q n f p = f n p
narrows_to view jtype.A P Q n f p = f n p

module _ (m n : Names) (vars : m.vars ≡ n.vars) (kids : m.kids ≡ n.kids) where
  abbrev pub Agrees : List NameId → Type 0
  Agrees ms = (k : NameId) → In ms k → Agree m n k

  var_at : (j k : ℕ) → slice_get m.vars j ≡ Some k → slice_get n.vars j ≡ Some k
  var_at j k e = ap (λ (v : List ℕ). slice_get v j) (sym vars) ∙ e

  head_same : (h : Head) → Agrees (listed_name (head_name h)) → head_op m h ≡ head_op n h
  head_same (fixed o) a = refl
  head_same theta_d a = ap op.Theta (a Depth (inl refl))
  head_same eval_d a = ap op.Eval (a Depth (inl refl))
  head_same pass_d a = ap op.Pass (a Depth (inl refl))
  head_same shift_d a = ap op.Shift (a Depth (inl refl))
  head_same (getstatic s) a = ap op.GetStatic (a (Symbol s) (inl refl))
  head_same (putstatic s) a = ap op.PutStatic (a (Symbol s) (inl refl))
  head_same (getfield s) a = ap op.GetField (a (Symbol s) (inl refl))
  head_same (putfield s) a = ap op.PutField (a (Symbol s) (inl refl))
  head_same (load k) a = ap op.Load (a (Kind k) (inl refl))
  head_same (store k) a = ap op.Store (a (Kind k) (inl refl))

  atoms_same : (atoms : List Atom) → Agrees (atoms_names atoms) → map (λ a. val.Num (atom_of m a)) atoms ≡ map (λ a. val.Num (atom_of n a)) atoms
  atoms_same [] a = refl
  atoms_same (number c ∷ atoms) a = ap (λ (vs : List Val). val.Num c ∷ vs) (atoms_same atoms a)
  atoms_same (named j ∷ atoms) a =
      let rest = atoms_same atoms (λ k i. a k (inr i)) in
      let first : m.constants j ≡ n.constants j = a (Constant j) (inl refl) in
      cc (rest, first)

  type_same : (t : By) → Agree m n (by_name t) → type_by m t ≡ type_by n t
  type_same (by_symbol s) e = ap (λ (t : Sym). field_type t.desc) e
  type_same (by_kind k) e = ap (λ (t : kinds.Kind). Some (kind_type t)) e

  each_same : (view : ℕ → Option (Form ℕ)) (e : Each) (k l : ℕ) → Agrees (each_names e) → IsEach view m e k l → IsEach view n e k l
  each_same view bare k l a s = s
  each_same view shifted k l a s = s ∙ ap (λ (d : ℕ). Some (form (op.Shift d) (k ∷ []))) (a Depth (inl refl))
  each_same view (evaluated j) k l a (p, at, is) = (p, var_at j p at, is ∙ ap (λ (d : ℕ). Some (form (op.Eval d) (k ∷ p ∷ []))) (a Depth (inl refl)))

  zip_same : (view : ℕ → Option (Form ℕ)) (e : Each) (ks ls : List ℕ) → Agrees (each_names e) → AllZip (IsEach view m e) ks ls → AllZip (IsEach view n e) ks ls
  zip_same view e [] [] a z = z
  zip_same view e [] (l ∷ ls) a z = z
  zip_same view e (k ∷ ks) [] a z = z
  zip_same view e (k ∷ ks) (l ∷ ls) a z = (each_same view e k l a z.0, zip_same view e ks ls a z.1)

  mutual
    pub stays : (view : ℕ → Option (Form ℕ)) (p : Pattern) (l : ℕ) → Agrees (names p) → Stands view m p l → Stands view n p l
    stays view (var j) l a s = var_at j l s
    stays view (constant j) l a (is, (o, at, c)) = (var_at j l is, (o, at, c ∙ ap Some (a (Constant j) (inl refl))))
    stays view (fold o atoms) l a (c, f, is) =
        (c, ap (λ (vs : List Val). bind (scalar_on o (takes o) vs) (λ k. Some (num_of (gives o) k))) (sym (atoms_same atoms a)) ∙ f, is)
    stays view (narrowed t p) l a (y, is, s) =
        (y, sym (type_same t (a (by_name t) (inl refl))) ∙ is, narrows_to view y (Stands view m p) (Stands view n p) l (λ k q. stays view p k (λ x i. a x (inr i)) q) s)
    stays view (over h ps) l a (ks, at, all) =
        let same = head_same h (λ x i. a x (in_left (listed_name (head_name h)) (names_in ps) x i)) in
        (ks, at ∙ ap (λ (o : Op). Some (form o ks)) same, stay view ps ks (λ x i. a x (in_right (listed_name (head_name h)) (names_in ps) x i)) all)
    stays view (over_each k e) l a (ks, at, which, zip) =
        let same : m.op_ ≡ n.op_ = a Operation (inl refl) in (
          ks,
          at ∙ ap (λ (o : Op). Some (form o ks)) same,
          ap op_number (sym same) ∙ which,
          subst (λ (ms : List ℕ). AllZip (IsEach view n e) ms ks) kids (zip_same view e m.kids ks (λ x i. a x (inr i)) zip),
        )

    stay : (view : ℕ → Option (Form ℕ)) (ps : Patterns) (ks : List ℕ) → Agrees (names_in ps) → StandAll view m ps ks → StandAll view n ps ks
    stay view none [] a s = s
    stay view none (k ∷ ks) a s = s
    stay view (first p ps) [] a s = s
    stay view (first p ps) (k ∷ ks) a (s, all) =
        (stays view p k (λ x i. a x (in_left (names p) (names_in ps) x i)) s, stay view ps ks (λ x i. a x (in_right (names p) (names_in ps) x i)) all)

  holds_same : (g : Graph) (assumed : List ℕ) (s : Side) → Agrees (side_names s) → Holds g assumed m s → Holds g assumed n s
  holds_same g assumed (settled j) a (k, at, s) = (k, var_at j k at, s)
  holds_same g assumed (not_free j) a (k, at, s) = (k, var_at j k at, λ free. s (subst (λ (d : ℕ). Free (form_at g.nodes) d k) (sym (a Depth (inl refl))) free))
  holds_same g assumed (symbols_differ s t) a h =
      let one : m.symbols s ≡ n.symbols s = a (Symbol s) (inl refl) in
      let two : m.symbols t ≡ n.symbols t = a (Symbol t) (inr (inl refl)) in
      subst (λ (u : Sym). (u.name ≡ (n.symbols t).name → ⊥) ⊎ (u.desc ≡ (n.symbols t).desc → ⊥)) one
      (subst (λ (u : Sym). ((m.symbols s).name ≡ u.name → ⊥) ⊎ ((m.symbols s).desc ≡ u.desc → ⊥)) two h)
  holds_same g assumed (kinds_differ k l) a h = λ e. h (a (Kind k) (inl refl) ∙ e ∙ sym (a (Kind l) (inr (inl refl))))
  holds_same g assumed (not_byte k) a h = λ e. h (a (Kind k) (inl refl) ∙ e)
  holds_same g assumed (constants_differ j k) a h = λ e. h (a (Constant j) (inl refl) ∙ e ∙ sym (a (Constant k) (inr (inl refl))))

  pub all_hold : (g : Graph) (assumed : List ℕ) (ss : List Side) → Agrees (sides_names ss) → AllByRecursion (Holds g assumed m) ss → AllByRecursion (Holds g assumed n) ss
  all_hold g assumed [] a h = h
  all_hold g assumed (s ∷ ss) a h =
      (holds_same g assumed s (λ x i. a x (in_left (side_names s) (sides_names ss) x i)) h.0, all_hold g assumed ss (λ x i. a x (in_right (side_names s) (sides_names ss) x i)) h.1)

  for_all_same : (g : Graph) (s : Side) → Agrees (side_names s) → HoldsForAll g m s → HoldsForAll g n s
  for_all_same g (not_free j) a h =
      λ k at met. h k (ap (λ (v : List ℕ). slice_get v j) vars ∙ at) (subst (λ (d : ℕ). MeetsVariable (form_at g.nodes) d k) (sym (a Depth (inl refl))) met)
  for_all_same g (settled j) a h = tt
  for_all_same g (symbols_differ s t) a h = tt
  for_all_same g (kinds_differ k l) a h = tt
  for_all_same g (not_byte k) a h = tt
  for_all_same g (constants_differ j k) a h = tt

  pub all_hold_for_all : (g : Graph) (ss : List Side) → Agrees (sides_names ss) → AllByRecursion (HoldsForAll g m) ss → AllByRecursion (HoldsForAll g n) ss
  all_hold_for_all g [] a h = h
  all_hold_for_all g (s ∷ ss) a h =
      (for_all_same g s (λ x i. a x (in_left (side_names s) (sides_names ss) x i)) h.0, all_hold_for_all g ss (λ x i. a x (in_right (side_names s) (sides_names ss) x i)) h.1)
