-- A match is one whatever the names stand for that its left side doesn't name; and the witnesses of its conditions are all that the
-- choice of its nodes needs.
use Rattle.std.specs.Prelude.{◌≡◌, ◌≢◌, ◌⊎◌, ℕ, suc, ◌<◌, Bool, true, false, ◌&&◌, ◌||◌, List, [], ◌∷◌, ◌++◌, length, Option, Some, None, slice_get, refl}
use Rattle.std.specs.List.{AllZip, AllByRecursion}
use Rattle.std.proofs.Common.{inl, inr, sym, ap, ◌∙◌, subst, arith}
use Rattle.std.proofs.lemmas.Option.{same_Some}
use Rattle.pv_value.specs.declared.heap.Kind.{Kind}
use Rattle.pv_value.specs.declared.heap.Kind.TheVariants as kind
use Rattle.pv_value.specs.declared.name.Sym.{Sym}
use Rattle.pv_value.specs.declared.number.Num.{Num}
use Rattle.pv_graph.specs.declared.node.Op.{Op}
use Rattle.pv_graph.specs.Graphs.{Graph}
use Rattle.pv_graph.specs.Walks.{In}
use Rattle.pv_pattern.specs.declared.names.NameId.{NameId}
use Rattle.pv_pattern.specs.declared.names.NameId.TheVariants as name
use Rattle.pv_pattern.specs.Patterns.{Pattern, var, constant, fold, narrowed, over, over_each, Patterns, none, first, Side, settled, not_free, symbols_differ, kinds_differ, not_byte, constants_differ, Axiom}
use Rattle.pv_pattern.specs.Binding.{names, names_in, listed_name, side_names, sides_names, binds, binds_in, binds_all, BindsItsNames}
use Rattle.pv_pattern.specs.Found.{head_name, is_name}
use Rattle.pv_axioms.specs.Entries.{axioms}
use Rattle.pv_steps.specs.Facts.{View}
use Rattle.pv_heights.specs.Filled.{Params, Filled, at, of, Parts, no_part, part, kid, variable, number_op}
use Rattle.pv_heights.specs.Sides.{Match, ClassHas, InClass, AllInClass}
use Rattle.pv_heights.specs.Conditions.{NotFree, Holds}
use Rattle.pv_heights.specs.Matches.{AgreeOn, AreOne}
use Rattle.pv_heights.specs.Searches.{nodes, IsNode, OneClass, base_view, IsMatchAt, AreAllAt}
use Rattle.pv_heights.proofs.Named.{In-left, In-right, filled_agrees, name_same}
use Rattle.pv_heights.proofs.Sides.{zip_left, zip_right}
use Rattle.pv_saturate.specs.declared.choice.Witnesses.{Witnesses}
use Rattle.pv_saturate.specs.Choice.{CanChoose, HasWitness}
use Rattle.pv_saturate.specs.Added.{LeftStands}
use Rattle.pv_match.specs.declared.found.Match as found
use Rattle.pv_match.specs.AllMatches.{Shows, AreAllMatches}
use Rattle.pv_saturate.specs.Decoding.{IsDecoded, IsSameMatch, ShowsMatch}
use Rattle.pv_saturate.specs.Tables.{HaveWitnesses}
use Rattle.pv_saturate.proofs.Lists.{all_in, in_get}

-- ---- what the conditions name, the left side names

either : (x y : Bool) → (x || y) ≡ true → (x ≡ true) ⊎ (y ≡ true)
either true y e = inl refl
either false y e = inr e

both : (x y : Bool) → (x && y) ≡ true → (x ≡ true) × (y ≡ true)
both true y e = (refl, e)
both false y e = absurd (cc)

head_in : (h : Option NameId) (i : NameId) → is_name h i ≡ true → In (listed_name h) i
head_in None i e = absurd (cc)
head_in (Some n) i e = inl (name_same n i e)

one_or_other : {A B C : Type 0} → A ⊎ B → (A → C) → (B → C) → C
one_or_other (inl a) f h = f a
one_or_other (inr b) f h = h b

mutual
  bound_named : (p : Pattern) (i : NameId) → binds p i ≡ true → In (names p) i
  bound_named (var j) i e = absurd (cc)
  bound_named (constant j) i e = inl (name_same (name.Constant j) i e)
  bound_named (fold o atoms) i e = absurd (cc)
  bound_named (narrowed t p) i e = absurd (cc)
  bound_named (over h ps) i e =
      one_or_other (either (is_name (head_name h) i) (binds_in ps i) e) (λ f. In-left (listed_name (head_name h)) (names_in ps) i (head_in (head_name h) i f))
      (λ f. In-right (listed_name (head_name h)) (names_in ps) i (all_bound_named ps i f))
  bound_named (over_each n e) i f = inl (name_same name.Operation i f)

  all_bound_named : (ps : Patterns) (i : NameId) → binds_in ps i ≡ true → In (names_in ps) i
  all_bound_named none i e = absurd (cc)
  all_bound_named (first p ps) i e = one_or_other (either (binds p i) (binds_in ps i) e) (λ f. In-left (names p) (names_in ps) i (bound_named p i f)) (λ f. In-right (names p) (names_in ps) i (all_bound_named ps i f))

binds_each : (p : Pattern) (ns : List NameId) → binds_all p ns ≡ true → (i : NameId) → In ns i → binds p i ≡ true
binds_each p [] e i k = absurd k
binds_each p (n ∷ ns) e i (inl s) = subst (λ v. binds p v ≡ true) s (both (binds p n) (binds_all p ns) e).0
binds_each p (n ∷ ns) e i (inr k) = binds_each p ns (both (binds p n) (binds_all p ns) e).1 i k

pub sides_named : (a : Axiom) → BindsItsNames a → (i : NameId) → In (sides_names a.sides) i → In (names a.left) i
sides_named a b i k =
    bound_named a.left i (binds_each a.left (names a.left ++ (names a.right ++ sides_names a.sides)) b i
    (In-right (names a.left) (names a.right ++ sides_names a.sides) i (In-right (names a.right) (sides_names a.sides) i k)))

-- ---- a match with other parameters

module _ (view : View) (assumed : List ℕ) (table : List Axiom) (g : Graph) (numbers : List ℕ) where
  module _ (m : Match ℕ) (p : Params) where
    abbrev other : Match ℕ
    other = record m { params = p }

    mutual
      class_over : (s : Filled) (t : ℕ) → InClass (nodes g) (IsNode g) (OneClass numbers) m s t → InClass (nodes g) (IsNode g) (OneClass numbers) other s t
      class_over (at (kid i)) t h = h
      class_over (at (variable j)) t h = h
      class_over (of o ps) t h = (h.0, h.1, classes_over ps h.0 h.2)

      classes_over : (ps : Parts) (ts : List ℕ) → AllInClass (nodes g) (IsNode g) (OneClass numbers) m ps ts → AllInClass (nodes g) (IsNode g) (OneClass numbers) other ps ts
      classes_over no_part [] h = h
      classes_over no_part (t ∷ ts) h = h
      classes_over (part s ss) [] h = h
      classes_over (part s ss) (t ∷ ts) h = (class_over s t h.0, classes_over ss ts h.1)

    abbrev HoldsHere : Match ℕ → Side → Type 0
    HoldsHere n s = Holds view assumed (nodes g) (IsNode g) (OneClass numbers) n s

    holds_over : (s : Side) → ((i : NameId) → In (side_names s) i → AgreeOn m.params p i) → HoldsHere m s → HoldsHere other s
    holds_over (settled j) a h = h
    holds_over (not_free j) a h = (h.0, h.1, subst (λ (d : ℕ). NotFree view d (nodes g) (IsNode g) (OneClass numbers) h.0) (a name.Depth (inl refl)) h.2)
    holds_over (symbols_differ s t) a h =
        subst (λ (x : Sym). (x.name ≢ (p.symbols t).name) ⊎ (x.desc ≢ (p.symbols t).desc)) (a (name.Symbol s) (inl refl))
        (subst (λ (y : Sym). ((m.params.symbols s).name ≢ y.name) ⊎ ((m.params.symbols s).desc ≢ y.desc)) (a (name.Symbol t) (inr (inl refl))) h)
    holds_over (kinds_differ k l) a h = subst (λ (x : Kind). x ≢ p.kinds l) (a (name.Kind k) (inl refl)) (subst (λ (y : Kind). m.params.kinds k ≢ y) (a (name.Kind l) (inr (inl refl))) h)
    holds_over (not_byte k) a h = subst (λ (x : Kind). x ≢ kind.Byte) (a (name.Kind k) (inl refl)) h
    holds_over (constants_differ j k) a h = subst (λ (x : Num). x ≢ p.constants k) (a (name.Constant j) (inl refl)) (subst (λ (y : Num). m.params.constants j ≢ y) (a (name.Constant k) (inr (inl refl))) h)

    all_hold_over : (ss : List Side) → ((i : NameId) → In (sides_names ss) i → AgreeOn m.params p i) → AllByRecursion (HoldsHere m) ss → AllByRecursion (HoldsHere other) ss
    all_hold_over [] a h = tt
    all_hold_over (s ∷ ss) a h = (holds_over s (λ i k. a i (In-left (side_names s) (sides_names ss) i k)) h.0, all_hold_over ss (λ i k. a i (In-right (side_names s) (sides_names ss) i k)) h.1)

    match_over : BindsItsNames m.entry → ((i : NameId) → In (names m.entry.left) i → AgreeOn m.params p i) → IsMatchAt view assumed table g numbers m → IsMatchAt view assumed table g numbers other
    match_over b a is = record {
      of_table = is.of_table;
      kids = is.kids;
      vars = is.vars;
      long = is.long;
      alone = is.alone;
      at_ = is.at_;
      is = is.is;
      stands = (is.stands.0, sym (filled_agrees m.params p (length m.kids) m.entry.left a) ∙ is.stands.1, class_over is.stands.0 is.at_ is.stands.2);
      constants = λ j i. let c = is.constants j i in (c.0, c.1, c.2, subst (λ (n : Num). number_op n ≡ Some c.1) (a (name.Constant j) i) c.3, c.4);
      sides = all_hold_over m.entry.sides (λ i k. a i (sides_named m.entry b i k)) is.sides;
    }

  same_is : (h d : Match ℕ) → IsSameMatch h d → record h { params = d.params } ≡ d
  same_is h d s =
      ap (λ (e : Axiom). record { entry = e; params = d.params; kids = h.kids; vars = h.vars }) s.entry
      ∙ (ap (λ (ks : List ℕ). record { entry = d.entry; params = d.params; kids = ks; vars = h.vars }) s.kids ∙ ap (λ (vs : List ℕ). record { entry = d.entry; params = d.params; kids = d.kids; vars = vs }) s.vars)

  -- what is decoded of a match is one
  pub same_is_match : (h d : Match ℕ) → BindsItsNames h.entry → IsSameMatch h d → IsMatchAt view assumed table g numbers h → IsMatchAt view assumed table g numbers d
  same_is_match h d b s is = subst (IsMatchAt view assumed table g numbers) (same_is h d s) (match_over h d.params b s.params is)

  -- ---- lists of matches

  agree_flip : (p q : Params) (i : NameId) → AgreeOn p q i → AgreeOn q p i
  agree_flip p q name.Depth e = sym e
  agree_flip p q (name.Symbol s) e = sym e
  agree_flip p q (name.Kind s) e = sym e
  agree_flip p q (name.Constant s) e = sym e
  agree_flip p q name.Operation e = sym e

  agree_chain : (p q r : Params) (i : NameId) → AgreeOn p q i → AgreeOn q r i → AgreeOn p r i
  agree_chain p q r name.Depth e f = e ∙ f
  agree_chain p q r (name.Symbol s) e f = e ∙ f
  agree_chain p q r (name.Kind s) e f = e ∙ f
  agree_chain p q r (name.Constant s) e f = e ∙ f
  agree_chain p q r name.Operation e f = e ∙ f

  abbrev One : Match ℕ → Match ℕ → Type 0
  One m n = AreOne (OneClass numbers) m n

  one_after : (m h d : Match ℕ) → IsSameMatch h d → One m h → One m d
  one_after m h d s o = record {
    entry = o.entry ∙ s.entry;
    params = λ i k. agree_chain m.params h.params d.params i (o.params i k) (s.params i (subst (λ (e : Axiom). In (names e.left) i) o.entry k));
    kids = subst (AllZip (OneClass numbers) m.kids) s.kids o.kids;
    vars = subst (AllZip (OneClass numbers) m.vars) s.vars o.vars;
  }

  one_before : (h d k e : Match ℕ) → IsSameMatch h d → IsSameMatch k e → One d e → One h k
  one_before h d k e s t o = record {
    entry = s.entry ∙ (o.entry ∙ sym t.entry);
    params = λ i v.
        let w = subst (λ (b : Axiom). In (names b.left) i) s.entry v in
        let x = subst (λ (b : Axiom). In (names b.left) i) (o.entry ∙ sym t.entry) w in
        agree_chain h.params d.params k.params i (s.params i v) (agree_chain d.params e.params k.params i (o.params i w) (agree_flip k.params e.params i (t.params i x)));
    kids = subst (λ (xs : List ℕ). AllZip (OneClass numbers) xs k.kids) (sym s.kids) (subst (AllZip (OneClass numbers) d.kids) (sym t.kids) o.kids);
    vars = subst (λ (xs : List ℕ). AllZip (OneClass numbers) xs k.vars) (sym s.vars) (subst (AllZip (OneClass numbers) d.vars) (sym t.vars) o.vars);
  }

  -- what is decoded of all matches are all matches
  pub same_are_all : ((e : Axiom) → In table e → BindsItsNames e) → (list others : List (Match ℕ)) → AllZip IsSameMatch list others → AreAllAt view assumed table g numbers list → AreAllAt view assumed table g numbers others
  same_are_all binds list others z all = record {
    each = λ i d at_. let r = zip_right IsSameMatch list others z i d at_ in let is = all.each i r.0 r.1 in same_is_match r.0 d (binds r.0.entry is.of_table) r.2 is;
    all = λ m is. let n = all.all m is in let r = zip_left IsSameMatch list others z n.0 n.1 n.2 in (n.0, r.0, r.1, one_after m n.1 r.0 r.2 n.3);
    once = λ i j d e lt at_ there o.
        let r = zip_right IsSameMatch list others z i d at_ in
        let s = zip_right IsSameMatch list others z j e there in
        all.once i j r.0 s.0 lt r.1 s.1 (one_before r.0 d s.0 e r.2 s.2 o);
  }

-- ---- what matching finds

-- each match of its list shows one
pub each_shown : (g : Graph) (numbers assumed : List ℕ) (table : List Axiom) (list : List found.Match) → AreAllMatches g numbers assumed table list → (x : found.Match) → In list x → ShowsMatch table x
each_shown g numbers assumed table list all x i =
    let at_ = in_get list x i in
    let h = zip_left Shows list all.matches all.shown at_.0 x at_.1 in
    (h.0, record { shows = h.2; view = base_view g; assumed = assumed; graph = g; numbers = numbers; is = all.all.each at_.0 h.0 h.1 })

module _ (g : Graph) (numbers assumed : List ℕ) (table : List Axiom) where
  zip_same : (list : List found.Match) (hs ds : List (Match ℕ)) → AllZip Shows list hs → ((i : ℕ) (h : Match ℕ) → slice_get hs i ≡ Some h → IsMatchAt (base_view g) assumed table g numbers h) → AllZip (IsDecoded table) list ds → AllZip IsSameMatch hs ds
  zip_same [] [] [] s each z = tt
  zip_same [] [] (d ∷ ds) s each z = absurd z
  zip_same [] (h ∷ hs) ds s each z = absurd s
  zip_same (x ∷ list) [] ds s each z = absurd s
  zip_same (x ∷ list) (h ∷ hs) [] s each z = absurd z
  zip_same (x ∷ list) (h ∷ hs) (d ∷ ds) s each z =
      (z.0 h (record { shows = s.0; view = base_view g; assumed = assumed; graph = g; numbers = numbers; is = each 0 h refl }), zip_same list hs ds s.1 (λ i k e. each (suc i) k e) z.1)

  -- all of them decoded are all matches
  pub decoded_are_all : ((e : Axiom) → In table e → BindsItsNames e) → (list : List found.Match) (ds : List (Match ℕ)) → AreAllMatches g numbers assumed table list → AllZip (IsDecoded table) list ds → AreAllAt (base_view g) assumed table g numbers ds
  decoded_are_all binds list ds all z = same_are_all (base_view g) assumed table g numbers binds all.matches ds (zip_same list all.matches ds all.shown all.all.each z) all.all

-- ---- the choice of its nodes

module _ (view : View) (assumed : List ℕ) (h : Graph) (numbers : List ℕ) (m : Match ℕ) (is : IsMatchAt view assumed axioms h numbers m) where
  pub left_stands : LeftStands h numbers m
  left_stands = record { kids = is.kids; at_ = is.at_; is = is.is; stands = is.stands }

  module _ (g : Graph) (t : Witnesses) (long : length h.nodes ≡ length numbers) (has : HaveWitnesses view assumed h g numbers m t) where
    held : (s : Side) → In m.entry.sides s → Holds view assumed (nodes h) (IsNode h) (OneClass numbers) m s
    held s i = all_in (Holds view assumed (nodes h) (IsNode h) (OneClass numbers) m) m.entry.sides s is.sides i

    settled_has : (j v : ℕ) → In m.entry.sides (settled j) → slice_get m.vars j ≡ Some v → HasWitness numbers t.settled.now v
    settled_has j v i e = let x = held (settled j) i in subst (HasWitness numbers t.settled.now) (same_Some x.0 v (sym x.1 ∙ e)) (has.settled_ j x.0 i x.2)

    free_has : (j v : ℕ) → In m.entry.sides (not_free j) → slice_get m.vars j ≡ Some v → HasWitness numbers t.not_free.now v
    free_has j v i e = let x = held (not_free j) i in subst (HasWitness numbers t.not_free.now) (same_Some x.0 v (sym x.1 ∙ e)) (has.not_free_ j x.0 i x.2)

    constant_has : (j v : ℕ) → In (names m.entry.left) (name.Constant j) → slice_get m.vars j ≡ Some v → (o : Op) × (number_op (m.params.constants j) ≡ Some o) × ClassHas (nodes h) (IsNode h) (OneClass numbers) v o []
    constant_has j v i e =
        let c = is.constants j i in
        (c.1, c.3, subst (λ (x : ℕ). ClassHas (nodes h) (IsNode h) (OneClass numbers) x c.1 []) (same_Some c.0 v (sym c.2 ∙ e)) c.4)

    low : (v : ℕ) → In m.vars v → v < length numbers
    low v i = let z : v < length h.nodes = all_in (IsNode h) m.vars v is.vars i in omega (arith, z, long)

    pub can_choose : CanChoose h g numbers m t
    can_choose = record {
      entry = is.of_table;
      vars = low;
      settled_ = settled_has;
      not_free_ = free_has;
      constants = constant_has;
      of_settled = has.of_settled;
      of_not_free = has.of_not_free;
    }
