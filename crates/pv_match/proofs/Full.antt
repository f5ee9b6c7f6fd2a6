-- A match on classes of nodes is a match on class numbers.
use Rattle.std.proofs.Common.{◌≡◌, ℕ, zero, suc, ◌+◌, Bool, true, false, List, [], ◌∷◌, ◌++◌, map, length, Some, None, slice_get, inl, refl, sym, ap, ◌∙◌, subst, arith, ◌==◌, if◌then◌else◌}
use Rattle.std.specs.List.{AllZip}
use Rattle.std.proofs.lemmas.List.{length-map}
use Rattle.pv_value.specs.Spelled.{bind}
use Rattle.pv_value.specs.declared.number.Num.{Num}
use Rattle.pv_value.specs.declared.number.Num.TheVariants as num
use Rattle.pv_graph.specs.declared.node.Op.{Op}
use Rattle.pv_graph.specs.Walks.{In}
use Rattle.pv_graph.specs.Graphs.{Graph}
use Rattle.pv_pattern.specs.declared.names.NameId.{NameId}
use Rattle.pv_pattern.specs.declared.names.NameId.TheVariants as name
use Rattle.pv_pattern.specs.Patterns.{Head, fixed, theta_d, eval_d, pass_d, shift_d, getstatic, putstatic, getfield, putfield, load, store, bare, shifted, evaluated, Pattern, var, constant, fold, narrowed, over, over_each, Patterns, none, first, Side, settled, not_free, symbols_differ, kinds_differ, not_byte, constants_differ, Axiom, variables}
use Rattle.pv_pattern.specs.Numbers.{op_number}
use Rattle.pv_pattern.specs.Instances.{Names, head_op, constant_of}
use Rattle.pv_pattern.specs.Binding.{names, names_in, listed_name}
use Rattle.pv_pattern.specs.Found.{head_name}
use Rattle.pv_marks.specs.Classes.{class_of, HasForm}
use Rattle.pv_match.specs.Standing.{HoldsConstant, IsEachIn, StandsIn, AllStandIn}
use Rattle.pv_match.specs.Matches.{HoldsIn}
use Rattle.pv_match.specs.Parameters.{params_of}
use Rattle.pv_match.specs.Matches as found
use Rattle.pv_heights.specs.Filled.{Filled, at, of, Parts, no_part, part, kid, variable, over0, number_op, constant_part, each_parts, filled, all_filled}
use Rattle.pv_heights.specs.Filled as fill
use Rattle.pv_heights.specs.Sides.{Match, ClassHas, InClass, AllInClass}
use Rattle.pv_heights.specs.Conditions.{Holds}
use Rattle.pv_heights.specs.Matches.{IsMatch}
use Rattle.pv_heights.specs.SameClasses.{IsCongruence}
use Rattle.pv_heights.specs.Searches.{nodes, IsNode, OneClass, base_view}
use Rattle.pv_heights.proofs.Cited.{In-left, In-right}
use Rattle.pv_match.specs.Reading.{reads, reads_all, IsReadable}
use Rattle.pv_match.specs.Agreeing.{AreLeast}
use Rattle.pv_match.proofs.Numbered.{some_once, bind_some, same_class, has_form, mapped_class}
use Rattle.pv_match.proofs.Marked.{settled_back, unfree_back}
use Rattle.pv_match.proofs.Sound.{all_to}

-- the names of a match, with the numbers of its classes
abbrev pub names_of : List ℕ → Match ℕ → Names
names_of numbers m = record {
  depth = m.params.depth;
  symbols = m.params.symbols;
  kinds = m.params.kinds;
  constants = m.params.constants;
  op_ = m.params.op_;
  kids = map (class_of numbers) m.kids;
  vars = map (class_of numbers) m.vars;
}

op_constant : (c : Num) (o : Op) → number_op c ≡ Some o → constant_of o ≡ Some c
op_constant (num.Int n) o e = subst (λ p. constant_of p ≡ Some (num.Int n)) (some_once e) refl
op_constant (num.Long n) o e = subst (λ p. constant_of p ≡ Some (num.Long n)) (some_once e) refl
op_constant (num.Ref n) o e = absurd (cc)

if_some : {A : Type 0} (b : Bool) (x y : A) → (if b then Some x else None) ≡ Some y → (b ≡ true) × (x ≡ y)
if_some true x y e = (refl, some_once e)
if_some false x y e = absurd (cc)

equal_number : (m n : ℕ) → (m == n) ≡ true → m ≡ n
equal_number m n e = grind (arith)

module _ (g : Graph) (numbers : List ℕ) (a : AreLeast g numbers) (c : IsCongruence (base_view g) (nodes g) (IsNode g) (OneClass numbers)) (M : Match ℕ) where
  abbrev J : ℕ → ℕ → Type 0
  J = OneClass numbers

  abbrev m : Names
  m = names_of numbers M

  head_back : (h : Head) → head_op (fill.named M.params) h ≡ head_op m h
  head_back (fixed o) = refl
  head_back theta_d = refl
  head_back eval_d = refl
  head_back pass_d = refl
  head_back shift_d = refl
  head_back (getstatic s) = refl
  head_back (putstatic s) = refl
  head_back (getfield s) = refl
  head_back (putfield s) = refl
  head_back (load k) = refl
  head_back (store k) = refl

  abbrev Constants : List NameId → Type 0
  Constants ns = (j : ℕ) → In ns (name.Constant j) → (x : ℕ) × (o : Op) × (slice_get M.vars j ≡ Some x) × (number_op (M.params.constants j) ≡ Some o) × ClassHas (nodes g) (IsNode g) J x o []

  nothing : (ks : List ℕ) → AllInClass (nodes g) (IsNode g) J M no_part ks → ks ≡ []
  nothing [] h = refl
  nothing (k ∷ ks) h = absurd h

  -- all constants of one number are one class
  one_constant : (x y : ℕ) (o : Op) → ClassHas (nodes g) (IsNode g) J x o [] → ClassHas (nodes g) (IsNode g) J y o [] → J x y
  one_constant x y o h k = c.chain x h.thing y (c.flip x h.thing h.joins) (c.chain h.thing k.thing y (c.kids h.thing k.thing o [] [] h.is k.is h.has k.has tt) k.joins)

  constant_back : (j : ℕ) → Constants (name.Constant j ∷ []) → (s : Filled) → constant_part (M.params.constants j) ≡ Some s → (t : ℕ) → InClass (nodes g) (IsNode g) J M s t
      → (slice_get m.vars j ≡ Some (class_of numbers t)) × HoldsConstant g numbers (class_of numbers t) (M.params.constants j)
  constant_back j k s e t h =
      let b = bind_some (number_op (M.params.constants j)) (λ o. Some (over0 o)) s e in
      let i : InClass (nodes g) (IsNode g) J M (over0 b.0) t = subst (λ f. InClass (nodes g) (IsNode g) J M f t) (sym (some_once b.2)) h in
      let has : ClassHas (nodes g) (IsNode g) J t b.0 [] = subst (λ ks. ClassHas (nodes g) (IsNode g) J t b.0 ks) (nothing i.0 i.2) i.1 in
      let x = k j (inl refl) in
      let other : ClassHas (nodes g) (IsNode g) J x.0 b.0 [] = subst (λ o. ClassHas (nodes g) (IsNode g) J x.0 o []) (some_once (sym x.3 ∙ b.1)) x.4 in (
        mapped_class g numbers a M.vars j x.0 x.2 ∙ ap Some (same_class g numbers a x.0 t (one_constant x.0 t b.0 other has)),
        (b.0, has_form g numbers a t b.0 [] has, op_constant (M.params.constants j) b.0 b.1),
      )

  each_back : (i : ℕ) (rest ks : List ℕ) → ((j k : ℕ) → slice_get rest j ≡ Some k → slice_get M.kids (i + j) ≡ Some k) → AllInClass (nodes g) (IsNode g) J M (each_parts M.params bare i (length rest)) ks
      → AllZip (IsEachIn g numbers m bare) (map (class_of numbers) rest) (map (class_of numbers) ks)
  each_back i [] [] d h = tt
  each_back i [] (k ∷ ks) d h = absurd h
  each_back i (x ∷ rest) [] d h = absurd h
  each_back i (x ∷ rest) (k ∷ ks) d h =
      let same : h.0.0 ≡ x = some_once (sym h.0.1 ∙ subst (λ v. slice_get M.kids v ≡ Some x) (plus_zero i) (d zero x refl)) in
      (same_class g numbers a x k (subst (λ v. J v k) same h.0.2), each_back (suc i) rest ks (λ j y q. subst (λ v. slice_get M.kids v ≡ Some y) (plus_suc i j) (d (suc j) y q)) h.1)
    where
      plus_zero : (i : ℕ) → i + zero ≡ i
      plus_zero i = omega arith

      plus_suc : (i j : ℕ) → i + suc j ≡ suc i + j
      plus_suc i j = omega arith

  both_parts : (n q k : ℕ) (p : Pattern) (ps : Patterns) (s : Filled) (ss : Parts) (ks : List ℕ) → AllInClass (nodes g) (IsNode g) J M (part s ss) ks
      → ((t : ℕ) → InClass (nodes g) (IsNode g) J M s t → StandsIn g numbers m p (class_of numbers t)) → ((ls : List ℕ) → AllInClass (nodes g) (IsNode g) J M ss ls → AllStandIn g numbers m ps (map (class_of numbers) ls))
      → AllStandIn g numbers m (first p ps) (map (class_of numbers) ks)
  both_parts n q k p ps s ss [] h f l = absurd h
  both_parts n q k p ps s ss (i ∷ ks) h f l = (f i h.0, l ks h.1)

  mutual
    pub stands_back : (n k : ℕ) (p : Pattern) → reads n p ≡ Some k → Constants (names p) → (s : Filled) → filled M.params (length M.kids) p ≡ Some s → (t : ℕ) → InClass (nodes g) (IsNode g) J M s t
        → StandsIn g numbers m p (class_of numbers t)
    stands_back n k (var j) r u s e t h =
        let i = subst (λ f. InClass (nodes g) (IsNode g) J M f t) (sym (some_once e)) h in
        mapped_class g numbers a M.vars j i.0 i.1 ∙ ap Some (same_class g numbers a i.0 t i.2)
    stands_back n k (constant j) r u s e t h = constant_back j u s e t h
    stands_back n k (fold o atoms) r u s e t h = absurd (cc)
    stands_back n k (narrowed b p) r u s e t h = absurd (cc)
    stands_back n k (over h ps) r u s e t i =
        let b = bind_some (all_filled M.params (length M.kids) ps) (λ ss. Some (of (head_op (fill.named M.params) h) ss)) s e in
        let l = subst (λ f. InClass (nodes g) (IsNode g) J M f t) (sym (some_once b.2)) i in (
          map (class_of numbers) l.0,
          subst (λ o. HasForm g numbers (class_of numbers t) o (map (class_of numbers) l.0)) (head_back h) (has_form g numbers a t (head_op (fill.named M.params) h) l.0 l.1),
          all_stand_back n k ps r (λ j v. u j (In-right (listed_name (head_name h)) (names_in ps) (name.Constant j) v)) b.0 b.1 l.0 l.2,
        )
    stands_back n k (over_each w bare) r u s e t i =
        let b = if_some (op_number M.params.op_ == w) (of M.params.op_ (each_parts M.params bare 0 (length M.kids))) s e in
        let l = subst (λ f. InClass (nodes g) (IsNode g) J M f t) (sym b.1) i in (
          map (class_of numbers) l.0,
          has_form g numbers a t M.params.op_ l.0 l.1,
          equal_number (op_number M.params.op_) w b.0,
          each_back zero M.kids l.0 (λ j x q. subst (λ v. slice_get M.kids v ≡ Some x) (zero_plus j) q) l.2,
        )
      where
        zero_plus : (j : ℕ) → j ≡ zero + j
        zero_plus j = omega arith
    stands_back n k (over_each w shifted) r u s e t i = absurd (cc)
    stands_back n k (over_each w (evaluated j)) r u s e t i = absurd (cc)

    pub all_stand_back : (n k : ℕ) (ps : Patterns) → reads_all n ps ≡ Some k → Constants (names_in ps) → (ss : Parts) → all_filled M.params (length M.kids) ps ≡ Some ss → (ks : List ℕ) → AllInClass (nodes g) (IsNode g) J M ss ks
        → AllStandIn g numbers m ps (map (class_of numbers) ks)
    all_stand_back n k none r u ss e ks h =
        let i = nothing ks (subst (λ f. AllInClass (nodes g) (IsNode g) J M f ks) (sym (some_once e)) h) in subst (λ ls. AllStandIn g numbers m none (map (class_of numbers) ls)) (sym i) tt
    all_stand_back n k (first p ps) r u ss e ks h =
        let q = bind_some (reads n p) (λ j. reads_all j ps) k r in
        let b = bind_some (filled M.params (length M.kids) p) (λ s. bind (all_filled M.params (length M.kids) ps) (λ ss. Some (part s ss))) ss e in
        let d = bind_some (all_filled M.params (length M.kids) ps) (λ ss. Some (part b.0 ss)) ss b.2 in
        both_parts n q.0 k p ps b.0 d.0 ks (subst (λ f. AllInClass (nodes g) (IsNode g) J M f ks) (sym (some_once d.2)) h)
        (λ t i. stands_back n q.0 p q.1 (λ j v. u j (In-left (names p) (names_in ps) (name.Constant j) v)) b.0 b.1 t i)
        (λ ls i. all_stand_back q.0 k ps q.2 (λ j v. u j (In-right (names p) (names_in ps) (name.Constant j) v)) d.0 d.1 ls i)

  holds_back : (assumed : List ℕ) (s : Side) → Holds (base_view g) assumed (nodes g) (IsNode g) J M s → HoldsIn g numbers assumed m s
  holds_back assumed (settled j) h = (class_of numbers h.0, mapped_class g numbers a M.vars j h.0 h.1, settled_back g numbers assumed a h.0 h.2)
  holds_back assumed (not_free j) h = (class_of numbers h.0, mapped_class g numbers a M.vars j h.0 h.1, unfree_back g numbers assumed a M.params.depth h.0 h.2)
  holds_back assumed (symbols_differ s t) h = h
  holds_back assumed (kinds_differ k l) h = h
  holds_back assumed (not_byte k) h = h
  holds_back assumed (constants_differ j k) h = h

  pub match_back : (assumed : List ℕ) (table : List Axiom) → IsReadable M.entry → IsMatch (base_view g) assumed table (nodes g) (IsNode g) J M → (i : found.IsMatch g numbers assumed M.entry (params_of m M.entry.left) (m.kids ++ m.vars)) × (i.names ≡ m)
  match_back assumed table r i = (
    record {
      names = m;
      at_ = class_of numbers i.at_;
      stands = subst (λ p. StandsIn g numbers m p (class_of numbers i.at_)) (sym r.left)
          (stands_back 0 (variables M.entry.left) (over r.head r.parts) r.reads_ (λ j v. i.constants j (subst (λ p. In (names p) (name.Constant j)) (sym r.left) v)) i.stands.0
          (subst (λ p. filled M.params (length M.kids) p ≡ Some i.stands.0) r.left i.stands.1) i.at_ i.stands.2);
      fits = record {
        sides = all_to (Holds (base_view g) assumed (nodes g) (IsNode g) J M) (HoldsIn g numbers assumed m) (holds_back assumed) M.entry.sides i.sides;
        long = length-map M.vars (class_of numbers) ∙ i.long;
        alone = λ e. ap (map (class_of numbers)) (i.alone e);
        are = refl;
        params_ = refl;
      };
    },
    refl,
  )
