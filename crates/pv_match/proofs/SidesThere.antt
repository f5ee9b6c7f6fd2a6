-- A match on class numbers is a match on classes of nodes.
use Rattle.std.proofs.Common.{◌≡◌, ℕ, zero, suc, ◌+◌, ◌<◌, ◌≤◌, Bool, true, false, List, [], ◌∷◌, map, length, Some, None, slice_get, ◌⊎◌, inl, inr, refl, sym, ap, ap₂, subst, arith, nat_lt, nat_eq, if◌then◌else◌, tests}
use Rattle.std.specs.List.{AllZip, AllByRecursion}
use Rattle.pv_value.specs.Spelled.{bind}
use Rattle.pv_value.specs.declared.number.Num.{Num}
use Rattle.pv_graph.specs.declared.node.Op.{Op}
use Rattle.pv_graph.specs.Graphs.{Graph}
use Rattle.pv_pattern.specs.Patterns.{bare, shifted, evaluated, Pattern, var, constant, fold, narrowed, over, over_each, Patterns, none, first, Axiom}
use Rattle.pv_pattern.specs.Numbers.{op_number}
use Rattle.pv_pattern.specs.Instances.{Names, head_op}
use Rattle.pv_marks.specs.Classes.{class_of}
use Rattle.pv_match.specs.Standing.{HoldsConstant, IsEachIn, StandsIn, AllStandIn}
use Rattle.pv_heights.specs.Filled.{Filled, at, of, Parts, no_part, part, variable, over0, number_op, each_parts, filled, all_filled}
use Rattle.pv_heights.specs.Sides.{Match, ClassHas, InClass, AllInClass}
use Rattle.pv_heights.specs.Searches.{nodes, IsNode, OneClass, params_of, match_of}
use Rattle.pv_heights.proofs.Cited.{constant_op, head_same, same_number}
use Rattle.pv_match.specs.Reading.{reads, reads_all, next_var}
use Rattle.pv_match.specs.Agreeing.{AreLeast}
use Rattle.pv_match.proofs.Numbered.{some_once, bind_some, no_kids, number_of, one, kids_are, form_has, IsNumber}

number_cases : (i n k : ℕ) → next_var n i ≡ Some k → ((i < n) × (k ≡ n)) ⊎ ((i ≡ n) × (k ≡ n + 1))
number_cases i n k e = go (nat_lt i n) (nat_eq i n) refl refl e
  where
    go : (a b : Bool) → nat_lt i n ≡ a → nat_eq i n ≡ b → (if a then Some n else (if b then Some (n + 1) else None)) ≡ Some k → ((i < n) × (k ≡ n)) ⊎ ((i ≡ n) × (k ≡ n + 1))
    go true b p q f = inl (grind (arith, tests, p), sym (some_once f))
    go false true p q f = inr (grind (arith, tests, q), sym (some_once f))
    go false false p q f = absurd (cc)

module _ (g : Graph) (numbers : List ℕ) (a : AreLeast g numbers) (entry : Axiom) (m : Names) where
  abbrev J : ℕ → ℕ → Type 0
  J = OneClass numbers

  abbrev M : Match ℕ
  M = match_of entry m

  -- the pattern, filled in, stands in the class of t
  abbrev There : Pattern → ℕ → Type 0
  There p t = (s : Filled) × (filled (params_of m) (length m.kids) p ≡ Some s) × InClass (nodes g) (IsNode g) J M s t

  abbrev AllThere : Patterns → List ℕ → Type 0
  AllThere ps ks = (ss : Parts) × (all_filled (params_of m) (length m.kids) ps ≡ Some ss) × AllInClass (nodes g) (IsNode g) J M ss ks

  number_joined : (c t : ℕ) → IsNode g t → class_of numbers t ≡ c → J c t
  number_joined c t l e =
      let n = number_of g numbers a t l in
      subst (λ d. J d t) e (one g numbers a (class_of numbers t) t n.0 l n.1)

  pub constant_there : (c t : ℕ) → IsNode g t → class_of numbers t ≡ c → (n : Num) → HoldsConstant g numbers c n → (o : Op) × (number_op n ≡ Some o) × ClassHas (nodes g) (IsNode g) J t o []
  constant_there c t l e n h =
      let f = form_has g numbers a c h.0 [] h.1 t l e in
      (h.0, constant_op h.0 n h.2, subst (λ ks. ClassHas (nodes g) (IsNode g) J t h.0 ks) (no_kids (class_of numbers) f.0 f.2) f.1)

  -- the kids of a family, each in its class
  each_there : (i : ℕ) (rest ks : List ℕ) → ((j k : ℕ) → slice_get rest j ≡ Some k → slice_get m.kids (i + j) ≡ Some k) → AllByRecursion (IsNode g) ks → AllZip (IsEachIn g numbers m bare) rest (map (class_of numbers) ks)
      → AllInClass (nodes g) (IsNode g) J M (each_parts (params_of m) bare i (length rest)) ks
  each_there i [] [] d l z = tt
  each_there i [] (k ∷ ks) d l z = absurd z
  each_there i (c ∷ rest) [] d l z = absurd z
  each_there i (c ∷ rest) (k ∷ ks) d l z = (
    (c, subst (λ v. slice_get m.kids v ≡ Some c) (plus_zero i) (d zero c refl), number_joined c k l.0 (sym z.0)),
    each_there (suc i) rest ks (λ j x q. subst (λ v. slice_get m.kids v ≡ Some x) (plus_suc i j) (d (suc j) x q)) l.1 z.1,
  )
    where
      plus_zero : (i : ℕ) → i + zero ≡ i
      plus_zero i = omega arith

      plus_suc : (i j : ℕ) → i + suc j ≡ suc i + j
      plus_suc i j = omega arith

  mutual
    pub stands_there : (n k : ℕ) (p : Pattern) → reads n p ≡ Some k → (c t : ℕ) → IsNode g t → class_of numbers t ≡ c → StandsIn g numbers m p c → There p t
    stands_there n k (var j) r c t l e h = (at (variable j), refl, (c, h, number_joined c t l e))
    stands_there n k (constant j) r c t l e h =
        let o = constant_there c t l e (m.constants j) h.1 in
        (over0 o.0, ap (λ f. bind f (λ o. Some (over0 o))) o.1, ([], o.2, tt))
    stands_there n k (fold o atoms) r c t l e h = absurd (cc)
    stands_there n k (narrowed b p) r c t l e h = absurd (cc)
    stands_there n k (over h ps) r c t l e s =
        let f = form_has g numbers a c (head_op m h) s.0 s.1 t l e in
        let ss = all_stand_there n k ps r f.0 (kids_are g numbers a t (head_op m h) f.0 f.1) (subst (λ cs. AllStandIn g numbers m ps cs) (sym f.2) s.2) in
        (of (head_op m h) ss.0, ap₂ (λ o f. bind f (λ vs. Some (of o vs))) (head_same m h) ss.1, (f.0, f.1, ss.2))
    stands_there n k (over_each w bare) r c t l e s =
        let f = form_has g numbers a c m.op_ s.0 s.1 t l e in (
          of m.op_ (each_parts (params_of m) bare 0 (length m.kids)),
          ap (λ b. if b then Some (of m.op_ (each_parts (params_of m) bare 0 (length m.kids))) else None) (same_number (op_number m.op_) w s.2),
          (
            f.0,
            f.1,
            each_there zero m.kids f.0 (λ j x q. subst (λ v. slice_get m.kids v ≡ Some x) (zero_plus j) q) (kids_are g numbers a t m.op_ f.0 f.1)
                (subst (λ cs. AllZip (IsEachIn g numbers m bare) m.kids cs) (sym f.2) s.3),
          ),
        )
      where
        zero_plus : (j : ℕ) → j ≡ zero + j
        zero_plus j = omega arith
    stands_there n k (over_each w shifted) r c t l e s = absurd (cc)
    stands_there n k (over_each w (evaluated j)) r c t l e s = absurd (cc)

    pub all_stand_there : (n k : ℕ) (ps : Patterns) → reads_all n ps ≡ Some k → (ks : List ℕ) → AllByRecursion (IsNode g) ks → AllStandIn g numbers m ps (map (class_of numbers) ks) → AllThere ps ks
    all_stand_there n k none r [] l h = (no_part, refl, tt)
    all_stand_there n k none r (i ∷ ks) l h = absurd h
    all_stand_there n k (first p ps) r [] l h = absurd h
    all_stand_there n k (first p ps) r (i ∷ ks) l h =
        let b = bind_some (reads n p) (λ j. reads_all j ps) k r in
        let s = stands_there n b.0 p b.1 (class_of numbers i) i l.0 refl h.0 in
        let ss = all_stand_there b.0 k ps b.2 ks l.1 h.1 in
        (part s.0 ss.0, ap₂ (λ f fs. bind f (λ v. bind fs (λ vs. Some (part v vs)))) s.1 ss.1, (s.2, ss.2))

  -- ---- each variable that is read has a class

  abbrev HasNumber : ℕ → Type 0
  HasNumber j = (x : ℕ) × (slice_get m.vars j ≡ Some x) × IsNumber g numbers a x

  var_number : (i n k c : ℕ) → next_var n i ≡ Some k → slice_get m.vars i ≡ Some c → IsNumber g numbers a c → (j : ℕ) → n ≤ j → j < k → HasNumber j
  var_number i n k c r e d j l u = go (number_cases i n k r)
    where
      go : ((i < n) × (k ≡ n)) ⊎ ((i ≡ n) × (k ≡ n + 1)) → HasNumber j
      go (inl q) = absurd (omega (arith, l, u, q.0, q.1))
      go (inr q) = let same : i ≡ j = omega (arith, l, u, q.0, q.1) in (c, subst (λ v. slice_get m.vars v ≡ Some c) same e, d)

  either_part : (b j k : ℕ) → (j < b) ⊎ (b ≤ j)
  either_part b j k = grind arith

  by_part : (b j : ℕ) → (j < b) ⊎ (b ≤ j) → (j < b → HasNumber j) → (b ≤ j → HasNumber j) → HasNumber j
  by_part b j (inl v) f h = f v
  by_part b j (inr v) f h = h v

  mutual
    pub read_vars : (n k : ℕ) (p : Pattern) → reads n p ≡ Some k → (c : ℕ) → IsNumber g numbers a c → StandsIn g numbers m p c → (j : ℕ) → n ≤ j → j < k → HasNumber j
    read_vars n k (var i) r c d h j l u = var_number i n k c r h d j l u
    read_vars n k (constant i) r c d h j l u = var_number i n k c r h.0 d j l u
    read_vars n k (fold o atoms) r c d h j l u = absurd (cc)
    read_vars n k (narrowed b p) r c d h j l u = absurd (cc)
    read_vars n k (over h ps) r c d s j l u =
        let f = form_has g numbers a c (head_op m h) s.0 s.1 c d.0 d.1 in
        read_all_vars n k ps r f.0 (kids_are g numbers a c (head_op m h) f.0 f.1) (subst (λ cs. AllStandIn g numbers m ps cs) (sym f.2) s.2) j l u
    read_vars n k (over_each w bare) r c d s j l u = let e : n ≡ k = some_once r in absurd (omega (arith, l, u, e))
    read_vars n k (over_each w shifted) r c d s j l u = absurd (cc)
    read_vars n k (over_each w (evaluated i)) r c d s j l u = absurd (cc)

    pub read_all_vars : (n k : ℕ) (ps : Patterns) → reads_all n ps ≡ Some k → (ks : List ℕ) → AllByRecursion (IsNode g) ks → AllStandIn g numbers m ps (map (class_of numbers) ks) → (j : ℕ) → n ≤ j → j < k → HasNumber j
    read_all_vars n k none r ks q h j l u = let e : n ≡ k = some_once r in absurd (omega (arith, l, u, e))
    read_all_vars n k (first p ps) r [] q h j l u = absurd h
    read_all_vars n k (first p ps) r (i ∷ ks) q h j l u =
        let b = bind_some (reads n p) (λ j. reads_all j ps) k r in
        by_part b.0 j (either_part b.0 j k) (λ v. read_vars n b.0 p b.1 (class_of numbers i) (number_of g numbers a i q.0) h.0 j l v) (λ v. read_all_vars b.0 k ps b.2 ks q.1 h.1 j v u)
