-- Equal parameters and classes are those of one match, and the other way round.
use Rattle.std.proofs.Common.{◌≡◌, ℕ, Bool, true, false, ◌||◌, ◌&&◌, List, [], ◌∷◌, ◌++◌, length, Some, flat_map, ◌⊎◌, inl, inr, refl, sym, ap, ap₂, ◌∙◌, subst, arith, if◌then◌else◌, length-append}
use Rattle.pv_value.specs.declared.number.Num.{Num}
use Rattle.pv_value.specs.declared.number.Num.TheVariants as num
use Rattle.pv_graph.specs.declared.node.Op.{Op}
use Rattle.pv_graph.specs.Walks.{In}
use Rattle.pv_graph.specs.Graphs.{Graph}
use Rattle.pv_pattern.specs.declared.names.NameId.{NameId}
use Rattle.pv_pattern.specs.declared.names.NameId.TheVariants as name
use Rattle.pv_pattern.specs.Patterns.{Head, fixed, theta_d, eval_d, pass_d, shift_d, getstatic, putstatic, getfield, putfield, load, store, Pattern, var, constant, fold, narrowed, over, over_each, Patterns, none, first}
use Rattle.pv_pattern.specs.Numbers.{op_number}
use Rattle.pv_pattern.specs.Instances.{Names}
use Rattle.pv_pattern.specs.Binding.{names, names_in, listed_name}
use Rattle.pv_pattern.specs.Found.{head_name, same_name}
use Rattle.pv_match.specs.declared.found.Param.{Param}
use Rattle.pv_match.specs.declared.found.Param.TheVariants as param
use Rattle.pv_match.specs.Standing.{StandsIn, AllStandIn}
use Rattle.pv_match.specs.Parameters.{params_in, number_param, name_params, is_among, once_more, params_of}
use Rattle.pv_heights.specs.Filled.{number_op}
use Rattle.pv_heights.specs.Matches.{AgreeOn}
use Rattle.pv_heights.specs.Searches as searches
use Rattle.pv_heights.proofs.Cited.{In-left, In-right, name_same}
use Rattle.pv_match.specs.Reading.{is_told, reads, reads_all, families, all_families}
use Rattle.pv_match.proofs.Numbered.{bind_some}
use Rattle.pv_match.proofs.Sound.{split_in, by_cases}
use Rattle.pv_match.proofs.Rebuilt.{op_once, same_count}

-- ---- names, each once

either_true : (x y : Bool) → (x || y) ≡ true → (x ≡ true) ⊎ (y ≡ true)
either_true true y e = inl refl
either_true false y e = inr e

among_in : (xs : List NameId) (n : NameId) → is_among xs n ≡ true → In xs n
among_in [] n e = absurd (cc)
among_in (x ∷ xs) n e = by_cases (either_true (same_name x n) (is_among xs n) e) (λ s. inl (name_same x n s)) (λ s. inr (among_in xs n s))

kept_step : (b : Bool) (seen : List NameId) (n i : NameId) → In seen i → In (if b then seen else seen ++ n ∷ []) i
kept_step true seen n i k = k
kept_step false seen n i k = In-left seen (n ∷ []) i k

new_step : (b : Bool) (seen : List NameId) (n : NameId) → is_among seen n ≡ b → In (if b then seen else seen ++ n ∷ []) n
new_step true seen n e = among_in seen n e
new_step false seen n e = In-right seen (n ∷ []) n (inl refl)

back_step : (b : Bool) (seen : List NameId) (n i : NameId) → In (if b then seen else seen ++ n ∷ []) i → In seen i ⊎ (n ≡ i)
back_step true seen n i k = inl k
back_step false seen n i k = by_cases (split_in seen (n ∷ []) i k) (λ v. inl v) (λ v. by_cases v (λ e. inr e) (λ w. absurd w))

once_kept : (ns seen : List NameId) (i : NameId) → In seen i → In (once_more seen ns) i
once_kept [] seen i k = k
once_kept (n ∷ ns) seen i k = once_kept ns (if is_among seen n then seen else seen ++ n ∷ []) i (kept_step (is_among seen n) seen n i k)

once_in : (ns seen : List NameId) (i : NameId) → In ns i → In (once_more seen ns) i
once_in [] seen i k = absurd k
once_in (n ∷ ns) seen i (inl e) =
    subst (λ v. In (once_more seen (n ∷ ns)) v) e (once_kept ns (if is_among seen n then seen else seen ++ n ∷ []) n (new_step (is_among seen n) seen n refl))
once_in (n ∷ ns) seen i (inr k) = once_in ns (if is_among seen n then seen else seen ++ n ∷ []) i k

once_back : (ns seen : List NameId) (i : NameId) → In (once_more seen ns) i → In seen i ⊎ In ns i
once_back [] seen i k = inl k
once_back (n ∷ ns) seen i k =
    by_cases (once_back ns (if is_among seen n then seen else seen ++ n ∷ []) i k)
    (λ v. by_cases (back_step (is_among seen n) seen n i v) (λ w. inl w) (λ e. inr (inl e))) (λ v. inr (inr v))

-- ---- lists put together

append_apart : {A : Type 0} (xs ys us vs : List A) → length xs ≡ length ys → xs ++ us ≡ ys ++ vs → (xs ≡ ys) × (us ≡ vs)
append_apart [] [] us vs l e = (refl, e)
append_apart [] (y ∷ ys) us vs l e = absurd (cc)
append_apart (x ∷ xs) [] us vs l e = absurd (cc)
append_apart (x ∷ xs) (y ∷ ys) us vs l e =
    let r = append_apart xs ys us vs (tails l) (rest e) in (ap₂ (λ a b. a ∷ b) (heads e) r.0, r.1)
  where
    tails : length (x ∷ xs) ≡ length (y ∷ ys) → length xs ≡ length ys
    tails l = omega (arith, l)

    heads : x ∷ (xs ++ us) ≡ y ∷ (ys ++ vs) → x ≡ y
    heads e = cc

    rest : x ∷ (xs ++ us) ≡ y ∷ (ys ++ vs) → xs ++ us ≡ ys ++ vs
    rest e = cc

pub ends_apart : {A : Type 0} (xs ys us vs : List A) → length us ≡ length vs → xs ++ us ≡ ys ++ vs → (xs ≡ ys) × (us ≡ vs)
ends_apart xs ys us vs l e =
    let k = ap length e in let p = length-append xs us in let q = length-append ys vs in
    append_apart xs ys us vs (omega (arith, l, sym p ∙ (k ∙ q))) e

flat_apart : (f h : NameId → List Param) (ns : List NameId) → ((i : NameId) → In ns i → length (f i) ≡ length (h i)) → flat_map f ns ≡ flat_map h ns → (i : NameId) → In ns i → f i ≡ h i
flat_apart f h [] l e i k = absurd k
flat_apart f h (n ∷ ns) l e i (inl q) = subst (λ v. f v ≡ h v) q (append_apart (f n) (h n) (flat_map f ns) (flat_map h ns) (l n (inl refl)) e).0
flat_apart f h (n ∷ ns) l e i (inr k) = flat_apart f h ns (λ j v. l j (inr v)) (append_apart (f n) (h n) (flat_map f ns) (flat_map h ns) (l n (inl refl)) e).1 i k

pub flat_same : (f h : NameId → List Param) (ns : List NameId) → ((i : NameId) → In ns i → f i ≡ h i) → flat_map f ns ≡ flat_map h ns
flat_same f h [] l = refl
flat_same f h (n ∷ ns) l = ap₂ (λ a b. a ++ b) (l n (inl refl)) (flat_same f h ns (λ i v. l i (inr v)))

-- ---- families

abbrev mutual
  -- the operation has the number of each family of the pattern
  pub HasFamilies : Names → Pattern → Type 0
  HasFamilies m (over_each w e) = op_number m.op_ ≡ w
  HasFamilies m (over h ps) = HaveFamilies m ps
  HasFamilies m p = Unit {0}

  pub HaveFamilies : Names → Patterns → Type 0
  HaveFamilies m none = Unit {0}
  HaveFamilies m (first p ps) = HasFamilies m p × HaveFamilies m ps

mutual
  pub stands_families : (g : Graph) (numbers : List ℕ) (m : Names) (n k : ℕ) (p : Pattern) → reads n p ≡ Some k → (c : ℕ) → StandsIn g numbers m p c → HasFamilies m p
  stands_families g numbers m n k (var j) r c s = tt
  stands_families g numbers m n k (constant j) r c s = tt
  stands_families g numbers m n k (fold o atoms) r c s = tt
  stands_families g numbers m n k (narrowed b p) r c s = tt
  stands_families g numbers m n k (over h ps) r c s = all_stand_families g numbers m n k ps r s.0 s.2
  stands_families g numbers m n k (over_each w e) r c s = s.2

  pub all_stand_families : (g : Graph) (numbers : List ℕ) (m : Names) (n k : ℕ) (ps : Patterns) → reads_all n ps ≡ Some k → (cs : List ℕ) → AllStandIn g numbers m ps cs → HaveFamilies m ps
  all_stand_families g numbers m n k none r cs s = tt
  all_stand_families g numbers m n k (first p ps) r [] s = absurd s
  all_stand_families g numbers m n k (first p ps) r (c ∷ cs) s =
      let b = bind_some (reads n p) (λ j. reads_all j ps) k r in (stands_families g numbers m n b.0 p b.1 c s.0, all_stand_families g numbers m b.0 k ps b.2 cs s.1)

both_true : (x y : Bool) → (x && y) ≡ true → (x ≡ true) × (y ≡ true)
both_true true y e = (refl, e)
both_true false y e = absurd (cc)

pub no_operation : (h : Head) → In (listed_name (head_name h)) name.Operation → ⊥
no_operation (fixed o) i = i
no_operation theta_d (inl e) = absurd (cc)
no_operation theta_d (inr v) = v
no_operation eval_d (inl e) = absurd (cc)
no_operation eval_d (inr v) = v
no_operation pass_d (inl e) = absurd (cc)
no_operation pass_d (inr v) = v
no_operation shift_d (inl e) = absurd (cc)
no_operation shift_d (inr v) = v
no_operation (getstatic s) (inl e) = absurd (cc)
no_operation (getstatic s) (inr v) = v
no_operation (putstatic s) (inl e) = absurd (cc)
no_operation (putstatic s) (inr v) = v
no_operation (getfield s) (inl e) = absurd (cc)
no_operation (getfield s) (inr v) = v
no_operation (putfield s) (inl e) = absurd (cc)
no_operation (putfield s) (inr v) = v
no_operation (load k) (inl e) = absurd (cc)
no_operation (load k) (inr v) = v
no_operation (store k) (inl e) = absurd (cc)
no_operation (store k) (inr v) = v

module _ (m n : Names) where
  -- one number, and that of no constant, text, argument or variable
  abbrev SameNumber : Type 0
  SameNumber = (op_number m.op_ ≡ op_number n.op_) × (is_told (op_number m.op_) ≡ true)

  mutual
    same_family : (i k : ℕ) (p : Pattern) → reads i p ≡ Some k → families p ≡ true → HasFamilies m p → HasFamilies n p → In (names p) name.Operation → SameNumber
    same_family i k (var j) r f u v o = absurd o
    same_family i k (constant j) r f u v (inl e) = absurd (cc)
    same_family i k (constant j) r f u v (inr o) = absurd o
    same_family i k (fold q atoms) r f u v o = absurd (cc)
    same_family i k (narrowed b p) r f u v o = absurd (cc)
    same_family i k (over h ps) r f u v o =
        by_cases (split_in (listed_name (head_name h)) (names_in ps) name.Operation o) (λ w. absurd (no_operation h w)) (λ w. same_families i k ps r f u v w)
    same_family i k (over_each w e) r f u v o = (u ∙ sym v, subst (λ q. is_told q ≡ true) (sym u) f)

    pub same_families : (i k : ℕ) (ps : Patterns) → reads_all i ps ≡ Some k → all_families ps ≡ true → HaveFamilies m ps → HaveFamilies n ps → In (names_in ps) name.Operation → SameNumber
    same_families i k none r f u v o = absurd o
    same_families i k (first p ps) r f u v o =
        let b = bind_some (reads i p) (λ j. reads_all j ps) k r in let t = both_true (families p) (all_families ps) f in
        by_cases (split_in (names p) (names_in ps) name.Operation o) (λ w. same_family i b.0 p b.1 t.0 u.0 v.0 w) (λ w. same_families b.0 k ps b.2 t.1 u.1 v.1 w)

  -- ---- parameters

  -- what is known of both, by each name
  abbrev pub Shown : NameId → Type 0
  Shown (name.Constant j) = ((o : Op) × (number_op (m.constants j) ≡ Some o)) × ((o : Op) × (number_op (n.constants j) ≡ Some o))
  Shown name.Operation = SameNumber
  Shown i = Unit {0}

  one_param : (c : Num) (o : Op) → number_op c ≡ Some o → length (number_param c) ≡ 1
  one_param (num.Int i) o e = refl
  one_param (num.Long i) o e = refl
  one_param (num.Ref r) o e = absurd (cc)

  same_long : (i : NameId) → Shown i → length (name_params m i) ≡ length (name_params n i)
  same_long name.Depth s = refl
  same_long (name.Symbol j) s = refl
  same_long (name.Kind j) s = refl
  same_long (name.Constant j) s = one_param (m.constants j) s.0.0 s.0.1 ∙ sym (one_param (n.constants j) s.1.0 s.1.1)
  same_long name.Operation s = same_count m.op_ n.op_ s.0

  number_once : (c d : Num) (o p : Op) → number_op c ≡ Some o → number_op d ≡ Some p → number_param c ≡ number_param d → c ≡ d
  number_once (num.Int i) (num.Int j) o p e f q = ap num.Int (same q)
    where
      same : param.Int i ∷ [] ≡ param.Int j ∷ [] → i ≡ j
      same q = cc
  number_once (num.Int i) (num.Long j) o p e f q = absurd (cc)
  number_once (num.Int i) (num.Ref j) o p e f q = absurd (cc)
  number_once (num.Long i) (num.Int j) o p e f q = absurd (cc)
  number_once (num.Long i) (num.Long j) o p e f q = ap num.Long (same q)
    where
      same : param.Long i ∷ [] ≡ param.Long j ∷ [] → i ≡ j
      same q = cc
  number_once (num.Long i) (num.Ref j) o p e f q = absurd (cc)
  number_once (num.Ref i) d o p e f q = absurd (cc)

  agrees : (i : NameId) → Shown i → name_params m i ≡ name_params n i → AgreeOn (searches.params_of m) (searches.params_of n) i
  agrees name.Depth s e = cc
  agrees (name.Symbol j) s e = cc
  agrees (name.Kind j) s e = cc
  agrees (name.Constant j) s e = number_once (m.constants j) (n.constants j) s.0.0 s.1.0 s.0.1 s.1.1 e
  agrees name.Operation s e = op_once m.op_ n.op_ s.1 s.0 e

  params_agree : (i : NameId) → AgreeOn (searches.params_of m) (searches.params_of n) i → name_params m i ≡ name_params n i
  params_agree name.Depth e = ap (λ d. param.Depth d ∷ []) e
  params_agree (name.Symbol j) e = ap (λ s. param.Symbol s ∷ []) e
  params_agree (name.Kind j) e = ap (λ k. param.Kind k ∷ []) e
  params_agree (name.Constant j) e = ap number_param e
  params_agree name.Operation e = ap params_in e

  pub equal_agree : (left : Pattern) → ((i : NameId) → In (names left) i → Shown i) → params_of m left ≡ params_of n left → (i : NameId) → In (names left) i → AgreeOn (searches.params_of m) (searches.params_of n) i
  equal_agree left s e i k =
      agrees i (s i k) (flat_apart (name_params m) (name_params n) (once_more [] (names left)) (λ j v. same_long j (s j (from j v))) e i (once_in (names left) [] i k))
    where
      from : (j : NameId) → In (once_more [] (names left)) j → In (names left) j
      from j v = by_cases (once_back (names left) [] j v) (λ w. absurd w) (λ w. w)

  pub agree_equal : (left : Pattern) → ((i : NameId) → In (names left) i → AgreeOn (searches.params_of m) (searches.params_of n) i) → params_of m left ≡ params_of n left
  agree_equal left s = flat_same (name_params m) (name_params n) (once_more [] (names left)) (λ j v. params_agree j (s j (by_cases (once_back (names left) [] j v) (λ w. absurd w) (λ w. w))))
