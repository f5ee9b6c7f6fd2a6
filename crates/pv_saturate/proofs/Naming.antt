-- Names, each once, are the names; and what a match's left side names has parameters of its own.
use Rattle.std.proofs.Common.{◌≡◌, ◌↔◌, ◌⊎◌, inl, inr, ℕ, Bool, true, false, ◌&&◌, ◌||◌, List, [], ◌∷◌, ◌++◌, length, Some, refl, sym, ap, ◌∙◌, subst, ◌==◌, if◌then◌else◌, None, arith}
use Rattle.pv_value.specs.declared.number.Num.{Num}
use Rattle.pv_value.specs.declared.number.Num.TheVariants as num
use Rattle.pv_graph.specs.declared.node.Op.{Op}
use Rattle.pv_graph.specs.Graphs.{Graph}
use Rattle.pv_graph.specs.Walks.{In}
use Rattle.pv_graph.proofs.Cited.{bind_some}
use Rattle.pv_pattern.specs.declared.names.NameId.{NameId}
use Rattle.pv_pattern.specs.declared.names.NameId.TheVariants as name
use Rattle.pv_pattern.specs.Patterns.{bare, shifted, evaluated, Pattern, var, constant, fold, narrowed, over, over_each, Patterns, none, first, Axiom}
use Rattle.pv_pattern.specs.Numbers.{op_number}
use Rattle.pv_pattern.specs.Binding.{names, names_in, listed_name}
use Rattle.pv_pattern.specs.Found.{head_name, same_name, or_unit}
use Rattle.pv_steps.specs.Facts.{View}
use Rattle.pv_heights.specs.Filled.{Params, named, Filled, of, number_op, each_parts, filled, all_filled}
use Rattle.pv_heights.specs.Matches.{AgreeOn}
use Rattle.pv_heights.specs.Sides.{Match}
use Rattle.pv_heights.specs.Searches.{IsMatchAt}
use Rattle.pv_heights.proofs.Named.{In-left, In-right, name_same}
use Rattle.pv_match.specs.Parameters.{name_params, number_param, params_in, is_among, once_more}
use Rattle.pv_match.specs.Reading.{is_told, reads, reads_all, families, all_families, IsReadable}
use Rattle.pv_match.proofs.Sound.{by_cases, split_in}
use Rattle.pv_match.proofs.Decoded.{no_operation}
use Rattle.pv_saturate.specs.Operations.{op_of, count_of}
use Rattle.pv_saturate.specs.Told.{family_in, families_in, told, own_count, constant_of, HasOwn}
use Rattle.pv_saturate.proofs.Operating.{op_found}

-- ---- each once

either_true : (x y : Bool) → (x || y) ≡ true → (x ≡ true) ⊎ (y ≡ true)
either_true true y e = inl refl
either_true false y e = inr e

among_in : (xs : List NameId) (n : NameId) → is_among xs n ≡ true → In xs n
among_in [] n e = absurd (cc)
among_in (x ∷ xs) n e = by_cases (either_true (same_name x n) (is_among xs n) e) (λ s. inl (name_same x n s)) (λ s. inr (among_in xs n s))

kept_step : (b : Bool) (seen : List NameId) (n i : NameId) → In seen i → In (if b then seen else seen ++ n ∷ []) i
kept_step true seen n i k = k
kept_step false seen n i k = In-left seen (n ∷ []) i k

new_step : (b : Bool) (seen : List NameId) (n : NameId) → is_among seen n ≡ b → In (if b then seen else seen ++ n ∷ []) n
new_step true seen n e = among_in seen n e
new_step false seen n e = In-right seen (n ∷ []) n (inl refl)

back_step : (b : Bool) (seen : List NameId) (n i : NameId) → In (if b then seen else seen ++ n ∷ []) i → In seen i ⊎ (n ≡ i)
back_step true seen n i k = inl k
back_step false seen n i k = by_cases (split_in seen (n ∷ []) i k) (λ v. inl v) (λ v. by_cases v (λ e. inr e) (λ w. absurd w))

once_kept : (ns seen : List NameId) (i : NameId) → In seen i → In (once_more seen ns) i
once_kept [] seen i k = k
once_kept (n ∷ ns) seen i k = once_kept ns (if is_among seen n then seen else seen ++ n ∷ []) i (kept_step (is_among seen n) seen n i k)

once_in : (ns seen : List NameId) (i : NameId) → In ns i → In (once_more seen ns) i
once_in [] seen i k = absurd k
once_in (n ∷ ns) seen i (inl e) =
    subst (λ v. In (once_more seen (n ∷ ns)) v) e (once_kept ns (if is_among seen n then seen else seen ++ n ∷ []) n (new_step (is_among seen n) seen n refl))
once_in (n ∷ ns) seen i (inr k) = once_in ns (if is_among seen n then seen else seen ++ n ∷ []) i k

once_back : (ns seen : List NameId) (i : NameId) → In (once_more seen ns) i → In seen i ⊎ In ns i
once_back [] seen i k = inl k
once_back (n ∷ ns) seen i k =
    by_cases (once_back ns (if is_among seen n then seen else seen ++ n ∷ []) i k)
    (λ v. by_cases (back_step (is_among seen n) seen n i v) (λ w. inl w) (λ e. inr (inl e))) (λ v. inr (inr v))

pub all_names : (ns : List NameId) (i : NameId) → In (once_more [] ns) i ↔ In ns i
all_names ns i = (λ k. by_cases (once_back ns [] i k) (λ v. absurd v) (λ v. v), λ k. once_in ns [] i k)

-- ---- the number of a family

both_true : (x y : Bool) → (x && y) ≡ true → (x ≡ true) × (y ≡ true)
both_true true y e = (refl, e)
both_true false y e = absurd (cc)

if_some : {A : Type 0} (b : Bool) (x y : A) → (if b then Some x else None) ≡ Some y → b ≡ true
if_some true x y e = refl
if_some false x y e = absurd (cc)

equal_number : (m n : ℕ) → (m == n) ≡ true → m ≡ n
equal_number m n e = grind (arith)

module _ (m : Params) (kids : ℕ) where
  -- this is the number of the match's operation, and that of no constant, text or argument
  abbrev IsFamily : ℕ → Type 0
  IsFamily n = HasOwn m n name.Operation

  mutual
    family_is : (i k n : ℕ) (p : Pattern) → reads i p ≡ Some k → families p ≡ true → (s : Filled) → filled m kids p ≡ Some s → In (names p) name.Operation ⊎ IsFamily n → IsFamily (family_in n p)
    family_is i k n (var j) r f s e (inl o) = absurd o
    family_is i k n (var j) r f s e (inr h) = h
    family_is i k n (constant j) r f s e (inl (inl o)) = absurd (cc)
    family_is i k n (constant j) r f s e (inl (inr o)) = absurd o
    family_is i k n (constant j) r f s e (inr h) = h
    family_is i k n (fold q atoms) r f s e h = absurd (cc)
    family_is i k n (narrowed b p) r f s e h = absurd (cc)
    family_is i k n (over h ps) r f s e (inl o) =
        let b = bind_some (all_filled m kids ps) _ s e in
        by_cases (split_in (listed_name (head_name h)) (names_in ps) name.Operation o) (λ w. absurd (no_operation h w)) (λ w. families_are i k n ps r f b.0 b.1 (inl w))
    family_is i k n (over h ps) r f s e (inr g) = let b = bind_some (all_filled m kids ps) _ s e in families_are i k n ps r f b.0 b.1 (inr g)
    family_is i k n (over_each w bare) r f s e h = (equal_number (op_number m.op_) w (if_some (op_number m.op_ == w) (of m.op_ (each_parts m bare 0 kids)) s e), f)
    family_is i k n (over_each w shifted) r f s e h = absurd (cc)
    family_is i k n (over_each w (evaluated j)) r f s e h = absurd (cc)

    families_are : (i k n : ℕ) (ps : Patterns) → reads_all i ps ≡ Some k → all_families ps ≡ true → (ss : _) → all_filled m kids ps ≡ Some ss → In (names_in ps) name.Operation ⊎ IsFamily n → IsFamily (families_in n ps)
    families_are i k n none r f ss e (inl o) = absurd o
    families_are i k n none r f ss e (inr h) = h
    families_are i k n (first p ps) r f ss e h =
        let b = bind_some (reads i p) (λ j. reads_all j ps) k r in
        let t = both_true (families p) (all_families ps) f in
        let c = bind_some (filled m kids p) _ ss e in
        let d = bind_some (all_filled m kids ps) _ ss c.2 in
        let here : IsFamily n → IsFamily (family_in n p) = λ g. family_is i b.0 n p b.1 t.0 c.0 c.1 (inr g) in
        by_cases h
        (λ o. by_cases (split_in (names p) (names_in ps) name.Operation o)
        (λ w. families_are b.0 k (family_in n p) ps b.2 t.1 d.0 d.1 (inr (family_is i b.0 n p b.1 t.0 c.0 c.1 (inl w))))
        (λ w. families_are b.0 k (family_in n p) ps b.2 t.1 d.0 d.1 (inl w)))
        (λ g. families_are b.0 k (family_in n p) ps b.2 t.1 d.0 d.1 (inr (here g)))

-- ---- the names of a match

module _ (view : View) (assumed : List ℕ) (table : List Axiom) (g : Graph) (numbers : List ℕ) (h : Match ℕ) (is : IsMatchAt view assumed table g numbers h) (readable : IsReadable h.entry) where
  family_here : In (names h.entry.left) name.Operation → HasOwn h.params (family_in 0 h.entry.left) name.Operation
  family_here i = go h.entry.left (sym readable.left) i is.stands.0 is.stands.1
    where
      go : (p : Pattern) → over readable.head readable.parts ≡ p → In (names p) name.Operation → (s : Filled) → filled h.params (length h.kids) p ≡ Some s → HasOwn h.params (family_in 0 p) name.Operation
      go p e i s f = subst (λ (q : Pattern). In (names q) name.Operation → (s : Filled) → filled h.params (length h.kids) q ≡ Some s → HasOwn h.params (family_in 0 q) name.Operation) e
          (λ j t d. family_is h.params (length h.kids) 0 _ 0 (over readable.head readable.parts) readable.reads_ readable.families_ t d (inl j)) i s f

  pub names_own : (i : NameId) → In (names h.entry.left) i → HasOwn h.params (family_in 0 h.entry.left) i
  names_own name.Depth k = tt
  names_own (name.Symbol s) k = tt
  names_own (name.Kind s) k = tt
  names_own (name.Constant j) k = let c = is.constants j k in (c.1, c.3)
  names_own name.Operation k = family_here k

-- ---- a name by its own parameters

constant_told : (c : Num) (o : Op) → number_op c ≡ Some o → c ≡ constant_of (number_param c)
constant_told (num.Int n) o e = refl
constant_told (num.Long n) o e = refl
constant_told (num.Ref r) o e = absurd (cc)

constant_count : (c : Num) (o : Op) → number_op c ≡ Some o → length (number_param c) ≡ 1
constant_count (num.Int n) o e = refl
constant_count (num.Long n) o e = refl
constant_count (num.Ref r) o e = absurd (cc)

pub own_told : (m : Params) (family : ℕ) (i : NameId) → HasOwn m family i → AgreeOn m (told family (name_params (named m) i)) i
own_told m family name.Depth h = refl
own_told m family (name.Symbol s) h = refl
own_told m family (name.Kind k) h = refl
own_told m family (name.Constant j) h = constant_told (m.constants j) h.0 h.1
own_told m family name.Operation h =
    let found = (op_found m.op_ (subst (λ (n : ℕ). is_told n ≡ true) (sym h.0) h.1)).0 in
    sym (ap or_unit (subst (λ (n : ℕ). op_of n (params_in m.op_) ≡ Some m.op_) h.0 found))

pub own_counted : (m : Params) (family : ℕ) (i : NameId) → HasOwn m family i → length (name_params (named m) i) ≡ own_count family i
own_counted m family name.Depth h = refl
own_counted m family (name.Symbol s) h = refl
own_counted m family (name.Kind k) h = refl
own_counted m family (name.Constant j) h = constant_count (m.constants j) h.0 h.1
own_counted m family name.Operation h = (op_found m.op_ (subst (λ (n : ℕ). is_told n ≡ true) (sym h.0) h.1)).1 ∙ ap count_of h.0
