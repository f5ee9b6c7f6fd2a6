-- Names told one after another.
use Rattle.std.proofs.Common.{◌≡◌, ℕ, ◌+◌, ◌<◌, ◌≤◌, List, ◌++◌, length, take, drop, take_all, get_or, min, length-append, inl, inr, flat_map, sym, ap, ◌∙◌, subst, arith}
use Rattle.std.proofs.lemmas.List.{take_more, take_at, drop_at, drop_more}
use Rattle.pv_graph.specs.Walks.{In}
use Rattle.pv_graph.proofs.Cited.{in_at, in_cases}
use Rattle.pv_pattern.specs.declared.names.NameId.{NameId}
use Rattle.pv_heights.specs.Filled.{Params, named}
use Rattle.pv_heights.specs.Matches.{AgreeOn}
use Rattle.pv_match.specs.declared.found.Param.{Param}
use Rattle.pv_match.specs.Parameters.{name_params}
use Rattle.pv_saturate.specs.Told.{told, own_count, HasOwn, IsTold, AreTold}
use Rattle.pv_saturate.proofs.Naming.{own_told, own_counted}

-- the first names are told, and rest is what the list has for the others
pub record AreHeard (family : ℕ) (names : List NameId) (list : List Param) (k : ℕ) (rest : List Param) (p : Params) : Type 0 where
  pub all : (m : Params) → ((i : NameId) → In names i → HasOwn m family i) → flat_map (name_params (named m)) names ≡ list → (rest ≡ flat_map (name_params (named m)) (drop k names)) × ((i : NameId) → In (take k names) i → AgreeOn m p i)

pub none_heard : (family : ℕ) (names : List NameId) (list : List Param) (p : Params) → AreHeard family names list 0 list p
none_heard family names list p = record { all = λ m own e. (sym e, λ i k. absurd k) }

module _ (family : ℕ) (names : List NameId) (list : List Param) (k : ℕ) (d : NameId) (rest : List Param) (old new : Params) (lt : k < length names) (before : AreHeard family names list k rest old)
    (t : IsTold family (take (min (length rest) (own_count family (get_or names k d))) rest) (get_or names k d) old new) where
  -- the next name, and how many parameters are its own
  abbrev i : NameId
  i = get_or names k d

  abbrev n : ℕ
  n = min (length rest) (own_count family i)

  module _ (m : Params) (own : (j : NameId) → In names j → HasOwn m family j) (e : flat_map (name_params (named m)) names ≡ list) where
    abbrev here : List Param
    here = name_params (named m) i

    abbrev later : List Param
    later = flat_map (name_params (named m)) (drop (k + 1) names)

    has : HasOwn m family i
    has = own i (in_at names k d lt)

    split : rest ≡ here ++ later
    split = (before.all m own e).0 ∙ ap (flat_map (name_params (named m))) (drop_more names k d lt)

    count : length here ≡ n
    count =
        let a = own_counted m family i has in
        let b = ap length split ∙ length-append here later in
        omega (arith, a, b)

    agrees : AgreeOn m (told family (take n rest)) i
    agrees = subst (λ (ps : List Param). AgreeOn m (told family ps) i) (sym (ap (take n) split ∙ take_at here later n count)) (own_told m family i has)

    each : (j : NameId) → In (take (k + 1) names) j → AgreeOn m new j
    each j there =
        elim (in_cases (take k names) i j (subst (λ (zs : List NameId). In zs j) (take_more names k d lt) there)) [
          | inl low ↦ t.kept m agrees j ((before.all m own e).1 j low)
          | inr s ↦ subst (AgreeOn m new) s (t.now m agrees)
        ]

    left : drop n rest ≡ later
    left = ap (drop n) split ∙ drop_at here later n count

  pub more_heard : AreHeard family names list (k + 1) (drop n rest) new
  more_heard = record { all = λ m own e. (left m own e, each m own e) }

pub all_heard : (family : ℕ) (names : List NameId) (list : List Param) (k : ℕ) (rest : List Param) (p : Params) → length names ≤ k → AreHeard family names list k rest p → AreTold family names list p
all_heard family names list k rest p le h = record { all = λ m own e i there. (h.all m own e).1 i (subst (λ (zs : List NameId). In zs i) (sym (take_all k names le)) there) }

-- one step of a loop over the names
pub heard_next : (family : ℕ) (names : List NameId) (list : List Param) (k : ℕ) (d : NameId) (rest own after : List Param) (old new : Params) (cut many : ℕ) → k < length names → AreHeard family names list k rest old → own ≡ take cut rest → after ≡ drop cut rest
    → cut ≡ min (length rest) many → many ≡ own_count family (get_or names k d) → IsTold family own (get_or names k d) old new → AreHeard family names list (k + 1) after new
heard_next family names list k d rest own after old new cut many lt before first last least is t =
    let same = least ∙ ap (min (length rest)) is in
    let told_ = subst (λ (ps : List Param). IsTold family ps (get_or names k d) old new) (first ∙ ap (λ (n : ℕ). take n rest) same) t in
    subst (λ (ps : List Param). AreHeard family names list (k + 1) ps new) (sym (last ∙ ap (λ (n : ℕ). drop n rest) same)) (more_heard family names list k d rest old new lt before told_)
