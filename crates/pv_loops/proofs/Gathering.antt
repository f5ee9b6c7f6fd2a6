-- A body while its nodes are gathered.
use Rattle.std.proofs.Common.{◌≡◌, ◌≢◌, ℕ, ◌<◌, ◌≤◌, ◌+◌, List, [], ◌∷◌, ◌++◌, length, get_or, set, refl, sym, ◌∙◌, ap, subst, arith, ◌⊎◌, inl, inr, ⊎_elim, Option, Some, None, true, false, not, get_or-set_other, get_or-set_same, eqb-true, eq-eqb, true≢false, length-set, length-append, nat_eq}
use Rattle.pv_loops.proofs.Words.{cases_eq, cases_Bool, false≢true, nat_eq_equiv, get_or_append_left, get_or_default, Contains-append_left, Contains-push, Contains-push_cases, Contains-get_or, IsDistinct-push, length-le_from_distinct_below, Contains-from_any, none-some, same_Some, Contains, IsDistinct, list_any, option_eq}
use Rattle.pv_loops.proofs.Words.{Edge, IsShape, IsOrder, Reaches, back, before, InBody, AreBody, IsMarked, KeepsHomes, AddsMembers}
use Rattle.pv_loops.proofs.Bodies.{body_low}

none_distinct : IsDistinct nat_eq []
unfolding IsDistinct
none_distinct = tt

-- what a comparison with a home says
pub same_home : (o : Option ℕ) (i : ℕ) → not (option_eq nat_eq o (Some i)) ≡ false → o ≡ Some i
same_home None i e = absurd (true≢false e)
same_home (Some j) i e = ⊎_elim
    (λ (q : nat_eq j i ≡ true). ap Some (eqb-true j i q))
    (λ (q : nat_eq j i ≡ false). absurd (true≢false (sym (ap not q) ∙ e)))
    (cases_Bool (nat_eq j i))

pub other_home : (o : Option ℕ) (i : ℕ) → not (option_eq nat_eq o (Some i)) ≡ true → o ≢ Some i
other_home None i e q = none-some i q
other_home (Some j) i e q = false≢true (sym (ap not (eq-eqb j i (same_Some j i q))) ∙ e)

-- a node that isn't there yet
pub marked_more : (i x : ℕ) (home : List (Option ℕ)) (members : List ℕ) → x < length home → get_or home x None ≢ Some i → IsMarked i home members → IsMarked i (set home x (Some i)) (members ++ x ∷ [])
marked_more i x home members h new M = record {
  within = λ y c. ⊎_elim
      (λ (d : Contains members y). let lt = M.within y d in omega (arith, lt, len))
      (λ (e : x ≡ y). omega (arith, e, h, len))
      (Contains-push_cases members x y c);
  marked = λ y c. ⊎_elim
      (λ (e : y ≡ x). at y e)
      (λ (ne : y ≢ x). ⊎_elim
      (λ (d : Contains members y). get_or-set_other home x y (Some i) None ne ∙ M.marked y d)
      (λ (e : x ≡ y). absurd (ne (sym e)))
      (Contains-push_cases members x y c))
      (cases_eq y x);
  only = λ y e. ⊎_elim
      (λ (q : y ≡ x). subst (λ v. Contains (members ++ x ∷ []) v) (sym q) (Contains-push members x))
      (λ (ne : y ≢ x). Contains-append_left members (x ∷ []) y (M.only y (sym (get_or-set_other home x y (Some i) None ne) ∙ e)))
      (cases_eq y x);
  distinct = IsDistinct-push nat_eq_equiv members x M.distinct absent;
}
  where
    len : length (set home x (Some i)) ≡ length home
    len = length-set home x (Some i)

    at : (y : ℕ) → y ≡ x → get_or (set home x (Some i)) y None ≡ Some i
    at y e = ap (λ v. get_or (set home x (Some i)) v None) e ∙ get_or-set_same home x (Some i) None h

    absent : list_any (nat_eq x) members ≡ false
    absent = ⊎_elim
        (λ (e : list_any (nat_eq x) members ≡ true). absurd (new (M.marked x (Contains-from_any eqb-true x members e))))
        (λ (e : list_any (nat_eq x) members ≡ false). e)
        (cases_Bool (list_any (nat_eq x) members))

pub keeps_more : (i x : ℕ) (start home : List (Option ℕ)) → x < length home → KeepsHomes i start home → KeepsHomes i start (set home x (Some i))
keeps_more i x start home h K = record {
  size = length-set home x (Some i) ∙ K.size;
  kept = λ y ne. ⊎_elim
      (λ (e : y ≡ x). absurd (ne (ap (λ v. get_or (set home x (Some i)) v None) e ∙ get_or-set_same home x (Some i) None h)))
      (λ (away : y ≢ x). let same = get_or-set_other home x y (Some i) None away in same ∙ K.kept y (λ e. ne (same ∙ e)))
      (cases_eq y x);
}

-- the nodes up to t are added
pub record Adding (i : ℕ) (place : List ℕ) (h : ℕ) (nodes : List ℕ) (t : ℕ) (start home : List (Option ℕ)) (body added : List ℕ) : Type 0 where
  pub longer : length body ≤ length added
  pub prefix : (k : ℕ) → k < length body → get_or added k 0 ≡ get_or body k 0
  pub new : (x : ℕ) → Contains added x → Contains body x ⊎ Contains nodes x × (get_or place h 0 ≤ get_or place x 0)
  pub done : (k : ℕ) → k < t → get_or place h 0 ≤ get_or place (get_or nodes k 0) 0 → Contains added (get_or nodes k 0)
  pub marked : IsMarked i home added
  pub keeps : KeepsHomes i start home

pub adding_skip : (i : ℕ) (place : List ℕ) (h : ℕ) (nodes : List ℕ) (t : ℕ) (start home : List (Option ℕ)) (body added : List ℕ)
    → (get_or place h 0 ≤ get_or place (get_or nodes t 0) 0 → get_or home (get_or nodes t 0) None ≡ Some i) → Adding i place h nodes t start home body added → Adding i place h nodes (t + 1) start home body added
adding_skip i place h nodes t start home body added there A = record {
  longer = A.longer;
  prefix = A.prefix;
  new = A.new;
  marked = A.marked;
  keeps = A.keeps;
  done = λ k lt le. ⊎_elim
      (λ (e : k ≡ t). subst (λ v. Contains added (get_or nodes v 0)) (sym e) (A.marked.only (get_or nodes t 0) (there (subst (λ v. get_or place h 0 ≤ get_or place (get_or nodes v 0) 0) e le))))
      (λ (ne : k ≢ t). A.done k (omega arith) le)
      (cases_eq k t);
}

pub adding_more : (i : ℕ) (place : List ℕ) (h : ℕ) (nodes : List ℕ) (t x : ℕ) (start home : List (Option ℕ)) (body added : List ℕ)
    → x ≡ get_or nodes t 0 → t < length nodes → x < length home → get_or place h 0 ≤ get_or place x 0 → get_or home x None ≢ Some i
    → Adding i place h nodes t start home body added → Adding i place h nodes (t + 1) start (set home x (Some i)) body (added ++ x ∷ [])
adding_more i place h nodes t x start home body added is lt hx le new A = record {
  longer = (let l = A.longer in omega (arith, l, len));
  prefix = λ k less. get_or_append_left added (x ∷ []) 0 k (let l = A.longer in omega (arith, l)) ∙ A.prefix k less;
  new = λ y c. ⊎_elim
      (λ (d : Contains added y). A.new y d)
      (λ (e : x ≡ y). subst (λ v. Contains body v ⊎ Contains nodes v × (get_or place h 0 ≤ get_or place v 0)) e (inr (subst (λ v. Contains nodes v) (sym is) (Contains-get_or nodes t 0 lt), le)))
      (Contains-push_cases added x y c);
  done = λ k less low. ⊎_elim
      (λ (e : k ≡ t). subst (λ v. Contains (added ++ x ∷ []) v) (is ∙ ap (λ v. get_or nodes v 0) (sym e)) (Contains-push added x))
      (λ (ne : k ≢ t). Contains-append_left added (x ∷ []) (get_or nodes k 0) (A.done k (omega arith) low))
      (cases_eq k t);
  marked = marked_more i x home added hx new A.marked;
  keeps = keeps_more i x start home hx A.keeps;
}
  where
    len : length (added ++ x ∷ []) ≡ length added + 1
    len = length-append added (x ∷ [])

pub adding_all : (i : ℕ) (place : List ℕ) (h : ℕ) (nodes : List ℕ) (t : ℕ) (start home : List (Option ℕ)) (body added : List ℕ) → length nodes ≤ t → Adding i place h nodes t start home body added → AddsMembers place h nodes body added
adding_all i place h nodes t start home body added past A = record {
  longer = A.longer;
  kept = A.prefix;
  new = A.new;
  all = λ x c le. let at : get_or nodes c.0 0 ≡ x = get_or_default nodes c.0 0 x c.1 ∙ c.2 in
      subst (λ v. Contains added v) at (A.done c.0 (let l = c.1 in omega (arith, l, past)) (subst (λ v. get_or place h 0 ≤ get_or place v 0) (sym at) le));
}

-- the sources of the nodes before place n of the body are added
pub record Gathering (sources : List (List ℕ)) (place : List ℕ) (h i n : ℕ) (start home : List (Option ℕ)) (members : List ℕ) : Type 0 where
  pub some : 0 < length members
  pub first : get_or members 0 0 ≡ h
  pub inside : (x : ℕ) → Contains members x → InBody sources place h x
  pub closed : (k w : ℕ) → k < n → k < length members → Edge sources (get_or members k 0) w → get_or place h 0 ≤ get_or place w 0 → Contains members w
  pub marked : IsMarked i home members
  pub keeps : KeepsHomes i start home

pub gathering_start : (sources : List (List ℕ)) (place : List ℕ) (h i : ℕ) (start : List (Option ℕ)) → h < length start → ((x : ℕ) → get_or start x None ≢ Some i) → Gathering sources place h i 0 start (set start h (Some i)) (h ∷ [])
gathering_start sources place h i start lt unused = record {
  some = omega arith;
  first = refl;
  inside = λ x c. ⊎_elim
      (λ (d : Contains [] x). let l = d.1 in absurd (omega (arith, l)))
      (λ (e : h ≡ x). inl (sym e))
      (Contains-push_cases [] h x c);
  closed = λ k w less. absurd (omega arith);
  marked = marked_more i h start [] lt (unused h) (record {
    within = λ x c. let l = c.1 in absurd (omega (arith, l));
    marked = λ x c. let l = c.1 in absurd (omega (arith, l));
    only = λ x e. absurd (unused x e);
    distinct = none_distinct;
  });
  keeps = keeps_more i h start start lt (record { size = refl; kept = λ x ne. refl });
}

pub gathering_more : (sources : List (List ℕ)) (place : List ℕ) (h i n : ℕ) (start home new : List (Option ℕ)) (members added nodes : List ℕ) → n < length members → nodes ≡ get_or sources (get_or members n 0) []
    → AddsMembers place h nodes members added → IsMarked i new added → KeepsHomes i home new → Gathering sources place h i n start home members → Gathering sources place h i (n + 1) start new added
gathering_more sources place h i n start home new members added nodes lt is A M K G = record {
  some = (let l = A.longer in let s = G.some in omega (arith, l, s));
  first = A.kept 0 G.some ∙ G.first;
  inside = λ x c. ⊎_elim
      (λ (d : Contains members x). G.inside x d)
      (λ (d : Contains nodes x × (get_or place h 0 ≤ get_or place x 0)).
      step x (subst (λ (l : List ℕ). Contains l x) is d.0) d.1 (G.inside (get_or members n 0) (Contains-get_or members n 0 lt)))
      (A.new x c);
  closed = λ k w less within e le. ⊎_elim
      (λ (q : k ≡ n). A.all w (subst (λ (l : List ℕ). Contains l w) (sym is) (subst (λ v. Edge sources v w) (ap (λ v. get_or added v 0) q ∙ A.kept n lt) e)) le)
      (λ (ne : k ≢ n). still w (G.closed k w (omega arith) (omega (arith, lt, less, ne)) (subst (λ v. Edge sources v w) (A.kept k (omega (arith, lt, less, ne))) e) le))
      (cases_eq k n);
  marked = M;
  keeps = record { size = K.size ∙ G.keeps.size; kept = λ x ne. K.kept x ne ∙ G.keeps.kept x (λ e. ne (K.kept x ne ∙ e)) };
}
  where
    step : (x : ℕ) → Edge sources (get_or members n 0) x → get_or place h 0 ≤ get_or place x 0 → InBody sources place h (get_or members n 0) → InBody sources place h x
    step x e le b = ⊎_elim
        (λ (q : get_or members n 0 ≡ h). inr (back x (subst (λ v. Edge sources v x) q e) le))
        (λ (ne : get_or members n 0 ≢ h). ⊎_elim
        (λ (q : get_or members n 0 ≡ h). absurd (ne q))
        (λ (r : Reaches sources place h (get_or members n 0)). inr (before (get_or members n 0) x r ne e))
        b)
        (cases_eq (get_or members n 0) h)

    still : (w : ℕ) → Contains members w → Contains added w
    still w c = subst (λ v. Contains added v) (A.kept c.0 c.1 ∙ get_or_default members c.0 0 w c.1 ∙ c.2) (Contains-get_or added c.0 0 (let l = A.longer in let less = c.1 in omega (arith, l, less)))

-- nodes are no more than there are
pub gathered_few : (i : ℕ) (home : List (Option ℕ)) (members : List ℕ) → IsMarked i home members → length members ≤ length home
gathered_few i home members M = length-le_from_distinct_below members (length home) M.distinct (λ q e. M.within q (Contains-from_any eqb-true q members e))

pub gathered_all : (sources : List (List ℕ)) (order place : List ℕ) (h i n : ℕ) (start home : List (Option ℕ)) (members : List ℕ) → IsShape sources → IsOrder sources order place → length members ≤ n
    → Gathering sources place h i n start home members → AreBody sources place h members
gathered_all sources order place h i n start home members S O past G = λ x. (G.inside x, all x)
  where
    source : (x w : ℕ) → Contains members x → Edge sources x w → get_or place h 0 ≤ get_or place w 0 → Contains members w
    source x w c e le = G.closed c.0 w (let l = c.1 in omega (arith, l, past)) c.1 (subst (λ v. Edge sources v w) (sym (get_or_default members c.0 0 x c.1 ∙ c.2)) e) le

    header : Contains members h
    header = subst (λ v. Contains members v) G.first (Contains-get_or members 0 0 G.some)

    reached : (x : ℕ) → Reaches sources place h x → Contains members x
    reached _ (back w e le) = source h w header e le
    reached _ (before x y r ne e) = source x y (reached x r) e (body_low sources order place S O h y (inr (before x y r ne e)))

    all : (x : ℕ) → InBody sources place h x → Contains members x
    all x (inl e) = subst (λ v. Contains members v) (sym e) header
    all x (inr r) = reached x r
