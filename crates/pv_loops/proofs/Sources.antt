-- Sources of edges, as the lists of targets are gone through.
use Rattle.std.proofs.Common.{◌≡◌, ◌≢◌, ℕ, ◌<◌, ◌≤◌, ◌+◌, List, [], ◌∷◌, ◌++◌, length, set, get_or, take, sym, ◌∙◌, ap, subst, arith, ◌⊎◌, ◌↔◌, inl, inr, ⊎_elim, get_or-set_other, get_or-set_same, length-set}
use Rattle.pv_loops.proofs.Words.{cases_eq, cases_lt, take_more, Contains-append_left, Contains-push, Contains-push_cases, Contains, Edge, targets, AddsSources, IsReversed}
use Rattle.pv_loops.proofs.Grouping.{source_within}

-- one more number in one list
pub contains_push : (xs : List ℕ) (n a : ℕ) → Contains (xs ++ n ∷ []) a ↔ (Contains xs a ⊎ (a ≡ n))
contains_push xs n a = (
  (λ h. ⊎_elim (λ (c : Contains xs a). inl c) (λ (e : n ≡ a). inr (sym e)) (Contains-push_cases xs n a h)),
  (λ h. ⊎_elim (λ (c : Contains xs a). Contains-append_left xs (n ∷ []) a c) (λ (e : a ≡ n). subst (λ (v : ℕ). Contains (xs ++ n ∷ []) v) (sym e) (Contains-push xs n)) h),
)

-- one more element of a list that is gone through
pub contains_more : (xs : List ℕ) (i a : ℕ) → i < length xs → Contains (take (i + 1) xs) a ↔ (Contains (take i xs) a ⊎ (a ≡ get_or xs i 0))
contains_more xs i a h = subst (λ (l : List ℕ). Contains l a ↔ (Contains (take i xs) a ⊎ (a ≡ get_or xs i 0))) (sym (take_more xs i 0 h)) (contains_push (take i xs) (get_or xs i 0) a)

-- the lists after a push to one of them
pub push_edge : (g : List (List ℕ)) (t n b a : ℕ) → t < length g → Edge (set g t (get_or g t [] ++ n ∷ [])) b a ↔ (Edge g b a ⊎ (a ≡ n) × (b ≡ t))
push_edge g t n b a h = ⊎_elim
    (λ (e : b ≡ t).
    let at : targets (set g t (get_or g t [] ++ n ∷ [])) b ≡ get_or g b [] ++ n ∷ [] = ap (λ v. get_or (set g t (get_or g t [] ++ n ∷ [])) v []) e ∙ get_or-set_same g t (get_or g t [] ++ n ∷ []) [] h ∙ ap (λ v. get_or g v [] ++ n ∷ []) (sym e) in
    let p = contains_push (get_or g b []) n a in (
      (λ x. ⊎_elim (λ (c : Edge g b a). inl c) (λ (q : a ≡ n). inr (q, e)) (p.0 (subst (λ (l : List ℕ). Contains l a) at x))),
      (λ x. subst (λ (l : List ℕ). Contains l a) (sym at) (p.1 (⊎_elim (λ (c : Edge g b a). inl c) (λ (q : (a ≡ n) × (b ≡ t)). inr q.0) x))),
    ))
    (λ (ne : b ≢ t).
    let at : targets (set g t (get_or g t [] ++ n ∷ [])) b ≡ get_or g b [] = get_or-set_other g t b (get_or g t [] ++ n ∷ []) [] ne in (
      (λ x. inl (subst (λ (l : List ℕ). Contains l a) at x)),
      (λ x. ⊎_elim (λ (c : Edge g b a). subst (λ (l : List ℕ). Contains l a) (sym at) c) (λ (q : (a ≡ n) × (b ≡ t)). absurd (ne q.1)) x),
    ))
    (cases_eq b t)

-- one more target
pub adds_more : (old mid : List (List ℕ)) (n t : ℕ) (nodes : List ℕ) (i : ℕ) → i < length nodes → t ≡ get_or nodes i 0 → t < length mid → AddsSources old mid n (take i nodes) → AddsSources old (set mid t (get_or mid t [] ++ n ∷ [])) n (take (i + 1) nodes)
adds_more old mid n t nodes i h is lt A = record {
  size = length-set mid t (get_or mid t [] ++ n ∷ []) ∙ A.size;
  edges = λ a b. let p = push_edge mid t n b a lt in let q = contains_more nodes i b h in let r = A.edges a b in (
    (λ x. ⊎_elim
        (λ (e : Edge mid b a). ⊎_elim (λ (o : Edge old b a). inl o) (λ (c : (a ≡ n) × Contains (take i nodes) b). inr (c.0, q.1 (inl c.1))) (r.0 e))
        (λ (c : (a ≡ n) × (b ≡ t)). inr (c.0, q.1 (inr (c.1 ∙ is))))
        (p.0 x)),
    (λ x. p.1 (⊎_elim
        (λ (o : Edge old b a). inl (r.1 (inl o)))
        (λ (c : (a ≡ n) × Contains (take (i + 1) nodes) b). ⊎_elim
        (λ (d : Contains (take i nodes) b). inl (r.1 (inr (c.0, d))))
        (λ (d : b ≡ get_or nodes i 0). inr (c.0, d ∙ sym is))
        (q.0 c.1))
        x)),
  );
}

-- the sources of edges out of the nodes below n
pub record AreSourcesBelow (s sources : List (List ℕ)) (n : ℕ) : Type 0 where
  pub size : length sources ≡ length s
  pub edges : (a b : ℕ) → Edge sources b a ↔ (Edge s a b × (a < n))

pub sources_more : (s mid new : List (List ℕ)) (n : ℕ) (nodes : List ℕ) → nodes ≡ targets s n → AreSourcesBelow s mid n → AddsSources mid new n nodes → AreSourcesBelow s new (n + 1)
sources_more s mid new n nodes is B A = record {
  size = A.size ∙ B.size;
  edges = λ a b. let p = A.edges a b in let q = B.edges a b in (
    (λ e. ⊎_elim
        (λ (o : Edge mid b a). ((q.0 o).0, (let m = (q.0 o).1 in omega (arith, m))))
        (λ (c : (a ≡ n) × Contains nodes b). (subst (λ (v : ℕ). Contains (targets s v) b) (sym c.0) (subst (λ (l : List ℕ). Contains l b) is c.1), (let m = c.0 in omega (arith, m))))
        (p.0 e)),
    (λ e. p.1 (⊎_elim
        (λ (lt : a < n). inl (q.1 (e.0, lt)))
        (λ (ge : n ≤ a). let at : a ≡ n = (let m = e.1 in omega (arith, m)) in inr (at, subst (λ (l : List ℕ). Contains l b) (sym is) (subst (λ (v : ℕ). Contains (targets s v) b) at e.0)))
        (cases_lt a n))),
  );
}

pub sources_all : (s sources : List (List ℕ)) → AreSourcesBelow s sources (length s) → IsReversed s sources
sources_all s sources B = record {
  size = B.size;
  edges = λ a b. ((λ e. ((B.edges a b).0 e).0), (λ e. (B.edges a b).1 (e, source_within s a b e)));
}
