-- Headers, as the nodes are gone through.
use Rattle.std.proofs.Common.{◌≡◌, ◌≢◌, ℕ, ◌<◌, ◌≤◌, ◌+◌, List, [], ◌∷◌, ◌++◌, length, get_or, sym, ◌∙◌, ap, subst, arith, ⊎_elim, Option, Some, None, length-append}
use Rattle.pv_loops.proofs.Words.{cases_eq, cases_lt, get_or_append_left, get_or_push, get_or_past, none-some, same_Some, IsStrictlyIncreasing, Headers, IsHead, AreHeaders}
use Rattle.pv_loops.proofs.Grouping.{source_within}
use Rattle.pv_loops.proofs.Listing.{length_more, front_more, last_more, by_last}

-- the headers below n
pub record Heading (sources : List (List ℕ)) (place nodes : List ℕ) (at : List (Option ℕ)) (n : ℕ) : Type 0 where
  pub size : length at ≡ n
  pub fewer : length nodes ≤ n
  pub below : (k : ℕ) → k < length nodes → get_or nodes k 0 < n
  pub ascend : IsStrictlyIncreasing nodes
  pub heads : (k : ℕ) → k < length nodes → IsHead sources place (get_or nodes k 0)
  pub found : (x i : ℕ) → get_or at x None ≡ Some i → (i < length nodes) × (get_or nodes i 0 ≡ x)
  pub all : (x : ℕ) → x < n → IsHead sources place x → get_or at x None ≢ None

module _ (sources : List (List ℕ)) (place nodes : List ℕ) (at : List (Option ℕ)) (n : ℕ) (H : Heading sources place nodes at n) where
  -- one more place at the end
  last_place : (o : Option ℕ) (P : ℕ → Option ℕ → Type 0) → ((x : ℕ) → x ≢ n → P x (get_or at x None)) → P n o → (x : ℕ) → P x (get_or (at ++ o ∷ []) x None)
  last_place o P old new x = ⊎_elim
      (λ (e : x ≡ n). subst (λ v. P v (get_or (at ++ o ∷ []) v None)) (sym e) (subst (λ v. P n v) (sym (get_or_push at o None n H.size)) new))
      (λ (ne : x ≢ n). ⊎_elim
      (λ (lt : x < n). subst (λ v. P x v) (sym (get_or_append_left at (o ∷ []) None x (omega (arith, lt, H.size)))) (old x ne))
      (λ (ge : n ≤ x). subst (λ v. P x v) (get_or_past at x None (omega (arith, ge, H.size)) ∙ sym (get_or_past (at ++ o ∷ []) x None (omega (arith, ge, ne, H.size, length-append at (o ∷ []))))) (old x ne))
      (cases_lt x n))
      (cases_eq x n)

  pub heading_skip : (IsHead sources place n → ⊥) → Heading sources place nodes (at ++ None ∷ []) (n + 1)
  heading_skip none = record {
    size = omega (arith, length-append at (None ∷ []), H.size);
    fewer = omega (arith, H.fewer);
    below = λ k h. let b = H.below k h in omega (arith, b);
    ascend = H.ascend;
    heads = H.heads;
    found = last_place None (λ x o. (i : ℕ) → o ≡ Some i → (i < length nodes) × (get_or nodes i 0 ≡ x)) (λ x _ i e. H.found x i e) (λ i e. absurd (none-some i e));
    all = last_place None (λ x o. x < n + 1 → IsHead sources place x → o ≢ None) (λ x ne lt head. H.all x (omega arith) head) (λ _ head. absurd (none head));
  }

  pub heading_more : IsHead sources place n → Heading sources place (nodes ++ n ∷ []) (at ++ Some (length nodes) ∷ []) (n + 1)
  heading_more head = record {
    size = omega (arith, length-append at (Some (length nodes) ∷ []), H.size);
    fewer = omega (arith, len, H.fewer);
    below = λ k h. by_last nodes n (λ v. v < n + 1) k h (λ l. let b = H.below k l in omega (arith, b)) (omega arith);
    ascend = λ k h. ⊎_elim
        (λ (lt : k + 1 < length nodes). let a = H.ascend k lt in let p = front_more nodes n k (omega (arith, lt)) in let q = front_more nodes n (k + 1) lt in omega (arith, a, p, q))
        (λ (ge : length nodes ≤ k + 1). let at_end : k + 1 ≡ length nodes = omega (arith, ge, h, len) in let b = H.below k (omega (arith, at_end)) in let p = front_more nodes n k (omega (arith, at_end)) in
        let q = ap (λ v. get_or more v 0) at_end ∙ last_more nodes n in omega (arith, b, p, q))
        (cases_lt (k + 1) (length nodes));
    heads = λ k h. by_last nodes n (λ v. IsHead sources place v) k h (λ l. H.heads k l) head;
    found = last_place (Some (length nodes)) (λ x o. (i : ℕ) → o ≡ Some i → (i < length more) × (get_or more i 0 ≡ x))
        (λ x _ i e. let f = H.found x i e in let lt = f.0 in (omega (arith, lt, len), front_more nodes n i f.0 ∙ f.1))
        (λ i e. let q = same_Some (length nodes) i e in (omega (arith, len, q), ap (λ v. get_or more v 0) (sym q) ∙ last_more nodes n));
    all = last_place (Some (length nodes)) (λ x o. x < n + 1 → IsHead sources place x → o ≢ None) (λ x ne lt h. H.all x (omega arith) h) (λ _ _ e. none-some (length nodes) (sym e));
  }
    where
      more : List ℕ
      more = nodes ++ n ∷ []

      len : length more ≡ length nodes + 1
      len = length_more nodes n

pub heading_all : (sources : List (List ℕ)) (place : List ℕ) (headers : Headers) (n : ℕ) → n ≡ length sources → Heading sources place headers.nodes.items headers.at.items n → AreHeaders sources place headers
heading_all sources place headers n is H = record {
  ascend = H.ascend;
  heads = H.heads;
  size = H.size ∙ is;
  found = H.found;
  all = λ x head. H.all x (let lt = source_within sources x head.0 head.1 in omega (arith, lt, is)) head;
}
