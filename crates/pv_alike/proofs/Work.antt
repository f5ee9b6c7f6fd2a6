-- The work that is left to a visit: what the nodes that have not been visited can still put on the stack.
use Rattle.std.proofs.Common.{◌≡◌, ℕ, zero, suc, ◌+◌, ◌<◌, Bool, true, false, inl, inr, List, [], ◌∷◌, ◌++◌, length, slice_get, Some, refl, sym, ap, ◌∙◌, subst, arith, eqb, true≢false}
use Rattle.std.specs.List.{Contains, list_any}
use Rattle.std.proofs.lemmas.Option.{same_Some, none-some}
use Rattle.std.proofs.lemmas.List.Elements.{Contains-push, Contains-append_left, Contains-push_cases}
use Rattle.pv_graph.specs.declared.node.Node.{Node}
use Rattle.pv_alike.proofs.Seen.{has_found, found_has}

-- one for the node and one for each of its kids, where it has not been visited
abbrev share : Bool → Node → ℕ
share true node = 0
share false node = suc (length node.kids)

-- the nodes have the numbers from i on
unfoldable pub work : List Node → ℕ → List ℕ → ℕ
work [] i seen = 0
work (node ∷ nodes) i seen = share (list_any (eqb i) seen) node + work nodes (suc i) seen

-- a test that is true only for what is there
same_test : (xs ys : List ℕ) (n : ℕ) → (Contains xs n → Contains ys n) → (Contains ys n → Contains xs n) → list_any (eqb n) xs ≡ list_any (eqb n) ys
same_test xs ys n to from = by (list_any (eqb n) xs) (list_any (eqb n) ys) refl refl
  where
    by : (a b : Bool) → list_any (eqb n) xs ≡ a → list_any (eqb n) ys ≡ b → a ≡ b
    by true true e e' = refl
    by true false e e' = absurd (true≢false (sym (found_has ys n (to (has_found xs n e))) ∙ e'))
    by false true e e' = absurd (true≢false (sym (found_has xs n (from (has_found ys n e'))) ∙ e))
    by false false e e' = refl

-- a visit of another node changes no test
other_test : (seen : List ℕ) (n i : ℕ) → (i ≡ n → ⊥) → list_any (eqb i) (seen ++ n ∷ []) ≡ list_any (eqb i) seen
other_test seen n i ne = same_test (seen ++ n ∷ []) seen i
    (λ there. elim (Contains-push_cases seen n i there) [ inl old ↦ old | inr same ↦ absurd (ne (sym same)) ])
    (λ there. Contains-append_left seen (n ∷ []) i there)

work_past : (nodes : List Node) (i : ℕ) (seen : List ℕ) (n : ℕ) → n < i → work nodes i (seen ++ n ∷ []) ≡ work nodes i seen
unfolding work
work_past [] i seen n lt = refl
work_past (node ∷ nodes) i seen n lt =
    let ne : i ≡ n → ⊥ = λ e. absurd (omega arith) in
    let head : share (list_any (eqb i) (seen ++ n ∷ [])) node ≡ share (list_any (eqb i) seen) node = ap (λ b. share b node) (other_test seen n i ne) in
    let tail : work nodes (suc i) (seen ++ n ∷ []) ≡ work nodes (suc i) seen = work_past nodes (suc i) seen n (omega arith) in
    omega (arith, head, tail)

work_from : (nodes : List Node) (i d : ℕ) (seen : List ℕ) (node : Node) → slice_get nodes d ≡ Some node → (Contains seen (i + d) → ⊥) → work nodes i seen ≡ work nodes i (seen ++ (i + d) ∷ []) + suc (length node.kids)
unfolding work
work_from [] i d seen node is new = absurd (none-some node is)
work_from (x ∷ nodes) i zero seen node is new =
    let here : i + 0 ≡ i = omega arith in
    let one : x ≡ node = same_Some x node is in
    let before : list_any (eqb i) seen ≡ false = not_found (list_any (eqb i) seen) refl in
    let after : list_any (eqb i) (seen ++ (i + 0) ∷ []) ≡ true = found_has (seen ++ (i + 0) ∷ []) i (subst (Contains (seen ++ (i + 0) ∷ [])) here (Contains-push seen (i + 0))) in
    let head : share (list_any (eqb i) seen) x ≡ suc (length node.kids) = ap (λ b. share b x) before ∙ ap (λ (y : Node). suc (length y.kids)) one in
    let head' : share (list_any (eqb i) (seen ++ (i + 0) ∷ [])) x ≡ 0 = ap (λ b. share b x) after in
    let tail : work nodes (suc i) (seen ++ (i + 0) ∷ []) ≡ work nodes (suc i) seen = work_past nodes (suc i) seen (i + 0) (omega arith) in
    omega (arith, head, head', tail)
  where
    not_found : (b : Bool) → list_any (eqb i) seen ≡ b → b ≡ false
    not_found false e = refl
    not_found true e = absurd (new (subst (Contains seen) (omega arith) (has_found seen i e)))
work_from (x ∷ nodes) i (suc d) seen node is new =
    let next : suc i + d ≡ i + suc d = omega arith in
    let ne : i ≡ i + suc d → ⊥ = λ e. absurd (omega arith) in
    let head : share (list_any (eqb i) (seen ++ (i + suc d) ∷ [])) x ≡ share (list_any (eqb i) seen) x = ap (λ b. share b x) (other_test seen (i + suc d) i ne) in
    let tail : work nodes (suc i) seen ≡ work nodes (suc i) (seen ++ (i + suc d) ∷ []) + suc (length node.kids) =
    subst (λ k. work nodes (suc i) seen ≡ work nodes (suc i) (seen ++ k ∷ []) + suc (length node.kids)) next
    (work_from nodes (suc i) d seen node is (λ there. new (subst (Contains seen) next there))) in
    omega (arith, head, tail)

-- a node that is visited for the first time takes its share
pub work_visit : (g : List Node) (n : ℕ) (seen : List ℕ) (node : Node) → slice_get g n ≡ Some node → (Contains seen n → ⊥) → work g 0 seen ≡ work g 0 (seen ++ n ∷ []) + suc (length node.kids)
work_visit g n seen node is new =
    let same : 0 + n ≡ n = omega arith in
    subst (λ k. work g 0 seen ≡ work g 0 (seen ++ k ∷ []) + suc (length node.kids)) same (work_from g 0 n seen node is (λ there. new (subst (Contains seen) same there)))
