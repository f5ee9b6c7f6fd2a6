-- How the index of a graph's nodes is made.
use Rattle.std.proofs.Common.{◌≡◌, ◌≢◌, ◌⊎◌, ◌↔◌, inl, inr, ℕ, zero, suc, ◌+◌, ◌<◌, ◌≤◌, Bool, true, false, cond, ◌==◌, List, [], ◌∷◌, ◌++◌, length, set, get_or, take, Some, slice_get, refl, sym, ◌∙◌, ap, subst, arith, zero-add, add-zero}
use Rattle.std.specs.List.{Contains}
use Rattle.std.proofs.lemmas.Bool.Decides.{nat_tests}
use Rattle.std.proofs.lemmas.List.{length-take-le, get_or-set_same, get_or-set_other, take_more, append-nil}
use Rattle.std.proofs.lemmas.Option.{slice_get_within, same_Some, get_or_from_slice_get}
use Rattle.std.proofs.lemmas.List.Elements.{Contains-append_left, Contains-push, Contains-push_cases}
use Rattle.pv_graph.specs.declared.node.Node.{Node}
use Rattle.pv_graph.specs.Walks.{In}
use Rattle.pv_graph.specs.Graphs.{Graph, IsGraph}
use Rattle.pv_graph.proofs.Cited.{in_at}
use Rattle.pv_pattern.specs.Numbers.{op_number}
use Rattle.pv_classes.specs.Numbered.{nodes_from}
use Rattle.pv_classes.specs.Learning.{Tells, AreParents, HasEmptyLists}
use Rattle.pv_classes.proofs.Elements.{take_cases, take_keeps, take_new}

equal_or_not : (a b : ℕ) → (a ≡ b) ⊎ (a ≢ b)
equal_or_not a b = grind arith

-- each kid is a node
pub kid_below : (g : Graph) → IsGraph g → (n k : ℕ) (node : Node) → slice_get g.nodes n ≡ Some node → Contains node.kids k → k < length g.nodes
kid_below g graph n k node is c = by order
  where
    inside : In node.kids k
    inside = subst (λ (v : ℕ). In node.kids v) c.2 (in_at node.kids c.0 k c.1)

    order : (n < g.base) ⊎ (g.base ≤ n)
    order = grind arith

    by : (n < g.base) ⊎ (g.base ≤ n) → k < length g.nodes
    by (inl lt) = let h = graph.early n k node is lt inside in let b = graph.base in omega arith
    by (inr le) = let h = graph.late n k node is le inside in let w = slice_get_within g.nodes n node is in omega arith

-- ---- the parents of nodes

pub tells_more : (old before after : List (List ℕ)) (kids : List ℕ) (i n : ℕ) → i < length kids → get_or kids i 0 < length before
    → after ≡ set before (get_or kids i 0) (get_or before (get_or kids i 0) [] ++ n ∷ []) → Tells old before (take i kids) n → Tells old after (take (i + 1) kids) n
tells_more old before after kids i n lt low e h = record { says = λ k m. by k m (equal_or_not k (get_or kids i 0)) }
  where
    widen : (k m : ℕ) → Contains (get_or old k []) m ⊎ ((n ≡ m) × Contains (take i kids) k) → Contains (get_or old k []) m ⊎ ((n ≡ m) × Contains (take (i + 1) kids) k)
    widen k m (inl c) = inl c
    widen k m (inr c) = inr (c.0, take_keeps kids i k lt c.1)

    here : (k : ℕ) → k ≡ get_or kids i 0 → get_or after k [] ≡ get_or before k [] ++ n ∷ []
    here k f =
        ap (λ (xs : List (List ℕ)). get_or xs k []) e ∙ ap (λ (v : ℕ). get_or (set before (get_or kids i 0) (get_or before (get_or kids i 0) [] ++ n ∷ [])) v []) f
        ∙ get_or-set_same before (get_or kids i 0) (get_or before (get_or kids i 0) [] ++ n ∷ []) [] low ∙ ap (λ (v : ℕ). get_or before v [] ++ n ∷ []) (sym f)

    other : (k : ℕ) → k ≢ get_or kids i 0 → get_or after k [] ≡ get_or before k []
    other k d = ap (λ (xs : List (List ℕ)). get_or xs k []) e ∙ get_or-set_other before (get_or kids i 0) k (get_or before (get_or kids i 0) [] ++ n ∷ []) [] d

    by : (k m : ℕ) → (k ≡ get_or kids i 0) ⊎ (k ≢ get_or kids i 0) → Contains (get_or after k []) m ↔ (Contains (get_or old k []) m ⊎ ((n ≡ m) × Contains (take (i + 1) kids) k))
    by k m (inl f) = (
      (λ c. goes (Contains-push_cases (get_or before k []) n m (subst (λ (xs : List ℕ). Contains xs m) (here k f) c))),
      (λ w. subst (λ (xs : List ℕ). Contains xs m) (sym (here k f)) (comes w)),
    )
      where
        goes : Contains (get_or before k []) m ⊎ (n ≡ m) → Contains (get_or old k []) m ⊎ ((n ≡ m) × Contains (take (i + 1) kids) k)
        goes (inl c) = widen k m ((h.says k m).0 c)
        goes (inr g) = inr (g, subst (λ (v : ℕ). Contains (take (i + 1) kids) v) (sym f) (take_new kids i lt))

        comes : Contains (get_or old k []) m ⊎ ((n ≡ m) × Contains (take (i + 1) kids) k) → Contains (get_or before k [] ++ n ∷ []) m
        comes (inl c) = Contains-append_left (get_or before k []) (n ∷ []) m ((h.says k m).1 (inl c))
        comes (inr c) = subst (λ (v : ℕ). Contains (get_or before k [] ++ n ∷ []) v) c.0 (Contains-push (get_or before k []) n)
    by k m (inr d) = (
      (λ c. widen k m ((h.says k m).0 (subst (λ (xs : List ℕ). Contains xs m) (other k d) c))),
      (λ w. subst (λ (xs : List ℕ). Contains xs m) (sym (other k d)) ((h.says k m).1 (narrow w))),
    )
      where
        of_take : n ≡ m → Contains (take i kids) k ⊎ (get_or kids i 0 ≡ k) → Contains (get_or old k []) m ⊎ ((n ≡ m) × Contains (take i kids) k)
        of_take g (inl c) = inr (g, c)
        of_take g (inr f) = absurd (d (sym f))

        narrow : Contains (get_or old k []) m ⊎ ((n ≡ m) × Contains (take (i + 1) kids) k) → Contains (get_or old k []) m ⊎ ((n ≡ m) × Contains (take i kids) k)
        narrow (inl c) = inl c
        narrow (inr c) = of_take c.0 (take_cases kids i k lt c.1)

module _ (nodes : List Node) (before after : List (List ℕ)) (n : ℕ) (node : Node) (is : slice_get nodes n ≡ Some node) (tells : Tells before after node.kids n) where
  pub has_more : ((m k : ℕ) (other : Node) → m < n → slice_get nodes m ≡ Some other → Contains other.kids k → Contains (get_or before k []) m)
      → (m k : ℕ) (other : Node) → m < n + 1 → slice_get nodes m ≡ Some other → Contains other.kids k → Contains (get_or after k []) m
  has_more h m k other lt at_m c = by order
    where
      order : (m < n) ⊎ (m ≡ n)
      order = grind arith

      by : (m < n) ⊎ (m ≡ n) → Contains (get_or after k []) m
      by (inl l) = (tells.says k m).1 (inl (h m k other l at_m c))
      by (inr e) =
          let same : other ≡ node = same_Some other node (sym at_m ∙ ap (slice_get nodes) e ∙ is) in
          (tells.says k m).1 (inr (sym e, subst (λ (x : Node). Contains x.kids k) same c))

  pub within_more : ((m k : ℕ) → Contains (get_or before k []) m → m < n) → (m k : ℕ) → Contains (get_or after k []) m → m < n + 1
  within_more h m k c = by ((tells.says k m).0 c)
    where
      by : Contains (get_or before k []) m ⊎ ((n ≡ m) × Contains node.kids k) → m < n + 1
      by (inl d) = let l = h m k d in omega arith
      by (inr d) = let e = d.0 in omega arith

-- ---- the nodes with a number

from-append : (number n : ℕ) (xs : List Node) (y : Node) → nodes_from number n (xs ++ y ∷ []) ≡ nodes_from number n xs ++ cond (op_number y.op == number) ((n + length xs) ∷ []) []
from-append number n [] y = by (op_number y.op == number)
  where
    by : (b : Bool) → cond b (n ∷ []) [] ≡ cond b ((n + 0) ∷ []) []
    by true = ap (λ (m : ℕ). m ∷ []) (sym (add-zero n))
    by false = refl
from-append number n (x ∷ xs) y = by (op_number x.op == number) (from-append number (suc n) xs y)
  where
    moves : suc n + length xs ≡ n + suc (length xs)
    moves = omega arith

    last : cond (op_number y.op == number) ((suc n + length xs) ∷ []) [] ≡ cond (op_number y.op == number) ((n + suc (length xs)) ∷ []) []
    last = ap (λ (m : ℕ). cond (op_number y.op == number) (m ∷ []) []) moves

    by : (b : Bool) → nodes_from number (suc n) (xs ++ y ∷ []) ≡ nodes_from number (suc n) xs ++ cond (op_number y.op == number) ((suc n + length xs) ∷ []) []
        → cond b (n ∷ nodes_from number (suc n) (xs ++ y ∷ [])) (nodes_from number (suc n) (xs ++ y ∷ []))
        ≡ cond b (n ∷ nodes_from number (suc n) xs) (nodes_from number (suc n) xs) ++ cond (op_number y.op == number) ((n + suc (length xs)) ∷ []) []
    by true h = ap (λ (zs : List ℕ). n ∷ zs) (h ∙ ap (λ (zs : List ℕ). nodes_from number (suc n) xs ++ zs) last)
    by false h = h ∙ ap (λ (zs : List ℕ). nodes_from number (suc n) xs ++ zs) last

pub numbered_more : (nodes : List Node) (before after : List (List ℕ)) (n : ℕ) (node : Node) (place : ℕ) → slice_get nodes n ≡ Some node → place ≡ op_number node.op → place < length before
    → after ≡ set before place (get_or before place [] ++ n ∷ []) → ((number : ℕ) → get_or before number [] ≡ nodes_from number 0 (take n nodes))
    → (number : ℕ) → get_or after number [] ≡ nodes_from number 0 (take (n + 1) nodes)
numbered_more nodes before after n node place is p low e h number = by (equal_or_not number place)
  where
    lt : n < length nodes
    lt = slice_get_within nodes n node is

    grown : take (n + 1) nodes ≡ take n nodes ++ node ∷ []
    grown = take_more nodes n node lt ∙ ap (λ (x : Node). take n nodes ++ x ∷ []) (get_or_from_slice_get nodes n node node is)

    long : 0 + length (take n nodes) ≡ n
    long = zero-add (length (take n nodes)) ∙ length-take-le n nodes (let l = lt in omega arith)

    right : nodes_from number 0 (take (n + 1) nodes) ≡ nodes_from number 0 (take n nodes) ++ cond (op_number node.op == number) (n ∷ []) []
    right = ap (nodes_from number 0) grown ∙ from-append number 0 (take n nodes) node ∙ ap (λ (m : ℕ). nodes_from number 0 (take n nodes) ++ cond (op_number node.op == number) (m ∷ []) []) long

    yes : number ≡ place → (op_number node.op == number) ≡ true
    yes f = let g : op_number node.op ≡ number = sym p ∙ sym f in grind (arith, nat_tests)

    no : number ≢ place → (op_number node.op == number) ≡ false
    no d = let g : op_number node.op ≢ number = λ f. d (sym f ∙ sym p) in grind (arith, nat_tests)

    by : (number ≡ place) ⊎ (number ≢ place) → get_or after number [] ≡ nodes_from number 0 (take (n + 1) nodes)
    by (inl f) =
        ap (λ (xs : List (List ℕ)). get_or xs number []) e ∙ ap (λ (v : ℕ). get_or (set before place (get_or before place [] ++ n ∷ [])) v []) f
        ∙ get_or-set_same before place (get_or before place [] ++ n ∷ []) [] low ∙ ap (λ (v : ℕ). get_or before v [] ++ n ∷ []) (sym f)
        ∙ ap (λ (xs : List ℕ). xs ++ n ∷ []) (h number) ∙ sym (right ∙ ap (λ (b : Bool). nodes_from number 0 (take n nodes) ++ cond b (n ∷ []) []) (yes f))
    by (inr d) =
        ap (λ (xs : List (List ℕ)). get_or xs number []) e ∙ get_or-set_other before place number (get_or before place [] ++ n ∷ []) [] d
        ∙ h number ∙ sym (right ∙ ap (λ (b : Bool). nodes_from number 0 (take n nodes) ++ cond b (n ∷ []) []) (no d) ∙ append-nil (nodes_from number 0 (take n nodes)))

-- ---- growing

pub empty_lists_more : (xs : List (List ℕ)) (k : ℕ) → get_or (xs ++ [] ∷ []) k [] ≡ get_or xs k []
empty_lists_more [] zero = refl
empty_lists_more [] (suc k) = refl
empty_lists_more (x ∷ xs) zero = refl
empty_lists_more (x ∷ xs) (suc k) = empty_lists_more xs k

pub take_get : {A : Type 0} → (xs : List A) (n m : ℕ) → m < n → slice_get (take n xs) m ≡ slice_get xs m
take_get xs zero m lt = absurd (omega arith)
take_get [] (suc n) m lt = refl
take_get (x ∷ xs) (suc n) zero lt = refl
take_get (x ∷ xs) (suc n) (suc m) lt = take_get xs n m (omega arith)

-- with lists for more nodes
pub parents_wider : (nodes : List Node) (n count more : ℕ) (old new : List (List ℕ)) → AreParents nodes n n old → HasEmptyLists old new more → n + more ≡ count → AreParents nodes n count new
parents_wider nodes n count more old new h b e = record {
  long = b.long ∙ ap (λ (m : ℕ). m + more) h.long ∙ e;
  has = λ m k node lt is there. subst (λ (xs : List ℕ). Contains xs m) (sym (b.same k)) (h.has m k node lt is there);
  within = λ m k there. h.within m k (subst (λ (xs : List ℕ). Contains xs m) (b.same k) there);
}
