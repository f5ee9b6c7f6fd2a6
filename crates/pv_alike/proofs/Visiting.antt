-- A visit that has come some way: what has been visited, and the stack of what is to be visited, whose end is next.
use Rattle.std.proofs.Common.{◌≡◌, ℕ, ◌+◌, ◌-◌, ◌<◌, Bool, true, false, List, [], ◌∷◌, ◌++◌, length, reverse, slice_get, Some, refl, sym, ap, ◌∙◌, subst, arith, length-append}
use Rattle.std.specs.List.{All, Contains}
use Rattle.std.proofs.lemmas.List.Elements.{All-append, All-contains, Contains-push}
use Rattle.std.proofs.lemmas.List.{get_or_append_left, get_or-reverse, reverse-append, reverse-reverse, length-reverse}
use Rattle.pv_graph.specs.declared.node.Node.{Node}
use Rattle.pv_alike.specs.Renumbered.{AreKidsWithin}
use Rattle.pv_alike.specs.Visits.{Visits, done, again, new, Visited}
use Rattle.pv_alike.proofs.Work.{work, work_visit}

-- the rest of the visit completes the whole, and the stack has nodes of the graph
pub record IsVisiting (g : List Node) (first second : ℕ) (order stack : List ℕ) : Type 0 where
  pub continues : (whole : List ℕ) → Visits g whole order (reverse stack) → Visits g whole [] (first ∷ second ∷ [])
  pub low : All (λ n. n < length g) stack

-- what is to be visited once n is taken off the end of the stack, and its kids are put there
todo_taken : (stack rest : List ℕ) (n : ℕ) → stack ≡ rest ++ n ∷ [] → reverse stack ≡ n ∷ reverse rest
todo_taken stack rest n e = ap reverse e ∙ reverse-append rest (n ∷ [])

todo_put : (rest kids : List ℕ) → reverse (rest ++ reverse kids) ≡ kids ++ reverse rest
todo_put rest kids = reverse-append rest (reverse kids) ∙ ap (λ (xs : List ℕ). xs ++ reverse rest) (reverse-reverse kids)

front_low : (g : List Node) (stack rest : List ℕ) (n : ℕ) → stack ≡ rest ++ n ∷ [] → All (λ k. k < length g) stack → All (λ k. k < length g) rest
front_low g stack rest n e low = λ k d lt.
    subst (λ m. m < length g) (get_or_append_left rest (n ∷ []) d k lt)
    (subst (All (λ m. m < length g)) e low k d (omega (arith, length-append rest (n ∷ []))))

-- the end of the stack is a node
pub last_low : (g : List Node) (first second : ℕ) (order stack rest : List ℕ) (n : ℕ) → IsVisiting g first second order stack → stack ≡ rest ++ n ∷ [] → n < length g
last_low g first second order stack rest n is e = All-contains (λ k. k < length g) stack n is.low (subst (λ (xs : List ℕ). Contains xs n) (sym e) (Contains-push rest n))

-- a node that has been visited is left
pub visiting_again : (g : List Node) (first second : ℕ) (order stack rest : List ℕ) (n : ℕ) → IsVisiting g first second order stack → stack ≡ rest ++ n ∷ [] → Contains order n → IsVisiting g first second order rest
visiting_again g first second order stack rest n is e there = record {
  continues = λ whole visits. is.continues whole (subst (λ (todo : List ℕ). Visits g whole order todo) (sym (todo_taken stack rest n e)) (again order n (reverse rest) there visits));
  low = front_low g stack rest n e is.low;
}

All-reverse : (P : ℕ → Type 0) (xs : List ℕ) → All P xs → All P (reverse xs)
All-reverse P xs all = λ k d lt.
    let lt' : k < length xs = omega (arith, length-reverse xs) in
    subst P (sym (get_or-reverse xs k d lt')) (all (length xs - 1 - k) d (omega arith))

kids_low : (g : List Node) (n : ℕ) (node : Node) → AreKidsWithin g → slice_get g n ≡ Some node → All (λ k. k < length g) (reverse node.kids)
kids_low g n node within is = All-reverse (λ k. k < length g) node.kids (within n node is)

-- the kids of a node that is new are next
pub visiting_new : (g : List Node) (first second : ℕ) (order stack rest : List ℕ) (n : ℕ) (node : Node) → AreKidsWithin g → IsVisiting g first second order stack → stack ≡ rest ++ n ∷ [] → (Contains order n → ⊥) → slice_get g n ≡ Some node → IsVisiting g first second (order ++ n ∷ []) (rest ++ reverse node.kids)
visiting_new g first second order stack rest n node within is e absent at = record {
  continues = λ whole visits. is.continues whole (subst (λ (todo : List ℕ). Visits g whole order todo) (sym (todo_taken stack rest n e))
      (new order n (reverse rest) node absent at (subst (λ (todo : List ℕ). Visits g whole (order ++ n ∷ []) todo) (todo_put rest node.kids) visits)));
  low = All-append (λ k. k < length g) rest (reverse node.kids) (front_low g stack rest n e is.low) (kids_low g n node within at);
}

-- nothing is left to be visited
pub visiting_end : (g : List Node) (first second : ℕ) (order stack : List ℕ) → IsVisiting g first second order stack → stack ≡ [] → Visits g order [] (first ∷ second ∷ [])
visiting_end g first second order stack is e = is.continues order (subst (λ (todo : List ℕ). Visits g order order todo) (sym (ap reverse e)) (done order refl))

-- ---- the work that is left

-- what is left of the work: the shares of nodes that are new, and the stack
abbrev pub left : List Node → List ℕ → List ℕ → ℕ
left g order stack = work g 0 order + length stack

pub less_new : (g : List Node) (order stack rest : List ℕ) (n : ℕ) (node : Node) → stack ≡ rest ++ n ∷ [] → (Contains order n → ⊥) → slice_get g n ≡ Some node → left g (order ++ n ∷ []) (rest ++ reverse node.kids) < left g order stack
less_new g order stack rest n node e absent at =
    omega (arith, ap length e, length-append rest (n ∷ []), length-append rest (reverse node.kids), length-reverse node.kids, work_visit g n order node at absent)

-- ---- the two turns of the loop

pub turn_again : (g : List Node) (first second : ℕ) (order order' stack rest : List ℕ) (n : ℕ) (is_new : Bool) → IsVisiting g first second order stack → stack ≡ rest ++ n ∷ [] → Visited order order' n is_new → is_new ≡ false → IsVisiting g first second order' rest
turn_again g first second order order' stack rest n is_new is e visit old =
    let there = subst (λ b. Visited order order' n b) old visit in
    subst (λ (xs : List ℕ). IsVisiting g first second xs rest) (sym there.1) (visiting_again g first second order stack rest n is e there.0)

pub turn_new : (g : List Node) (first second : ℕ) (order order' stack rest : List ℕ) (n : ℕ) (is_new : Bool) (node : Node) (kids stack' : List ℕ) → AreKidsWithin g → IsVisiting g first second order stack → stack ≡ rest ++ n ∷ [] → Visited order order' n is_new → is_new ≡ true → slice_get g n ≡ Some node → kids ≡ node.kids → stack' ≡ rest ++ reverse kids → IsVisiting g first second order' stack'
turn_new g first second order order' stack rest n is_new node kids stack' within is e visit young at same e' =
    let absent = subst (λ b. Visited order order' n b) young visit in
    let put : stack' ≡ rest ++ reverse node.kids = e' ∙ ap (λ (ks : List ℕ). rest ++ reverse ks) same in
    subst (λ (xs : List ℕ). IsVisiting g first second xs stack') (sym absent.1)
    (subst (IsVisiting g first second (order ++ n ∷ [])) (sym put) (visiting_new g first second order stack rest n node within is e absent.0 at))

pub turn_new_less : (g : List Node) (order order' stack rest : List ℕ) (n : ℕ) (is_new : Bool) (node : Node) (kids stack' : List ℕ) → stack ≡ rest ++ n ∷ [] → Visited order order' n is_new → is_new ≡ true → slice_get g n ≡ Some node → kids ≡ node.kids → stack' ≡ rest ++ reverse kids → left g order' stack' < left g order stack
turn_new_less g order order' stack rest n is_new node kids stack' e visit young at same e' =
    let absent = subst (λ b. Visited order order' n b) young visit in
    let put : stack' ≡ rest ++ reverse node.kids = e' ∙ ap (λ (ks : List ℕ). rest ++ reverse ks) same in
    subst (λ (xs : List ℕ). left g xs stack' < left g order stack) (sym absent.1)
    (subst (λ (ys : List ℕ). left g (order ++ n ∷ []) ys < left g order stack) (sym put) (less_new g order stack rest n node e absent.0 at))
