-- The question whether a + b and b + a are equal, by the axiom that sums commute alone. There are two matches at height 0, and
-- the sums are joined at height 1. So the verdict depends on the limits: `equivalent`; `rounds 0` without a round; `budget 0` where
-- fewer than two matches are allowed.
use Rattle.std.proofs.Common.{◌≡◌, ℕ, zero, suc, ◌<◌, ◌≤◌, Bool, true, false, List, [], ◌∷◌, map, length, Option, Some, None, slice_get, ◌⊎◌, inl, inr, refl, sym, ap, ◌∙◌, subst, arith}
use Rattle.std.specs.List.{AllZip, AllByRecursion}
use Rattle.pv_value.specs.declared.operation.ScalarOp.TheVariants.{Iadd}
use Rattle.pv_graph.specs.declared.node.Op.{Op}
use Rattle.pv_graph.specs.declared.node.Op.TheVariants as op
use Rattle.pv_graph.specs.declared.node.OpSort.TheVariants.{I}
use Rattle.pv_graph.specs.declared.node.Node.{Node}
use Rattle.pv_graph.specs.Forms.{Form, form}
use Rattle.pv_graph.specs.Nodes.{node_of}
use Rattle.pv_graph.specs.Walks.{In}
use Rattle.pv_graph.specs.Graphs.{Graph, form_at}
use Rattle.pv_pattern.specs.Patterns.{Axiom, variables, is_family}
use Rattle.pv_pattern.specs.Binding.{names}
use Rattle.pv_steps.specs.Facts.{View}
use Rattle.pv_steps.specs.Right.{RootKids}
use Rattle.pv_heights.specs.Systems.{Joined}
use Rattle.pv_heights.specs.Filled.{variable, at, no_part, part}
use Rattle.pv_heights.specs.Sides.{Match, InClass, AllInClass, StandsIn}
use Rattle.pv_heights.specs.Matches.{IsMatch, AreOne, AtLeast}
use Rattle.pv_heights.specs.Terms.{Term, base, terms}
use Rattle.pv_heights.specs.Heights.{IsBase, first_height, height}
use Rattle.pv_heights.specs.Verdicts.{Question, AreEndings, IsOverBudget, Meets, AreSaturated, Decides, equivalent, rounds, budget, IsVerdict}
use Rattle.pv_heights.proofs.Zips.{some_once, zip_get}
use Rattle.pv_heights.proofs.Counting.{at_most}
use Rattle.pv_heights.proofs.Alone.{true_false, is_theta, number_of, form_of_term, alone}
use Rattle.pv_heights.proofs.Sums.{swap, here, sum_of, over_nodes, left_stands, swap_matches, turned, turned_joined, turned_here}

-- ---- a + b and b + a, which are nodes 2 and 3

sums : List Node
sums = node_of (op.Param 0 I) [] ∷ node_of (op.Param 1 I) [] ∷ node_of (op.Scalar Iadd) (0 ∷ 1 ∷ []) ∷ node_of (op.Scalar Iadd) (1 ∷ 0 ∷ []) ∷ []

abbrev V : View
V = form_at sums

abbrev Here : Term → Type 0
Here = (first_height V).Member

abbrev J : Term → Term → Type 0
J = (first_height V).Joins

abbrev label : Option (Form ℕ) → ℕ
label (Some (form (op.Param j s) ks)) = j
label (Some (form (op.Scalar o) (zero ∷ ks))) = 2
label (Some (form (op.Scalar o) (suc k ∷ ks))) = 3
label f = 0

labelled : (n : ℕ) → IsBase V n → n ≡ label (V n)
unfolding sums
labelled zero b = refl
labelled (suc zero) b = refl
labelled (suc (suc zero)) b = refl
labelled (suc (suc (suc zero))) b = refl
labelled (suc (suc (suc (suc n)))) b = absurd (nothing (form b.0 b.1) b.2)
  where
    nothing : (f : Form ℕ) → None ≡ Some f → ⊥
    nothing f e = cc

flat : (n : ℕ) → is_theta (V n) ≡ false
unfolding sums
flat zero = refl
flat (suc zero) = refl
flat (suc (suc zero)) = refl
flat (suc (suc (suc zero))) = refl
flat (suc (suc (suc (suc n)))) = refl

-- at height 0 each node is a class of its own
apart_here : (a b : Term) → J a b → a ≡ b
apart_here = alone V label labelled flat

-- ---- what the axiom matches at height 0

abbrev kids_or : Option (Form ℕ) → List ℕ
kids_or (Some (form o ks)) = ks
kids_or None = []

is_sum : (n : ℕ) (ns : List ℕ) → V n ≡ Some (form (op.Scalar Iadd) ns) → ((n ≡ 2) × (ns ≡ 0 ∷ 1 ∷ [])) ⊎ ((n ≡ 3) × (ns ≡ 1 ∷ 0 ∷ []))
unfolding sums
is_sum zero ns e = absurd (cc)
is_sum (suc zero) ns e = absurd (cc)
is_sum (suc (suc zero)) ns e = inl (refl, sym (ap kids_or e))
is_sum (suc (suc (suc zero))) ns e = inr (refl, sym (ap kids_or e))
is_sum (suc (suc (suc (suc n)))) ns e = absurd (cc)

-- t is the first sum where the thing at i is a and that at j is b, or the second one where they are b and a
abbrev IsSumOf : List Term → ℕ → ℕ → Term → Type 0
IsSumOf vars i j t =
    ((t ≡ base 2) × (slice_get vars i ≡ Some (base 0)) × (slice_get vars j ≡ Some (base 1)))
    ⊎ ((t ≡ base 3) × (slice_get vars i ≡ Some (base 1)) × (slice_get vars j ≡ Some (base 0)))

parts_of : (m : Match Term) (i j : ℕ) (ks : List Term) → AllInClass (terms V) Here J m (part (at (variable i)) (part (at (variable j)) no_part)) ks
    → (k : Term) × (l : Term) × (ks ≡ k ∷ l ∷ []) × (slice_get m.vars i ≡ Some k) × (slice_get m.vars j ≡ Some l)
parts_of m i j [] h = absurd h
parts_of m i j (k ∷ []) h = absurd h.1
parts_of m i j (k ∷ l ∷ []) h =
    (k, l, refl, subst (λ u. slice_get m.vars i ≡ Some u) (apart_here h.0.0 k h.0.2) h.0.1, subst (λ u. slice_get m.vars j ≡ Some u) (apart_here h.1.0.0 l h.1.0.2) h.1.0.1)
parts_of m i j (k ∷ l ∷ o ∷ ks) h = absurd h.1.1

stands_sum : (m : Match Term) (i j : ℕ) (t : Term) → InClass (terms V) Here J m (sum_of i j) t → IsSumOf m.vars i j t
stands_sum m i j t h =
    let f = form_of_term V label labelled flat h.1.thing (op.Scalar Iadd) h.0 h.1.is h.1.has in
    let p = parts_of m i j h.0 h.2 in
    go f.0 f.1 p.0 p.1 (is_sum f.0 f.1 f.3) (sym (apart_here h.1.thing t h.1.joins) ∙ f.2) (sym p.2 ∙ f.4) p.3 p.4
  where
    first_of_two : (k l a b : Term) → k ∷ l ∷ [] ≡ a ∷ b ∷ [] → (k ≡ a) × (l ≡ b)
    first_of_two k l a b e = (cc, cc)

    go : (n : ℕ) (ns : List ℕ) (k l : Term) → ((n ≡ 2) × (ns ≡ 0 ∷ 1 ∷ [])) ⊎ ((n ≡ 3) × (ns ≡ 1 ∷ 0 ∷ [])) → t ≡ base n → k ∷ l ∷ [] ≡ map base ns → slice_get m.vars i ≡ Some k → slice_get m.vars j ≡ Some l → IsSumOf m.vars i j t
    go n ns k l (inl w) e s a b =
        let r = first_of_two k l (base 0) (base 1) (s ∙ ap (map base) w.1) in
        inl (e ∙ ap base w.0, subst (λ u. slice_get m.vars i ≡ Some u) r.0 a, subst (λ u. slice_get m.vars j ≡ Some u) r.1 b)
    go n ns k l (inr w) e s a b =
        let r = first_of_two k l (base 1) (base 0) (s ∙ ap (map base) w.1) in
        inr (e ∙ ap base w.0, subst (λ u. slice_get m.vars i ≡ Some u) r.0 a, subst (λ u. slice_get m.vars j ≡ Some u) r.1 b)

is_base : (n : ℕ) → n < 4 → IsBase V n
unfolding sums
is_base zero l = (op.Param 0 I, [], refl)
is_base (suc zero) l = (op.Param 1 I, [], refl)
is_base (suc (suc zero)) l = (op.Scalar Iadd, 0 ∷ 1 ∷ [], refl)
is_base (suc (suc (suc zero))) l = (op.Scalar Iadd, 1 ∷ 0 ∷ [], refl)
is_base (suc (suc (suc (suc n)))) l = absurd (omega (arith, l))

-- both sums are joined at height 1
sums_joined : (table : List Axiom) (there : In table swap) → (height V [] table 1).Joins (base 2) (base 3)
unfolding height sums
sums_joined table there =
    let a = is_base 0 (omega arith) in let b = is_base 1 (omega arith) in let s = is_base 2 (omega arith) in
    Joined.chain [] (base 2) (turned V table there 0 1 2 a b refl) (base 3) (turned_joined V table there 0 1 2 a b refl)
    (Joined.kids [] (turned V table there 0 1 2 a b refl) (base 3) (op.Scalar Iadd) (base 1 ∷ base 0 ∷ []) (base 1 ∷ base 0 ∷ []) (turned_here V table there 0 1 2 a b refl)
    (inl (here V 3 (is_base 3 (omega arith)))) (refl, refl) (1 ∷ 0 ∷ [], refl, refl) (λ d l f. f) refl
    (λ j k l e f. zip_get (height V [] table 1).Joins (base 1 ∷ base 0 ∷ []) (base 1 ∷ base 0 ∷ [])
    (Joined.same [] (base 1) (inl (here V 1 b)), (Joined.same [] (base 0) (inl (here V 0 a)), tt)) j k l e f))

-- ---- two matches, no more

commute : List Axiom
commute = swap ∷ []

abbrev Matches : Match Term → Type 0
Matches m = IsMatch V [] commute (terms V) Here J m

entry_is : (m : Match Term) → Matches m → swap ≡ m.entry
unfolding commute
entry_is m h = go h.of_table
  where
    go : In (swap ∷ []) m.entry → swap ≡ m.entry
    go (inl e) = e
    go (inr i) = absurd i

two_long : (xs : List Term) (a b : Term) → length xs ≡ 2 → slice_get xs 0 ≡ Some a → slice_get xs 1 ≡ Some b → xs ≡ a ∷ b ∷ []
two_long [] a b l e f = absurd (cc)
two_long (v ∷ []) a b l e f = absurd (cc)
two_long (v ∷ w ∷ []) a b l e f = cc
two_long (v ∷ w ∷ u ∷ xs) a b l e f = absurd (omega (arith, l))

-- the match with this number is over a and b, or over b and a
abbrev IsNumbered : Match Term → ℕ → Type 0
IsNumbered m p = Matches m × (((p ≡ 0) × (m.vars ≡ base 0 ∷ base 1 ∷ [])) ⊎ ((p ≡ 1) × (m.vars ≡ base 1 ∷ base 0 ∷ [])))

numbered : (m : Match Term) → Matches m → (p : ℕ) × IsNumbered m p
unfolding swap
numbered m h =
    let e = entry_is m h in
    let s : StandsIn (terms V) Here J m swap.left h.at_ = subst (λ (v : Axiom). StandsIn (terms V) Here J m v.left h.at_) (sym e) h.stands in
    let l : length m.vars ≡ 2 = subst (λ (v : Axiom). length m.vars ≡ variables v.left) (sym e) h.long in
    go l (stands_sum m 0 1 h.at_ (subst (λ f. InClass (terms V) Here J m f h.at_) (sym (some_once s.1)) s.2))
  where
    go : length m.vars ≡ 2 → IsSumOf m.vars 0 1 h.at_ → (p : ℕ) × IsNumbered m p
    go l (inl w) = (0, (h, inl (refl, two_long m.vars (base 0) (base 1) l w.1 w.2)))
    go l (inr w) = (1, (h, inr (refl, two_long m.vars (base 1) (base 0) l w.1 w.2)))

low : (m : Match Term) (p : ℕ) → IsNumbered m p → p < 2
low m p (h, inl w) = omega (arith, w.0)
low m p (h, inr w) = omega (arith, w.0)

one_vars : (m n : Match Term) (p : ℕ) → IsNumbered m p → IsNumbered n p → m.vars ≡ n.vars
one_vars m n p (h, inl v) (k, inl w) = v.1 ∙ sym w.1
one_vars m n p (h, inl v) (k, inr w) = absurd (omega (arith, v.0, w.0))
one_vars m n p (h, inr v) (k, inl w) = absurd (omega (arith, v.0, w.0))
one_vars m n p (h, inr v) (k, inr w) = v.1 ∙ sym w.1

all_same : (xs : List Term) → AllByRecursion Here xs → AllZip J xs xs
all_same [] h = tt
all_same (v ∷ xs) h = (Joined.same [] v h.0, all_same xs h.1)

one_match : (m n : Match Term) (p : ℕ) → IsNumbered m p → IsNumbered n p → AreOne J m n
unfolding swap
one_match m n p h k =
    let e = entry_is m h.0 in let f = entry_is n k.0 in
    let no_kids : m.kids ≡ [] = h.0.alone (subst (λ (v : Axiom). is_family v.left ≡ false) e refl) in
    let none_there : n.kids ≡ [] = k.0.alone (subst (λ (v : Axiom). is_family v.left ≡ false) f refl) in record {
      entry = sym e ∙ f;
      params = λ i v. absurd (subst (λ (w : Axiom). In (names w.left) i) (sym e) v);
      kids = subst (λ ks. AllZip J ks n.kids) (sym no_kids) (subst (λ ks. AllZip J [] ks) (sym none_there) tt);
      vars = subst (λ vs. AllZip J m.vars vs) (one_vars m n p h k) (all_same m.vars h.0.vars);
    }

numbers : (ms : List (Match Term)) → ((i : ℕ) (m : Match Term) → slice_get ms i ≡ Some m → Matches m) → (ps : List ℕ) × AllZip IsNumbered ms ps
numbers [] each = ([], tt)
numbers (m ∷ ms) each = let p = numbered m (each zero m refl) in let r = numbers ms (λ i n e. each (suc i) n e) in (p.0 ∷ r.0, (p.1, r.1))

at_most_two : (n : ℕ) → AtLeast V [] commute (terms V) Here J n → n ≤ 2
at_most_two n c = let r = numbers c.list c.each in subst (λ l. l ≤ 2) c.long (at_most IsNumbered 2 low (AreOne J) one_match c.list r.0 r.1 c.once)

first_match : Matches (over_nodes 0 1)
unfolding commute sums
first_match = swap_matches V (swap ∷ []) (inl refl) 0 1 2 (is_base 0 (omega arith)) (is_base 1 (omega arith)) refl

second_match : Matches (over_nodes 1 0)
unfolding commute sums
second_match = swap_matches V (swap ∷ []) (inl refl) 1 0 3 (is_base 1 (omega arith)) (is_base 0 (omega arith)) refl

two_matches : AtLeast V [] commute (terms V) Here J 2
two_matches = record { list = over_nodes 0 1 ∷ over_nodes 1 0 ∷ []; long = refl; each = each; once = once }
  where
    each : (i : ℕ) (m : Match Term) → slice_get (over_nodes 0 1 ∷ over_nodes 1 0 ∷ []) i ≡ Some m → Matches m
    each zero m e = subst Matches (some_once e) first_match
    each (suc zero) m e = subst Matches (some_once e) second_match
    each (suc (suc i)) m e = absurd (cc)

    different : base 0 ≡ base 1 → ⊥
    different e = absurd (omega (arith, ap number_of e))

    two : AreOne J (over_nodes 0 1) (over_nodes 1 0) → ⊥
    two o = different (apart_here (base 0) (base 1) o.vars.0)

    once : (i j : ℕ) (m n : Match Term) → i < j → slice_get (over_nodes 0 1 ∷ over_nodes 1 0 ∷ []) i ≡ Some m → slice_get (over_nodes 0 1 ∷ over_nodes 1 0 ∷ []) j ≡ Some n → AreOne J m n → ⊥
    once zero (suc zero) m n l e f o = two (subst (λ v. AreOne J v (over_nodes 1 0)) (sym (some_once e)) (subst (λ v. AreOne J m v) (sym (some_once f)) o))
    once i (suc (suc j)) m n l e f o = absurd (cc)
    once i zero m n l e f o = absurd (omega (arith, l))
    once (suc i) (suc zero) m n l e f o = absurd (omega (arith, l))

-- ---- the verdict on the two sums

abbrev sum_graph : Graph
sum_graph = record { nodes = sums; sorts = I ∷ I ∷ I ∷ I ∷ []; is_open = false; base = 4; is_prepared = false }

abbrev ask : ℕ → ℕ → Question
ask r b = record { graph = sum_graph; first = 2; second = 3; table = commute; rounds = r; budget = b }

abbrev root_op : Op → Bool
root_op op.Root = true
root_op o = false

abbrev is_root : Option Node → Bool
is_root (Some node) = root_op node.op
is_root None = false

no_root : RootKids sum_graph 2 → ⊥
unfolding sums
no_root r = true_false (sym (ap is_root r.is))

no_endings : (r b : ℕ) → AreEndings (ask r b) []
no_endings r b = record { are = λ n. ((λ i. absurd i), (λ p. no_root p.0)); ordered = λ i j m n l e. absurd (cc) }

not_met : (r b : ℕ) → Meets (ask r b) [] 0 → ⊥
unfolding height
not_met r b (inl j) = absurd (omega (arith, ap number_of (apart_here (base 2) (base 3) j)))
not_met r b (inr h) = no_root h.left

right_not : StandsIn (terms V) Here J (over_nodes 0 1) swap.right (base 2) → ⊥
unfolding swap
right_not s = go (stands_sum (over_nodes 0 1) 1 0 (base 2) (subst (λ f. InClass (terms V) Here J (over_nodes 0 1) f (base 2)) (sym (some_once s.1)) s.2))
  where
    go : IsSumOf (base 0 ∷ base 1 ∷ []) 1 0 (base 2) → ⊥
    go (inl w) = absurd (omega (arith, ap number_of (some_once w.1)))
    go (inr w) = absurd (omega (arith, ap number_of w.0))

not_saturated : (r b : ℕ) → AreSaturated (ask r b) [] 0 → ⊥
unfolding height
not_saturated r b s =
    right_not (s.0 (over_nodes 0 1) (base 2) first_match (here V 2 (is_base 2 (omega arith))) (left_stands V commute first_match.of_table 0 1 2 (is_base 0 (omega arith)) (is_base 1 (omega arith)) is_two))
  where
    is_two : V 2 ≡ Some (form (op.Scalar Iadd) (0 ∷ 1 ∷ []))
    is_two = unfold sums in refl

not_over : (r b : ℕ) → 2 ≤ b → IsOverBudget (ask r b) [] 0 → ⊥
unfolding height
not_over r b l (inl c) = absurd (omega (arith, l, at_most_two (suc b) c))
not_over r b l (inr c) = absurd (omega (arith, l, at_most_two (suc b) c))

undecided : (r b : ℕ) → 2 ≤ b → Decides (ask r b) [] 0 → ⊥
undecided r b l (inl o) = not_over r b l o
undecided r b l (inr (inl m)) = not_met r b m
undecided r b l (inr (inr s)) = not_saturated r b s

-- with a round and a budget of two matches they are equal
equal_sums : (r b : ℕ) → 1 ≤ r → 2 ≤ b → IsVerdict (ask r b) equivalent
equal_sums r b l m = ([], no_endings r b, (1, record { within = l; decides = inr (inl meet); least = least }, meet))
  where
    meet : Meets (ask r b) [] 1
    meet = inl (sums_joined commute first_match.of_table)

    least : (j : ℕ) → j < 1 → Decides (ask r b) [] j → ⊥
    least zero k d = undecided r b m d
    least (suc j) k d = absurd (omega (arith, k))

-- without a round nothing is decided
sums_without_rounds : (b : ℕ) → 2 ≤ b → IsVerdict (ask 0 b) (rounds 0)
sums_without_rounds b m = ([], no_endings 0 b, (refl, none))
  where
    none : (k : ℕ) → k ≤ 0 → Decides (ask 0 b) [] k → ⊥
    none zero l d = undecided 0 b m d
    none (suc k) l d = absurd (omega (arith, l))

one_match_there : AtLeast V [] commute (terms V) Here J 1
one_match_there = record { list = over_nodes 0 1 ∷ []; long = refl; each = each; once = once }
  where
    each : (i : ℕ) (m : Match Term) → slice_get (over_nodes 0 1 ∷ []) i ≡ Some m → Matches m
    each zero m e = subst Matches (some_once e) first_match
    each (suc i) m e = absurd (cc)

    once : (i j : ℕ) (m n : Match Term) → i < j → slice_get (over_nodes 0 1 ∷ []) i ≡ Some m → slice_get (over_nodes 0 1 ∷ []) j ≡ Some n → AreOne J m n → ⊥
    once i zero m n l e f o = absurd (omega (arith, l))
    once i (suc j) m n l e f o = absurd (cc)

more_than : (b : ℕ) → b < 2 → AtLeast V [] commute (terms V) Here J (suc b)
more_than zero l = one_match_there
more_than (suc zero) l = two_matches
more_than (suc (suc b)) l = absurd (omega (arith, l))

-- two matches are over a smaller budget
sums_over_budget : (r b : ℕ) → b < 2 → IsVerdict (ask r b) (budget 0)
unfolding height
sums_over_budget r b l =
    let over_ : IsOverBudget (ask r b) [] 0 = inl (more_than b l) in
    ([], no_endings r b, (record { within = omega arith; decides = inl over_; least = λ j k d. absurd (omega (arith, k)) }, over_, not_met r b))
