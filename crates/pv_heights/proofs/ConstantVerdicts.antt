-- A method that returns 1 and one that returns 2: by all axioms and under all limits the verdict is `apart`, at height 0.
use Rattle.std.proofs.Common.{◌≡◌, ℕ, zero, suc, pos, nat_abs, Bool, true, false, ◌&&◌, not, List, [], ◌∷◌, Option, Some, None, length, slice_get, ◌==◌, if◌then◌else◌, inl, inr, refl, sym, ap, ◌∙◌, subst, arith}
use Rattle.pv_value.specs.Spelled.{bind}
use Rattle.pv_graph.specs.declared.node.Op.{Op}
use Rattle.pv_graph.specs.declared.node.Op.TheVariants as op
use Rattle.pv_graph.specs.declared.node.OpSort.TheVariants as sort
use Rattle.pv_graph.specs.declared.node.Node.{Node}
use Rattle.pv_graph.specs.Forms.{Form, form}
use Rattle.pv_graph.specs.Nodes.{node_of}
use Rattle.pv_graph.specs.Walks.{In}
use Rattle.pv_graph.specs.Graphs.{Graph, form_at}
use Rattle.pv_pattern.specs.Patterns.{Head, fixed, theta_d, eval_d, pass_d, shift_d, getstatic, putstatic, getfield, putfield, load, store, Pattern, var, constant, fold, narrowed, over, over_each, Axiom}
use Rattle.pv_pattern.specs.Instances.{Names, head_op}
use Rattle.pv_axioms.specs.Entries.{axioms}
use Rattle.pv_steps.specs.Facts.{View}
use Rattle.pv_steps.specs.Right.{IsPassOrCallEnd, MayBeAssumed, RootKids}
use Rattle.pv_heights.specs.Filled.{of, Parts, all_filled, named}
use Rattle.pv_heights.specs.Sides.{Match, InClass, StandsIn}
use Rattle.pv_heights.specs.Matches.{IsMatch, AtLeast}
use Rattle.pv_heights.specs.Terms.{Term, base, terms}
use Rattle.pv_heights.specs.Heights.{IsBase, first_height, height}
use Rattle.pv_heights.specs.Verdicts.{Question, AreEndings, IsOverBudget, Meets, AreSaturated, apart, IsVerdict}
use Rattle.pv_heights.proofs.Zips.{some_once}
use Rattle.pv_heights.proofs.Alone.{true_false, is_theta, number_of, form_of_term, alone}

-- ---- two roots, which are nodes 0 and 5: nothing is thrown, 1 or 2 is returned, and the heap is as it was

returns : List Node
returns =
    node_of op.Root (1 ∷ 2 ∷ 3 ∷ 4 ∷ []) ∷ node_of op.Unit [] ∷ node_of op.Clear [] ∷ node_of (op.Int (pos 1)) [] ∷ node_of op.Heap0 []
    ∷ node_of op.Root (1 ∷ 2 ∷ 6 ∷ 4 ∷ []) ∷ node_of (op.Int (pos 2)) [] ∷ []

abbrev V : View
V = form_at returns

abbrev Here : Term → Type 0
Here = (first_height V).Member

abbrev J : Term → Term → Type 0
J = (first_height V).Joins

abbrev third : List ℕ → ℕ
third (a ∷ b ∷ c ∷ ks) = c
third ks = 0

abbrev label : Option (Form ℕ) → ℕ
label (Some (form op.Root ks)) = if third ks == 3 then 0 else 5
label (Some (form op.Unit ks)) = 1
label (Some (form op.Clear ks)) = 2
label (Some (form (op.Int c) ks)) = if nat_abs c == 1 then 3 else 6
label (Some (form op.Heap0 ks)) = 4
label f = 0

labelled : (n : ℕ) → IsBase V n → n ≡ label (V n)
unfolding returns
labelled zero b = refl
labelled (suc zero) b = refl
labelled (suc (suc zero)) b = refl
labelled (suc (suc (suc zero))) b = refl
labelled (suc (suc (suc (suc zero)))) b = refl
labelled (suc (suc (suc (suc (suc zero))))) b = refl
labelled (suc (suc (suc (suc (suc (suc zero)))))) b = refl
labelled (suc (suc (suc (suc (suc (suc (suc n))))))) b = absurd (nothing (form b.0 b.1) b.2)
  where
    nothing : (f : Form ℕ) → None ≡ Some f → ⊥
    nothing f e = cc

-- what is true of each node, and of no node
module _ (test : Option (Form ℕ) → Bool) (t : Bool) (root1 : test (Some (form op.Root (1 ∷ 2 ∷ 3 ∷ 4 ∷ []))) ≡ t) (unit : test (Some (form op.Unit [])) ≡ t) (clear : test (Some (form op.Clear [])) ≡ t)
    (one : test (Some (form (op.Int (pos 1)) [])) ≡ t) (heap : test (Some (form op.Heap0 [])) ≡ t) (root2 : test (Some (form op.Root (1 ∷ 2 ∷ 6 ∷ 4 ∷ []))) ≡ t) (two : test (Some (form (op.Int (pos 2)) [])) ≡ t)
    (none : test None ≡ t) where
  each_node : (n : ℕ) → test (V n) ≡ t
  unfolding returns
  each_node zero = root1
  each_node (suc zero) = unit
  each_node (suc (suc zero)) = clear
  each_node (suc (suc (suc zero))) = one
  each_node (suc (suc (suc (suc zero)))) = heap
  each_node (suc (suc (suc (suc (suc zero))))) = root2
  each_node (suc (suc (suc (suc (suc (suc zero)))))) = two
  each_node (suc (suc (suc (suc (suc (suc (suc n))))))) = none

flat : (n : ℕ) → is_theta (V n) ≡ false
flat = each_node is_theta false refl refl refl refl refl refl refl refl

apart_here : (a b : Term) → J a b → a ≡ b
apart_here = alone V label labelled flat

-- ---- no axiom matches, since no left side begins with an operation of these nodes

abbrev is_among : Op → Bool
is_among op.Root = true
is_among op.Unit = true
is_among op.Clear = true
is_among (op.Int c) = true
is_among op.Heap0 = true
is_among o = false

abbrev among_or_none : Option (Form ℕ) → Bool
among_or_none (Some (form o ks)) = is_among o
among_or_none None = true

abbrev begins_elsewhere : Head → Bool
begins_elsewhere (fixed o) = not (is_among o)
begins_elsewhere h = true

abbrev stands_elsewhere : Pattern → Bool
stands_elsewhere (over h ps) = begins_elsewhere h
stands_elsewhere p = false

abbrev all_elsewhere : List Axiom → Bool
all_elsewhere [] = true
all_elsewhere (e ∷ es) = stands_elsewhere e.left && all_elsewhere es

head_elsewhere : (m : Names) (h : Head) → begins_elsewhere h ≡ true → is_among (head_op m h) ≡ false
head_elsewhere m (fixed o) e = go (is_among o) e
  where
    go : (t : Bool) → not t ≡ true → t ≡ false
    go true e = absurd (cc)
    go false e = refl
head_elsewhere m theta_d e = refl
head_elsewhere m eval_d e = refl
head_elsewhere m pass_d e = refl
head_elsewhere m shift_d e = refl
head_elsewhere m (getstatic s) e = refl
head_elsewhere m (putstatic s) e = refl
head_elsewhere m (getfield s) e = refl
head_elsewhere m (putfield s) e = refl
head_elsewhere m (load k) e = refl
head_elsewhere m (store k) e = refl

-- an operation that is none of these stands in no class
no_class : (m : Match Term) (o : Op) (ps : Parts) (t : Term) → is_among o ≡ false → InClass (terms V) Here J m (of o ps) t → ⊥
no_class m o ps t e h =
    let f = form_of_term V label labelled flat h.1.thing o h.0 h.1.is h.1.has in
    true_false (sym (ap among_or_none (sym f.3) ∙ each_node among_or_none true refl refl refl refl refl refl refl refl f.0) ∙ e)

no_stand : (m : Match Term) (p : Pattern) (t : Term) → stands_elsewhere p ≡ true → StandsIn (terms V) Here J m p t → ⊥
no_stand m (var j) t e h = true_false (sym e)
no_stand m (constant j) t e h = true_false (sym e)
no_stand m (fold o atoms) t e h = true_false (sym e)
no_stand m (narrowed b p) t e h = true_false (sym e)
no_stand m (over_each k a) t e h = true_false (sym e)
no_stand m (over g ps) t e h = go (all_filled m.params (length m.kids) ps) h.1
  where
    go : (q : Option Parts) → bind q (λ ss. Some (of (head_op (named m.params) g) ss)) ≡ Some h.0 → ⊥
    go None d = absurd (cc)
    go (Some ss) d = no_class m (head_op (named m.params) g) ss t (head_elsewhere (named m.params) g e) (subst (λ s. InClass (terms V) Here J m s t) (sym (some_once d)) h.2)

elsewhere_in : (es : List Axiom) → all_elsewhere es ≡ true → (e : Axiom) → In es e → stands_elsewhere e.left ≡ true
elsewhere_in [] a e i = absurd i
elsewhere_in (d ∷ es) a e (inl s) = subst (λ (v : Axiom). stands_elsewhere v.left ≡ true) s (first_of (stands_elsewhere d.left) (all_elsewhere es) a)
  where
    first_of : (s t : Bool) → (s && t) ≡ true → s ≡ true
    first_of true t e = refl
    first_of false t e = absurd (cc)
elsewhere_in (d ∷ es) a e (inr i) = elsewhere_in es (rest_of (stands_elsewhere d.left) (all_elsewhere es) a) e i
  where
    rest_of : (s t : Bool) → (s && t) ≡ true → t ≡ true
    rest_of true t e = e
    rest_of false t e = absurd (cc)

axioms_elsewhere : all_elsewhere axioms ≡ true
axioms_elsewhere = refl

no_match : (m : Match Term) → IsMatch V [] axioms (terms V) Here J m → ⊥
no_match m h = no_stand m m.entry.left h.at_ (elsewhere_in axioms axioms_elsewhere m.entry h.of_table) h.stands

-- ---- the verdict

abbrev return_graph : Graph
return_graph = record {
  nodes = returns;
  sorts = sort.R ∷ sort.T ∷ sort.F ∷ sort.I ∷ sort.H ∷ sort.R ∷ sort.I ∷ [];
  is_open = false;
  base = 7;
  is_prepared = false;
}

abbrev ask : ℕ → ℕ → Question
ask r b = record { graph = return_graph; first = 0; second = 5; table = axioms; rounds = r; budget = b }

abbrev result_of : Option Node → ℕ
result_of (Some node) = third node.kids
result_of None = 0

first_result : (r : RootKids return_graph 0) → 3 ≡ r.result
unfolding returns
first_result r = ap result_of r.is

second_result : (r : RootKids return_graph 5) → 6 ≡ r.result
unfolding returns
second_result r = ap result_of r.is

not_met : (r b : ℕ) → Meets (ask r b) [] 0 → ⊥
unfolding height
not_met r b (inl j) = absurd (omega (arith, ap number_of (apart_here (base 0) (base 5) j)))
not_met r b (inr h) = absurd (omega (arith, first_result h.left, second_result h.right, ap number_of (apart_here (base h.left.result) (base h.right.result) h.results)))

abbrev waits_op : Op → Bool
waits_op (op.Pass d) = true
waits_op (op.CallEnd s) = true
waits_op o = false

abbrev waits_form : Option (Form ℕ) → Bool
waits_form (Some (form o ks)) = waits_op o
waits_form None = false

waits_true : (o : Op) → IsPassOrCallEnd o → waits_op o ≡ true
waits_true (op.Pass d) w = refl
waits_true (op.CallEnd s) w = refl
waits_true o w = absurd w

not_assumed : (token n : ℕ) → MayBeAssumed return_graph token n → ⊥
not_assumed token n m =
    true_false (sym (waits_true m.o m.waits) ∙ (ap waits_node (sym m.is) ∙ each_node waits_form false refl refl refl refl refl refl refl refl n))
  where
    waits_node : Option Node → Bool
    waits_node f = waits_form (bind f (λ node. Some (form node.op node.kids)))

no_endings : (r b : ℕ) → AreEndings (ask r b) []
no_endings r b = record { are = λ n. ((λ i. absurd i), (λ p. not_assumed p.0.token n p.1)); ordered = λ i j m n l e. absurd (cc) }

no_more : (n : ℕ) → AtLeast V [] axioms (terms V) Here J (suc n) → ⊥
no_more n c = go c.list c.long c.each
  where
    go : (ms : List (Match Term)) → length ms ≡ suc n → ((i : ℕ) (m : Match Term) → slice_get ms i ≡ Some m → IsMatch V [] axioms (terms V) Here J m) → ⊥
    go [] l each = absurd (cc)
    go (m ∷ ms) l each = no_match m (each zero m refl)

not_over : (r b : ℕ) → IsOverBudget (ask r b) [] 0 → ⊥
unfolding height
not_over r b (inl c) = no_more b c
not_over r b (inr c) = no_more b c

saturated : (r b : ℕ) → AreSaturated (ask r b) [] 0
unfolding height
saturated r b = ((λ m t h. absurd (no_match m h)), (λ m t h. absurd (no_match m h)))

constants_apart : (r b : ℕ) → IsVerdict (ask r b) apart
constants_apart r b = ([], no_endings r b, (0, record { within = omega arith; decides = inr (inr (saturated r b)); least = λ j l d. absurd (omega (arith, l)) }, not_met r b, not_over r b))
