-- Two loops that count, one by i + 1 and one by 1 + i. An induction joins them at height 1, since what is added on either side is
-- joined there by the axiom that sums commute.
use Rattle.std.proofs.Common.{◌≡◌, ℕ, pos, List, [], ◌∷◌, Some, inl, inr, map, refl, sym, ap, ◌∙◌, subst}
use Rattle.pv_value.specs.declared.operation.ScalarOp.TheVariants.{Iadd}
use Rattle.pv_graph.specs.declared.node.Op.TheVariants as op
use Rattle.pv_graph.specs.declared.node.Node.{Node}
use Rattle.pv_graph.specs.Nodes.{node_of}
use Rattle.pv_graph.specs.Walks.{In}
use Rattle.pv_graph.specs.Forms.{form}
use Rattle.pv_graph.specs.Graphs.{form_at}
use Rattle.pv_pattern.specs.Patterns.{Axiom}
use Rattle.pv_steps.specs.Facts.{View}
use Rattle.pv_heights.specs.Systems.{AreThetas, Joined}
use Rattle.pv_heights.specs.Terms.{Term, TermHas, base, terms}
use Rattle.pv_heights.specs.Heights.{IsBase, NextMember, NextGiven, first_height, height}
use Rattle.pv_heights.specs.Closing.{With}
use Rattle.pv_heights.proofs.Zips.{zip_get}
use Rattle.pv_heights.proofs.Nest.{close-induction}
use Rattle.pv_heights.proofs.Terms.{form_once}
use Rattle.pv_heights.proofs.Sums.{swap, here, turned, turned_joined, turned_here}

-- 0 is theta(0, node 0 + 1) and 4 is theta(0, 1 + node 4)
loops : List Node
loops =
    node_of (op.Theta 1) (1 ∷ 2 ∷ []) ∷ node_of (op.Int (pos 0)) [] ∷ node_of (op.Scalar Iadd) (0 ∷ 3 ∷ []) ∷ node_of (op.Int (pos 1)) []
    ∷ node_of (op.Theta 1) (1 ∷ 5 ∷ []) ∷ node_of (op.Scalar Iadd) (3 ∷ 4 ∷ []) ∷ []

abbrev V : View
V = form_at loops

is_theta : V 0 ≡ Some (form (op.Theta 1) (1 ∷ 2 ∷ []))
unfolding loops
is_theta = refl

is_sum : V 2 ≡ Some (form (op.Scalar Iadd) (0 ∷ 3 ∷ []))
unfolding loops
is_sum = refl

is_one : IsBase V 3
unfolding loops
is_one = (op.Int (pos 1), [], refl)

is_zero : IsBase V 1
unfolding loops
is_zero = (op.Int (pos 0), [], refl)

is_other : V 4 ≡ Some (form (op.Theta 1) (1 ∷ 5 ∷ []))
unfolding loops
is_other = refl

is_other_sum : V 5 ≡ Some (form (op.Scalar Iadd) (3 ∷ 4 ∷ []))
unfolding loops
is_other_sum = refl

-- the kids of a theta are terms that are nodes
theta_kids : (n a b : ℕ) → V n ≡ Some (form (op.Theta 1) (a ∷ b ∷ [])) → (p q : Term) → TermHas V (base n) (op.Theta 1) (p ∷ q ∷ []) → (base a ≡ p) × (base b ≡ q)
theta_kids n a b e p q h = both_of (ap (map base) (form_once (V n) (op.Theta 1) (op.Theta 1) (a ∷ b ∷ []) h.0 e h.1).1 ∙ sym h.2)
  where
    both_of : base a ∷ base b ∷ [] ≡ p ∷ q ∷ [] → (base a ≡ p) × (base b ≡ q)
    both_of e = (cc, cc)

module _ (table : List Axiom) (there : In table swap) where
  abbrev C : Term → Type 0
  C = NextMember V [] table (first_height V)

  abbrev K : Term → Term → Type 0
  K = NextGiven V [] table (first_height V)

  -- what is joined at height 1, and inside the induction
  abbrev J : Term → Term → Type 0
  J = Joined (terms V) C [] K []

  pairs : List (Term × Term)
  pairs = (base 0, base 4) ∷ []

  abbrev Inside : Term → Term → Type 0
  Inside = Joined (terms V) C (1 ∷ []) (With J pairs) []

  stays : (n : ℕ) → IsBase V n → C (base n)
  stays n b = inl (here V n b)

  abbrev flipped : Term
  flipped = turned V table there 0 3 2 (op.Theta 1, 1 ∷ 2 ∷ [], is_theta) is_one is_sum

  is_pair : (p : Term × Term) → In pairs p → (base 0, base 4) ≡ p
  unfolding pairs
  is_pair p (inl e) = e
  is_pair p (inr i) = absurd i

  are_thetas : (x y : Term) → In pairs (x, y) → AreThetas (terms V) C 1 x y
  are_thetas x y i =
      subst (λ (p : Term × Term). AreThetas (terms V) C 1 p.0 p.1) (is_pair (x, y) i) (record {
        p = base 1;
        q = base 2;
        r = base 1;
        s = base 5;
        is_left = stays 0 (op.Theta 1, 1 ∷ 2 ∷ [], is_theta);
        is_right = stays 4 (op.Theta 1, 1 ∷ 5 ∷ [], is_other);
        left = (1 ∷ 2 ∷ [], is_theta, refl);
        right = (1 ∷ 5 ∷ [], is_other, refl);
      })

  -- both begin with 0
  firsts : (x y p q r s : Term) → In pairs (x, y) → TermHas V x (op.Theta 1) (p ∷ q ∷ []) → TermHas V y (op.Theta 1) (r ∷ s ∷ []) → J p r
  firsts x y p q r s i h k =
      let e = is_pair (x, y) i in
      let a = theta_kids 0 1 2 is_theta p q (subst (λ t. TermHas V t (op.Theta 1) (p ∷ q ∷ [])) (sym (ap (λ (t : Term × Term). t.0) e)) h) in
      let b = theta_kids 4 1 5 is_other r s (subst (λ t. TermHas V t (op.Theta 1) (r ∷ s ∷ [])) (sym (ap (λ (t : Term × Term). t.1) e)) k) in
      subst (λ t. J t r) a.0 (subst (λ t. J (base 1) t) b.0 (Joined.same [] (base 1) (stays 1 is_zero)))

  -- inside the induction i + 1 is 1 + i by the axiom, and this is 1 + j
  sums_inside : Inside (base 2) (base 5)
  unfolding pairs height
  sums_inside =
      Joined.chain [] (base 2) flipped (base 5) (Joined.given [] (base 2) flipped (inl (turned_joined V table there 0 3 2 (op.Theta 1, 1 ∷ 2 ∷ [], is_theta) is_one is_sum)))
      (Joined.kids [] flipped (base 5) (op.Scalar Iadd) (base 3 ∷ base 0 ∷ []) (base 3 ∷ base 4 ∷ []) (turned_here V table there 0 3 2 (op.Theta 1, 1 ∷ 2 ∷ [], is_theta) is_one is_sum)
      (stays 5 (op.Scalar Iadd, 3 ∷ 4 ∷ [], is_other_sum)) (refl, refl) (3 ∷ 4 ∷ [], is_other_sum, refl) (λ d l f. absurd (cc)) refl
      (λ j k l e f. zip_get Inside (base 3 ∷ base 0 ∷ []) (base 3 ∷ base 4 ∷ [])
      (Joined.same [] (base 3) (stays 3 is_one), (Joined.given [] (base 0) (base 4) (inr (inl refl)), tt)) j k l e f))

  seconds : (x y p q r s : Term) → In pairs (x, y) → TermHas V x (op.Theta 1) (p ∷ q ∷ []) → TermHas V y (op.Theta 1) (r ∷ s ∷ []) → Inside q s
  seconds x y p q r s i h k =
      let e = is_pair (x, y) i in
      let a = theta_kids 0 1 2 is_theta p q (subst (λ t. TermHas V t (op.Theta 1) (p ∷ q ∷ [])) (sym (ap (λ (t : Term × Term). t.0) e)) h) in
      let b = theta_kids 4 1 5 is_other r s (subst (λ t. TermHas V t (op.Theta 1) (r ∷ s ∷ [])) (sym (ap (λ (t : Term × Term). t.1) e)) k) in
      subst (λ t. Inside t s) a.1 (subst (λ t. Inside (base 2) t) b.1 sums_inside)

  -- so the loops are joined
  loops_joined : (height V [] table 1).Joins (base 0) (base 4)
  unfolding pairs height
  loops_joined =
      close-induction (terms V) C [] K 1 pairs (record { above = λ d i. absurd i; thetas = are_thetas; first = firsts; second = seconds }) (base 0) (base 4) (inl refl)
