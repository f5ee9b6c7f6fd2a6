-- The axiom that sums commute, where a sum of two nodes stands.
use Rattle.std.proofs.Common.{◌≡◌, ℕ, pos, List, [], ◌∷◌, Some, inr, refl}
use Rattle.pv_value.specs.declared.number.Num.TheVariants as num
use Rattle.pv_value.specs.declared.operation.ScalarOp.TheVariants.{Iadd}
use Rattle.pv_graph.specs.declared.node.Op.TheVariants as op
use Rattle.pv_graph.specs.Forms.{form}
use Rattle.pv_graph.specs.Walks.{In}
use Rattle.pv_pattern.specs.Patterns.{Axiom}
use Rattle.pv_scalar.specs.Table.{rule, sc2, x, y}
use Rattle.pv_steps.specs.Facts.{View}
use Rattle.pv_heights.specs.Systems.{Joined}
use Rattle.pv_heights.specs.Filled.{Filled, variable, of, at, no_part, part}
use Rattle.pv_heights.specs.Sides.{Match, StandsIn}
use Rattle.pv_heights.specs.Matches.{IsMatch}
use Rattle.pv_heights.specs.Terms.{Term, base, over, no_term, term, terms, itself}
use Rattle.pv_heights.specs.Heights.{IsBase, IsRight, first_height, height}
use Rattle.pv_heights.proofs.Examples.{naming}

-- axiom 1
unfoldable pub swap : Axiom
swap = rule 1 (sc2 Iadd x y) (sc2 Iadd y x) []

-- a sum over the variables i and j
abbrev pub sum_of : ℕ → ℕ → Filled
sum_of i j = of (op.Scalar Iadd) (part (at (variable i)) (part (at (variable j)) no_part))

abbrev pub over_nodes : ℕ → ℕ → Match Term
over_nodes a b = record { entry = swap; params = naming (num.Int (pos 3)); kids = []; vars = base a ∷ base b ∷ [] }

-- a node is a term of height 0
pub here : (V : View) (n : ℕ) → IsBase V n → (first_height V).Member (base n)
here V n b = (n, b, refl)

-- node s is the sum of the nodes a and b, and the table has the axiom
module _ (V : View) (table : List Axiom) (there : In table swap) (a b s : ℕ) (is_a : IsBase V a) (is_b : IsBase V b) (is_s : V s ≡ Some (form (op.Scalar Iadd) (a ∷ b ∷ []))) where
  abbrev Here : Term → Type 0
  Here = (first_height V).Member

  abbrev J : Term → Term → Type 0
  J = (first_height V).Joins

  sum_here : Here (base s)
  sum_here = here V s (op.Scalar Iadd, a ∷ b ∷ [], is_s)

  pub left_stands : StandsIn (terms V) Here J (over_nodes a b) swap.left (base s)
  unfolding swap
  left_stands = (
    sum_of 0 1,
    refl,
    (
      base a ∷ base b ∷ [],
      record { thing = base s; is = sum_here; joins = Joined.same [] (base s) sum_here; has = (a ∷ b ∷ [], is_s, refl) },
      ((base a, refl, Joined.same [] (base a) (here V a is_a)), ((base b, refl, Joined.same [] (base b) (here V b is_b)), tt)),
    ),
  )

  pub swap_matches : IsMatch V [] table (terms V) Here J (over_nodes a b)
  unfolding swap
  swap_matches = record {
    of_table = there;
    kids = tt;
    vars = (here V a is_a, (here V b is_b, tt));
    long = refl;
    alone = λ f. refl;
    at_ = base s;
    is = sum_here;
    stands = left_stands;
    constants = λ j v. absurd v;
    sides = tt;
  }

  -- its right side is a term of the next height
  abbrev pub turned : Term
  turned = over (op.Scalar Iadd) (term (base b) (term (base a) no_term))

  turned_right : IsRight V [] table (first_height V) (over_nodes a b) turned
  unfolding swap
  turned_right = record {
    is_match = swap_matches;
    chosen = over_nodes a b;
    is_chosen = record {
      entry = refl;
      params = refl;
      kids = tt;
      vars = ((here V a is_a, Joined.same [] (base a) (here V a is_a)), ((here V b is_b, Joined.same [] (base b) (here V b is_b)), tt));
    };
    is = (sum_of 1 0, refl, (base b ∷ base a ∷ [], tt, (refl, refl), (refl, (refl, tt))));
  }

  -- and is joined to the sum there
  pub turned_joined : (height V [] table 1).Joins (base s) turned
  unfolding height swap
  turned_joined = Joined.given [] (base s) turned (inr (over_nodes a b, sum_here, left_stands, turned_right))

  pub turned_here : (height V [] table 1).Member turned
  unfolding height
  turned_here = inr (over_nodes a b, turned, turned_right, itself turned)
