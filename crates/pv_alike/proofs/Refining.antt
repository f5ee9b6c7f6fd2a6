-- The passes: from one class of all thetas to a pass that parts none.
use Rattle.std.specs.Prelude.{◌≡◌, ◌⊎◌, ℕ, zero, suc, ◌≤◌, List, replicate, refl}
use Rattle.std.proofs.Common.{inl, inr, sym, ap, ◌∙◌, arith}
use Rattle.pv_graph.specs.declared.node.Node.{Node}
use Rattle.pv_graph.specs.Graphs.{form_at}
use Rattle.pv_alike.specs.Partition.{IsPass, IsFiner, IsLast, Classes, one, more}
use Rattle.pv_alike.specs.Algorithm.{IsNumbered, IsDense}
use Rattle.pv_alike.specs.BottomUp.{IsBottomUp}
use Rattle.pv_alike.specs.Keys.{number_at}
use Rattle.pv_alike.proofs.Passes.{no_more_classes}
use Rattle.pv_alike.proofs.Upward.{rank_in, rank_falls}

-- the classes after some passes, and how many there are; before the first pass none has been counted
pub record IsRefining (g : List Node) (class : ℕ → ℕ) (count : ℕ) : Type 0 where
  pub classes : Classes (form_at g) class
  pub dense : (count ≡ 0) ⊎ IsDense (form_at g) class count

zero_at : (count n : ℕ) → number_at (replicate count 0) n ≡ 0
zero_at zero n = refl
zero_at (suc count) zero = refl
zero_at (suc count) (suc n) = zero_at count n

pub refining_none : (g : List Node) (count : ℕ) (classes : List ℕ) → classes ≡ replicate count 0 → IsRefining g (number_at classes) 0
refining_none g count classes e = record {
  classes = one (number_at classes) (λ a b o p ks ls x y. at a ∙ sym (at b));
  dense = inl refl;
}
  where
    at : (n : ℕ) → number_at classes n ≡ 0
    at n = ap (λ (xs : List ℕ). number_at xs n) e ∙ zero_at count n

module _ (g : List Node) (class number next : ℕ → ℕ) (count found : ℕ) (is : IsRefining g class count) (pass : IsPass (form_at g) class number) (finer : IsFiner (form_at g) class number next) (dense : IsDense (form_at g) next found) where
  pub refining_more : IsRefining g next found
  refining_more = record { classes = more class number next is.classes pass finer; dense = inr dense }

  last_pass : found ≤ count → IsLast (form_at g) class next
  last_pass le = elim is.dense [
    | inl none ↦ λ a b o p ks ls x y same. absurd (let z = dense.low a o ks x in omega arith)
    | inr old ↦ no_more_classes (form_at g) class number next count found old dense finer le
  ]

  pub refining_end : (order : List ℕ) → IsBottomUp g order → found ≤ count → IsNumbered g number
  refining_end order up le = record {
    rank = rank_in g order up;
    falls = rank_falls g order up;
    class = class;
    next = next;
    passes = is.classes;
    pass = pass;
    finer = finer;
    last = last_pass le;
  }
