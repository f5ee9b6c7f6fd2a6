-- The instances of a round, one after another.
use Rattle.std.specs.Prelude.{ℕ, List, [], ◌∷◌, ◌++◌}
use Rattle.std.specs.List.{AllZip}
use Rattle.std.proofs.Common.{inl, inr, sym, ◌∙◌}
use Rattle.pv_graph.specs.Graphs.{Graph, IsGraph, Extends}
use Rattle.pv_graph.proofs.Cited.{in_front, in_last, sort_there}
use Rattle.pv_pattern.specs.Patterns.{Pattern}
use Rattle.pv_heights.specs.Sides.{Match, IsSideOf}
use Rattle.pv_heights.specs.Rounds.{ClassCopy, IsChoice, IsInstanceOf}
use Rattle.pv_heights.specs.Searches.{nodes, IsNode, OneClass}
use Rattle.pv_heights.proofs.Height.{over_map}
use Rattle.pv_instances.specs.Made.{GrowsBy, KeepsDistinct}
use Rattle.pv_instances.proofs.Growing.{zip_more, node_kept}
use Rattle.pv_instances.proofs.MadeSides.{side_kept}
use Rattle.pv_instances.proofs.Cited.{nothing_new, grows_both}
use Rattle.pv_witness.specs.Witnesses.{IsCopied}
use Rattle.pv_witness.proofs.Cited.{longer, copy_kept}
use Rattle.pv_rounds.specs.declared.owed.Owed.{Owed}
use Rattle.pv_rounds.specs.Owed.{IsOwed, IsOfMatch, AddsOne, IsOfRound, AddsAll}
use Rattle.pv_rounds.proofs.Witnessing.{copied_kept}
use Rattle.pv_rounds.proofs.Growing.{instance_grows}

-- ---- what stays as the graph grows

module _ (h mid new : Graph) (numbers : List ℕ) (e : Extends mid new) where
  class_copy_kept : (x s : ℕ) → ClassCopy (nodes mid) (IsNode h) (OneClass numbers) (IsNode mid) x s → ClassCopy (nodes new) (IsNode h) (OneClass numbers) (IsNode new) x s
  class_copy_kept x s c = record { thing = c.thing; is = c.is; joins = c.joins; copy = copy_kept h mid new numbers e (longer mid new e) s c.thing c.copy }

  choice_kept : (m n : Match ℕ) → IsChoice (nodes mid) (IsNode h) (OneClass numbers) (IsNode mid) m n → IsChoice (nodes new) (IsNode h) (OneClass numbers) (IsNode new) m n
  choice_kept m n c = over_map (ClassCopy (nodes mid) (IsNode h) (OneClass numbers) (IsNode mid)) (ClassCopy (nodes new) (IsNode h) (OneClass numbers) (IsNode new)) class_copy_kept m n c

  side_of_kept : (m : Match ℕ) (p : Pattern) (n : ℕ) → IsSideOf (nodes mid) (IsNode mid) m p n → IsSideOf (nodes new) (IsNode new) m p n
  side_of_kept m p n s = (s.0, s.1, side_kept mid new e m s.0 n s.2)

  instance_of_kept : (m : Match ℕ) (a b : ℕ) → IsInstanceOf (nodes mid) (IsNode h) (OneClass numbers) (IsNode mid) m a b → IsInstanceOf (nodes new) (IsNode h) (OneClass numbers) (IsNode new) m a b
  instance_of_kept m a b i = record {
    chosen = i.chosen;
    is_chosen = choice_kept m i.chosen i.is_chosen;
    left = side_of_kept i.chosen m.entry.left a i.left;
    right = side_of_kept i.chosen m.entry.right b i.right;
  }

  part_stays : (m : Match ℕ) (n : ℕ) → IsOfMatch h mid numbers m n → IsOfMatch h new numbers m n
  part_stays m n p = record {
    chosen = p.chosen;
    is_chosen = choice_kept m p.chosen p.is_chosen;
    whole = p.whole;
    is_whole = p.is_whole;
    inner = p.inner;
    is_inner = p.is_inner;
    is = side_kept mid new e p.chosen p.inner n p.is;
  }

  round_stays : (ms : List (Match ℕ)) (n : ℕ) → IsOfRound h mid numbers ms n → IsOfRound h new numbers ms n
  round_stays ms n (inl p) = inl (p.0, p.1, part_stays p.0 n p.2)
  round_stays ms n (inr c) = inr (copied_kept h mid new numbers e n c)

  owed_kept : IsGraph mid → (assumed : List ℕ) (m : Match ℕ) (o : Owed) → IsOwed h mid numbers assumed m o → IsOwed h new numbers assumed m o
  owed_kept is assumed m o w = record {
    instance_ = instance_of_kept m o.left o.right w.instance_;
    sides = instance_grows mid new is e assumed o.axiom o.subst.items o.left o.right w.within w.sides;
    within = λ k i. node_kept mid new e k (w.within k i);
    one_sort = (let s = sort_there mid is o.left w.left in e.sorts o.left s.0 s.1 ∙ sym (e.sorts o.right s.0 (sym w.one_sort ∙ s.1)));
    left = node_kept mid new e o.left w.left;
    right = node_kept mid new e o.right w.right;
  }

-- ---- one match more

pub zip_push : {A B : Type 0} (R : A → B → Type 0) (xs : List A) (ys : List B) (x : A) (y : B) → AllZip R xs ys → R x y → AllZip R (xs ++ x ∷ []) (ys ++ y ∷ [])
zip_push R [] [] x y z r = (r, tt)
zip_push R [] (b ∷ ys) x y z r = absurd z
zip_push R (a ∷ xs) [] x y z r = absurd z
zip_push R (a ∷ xs) (b ∷ ys) x y z r = (z.0, zip_push R xs ys x y z.1 r)

pub adds_none : (h g : Graph) (numbers assumed : List ℕ) → AddsAll h g g numbers assumed [] []
adds_none h g numbers assumed = record { grows = nothing_new g (IsOfRound h g numbers []); distinct = λ d. d; joins = tt }

pub adds_more : (h old mid new : Graph) (numbers assumed : List ℕ) (ms : List (Match ℕ)) (owed : List Owed) (m : Match ℕ) (o : Owed) → IsGraph mid → AddsAll h old mid numbers assumed ms owed → AddsOne h mid new numbers assumed m o
    → AddsAll h old new numbers assumed (ms ++ m ∷ []) (owed ++ o ∷ [])
adds_more h old mid new numbers assumed ms owed m o is all one = record {
  grows = grows_both old mid new (IsOfRound h mid numbers ms) (IsOfMatch h new numbers m) (IsOfRound h new numbers (ms ++ m ∷ [])) all.grows one.grows (λ n p. among n (round_stays h mid new numbers one.grows.extends_ ms n p)) (λ n p. inl (m, in_last ms m, p));
  distinct = λ d. one.distinct (all.distinct d);
  joins = zip_push (IsOwed h new numbers assumed) ms owed m o (zip_more (IsOwed h mid numbers assumed) (IsOwed h new numbers assumed) ms owed (owed_kept h mid new numbers one.grows.extends_ is assumed) all.joins) one.is;
}
  where
    among : (n : ℕ) → IsOfRound h new numbers ms n → IsOfRound h new numbers (ms ++ m ∷ []) n
    among n (inl p) = inl (p.0, in_front ms m p.0 p.1, p.2)
    among n (inr c) = inr c

-- ---- the round of some matches, after the copies that it needs

pub adds_after : (h old mid new : Graph) (numbers assumed : List ℕ) (ms : List (Match ℕ)) (owed : List Owed) → GrowsBy old mid (IsCopied h mid numbers) → KeepsDistinct old mid → AddsAll h mid new numbers assumed ms owed
    → AddsAll h old new numbers assumed ms owed
adds_after h old mid new numbers assumed ms owed g d all = record {
  grows = grows_both old mid new (IsCopied h mid numbers) (IsOfRound h new numbers ms) (IsOfRound h new numbers ms) g all.grows (λ n c. inr (copied_kept h mid new numbers all.grows.extends_ n c)) (λ n p. p);
  distinct = λ x. all.distinct (d x);
  joins = all.joins;
}
