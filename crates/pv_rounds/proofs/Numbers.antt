-- Class numbers, as those of classes that grow and are joined.
use Rattle.std.specs.Prelude.{◌≡◌, ◌⊎◌, ℕ, ◌<◌, ◌≤◌, List, length, Some}
use Rattle.std.proofs.Common.{inl, inr, sym, ap, ◌∙◌, arith}
use Rattle.std.proofs.lemmas.Option.{slice_get_within, slice_get-get_or, same_Some}
use Rattle.pv_graph.specs.declared.node.Node.{Node}
use Rattle.pv_classes.specs.Partition.{at, AreOne}
use Rattle.pv_classes.specs.Calls.{Classes, Grows}
use Rattle.pv_heights.specs.Searches.{OneClass}

-- nodes of one class have equal numbers
pub one_of : (numbers : List ℕ) (a b : ℕ) → OneClass numbers a b → (a < length numbers) × (b < length numbers) × AreOne numbers a b
one_of numbers a b (c, p, q) =
    let la = slice_get_within numbers a c p in
    let lb = slice_get_within numbers b c q in
    (la, lb, same_Some (at numbers a) c (sym (slice_get-get_or numbers a 0 la) ∙ p) ∙ sym (same_Some (at numbers b) c (sym (slice_get-get_or numbers b 0 lb) ∙ q)))

pub of_one : (numbers : List ℕ) (a b : ℕ) → a < length numbers → b < length numbers → AreOne numbers a b → OneClass numbers a b
of_one numbers a b la lb e = (at numbers b, slice_get-get_or numbers a 0 la ∙ ap Some e, slice_get-get_or numbers b 0 lb)

pub one_flip : (numbers : List ℕ) (a b : ℕ) → OneClass numbers b a → OneClass numbers a b
one_flip numbers a b (c, p, q) = (c, q, p)

pub one_chain : (numbers : List ℕ) (a b d : ℕ) → OneClass numbers a b → OneClass numbers b d → OneClass numbers a d
one_chain numbers a b d (c, p, q) (e, r, s) = (c, p, s ∙ sym r ∙ q)

-- ---- classes that took up new nodes

module _ (nodes : List Node) (old new : Classes) (g : Grows nodes old new) (few : length old.numbers ≤ length nodes) where
  old_or_new : (n : ℕ) → (n < length old.numbers) ⊎ (length old.numbers ≤ n)
  old_or_new n = grind arith

  pub grown_one : (a b : ℕ) → OneClass old.numbers a b → OneClass new.numbers a b
  grown_one a b o =
      let x = one_of old.numbers a b o in
      let l = g.long in
      of_one new.numbers a b (omega (arith, x.0, few, l)) (omega (arith, x.1, few, l)) (g.kept a x.0 ∙ x.2 ∙ sym (g.kept b x.1))

  -- a number of an old node is that of an old node
  module _ (low : (k : ℕ) → k < length old.numbers → at old.numbers k ≤ k) where
    pub one_grown : (a b : ℕ) → OneClass new.numbers a b → OneClass old.numbers a b ⊎ ((a ≡ b) × (a < length nodes))
    one_grown a b o =
        let x = one_of new.numbers a b o in
        let l = g.long in
        let la : a < length nodes = omega (arith, x.0, l) in
        let lb : b < length nodes = omega (arith, x.1, l) in
        which la lb x.2 (old_or_new a) (old_or_new b)
      where
        which : a < length nodes → b < length nodes → AreOne new.numbers a b → (a < length old.numbers) ⊎ (length old.numbers ≤ a) → (b < length old.numbers) ⊎ (length old.numbers ≤ b) → OneClass old.numbers a b ⊎ ((a ≡ b) × (a < length nodes))
        which la lb e (inl p) (inl q) = inl (of_one old.numbers a b p q (sym (g.kept a p) ∙ e ∙ g.kept b q))
        which la lb e (inl p) (inr q) = absurd (let z = low a p in let y : at old.numbers a ≡ b = sym (g.kept a p) ∙ e ∙ g.own b q lb in omega (arith, z, y, p, q))
        which la lb e (inr p) (inl q) = absurd (let z = low b q in let y : at old.numbers b ≡ a = sym (g.kept b q) ∙ sym e ∙ g.own a p la in omega (arith, z, y, p, q))
        which la lb e (inr p) (inr q) = inr (sym (g.own a p la) ∙ e ∙ g.own b q lb, la)
