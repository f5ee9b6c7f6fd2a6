-- Class numbers as classes of nodes, and what a look-up finds over them.
use Rattle.std.proofs.Common.{◌≡◌, ℕ, ◌<◌, ◌≤◌, List, [], ◌∷◌, length, get_or, Option, Some, None, slice_get, sym, ap, ◌∙◌, subst, arith}
use Rattle.std.specs.List.{AllByRecursion, AllZip}
use Rattle.std.proofs.lemmas.Option.{slice_get_within, slice_get-get_or, get_or_from_slice_get}
use Rattle.std.proofs.lemmas.List.Elements.{recursion_from_All, Contains-get_or}
use Rattle.pv_graph.specs.declared.node.Op.{Op}
use Rattle.pv_graph.specs.declared.node.Node.{Node}
use Rattle.pv_graph.specs.Graphs.{Graph}
use Rattle.pv_graph.specs.Nodes.{node_of}
use Rattle.pv_graph.proofs.Cited.{node_at, form_there}
use Rattle.pv_classes.specs.Partition.{at, AreOne}
use Rattle.pv_classes.specs.Forms.{IsClassWith}
use Rattle.pv_classes.specs.Calls.{Classes, IsClasses, Knows}
use Rattle.pv_heights.specs.Searches.{IsNode, OneClass}
use Rattle.pv_heights.proofs.Zips.{zip_map}
use Rattle.pv_standing.specs.Parts.{IsClassOver}

module _ (g : Graph) (c : Classes) (knows : Knows g.nodes c) where
  abbrev J : ℕ → ℕ → Type 0
  J = OneClass c.numbers

  numbered : (n : ℕ) → IsNode g n → n < length c.numbers
  numbered n l = subst (λ (k : ℕ). n < k) (sym knows.long) l

  -- nodes with one number are in one class, and the other way round
  pub one_class : (a b : ℕ) → IsNode g a → IsNode g b → AreOne c.numbers a b → J a b
  one_class a b k l e = (at c.numbers a, slice_get-get_or c.numbers a 0 (numbered a k), slice_get-get_or c.numbers b 0 (numbered b l) ∙ ap Some (sym e))

  pub one_number : (a b : ℕ) → J a b → AreOne c.numbers a b
  one_number a b j = get_or_from_slice_get c.numbers a j.0 0 j.1 ∙ sym (get_or_from_slice_get c.numbers b j.0 0 j.2)

  zip_classes : (ks ls : List ℕ) → AllByRecursion (IsNode g) ks → AllByRecursion (IsNode g) ls → AllZip (AreOne c.numbers) ks ls → AllZip J ks ls
  zip_classes [] [] k l z = tt
  zip_classes [] (b ∷ ls) k l z = absurd z
  zip_classes (a ∷ ks) [] k l z = absurd z
  zip_classes (a ∷ ks) (b ∷ ls) k l z = (one_class a b k.0 l.0 z.0, zip_classes ks ls k.1 l.1 z.1)

  kids_are : (n : ℕ) (node : Node) → slice_get g.nodes n ≡ Some node → AllByRecursion (IsNode g) node.kids
  kids_are n node there = recursion_from_All (IsNode g) node.kids (λ k d l. knows.index.kids n (get_or node.kids k d) node there (Contains-get_or node.kids k d l))

  -- what is found by numbers, of classes: the number of a class is one of its nodes
  pub class_found : (o : Op) (over : List ℕ) → IsClasses c → AllByRecursion (IsNode g) over → (found : Option ℕ) → IsClassWith g.nodes c.numbers o over found → IsClassOver g c.numbers o over found
  class_found o over is all (Some t) (n, h, e) =
      let l : IsNode g n = slice_get_within g.nodes n (node_of o h.kids) h.is in
      let low : at c.numbers n ≤ n = is.low n (numbered n l) in
      let k : IsNode g t = omega (arith, l, low, e) in
      let one : AreOne c.numbers n t = sym (is.least n (numbered n l)) ∙ ap (at c.numbers) e in
      (k, (h.kids, record { thing = n; is = l; joins = one_class n t l k one; has = form_there g.nodes n (node_of o h.kids) h.is }, zip_classes h.kids over (kids_are n (node_of o h.kids) h.is) all h.one))
  class_found o over is all None none = λ t h.
      let node = node_at g.nodes h.1.thing o h.0 h.1.has in
      let there : slice_get g.nodes h.1.thing ≡ Some (node_of o h.0) = node.1 ∙ (ap (λ (p : Op). Some (node_of p node.0.kids)) node.2 ∙ ap (λ (ks : List ℕ). Some (node_of o ks)) node.3) in
      none h.1.thing (record { kids = h.0; is = there; one = zip_map J (AreOne c.numbers) one_number h.0 over h.2 })
