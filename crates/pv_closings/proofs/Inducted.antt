-- The classes that `induct` leaves.
use Rattle.std.proofs.Common.{◌≡◌, ℕ, suc, ◌<◌, Bool, true, false, nat_le, List, [], Option, Some, None, length, sym, ◌∙◌, subst, if◌then◌else◌}
use Rattle.pv_graph.specs.Forms.{Form, form}
use Rattle.pv_graph.specs.Graphs.{Graph, form_at}
use Rattle.pv_classes.specs.Calls.{Classes, IsNew}
use Rattle.pv_induct.specs.Inducts.{Inducts}
use Rattle.pv_induct.specs.Inducts as inducts
use Rattle.pv_heights.specs.Systems.{Joined, same, flip, chain, kids}
use Rattle.pv_heights.specs.Heights.{Nothing, IsBase}
use Rattle.pv_heights.specs.SameClasses.{IsCongruence}
use Rattle.pv_heights.specs.Searches.{nodes, IsNode, OneClass, AreJoined, base_view}
use Rattle.pv_heights.proofs.Cited.{close-close, joined-more}
use Rattle.pv_heights.proofs.Nodes.{base_is_node}
use Rattle.pv_heights.proofs.Zips.{zip_get, zip_length}
use Rattle.pv_closings.proofs.Same.{joined_there, joined_back, one_there, one_back}

pub induct_joins : (h : Graph) (old new : Classes) (found : Bool) → Inducts h.nodes old new found → AreJoined h (OneClass old.numbers) new.numbers
induct_joins h old new found i = record {
  sound = λ a b o. joined_there h [] (inducts.OneClass old.numbers) (OneClass old.numbers) (one_there old.numbers) [] a b (i.sound a b (one_back new.numbers a b o));
  full = λ a b j. one_there new.numbers a b (i.full a b (joined_back h [] (OneClass old.numbers) (inducts.OneClass old.numbers) (one_back old.numbers) [] a b j));
}

-- ---- new classes

-- two nodes of one new class are one node
own_class : (h : Graph) (old : Classes) → IsNew h.nodes old → (a b : ℕ) → OneClass old.numbers a b → (a < length h.nodes) × (a ≡ b)
own_class h old n a b o =
    let z = one_back old.numbers a b o in
    let low = subst (λ l. a < l) n.long z.0 in
    (low, sym (n.own a low) ∙ z.2 ∙ n.own b (subst (λ l. b < l) n.long z.1))

pub first_joins : (h : Graph) (old new : Classes) (found : Bool) → IsNew h.nodes old → Inducts h.nodes old new found → AreJoined h Nothing new.numbers
first_joins h old new found n i =
    let j = induct_joins h old new found i in
    record {
      sound = λ a b o. close-close (nodes h) (IsNode h) [] (OneClass old.numbers) Nothing itself a b (j.sound a b o);
      full = λ a b k. j.full a b (joined-more (nodes h) (IsNode h) [] Nothing (OneClass old.numbers) (λ x y z. absurd z) [] a b k);
    }
  where
    itself : (a b : ℕ) → OneClass old.numbers a b → Joined (nodes h) (IsNode h) [] Nothing [] a b
    itself a b o = let z = own_class h old n a b o in subst (λ c. Joined (nodes h) (IsNode h) [] Nothing [] a c) z.1 (same [] a z.0)

-- ---- a congruence

base_node : (h : Graph) (n : ℕ) → IsBase (base_view h) n → IsNode h n
base_node h n (o, ks, e) = base_is_node h n (o, ks, inside (nat_le (suc n) h.base) (form_at h.nodes n) e)
  where
    inside : (b : Bool) (f : Option (Form ℕ)) → (if b then f else None) ≡ Some (form o ks) → f ≡ Some (form o ks)
    inside true f e = e
    inside false f e = absurd (cc)

-- what is joined, whatever is given, is a congruence
pub joined_congruence : (h : Graph) (Given : ℕ → ℕ → Type 0) (numbers : List ℕ) → AreJoined h Given numbers → IsCongruence (base_view h) (nodes h) (IsNode h) (OneClass numbers)
joined_congruence h Given numbers j = record {
  nodes = base_node h;
  same = λ a n. j.full a a (same [] a n);
  flip = λ a b o. j.full a b (flip [] a b (j.sound b a o));
  chain = λ a b c o p. j.full a c (chain [] a b c (j.sound a b o) (j.sound b c p));
  kids = λ a b o ks ls m n f g z.
      j.full a b (kids [] a b o ks ls m n f g (λ d l x. x) (zip_length (OneClass numbers) ks ls z) (λ i k l e d. j.sound k l (zip_get (OneClass numbers) ks ls z i k l e d)));
}

pub induct_congruence : (h : Graph) (old new : Classes) (found : Bool) → Inducts h.nodes old new found → IsCongruence (base_view h) (nodes h) (IsNode h) (OneClass new.numbers)
induct_congruence h old new found i = joined_congruence h (OneClass old.numbers) new.numbers (induct_joins h old new found i)
