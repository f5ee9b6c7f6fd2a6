-- The nodes with class numbers are a graph, from which the whole one grew.
use Rattle.std.specs.Prelude.{◌≡◌, ◌⊎◌, ℕ, zero, suc, ◌<◌, ◌≤◌, false, List, [], ◌∷◌, length, take, Some, slice_get, refl}
use Rattle.std.proofs.Common.{inl, inr, sym, ap, ◌∙◌, arith, true≢false}
use Rattle.std.proofs.lemmas.List.{length-take-le}
use Rattle.std.proofs.lemmas.Option.{slice_get_within, same_Some}
use Rattle.pv_graph.specs.declared.node.Node.{Node}
use Rattle.pv_graph.specs.declared.node.OpSort.{OpSort}
use Rattle.pv_graph.specs.Ops.{HaveSorts, HasSort}
use Rattle.pv_graph.specs.Walks.{In}
use Rattle.pv_graph.specs.Graphs.{Graph, IsGraph, Extends}
use Rattle.pv_graph.specs.declared.node.Op.{Op}
use Rattle.pv_graph.specs.Forms.{form}
use Rattle.pv_graph.proofs.Cited.{tied, node_at, form_there}
use Rattle.pv_marks.specs.Parents.{NodeLists, AreFirstNumbered, AreParents}
use Rattle.pv_witness.specs.Numbered.{AreNumbered, numbered}

-- ---- the first elements of a list

pub get_first : {A : Type 0} (k : ℕ) (xs : List A) (n : ℕ) → n < k → slice_get (take k xs) n ≡ slice_get xs n
get_first zero xs n lt = absurd (omega arith)
get_first (suc k) [] n lt = refl
get_first (suc k) (x ∷ xs) zero lt = refl
get_first (suc k) (x ∷ xs) (suc n) lt = get_first k xs n (omega arith)

pub of_first : {A : Type 0} (k : ℕ) (xs : List A) (n : ℕ) (x : A) → slice_get (take k xs) n ≡ Some x → slice_get xs n ≡ Some x
of_first zero xs n x e = absurd (cc)
of_first (suc k) [] n x e = absurd (cc)
of_first (suc k) (y ∷ xs) zero x e = e
of_first (suc k) (y ∷ xs) (suc n) x e = of_first k xs n x e

-- ---- the graph

module _ (g : Graph) (numbers : List ℕ) (is : AreNumbered g numbers) where
  pub numbered_long : length (numbered g numbers).nodes ≡ length numbers
  numbered_long = length-take-le (length numbers) g.nodes is.few

  pub numbered_node : (n : ℕ) (node : Node) → n < length numbers → slice_get g.nodes n ≡ Some node → slice_get (numbered g numbers).nodes n ≡ Some node
  numbered_node n node lt e = get_first (length numbers) g.nodes n lt ∙ e

-- those listed of the whole graph are those of its first nodes
pub numbered_parents : (g : Graph) (numbers : List ℕ) (lists : NodeLists) → AreParents g numbers (length numbers) lists → AreParents (numbered g numbers) numbers (length numbers) lists
numbered_parents g numbers lists is = record {
  has = λ n o ks lt there c m.
      let node = node_at (numbered g numbers).nodes n o ks there in
      let form_is = form_there g.nodes n node.0 (of_first (length numbers) g.nodes n node.0 node.1) in
      is.has n o ks lt (form_is ∙ ap (λ (p : Op). Some (form p node.0.kids)) node.2 ∙ ap (λ (zs : List ℕ). Some (form o zs)) node.3) c m;
  within = is.within;
}

pub numbered_extends : (g : Graph) (numbers : List ℕ) → Extends (numbered g numbers) g
numbered_extends g numbers = record { nodes = λ n node e. of_first (length numbers) g.nodes n node e; sorts = λ n s e. of_first (length numbers) g.sorts n s e }

first_sorts : (all : List OpSort) (k : ℕ) (ks : List ℕ) (ss : List OpSort) → ((j : ℕ) → In ks j → j < k) → HaveSorts all ks ss → HaveSorts (take k all) ks ss
first_sorts all k [] [] low z = tt
first_sorts all k [] (s ∷ ss) low z = absurd z
first_sorts all k (j ∷ ks) [] low z = absurd z
first_sorts all k (j ∷ ks) (s ∷ ss) low z = (get_first k all j (low j (inl refl)) ∙ z.0, first_sorts all k ks ss (λ i h. low i (inr h)) z.1)

module _ (g : Graph) (numbers : List ℕ) (is_graph : IsGraph g) (sealed : g.is_open ≡ false) (is : AreNumbered g numbers) where
  -- the kids of these nodes are among them
  pub kids_numbered_too : (n j : ℕ) (node : Node) → n < length numbers → slice_get g.nodes n ≡ Some node → In node.kids j → j < length numbers
  kids_numbered_too n j node lt e i = elim (low_or_high n g.base) [
    | inl low ↦ (let z = is_graph.early n j node e low i in let y = is.base in omega (arith, z, y))
    | inr high ↦ (let z = is_graph.late n j node e high i in omega (arith, z, lt))
  ]
    where
      low_or_high : (a b : ℕ) → (a < b) ⊎ (b ≤ a)
      low_or_high a b = grind arith

  -- what is asked of the first nodes where those with a kid in a class are listed
  pub first_numbered : AreFirstNumbered g numbers
  first_numbered = record { few = is.few; within = is.within; kids = λ n k node lt e i. kids_numbered_too n k node lt e i }

  pub numbered_graph : IsGraph (numbered g numbers)
  numbered_graph = record {
    long = length-take-le (length numbers) g.sorts (let z = is_graph.long in let y = is.few in omega (arith, z, y)) ∙ sym (numbered_long g numbers is);
    base = (let y = is.base in let x = numbered_long g numbers is in omega (arith, y, x));
    open_ = λ o. absurd (true≢false (sym o ∙ sealed));
    sorted = λ n node s e at_. inl (sorted_first n node s e at_);
    early = λ n j node e low i. is_graph.early n j node (of_first (length numbers) g.nodes n node e) low i;
    late = λ n j node e high i. is_graph.late n j node (of_first (length numbers) g.nodes n node e) high i;
    ranged = λ n node e. is_graph.ranged n node (of_first (length numbers) g.nodes n node e);
    variables = λ n node e high. is_graph.variables n node (of_first (length numbers) g.nodes n node e) high;
  }
    where
      sorted_first : (n : ℕ) (node : Node) (s : OpSort) → slice_get (numbered g numbers).nodes n ≡ Some node → slice_get (numbered g numbers).sorts n ≡ Some s → HasSort (numbered g numbers).sorts node.op node.kids s
      sorted_first n node s e at_ =
          let there = of_first (length numbers) g.nodes n node e in
          let lt : n < length numbers = (let z = slice_get_within (numbered g numbers).nodes n node e in let x = numbered_long g numbers is in omega (arith, z, x)) in
          let h = tied g sealed node s (is_graph.sorted n node s there (of_first (length numbers) g.sorts n s at_)) in
          record { sorts = h.sorts; kids_have = first_sorts g.sorts (length numbers) node.kids h.sorts (λ j i. kids_numbered_too n j node lt there i) h.kids_have; over = h.over }

-- a graph that grew from one whose nodes have these numbers still has its nodes
pub first_is : {A : Type 0} (xs ys : List A) → ((n : ℕ) (x : A) → slice_get xs n ≡ Some x → slice_get ys n ≡ Some x) → take (length xs) ys ≡ xs
first_is [] ys h = refl
first_is (x ∷ xs) [] h = absurd (let z = h 0 x refl in cc)
first_is (x ∷ xs) (y ∷ ys) h =
    let one : y ≡ x = same_Some y x (h 0 x refl) in
    let others : take (length xs) ys ≡ xs = first_is xs ys (λ n z e. h (suc n) z e) in
    cc (one, others)

-- the first elements of a list stay where it grows
take_kept : {A : Type 0} (k : ℕ) (xs ys : List A) → k ≤ length xs → ((n : ℕ) (x : A) → slice_get xs n ≡ Some x → slice_get ys n ≡ Some x) → take k ys ≡ take k xs
take_kept zero xs ys le h = refl
take_kept (suc k) [] ys le h = absurd (omega arith)
take_kept (suc k) (x ∷ xs) [] le h = absurd (let z = h 0 x refl in cc)
take_kept (suc k) (x ∷ xs) (y ∷ ys) le h =
    let one : y ≡ x = same_Some y x (h 0 x refl) in
    let others : take k ys ≡ take k xs = take_kept k xs ys (omega arith) (λ n z e. h (suc n) z e) in
    cc (one, others)

-- so the nodes with class numbers are the same graph whatever was added since
pub numbered_stays : (old new : Graph) (numbers : List ℕ) → IsGraph old → AreNumbered old numbers → Extends old new → new.base ≡ old.base → new.is_open ≡ old.is_open → numbered new numbers ≡ numbered old numbers
numbered_stays old new numbers is_graph is e base sealed =
    let ns : take (length numbers) new.nodes ≡ take (length numbers) old.nodes = take_kept (length numbers) old.nodes new.nodes is.few e.nodes in
    let ss : take (length numbers) new.sorts ≡ take (length numbers) old.sorts = take_kept (length numbers) old.sorts new.sorts (let z = is_graph.long in let y = is.few in omega (arith, z, y)) e.sorts in
    cc (ns, ss, base, sealed)

-- .. and they still have their numbers
pub numbered_still : (old new : Graph) (numbers : List ℕ) → AreNumbered old numbers → length old.nodes ≤ length new.nodes → new.base ≡ old.base → AreNumbered new numbers
numbered_still old new numbers is longer base = record { few = (let z = is.few in omega (arith, z, longer)); base = (let z = is.base in omega (arith, z, base)); within = is.within }
