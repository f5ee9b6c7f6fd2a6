-- A round: its graph, its joins, and how far the search is after it.
use Rattle.std.specs.Prelude.{◌≡◌, ◌⊎◌, ℕ, suc, ◌<◌, ◌≤◌, false, List, [], ◌∷◌, length, take, slice_get, refl}
use Rattle.std.specs.List.{AllZip}
use Rattle.std.proofs.Common.{inl, inr, sym, ap, ◌∙◌, subst, arith}
use Rattle.pv_graph.specs.declared.node.Node.{Node}
use Rattle.pv_graph.specs.Walks.{In}
use Rattle.pv_graph.specs.Graphs.{Graph, form_at, IsGraph, Extends}
use Rattle.pv_graph.proofs.Cited.{sort_there}
use Rattle.pv_pattern.specs.Patterns.{Axiom}
use Rattle.pv_pattern.specs.Binding.{BindsItsNames}
use Rattle.pv_classes.specs.Partition.{at}
use Rattle.pv_classes.specs.Calls.{Classes, Grows}
use Rattle.pv_heights.specs.Systems.{Joined}
use Rattle.pv_heights.specs.Systems as joined
use Rattle.pv_heights.specs.Sides.{Match}
use Rattle.pv_heights.specs.Rounds.{Copy, IsInstanceOf, IsMadePart}
use Rattle.pv_heights.specs.Searches.{nodes, IsNode, OneClass, Joining, AreJoined, AreAllAt, IsRound, Reached}
use Rattle.pv_heights.proofs.Cited.{round_reached, graph_whole, joined-more}
use Rattle.pv_instances.specs.Classes.{JoinedHaveOneSort}
use Rattle.pv_instances.proofs.ClassSorts.{closing_keeps_sorts}
use Rattle.pv_witness.specs.Numbered.{numbered}
use Rattle.pv_witness.proofs.Cited.{first_is}
use Rattle.pv_rounds.specs.declared.owed.Owed.{Owed}
use Rattle.pv_rounds.specs.Known.{StandsAt}
use Rattle.pv_rounds.specs.Owed.{IsOwed, AddsAll}
use Rattle.pv_rounds.specs.Joining.{pair_of, pairs_of, Linked, given, flip, chain, JoinsAll}
use Rattle.pv_rounds.proofs.Numbers.{grown_one, one_grown}

-- ---- lists place by place

pub zip_first : {A B : Type 0} (R : A → B → Type 0) (xs : List A) (ys : List B) → AllZip R xs ys → (x : A) → In xs x → (y : B) × In ys y × R x y
zip_first R [] ys z x i = absurd i
zip_first R (a ∷ xs) [] z x i = absurd z
zip_first R (a ∷ xs) (b ∷ ys) z x (inl e) = (b, inl refl, subst (λ v. R v b) e z.0)
zip_first R (a ∷ xs) (b ∷ ys) z x (inr i) = let r = zip_first R xs ys z.1 x i in (r.0, inr r.1, r.2)

pub zip_second : {A B : Type 0} (R : A → B → Type 0) (xs : List A) (ys : List B) → AllZip R xs ys → (y : B) → In ys y → (x : A) × In xs x × R x y
zip_second R [] [] z y i = absurd i
zip_second R [] (b ∷ ys) z y i = absurd z
zip_second R (a ∷ xs) [] z y i = absurd z
zip_second R (a ∷ xs) (b ∷ ys) z y (inl e) = (a, inl refl, subst (R a) e z.0)
zip_second R (a ∷ xs) (b ∷ ys) z y (inr i) = let r = zip_second R xs ys z.1 y i in (r.0, inr r.1, r.2)

pub pair_in : (owed : List Owed) (o : Owed) → In owed o → In (pairs_of owed) (pair_of o)
pair_in [] o i = absurd i
pair_in (x ∷ xs) o (inl e) = inl (ap pair_of e)
pair_in (x ∷ xs) o (inr i) = inr (pair_in xs o i)

pair_from : (owed : List Owed) (p : ℕ × ℕ) → In (pairs_of owed) p → (o : Owed) × In owed o × (pair_of o ≡ p)
pair_from [] p i = absurd i
pair_from (x ∷ xs) p (inl e) = (x, inl refl, e)
pair_from (x ∷ xs) p (inr i) = let r = pair_from xs p i in (r.0, inr r.1, r.2)

-- all nodes have class numbers
pub all_numbered : (h : Graph) (numbers : List ℕ) → length numbers ≡ length h.nodes → (numbered h numbers).nodes ≡ h.nodes
all_numbered h numbers long = ap (λ (k : ℕ). take k h.nodes) long ∙ first_is h.nodes h.nodes (λ n x e. e)

module _ (g : Graph) (assumed : List ℕ) (table : List Axiom) (h i : Graph) (numbers : List ℕ) (every ms : List (Match ℕ)) (owed : List Owed) (long : length numbers ≡ length h.nodes)
    (all : AreAllAt (form_at g.nodes) assumed table h numbers every) (among : (m : Match ℕ) → In ms m → In every m) (rest : (m : Match ℕ) → In every m → StandsAt h numbers m ⊎ In ms m)
    (adds : AddsAll (numbered h numbers) h i numbers assumed ms owed) where
  same : (numbered h numbers).nodes ≡ h.nodes
  same = all_numbered h numbers long

  pub owed_here : (m : Match ℕ) (o : Owed) → IsOwed (numbered h numbers) i numbers assumed m o → IsInstanceOf (nodes i) (IsNode h) (OneClass numbers) (IsNode i) m o.left o.right
  owed_here m o w = subst (λ (ns : List Node). IsInstanceOf (nodes i) (λ n. n < length ns) (OneClass numbers) (IsNode i) m o.left o.right) same w.instance_

  part_here : (m : Match ℕ) (a : ℕ) → IsMadePart (nodes i) (IsNode (numbered h numbers)) (OneClass numbers) (IsNode i) m a → IsMadePart (nodes i) (IsNode h) (OneClass numbers) (IsNode i) m a
  part_here m a p = subst (λ (ns : List Node). IsMadePart (nodes i) (λ n. n < length ns) (OneClass numbers) (IsNode i) m a) same p

  copy_here : (a u : ℕ) → Copy (nodes i) (IsNode (numbered h numbers)) (OneClass numbers) (IsNode i) a u → Copy (nodes i) (IsNode h) (OneClass numbers) (IsNode i) a u
  copy_here a u c = subst (λ (ns : List Node). Copy (nodes i) (λ n. n < length ns) (OneClass numbers) (IsNode i) a u) same c

  old_or_new : (n k : ℕ) → (n < k) ⊎ (k ≤ n)
  old_or_new n k = grind arith

  made : (a : ℕ) → IsNode i a → (a < length h.nodes) ⊎ (length h.nodes ≤ a) → IsNode h a ⊎ ((m : Match ℕ) × In every m × IsMadePart (nodes i) (IsNode h) (OneClass numbers) (IsNode i) m a) ⊎ ((u : ℕ) × Copy (nodes i) (IsNode h) (OneClass numbers) (IsNode i) a u)
  made a lt (inl old) = inl old
  made a lt (inr new) = elim (adds.grows.news a new lt) [
    | inl p ↦ inr (inl (p.0, among p.0 p.1, part_here p.0 a p.2))
    | inr c ↦ inr (inr (c.0, copy_here a c.0 c.1))
  ]

  from : (a b : ℕ) → In (pairs_of owed) (a, b) → (m : Match ℕ) × In every m × IsInstanceOf (nodes i) (IsNode h) (OneClass numbers) (IsNode i) m a b
  from a b j =
      let p = pair_from owed (a, b) j in
      let m = zip_second (IsOwed (numbered h numbers) i numbers assumed) ms owed adds.joins p.0 p.1 in
      (m.0, among m.0 m.1, subst (λ (q : ℕ × ℕ). IsInstanceOf (nodes i) (IsNode h) (OneClass numbers) (IsNode i) m.0 q.0 q.1) p.2 (owed_here m.0 p.0 m.2))

  served : (m : Match ℕ) → StandsAt h numbers m ⊎ In ms m → StandsAt h numbers m ⊎ ((a : ℕ) × (b : ℕ) × In (pairs_of owed) (a, b) × IsInstanceOf (nodes i) (IsNode h) (OneClass numbers) (IsNode i) m a b)
  served m (inl s) = inl s
  served m (inr j) = let o = zip_first (IsOwed (numbered h numbers) i numbers assumed) ms owed adds.joins m j in inr (o.0.left, o.0.right, pair_in owed o.0 o.1, owed_here m o.0 o.2)

  pub is_round : IsRound (form_at g.nodes) assumed table h i numbers (pairs_of owed)
  is_round = record {
    list = every;
    are = all;
    joins = λ m j. served m (rest m j);
    from = from;
    made = λ a lt. made a lt (old_or_new a (length h.nodes));
  }

-- ---- joins over classes that took up the new nodes

module _ (h i : Graph) (old grown joins : Classes) (owed : List Owed) (few : length old.numbers ≤ length i.nodes) (low : (k : ℕ) → k < length old.numbers → at old.numbers k ≤ k) (grows : Grows i.nodes old grown) (all : JoinsAll grown joins owed) where
  abbrev pairs : List (ℕ × ℕ)
  pairs = pairs_of owed

  pub joined_there : (a b : ℕ) → Joining old.numbers pairs a b → OneClass joins.numbers a b
  joined_there a b (inl o) = all.joined a b (inl (grown_one i.nodes old grown grows few a b o))
  joined_there a b (inr j) = all.joined a b (inr j)

  follows : (a b : ℕ) → Linked grown.numbers pairs a b → Joined (nodes i) (IsNode i) [] (Joining old.numbers pairs) [] a b
  follows a b (given _ _ (inl o)) = elim (one_grown i.nodes old grown grows few low a b o) [
    | inl c ↦ joined.given [] a b (inl c)
    | inr e ↦ subst (λ (n : ℕ). Joined (nodes i) (IsNode i) [] (Joining old.numbers pairs) [] a n) e.0 (joined.same [] a e.1)
  ]
  follows a b (given _ _ (inr j)) = joined.given [] a b (inr j)
  follows a b (flip _ _ l) = joined.flip [] a b (follows b a l)
  follows a b (chain _ m _ l r) = joined.chain [] a m b (follows a m l) (follows m b r)

  pub joined_follows : (a b : ℕ) → OneClass joins.numbers a b → Joined (nodes i) (IsNode i) [] (Joining old.numbers pairs) [] a b
  joined_follows a b o = follows a b (all.only a b o)

  -- they have one sort
  module _ (is : IsGraph h) (long : length old.numbers ≡ length h.nodes) (e : Extends h i) (sorts : JoinedHaveOneSort h (OneClass old.numbers)) (owed_sorts : (o : Owed) → In owed o → slice_get i.sorts o.left ≡ slice_get i.sorts o.right) (one : (a b : ℕ) → OneClass old.numbers a b → (a < length old.numbers) × (b < length old.numbers)) where
    old_sorts : (a b : ℕ) → OneClass old.numbers a b → slice_get i.sorts a ≡ slice_get i.sorts b
    old_sorts a b o =
        let x = one a b o in
        let s = sort_there h is a (omega (arith, x.0, long)) in
        e.sorts a s.0 s.1 ∙ sym (e.sorts b s.0 (sym (sorts a b o) ∙ s.1))

    linked_sorts : (a b : ℕ) → Linked grown.numbers pairs a b → slice_get i.sorts a ≡ slice_get i.sorts b
    linked_sorts a b (given _ _ (inl o)) = elim (one_grown i.nodes old grown grows few low a b o) [ inl c ↦ old_sorts a b c | inr q ↦ ap (slice_get i.sorts) q.0 ]
    linked_sorts a b (given _ _ (inr j)) = (let p = pair_from owed (a, b) j in subst (λ (q : ℕ × ℕ). slice_get i.sorts q.0 ≡ slice_get i.sorts q.1) p.2 (owed_sorts p.0 p.1))
    linked_sorts a b (flip _ _ l) = sym (linked_sorts b a l)
    linked_sorts a b (chain _ m _ l r) = linked_sorts a m l ∙ linked_sorts m b r

    module _ (ii : IsGraph i) (sealed : i.is_open ≡ false) (after : List ℕ) (closed : AreJoined i (OneClass joins.numbers) after) where
      one_or_none : (a b : ℕ) → Joining joins.numbers [] a b → OneClass joins.numbers a b
      one_or_none a b (inl o) = o
      one_or_none a b (inr j) = absurd j

      pub sorts_after : JoinedHaveOneSort i (OneClass after)
      sorts_after = closing_keeps_sorts i joins.numbers after [] ii sealed (λ a b j. linked_sorts a b (all.only a b (one_or_none a b j))) (record {
        sound = λ a b o. joined-more (nodes i) (IsNode i) [] (OneClass joins.numbers) (Joining joins.numbers []) (λ x y c. inl c) [] a b (closed.sound a b o);
        full = λ a b j. closed.full a b (joined-more (nodes i) (IsNode i) [] (Joining joins.numbers []) (OneClass joins.numbers) one_or_none [] a b j);
      })

-- ---- how far the search is

module _ (g : Graph) (assumed : List ℕ) (table : List Axiom) (binds : (e : Axiom) → In table e → BindsItsNames e) (k : ℕ) (h i : Graph) (old grown joins : Classes) (after : List ℕ) (every ms : List (Match ℕ)) (owed : List Owed) (ig : IsGraph g) (ii : IsGraph i) (e : Extends h i)
    (long : length old.numbers ≡ length h.nodes) (few : length old.numbers ≤ length i.nodes) (low : (n : ℕ) → n < length old.numbers → at old.numbers n ≤ n)
    (all : AreAllAt (form_at g.nodes) assumed table h old.numbers every) (among : (m : Match ℕ) → In ms m → In every m) (rest : (m : Match ℕ) → In every m → StandsAt h old.numbers m ⊎ In ms m)
    (adds : AddsAll (numbered h old.numbers) h i old.numbers assumed ms owed) (grows : Grows i.nodes old grown) (joined : JoinsAll grown joins owed)
    (closed : AreJoined i (OneClass joins.numbers) after) where
  pub next_reached : Reached g assumed table k h old.numbers → Reached g assumed table (suc k) i after
  next_reached r =
      round_reached g (graph_whole g ig) assumed table binds k h i old.numbers joins.numbers after (pairs_of owed) e (graph_whole i ii) r (is_round g assumed table h i old.numbers every ms owed long all among rest adds)
      (joined_there h i old grown joins owed few low grows joined) (joined_follows h i old grown joins owed few low grows joined) closed
