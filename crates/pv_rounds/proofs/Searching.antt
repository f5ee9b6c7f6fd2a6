-- What is known of a search that has made some rounds.
use Rattle.std.specs.Prelude.{◌≡◌, ◌⊎◌, ◌↔◌, ℕ, zero, suc, ◌<◌, ◌≤◌, Bool, false, List, [], map, length, take, Option, Some, None, IfSome, slice_get, refl}
use Rattle.std.specs.List.{AllZip}
use Rattle.std.proofs.Common.{inl, inr, sym, ap, ◌∙◌, subst, arith}
use Rattle.pv_graph.specs.Forms.{form}
use Rattle.pv_graph.specs.Walks.{In}
use Rattle.pv_graph.specs.declared.node.Node.{Node}
use Rattle.pv_graph.specs.declared.node.OpSort.{OpSort}
use Rattle.pv_graph.specs.Graphs.{Graph, form_at, IsGraph}
use Rattle.pv_graph.specs.Calls.{IsSame, IsDistinct}
use Rattle.pv_pattern.specs.Patterns.{Axiom}
use Rattle.pv_pattern.specs.Binding.{BindsItsNames}
use Rattle.pv_steps.specs.Facts.{View}
use Rattle.pv_axioms.specs.Entries.{AreAxioms, axioms}
use Rattle.pv_axioms.proofs.Cited.{binds_names}
use Rattle.pv_heights.specs.Systems.{System, Subset, Relation, given}
use Rattle.pv_heights.specs.Sides.{Match}
use Rattle.pv_heights.specs.Matches.{IsMatch}
use Rattle.pv_heights.specs.SameClasses.{IsCongruence}
use Rattle.pv_heights.specs.Heights.{Nothing}
use Rattle.pv_heights.specs.Searches.{IsWhole, IsMatchAt, nodes, IsNode, OneClass, base_view, AreJoined, AreAllAt, IsSaturatedAt, Reached, begin}
use Rattle.pv_heights.proofs.Cited.{base_view_is, graph_whole, reached_exact, list_counts, saturated_where, place_of, zip_left, zip_length}
use Rattle.pv_classes.specs.Calls.{Classes, IsNew, Knows, KnowsFirst, Grows}
use Rattle.pv_induct.specs.Inducts.{Inducts}
use Rattle.pv_closings.proofs.Cited.{induct_joins, first_joins}
use Rattle.pv_instances.specs.Classes.{JoinedHaveOneSort}
use Rattle.pv_instances.proofs.ClassSorts.{beginning_has_sorts}
use Rattle.pv_instances.proofs.Cited.{extends_both}
use Rattle.pv_witness.specs.Numbered.{AreNumbered, numbered}
use Rattle.pv_witness.proofs.Cited.{longer, first_is}
use Rattle.pv_marks.specs.Marks.{AreNodeMarks}
use Rattle.pv_marks.proofs.Basing.{marks_stay}
use Rattle.pv_match.specs.declared.found.Match as found
use Rattle.pv_match.specs.declared.found.Matches.{Matches}
use Rattle.pv_match.specs.AllMatches.{Shows, AreAllMatches, IsAnswer}
use Rattle.pv_match.specs.Reading.{AreReadable}
use Rattle.pv_match.specs.Agreeing.{AreLeast}
use Rattle.pv_match.proofs.Cited.{all_known, tested}
use Rattle.pv_touched.specs.Earlier.{WasSeen}
use Rattle.pv_saturate.specs.declared.decoding.Decoded.{Decoded}
use Rattle.pv_saturate.specs.Decoding.{IsDecoded, decoded_seen}
use Rattle.pv_saturate.proofs.Cited.{each_shown, decoded_are_all}
use Rattle.pv_saturate.proofs.Lists.{get_in, in_get}
use Rattle.pv_rounds.specs.declared.search.Search.{Search}
use Rattle.pv_rounds.specs.Decoded.{AreShown}
use Rattle.pv_rounds.specs.Standing.{AllStand, AreOver}
use Rattle.pv_rounds.specs.declared.owed.Owed.{Owed}
use Rattle.pv_rounds.specs.Owed.{AreMatches, IsOwed, AddsAll}
use Rattle.pv_rounds.specs.Joining.{AreWithin, JoinsAll}
use Rattle.pv_rounds.specs.declared.last.Last.{Last}
use Rattle.pv_rounds.specs.Last.{look_in, Keeps}
use Rattle.pv_rounds.specs.Searching.{IsLeastGraph, axioms_of, IsSearch, IsOver, IsSaturatedNow, WasLast}
use Rattle.pv_rounds.specs.Known.{StandsAt, EachStands}
use Rattle.pv_rounds.proofs.Keeping.{seen_later}
use Rattle.pv_rounds.proofs.Leaving.{one_stands, StandOrAre}
use Rattle.pv_rounds.proofs.Stood.{stands_still, joined_stands}
use Rattle.pv_rounds.proofs.Numbers.{one_of}
use Rattle.pv_rounds.proofs.Rounding.{zip_first, zip_second, pair_in, all_numbered, owed_here, joined_there, sorts_after, next_reached}

-- ---- the axioms

all_readable : AreReadable axioms
all_readable = tested axioms refl

-- a match by some of the axioms is one by all
by_all : (view : View) (assumed : List ℕ) (table : List Axiom) (S : System) (Member : Subset S) (Joins : Relation S) (m : Match S.Thing) → ((a : Axiom) → In table a → In axioms a)
    → IsMatch view assumed table S Member Joins m → IsMatch view assumed axioms S Member Joins m
by_all view assumed table S Member Joins m entries is = record {
  of_table = entries m.entry is.of_table;
  kids = is.kids;
  vars = is.vars;
  long = is.long;
  alone = is.alone;
  at_ = is.at_;
  is = is.is;
  stands = is.stands;
  constants = is.constants;
  sides = is.sides;
}

-- ---- lists of matches

module _ (h : Graph) (numbers assumed : List ℕ) (table : List Axiom) (list : List found.Match) (all : AreAllMatches h numbers assumed table list) where
  -- each of them shows a match
  pub are_shown : AreShown table list
  are_shown x i = each_shown h numbers assumed table list all x i

  pub as_long : length list ≡ length all.matches
  as_long = zip_length Shows list all.matches all.shown

-- ---- the search

module _ (g : Graph) (k : ℕ) (s : Search) (is : IsSearch g k s) where
  abbrev h : Graph
  h = s.graph

  abbrev numbers : List ℕ
  numbers = s.classes.numbers

  abbrev ends : List ℕ
  ends = s.endings.items

  abbrev table : List Axiom
  table = axioms_of s

  -- each of its axioms is read, and binds its names
  pub readable : AreReadable table
  readable a m = all_readable a (is.table_.entries a m)

  pub binds : (a : Axiom) → In table a → BindsItsNames a
  binds a m = binds_names a (is.table_.entries a m)

  pub view_is : base_view h ≡ form_at g.nodes
  view_is = base_view_is g h is.grown (is.base ∙ is.least.base)

  whole : IsWhole (form_at g.nodes)
  whole = graph_whole g is.least.made.graph

  pub congruence : IsCongruence (base_view h) (nodes h) (IsNode h) (OneClass numbers)
  congruence = subst (λ (v : View). IsCongruence v (nodes h) (IsNode h) (OneClass numbers)) (sym view_is) (reached_exact g whole ends table k h numbers is.reached).congruence

  pub marks_here : AreNodeMarks h ends s.marks.items
  marks_here = marks_stay g h is.least.made.graph is.grown is.least.base ends s.marks.items is.base is.marks_

  -- its class numbers are the least nodes of their classes
  pub least_numbers : AreLeast h numbers
  least_numbers = record {
    graph = is.graph_;
    long = is.knows.long;
    low = λ n lt. is.classes_.low n (let z = is.knows.long in omega (arith, z, lt));
    least = λ n lt. is.classes_.least n (let z = is.knows.long in omega (arith, z, lt));
  }

  -- matches that are no more than the budget
  pub not_over : (list : List found.Match) → AreAllMatches h numbers ends table list → length list ≤ s.budget → IsOver s → ⊥
  not_over list all few over =
      let n = (list_counts (base_view h) ends table h numbers all.matches all.all (suc s.budget)).0 over in
      absurd (let z = as_long h numbers ends table list all in omega (arith, n, z, few))

  pub saturated_by : (ms : List (Match ℕ)) → AreAllAt (base_view h) ends table h numbers ms → AllStand h numbers ms ↔ IsSaturatedNow s
  saturated_by ms all =
      let w = saturated_where g whole ends table binds k h numbers is.reached ms (subst (λ (v : View). AreAllAt v ends table h numbers ms) view_is all) in (
        (λ stand. subst (λ (v : View). IsSaturatedAt v ends table h numbers) (sym view_is) (w.1 stand)),
        (λ now. w.0 (subst (λ (v : View). IsSaturatedAt v ends table h numbers) view_is now)),
      )

  -- what matching answers
  pub answered : (base : List ℕ) (a : Matches) → base ≡ s.marks.items → ((ns : List ℕ) → AreNodeMarks h ns base → IsAnswer h numbers ns table s.budget a) → IsAnswer h numbers ends table s.budget a
  answered base a e f = f ends (subst (λ (b : List ℕ). AreNodeMarks h ends b) (sym e) marks_here)

  -- all matches, decoded
  pub all_decoded : (list : List found.Match) (ds : List (Match ℕ)) → AreAllMatches h numbers ends table list → AllZip (IsDecoded table) list ds → AreAllAt (base_view h) ends table h numbers ds
  all_decoded list ds all z = decoded_are_all h numbers ends table binds list ds all z

  pub are_over : (ms : List (Match ℕ)) → AreAllAt (base_view h) ends table h numbers ms → AreOver h ms
  are_over ms all m i = let p = place_of ms m i in let k = all.each p.0 m p.1 in (k.kids, k.vars)

  -- for the round
  pub numbered_all : AreNumbered h numbers
  numbered_all = record {
    few = (let z = is.knows.long in omega (arith, z));
    base = (let z = is.knows.long in let y = is.graph_.base in omega (arith, z, y));
    within = λ n lt. (let z = is.classes_.low n lt in omega (arith, z, lt));
  }

  same_nodes : (numbered h numbers).nodes ≡ h.nodes
  same_nodes = all_numbered h numbers is.knows.long

  same_sorts : (numbered h numbers).sorts ≡ h.sorts
  same_sorts = ap (λ (n : ℕ). take n h.sorts) (is.knows.long ∙ sym is.graph_.long) ∙ first_is h.sorts h.sorts (λ n x e. e)

  pub sorts_numbered : JoinedHaveOneSort (numbered h numbers) (OneClass numbers)
  sorts_numbered a b o = subst (λ (ss : List OpSort). slice_get ss a ≡ slice_get ss b) (sym same_sorts) (is.sorts a b o)

  -- some of all matches, for the round
  pub are_matches : (every ms : List (Match ℕ)) → AreAllAt (base_view h) ends table h numbers every → ((m : Match ℕ) → In ms m → In every m) → AreMatches (numbered h numbers) numbers ends ms
  are_matches every ms all among = record {
    least = g;
    graph = is.least.made.graph;
    extends_ = record {
      nodes = λ n node e. subst (λ (ns : List Node). slice_get ns n ≡ Some node) (sym same_nodes) (is.grown.nodes n node e);
      sorts = λ n o e. subst (λ (ss : List OpSort). slice_get ss n ≡ Some o) (sym same_sorts) (is.grown.sorts n o e);
    };
    few = (let z = longer g h is.grown in let y = is.knows.long in omega (arith, z, y));
    each = λ m i. (let p = place_of every m (among m i) in
        let k : IsMatchAt (form_at g.nodes) ends axioms h numbers m = by_all (form_at g.nodes) ends table (nodes h) (IsNode h) (OneClass numbers) m is.table_.entries (subst (λ (v : View). IsMatchAt v ends table h numbers m) view_is (all.each p.0 m p.1)) in
        subst (λ (ns : List Node). IsMatch (form_at g.nodes) ends axioms (record { Thing = ℕ; Has = λ n o ks. form_at ns n ≡ Some (form o ks); node = λ n. n }) (λ n. n < length ns) (OneClass numbers) m) (sym same_nodes) k);
  }

  -- both sides of each match of its last round stand in one class
  pub known_stand : (l : Last) → s.last ≡ Some l → EachStands h numbers table l.list.items
  known_stand l e = let w : WasLast s l = subst (λ (o : Option Last). IfSome o (WasLast s)) e is.last_ in w.2

-- ---- at the beginning

pub begun : (g : Graph) (s : Search) (old : Classes) (found : Bool) → IsLeastGraph g → IsSame g s.graph → IsGraph s.graph → AreAxioms (axioms_of s) → AreNodeMarks g s.endings.items s.marks.items → IsNew s.graph.nodes old
    → Inducts s.graph.nodes old s.classes found → s.last ≡ None → IsSearch g zero s
begun g s old found least e is are marks fresh inducts none_yet =
    let h : Graph = s.graph in
    let nodes_same : h.nodes ≡ g.nodes = ap (λ (k : Graph). k.nodes) e in
    let sorts_same : h.sorts ≡ g.sorts = ap (λ (k : Graph). k.sorts) e in
    let sealed_ : h.is_open ≡ false = ap (λ (k : Graph). k.is_open) e ∙ least.sealed in
    let joined : AreJoined h Nothing s.classes.numbers = first_joins h old s.classes found fresh inducts in
    record {
      least = least;
      table_ = are;
      graph_ = is;
      apart = subst (λ (ns : List Node). IsDistinct ns) (sym nodes_same) least.distinct;
      grown = record { nodes = λ n node x. subst (λ (ns : List Node). slice_get ns n ≡ Some node) (sym nodes_same) x; sorts = λ n o x. subst (λ (os : List OpSort). slice_get os n ≡ Some o) (sym sorts_same) x };
      base = ap (λ (k : Graph). k.base) e;
      sealed = sealed_;
      marks_ = marks;
      knows = inducts.knows;
      classes_ = inducts.classes;
      sorts = beginning_has_sorts h s.classes.numbers is sealed_ joined;
      reached = begin h s.classes.numbers nodes_same joined;
      last_ = subst (λ (o : Option Last). IfSome o (WasLast s)) (sym none_yet) tt;
    }

-- ---- a round

-- what was added for lists that are those of the search
pub adds_here : (h i : Graph) (own ns ends es : List ℕ) (ds xs : List Decoded) (owed : List Owed) → ns ≡ own → es ≡ ends → xs ≡ ds → AddsAll (numbered h ns) h i ns es (map decoded_seen xs) owed → AddsAll (numbered h own) h i own ends (map decoded_seen ds) owed
adds_here h i own ns ends es ds xs owed e f u adds =
    subst (λ (a : List ℕ). AddsAll (numbered h a) h i a ends (map decoded_seen ds) owed) e
    (subst (λ (b : List ℕ). AddsAll (numbered h ns) h i ns b (map decoded_seen ds) owed) f
    (subst (λ (d : List Decoded). AddsAll (numbered h ns) h i ns es (map decoded_seen d) owed) u adds))

module _ (g : Graph) (k : ℕ) (s : Search) (is : IsSearch g k s) (i : Graph) (ms : List (Match ℕ)) (owed : List Owed) (adds : AddsAll (numbered s.graph s.classes.numbers) s.graph i s.classes.numbers s.endings.items ms owed) where
  -- the classes know the first nodes
  pub first_known : KnowsFirst i.nodes s.classes
  first_known =
      let long = is.knows.long in
      let same : take (length s.classes.numbers) i.nodes ≡ s.graph.nodes = ap (λ (n : ℕ). take n i.nodes) long ∙ first_is s.graph.nodes i.nodes adds.grows.extends_.nodes in
      ((let z = longer s.graph i adds.grows.extends_ in omega (arith, z, long)), subst (λ (ns : List Node). Knows ns s.classes) (sym same) is.knows)

  -- the sides of the joins have numbers
  pub sides_within : (grown : Classes) → Grows i.nodes s.classes grown → AreWithin (length grown.numbers) owed
  sides_within grown grows o j =
      let m = zip_second (IsOwed (numbered s.graph s.classes.numbers) i s.classes.numbers s.endings.items) ms owed adds.joins o j in
      let l = m.2.left in
      let r = m.2.right in
      let long = grows.long in
      (omega (arith, l, long), omega (arith, r, long))

module _ (g : Graph) (k : ℕ) (s t : Search) (is : IsSearch g k s) (ms : List (Match ℕ)) (owed : List Owed) (grown joins : Classes) (found_ : Bool) (ii : IsGraph t.graph)
    (adds : AddsAll (numbered s.graph s.classes.numbers) s.graph t.graph s.classes.numbers s.endings.items ms owed)
    (grows : Grows t.graph.nodes s.classes grown) (joined : JoinsAll grown joins owed) (inducts : Inducts t.graph.nodes joins t.classes found_)
    (list : List found.Match) (listed : AreAllMatches s.graph s.classes.numbers s.endings.items (axioms_of s) list) (known : StandOrAre s.graph s.classes.numbers (axioms_of s) list ms) (last : Last) (keeps : Keeps s.graph s.classes.numbers s.marks.items list last) (is_last : t.last ≡ Some last)
    (same_table : axioms_of t ≡ axioms_of s) (ends_same : t.endings.items ≡ s.endings.items) (marks_same : t.marks.items ≡ s.marks.items) where
  long : length s.classes.numbers ≡ length s.graph.nodes
  long = is.knows.long

  few : length s.classes.numbers ≤ length t.graph.nodes
  few = let z = longer s.graph t.graph adds.grows.extends_ in omega (arith, z, long)

  closed : AreJoined t.graph (OneClass joins.numbers) t.classes.numbers
  closed = induct_joins t.graph joins t.classes found_ inducts

  all_here : AreAllAt (form_at g.nodes) s.endings.items (axioms_of s) s.graph s.classes.numbers known.all
  all_here = subst (λ (v : View). AreAllAt v s.endings.items (axioms_of s) s.graph s.classes.numbers known.all) (view_is g k s is) (all_decoded g k s is list known.all listed known.decoded)

  sorts_of : (o : Owed) → In owed o → slice_get t.graph.sorts o.left ≡ slice_get t.graph.sorts o.right
  sorts_of o i = let m = zip_second (IsOwed (numbered s.graph s.classes.numbers) t.graph s.classes.numbers s.endings.items) ms owed adds.joins o i in m.2.one_sort

  numbers_least : AreLeast s.graph s.classes.numbers
  numbers_least = least_numbers g k s is

  -- nodes of one class stay in one
  joined_on : (a b : ℕ) → OneClass s.classes.numbers a b → OneClass t.classes.numbers a b
  joined_on a b o = closed.full a b (given [] a b (joined_there s.graph t.graph s.classes grown joins owed few is.classes_.low grows joined a b (inl o)))

  seen_on : WasSeen s.graph t.graph t.classes.numbers s.endings.items (axioms_of s) (look_in last)
  seen_on = seen_later s.graph t.graph s.classes.numbers t.classes.numbers s.marks.items s.endings.items (axioms_of s) list last numbers_least adds.grows.extends_ adds.grows.base (marks_here g k s is)
      (all_known s.graph s.classes.numbers s.endings.items (axioms_of s) list numbers_least (congruence g k s is) (readable g k s is) listed) joined_on keeps

  reached_on : Reached g s.endings.items (axioms_of s) (suc k) t.graph t.classes.numbers
  reached_on = next_reached g s.endings.items (axioms_of s) (binds g k s is) k s.graph t.graph s.classes grown joins t.classes.numbers known.all ms owed is.least.made.graph ii adds.grows.extends_ long few is.classes_.low all_here
      known.among known.rest adds grows joined closed is.reached

  -- both sides of each match of the list stand in one class
  pair_joined : (o : Owed) → In owed o → OneClass t.classes.numbers o.left o.right
  pair_joined o i = closed.full o.left o.right (given [] o.left o.right (joined_there s.graph t.graph s.classes grown joins owed few is.classes_.low grows joined o.left o.right (inr (pair_in owed o i))))

  stands_on : (m : Match ℕ) → In known.all m → StandsAt s.graph s.classes.numbers m ⊎ In ms m → StandsAt t.graph t.classes.numbers m
  stands_on m i (inl d) = stands_still s.graph t.graph s.classes.numbers t.classes.numbers adds.grows.extends_ joined_on m d
  stands_on m i (inr j) =
      let o = zip_first (IsOwed (numbered s.graph s.classes.numbers) t.graph s.classes.numbers s.endings.items) ms owed adds.joins m j in
      let p = place_of known.all m i in
      joined_stands s.graph t.graph s.classes.numbers t.classes.numbers adds.grows.extends_ joined_on (form_at g.nodes) (reached_exact g (whole g k s is) s.endings.items (axioms_of s) (suc k) t.graph t.classes.numbers reached_on).congruence m
      (binds g k s is m.entry (all_here.each p.0 m p.1).of_table) o.0.left o.0.right
      (owed_here g s.endings.items (axioms_of s) s.graph t.graph s.classes.numbers known.all ms owed long all_here known.among known.rest adds m o.0 o.2) (pair_joined o.0 o.1)

  each_stands : EachStands t.graph t.classes.numbers (axioms_of s) last.list.items
  each_stands y i =
      let r = keeps.list_.each y i in
      let p = in_get list r.0 r.1 in
      let d = zip_left (IsDecoded (axioms_of s)) list known.all known.decoded p.0 r.0 p.1 in
      let j = get_in known.all p.0 d.0 d.1 in
      one_stands t.graph t.classes.numbers (axioms_of s) r.0 y (sym r.2.0, sym r.2.1, sym r.2.2) (d.0, d.2, stands_on d.0 j (known.rest d.0 j))

  was_last : WasLast t last
  was_last = (
    s.graph,
    subst (λ (es : List ℕ). WasSeen s.graph t.graph t.classes.numbers es (axioms_of t) (look_in last)) (sym ends_same)
        (subst (λ (ts : List Axiom). WasSeen s.graph t.graph t.classes.numbers s.endings.items ts (look_in last)) (sym same_table) seen_on),
    subst (λ (ts : List Axiom). EachStands t.graph t.classes.numbers ts last.list.items) (sym same_table) each_stands,
  )

  pub next_search : IsSearch g (suc k) t
  next_search = record {
    least = is.least;
    table_ = subst AreAxioms (sym same_table) is.table_;
    graph_ = ii;
    apart = adds.distinct is.apart;
    grown = extends_both g s.graph t.graph is.grown adds.grows.extends_;
    base = adds.grows.base ∙ is.base;
    sealed = adds.grows.sealed ∙ is.sealed;
    marks_ = subst (λ (es : List ℕ). AreNodeMarks g es t.marks.items) (sym ends_same) (subst (λ (xs : List ℕ). AreNodeMarks g s.endings.items xs) (sym marks_same) is.marks_);
    knows = inducts.knows;
    classes_ = inducts.classes;
    sorts = sorts_after s.graph t.graph s.classes grown joins owed few is.classes_.low grows joined is.graph_ long adds.grows.extends_ is.sorts sorts_of (λ a b o. (let x = one_of s.classes.numbers a b o in (x.0, x.1))) ii (adds.grows.sealed ∙ is.sealed) t.classes.numbers closed;
    reached = subst (λ (es : List ℕ). Reached g es (axioms_of t) (suc k) t.graph t.classes.numbers) (sym ends_same)
        (subst (λ (ts : List Axiom). Reached g s.endings.items ts (suc k) t.graph t.classes.numbers) (sym same_table) reached_on);
    last_ = subst (λ (o : Option Last). IfSome o (WasLast t)) (sym is_last) was_last;
  }
