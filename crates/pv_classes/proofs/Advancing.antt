-- What a step of a closing does to the index.
use Rattle.std.proofs.Common.{◌≡◌, ◌≢◌, ◌⊎◌, ◌↔◌, inl, inr, ℕ, ◌<◌, List, [], ◌∷◌, ◌++◌, length, get_or, Some, None, slice_get, refl, sym, ◌∙◌, ap, subst}
use Rattle.std.specs.List.{Contains}
use Rattle.std.proofs.lemmas.List.{append-nil}
use Rattle.std.proofs.lemmas.Option.{slice_get_within, none-some}
use Rattle.pv_graph.specs.declared.node.Node.{Node}
use Rattle.pv_graph.specs.Nodes.{node_of}
use Rattle.pv_graph.proofs.SameNodes.{same_or_other}
use Rattle.pv_classes.specs.declared.join.Join.{Join}
use Rattle.pv_classes.specs.Partition.{at, AreOne, Parts, IsThrough, Merges}
use Rattle.pv_classes.specs.Linked.{Linked}
use Rattle.pv_classes.specs.Closest.{Closest, IsOfKids, AreOfKids}
use Rattle.pv_classes.specs.Index.{Index, found_in, found_by, labels_of, key_of, IsEntry, IsTable, IsIndex, IsTracked, AreJoined, Advances, Inserts}
use Rattle.pv_classes.proofs.Elements.{zip_map}
use Rattle.pv_classes.proofs.Keys.{labels_stay, kids_labels, labels_below}
use Rattle.pv_classes.proofs.Links.{of_kids_closest}
use Rattle.pv_classes.proofs.Inserting.{first_cases}

-- what the tables have is an entry
pub found_entry : (nodes : List Node) (i : Index) (key : Node) (e : ℕ) → IsIndex nodes i → found_by i key ≡ Some e → IsEntry nodes i.parts.labels key e
found_entry nodes i key e h f = elim (first_cases (found_in i.own key) (found_in i.shared key) e f) [ inl g ↦ h.own key e g | inr g ↦ h.shared key e g ]

-- ---- two nodes are joined

module _ (nodes : List Node) (old : Index) (index : IsIndex nodes old) (p : Parts) (w : List ℕ) (j : Join) (moved : List ℕ) (merges : Merges old.parts p j.first j.second moved)
    (woken : (n : ℕ) → Contains w n ↔ (Contains old.waiting n ⊎ ((k : ℕ) × Contains moved k × Contains (get_or old.parents k []) n))) where
  abbrev pub joined : Index
  joined = record old { parts = p; waiting = w }

  in_labels : (k : ℕ) → k < length nodes → k < length old.parts.labels
  in_labels k lt = subst (λ (n : ℕ). k < n) (sym index.long) lt

  coarser : (a b : ℕ) → a < length nodes → b < length nodes → AreOne old.parts.labels a b → AreOne p.labels a b
  coarser a b la lb e = merges.coarser a b (in_labels a la) (in_labels b lb) e

  entry_after : (key : Node) (e : ℕ) → IsEntry nodes old.parts.labels key e → IsEntry nodes p.labels key e
  entry_after key e h = record {
    kids = h.kids;
    is = h.is;
    below = h.below;
    one = zip_map (AreOne old.parts.labels) (AreOne p.labels) h.kids key.kids (λ k l c d r. coarser k l (index.kids e k (node_of key.op h.kids) h.is c) (h.below l d) r) h.one;
  }

  pub joined_index : IsIndex nodes joined
  joined_index = record {
    long = merges.long ∙ index.long;
    parts = merges.parts;
    kids = index.kids;
    parents_long = index.parents_long;
    parents = index.parents;
    parents_in = index.parents_in;
    numbers_long = index.numbers_long;
    numbered = index.numbered;
    shared = λ key e f. entry_after key e (index.shared key e f);
    own = λ key e f. entry_after key e (index.own key e f);
    waiting_in = λ n c. elim ((woken n).0 c) [ inl d ↦ index.waiting_in n d | inr d ↦ index.parents_in n d.0 d.2 ];
    by_own_in = index.by_own_in;
  }

  -- a node that the tables find waits, or is found as before
  pub found_after : (m e : ℕ) (node : Node) → slice_get nodes m ≡ Some node → found_by old (key_of old.parts.labels node) ≡ Some e
      → (found_in old.own (key_of old.parts.labels node) ≡ None) ⊎ Contains old.by_own m → AreOne p.labels e m → IsTracked nodes joined m
  found_after m e node is finds noted one =
      by (labels_stay old.parts.labels p.labels moved node.kids (λ k c out. merges.kept k (in_labels k (index.kids m k node is c)) out))
    where
      by : ((k : ℕ) × Contains node.kids k × Contains moved k) ⊎ (labels_of p.labels node.kids ≡ labels_of old.parts.labels node.kids) → IsTracked nodes joined m
      by (inl k) = inl ((woken m).1 (inr (k.0, k.2, index.parents m k.0 node is k.1)))
      by (inr s) = inr (record {
        node = node;
        e = e;
        is = is;
        finds = ap (λ (ls : List ℕ). found_by old (node_of node.op ls)) s ∙ finds;
        one = one;
        noted = subst (λ (ls : List ℕ). (found_in old.own (node_of node.op ls) ≡ None) ⊎ Contains old.by_own m) (sym s) noted;
      })

  pub tracked_after : (m : ℕ) → m < length nodes → IsTracked nodes old m → IsTracked nodes joined m
  tracked_after m lt (inl c) = inl ((woken m).1 (inl c))
  tracked_after m lt (inr f) =
      let entry = found_entry nodes old (key_of old.parts.labels f.node) f.e index f.finds in
      found_after m f.e f.node f.is f.finds f.noted (coarser f.e m (slice_get_within nodes f.e _ entry.is) lt f.one)

  pub joined_advances : (fixed : List ℕ) (before after : List Join) → AreJoined old.parts before → after ≡ before ++ j ∷ [] → j.first < length nodes → j.second < length nodes
      → IsOfKids nodes fixed before j → (AreOne old.parts.labels j.first j.second → ⊥) → Advances nodes fixed old joined before after
  joined_advances fixed before after links joins lf ls of_kids apart = record {
    index = joined_index;
    coarser = coarser;
    sound = λ a b la lb e. sound a b la lb (merges.only a b (in_labels a la) (in_labels b lb) e);
    more = j ∷ [];
    joins = joins;
    of_kids = AreOfKids.next before j [] of_kids (AreOfKids.none (before ++ j ∷ []));
    tracked = tracked_after;
    less = elim merges.less [ inl s ↦ absurd (apart s.0) | inr l ↦ inl l ];
  }
    where
      pair : Closest nodes fixed (AreOne old.parts.labels) j.first j.second
      pair = of_kids_closest nodes fixed before j (AreOne old.parts.labels) (λ a b h. one a b h) of_kids
        where
          low : (k : ℕ) → k < length old.parts.labels → k < length nodes
          low k lt = subst (λ (n : ℕ). k < n) index.long lt

          one : (a b : ℕ) → Linked (length nodes) before a b → (a < length nodes) × (b < length nodes) × AreOne old.parts.labels a b
          one a b (Linked.joined _ _ i c e f) =
              let w = links.within i c in (
                subst (λ (v : ℕ). v < length nodes) e (low i.first w.0),
                subst (λ (v : ℕ). v < length nodes) f (low i.second w.1),
                subst (λ (v : ℕ). AreOne old.parts.labels v b) e (subst (λ (v : ℕ). AreOne old.parts.labels i.first v) f ((links.linked i.first i.second w.0 w.1).1 (Linked.joined i.first i.second i c refl refl))),
              )
          one a b (Linked.same _ lt) = (lt, lt, refl)
          one a b (Linked.flip _ _ h) = let r = one b a h in (r.1, r.0, sym r.2)
          one a b (Linked.chain _ m _ h k) = let r = one a m h in let s = one m b k in (r.0, s.1, r.2 ∙ s.2)

      sound : (a b : ℕ) → a < length nodes → b < length nodes → IsThrough old.parts.labels j.first j.second a b → Closest nodes fixed (AreOne old.parts.labels) a b
      sound a b la lb (inl e) = Closest.joined a b la lb e
      sound a b la lb (inr (inl e)) = Closest.chain a j.first b (Closest.joined a j.first la lf e.0) (Closest.chain j.first j.second b pair (Closest.joined j.second b ls lb e.1))
      sound a b la lb (inr (inr e)) = Closest.chain a j.second b (Closest.joined a j.second la ls e.0) (Closest.chain j.second j.first b (Closest.flip j.second j.first pair) (Closest.joined j.first b lf lb e.1))

-- ---- a node is looked up

module _ (nodes : List Node) (old : Index) (index : IsIndex nodes old) (s : List ℕ) (n : ℕ) (there : n < length nodes) (keeps : (m : ℕ) → Contains old.by_own m → Contains s m)
    (only : (m : ℕ) → Contains s m → Contains old.by_own m ⊎ (n ≡ m)) where
  abbrev pub looked : Index
  looked = record old { by_own = s }

  pub looked_index : IsIndex nodes looked
  looked_index = record {
    long = index.long;
    parts = index.parts;
    kids = index.kids;
    parents_long = index.parents_long;
    parents = index.parents;
    parents_in = index.parents_in;
    numbers_long = index.numbers_long;
    numbered = index.numbered;
    shared = index.shared;
    own = index.own;
    waiting_in = index.waiting_in;
    by_own_in = λ m c. elim (only m c) [ inl d ↦ index.by_own_in m d | inr e ↦ subst (λ (v : ℕ). v < length nodes) e there ];
  }

  pub looked_tracked : (m : ℕ) → m < length nodes → IsTracked nodes old m → IsTracked nodes looked m
  looked_tracked m lt (inl c) = inl c
  looked_tracked m lt (inr f) = inr (record { node = f.node; e = f.e; is = f.is; finds = f.finds; one = f.one; noted = elim f.noted [ inl g ↦ inl g | inr c ↦ inr (keeps m c) ] })

  -- nothing else was done
  pub looked_advances : (fixed : List ℕ) (before after : List Join) → after ≡ before → Advances nodes fixed old looked before after
  looked_advances fixed before after e = record {
    index = looked_index;
    coarser = λ a b la lb h. h;
    sound = λ a b la lb h. Closest.joined a b la lb h;
    more = [];
    joins = e ∙ sym (append-nil before);
    of_kids = AreOfKids.none before;
    tracked = looked_tracked;
    less = inr (refl, refl);
  }

  -- what advances from there advances from before
  pub looked_first : (fixed : List ℕ) (new : Index) (before after : List Join) → Advances nodes fixed looked new before after → Advances nodes fixed old new before after
  looked_first fixed new before after h = record {
    index = h.index;
    coarser = h.coarser;
    sound = h.sound;
    more = h.more;
    joins = h.joins;
    of_kids = h.of_kids;
    tracked = λ m lt k. h.tracked m lt (looked_tracked m lt k);
    less = h.less;
  }

-- ---- a node is the first with its key

module _ (nodes : List Node) (old new : Index) (index : IsIndex nodes old) (n : ℕ) (node : Node) (is : slice_get nodes n ≡ Some node)
    (none : found_by old (key_of old.parts.labels node) ≡ None) (inserts : Inserts old new (key_of old.parts.labels node) n) where
  abbrev key : Node
  key = key_of old.parts.labels node

  below : (k : ℕ) → Contains node.kids k → k < length nodes
  below k c = index.kids n k node is c

  in_labels' : (k : ℕ) → k < length nodes → k < length old.parts.labels
  in_labels' k lt = subst (λ (m : ℕ). k < m) (sym index.long) lt

  own_labels : (k : ℕ) → k < length nodes → at old.parts.labels (at old.parts.labels k) ≡ at old.parts.labels k
  own_labels k lt = index.parts.own k (in_labels' k lt)

  entry : IsEntry nodes old.parts.labels key n
  entry = record {
    kids = node.kids;
    is = is;
    below = λ l c. labels_below (length nodes) old.parts.labels node.kids (λ k lt. subst (λ (m : ℕ). at old.parts.labels k < m) index.long (index.parts.within k (in_labels' k lt))) below l c;
    one = kids_labels (length nodes) old.parts.labels node.kids own_labels below;
  }

  there : n < length nodes
  there = slice_get_within nodes n node is

  abbrev inserted : Index
  inserted = record old { shared = new.shared; own = new.own; by_own = new.by_own }

  table_after : (old_table new_table : List (Node × ℕ)) → IsTable nodes old.parts.labels old_table
      → ((other : Node) (e : ℕ) → found_in new_table other ≡ Some e → (found_in old_table other ≡ Some e) ⊎ ((other ≡ key) × (n ≡ e))) → IsTable nodes old.parts.labels new_table
  table_after old_table new_table h f other e g = by (f other e g)
    where
      by : (found_in old_table other ≡ Some e) ⊎ ((other ≡ key) × (n ≡ e)) → IsEntry nodes old.parts.labels other e
      by (inl k) = h other e k
      by (inr k) = subst (λ (o : Node). IsEntry nodes old.parts.labels o e) (sym k.0) (subst (λ (m : ℕ). IsEntry nodes old.parts.labels key m) k.1 entry)

  index_after : IsIndex nodes inserted
  index_after = record {
    long = index.long;
    parts = index.parts;
    kids = index.kids;
    parents_long = index.parents_long;
    parents = index.parents;
    parents_in = index.parents_in;
    numbers_long = index.numbers_long;
    numbered = index.numbered;
    shared = table_after old.shared new.shared index.shared inserts.shared;
    own = table_after old.own new.own index.own inserts.own;
    waiting_in = index.waiting_in;
    by_own_in = λ m c. elim (inserts.only m c) [ inl d ↦ index.by_own_in m d | inr e ↦ subst (λ (v : ℕ). v < length nodes) e there ];
  }

  tracked_others : (m : ℕ) → m < length nodes → IsTracked nodes old m → IsTracked nodes inserted m
  tracked_others m lt (inl c) = inl c
  tracked_others m lt (inr f) = by (same_or_other (key_of old.parts.labels f.node) key)
    where
      by : (key_of old.parts.labels f.node ≡ key) ⊎ (key_of old.parts.labels f.node ≢ key) → IsTracked nodes inserted m
      by (inl e) = absurd (none-some f.e (sym none ∙ ap (found_by old) (sym e) ∙ f.finds))
      by (inr d) = inr (record {
        node = f.node;
        e = f.e;
        is = f.is;
        finds = inserts.others (key_of old.parts.labels f.node) d ∙ f.finds;
        one = f.one;
        noted = elim f.noted [ inl g ↦ inl (inserts.own_others (key_of old.parts.labels f.node) d ∙ g) | inr c ↦ inr (inserts.keeps m c) ];
      })

  tracked_here : IsTracked nodes inserted n
  tracked_here = inr (record { node = node; e = n; is = is; finds = inserts.here; one = refl; noted = inserts.noted })

  pub inserted_tracked : IsTracked nodes new n
  inserted_tracked = subst (λ (i : Index). IsTracked nodes i n) (sym inserts.rest) tracked_here

  pub inserted_advances : (fixed : List ℕ) (before after : List Join) → after ≡ before → Advances nodes fixed old new before after
  inserted_advances fixed before after e = subst (λ (i : Index). Advances nodes fixed old i before after) (sym inserts.rest) (record {
    index = index_after;
    coarser = λ a b la lb h. h;
    sound = λ a b la lb h. Closest.joined a b la lb h;
    more = [];
    joins = e ∙ sym (append-nil before);
    of_kids = AreOfKids.none before;
    tracked = tracked_others;
    less = inr (refl, refl);
  })
