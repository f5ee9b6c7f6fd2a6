-- More nodes.
use Rattle.std.proofs.Common.{◌≡◌, ◌⊎◌, inl, inr, ℕ, ◌+◌, ◌<◌, ◌≤◌, List, [], ◌∷◌, ◌++◌, length, take, Some, None, slice_get, refl, sym, ◌∙◌, ap, subst, arith}
use Rattle.std.specs.List.{Contains}
use Rattle.std.proofs.lemmas.List.{length-append, length-take-le, get_or_append_left, get_or_at}
use Rattle.std.proofs.lemmas.Option.{none-some, slice_get_within}
use Rattle.std.proofs.lemmas.List.Elements.{Contains-append_left, Contains-push, Contains-push_cases}
use Rattle.pv_graph.specs.declared.node.Node.{Node}
use Rattle.pv_graph.specs.Nodes.{node_of}
use Rattle.pv_classes.specs.declared.join.Join.{Join}
use Rattle.pv_classes.specs.Partition.{at, AreOne, Parts, IsPartition, HasOneMore}
use Rattle.pv_classes.specs.Linked.{Linked}
use Rattle.pv_classes.specs.Index.{Index, found_in, found_by, key_of, labels_of, IsEntry, IsIndex, IsTracked, AreJoined}
use Rattle.pv_classes.specs.Learning.{AreParents, AreNumbered, HasMore, WaitToo}
use Rattle.pv_classes.proofs.Elements.{none_in, in_first, in_rest, zip_map}
use Rattle.pv_classes.proofs.Learnt.{take_get}
use Rattle.pv_classes.proofs.Advancing.{found_entry}

linked_wider : (n m : ℕ) (joins : List Join) (a b : ℕ) → n ≤ m → Linked n joins a b → Linked m joins a b
linked_wider n m joins a b le (Linked.joined _ _ j there e f) = Linked.joined a b j there e f
linked_wider n m joins a b le (Linked.same _ lt) = Linked.same a (omega arith)
linked_wider n m joins a b le (Linked.flip _ _ h) = Linked.flip a b (linked_wider n m joins b a le h)
linked_wider n m joins a b le (Linked.chain _ c _ h k) = Linked.chain a c b (linked_wider n m joins a c le h) (linked_wider n m joins c b le k)

module _ (p q : Parts) (joins : List Join) (joined : AreJoined p joins) (more : HasOneMore p q) where
  abbrev n : ℕ
  n = length p.labels

  long : length q.labels ≡ n + 1
  long = ap length more.labels ∙ omega (arith, length-append p.labels (n ∷ []))

  old_label : (k : ℕ) → k < n → at q.labels k ≡ at p.labels k
  old_label k lt = ap (λ (xs : List ℕ). at xs k) more.labels ∙ get_or_append_left p.labels (n ∷ []) 0 k lt

  new_label : at q.labels n ≡ n
  new_label = ap (λ (xs : List ℕ). at xs n) more.labels ∙ get_or_at p.labels n [] 0 n refl

  which : (k : ℕ) → k < length q.labels → (k < n) ⊎ (k ≡ n)
  which k lt = let e = long in grind arith

  -- what is linked is one node, or two of the old ones
  old_or_same : (a b : ℕ) → Linked (length q.labels) joins a b → (a ≡ b) ⊎ ((a < n) × (b < n) × Linked n joins a b)
  old_or_same a b (Linked.joined _ _ j there e f) =
      let w = joined.within j there in
      inr (subst (λ (v : ℕ). v < n) e w.0, subst (λ (v : ℕ). v < n) f w.1, Linked.joined a b j there e f)
  old_or_same a b (Linked.same _ lt) = inl refl
  old_or_same a b (Linked.flip _ _ h) = elim (old_or_same b a h) [ inl e ↦ inl (sym e) | inr r ↦ inr (r.1, r.0, Linked.flip a b r.2) ]
  old_or_same a b (Linked.chain _ c _ h k) = both (old_or_same a c h) (old_or_same c b k)
    where
      both : (a ≡ c) ⊎ ((a < n) × (c < n) × Linked n joins a c) → (c ≡ b) ⊎ ((c < n) × (b < n) × Linked n joins c b) → (a ≡ b) ⊎ ((a < n) × (b < n) × Linked n joins a b)
      both (inl e) (inl f) = inl (e ∙ f)
      both (inl e) (inr s) = inr (subst (λ (v : ℕ). (v < n) × (b < n) × Linked n joins v b) (sym e) s)
      both (inr r) (inl f) = inr (subst (λ (v : ℕ). (a < n) × (v < n) × Linked n joins a v) f r)
      both (inr r) (inr s) = inr (r.0, s.1, Linked.chain a c b r.2 s.2)

  pub joined_wider : AreJoined q joins
  joined_wider = record {
    parts = more.parts;
    within = λ j c. let w = joined.within j c in let e = long in (omega arith, omega arith);
    linked = λ a b la lb. ((λ e. links a b (which a la) (which b lb) e), (λ h. one a b (old_or_same a b h)));
  }
    where
      wider : n ≤ length q.labels
      wider = let e = long in omega arith

      top : n < length q.labels
      top = let e = long in omega arith

      links : (a b : ℕ) → (a < n) ⊎ (a ≡ n) → (b < n) ⊎ (b ≡ n) → AreOne q.labels a b → Linked (length q.labels) joins a b
      links a b (inl la) (inl lb) e = linked_wider n (length q.labels) joins a b wider ((joined.linked a b la lb).0 (sym (old_label a la) ∙ e ∙ old_label b lb))
      links a b (inl la) (inr f) e =
          let w = joined.parts.within a la in let g : at p.labels a ≡ n = sym (old_label a la) ∙ e ∙ ap (at q.labels) f ∙ new_label in absurd (omega arith)
      links a b (inr f) (inl lb) e =
          let w = joined.parts.within b lb in let g : at p.labels b ≡ n = sym (old_label b lb) ∙ sym e ∙ ap (at q.labels) f ∙ new_label in absurd (omega arith)
      links a b (inr f) (inr g) e = subst (λ (v : ℕ). Linked (length q.labels) joins a v) (f ∙ sym g) (Linked.same a (subst (λ (v : ℕ). v < length q.labels) (sym f) top))

      one : (a b : ℕ) → (a ≡ b) ⊎ ((a < n) × (b < n) × Linked n joins a b) → AreOne q.labels a b
      one a b (inl e) = ap (at q.labels) e
      one a b (inr r) = old_label a r.0 ∙ (joined.linked a b r.0 r.1).1 r.2 ∙ sym (old_label b r.1)

-- the nodes so far
pub more_none : (p : Parts) → IsPartition p → HasMore p p (length p.labels)
more_none p part = let l = part.long in record { long = refl; wider = omega arith; labels = λ k lt. refl; kept = λ k lt. refl; own = λ k le lt. absurd (omega arith) }

pub more_step : (p q r : Parts) (m : ℕ) → IsPartition p → IsPartition q → HasMore p q m → HasOneMore q r → HasMore p r (m + 1)
more_step p q r m first part h more = record {
  long = ap length more.labels ∙ omega (arith, length-append q.labels (length q.labels ∷ []), h.long);
  wider = let w = h.wider in omega arith;
  labels = λ k lt. old_label k lt ∙ h.labels k lt;
  kept = λ k lt. let w = h.wider in old k (omega (arith, part.long, h.long)) ∙ h.kept k lt;
  own = λ k le lt. own k le (order k lt);
}
  where
    old_label : (k : ℕ) → k < length p.labels → at r.labels k ≡ at q.labels k
    old_label k lt = ap (λ (xs : List ℕ). at xs k) more.labels ∙ get_or_append_left q.labels (length q.labels ∷ []) 0 k (let w = h.wider in omega (arith, lt, h.long, first.long))

    old : (k : ℕ) → k < length q.numbers → at r.numbers k ≡ at q.numbers k
    old k lt = ap (λ (xs : List ℕ). at xs k) more.numbers ∙ get_or_append_left q.numbers (length q.labels ∷ []) 0 k lt

    order : (k : ℕ) → k < m + 1 → (k < m) ⊎ (k ≡ m)
    order k lt = grind arith

    own : (k : ℕ) → length p.numbers ≤ k → (k < m) ⊎ (k ≡ m) → at r.numbers k ≡ k
    own k le (inl lt) = old k (omega (arith, part.long, h.long)) ∙ h.own k le lt
    own k le (inr e) =
        let same : length q.numbers ≡ k = omega (arith, part.long, h.long) in
        ap (λ (xs : List ℕ). at xs k) more.numbers ∙ get_or_at q.numbers (length q.labels) [] 0 k same ∙ omega (arith, h.long)

-- ---- the nodes that wait too

pub wait_none : (old : List ℕ) (from : ℕ) → WaitToo old old from from
wait_none old from m = ((λ c. inl c), (λ w. elim w [ inl c ↦ c | inr h ↦ absurd (let a = h.0 in let b = h.1 in omega arith) ]))

pub wait_more : (old before after : List ℕ) (from n : ℕ) → from ≤ n → after ≡ before ++ n ∷ [] → WaitToo old before from n → WaitToo old after from (n + 1)
wait_more old before after from n le e h m =
    ((λ c. goes (Contains-push_cases before n m (subst (λ (xs : List ℕ). Contains xs m) e c))), (λ w. subst (λ (xs : List ℕ). Contains xs m) (sym e) (comes w)))
  where
    widen : Contains old m ⊎ ((from ≤ m) × (m < n)) → Contains old m ⊎ ((from ≤ m) × (m < n + 1))
    widen (inl c) = inl c
    widen (inr r) = let l = r.1 in inr (r.0, omega arith)

    goes : Contains before m ⊎ (n ≡ m) → Contains old m ⊎ ((from ≤ m) × (m < n + 1))
    goes (inl c) = widen ((h m).0 c)
    goes (inr f) = inr (omega arith, omega arith)

    order : m < n + 1 → (m < n) ⊎ (n ≡ m)
    order lt = grind arith

    by : from ≤ m → (m < n) ⊎ (n ≡ m) → Contains (before ++ n ∷ []) m
    by a (inl l) = Contains-append_left before (n ∷ []) m ((h m).1 (inr (a, l)))
    by a (inr f) = subst (λ (v : ℕ). Contains (before ++ n ∷ []) v) f (Contains-push before n)

    comes : Contains old m ⊎ ((from ≤ m) × (m < n + 1)) → Contains (before ++ n ∷ []) m
    comes (inl c) = Contains-append_left before (n ∷ []) m ((h m).1 (inl c))
    comes (inr r) = by r.0 (order r.1)

-- ---- an index of all nodes

-- made anew
pub learnt_index : (nodes : List Node) (p : Parts) (parents by_number : List (List ℕ)) (waiting : List ℕ) → IsPartition p → length p.labels ≡ length nodes
    → ((n k : ℕ) (node : Node) → slice_get nodes n ≡ Some node → Contains node.kids k → k < length nodes) → AreParents nodes (length nodes) (length nodes) parents
    → AreNumbered nodes by_number → ((m : ℕ) → Contains waiting m → m < length nodes)
    → IsIndex nodes (record { parts = p; parents = parents; by_number = by_number; shared = []; own = []; waiting = waiting; by_own = [] })
learnt_index nodes p parents by_number waiting part long kids are numbered below = record {
  long = long;
  parts = part;
  kids = kids;
  parents_long = are.long;
  parents = λ n k node is there. are.has n k node (slice_get_within nodes n node is) is there;
  parents_in = are.within;
  numbers_long = numbered.long;
  numbered = numbered.says;
  shared = λ key e g. absurd (none-some e g);
  own = λ key e g. absurd (none-some e g);
  waiting_in = below;
  by_own_in = λ n c. absurd (none_in n c);
}

-- the first nodes of more nodes
module _ (nodes : List Node) (from : ℕ) (le : from ≤ length nodes) (old : Index) (index : IsIndex (take from nodes) old) (p : Parts) (part : IsPartition p) (more : HasMore old.parts p (length nodes)) where
  front : length (take from nodes) ≡ from
  front = length-take-le from nodes le

  wide : (k : ℕ) → k < length (take from nodes) → k < length nodes
  wide k lt = let f = front in omega arith

  old_in : (k : ℕ) → k < length (take from nodes) → k < length old.parts.labels
  old_in k lt = subst (λ (m : ℕ). k < m) (sym index.long) lt

  up : (n : ℕ) (node : Node) → slice_get (take from nodes) n ≡ Some node → slice_get nodes n ≡ Some node
  up n node is = sym (take_get nodes from n (subst (λ (m : ℕ). n < m) front (slice_get_within (take from nodes) n node is))) ∙ is

  down : (n : ℕ) (node : Node) → n < from → slice_get nodes n ≡ Some node → slice_get (take from nodes) n ≡ Some node
  down n node lt is = take_get nodes from n lt ∙ is

  still : (k : ℕ) → k < length (take from nodes) → at p.labels k ≡ at old.parts.labels k
  still k lt = more.labels k (old_in k lt)

  one_up : (a b : ℕ) → a < length (take from nodes) → b < length (take from nodes) → AreOne old.parts.labels a b → AreOne p.labels a b
  one_up a b la lb e = still a la ∙ e ∙ sym (still b lb)

  entry_up : (key : Node) (e : ℕ) → IsEntry (take from nodes) old.parts.labels key e → IsEntry nodes p.labels key e
  entry_up key e h = record {
    kids = h.kids;
    is = up e _ h.is;
    below = λ k c. wide k (h.below k c);
    one = zip_map (AreOne old.parts.labels) (AreOne p.labels) h.kids key.kids (λ k l c d r. one_up k l (index.kids e k _ h.is c) (h.below l d) r) h.one;
  }

  kids_still : (ks : List ℕ) → ((k : ℕ) → Contains ks k → k < length (take from nodes)) → labels_of p.labels ks ≡ labels_of old.parts.labels ks
  kids_still [] h = refl
  kids_still (k ∷ ks) h = let here = still k (h k (in_first ks k)) in let rest = kids_still ks (λ l c. h l (in_rest ks k l c)) in λ i. here i ∷ rest i

  pub old_parents : AreParents nodes from from old.parents
  old_parents = record {
    long = index.parents_long ∙ front;
    has = λ m k node lt is there. index.parents m k node (down m node lt is) there;
    within = λ m k there. subst (λ (v : ℕ). m < v) front (index.parents_in m k there);
  }

  pub old_numbered : AreNumbered (take from nodes) old.by_number
  old_numbered = record { long = index.numbers_long; says = index.numbered }

  module _ (parents by_number : List (List ℕ)) (w : List ℕ) (kids : (n k : ℕ) (node : Node) → slice_get nodes n ≡ Some node → Contains node.kids k → k < length nodes)
      (are : AreParents nodes (length nodes) (length nodes) parents) (numbered : AreNumbered nodes by_number) (waits : WaitToo old.waiting w from (length nodes)) where
    abbrev pub grown : Index
    grown = record { parts = p; parents = parents; by_number = by_number; shared = old.shared; own = old.own; waiting = w; by_own = old.by_own }

    pub grown_index : IsIndex nodes grown
    grown_index = record {
      long = more.long;
      parts = part;
      kids = kids;
      parents_long = are.long;
      parents = λ n k node is there. are.has n k node (slice_get_within nodes n node is) is there;
      parents_in = are.within;
      numbers_long = numbered.long;
      numbered = numbered.says;
      shared = λ key e g. entry_up key e (index.shared key e g);
      own = λ key e g. entry_up key e (index.own key e g);
      waiting_in = λ n c. elim ((waits n).0 c) [ inl d ↦ wide n (index.waiting_in n d) | inr d ↦ d.1 ];
      by_own_in = λ n c. wide n (index.by_own_in n c);
    }

    pub grown_tracked : ((n : ℕ) → n < from → IsTracked (take from nodes) old n) → (n : ℕ) → n < length nodes → IsTracked nodes grown n
    grown_tracked tracked n lt = by order
      where
        order : (n < from) ⊎ (from ≤ n)
        order = grind arith

        old_one : n < from → IsTracked (take from nodes) old n → IsTracked nodes grown n
        old_one l (inl c) = inl ((waits n).1 (inl c))
        old_one l (inr f) =
            let entry = found_entry (take from nodes) old (key_of old.parts.labels f.node) f.e index f.finds in
            let e = kids_still f.node.kids (λ k c. index.kids n k f.node f.is c) in
            inr (record {
              node = f.node;
              e = f.e;
              is = up n f.node f.is;
              finds = ap (λ (ls : List ℕ). found_by old (node_of f.node.op ls)) e ∙ f.finds;
              one = one_up f.e n (slice_get_within (take from nodes) f.e _ entry.is) (slice_get_within (take from nodes) n f.node f.is) f.one;
              noted = subst (λ (ls : List ℕ). (found_in old.own (node_of f.node.op ls) ≡ None) ⊎ Contains old.by_own n) (sym e) f.noted;
            })

        by : (n < from) ⊎ (from ≤ n) → IsTracked nodes grown n
        by (inl l) = old_one l (tracked n l)
        by (inr l) = inl ((waits n).1 (inr (l, lt)))
