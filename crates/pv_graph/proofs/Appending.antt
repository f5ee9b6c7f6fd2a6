-- A graph with one node more.
use Rattle.std.specs.Prelude.{◌≡◌, ◌≢◌, ◌⊎◌, ℕ, ◌+◌, ◌<◌, Bool, true, false, List, [], ◌∷◌, ◌++◌, length, Some, None, slice_get, if◌then◌else◌, refl}
use Rattle.std.proofs.Common.{inl, inr, sym, ap, ◌∙◌, subst, arith, length-append, take, get_or, ◌≤◌, false}
use Rattle.std.proofs.lemmas.List.{take_more, length-take-le}
use Rattle.std.proofs.lemmas.Option.{slice_get_within}
use Rattle.pv_graph.specs.declared.node.Op.{Op}
use Rattle.pv_graph.specs.declared.node.OpSort.{OpSort}
use Rattle.pv_graph.specs.declared.node.Node.{Node}
use Rattle.pv_graph.proofs.Elements.{get_front, get_last, push_cases}
use Rattle.pv_graph.specs.Nodes.{IsOpen, IsFirst, IsAbsent}
use Rattle.pv_graph.specs.Ops.{HaveSorts, HasSort, is_variable}
use Rattle.pv_graph.specs.Walks.{In}
use Rattle.pv_graph.specs.Graphs.{Graph, IsUnfinished, IsRanged, IsGraph}
use Rattle.pv_graph.specs.Calls.{appended}
use Rattle.pv_graph.specs.Index.{Numbers, number_in, Renumbers, IsIndex}
use Rattle.pv_graph.proofs.SameNodes.{same_or_other}
use Rattle.pv_graph.proofs.CallLaws.{sorted_low}
use Rattle.pv_graph.proofs.NodeLaws.{kid_within}

-- ---- the index

pub index_same : (nodes : List Node) (old new : Numbers) → ((node : Node) → number_in new node ≡ number_in old node) → IsIndex nodes old → IsIndex nodes new
index_same nodes old new same is = record {
  first = λ node n e. is.first node n (sym (same node) ∙ e);
  tied = λ node open_. same node ∙ is.tied node open_;
  all = λ node e tied. is.all node (sym (same node) ∙ e) tied;
}

module _ (nodes : List Node) (node : Node) where
  first_stays : (other : Node) (n : ℕ) → IsFirst nodes other n → IsFirst (nodes ++ node ∷ []) other n
  first_stays other n is =
      let lt = slice_get_within nodes n other is.there in
      record {
        there = get_front nodes node n lt ∙ is.there;
        least = λ m low at. is.least m low (sym (get_front nodes node m (omega arith)) ∙ at);
      }

  pub first_last : IsAbsent nodes node → IsFirst (nodes ++ node ∷ []) node (length nodes)
  first_last absent = record { there = get_last nodes node; least = λ m low at. absent m (sym (get_front nodes node m low) ∙ at) }

  absent_stays : (other : Node) → IsAbsent nodes other → other ≢ node → IsAbsent (nodes ++ node ∷ []) other
  absent_stays other absent ne m at = elim (push_cases nodes node other m at) [ inl old ↦ absent m old | inr last ↦ ne (sym last.1) ]

  -- a node that has its number
  pub index_push : (old new : Numbers) → IsAbsent nodes node → (IsOpen node → ⊥) → Renumbers old new node (length nodes) → IsIndex nodes old → IsIndex (nodes ++ node ∷ []) new
  index_push old new absent tied by is = record {
    first = λ other n e. elim (same_or_other other node) [
      | inl same ↦
          let one : n ≡ length nodes = (let here = ap (number_in new) same ∙ by.here in cc) in
          subst (λ (k : ℕ). IsFirst (nodes ++ node ∷ []) other k) (sym one) (subst (λ (x : Node). IsFirst (nodes ++ node ∷ []) x (length nodes)) (sym same) (first_last absent))
      | inr ne ↦ first_stays other n (is.first other n (sym (by.others other ne) ∙ e))
    ];
    tied = λ other open_. by.others other (λ same. tied (subst IsOpen same open_)) ∙ is.tied other open_;
    all = λ other e closed. elim (same_or_other other node) [
      | inl same ↦ absurd (let here = ap (number_in new) same ∙ by.here in cc)
      | inr ne ↦ absent_stays other (is.all other (sym (by.others other ne) ∙ e) closed) ne
    ];
  }

  -- a theta that is not tied, which gets none
  pub index_push_open : (numbers : Numbers) → IsOpen node → IsIndex nodes numbers → IsIndex (nodes ++ node ∷ []) numbers
  index_push_open numbers open_ is = record {
    first = λ other n e. first_stays other n (is.first other n e);
    tied = is.tied;
    all = λ other e closed. absent_stays other (is.all other e closed) (λ same. closed (subst IsOpen (sym same) open_));
  }

-- ---- sorts

-- one sort more leaves those of the kids
have_more : (all : List OpSort) (t : OpSort) (kids : List ℕ) (sorts : List OpSort) → HaveSorts all kids sorts → HaveSorts (all ++ t ∷ []) kids sorts
have_more all t [] [] h = tt
have_more all t [] (s ∷ ss) h = absurd h
have_more all t (k ∷ ks) [] h = absurd h
have_more all t (k ∷ ks) (s ∷ ss) h = (get_front all t k (slice_get_within all k s h.0) ∙ h.0, have_more all t ks ss h.1)

has_more : (all : List OpSort) (t : OpSort) (o : Op) (kids : List ℕ) (s : OpSort) → HasSort all o kids s → HasSort (all ++ t ∷ []) o kids s
has_more all t o kids s h = record { sorts = h.sorts; kids_have = have_more all t kids h.sorts h.kids_have; over = h.over }

-- ---- the graph

-- a node whose operation has this sort over its kids, or a theta of an open graph that is not tied
abbrev pub IsNew : Graph → Node → OpSort → Type 0
IsNew g node s = HasSort g.sorts node.op node.kids s ⊎ ((g.is_open ≡ true) × IsUnfinished node s)

module _ (g : Graph) (node : Node) (s : OpSort) (is : IsGraph g) (new : IsNew g node s) where
  kids_low : (k : ℕ) → In node.kids k → k < length g.nodes
  kids_low k m = elim new [
    | inl has ↦ sorted_low g is node.kids has.sorts has.kids_have k m
    | inr un ↦ absurd (subst (λ (ks : List ℕ). In ks k) un.1.kids m)
  ]

  module _ (after : Graph) (nodes_ : after.nodes ≡ g.nodes ++ node ∷ []) (sorts_ : after.sorts ≡ g.sorts ++ s ∷ []) (same : after.is_open ≡ g.is_open) where
    new_sorted : (n : ℕ) (y : Node) (t : OpSort) → slice_get after.nodes n ≡ Some y → slice_get after.sorts n ≡ Some t → HasSort after.sorts y.op y.kids t ⊎ ((after.is_open ≡ true) × IsUnfinished y t)
    new_sorted n y t at_y at_t = subst (λ (all : List OpSort). HasSort all y.op y.kids t ⊎ ((after.is_open ≡ true) × IsUnfinished y t)) (sym sorts_)
        (elim (push_cases g.nodes node y n (ap (λ (xs : List Node). slice_get xs n) (sym nodes_) ∙ at_y)) [
          | inl old_y ↦ elim (push_cases g.sorts s t n (ap (λ (xs : List OpSort). slice_get xs n) (sym sorts_) ∙ at_t)) [
            | inl old_t ↦ more y t (is.sorted n y t old_y old_t)
            | inr last_t ↦ absurd (omega (arith, last_t.0, is.long, slice_get_within g.nodes n y old_y))
          ]
          | inr last_y ↦ elim (push_cases g.sorts s t n (ap (λ (xs : List OpSort). slice_get xs n) (sym sorts_) ∙ at_t)) [
            | inl old_t ↦ absurd (omega (arith, last_y.0, is.long, slice_get_within g.sorts n t old_t))
            | inr last_t ↦ more y t (subst (λ (z : Node). IsNew g z t) last_y.1 (subst (λ (z : OpSort). IsNew g node z) last_t.1 new))
          ]
        ])
      where
        more : (y : Node) (t : OpSort) → IsNew g y t → HasSort (g.sorts ++ s ∷ []) y.op y.kids t ⊎ ((after.is_open ≡ true) × IsUnfinished y t)
        more y t (inl has) = inl (has_more g.sorts s y.op y.kids t has)
        more y t (inr un) = inr (same ∙ un.0, un.1)

    -- a kid of each node is an old node
    kid_old : (n k : ℕ) (y : Node) → slice_get after.nodes n ≡ Some y → In y.kids k → ((slice_get g.nodes n ≡ Some y) × (n < length g.nodes)) ⊎ ((n ≡ length g.nodes) × (k < length g.nodes))
    kid_old n k y at m = elim (push_cases g.nodes node y n (ap (λ (xs : List Node). slice_get xs n) (sym nodes_) ∙ at)) [
      | inl old ↦ inl (old, slice_get_within g.nodes n y old)
      | inr last ↦ inr (last.0, kids_low k (subst (λ (z : Node). In z.kids k) (sym last.1) m))
    ]

    new_ranged : IsRanged node.op → (n : ℕ) (y : Node) → slice_get after.nodes n ≡ Some y → IsRanged y.op
    new_ranged ranged n y at = elim (push_cases g.nodes node y n (ap (λ (xs : List Node). slice_get xs n) (sym nodes_) ∙ at)) [
      | inl old ↦ is.ranged n y old
      | inr last ↦ subst (λ (z : Node). IsRanged z.op) last.1 ranged
    ]

    new_variables : (g.is_open ≡ false → is_variable node.op ≡ false) → (n : ℕ) (y : Node) → slice_get after.nodes n ≡ Some y → g.base ≤ n → g.is_open ≡ false → is_variable y.op ≡ false
    new_variables none n y at high closed = elim (push_cases g.nodes node y n (ap (λ (xs : List Node). slice_get xs n) (sym nodes_) ∙ at)) [
      | inl old ↦ is.variables n y old high
      | inr last ↦ subst (λ (z : Node). is_variable z.op ≡ false) last.1 (none closed)
    ]

    pub after_length : length after.nodes ≡ length g.nodes + 1
    after_length = ap (λ (xs : List Node). length xs) nodes_ ∙ length-append g.nodes (node ∷ [])

    after_long : length after.sorts ≡ length after.nodes
    after_long = ap (λ (xs : List OpSort). length xs) sorts_ ∙ length-append g.sorts (s ∷ []) ∙ ap (λ (n : ℕ). n + 1) is.long ∙ sym after_length

    pub is_graph : IsRanged node.op → (g.is_open ≡ false → is_variable node.op ≡ false) → (b : Bool) → g.is_open ≡ b → after.base ≡ (if b then length g.nodes + 1 else g.base) → IsGraph after
    is_graph ranged none true open_ base = record {
      long = after_long;
      base = omega (arith, after_length);
      open_ = λ e. base ∙ sym after_length;
      sorted = new_sorted;
      early = λ n k y at low m. elim (kid_old n k y at m) [ inl old ↦ (let z = kid_within g is n k y old.0 m in omega arith) | inr last ↦ omega arith ];
      late = λ n k y at high m. (let z = slice_get_within after.nodes n y at in let e = after_length in absurd (omega arith));
      ranged = new_ranged ranged;
      variables = λ n y at high. (let z = slice_get_within after.nodes n y at in let e = after_length in absurd (omega arith));
    }
    is_graph ranged none false closed base = record {
      long = after_long;
      base = (let z = is.base in let e = after_length in omega arith);
      open_ = λ e. absurd (let z = same in cc);
      sorted = new_sorted;
      early = λ n k y at low m. (let z = is.base in elim (kid_old n k y at m) [ inl old ↦ (let r = is.early n k y old.0 (omega arith) m in omega arith) | inr last ↦ absurd (omega arith) ]);
      late = λ n k y at high m. elim (kid_old n k y at m) [ inl old ↦ is.late n k y old.0 (omega arith) m | inr last ↦ omega arith ];
      ranged = new_ranged ranged;
      variables = λ n y at high. new_variables none n y at (subst (λ (k : ℕ). k ≤ n) base high) closed;
    }

  pub appended_graph : (prepared : Bool) → IsRanged node.op → (g.is_open ≡ false → is_variable node.op ≡ false) → IsGraph (appended g node s prepared)
  appended_graph prepared ranged none = is_graph (appended g node s prepared) refl refl refl ranged none g.is_open refl refl

-- ---- an index made node by node

pub index_none : (numbers : Numbers) → ((node : Node) → number_in numbers node ≡ None) → IsIndex [] numbers
index_none numbers none = record {
  first = λ node n e. absurd (let z = none node in cc);
  tied = λ node open_. none node;
  all = λ node e closed m at. absurd (let z = at in cc);
}

-- a node that is there already
pub index_push_known : (nodes : List Node) (node : Node) (numbers : Numbers) (m : ℕ) → number_in numbers node ≡ Some m → IsIndex nodes numbers → IsIndex (nodes ++ node ∷ []) numbers
index_push_known nodes node numbers m known is = record {
  first = λ other n e. first_stays nodes node other n (is.first other n e);
  tied = is.tied;
  all = λ other e closed. absent_stays nodes node other (is.all other e closed) (λ same. absurd (let z = ap (number_in numbers) same in cc));
}

module _ (nodes : List Node) (i : ℕ) (node : Node) (within : i < length nodes) (is_node : node ≡ get_or nodes i node) where
  taken : take (i + 1) nodes ≡ take i nodes ++ node ∷ []
  taken = take_more nodes i node within ∙ ap (λ (x : Node). take i nodes ++ x ∷ []) (sym is_node)

  pub index_more_open : (numbers : Numbers) → IsOpen node → IsIndex (take i nodes) numbers → IsIndex (take (i + 1) nodes) numbers
  index_more_open numbers open_ is = subst (λ (xs : List Node). IsIndex xs numbers) (sym taken) (index_push_open (take i nodes) node numbers open_ is)

  pub index_more_known : (numbers : Numbers) (m : ℕ) → number_in numbers node ≡ Some m → IsIndex (take i nodes) numbers → IsIndex (take (i + 1) nodes) numbers
  index_more_known numbers m known is = subst (λ (xs : List Node). IsIndex xs numbers) (sym taken) (index_push_known (take i nodes) node numbers m known is)

  pub index_more : (old new : Numbers) → (IsOpen node → ⊥) → number_in old node ≡ None → Renumbers old new node i → IsIndex (take i nodes) old → IsIndex (take (i + 1) nodes) new
  index_more old new tied none by is =
      let short : length (take i nodes) ≡ i = length-take-le i nodes (omega arith) in
      subst (λ (xs : List Node). IsIndex xs new) (sym taken)
      (index_push (take i nodes) node old new (is.all node none tied) tied (subst (λ (k : ℕ). Renumbers old new node k) (sym short) by) is)
