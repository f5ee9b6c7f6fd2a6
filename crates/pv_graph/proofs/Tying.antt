-- Thetas that are begun and tied, and the base that is closed.
use Rattle.std.specs.Prelude.{◌≡◌, ◌≢◌, ◌⊎◌, ℕ, zero, suc, ◌+◌, ◌<◌, ◌≤◌, ◌^◌, Bool, true, false, min, List, [], ◌∷◌, ◌++◌, length, Option, Some, None, slice_get, slice_set, if◌then◌else◌, refl}
use Rattle.std.specs.List.{AllZip}
use Rattle.std.proofs.Common.{inl, inr, sym, ap, ◌∙◌, subst, arith, get_or, ◌≤◌, false}
use Rattle.std.proofs.lemmas.Option.{slice_get_within, slice_get_read, same_Some}
use Rattle.pv_graph.specs.declared.node.Op.{Op}
use Rattle.pv_graph.specs.declared.node.Op.TheVariants as op
use Rattle.pv_graph.specs.declared.node.Node.{Node}
use Rattle.pv_graph.specs.declared.node.OpSort.{OpSort}
use Rattle.pv_graph.specs.declared.node.OpSort.TheVariants.{I, L, A, N, F, T, H, R}
use Rattle.pv_graph.specs.declared.prepared.Prepared.{Prepared}
use Rattle.pv_graph.proofs.Elements.{found}
use Rattle.pv_graph.specs.Nodes.{node_of, AreTied, IsOpen, IsFirst, IsAbsent}
use Rattle.pv_graph.specs.Ops.{is_depth, alike, sort_over, HasSort, is_variable}
use Rattle.pv_graph.specs.Walks.{In}
use Rattle.pv_graph.specs.Graphs.{Graph, IsUnfinished, IsRanged, IsGraph}
use Rattle.pv_graph.specs.Calls.{appended, Begun, HaveItsSort, Tied, IsFinished}
use Rattle.pv_graph.specs.Index.{Numbers, number_in, least_of, Renumbers, IsIndex}
use Rattle.pv_graph.specs.Kept.{graph_of, IsKept}
use Rattle.pv_graph.proofs.SameNodes.{same_or_other}
use Rattle.pv_graph.proofs.Appending.{index_push_open, is_graph, after_length}
use Rattle.pv_graph.proofs.CallLaws.{sorted_low}
use Rattle.pv_graph.proofs.Keeping.{appended_is}

-- ---- whether all thetas are tied

below_or_at : (n i : ℕ) → n < i + 1 → (n < i) ⊎ (n ≡ i)
below_or_at n i lt = grind arith

-- one node more that is no theta without kids
pub tied_more : (nodes : List Node) (i : ℕ) (item : Node) → i < length nodes → item ≡ get_or nodes i item → (IsOpen item → ⊥) → ((n : ℕ) (node : Node) → n < i → slice_get nodes n ≡ Some node → IsOpen node → ⊥)
    → (n : ℕ) (node : Node) → n < i + 1 → slice_get nodes n ≡ Some node → IsOpen node → ⊥
tied_more nodes i item within is closed so_far n node lt at open_ = elim (below_or_at n i lt) [
  | inl low ↦ so_far n node low at open_
  | inr here ↦
      let there = slice_get_read nodes (length nodes) i item refl within is in
      let same : node ≡ item = same_Some node item (sym at ∙ ap (slice_get nodes) here ∙ there) in
      closed (subst IsOpen same open_)
]

pub finished_tied : (g : Graph) → IsFinished g → AreTied g.nodes
finished_tied g finished n node at open_ = finished n (open_.0, at ∙ ap Some open_.1)

pub tied_finished : (g : Graph) → AreTied g.nodes → IsFinished g
tied_finished g tied n open_ = tied n (node_of (op.Theta open_.0) []) open_.1 (open_.0, refl)

unfinished_open : (node : Node) (s : OpSort) → IsUnfinished node s → IsOpen node
unfinished_open node s un = (un.depth, ap (λ (o : Op). node_of o node.kids) un.theta_ ∙ ap (node_of (op.Theta un.depth)) un.kids)

-- the sealed graph
pub kept_sealed : (nodes : List Node) (sorts : List OpSort) (open_ : Bool) (base : ℕ) (prepared : Option Prepared) (numbers : Numbers) → IsKept (graph_of nodes sorts open_ base prepared) numbers prepared → AreTied nodes → IsKept (graph_of nodes sorts false base prepared) numbers prepared
kept_sealed nodes sorts open_ base prepared numbers is tied = record {
  graph = record {
    long = is.graph.long;
    base = is.graph.base;
    open_ = λ e. absurd (let z = e in cc);
    sorted = λ n node s at t. by n node s at (is.graph.sorted n node s at t);
    early = is.graph.early;
    late = is.graph.late;
    ranged = is.graph.ranged;
    variables = is.graph.variables;
  };
  few = is.few;
  index = is.index;
  tables = is.tables;
}
  where
    by : (n : ℕ) (node : Node) (s : OpSort) → slice_get nodes n ≡ Some node → HasSort sorts node.op node.kids s ⊎ ((open_ ≡ true) × IsUnfinished node s) → HasSort sorts node.op node.kids s ⊎ ((false ≡ true) × IsUnfinished node s)
    by n node s at (inl has) = inl has
    by n node s at (inr un) = absurd (tied n node at (unfinished_open node s un.1))

-- ---- a theta that is begun

nothing_prepared : (p : Prepared) {X : Type 0} → None ≡ Some p → X
nothing_prepared p e = absurd (cc)

module _ (g after : Graph) (numbers : Numbers) (prepared : Option Prepared) (node : Node) (d : ℕ) (s : OpSort) (is : IsKept g numbers prepared) (open_ : g.is_open ≡ true) (loop : is_depth d ≡ true) (sort_ : s ≢ R) (theta_ : node ≡ node_of (op.Theta d) [])
    (few : length g.nodes + 1 < 2 ^ 32) (nodes_ : after.nodes ≡ g.nodes ++ node ∷ []) (sorts_ : after.sorts ≡ g.sorts ++ s ∷ []) (same : after.is_open ≡ g.is_open) (base : after.base ≡ length g.nodes + 1) where
  unfinished : IsUnfinished node s
  unfinished = record { depth = d; theta_ = ap (λ (x : Node). x.op) theta_; loop = loop; kids = ap (λ (x : Node). x.kids) theta_; sort_ = sort_ }

  ranged : IsRanged node.op
  ranged = subst (λ (x : Node). IsRanged x.op) (sym theta_) tt

  pub kept_begun : IsKept after numbers None
  kept_begun = record {
    graph = is_graph g node s is.graph (inr (open_, unfinished)) after nodes_ sorts_ same ranged (λ closed. absurd (cc (closed, open_))) true open_ base;
    few = subst (λ (n : ℕ). n < 2 ^ 32) (sym (after_length g node s is.graph (inr (open_, unfinished)) after nodes_ sorts_ same)) few;
    index = subst (λ (xs : List Node). IsIndex xs numbers) (sym nodes_) (index_push_open g.nodes node numbers (d, theta_) is.index);
    tables = λ p e. nothing_prepared p e;
  }

  pub begun : Begun g after d s (length g.nodes)
  begun = record {
    number = refl;
    grows = appended_is g after node s nodes_ sorts_ same (base ∙ ap (λ (b : Bool). if b then length g.nodes + 1 else g.base) (sym open_)) ∙ ap (λ (x : Node). appended g x s after.is_prepared) theta_;
    graph = kept_begun.graph;
  }

-- ---- a theta that is tied

pub set_same : {X : Type 0} → (xs : List X) (n : ℕ) (x : X) → n < length xs → slice_get (slice_set xs n x) n ≡ Some x
set_same [] n x lt = absurd (omega arith)
set_same (y ∷ xs) zero x lt = refl
set_same (y ∷ xs) (suc n) x lt = set_same xs n x (omega arith)

pub set_other : {X : Type 0} → (xs : List X) (n : ℕ) (x : X) (k : ℕ) → k ≢ n → slice_get (slice_set xs n x) k ≡ slice_get xs k
set_other [] n x k ne = refl
set_other (y ∷ xs) zero x zero ne = absurd (ne refl)
set_other (y ∷ xs) zero x (suc k) ne = refl
set_other (y ∷ xs) (suc n) x zero ne = refl
set_other (y ∷ xs) (suc n) x (suc k) ne = set_other xs n x k (λ e. ne (ap suc e))

pub set_length : {X : Type 0} → (xs : List X) (n : ℕ) (x : X) → length (slice_set xs n x) ≡ length xs
set_length [] n x = refl
set_length (y ∷ xs) zero x = refl
set_length (y ∷ xs) (suc n) x = ap suc (set_length xs n x)

pub equal_or_not : (a b : ℕ) → (a ≡ b) ⊎ (a ≢ b)
equal_or_not a b = grind arith

below_or_not : (a b : ℕ) → (a < b) ⊎ (b ≤ a)
below_or_not a b = grind arith

module _ (nodes : List Node) (n : ℕ) (before node : Node) (at : slice_get nodes n ≡ Some before) (open_ : IsOpen before) (tied : IsOpen node → ⊥) where
  abbrev after : List Node
  after = slice_set nodes n node

  here : slice_get after n ≡ Some node
  here = set_same nodes n node (slice_get_within nodes n before at)

  first_at : (k : ℕ) → slice_get after k ≡ Some node → ((m : ℕ) → m < k → m ≢ n → slice_get nodes m ≡ Some node → ⊥) → k ≤ n → IsFirst after node k
  first_at k there less low = record {
    there = there;
    least = λ m lt e. (let ne : m ≢ n = omega arith in less m lt ne (sym (set_other nodes n node m ne) ∙ e));
  }

  first_node : (numbers : Numbers) → IsIndex nodes numbers → (o : Option ℕ) → number_in numbers node ≡ o → IsFirst after node (least_of o n)
  first_node numbers is None e = first_at n here (λ m lt ne at. is.all node e tied m at) (omega arith)
  first_node numbers is (Some m) e = elim (below_or_not m n) [
    | inl lt ↦
        let first = is.first node m e in
        let one : min m n ≡ m = grind arith in
        let ne : m ≢ n = omega arith in
        subst (λ (k : ℕ). IsFirst after node k) (sym one) (first_at m (set_other nodes n node m ne ∙ first.there) (λ k low _ at. first.least k low at) (omega arith))
    | inr le ↦
        let first = is.first node m e in
        let one : min m n ≡ n = grind arith in
        subst (λ (k : ℕ). IsFirst after node k) (sym one) (first_at n here (λ k low _ at. first.least k (omega arith) at) (omega arith))
  ]

  -- a node with a number isn't the theta that is tied
  apart : (numbers : Numbers) → IsIndex nodes numbers → (other : Node) (k : ℕ) → number_in numbers other ≡ Some k → k ≢ n
  apart numbers is other k e same =
      let first = is.first other k e in
      let one : other ≡ before = same_Some other before (sym first.there ∙ ap (slice_get nodes) same ∙ at) in
      let none = is.tied other (subst IsOpen (sym one) open_) in
      absurd (cc)

  first_other : (other : Node) (k : ℕ) → other ≢ node → k ≢ n → IsFirst nodes other k → IsFirst after other k
  first_other other k differ ne first = record { there = set_other nodes n node k ne ∙ first.there; least = λ m lt e. less m lt e (equal_or_not m n) }
    where
      less : (m : ℕ) → m < k → slice_get after m ≡ Some other → (m ≡ n) ⊎ (m ≢ n) → ⊥
      less m lt e (inl same) = differ (same_Some other node (sym e ∙ ap (slice_get after) same ∙ here))
      less m lt e (inr other_) = first.least m lt (sym (set_other nodes n node m other_) ∙ e)

  absent_other : (other : Node) → other ≢ node → IsAbsent nodes other → IsAbsent after other
  absent_other other differ absent m e = elim (equal_or_not m n) [
    | inl same ↦ differ (same_Some other node (sym e ∙ ap (slice_get after) same ∙ here))
    | inr ne ↦ absent m (sym (set_other nodes n node m ne) ∙ e)
  ]

  pub index_tied : (old new : Numbers) → IsIndex nodes old → Renumbers old new node (least_of (number_in old node) n) → IsIndex after new
  index_tied old new is by = record {
    first = λ other k e. elim (same_or_other other node) [
      | inl same ↦
          let one : k ≡ least_of (number_in old node) n = (let z = ap (number_in new) same ∙ by.here in cc) in
          subst (λ (m : ℕ). IsFirst after other m) (sym one) (subst (λ (x : Node). IsFirst after x (least_of (number_in old node) n)) (sym same) (first_node old is (number_in old node) refl))
      | inr differ ↦
          let before_ = sym (by.others other differ) ∙ e in
          first_other other k differ (apart old is other k before_) (is.first other k before_)
    ];
    tied = λ other opened. by.others other (λ same. tied (subst IsOpen same opened)) ∙ is.tied other opened;
    all = λ other e closed. elim (same_or_other other node) [
      | inl same ↦ absurd (let z = ap (number_in new) same ∙ by.here in cc)
      | inr differ ↦ absent_other other differ (is.all other (sym (by.others other differ) ∙ e) closed)
    ];
  }

-- two kids of one sort
alike_two : (s : OpSort) → s ≢ R → alike (s ∷ s ∷ []) ≡ Some s
alike_two R ne = absurd (ne refl)
alike_two I ne = refl
alike_two L ne = refl
alike_two A ne = refl
alike_two N ne = refl
alike_two F ne = refl
alike_two T ne = refl
alike_two H ne = refl

module _ (g : Graph) (is : IsGraph g) (n d first second : ℕ) (at : slice_get g.nodes n ≡ Some (node_of (op.Theta d) [])) (fits : HaveItsSort g n first second) where
  abbrev tied_node : Node
  tied_node = node_of (op.Theta d) (first ∷ second ∷ [])

  abbrev tied_nodes : List Node
  tied_nodes = slice_set g.nodes n tied_node

  sort_of_it : (s : OpSort) × (slice_get g.sorts n ≡ Some s)
  sort_of_it = found g.sorts n (omega (arith, is.long, slice_get_within g.nodes n (node_of (op.Theta d) []) at))

  no_kids : (s : OpSort) → HasSort g.sorts (op.Theta d) [] s → ⊥
  no_kids s has = by has.sorts has.kids_have has.over (is_depth d)
    where
      by : (ss : List OpSort) → AllZip (λ k t. slice_get g.sorts k ≡ Some t) [] ss → sort_over (op.Theta d) ss ≡ Some s → Bool → ⊥
      by [] h e b = stuck (is_depth d) e
        where
          stuck : (b : Bool) → (if b then None else None) ≡ Some s → ⊥
          stuck true e = absurd (cc)
          stuck false e = absurd (cc)
      by (t ∷ ts) h e b = absurd h

  unfinished_there : (g.is_open ≡ true) × IsUnfinished (node_of (op.Theta d) []) sort_of_it.0
  unfinished_there = elim (is.sorted n (node_of (op.Theta d) []) sort_of_it.0 at sort_of_it.1) [ inl has ↦ absurd (no_kids sort_of_it.0 has) | inr un ↦ un ]

  loop_there : is_depth d ≡ true
  loop_there =
      let same : unfinished_there.1.depth ≡ d = (let z = unfinished_there.1.theta_ in cc) in
      ap is_depth (sym same) ∙ unfinished_there.1.loop

  has_tied : HasSort g.sorts (op.Theta d) (first ∷ second ∷ []) sort_of_it.0
  has_tied = record {
    sorts = sort_of_it.0 ∷ sort_of_it.0 ∷ [];
    kids_have = (fits.0 ∙ sort_of_it.1, (fits.1 ∙ sort_of_it.1, tt));
    over = ap (λ (b : Bool). if b then alike (sort_of_it.0 ∷ sort_of_it.0 ∷ []) else None) loop_there ∙ alike_two sort_of_it.0 unfinished_there.1.sort_;
  }

  kid_there : (k : ℕ) → In (first ∷ second ∷ []) k → k < length g.nodes
  kid_there k m = sorted_low g is (first ∷ second ∷ []) has_tied.sorts has_tied.kids_have k m

  -- what holds of each node but the tied one, and of that
  each_node : (P : ℕ → Node → Type 0) → P n tied_node → ((k : ℕ) (node : Node) → slice_get g.nodes k ≡ Some node → P k node) → (k : ℕ) (node : Node) → slice_get tied_nodes k ≡ Some node → P k node
  each_node P here_ others k node e = elim (equal_or_not k n) [
    | inl same ↦
        let there = set_same g.nodes n tied_node (slice_get_within g.nodes n (node_of (op.Theta d) []) at) in
        let one : tied_node ≡ node = same_Some tied_node node (sym there ∙ ap (slice_get tied_nodes) (sym same) ∙ e) in
        subst (λ (x : Node). P k x) one (subst (λ (m : ℕ). P m tied_node) (sym same) here_)
    | inr ne ↦ others k node (sym (set_other g.nodes n tied_node k ne) ∙ e)
  ]

  base_all : g.base ≡ length g.nodes
  base_all = is.open_ unfinished_there.0

  pub tied_graph : (prepared : Bool) → IsGraph (record g { nodes = tied_nodes; is_prepared = prepared })
  tied_graph prepared = record {
    long = is.long ∙ sym (set_length g.nodes n tied_node);
    base = subst (λ (k : ℕ). g.base ≤ k) (sym (set_length g.nodes n tied_node)) is.base;
    open_ = λ e. is.open_ e ∙ sym (set_length g.nodes n tied_node);
    sorted = λ k node s at_ sort_at. each_node (λ m x. (t : OpSort) → slice_get g.sorts m ≡ Some t → HasSort g.sorts x.op x.kids t ⊎ ((g.is_open ≡ true) × IsUnfinished x t))
        (λ t e. inl (subst (λ (u : OpSort). HasSort g.sorts (op.Theta d) (first ∷ second ∷ []) u) (same_Some sort_of_it.0 t (sym sort_of_it.1 ∙ e)) has_tied))
        (λ m x there t e. is.sorted m x t there e) k node at_ s sort_at;
    early = λ k j node at_ low m. each_node (λ i x. i < g.base → In x.kids j → j < g.base) (λ _ y. (let z = kid_there j y in let b = base_all in omega arith)) (λ i x there l y. is.early i j x there l y) k node at_ low m;
    late = λ k j node at_ high m. each_node (λ i x. i < length g.nodes → g.base ≤ i → In x.kids j → j < i) (λ lt le _. (let b = base_all in absurd (omega arith))) (λ i x there _ le y. is.late i j x there le y) k node at_
        (let z = slice_get_within tied_nodes k node at_ in let l = set_length g.nodes n tied_node in omega arith) high m;
    ranged = λ k node at_. each_node (λ i x. IsRanged x.op) tt (λ i x there. is.ranged i x there) k node at_;
    variables = λ k node at_ high. each_node (λ i x. g.base ≤ i → is_variable x.op ≡ false) (λ z. refl) (λ i x there z. is.variables i x there z) k node at_ high;
  }

pub kept_tied : (g : Graph) (old new : Numbers) (prepared : Option Prepared) (n d first second : ℕ) → IsKept g old prepared → slice_get g.nodes n ≡ Some (node_of (op.Theta d) []) → HaveItsSort g n first second
    → Renumbers old new (node_of (op.Theta d) (first ∷ second ∷ [])) (least_of (number_in old (node_of (op.Theta d) (first ∷ second ∷ []))) n)
    → IsKept (record g { nodes = slice_set g.nodes n (node_of (op.Theta d) (first ∷ second ∷ [])); is_prepared = false }) new None
kept_tied g old new prepared n d first second is at fits by = record {
  graph = tied_graph g is.graph n d first second at fits false;
  few = subst (λ (k : ℕ). k < 2 ^ 32) (sym (set_length g.nodes n (node_of (op.Theta d) (first ∷ second ∷ [])))) is.few;
  index = index_tied g.nodes n (node_of (op.Theta d) []) (node_of (op.Theta d) (first ∷ second ∷ [])) at (d, refl) (λ o. absurd (let z = ap (λ (x : Node). x.kids) o.1 in cc)) old new is.index by;
  tables = λ p e. nothing_prepared p e;
}

pub tied : (g : Graph) → IsGraph g → (n d first second : ℕ) → slice_get g.nodes n ≡ Some (node_of (op.Theta d) []) → HaveItsSort g n first second → (prepared : Bool)
    → Tied g (record g { nodes = slice_set g.nodes n (node_of (op.Theta d) (first ∷ second ∷ [])); is_prepared = prepared }) n first second
tied g is n d first second at fits prepared = record { theta_ = (d, at); fits = fits; tied = refl; graph = tied_graph g is n d first second at fits prepared }
