-- What tests of nodes by their numbers say of the cycles of a graph.
use Rattle.std.specs.Prelude.{◌≡◌, ◌⊎◌, ℕ, zero, suc, ◌+◌, ◌<◌, ◌≤◌, Bool, true, false, List, [], ◌∷◌, length, Option, Some, slice_get, refl}
use Rattle.std.proofs.Common.{get_or, take, true≢false, inl, inr, sym, ap, ◌∙◌, subst, arith}
use Rattle.std.proofs.lemmas.Option.{slice_get-get_or, slice_get_within, same_Some}
use Rattle.std.specs.List.{list_any}
use Rattle.std.proofs.lemmas.List.Folds.{list_any_at}
use Rattle.pv_graph.specs.contracts.node.NodePartialEq.TheImpl.{eq-value as node_eq}
use Rattle.pv_graph.specs.contracts.node.NodeEq.TheImpl.Laws.{laws-law}
use Rattle.pv_graph.specs.declared.node.Op.{Op}
use Rattle.pv_graph.specs.declared.node.Node.{Node}
use Rattle.pv_graph.specs.Ops.{shape}
use Rattle.pv_graph.specs.Forms.{Form}
use Rattle.pv_graph.specs.Walks.{In, Move, still, down, jump, move_to, Edge, Walk, stop, step, KeepsRule}
use Rattle.pv_graph.specs.Graphs.{form_at}
use Rattle.pv_graph.specs.Calls.{IsDistinct, LeavesNoSortOpen}
use Rattle.pv_graph.proofs.Cited.{node_at, IsFlat, AreFlat}
use Rattle.cases_graphs.specs.Rules.{Falls, Rises, IsUncrossed}

low_or_high : (n m : ℕ) → (n < m) ⊎ (m ≤ n)
low_or_high n m = grind arith

-- ---- the least depth

-- the least depth of the thetas whose later kids are taken
record Least (ms : List Move) : Type 0 where
  d : ℕ
  takes : In ms (down d)
  least : (e : ℕ) → In ms (down e) → d ≤ e

same_depth : (d e : ℕ) → down d ≡ down e → d ≡ e
same_depth d e h = cc

flat_more : (m : Move) (ms : List Move) → IsFlat m → AreFlat ms → AreFlat (m ∷ ms)
flat_more m ms f fs d (inl e) = f d e
flat_more m ms f fs d (inr h) = fs d h

skip : (m : Move) (ms : List Move) → IsFlat m → AreFlat ms ⊎ Least ms → AreFlat (m ∷ ms) ⊎ Least (m ∷ ms)
skip m ms flat (inl f) = inl (flat_more m ms flat f)
skip m ms flat (inr l) = inr (record { d = l.d; takes = inr l.takes; least = λ e z. elim z [ inl y ↦ absurd (flat e y) | inr y ↦ l.least e y ] })

lower : (d : ℕ) (ms : List Move) → AreFlat ms ⊎ Least ms → Least (down d ∷ ms)
lower d ms (inl f) = record { d = d; takes = inl refl; least = λ e z. elim z [ inl y ↦ (let same = same_depth d e y in omega arith) | inr y ↦ absurd (f e y) ] }
lower d ms (inr l) = by (low_or_high l.d d)
  where
    by : (l.d < d) ⊎ (d ≤ l.d) → Least (down d ∷ ms)
    by (inl lt) = record { d = l.d; takes = inr l.takes; least = λ e z. elim z [ inl y ↦ (let same = same_depth d e y in omega arith) | inr y ↦ l.least e y ] }
    by (inr le) = record { d = d; takes = inl refl; least = λ e z. elim z [ inl y ↦ (let same = same_depth d e y in omega arith) | inr y ↦ (let more = l.least e y in omega arith) ] }

flat_or_least : (ms : List Move) → AreFlat ms ⊎ Least ms
flat_or_least [] = inl (λ d z. z)
flat_or_least (still ∷ ms) = skip still ms (λ d z. absurd (cc)) (flat_or_least ms)
flat_or_least (jump e ∷ ms) = skip (jump e) ms (λ d z. absurd (cc)) (flat_or_least ms)
flat_or_least (down d ∷ ms) = inr (lower d ms (flat_or_least ms))

least_of : (ms : List Move) → (d : ℕ) × In ms (down d) → Least ms
least_of ms h = elim (flat_or_least ms) [ inl f ↦ absurd (f h.0 h.1) | inr l ↦ l ]

-- ---- walks over numbers

module _ (view : ℕ → Option (Form ℕ)) where
  -- each step but that to the later kid of a theta falls
  abbrev pub StepsFall : Type 0
  StepsFall = (n k : ℕ) (m : Move) → Edge view n m k → (k < n) ⊎ ((d : ℕ) × (m ≡ down d))

  -- no such step of a theta of depth e or more passes a jump of depth e
  abbrev pub NonePasses : Type 0
  NonePasses = (n k t b e d : ℕ) → Edge view n (jump e) k → Edge view t (down d) b → t < n → n ≤ b → d < e

  -- each step but that to the later kid of a theta rises
  abbrev pub StepsRise : Type 0
  StepsRise = (n k : ℕ) (m : Move) → Edge view n m k → (n < k) ⊎ ((d : ℕ) × (m ≡ down d))

  -- a step that passes n, to the later kid of a theta
  record Passing (n : ℕ) (ms : List Move) : Type 0 where
    d : ℕ
    takes : In ms (down d)
    t : ℕ
    b : ℕ
    edge : Edge view t (down d) b
    below : t < n
    above : n ≤ b

  -- a jump on a walk, with the walk before it and the one after it
  record Jumping (a b : ℕ) (ms : List Move) (e : ℕ) : Type 0 where
    n : ℕ
    k : ℕ
    before : List Move
    after : List Move
    there : Walk view a before n
    edge : Edge view n (jump e) k
    back : Walk view k after b
    in_before : (x : Move) → In before x → In ms x
    in_after : (x : Move) → In after x → In ms x

  passing : StepsFall → (n a b : ℕ) (ms : List Move) → Walk view a ms b → a < n → n ≤ b → Passing n ms
  passing falls n a b ms (stop c) lt le = absurd (omega arith)
  passing falls n a b ms (step c k o m ps e w) lt le = by (low_or_high k n) (λ below. passing falls n k o ps w below le)
    where
      by : (k < n) ⊎ (n ≤ k) → (k < n → Passing n ps) → Passing n (m ∷ ps)
      by (inl below) rest = let p = rest below in record { d = p.d; takes = inr p.takes; t = p.t; b = p.b; edge = p.edge; below = p.below; above = p.above }
      by (inr above) rest = elim (falls c k m e) [
        | inl fall ↦ absurd (omega arith)
        | inr rise ↦ record { d = rise.0; takes = inl rise.1; t = c; b = k; edge = subst (λ (z : Move). Edge view c z k) rise.1 e; below = lt; above = above }
      ]

  jumping : (a b : ℕ) (ms : List Move) (e : ℕ) → Walk view a ms b → In ms (jump e) → Jumping a b ms e
  jumping a b ms e (stop c) h = absurd h
  jumping a b ms e (step c k o m ps s w) (inl here) =
      record { n = c; k = k; before = []; after = ps; there = stop c; edge = subst (λ (z : Move). Edge view c z k) here s; back = w; in_before = λ x z. absurd z; in_after = λ x z. inr z }
  jumping a b ms e (step c k o m ps s w) (inr h) =
      let j = jumping k o ps e w h in
      record { n = j.n; k = j.k; before = m ∷ j.before; after = j.after; there = step c k j.n m j.before s j.there; edge = j.edge; back = j.back; in_before = λ x z. elim z [ inl y ↦ inl y | inr y ↦ inr (j.in_before x y) ]; in_after = λ x z. inr (j.in_after x z) }

  -- a walk falls, or takes the later kid of a theta
  falling : StepsFall → (a b : ℕ) (ms : List Move) → Walk view a ms b → (b ≤ a) ⊎ ((d : ℕ) × In ms (down d))
  falling falls a b ms (stop c) = inl (omega arith)
  falling falls a b ms (step c k o m ps e w) = by (falls c k m e) (falling falls k o ps w)
    where
      by : (k < c) ⊎ ((d : ℕ) × (m ≡ down d)) → (o ≤ k) ⊎ ((d : ℕ) × In ps (down d)) → (o ≤ c) ⊎ ((d : ℕ) × In (m ∷ ps) (down d))
      by (inr y) z = inr (y.0, inl y.1)
      by (inl y) (inl z) = inl (omega arith)
      by (inl y) (inr z) = inr (z.0, inr z.1)

  round_falls : StepsFall → (a b : ℕ) (m : Move) (ms : List Move) → Walk view a (m ∷ ms) b → a ≤ b → (d : ℕ) × In (m ∷ ms) (down d)
  round_falls falls a b m ms (step c k o p ps e w) le = by (falls c k p e) (falling falls k o ps w)
    where
      by : (k < c) ⊎ ((d : ℕ) × (p ≡ down d)) → (o ≤ k) ⊎ ((d : ℕ) × In ps (down d)) → (d : ℕ) × In (p ∷ ps) (down d)
      by (inr y) z = (y.0, inl y.1)
      by (inl y) (inl z) = absurd (omega arith)
      by (inl y) (inr z) = (z.0, inr z.1)

  -- a walk rises, or takes the later kid of a theta
  rising : StepsRise → (a b : ℕ) (ms : List Move) → Walk view a ms b → (a ≤ b) ⊎ ((d : ℕ) × In ms (down d))
  rising rises a b ms (stop c) = inl (omega arith)
  rising rises a b ms (step c k o m ps e w) = by (rises c k m e) (rising rises k o ps w)
    where
      by : (c < k) ⊎ ((d : ℕ) × (m ≡ down d)) → (k ≤ o) ⊎ ((d : ℕ) × In ps (down d)) → (c ≤ o) ⊎ ((d : ℕ) × In (m ∷ ps) (down d))
      by (inr y) z = inr (y.0, inl y.1)
      by (inl y) (inl z) = inl (omega arith)
      by (inl y) (inr z) = inr (z.0, inr z.1)

  round_rises : StepsRise → (a b : ℕ) (m : Move) (ms : List Move) → Walk view a (m ∷ ms) b → b ≤ a → (d : ℕ) × In (m ∷ ms) (down d)
  round_rises rises a b m ms (step c k o p ps e w) le = by (rises c k p e) (rising rises k o ps w)
    where
      by : (c < k) ⊎ ((d : ℕ) × (p ≡ down d)) → (k ≤ o) ⊎ ((d : ℕ) × In ps (down d)) → (d : ℕ) × In (p ∷ ps) (down d)
      by (inr y) z = (y.0, inl y.1)
      by (inl y) (inl z) = absurd (omega arith)
      by (inl y) (inr z) = (z.0, inr z.1)

  -- where n is the start of a round walk, or stands below it, what passes the jump after it, or before it
  passed : StepsFall → (a : ℕ) (ms : List Move) (e : ℕ) → (j : Jumping a a ms e) → Passing j.n ms
  passed falls a ms e j = by (low_or_high a j.n) (falls j.n j.k (jump e) j.edge)
    where
      by : (a < j.n) ⊎ (j.n ≤ a) → (j.k < j.n) ⊎ ((d : ℕ) × (jump e ≡ down d)) → Passing j.n ms
      by (inl y) z = let p = passing falls j.n a j.n j.before j.there y (omega arith) in record { d = p.d; takes = j.in_before (down p.d) p.takes; t = p.t; b = p.b; edge = p.edge; below = p.below; above = p.above }
      by (inr y) (inl z) = let p = passing falls j.n j.k a j.after j.back z y in record { d = p.d; takes = j.in_after (down p.d) p.takes; t = p.t; b = p.b; edge = p.edge; below = p.below; above = p.above }
      by (inr y) (inr z) = absurd (let x = z.1 in cc)

  keeps : StepsFall → NonePasses → KeepsRule view
  keeps falls none n m ms w =
      let l = least_of (m ∷ ms) (round_falls falls n n m ms w (omega arith)) in
      record {
        d = l.d;
        takes = l.takes;
        least = l.least;
        above = λ e h. let j = jumping n n (m ∷ ms) e w h in let p = passed falls n (m ∷ ms) e j in
            let more : p.d < e = none j.n j.k p.t p.b e p.d j.edge p.edge p.below p.above in
            let less : l.d ≤ p.d = l.least p.d p.takes in
            omega arith;
      }

-- ---- lists of nodes

-- each node falls and is not crossed
abbrev pub AllFall : List Node → ℕ → Type 0
AllFall nodes len = (n : ℕ) (node : Node) → n < len → slice_get nodes n ≡ Some node → Falls n node × IsUncrossed nodes n node

-- a step to a kid, in a list of nodes
record Taken (nodes : List Node) (n : ℕ) (m : Move) (k : ℕ) : Type 0 where
  node : Node
  place : ℕ
  is : slice_get nodes n ≡ Some node
  there : slice_get node.kids place ≡ Some k
  moves : move_to (shape node.op) place ≡ m
  low : n < length nodes

taken : (nodes : List Node) (n k : ℕ) (m : Move) → Edge (form_at nodes) n m k → Taken nodes n m k
taken nodes n k m e =
    let x = node_at nodes n e.o e.ks e.is in
    record { node = x.0; place = e.place; is = x.1; there = subst (λ (ks : List ℕ). slice_get ks e.place ≡ Some k) (sym x.3) e.there; moves = ap (λ (o : Op). move_to (shape o) e.place) x.2 ∙ sym e.moves; low = slice_get_within nodes n x.0 x.1 }

pub fall_keeps : (nodes : List Node) → AllFall nodes (length nodes) → KeepsRule (form_at nodes)
fall_keeps nodes all = keeps (form_at nodes) falls none
  where
    falls : StepsFall (form_at nodes)
    falls n k m e =
        let t = taken nodes n k m e in
        elim ((all n t.node t.low t.is).0 t.place k t.there) [ inl y ↦ inl y | inr y ↦ inr (y.0, sym t.moves ∙ y.1) ]

    none : NonePasses (form_at nodes)
    none n k t b e d x y lt le =
        let j = taken nodes n k (jump e) x in
        let r = taken nodes t b (down d) y in
        (all n j.node j.low j.is).1 j.place e j.moves t r.node lt r.is r.place b r.there d r.moves le

-- each node rises
abbrev pub AllRise : List Node → ℕ → Type 0
AllRise nodes len = (n : ℕ) (node : Node) → n < len → slice_get nodes n ≡ Some node → Rises n node

-- each node is none of those before it
abbrev pub DifferBelow : List Node → ℕ → Type 0
DifferBelow nodes len = (m n : ℕ) (node : Node) → m < n → n < len → slice_get nodes n ≡ Some node → slice_get nodes m ≡ Some node → ⊥

pub rise_leaves : (nodes : List Node) → AllRise nodes (length nodes) → LeavesNoSortOpen nodes
rise_leaves nodes all n m ms w = round_rises (form_at nodes) rises n n m ms w (omega arith)
  where
    rises : StepsRise (form_at nodes)
    rises n k m e =
        let t = taken nodes n k m e in
        elim (all n t.node t.low t.is t.place k t.there) [ inl y ↦ inl y | inr y ↦ inr (y.0, sym t.moves ∙ y.1) ]

-- ---- loops over lists

-- what holds of the elements before place i, and of that at i
pub each_more : (P : ℕ → ℕ → Type 0) (xs : List ℕ) (i : ℕ) → i < length xs → ((p k : ℕ) → p < i → slice_get xs p ≡ Some k → P p k) → P i (get_or xs i 0) → (p k : ℕ) → p < i + 1 → slice_get xs p ≡ Some k → P p k
each_more P xs i lt before here p k low at = by (low_or_high p i)
  where
    by : (p < i) ⊎ (i ≤ p) → P p k
    by (inl y) = before p k y at
    by (inr y) =
        let e : i ≡ p = omega arith in
        let same : get_or xs i 0 ≡ k = same_Some (get_or xs i 0) k (sym (slice_get-get_or xs i 0 lt) ∙ ap (slice_get xs) e ∙ at) in
        subst (λ (q : ℕ). P q k) e (subst (λ (z : ℕ). P i z) same here)

-- what holds of all elements of a list that is equal
pub each_all : (P : ℕ → ℕ → Type 0) (xs ys : List ℕ) (i : ℕ) → xs ≡ ys → length xs ≤ i → ((p k : ℕ) → p < i → slice_get xs p ≡ Some k → P p k) → (p k : ℕ) → slice_get ys p ≡ Some k → P p k
each_all P xs ys i same le each p k at =
    let there : slice_get xs p ≡ Some k = ap (λ (zs : List ℕ). slice_get zs p) same ∙ at in
    let lt : p < length xs = slice_get_within xs p k there in
    each p k (omega arith) there

-- a node that is none of those before it differs from them
pub differ_more : (nodes : List Node) (i : ℕ) (node : Node) → slice_get nodes i ≡ Some node → DifferBelow nodes i → ((m : ℕ) → m < i → slice_get nodes m ≡ Some node → ⊥) → DifferBelow nodes (i + 1)
differ_more nodes i node is below here m n x lt low at same = by (low_or_high n i)
  where
    by : (n < i) ⊎ (i ≤ n) → ⊥
    by (inl y) = below m n x lt y at same
    by (inr y) =
        let e : n ≡ i = omega arith in
        let one : x ≡ node = same_Some x node (sym at ∙ ap (slice_get nodes) e ∙ is) in
        here m (omega arith) (same ∙ ap Some one)

pub differ_distinct : (nodes : List Node) (i : ℕ) → length nodes ≤ i → DifferBelow nodes i → IsDistinct nodes
differ_distinct nodes i le below a b node at at' = by (low_or_high a b) (low_or_high b a)
  where
    by : (a < b) ⊎ (b ≤ a) → (b < a) ⊎ (a ≤ b) → a ≡ b
    by (inl y) z = absurd (below a b node y (let low = slice_get_within nodes b node at' in omega arith) at' at)
    by (inr y) (inl z) = absurd (below b a node z (let low = slice_get_within nodes a node at in omega arith) at at')
    by (inr y) (inr z) = omega arith

get_take : (nodes : List Node) (n m : ℕ) → m < n → slice_get (take n nodes) m ≡ slice_get nodes m
get_take nodes zero m lt = absurd (omega arith)
get_take [] (suc n) m lt = refl
get_take (x ∷ nodes) (suc n) zero lt = refl
get_take (x ∷ nodes) (suc n) (suc m) lt = get_take nodes n m (omega arith)

-- where `==` finds no equal node before place i, there is none
pub none_before : (nodes : List Node) (i : ℕ) (node : Node) (among : Bool) → among ≡ list_any (λ y. node_eq.it y node) (take i nodes) → among ≡ false → (m : ℕ) → m < i → slice_get nodes m ≡ Some node → ⊥
none_before nodes i node among is none m lt at =
    let test : Node → Bool = λ y. node_eq.it y node in
    let front : List Node = take i nodes in
    let there : slice_get front m ≡ Some node = get_take nodes i m lt ∙ at in
    let low : m < length front = slice_get_within front m node there in
    let same : get_or front m node ≡ node = same_Some (get_or front m node) node (sym (slice_get-get_or front m node low) ∙ there) in
    let hit : list_any test front ≡ true = list_any_at test front m node low (ap test same ∙ laws-law.refl node) in
    true≢false (sym hit ∙ sym is ∙ none)

-- the node that is read at a place
pub read_at : (nodes : List Node) (i : ℕ) (node : Node) → i < length nodes → node ≡ get_or nodes i node → slice_get nodes i ≡ Some node
read_at nodes i node lt is = slice_get-get_or nodes i node lt ∙ ap Some (sym is)
