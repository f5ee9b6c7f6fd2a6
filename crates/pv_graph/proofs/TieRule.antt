-- A theta that is tied keeps the rule on cycles, where the walks from its kids back to it do.
use Rattle.std.specs.Prelude.{◌≡◌, ◌≢◌, ◌⊎◌, ℕ, zero, suc, ◌<◌, ◌≤◌, List, [], ◌∷◌, ◌++◌, Option, Some, slice_get, refl}
use Rattle.std.proofs.Common.{inl, inr, sym, ap, ◌∙◌, subst, arith}
use Rattle.std.proofs.lemmas.Option.{slice_get_within, same_Some}
use Rattle.pv_value.specs.Spelled.{bind}
use Rattle.pv_graph.specs.declared.node.Op.{Op}
use Rattle.pv_graph.specs.declared.node.Op.TheVariants as op
use Rattle.pv_graph.specs.declared.node.Node.{Node}
use Rattle.pv_graph.specs.Nodes.{node_of}
use Rattle.pv_graph.specs.Ops.{theta, shape}
use Rattle.pv_graph.specs.Forms.{Form, form}
use Rattle.pv_graph.specs.Walks.{In, Move, still, down, jump, move_to, Edge, Walk, stop, step, KeepsRule}
use Rattle.pv_graph.specs.Graphs.{Graph, form_of, form_at}
use Rattle.pv_graph.specs.Calls.{Tied}
use Rattle.pv_graph.specs.Laws.{StaysIn, TieKeepsRule}
use Rattle.pv_graph.proofs.NodeLaws.{form_there}
use Rattle.pv_graph.proofs.Tying.{set_same, set_other, equal_or_not}
use Rattle.pv_graph.proofs.Grounded.{walk_on}

walk_then : {N : Type 0} (view : N → Option (Form N)) (a : N) (ms : List Move) (b : N) (ns : List Move) (c : N) → Walk view a ms b → Walk view b ns c → Walk view a (ms ++ ns) c
walk_then view a ms b ns c (stop q) v = v
walk_then view a ms b ns c (step q k o m js edge w) v = step q k c m (js ++ ns) edge (walk_then view k js o ns c w v)

in_middle : (xs : List Move) (x : Move) (ys : List Move) (y : Move) → x ≡ y → In (xs ++ (x ∷ ys)) y
in_middle [] x ys y e = inl e
in_middle (z ∷ xs) x ys y e = inr (in_middle xs x ys y e)

module _ (old new : Graph) (n first second : ℕ) (tie : Tied old new n first second) where
  abbrev depth : ℕ
  depth = tie.theta_.0

  abbrev before : ℕ → Option (Form ℕ)
  before = form_at old.nodes

  abbrev now : ℕ → Option (Form ℕ)
  now = form_at new.nodes

  abbrev tied_node : Node
  tied_node = node_of (op.Theta depth) (first ∷ second ∷ [])

  at_theta : now n ≡ Some (form (op.Theta depth) (first ∷ second ∷ []))
  at_theta = form_there new.nodes n tied_node (ap (λ (g : Graph). slice_get g.nodes n) tie.tied ∙ set_same old.nodes n tied_node (slice_get_within old.nodes n (node_of (op.Theta depth) []) tie.theta_.1))

  at_other : (m : ℕ) → m ≢ n → now m ≡ before m
  at_other m ne = ap (λ (q : Option Node). bind q (λ y. Some (form_of y))) (ap (λ (g : Graph). slice_get g.nodes m) tie.tied ∙ set_other old.nodes n tied_node m ne)

  -- a step from another node is an old one
  edge_old : (p k : ℕ) (m : Move) → p ≢ n → Edge now p m k → Edge before p m k
  edge_old p k m ne e = record { o = e.o; ks = e.ks; place = e.place; is = sym (at_other p ne) ∙ e.is; there = e.there; moves = e.moves }

  -- a step from the theta goes to one of its kids
  abbrev ToKid : Move → ℕ → Type 0
  ToKid m k = ((m ≡ still) × (k ≡ first)) ⊎ ((m ≡ down depth) × (k ≡ second))

  to_kid : (m : Move) (k p : ℕ) → slice_get (first ∷ second ∷ []) p ≡ Some k → m ≡ move_to (theta depth) p → ToKid m k
  to_kid m k zero at e = inl (e, sym (same_Some first k at))
  to_kid m k (suc zero) at e = inr (e, sym (same_Some second k at))
  to_kid m k (suc (suc p)) at e = absurd (let z = at in cc)

  edge_theta : (p k : ℕ) (m : Move) → p ≡ n → Edge now p m k → ToKid m k
  edge_theta p k m same e =
      let one : form e.o e.ks ≡ form (op.Theta depth) (first ∷ second ∷ []) = same_Some (form e.o e.ks) (form (op.Theta depth) (first ∷ second ∷ [])) (sym e.is ∙ ap now same ∙ at_theta) in
      let o : e.o ≡ op.Theta depth = cc in
      let ks : e.ks ≡ first ∷ second ∷ [] = cc in
      to_kid m k e.place (ap (λ (xs : List ℕ). slice_get xs e.place) (sym ks) ∙ e.there) (e.moves ∙ ap (λ (x : Op). move_to (shape x) e.place) o)

  -- a walk to the theta has an old one that ends where the theta is first met
  to_theta : (q r : ℕ) (ms : List Move) → r ≡ n → Walk now q ms r → (ns : List Move) × Walk before q ns n
  to_theta q r ms e (stop c) = ([], subst (λ (x : ℕ). Walk before c [] x) e (stop c))
  to_theta q r ms e (step c k o m js edge w) = elim (equal_or_not c n) [
    | inl same ↦ ([], subst (λ (x : ℕ). Walk before c [] x) same (stop c))
    | inr ne ↦ let rest = to_theta k o js e w in (m ∷ rest.0, step c k n m rest.0 (edge_old c k m ne edge) rest.1)
  ]

  -- where a walk from the theta has come to: the theta, or what a kid reached before
  abbrev From : ℕ → Type 0
  From p = (p ≡ n) ⊎ (((ms : List Move) × Walk before first ms p) ⊎ ((ms : List Move) × Walk before second ms p))

  from_on : (p k : ℕ) (m : Move) → From p → Edge now p m k → From k
  from_on p k m f edge = elim (equal_or_not p n) [
    | inl same ↦ elim (edge_theta p k m same edge) [
      | inl a ↦ inr (inl ([], subst (λ (x : ℕ). Walk before first [] x) (sym a.1) (stop first)))
      | inr b ↦ inr (inr ([], subst (λ (x : ℕ). Walk before second [] x) (sym b.1) (stop second)))
    ]
    | inr ne ↦ elim f [
      | inl same ↦ absurd (ne same)
      | inr g ↦ elim g [
        | inl a ↦ inr (inl (a.0 ++ m ∷ [], walk_on before first a.0 p m k a.1 (edge_old p k m ne edge)))
        | inr b ↦ inr (inr (b.0 ++ m ∷ [], walk_on before second b.0 p m k b.1 (edge_old p k m ne edge)))
      ]
    ]
  ]

  from_walk : (p q : ℕ) (ms : List Move) → From p → Walk now p ms q → From q
  from_walk p q ms f (stop c) = f
  from_walk p q ms f (step c k o m js edge w) = from_walk k o js (from_on c k m f edge) w

  -- a step from the theta stands on the walk
  record Leaves (a b : ℕ) (ms : List Move) : Type 0 where
    k : ℕ
    m : Move
    on : In ms m
    edge : Edge now n m k
    head : List Move
    to : Walk now a head n
    tail : List Move
    back : Walk now k tail b

  parts : (a b : ℕ) (ms : List Move) → Walk now a ms b → Walk before a ms b ⊎ Leaves a b ms
  parts a b ms (stop c) = inl (stop c)
  parts a b ms (step c k o m js edge w) = elim (equal_or_not c n) [
    | inl same ↦ inr (record { k = k; m = m; on = inl refl; edge = subst (λ (x : ℕ). Edge now x m k) same edge; head = []; to = subst (λ (x : ℕ). Walk now c [] x) same (stop c); tail = js; back = w })
    | inr ne ↦ elim (parts k o js w) [
      | inl v ↦ inl (step c k o m js (edge_old c k m ne edge) v)
      | inr l ↦ inr (record { k = l.k; m = l.m; on = inr l.on; edge = l.edge; head = m ∷ l.head; to = step c k n m l.head edge l.to; tail = l.tail; back = l.back })
    ]
  ]

  module _ (apart : (ms : List Move) → Walk before first ms n → ⊥) (stays : (ms : List Move) → Walk before second ms n → StaysIn depth ms) where
    abbrev IsIn : Move → Type 0
    IsIn m = (e : ℕ) → (m ≡ down e → depth ≤ e) × (m ≡ jump e → depth < e)

    kid_in : (m : Move) (k : ℕ) → ToKid m k → IsIn m
    kid_in m k (inl a) e = ((λ x. absurd (let z = a.0 in cc)), (λ x. absurd (let z = a.0 in cc)))
    kid_in m k (inr b) e = ((λ x. let same : depth ≡ e = (let z = b.0 in cc) in omega arith), (λ x. absurd (let z = b.0 in cc)))

    -- a step on a walk from the theta back to it
    step_in : (p k : ℕ) (m : Move) → From p → Edge now p m k → (ns : List Move) → Walk now k ns n → IsIn m
    step_in p k m f edge ns w = elim (equal_or_not p n) [
      | inl same ↦ kid_in m k (edge_theta p k m same edge)
      | inr ne ↦
          let rest = to_theta k n ns refl w in
          elim f [
            | inl same ↦ absurd (ne same)
            | inr g ↦ elim g [
              | inl a ↦ absurd (apart (a.0 ++ (m ∷ rest.0)) (walk_then before first a.0 p (m ∷ rest.0) n a.1 (step p k n m rest.0 (edge_old p k m ne edge) rest.1)))
              | inr b ↦ (λ e.
                  let s = stays (b.0 ++ (m ∷ rest.0)) (walk_then before second b.0 p (m ∷ rest.0) n b.1 (step p k n m rest.0 (edge_old p k m ne edge) rest.1)) e in
                  ((λ x. s.0 (in_middle b.0 m rest.0 (down e) x)), (λ x. s.1 (in_middle b.0 m rest.0 (jump e) x))))
            ]
          ]
    ]

    all_in : (p q : ℕ) (ms : List Move) → From p → Walk now p ms q → (ns : List Move) → Walk now q ns n → (m : Move) → In ms m → IsIn m
    all_in p q ms f (stop c) ns v m y = absurd y
    all_in p q ms f (step c k o mv js edge w) ns v m y = elim y [
      | inl e ↦ subst (λ (x : Move). IsIn x) e (step_in c k mv f edge (js ++ ns) (walk_then now k js o ns n w v))
      | inr z ↦ all_in k o js (from_on c k mv f edge) w ns v m z
    ]

    -- a closed walk that leaves the theta takes its second kid
    takes_second : (m : ℕ) (ms : List Move) → (l : Leaves m m ms) → In ms (down depth)
    takes_second m ms l = elim (edge_theta n l.k l.m refl l.edge) [
      | inl a ↦
          let r = to_theta l.k n (l.tail ++ l.head) refl (walk_then now l.k l.tail m l.head n l.back l.to) in
          absurd (apart r.0 (subst (λ (x : ℕ). Walk before x r.0 n) a.1 r.1))
      | inr b ↦ subst (λ (x : Move). In ms x) b.0 l.on
    ]

    rule_kept : KeepsRule before → KeepsRule now
    rule_kept rule m mv ms w = elim (parts m m (mv ∷ ms) w) [
      | inl v ↦ rule m mv ms v
      | inr l ↦
          let from_m : From m = from_walk l.k m l.tail (from_on n l.k l.m (inl refl) l.edge) l.back in
          record {
            d = depth;
            takes = takes_second m (mv ∷ ms) l;
            least = λ e y. (all_in m m (mv ∷ ms) from_m w l.head l.to (down e) y e).0 refl;
            above = λ e y. (all_in m m (mv ∷ ms) from_m w l.head l.to (jump e) y e).1 refl;
          }
    ]

pub tie_keeps_rule : TieKeepsRule
tie_keeps_rule old new n first second made tie apart stays = record { graph = tie.graph; rule = rule_kept old new n first second tie apart stays made.rule }
