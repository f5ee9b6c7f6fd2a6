-- Walks from a base on.
use Rattle.std.proofs.Common.{◌≡◌, ℕ, zero, suc, ◌<◌, ◌≤◌, List, [], ◌∷◌, Option, Some, slice_get, inl, inr, ⊎_elim, sym, ap, ◌∙◌, subst, arith}
use Rattle.pv_build.proofs.Words.{cases_lt, same_Some, Op, shape, Form, In, Move, still, down, jump, move_to, stop, step, Graph, form_at, StaysIn, node_at, IsInside, HasBase}
use Rattle.pv_graph.specs.declared.node.Op.TheVariants as op
use Rattle.pv_graph.specs.Walks.{Edge, Walk}

-- a step from an operation inside a depth
move_in : (d : ℕ) (o : Op) (place : ℕ) → IsInside d o → (e : ℕ) → (move_to (shape o) place ≡ down e → d ≤ e) × (move_to (shape o) place ≡ jump e → d < e)
move_in d (op.Theta k) zero inside e = ((λ q. absurd (let z : still ≡ down e = q in cc)), (λ q. absurd (let z : still ≡ jump e = q in cc)))
move_in d (op.Theta k) (suc p) inside e = (
  (λ q. let z : down k ≡ down e = q in let same : k ≡ e = cc in (inside e).0 (ap op.Theta same)),
  (λ q. absurd (let z : down k ≡ jump e = q in cc)),
)
move_in d (op.Eval k) p inside e = (
  (λ q. absurd (let z : jump k ≡ down e = q in cc)),
  (λ q. let z : jump k ≡ jump e = q in let same : k ≡ e = cc in (inside e).1 (ap op.Eval same)),
)
move_in d (op.Pass k) p inside e = (
  (λ q. absurd (let z : jump k ≡ down e = q in cc)),
  (λ q. let z : jump k ≡ jump e = q in let same : k ≡ e = cc in (inside e).2 (ap op.Pass same)),
)
move_in d (op.Shift k) p inside e = (
  (λ q. absurd (let z : jump k ≡ down e = q in cc)),
  (λ q. let z : jump k ≡ jump e = q in let same : k ≡ e = cc in (inside e).3 (ap op.Shift same)),
)
move_in d o p inside e = ((λ q. absurd (let z : still ≡ down e = q in cc)), (λ q. absurd (let z : still ≡ jump e = q in cc)))

in_place : (ks : List ℕ) (p k : ℕ) → slice_get ks p ≡ Some k → In ks k
in_place [] p k e = absurd (cc)
in_place (l ∷ ks) zero k e = inl (same_Some l k e)
in_place (l ∷ ks) (suc p) k e = inr (in_place ks p k e)

module _ (g : Graph) (base d : ℕ) (is : HasBase g base d) where
  abbrev view : ℕ → Option (Form ℕ)
  view = form_at g.nodes

  edge_low : (p k : ℕ) (m : Move) → p < base → Edge view p m k → k < base
  edge_low p k m low e =
      let x = node_at g.nodes p e.o e.ks e.is in
      is.shut p k x.0 x.1 low (subst (λ (zs : List ℕ). In zs k) (sym x.3) (in_place e.ks e.place k e.there))

  walk_low : (p q : ℕ) (ms : List Move) → p < base → Walk view p ms q → q < base
  walk_low p q ms low (stop c) = low
  walk_low p q ms low (step c k o m js e w) = walk_low k o js (edge_low c k m low e) w

  -- no walk leads from before the base to a node from there on
  pub apart : (p n : ℕ) → p < base → base ≤ n → (ms : List Move) → Walk view p ms n → ⊥
  apart p n low high ms w = let z = walk_low p n ms low w in omega (arith, z, high)

  edge_in : (p k : ℕ) (m : Move) → base ≤ p → Edge view p m k → (e : ℕ) → (m ≡ down e → d ≤ e) × (m ≡ jump e → d < e)
  edge_in p k m high x e =
      let y = node_at g.nodes p x.o x.ks x.is in
      let s = move_in d x.o x.place (subst (IsInside d) y.2 (is.inside p y.0 y.1 high)) e in
      ((λ q. s.0 (sym x.moves ∙ q)), (λ q. s.1 (sym x.moves ∙ q)))

  -- a walk to a node from the base on stays there
  high_from : (p n : ℕ) (ms : List Move) → base ≤ n → Walk view p ms n → base ≤ p
  high_from p n ms high w = ⊎_elim (λ (low : p < base). absurd (apart p n low high ms w)) (λ ge. ge) (cases_lt p base)

  pub stays : (p n : ℕ) (ms : List Move) → base ≤ n → Walk view p ms n → StaysIn d ms
  stays p n ms high (stop c) e = ((λ i. absurd i), (λ i. absurd i))
  stays p n ms high (step c k o m js edge w) e =
      let here = edge_in c k m (high_from c o (m ∷ js) high (step c k o m js edge w)) edge e in
      let rest = stays k o js high w e in
      ((λ i. ⊎_elim (λ q. here.0 q) (λ q. rest.0 q) i), (λ i. ⊎_elim (λ q. here.1 q) (λ q. rest.1 q) i))
