-- What is made of a method stays as it is while nodes are added.
use Rattle.std.proofs.Common.{◌≡◌, ℕ, ◌<◌, ◌≤◌, false, List, length, Some, slice_get, inl, inr, ⊎_elim, refl, sym, ap, ◌∙◌, subst, arith}
use Rattle.pv_build.proofs.Words.{cases_lt, slice_get_within, Op, Node, found, In, Graph, Extends, has_depth, IsFlat, GrowsBy, Grows, depths, same_node, names_stand, grows_wider, Method, Made, Opened, Stage, flow_in, IsInside, HasBase, IsOpened, IsAt, IsStage, IsBeyond, GrowsIn, KeepsFirst}
use Rattle.pv_graph.specs.declared.node.Op.TheVariants as op
use Rattle.pv_build.specs.declared.method.Stage.TheVariants as stage
use Rattle.pv_build.proofs.Persisting.{Persists, grown, tied_on, opened_on, closed_on, done_on}

-- ---- graphs

-- no node is lost
pub as_long : (old new : Graph) → Extends old new → length old.nodes ≤ length new.nodes
as_long old new e = go (length old.nodes) refl
  where
    go : (n : ℕ) → n ≡ length old.nodes → length old.nodes ≤ length new.nodes
    go n is = ⊎_elim
        (λ (less : length new.nodes < length old.nodes).
        let x = found old.nodes (length new.nodes) less in
        let at = slice_get_within new.nodes (length new.nodes) x.0 (e.nodes (length new.nodes) x.0 x.1) in
        absurd (omega arith))
        (λ ge. ge)
        (cases_lt (length new.nodes) (length old.nodes))

-- a node of an old number is the old one
pub old_node : (old new : Graph) → Extends old new → (n : ℕ) (x : Node) → n < length old.nodes → slice_get new.nodes n ≡ Some x → slice_get old.nodes n ≡ Some x
old_node old new e n x low at =
    let y = found old.nodes n low in
    let same : y.0 ≡ x = same_node new.nodes n y.0 x (e.nodes n y.0 y.1) at in
    y.1 ∙ ap (λ (z : Node). Some z) same

pub flat_inside : (d : ℕ) (o : Op) → IsFlat o → IsInside d o
flat_inside d o flat e = (
  (λ is. absurd (let z : has_depth (op.Theta e) ≡ false = subst IsFlat is flat in cc)),
  (λ is. absurd (let z : has_depth (op.Eval e) ≡ false = subst IsFlat is flat in cc)),
  (λ is. absurd (let z : has_depth (op.Pass e) ≡ false = subst IsFlat is flat in cc)),
  (λ is. absurd (let z : has_depth (op.Shift e) ≡ false = subst IsFlat is flat in cc)),
)

-- a theta of a depth is inside each loop of that depth or less
theta_of : (d e : ℕ) → op.Theta d ≡ op.Theta e → d ≡ e
theta_of d e is = cc

pub theta_inside : (d c : ℕ) (o : Op) → c ≤ d → o ≡ op.Theta d → IsInside c o
theta_inside d c o le is e = (
  (λ at. let z : d ≡ e = theta_of d e (sym is ∙ at) in omega (arith, le, z)),
  (λ at. absurd (let z : op.Theta d ≡ op.Eval e = sym is ∙ at in cc)),
  (λ at. absurd (let z : op.Theta d ≡ op.Pass e = sym is ∙ at in cc)),
  (λ at. absurd (let z : op.Theta d ≡ op.Shift e = sym is ∙ at in cc)),
)

eval_of : (d e : ℕ) → op.Eval d ≡ op.Eval e → d ≡ e
eval_of d e is = cc

pass_of : (d e : ℕ) → op.Pass d ≡ op.Pass e → d ≡ e
pass_of d e is = cc

-- what is beyond a region is inside each loop around it
pub beyond_inside : (d c : ℕ) (o : Op) → c ≤ d → IsBeyond d o → IsInside c o
beyond_inside d c o le (inl flat) e = flat_inside c o flat e
beyond_inside d c o le (inr (k, deep, inl is)) e = (
  (λ at. absurd (let z : op.Eval k ≡ op.Theta e = sym is ∙ at in cc)),
  (λ at. let z : k ≡ e = eval_of k e (sym is ∙ at) in omega (arith, le, deep, z)),
  (λ at. absurd (let z : op.Eval k ≡ op.Pass e = sym is ∙ at in cc)),
  (λ at. absurd (let z : op.Eval k ≡ op.Shift e = sym is ∙ at in cc)),
)
beyond_inside d c o le (inr (k, deep, inr is)) e = (
  (λ at. absurd (let z : op.Pass k ≡ op.Theta e = sym is ∙ at in cc)),
  (λ at. absurd (let z : op.Pass k ≡ op.Eval e = sym is ∙ at in cc)),
  (λ at. let z : k ≡ e = pass_of k e (sym is ∙ at) in omega (arith, le, deep, z)),
  (λ at. absurd (let z : op.Pass k ≡ op.Shift e = sym is ∙ at in cc)),
)

pub flat_beyond : (d : ℕ) (g h : Graph) → Grows g h → GrowsIn d g h
flat_beyond d g h grows = grows_wider IsFlat (IsBeyond d) g h (λ o flat. inl flat) grows

pub base_grown : (d c base : ℕ) (g h : Graph) → c ≤ d → GrowsIn d g h → HasBase g base c → HasBase h base c
base_grown d c base g h le grows b = record {
  low = let z = as_long g h grows.extends in let w = b.low in omega (arith, z, w);
  shut = λ n k x at less i. b.shut n k x (old_node g h grows.extends n x (let w = b.low in omega (arith, w, less)) at) less i;
  inside = λ n x at ge. ⊎_elim (λ old. b.inside n x old ge) (λ is. beyond_inside d c x.op le is) (grows.added n x at);
}

pub first_kept : (P : Op → Type 0) (start : ℕ) (g h : Graph) → GrowsBy P g h → KeepsFirst start g h
first_kept P start g h grows = record { graph = grows.graph; nodes = λ n x less at. grows.extends.nodes n x at; sorts = grows.extends.sorts }

pub first_then : (start : ℕ) (a b c : Graph) → KeepsFirst start a b → KeepsFirst start b c → KeepsFirst start a c
first_then start a b c p q = record { graph = q.graph; nodes = λ n x less at. q.nodes n x less (p.nodes n x less at); sorts = λ n s at. q.sorts n s (p.sorts n s at) }

-- ---- all of it

module _ (m : Method) (g h : Graph) (made : Made) (R : List ℕ) (d : ℕ) (deep : (k : ℕ) → In R k → depths (flow_in m) k ≤ d) (grows : GrowsIn d g h) where
  p : Persists g h
  p = grown (IsBeyond d) g h grows

  opened_grown : (k : ℕ) (o : Opened) → In R k → IsOpened m g made.names k o → IsOpened m h made.names k o
  opened_grown k o i is = opened_on g h p made.names made.names (λ a s n i. i) m k (λ s n x name at. grows.extends.nodes n x at) (λ s n name. name) o (base_grown d (depths (flow_in m) k) o.base g h (deep k i) grows) is

  at_grown : (k : ℕ) (st : Stage) → IsAt m g made R k st → IsAt m h made R k st
  at_grown k stage.Ahead is = is
  at_grown k (stage.Open o) is = (is.0, opened_grown k o is.0 is.1, is.2)
  at_grown k (stage.Closed c) is = (closed_on g h p made.names made.names (λ a s n i. i) m k c is.0, is.1)

  -- WHAT IS MADE SO FAR STAYS
  pub stage_grown : IsStage m g made R → IsStage m h made R
  stage_grown is = record {
    well = grows.made is.well;
    open_ = grows.open_ ∙ is.open_;
    low = let z = as_long g h grows.extends in let w = is.low in omega (arith, z, w);
    left = λ n o. is.left n (grows.left n o);
    names = names_stand (depths (flow_in m)) g.nodes h.nodes made.names p.stand is.names;
    later = is.later;
    each_name = λ k s n i. ⊎_elim (λ open_. inl (open_.0, grows.extends.nodes n _ open_.1)) (λ tied. inr (λ v eqs. tied_on g h p made.names made.names (λ a s n i. i) (flow_in m) v k s n (grows.extends.nodes n) (tied v eqs))) (is.each_name k s n i);
    blocks_size = is.blocks_size;
    blocks = λ b ran at. done_on g h p m made.names made.names (λ a s n i. i) b ran (is.blocks b ran at);
    loops_size = is.loops_size;
    loops = λ i l st at there. at_grown l.header st (is.loops i l st at there);
    opens = is.opens;
    passed = is.passed;
  }
