-- Cells where a loop is opened.
use Rattle.std.proofs.Common.{◌≡◌, ◌≢◌, ℕ, zero, suc, ◌+◌, ◌-◌, ◌<◌, Bool, List, [], ◌∷◌, length, Some, None, slice_get, ◌⊎◌, inl, inr, ⊎_elim, refl, sym, ap, ◌∙◌, subst, arith, if◌then◌else◌}
use Rattle.pv_build.proofs.Words.{eqb_tells, slice_get_within, Sort, some_of, Frame, OpSort, R, T, H, Graph, IsOfSort, IsSortedCell, local_slot, stack_slot, Cell, State, known_by, node_of_cell, local_node, stack_node, slot_of, IsCellOf, IsStateOf, op_sort, number_in, IsKnown, AreCellsOf}
use Rattle.pv_frame.specs.declared.sort.Sort.TheVariants as sort
use Rattle.pv_build.specs.declared.slot.Part.TheVariants as part
use Rattle.pv_layout.proofs.Cited.{zip_first, zip_long}
use Rattle.pv_build.proofs.Slotted.{turn_local, turn_stack, turns, local_some, stack_some}

-- ---- sorts that are known

pub known_of : (t : Sort) → (t ≡ sort.Int) ⊎ ((t ≡ sort.Long) ⊎ (t ≡ sort.Ref)) → IsKnown t
known_of t (inl is) e = absurd (cc)
known_of t (inr (inl is)) e = absurd (cc)
known_of t (inr (inr is)) e = absurd (cc)

pub node_known : (c : Cell) → IsKnown c.sort → node_of_cell c ≡ Some c.node
node_known c known = go c.sort refl
  where
    go : (t : Sort) → c.sort ≡ t → node_of_cell c ≡ Some c.node
    go sort.Int e = ap (λ (t : Sort). known_by t c.node) e
    go sort.Long e = ap (λ (t : Sort). known_by t c.node) e
    go sort.Ref e = ap (λ (t : Sort). known_by t c.node) e
    go sort.Unknown e = absurd (known e)

pub known_node : (c : Cell) (n : ℕ) → node_of_cell c ≡ Some n → IsKnown c.sort × (c.node ≡ n)
known_node c n e = go c.sort refl
  where
    go : (t : Sort) → c.sort ≡ t → IsKnown c.sort × (c.node ≡ n)
    go sort.Int is = ((λ un. absurd (let z : sort.Int ≡ sort.Unknown = sym is ∙ un in cc)), some_of c.node n (sym (ap (λ (t : Sort). known_by t c.node) is) ∙ e))
    go sort.Long is = ((λ un. absurd (let z : sort.Long ≡ sort.Unknown = sym is ∙ un in cc)), some_of c.node n (sym (ap (λ (t : Sort). known_by t c.node) is) ∙ e))
    go sort.Ref is = ((λ un. absurd (let z : sort.Ref ≡ sort.Unknown = sym is ∙ un in cc)), some_of c.node n (sym (ap (λ (t : Sort). known_by t c.node) is) ∙ e))
    go sort.Unknown is = absurd (let z : None ≡ Some n = sym (ap (λ (t : Sort). known_by t c.node) is) ∙ e in cc)

-- ---- slots, from cells

pub local_cell : (cells : List Cell) (k n : ℕ) → local_node cells k ≡ Some n → (c : Cell) × (slice_get cells k ≡ Some c) × (node_of_cell c ≡ Some n)
local_cell [] k n e = absurd (cc)
local_cell (c ∷ cells) zero n e = (c, refl, e)
local_cell (c ∷ cells) (suc k) n e = local_cell cells k n e

pub stack_cell : (cells : List Cell) (j n : ℕ) → stack_node cells j ≡ Some n → (i : ℕ) × (c : Cell) × (slice_get cells i ≡ Some c) × (node_of_cell c ≡ Some n) × (j + suc i ≡ length cells)
stack_cell [] j n e = absurd (cc)
stack_cell (c ∷ cells) j n e = ⊎_elim
    (λ z. (0, c, refl, sym (ap (λ (t : Bool). if t then node_of_cell c else stack_node cells j) z.0) ∙ e, (let w = z.1 in omega arith)))
    (λ z. let r = stack_cell cells j n (sym (ap (λ (t : Bool). if t then node_of_cell c else stack_node cells j) z.0) ∙ e) in (suc r.0, r.1, r.2, r.3, (let w = r.4 in omega arith)))
    (eqb_tells j (length cells))

-- what holds of the token, the heap, and the cells whose sorts are known holds of the node of each slot
module _ (c : State) (Q : ℕ → ℕ → Type 0) (token : Q 0 c.token) (heap : Q 3 c.heap) (locals : (i : ℕ) (d : Cell) → slice_get c.locals i ≡ Some d → IsKnown d.sort → Q (number_in part.Locals (length c.locals) i) d.node)
    (stack : (i : ℕ) (d : Cell) → slice_get c.stack i ≡ Some d → IsKnown d.sort → Q (number_in part.Stack (length c.stack) i) d.node) where
  by_local : (k n : ℕ) → local_node c.locals k ≡ Some n → Q (local_slot k) n
  by_local k n e =
      let x = local_cell c.locals k n e in
      let y = known_node x.0 n x.2 in
      subst (Q (local_slot k)) y.1 (locals k x.0 x.1 y.0)

  by_stack : (j n : ℕ) → stack_node c.stack j ≡ Some n → Q (stack_slot j) n
  by_stack j n e =
      let x = stack_cell c.stack j n e in
      let y = known_node x.1 n x.3 in
      let at : length c.stack - 1 - x.0 ≡ j = (let w = x.4 in omega arith) in
      subst (λ (i : ℕ). Q (stack_slot i) n) at (subst (Q (stack_slot (length c.stack - 1 - x.0))) y.1 (stack x.0 x.1 x.2 y.0))

  pub by_slot : (s n : ℕ) → slot_of c s ≡ Some n → Q s n
  by_slot zero n e = subst (Q 0) (some_of c.token n e) token
  by_slot (suc zero) n e = absurd (cc)
  by_slot (suc (suc zero)) n e = absurd (cc)
  by_slot (suc (suc (suc zero))) n e = subst (Q 3) (some_of c.heap n e) heap
  by_slot (suc (suc (suc (suc s)))) n e = turns (λ s x. (n : ℕ) → x ≡ Some n → Q (suc (suc (suc (suc s)))) n) (local_node c.locals) (stack_node c.stack) by_local by_stack s n e

-- the node of a slot is that of its cell
pub local_there : (c : State) (i : ℕ) (d : Cell) → slice_get c.locals i ≡ Some d → slot_of c (number_in part.Locals (length c.locals) i) ≡ node_of_cell d
local_there c i d at = turn_local (local_node c.locals) (stack_node c.stack) i ∙ local_some c.locals i d at

pub stack_there : (c : State) (i : ℕ) (d : Cell) → slice_get c.stack i ≡ Some d → slot_of c (number_in part.Stack (length c.stack) i) ≡ node_of_cell d
stack_there c i d at =
    let low : i < length c.stack = slice_get_within c.stack i d at in
    let j : ℕ = length c.stack - 1 - i in
    turn_stack (local_node c.locals) (stack_node c.stack) j ∙ stack_some c.stack i j d (omega arith) at

-- ---- sorts

are_sorted : (g : Graph) (cells : List Cell) (sorts : List Sort) → AreCellsOf g cells sorts → (i : ℕ) (c : Cell) → slice_get cells i ≡ Some c → IsSortedCell g c
are_sorted g cells sorts all i c at = let z = zip_first (IsCellOf g) cells sorts i c all at in z.2.1

-- ---- the sorts of slots

known_as : (c : Cell) (t : Sort) → c.sort ≡ t → IsKnown c.sort → IsKnown t
known_as c t e known un = known (e ∙ un)

pub no_root : (t : Sort) → op_sort t ≢ R
no_root sort.Int e = absurd (cc)
no_root sort.Long e = absurd (cc)
no_root sort.Ref e = absurd (cc)
no_root sort.Unknown e = absurd (cc)

module _ (g : Graph) (c : State) (f : Frame) (is : IsStateOf g c f) where
  -- the sort of a local whose node is known
  pub local_slot_sort : (k n : ℕ) → slot_of c (local_slot k) ≡ Some n → (u : Sort) × (slice_get f.locals k ≡ Some u) × IsKnown u × IsOfSort g n (op_sort u)
  local_slot_sort k n e =
      let x = local_cell c.locals k n (sym (turn_local (local_node c.locals) (stack_node c.stack) k) ∙ e) in
      let y = known_node x.0 n x.2 in
      let z = zip_first (IsCellOf g) c.locals f.locals k x.0 is.locals x.1 in
      (z.0, z.1, known_as x.0 z.0 z.2.0 y.0, subst (λ (t : Sort). IsOfSort g n (op_sort t)) z.2.0 (subst (λ (n : ℕ). IsOfSort g n (op_sort x.0.sort)) y.1 z.2.1))

  -- .. of a place of the operand stack
  pub stack_slot_sort : (j n : ℕ) → slot_of c (stack_slot j) ≡ Some n → (i : ℕ) × (u : Sort) × (slice_get f.stack i ≡ Some u) × IsKnown u × (j ≡ length f.stack - 1 - i) × IsOfSort g n (op_sort u)
  stack_slot_sort j n e =
      let x = stack_cell c.stack j n (sym (turn_stack (local_node c.locals) (stack_node c.stack) j) ∙ e) in
      let y = known_node x.1 n x.3 in
      let z = zip_first (IsCellOf g) c.stack f.stack x.0 x.1 is.stack x.2 in
      let long = zip_long (IsCellOf g) c.stack f.stack is.stack in
      let w = x.4 in
      (x.0, z.0, z.1, known_as x.1 z.0 z.2.0 y.0, omega (arith, w, long), subst (λ (t : Sort). IsOfSort g n (op_sort t)) z.2.0 (subst (λ (n : ℕ). IsOfSort g n (op_sort x.1.sort)) y.1 z.2.1))

  -- the node of each slot has a sort, and is no root
  pub sorted_slot : (s n : ℕ) → slot_of c s ≡ Some n → (t : OpSort) × IsOfSort g n t × (t ≢ R)
  sorted_slot = by_slot c (λ s n. (t : OpSort) × IsOfSort g n t × (t ≢ R)) (T, is.token, λ e. absurd (cc)) (H, is.heap, λ e. absurd (cc))
      (λ i d at known. (op_sort d.sort, are_sorted g c.locals f.locals is.locals i d at, no_root d.sort))
      (λ i d at known. (op_sort d.sort, are_sorted g c.stack f.stack is.stack i d at, no_root d.sort))
