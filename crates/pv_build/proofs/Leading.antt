-- What exits to a block, and ends, have for each slot.
use Rattle.std.proofs.Common.{◌≡◌, ℕ, suc, ◌-◌, ◌<◌, Bool, List, [], ◌∷◌, length, Option, Some, None, slice_get, ◌⊎◌, inl, inr, ⊎_elim, refl, sym, ap, ◌∙◌, subst, arith, if◌then◌else◌}
use Rattle.pv_build.proofs.Words.{eqb_tells, slice_get_within, JType, Sort, Frame, IsFrameAt, HasFloatlessResult, some_of, Block, F, T, H, Graph, To, dest_of, IsOfSort, local_slot, stack_slot, number_at, numbered_dest, Cell, State, Leaving, Goes, Returns, Throws, op_sort, IsCellOf, node_of_cell, local_node, stack_node, slot_of, slot_at, dest_at, FitsSort, FitsFrame, IsSortedExit, result_sort, Program, Part, number_in, HasNodeOf, IsKnown, default_sort}
use Rattle.pv_value.specs.declared.descriptor.JType.TheVariants as jtype
use Rattle.pv_flow.specs.declared.block.Exit as kinds
use Rattle.pv_flow.specs.declared.block.Exit.TheVariants as exit
use Rattle.pv_build.specs.declared.slot.Part.TheVariants as part
use Rattle.pv_build.proofs.Slotted.{turn_local, turn_stack, local_some, stack_some}
use Rattle.pv_layout.proofs.Cited.{zip_at, zip_long}
use Rattle.pv_build.proofs.Cells.{node_known}

-- ---- the block to which an exit goes

-- the number that is found for a place is that of a block that begins there
number_first : (blocks : List Block) (place n : ℕ) (b : Block) → number_at blocks place ≡ n → slice_get blocks n ≡ Some b → b.first ≡ place
number_first [] place n b e at = absurd (cc)
number_first (c ∷ blocks) place n b e at = ⊎_elim
    (λ z.
    let n0 : n ≡ 0 = sym e ∙ ap (λ (t : Bool). if t then 0 else suc (number_at blocks place)) z.0 in
    let same : c ≡ b = some_of c b (sym (ap (slice_get (c ∷ blocks)) n0) ∙ at) in
    ap (λ (b : Block). b.first) (sym same) ∙ z.1)
    (λ z.
    let n1 : n ≡ suc (number_at blocks place) = sym e ∙ ap (λ (t : Bool). if t then 0 else suc (number_at blocks place)) z.0 in
    number_first blocks place (number_at blocks place) b refl (sym (ap (slice_get (c ∷ blocks)) n1) ∙ at))
    (eqb_tells c.first place)

to_of : (x y : ℕ) → To x ≡ To y → x ≡ y
to_of x y e = cc

-- an exit to block n goes to the place where it begins, and fits its frame
pub record GoesInto (g : Graph) (x : Leaving) (f : Frame) : Type 0 where
  pub place : ℕ
  pub state : State
  pub is : x ≡ Goes place state
  pub fits : FitsFrame g state f

pub goes_into : (g : Graph) (p : Program) (frames : List (Option Frame)) (blocks : List Block) (n : ℕ) (b : Block) (f : Frame) (x : Leaving) → slice_get blocks n ≡ Some b → IsFrameAt frames b.first f → numbered_dest blocks (dest_at x) ≡ To n
    → IsSortedExit g p frames x → GoesInto g x f
goes_into g p frames blocks n b f (Goes place c) at there leads (h, here, fits) =
    let first : b.first ≡ place = number_first blocks place n b (to_of (number_at blocks place) n leads) at in
    let same : h ≡ f = some_of h f (some_of (Some h) (Some f) (sym here ∙ ap (slice_get frames) (sym first) ∙ there)) in
    record { place = place; state = c; is = refl; fits = subst (FitsFrame g c) same fits }
goes_into g p frames blocks n b f (Returns e) at there leads sorted = absurd (cc)
goes_into g p frames blocks n b f (Throws e) at there leads sorted = absurd (cc)

-- ---- its slots

-- a cell that fits a sort that is known
cell_node : (g : Graph) (c : Cell) (t : Sort) → IsKnown t → FitsSort g c t → HasNodeOf g (node_of_cell c) (op_sort t)
cell_node g c t known (inl same, is) = (c.node, node_known c (λ e. known (sym same ∙ e)), subst (λ (t : Sort). IsOfSort g c.node (op_sort t)) same is)
cell_node g c t known (inr un, is) = absurd (known un)

module _ (g : Graph) (c : State) (f : Frame) (fits : FitsFrame g c f) where
  local_given : (k : ℕ) (t : Sort) → slice_get f.locals k ≡ Some t → IsKnown t → HasNodeOf g (slot_of c (local_slot k)) (op_sort t)
  local_given k t at known =
      let z = zip_at (FitsSort g) c.locals f.locals k t fits.locals at in
      let h = cell_node g z.0 t known z.2 in
      (h.0, turn_local (local_node c.locals) (stack_node c.stack) k ∙ local_some c.locals k z.0 z.1 ∙ h.1, h.2)

  stack_given : (i : ℕ) (t : Sort) → slice_get f.stack i ≡ Some t → IsKnown t → HasNodeOf g (slot_of c (stack_slot (length f.stack - 1 - i))) (op_sort t)
  stack_given i t at known =
      let z = zip_at (IsCellOf g) c.stack f.stack i t fits.stack at in
      let h = cell_node g z.0 t known (inl z.2.0, z.2.1) in
      let low : i < length f.stack = slice_get_within f.stack i t at in
      let long : length c.stack ≡ length f.stack = zip_long (IsCellOf g) c.stack f.stack fits.stack in
      let j : ℕ = length f.stack - 1 - i in
      (h.0, turn_stack (local_node c.locals) (stack_node c.stack) j ∙ stack_some c.stack i j z.0 (omega arith) z.1 ∙ h.1, h.2)

  pub cell_given : (which : Part) (sorts : List Sort) (i : ℕ) (t : Sort) → ((which ≡ part.Locals) × (sorts ≡ f.locals)) ⊎ ((which ≡ part.Stack) × (sorts ≡ f.stack)) → slice_get sorts i ≡ Some t → IsKnown t
      → HasNodeOf g (slot_of c (number_in which (length sorts) i)) (op_sort t)
  cell_given part.Locals sorts i t (inl e) at known = local_given i t (subst (λ (l : List Sort). slice_get l i ≡ Some t) e.1 at) known
  cell_given part.Stack sorts i t (inr e) at known =
      subst (λ (l : List Sort). HasNodeOf g (slot_of c (stack_slot (length l - 1 - i))) (op_sort t)) (sym e.1) (stack_given i t (subst (λ (l : List Sort). slice_get l i ≡ Some t) e.1 at) known)
  cell_given part.Locals sorts i t (inr e) at known = absurd (let z = e.0 in cc)
  cell_given part.Stack sorts i t (inl e) at known = absurd (let z = e.0 in cc)

-- ---- ends

-- an exit that ends the method
pub end_token : (g : Graph) (p : Program) (frames : List (Option Frame)) (blocks : List Block) (x : Leaving) (d : kinds.Exit) → numbered_dest blocks (dest_at x) ≡ dest_of d → (d ≡ exit.Return) ⊎ (d ≡ exit.Throw) → IsSortedExit g p frames x
    → HasNodeOf g (slot_at x 0) T × HasNodeOf g (slot_at x 1) F × HasNodeOf g (slot_at x 3) H
end_token g p frames blocks (Goes place c) d leads is sorted = absurd (not_end d is leads)
  where
    not_end : (d : kinds.Exit) → (d ≡ exit.Return) ⊎ (d ≡ exit.Throw) → To (number_at blocks place) ≡ dest_of d → ⊥
    not_end (exit.To n) (inl is) e = absurd (cc)
    not_end (exit.To n) (inr is) e = absurd (cc)
    not_end exit.Return is e = absurd (cc)
    not_end exit.Throw is e = absurd (cc)
end_token g p frames blocks (Returns e) d leads is sorted = ((e.token, refl, sorted.token), (e.fault, refl, sorted.fault), (e.heap, refl, sorted.heap))
end_token g p frames blocks (Throws e) d leads is sorted = ((e.token, refl, sorted.token), (e.fault, refl, sorted.fault), (e.heap, refl, sorted.heap))

pub result_is : (r : Option JType) → HasFloatlessResult r → op_sort (result_sort r) ≡ default_sort r
result_is None fine = refl
result_is (Some jtype.Z) fine = refl
result_is (Some jtype.B) fine = refl
result_is (Some jtype.C) fine = refl
result_is (Some jtype.S) fine = refl
result_is (Some jtype.I) fine = refl
result_is (Some jtype.J) fine = refl
result_is (Some jtype.A) fine = refl
result_is (Some jtype.F) fine = absurd fine
result_is (Some jtype.D) fine = absurd fine

pub return_result : (g : Graph) (p : Program) (frames : List (Option Frame)) (blocks : List Block) (x : Leaving) → numbered_dest blocks (dest_at x) ≡ dest_of exit.Return → HasFloatlessResult p.desc.result → IsSortedExit g p frames x
    → HasNodeOf g (slot_at x 2) (default_sort p.desc.result)
return_result g p frames blocks (Goes place c) leads fine sorted = absurd (cc)
return_result g p frames blocks (Throws e) leads fine sorted = absurd (cc)
return_result g p frames blocks (Returns e) leads fine sorted = (e.result, refl, subst (IsOfSort g e.result) (result_is p.desc.result fine) sorted.result_is)
