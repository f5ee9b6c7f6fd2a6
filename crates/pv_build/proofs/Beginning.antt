-- The frame with which a method begins, and what is held there.
use Rattle.std.proofs.Common.{◌≡◌, ℕ, zero, suc, ◌-◌, Bool, true, false, List, [], ◌∷◌, ◌++◌, length, replicate, Some, slice_get, ◌⊎◌, inl, inr, refl, sym, ap, ◌∙◌, subst}
use Rattle.pv_build.proofs.Words.{AllZip, flat_map, JType, Sort, Frame, Program, sorts_of, this_sorts, passed_to, padded_sorts, IsFrameAt, LeadsTo, some_of, reached_frame, Block, entry_block, Node, Op, Graph, sort_over, Over, NoExp, Named, Reads, param_ops, passed_ops, op_at, start_op, Cell, State, op_sort, IsStateOf, Method, IsKnown, AreOpsOf, StartCellsRead, ReadsStart, IsMethod, BeginsBlock}
use Rattle.pv_value.specs.declared.descriptor.JType.TheVariants as jtype
use Rattle.pv_frame.specs.declared.sort.Sort.TheVariants as sort
use Rattle.pv_graph.specs.declared.node.Op.TheVariants as op
use Rattle.pv_build.proofs.Slotted.{turn_local}
use Rattle.pv_build.proofs.Stating.{state_reads}

-- ---- the operations have the sorts of what is passed

-- local by local: an operation has the sort, where it is known
abbrev FitsOp : Op → Sort → Type 0
FitsOp o t = IsKnown t → sort_over o [] ≡ Some (op_sort t)

-- nothing is known where there is no operation
abbrev AreFit : List Op → List Sort → Type 0
AreFit ops [] = Unit {0}
AreFit [] (t ∷ sorts) = (t ≡ sort.Unknown) × AreFit [] sorts
AreFit (o ∷ ops) (t ∷ sorts) = FitsOp o t × AreFit ops sorts

unknown : (P : Type 0) → IsKnown sort.Unknown → P
unknown P known = absurd (known refl)

params_fit : (j : ℕ) (types : List JType) (n : ℕ) → AreFit (param_ops j types) (flat_map sorts_of types ++ replicate n sort.Unknown)
params_fit j [] n = none n
  where
    none : (n : ℕ) → AreFit [] (replicate n sort.Unknown)
    none zero = tt
    none (suc n) = (refl, none n)
params_fit j (jtype.J ∷ types) n = ((λ k. refl), ((λ k. unknown _ k), params_fit (suc j) types n))
params_fit j (jtype.A ∷ types) n = ((λ k. refl), params_fit (suc j) types n)
params_fit j (jtype.D ∷ types) n = ((λ k. unknown _ k), ((λ k. unknown _ k), params_fit (suc j) types n))
params_fit j (jtype.F ∷ types) n = ((λ k. unknown _ k), params_fit (suc j) types n)
params_fit j (jtype.Z ∷ types) n = ((λ k. refl), params_fit (suc j) types n)
params_fit j (jtype.B ∷ types) n = ((λ k. refl), params_fit (suc j) types n)
params_fit j (jtype.C ∷ types) n = ((λ k. refl), params_fit (suc j) types n)
params_fit j (jtype.S ∷ types) n = ((λ k. refl), params_fit (suc j) types n)
params_fit j (jtype.I ∷ types) n = ((λ k. refl), params_fit (suc j) types n)

passed_fit : (instance : Bool) (types : List JType) (n : ℕ) → AreFit (passed_ops instance types) ((this_sorts instance ++ flat_map sorts_of types) ++ replicate n sort.Unknown)
passed_fit true types n = ((λ k. refl), params_fit 0 types n)
passed_fit false types n = params_fit 0 types n

-- .. and of what is known of it
fit_at : (ops : List Op) (source target : List Sort) (i : ℕ) (t : Sort) → AreFit ops source → AllZip (λ s t. (t ≡ s) ⊎ (t ≡ sort.Unknown)) source target → slice_get target i ≡ Some t → IsKnown t → sort_over (op_at ops i) [] ≡ Some (op_sort t)
fit_at ops source [] i t fit all at known = absurd (cc)
fit_at ops [] (u ∷ target) i t fit all at known = absurd all
fit_at [] (s ∷ source) (u ∷ target) zero t fit all at known = absurd (known (lost s u (some_of u t at) fit.0 all.0))
  where
    lost : (s u : Sort) → u ≡ t → s ≡ sort.Unknown → (u ≡ s) ⊎ (u ≡ sort.Unknown) → t ≡ sort.Unknown
    lost s u same none (inl e) = sym same ∙ e ∙ none
    lost s u same none (inr e) = sym same ∙ e
fit_at (o ∷ ops) (s ∷ source) (u ∷ target) zero t fit all at known = one (some_of u t at) all.0
  where
    one : u ≡ t → (u ≡ s) ⊎ (u ≡ sort.Unknown) → sort_over o [] ≡ Some (op_sort t)
    one same (inl e) = let z : t ≡ s = sym same ∙ e in fit.0 (λ un. known (z ∙ un)) ∙ ap (λ (s : Sort). Some (op_sort s)) (sym z)
    one same (inr e) = absurd (known (sym same ∙ e))
fit_at [] (s ∷ source) (u ∷ target) (suc i) t fit all at known = none_left source target i t fit.1 all.1 at known
  where
    none_left : (source target : List Sort) (i : ℕ) (t : Sort) → AreFit [] source → AllZip (λ s t. (t ≡ s) ⊎ (t ≡ sort.Unknown)) source target → slice_get target i ≡ Some t → IsKnown t → sort_over op.Unit [] ≡ Some (op_sort t)
    none_left source [] i t fit all at known = absurd (cc)
    none_left [] (u ∷ target) i t fit all at known = absurd all
    none_left (s ∷ source) (u ∷ target) zero t fit (inl e, all) at known = absurd (known (sym (some_of u t at) ∙ e ∙ fit.0))
    none_left (s ∷ source) (u ∷ target) zero t fit (inr e, all) at known = absurd (known (sym (some_of u t at) ∙ e))
    none_left (s ∷ source) (u ∷ target) (suc i) t fit all at known = none_left source target i t fit.1 all.1 at known
fit_at (o ∷ ops) (s ∷ source) (u ∷ target) (suc i) t fit all at known = fit_at ops source target i t fit.1 all.1 at known

-- ---- the first frame

module _ (m : Method) (is : IsMethod m) where
  first_flows : (f : Frame) → IsFrameAt m.typed.now.frames 0 f → LeadsTo m.typed.now.frames (record { stack = []; locals = padded_sorts m.typed.now.program.max_locals (passed_to m.typed.now.program) }) 0
      → (f.stack ≡ []) × AllZip (λ s t. (t ≡ s) ⊎ (t ≡ sort.Unknown)) (padded_sorts m.typed.now.program.max_locals (passed_to m.typed.now.program)) f.locals
  first_flows f at leads =
      let same : leads.target ≡ f = some_of leads.target f (some_of (Some leads.target) (Some f) (sym leads.there ∙ at)) in
      (ap (λ (f : Frame). f.stack) (sym same) ∙ leads.flows.stack, subst (λ (f : Frame). AllZip (λ s t. (t ≡ s) ⊎ (t ≡ sort.Unknown)) (padded_sorts m.typed.now.program.max_locals (passed_to m.typed.now.program)) f.locals) same leads.flows.locals)

  pub first_stack : (f : Frame) → IsFrameAt m.typed.now.frames 0 f → f.stack ≡ []
  first_stack f at = (first_flows f at is.routine.shaped.well_typed.agrees.entry).0

  pub first_ops : (f : Frame) → IsFrameAt m.typed.now.frames 0 f → AreOpsOf (passed_ops m.typed.now.program.instance m.typed.now.program.desc.params) f.locals
  first_ops f at i t here known =
      let p : Program = m.typed.now.program in
      fit_at (passed_ops p.instance p.desc.params) (padded_sorts p.max_locals (passed_to p)) f.locals i t (passed_fit p.instance p.desc.params (p.max_locals - length (passed_to p))) (first_flows f at is.routine.shaped.well_typed.agrees.entry).1 here known

  -- block 0 begins there
  pub first_block : (b : Block) → slice_get m.flow.now.blocks 0 ≡ Some b → b.first ≡ 0
  first_block b at =
      let e = entry_block m.typed.now.program m.flow.now.blocks is.routine.shaped.flow in
      ap (λ (b : Block). b.first) (some_of b e.0 (sym at ∙ e.1)) ∙ e.2

  pub block_frame : (n : ℕ) (b : Block) → slice_get m.flow.now.blocks n ≡ Some b → (f : Frame) × IsFrameAt m.typed.now.frames b.first f
  block_frame n b at = reached_frame m.typed.now.program m.typed.now.frames is.routine.shaped.well_typed.agrees b.first (is.routine.shaped.flow.each n b at).reached

-- ---- what is held there

pub start_reads : (nodes : List Node) (c : State) (p : Program) → c.stack ≡ [] → ((names : List Named) → Reads nodes names c.token (Over op.Unit NoExp)) → ((names : List Named) → Reads nodes names c.heap (Over op.Heap0 NoExp)) → StartCellsRead nodes c.locals (passed_ops p.instance p.desc.params) → ReadsStart nodes c p
start_reads nodes c p empty token heap locals names =
    state_reads nodes names c (λ s. Over (start_op p s) NoExp) (token names) (heap names)
    (λ i x at known. subst (λ (o : Op). Reads nodes names x.node (Over o NoExp)) (sym (turn_local (op_at (passed_ops p.instance p.desc.params)) (λ j. op.Unit) i)) (locals names i x at known))
    (λ i x at known. absurd (let nil : List Cell = [] in let z : slice_get nil i ≡ Some x = subst (λ (xs : List Cell). slice_get xs i ≡ Some x) empty at in cc))

pub begins_block : (m : Method) (g : Graph) (b : ℕ) (block : Block) (f : Frame) (c : State) → slice_get m.flow.now.blocks b ≡ Some block → IsFrameAt m.typed.now.frames block.first f → IsStateOf g c f → BeginsBlock m g b c
begins_block m g b block f c at there sorted other here =
    (f, subst (λ (k : Block). IsFrameAt m.typed.now.frames k.first f) (some_of block other (sym at ∙ here)) there, sorted)
