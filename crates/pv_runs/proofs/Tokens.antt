-- The token after an action: the one before, or that of a call.
use Rattle.std.proofs.Common.{◌≡◌, List, [], ◌∷◌, Option, Some, None, refl, subst, inl, inr}
use Rattle.pv_runs.proofs.Words.{◌⊎◌, slice_set, Sym, JType, Action, moved, has_room, set_local, some_of, if_some, Part, call_token, Cell, Held, cell_sort, unset, increased_cell, local_cell, push, call_parts, with_result, acted_on}
use Rattle.pv_frame.specs.declared.sort.Sort.TheVariants as sort
use Rattle.pv_frame.specs.declared.action.Action.TheVariants as act
use Rattle.pv_runs.proofs.Options.{mapped}

-- the token is the one before, or that of a call with these operands
abbrev pub Kept : Held → List Cell → Part → Type 0
Kept h cells q = (q ≡ h.token) ⊎ ((f : Sym) × (q ≡ call_token f (call_parts h cells)))

same_as : (h : Held) (cells : List Cell) (f g : Held) → Kept h cells f.token → f ≡ g → Kept h cells g.token
same_as h cells f g k e = subst (λ (g : Held). Kept h cells g.token) e k

result_token : (h : Held) (f : Sym) (cells : List Cell) (r : Option JType) → (with_result h f cells r).token ≡ call_token f (call_parts h cells)
result_token h f cells None = refl
result_token h f cells (Some t) = refl

pub acted_token : (a : Action) (h g : Held) (cells : List Cell) → acted_on a h cells ≡ Some g → Kept h cells g.token
acted_token act.Nop h g cells e = same_as h cells _ g (inl refl) (some_of _ _ e)
acted_token (act.Push n) h g cells e = same_as h cells _ g (inl refl) (some_of _ _ e)
acted_token (act.Literal text) h g cells e = same_as h cells _ g (inl refl) (some_of _ _ e)
acted_token (act.Load s k) h g cells e = same_as h cells _ g (inl refl) (mapped (λ (c : Cell). push h s c.part) (local_cell h k s) g e).2
acted_token (act.Store s k) h g (c ∷ []) e = same_as h (c ∷ []) _ g (inl refl) (if_some (has_room c.sort k h.locals) (record h { locals = set_local cell_sort unset k c h.locals }) g e).1
acted_token (act.Increase k by) h g cells e = same_as h cells _ g (inl refl) (mapped (λ (c : Cell). record h { locals = slice_set h.locals k (increased_cell by c) }) (local_cell h k sort.Int) g e).2
acted_token (act.Move m) h g cells e = same_as h cells _ g (inl refl) (mapped (λ (stack : List Cell). record h { stack = stack }) (moved cell_sort m h.stack) g e).2
acted_token (act.Scalar o) h g cells e = same_as h cells _ g (inl refl) (some_of _ _ e)
acted_token (act.Divide o) h g cells e = same_as h cells _ g (inl refl) (some_of _ _ e)
acted_token (act.Branch t target) h g cells e = same_as h cells _ g (inl refl) (some_of _ _ e)
acted_token (act.Jump target) h g cells e = same_as h cells _ g (inl refl) (some_of _ _ e)
acted_token (act.Switch default cases) h g cells e = same_as h cells _ g (inl refl) (some_of _ _ e)
acted_token (act.GetStatic t f) h g cells e = same_as h cells _ g (inl refl) (some_of _ _ e)
acted_token (act.PutStatic t f) h g cells e = same_as h cells _ g (inl refl) (some_of _ _ e)
acted_token (act.GetField t f) h g cells e = same_as h cells _ g (inl refl) (some_of _ _ e)
acted_token (act.PutField t f) h g cells e = same_as h cells _ g (inl refl) (some_of _ _ e)
acted_token (act.LoadElement k) h g cells e = same_as h cells _ g (inl refl) (some_of _ _ e)
acted_token (act.StoreElement k) h g cells e = same_as h cells _ g (inl refl) (some_of _ _ e)
acted_token act.StoreRef h g cells e = same_as h cells _ g (inl refl) (some_of _ _ e)
acted_token (act.Cast class) h g (o ∷ []) e = same_as h (o ∷ []) _ g (inl refl) (some_of _ _ e)
acted_token (act.InstanceOf class) h g (o ∷ []) e = same_as h (o ∷ []) _ g (inl refl) (some_of _ _ e)
acted_token act.Length h g cells e = same_as h cells _ g (inl refl) (some_of _ _ e)
acted_token (act.Call d f) h g cells e = same_as h cells _ g (inr (f, result_token h f cells d.result)) (some_of _ _ e)
acted_token (act.CallOn d f) h g cells e = same_as h cells _ g (inr (f, result_token h f cells d.result)) (some_of _ _ e)
acted_token a h g cells e = absurd (cc)
