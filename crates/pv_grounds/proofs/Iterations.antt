-- What another iteration of a depth that no block has leaves alone.
use Rattle.std.specs.Prelude.{ℕ, List, [], ◌∷◌}
use Rattle.std.proofs.Common.{sym, ◌∙◌}
use Rattle.pv_value.specs.declared.world.World.{World}
use Rattle.pv_value.specs.declared.outcome.Input.{Input}
use Rattle.pv_denote.specs.Denote.{Index, at_depth}
use Rattle.pv_denote.proofs.Cited.{at_other}
use Rattle.pv_steps.specs.Steps.{Block, Loop, Ending}
use Rattle.pv_steps.specs.Right.{IsFresh}
use Rattle.pv_steps.specs.Facts.{View, Keeps, Satisfies}

-- an index keeps the iterations of the blocks
pub keeps_fresh : (bs : List Block) (it i : Index) (d k : ℕ) → IsFresh d bs → Keeps bs it i → Keeps bs it (at_depth i d k)
keeps_fresh [] it i d k f h = tt
keeps_fresh (Loop e ps ∷ bs) it i d k f h = (at_other i d k e (λ z. f.0 (sym z)) ∙ h.0, keeps_fresh bs it i d k f.1 h.1)
keeps_fresh (Ending p es ∷ bs) it i d k f h = keeps_fresh bs it i d k f h

-- .. whichever of the two the blocks go by
pub keeps_context : (bs : List Block) (it i : Index) (d k : ℕ) → IsFresh d bs → Keeps bs (at_depth it d k) i → Keeps bs it i
keeps_context [] it i d k f h = tt
keeps_context (Loop e ps ∷ bs) it i d k f h = (h.0 ∙ at_other it d k e (λ z. f.0 (sym z)), keeps_context bs it i d k f.1 h.1)
keeps_context (Ending p es ∷ bs) it i d k f h = keeps_context bs it i d k f h

pub keeps_in_context : (bs : List Block) (it i : Index) (d k : ℕ) → IsFresh d bs → Keeps bs it i → Keeps bs (at_depth it d k) i
keeps_in_context [] it i d k f h = tt
keeps_in_context (Loop e ps ∷ bs) it i d k f h = (h.0 ∙ sym (at_other it d k e (λ z. f.0 (sym z))), keeps_in_context bs it i d k f.1 h.1)
keeps_in_context (Ending p es ∷ bs) it i d k f h = keeps_in_context bs it i d k f h

-- and what satisfied the blocks still does
pub satisfies_context : (view : View) (w : World) (x : Input) (bs : List Block) (it : Index) (d k : ℕ) → IsFresh d bs → Satisfies view w x it bs → Satisfies view w x (at_depth it d k) bs
satisfies_context view w x [] it d k f h = tt
satisfies_context view w x (Loop e ps ∷ bs) it d k f h = (λ i y. h.0 i (keeps_context (Loop e ps ∷ bs) it i d k f y), satisfies_context view w x bs it d k f.1 h.1)
satisfies_context view w x (Ending p es ∷ bs) it d k f h = (h.0, satisfies_context view w x bs it d k f h.1)
