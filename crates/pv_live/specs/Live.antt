-- Live locals: those of which something is read again before they are written (Aho, Lam, Sethi, Ullman, Compilers, 9.2.5).
use Rattle.std.specs.Prelude.{◌≡◌, ℕ, Contains}
use Rattle.pv_frame.specs.declared.action.Action.{Action}
use Rattle.pv_frame.specs.declared.action.Action.TheVariants as act
use Rattle.pv_frame.specs.declared.program.Program.{Program}
use Rattle.pv_frame.specs.Effects.{successors}
use Rattle.pv_frame.specs.Programs.{IsAt}

-- a load reads its local, and so does an increase (JVMS 6.5.iload, 6.5.iinc); nothing else reads one
abbrev pub Reads : Action → ℕ → Type 0
Reads (act.Load s k) x = x ≡ k
Reads (act.Increase k n) x = x ≡ k
Reads _ x = ⊥

-- a store writes its local (JVMS 6.5.istore)
abbrev pub Writes : Action → ℕ → Type 0
Writes (act.Store s k) x = x ≡ k
Writes _ x = ⊥

-- local x is live at place k: the instruction there reads it, or it doesn't write it and x is live at a place to which it may lead
pub data Live (p : Program) : ℕ → ℕ → Type 0 where
  read : (k x : ℕ) (a : Action) → IsAt p k a → Reads a x → Live p k x
  later : (k x : ℕ) (a : Action) (j : ℕ) → IsAt p k a → (Writes a x → ⊥) → Contains (successors k a) j → Live p j x → Live p k x
