-- The actions of a block one by one.
use Rattle.pv_runs.proofs.Words.{◌≡◌, ℕ, suc, Some, Action, Program, IsAt, Chain, Held, acted, chain_of}
use Rattle.pv_frame.specs.declared.action.Action.TheVariants as act

-- it only goes on to the next place
abbrev pub IsSimple : Action → Type 0
IsSimple act.Nop = Unit {0}
IsSimple (act.Push n) = Unit {0}
IsSimple (act.Literal text) = Unit {0}
IsSimple (act.Load s k) = Unit {0}
IsSimple (act.Store s k) = Unit {0}
IsSimple (act.Increase k by) = Unit {0}
IsSimple (act.Move m) = Unit {0}
IsSimple (act.Scalar o) = Unit {0}
IsSimple (act.GetStatic t f) = Unit {0}
IsSimple (act.PutStatic t f) = Unit {0}
IsSimple a = ⊥

-- from place k on, with this held, the block has this chain
pub data IsBlock (p : Program) : ℕ → Held → Chain → Type 0 where
  goes_on : (k : ℕ) (h g : Held) (a : Action) (c : Chain) → IsAt p k a → IsSimple a → acted a h ≡ Some g → IsBlock p (suc k) g c → IsBlock p k h c
  ends : (k : ℕ) (h : Held) (a : Action) (c : Chain) → IsAt p k a → chain_of p.desc.result k a h ≡ Some c → IsBlock p k h c
