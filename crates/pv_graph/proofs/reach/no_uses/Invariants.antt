use Rattle.std.proofs.Common.{◌≡◌, ℕ, vec_len}
use Rattle.pv_graph.specs.declared.reach.Use.{Use}
use Rattle.pv_graph.specs.Reach.{IsUse}
use Rattle.pv_graph.proofs.reach.no_uses.Given as goal

abbrev pub invariant-loop : goal.invariant-loop
invariant-loop l = record { len : vec_len l.uses ≡ l.counter; none : (k : ℕ) (u : Use) → IsUse l.uses.items k u → ⊥ }
