-- Facts of a fault.
use Rattle.std.specs.Prelude.{ℕ, List}
use Rattle.pv_loops.specs.declared.fault.TStep.{TStep}
use Rattle.pv_loops.specs.declared.fault.LoopFault.{LoopFault}
use Rattle.pv_loops.specs.declared.fault.LoopFault.TheVariants.{Irreducible, Deep, Memory}

-- a fact of the steps where a shape is irreducible
abbrev pub OnIrreducible : LoopFault → (List TStep → Type 0) → Type 0
OnIrreducible (Irreducible steps) P = P steps.items
OnIrreducible (Deep d) P = Unit {0}
OnIrreducible Memory P = Unit {0}

-- a fact of the depth where loops nest too deep
abbrev pub OnDeep : LoopFault → (ℕ → Type 0) → Type 0
OnDeep (Irreducible steps) P = Unit {0}
OnDeep (Deep d) P = P d
OnDeep Memory P = Unit {0}
