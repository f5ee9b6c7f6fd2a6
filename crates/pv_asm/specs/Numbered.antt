-- The entries of a pool, each with its index.
use Rattle.std.specs.Prelude.{ℕ, ◌+◌, List, [], ◌∷◌}
use Rattle.pv_asm.specs.Needs.{Pool, width}

abbrev pub numbered : ℕ → Pool → List (List ℕ × ℕ)
numbered i [] = []
numbered i (e ∷ pool) = (e, i) ∷ numbered (i + width e) pool
