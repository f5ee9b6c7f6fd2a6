-- The numbers that are drawn, by a linear congruential generator: Knuth's multiplier for 64 bits (MMIX), and the increment that goes with it.
use Rattle.std.specs.Prelude.{ℕ, zero, suc, ◌+◌, ◌*◌, ◌/◌, ◌%◌, ◌^◌, ◌==◌, if◌then◌else◌}
use Rattle.pv_maker.specs.declared.draws.Shape.{Shape}
use Rattle.pv_maker.specs.declared.draws.Shape.TheVariants as shape
use Rattle.pv_maker.specs.declared.draws.Draw.{Draw}

abbrev pub next : ℕ → ℕ
next x = (x * 6364136223846793005 + 1442695040888963407) % 2 ^ 64

-- the number below n where the generator is at x, by its high bits
abbrev pub below : ℕ → ℕ → ℕ
below n x = (x / 2 ^ 33) % n

abbrev pub shape_of : ℕ → Shape
shape_of n = if n == 0 then shape.Sum else if n == 1 then shape.Loop else shape.Nested

-- the shape is drawn first, and then the constant
abbrev pub draw_from : ℕ → Draw
draw_from x = record { shape = shape_of (below 3 (next x)); constant = below 100 (next (next x)) }

-- where the generator is after n methods
abbrev pub after : ℕ → ℕ → ℕ
after zero x = x
after (suc n) x = next (next (after n x))
