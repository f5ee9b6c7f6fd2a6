-- How items are cut into consecutive pieces, and what is put together by the numbers of pieces.
use Rattle.std.specs.Prelude.{ℕ, ◌+◌, ◌-◌, ◌*◌, ◌/◌, ◌%◌, min, List, [], ◌++◌, take, drop, length}
use Prim.Native.Nat.{suc, zero}

-- the number of items before piece k, where n items are cut into w pieces: the first n % w pieces are longer by one
abbrev pub start_of : ℕ → ℕ → ℕ → ℕ
start_of n w k = k * (n / w) + min k (n % w)

-- the items from place a up to place b
abbrev pub between : {X : Type 0} → List X → ℕ → ℕ → List X
between xs a b = take (b - a) (drop a xs)

-- piece k of w
abbrev pub nth_piece : {X : Type 0} → List X → ℕ → ℕ → List X
nth_piece xs w k = between xs (start_of (length xs) w k) (start_of (length xs) w (k + 1))

-- the lists of the first k pieces, one after another
abbrev pub joined : {X : Type 0} → (ℕ → List X) → ℕ → List X
joined f zero = []
joined f (suc k) = joined f k ++ f k
