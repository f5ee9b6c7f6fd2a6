-- One method more.
use Rattle.std.proofs.Common.{◌≡◌, ℕ, ◌+◌, ◌++◌, Bool, ap, add-one}
use Rattle.pv_maker.specs.Draws.{next, after, draw_from}
use Rattle.pv_maker.specs.Methods.{method, methods}

pub methods_next : (twin : Bool) (seed n : ℕ) → methods twin seed (n + 1) ≡ methods twin seed n ++ method twin n (draw_from (after n seed))
methods_next twin seed n = ap (methods twin seed) (add-one n)

pub after_next : (n x : ℕ) → after (n + 1) x ≡ next (next (after n x))
after_next n x = ap (λ k. after k x) (add-one n)
