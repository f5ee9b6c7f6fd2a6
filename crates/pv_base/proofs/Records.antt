-- A record that grows twice.
use Rattle.std.proofs.Common.{◌≡◌, List, ◌++◌, Option, Some, None, refl, ap, append_assoc}
use Rattle.pv_base.specs.Outside.{more}

pub more_more : {A : Type 0} (o : Option (List A)) (xs ys : List A) → more (more o xs) ys ≡ more o (xs ++ ys)
more_more None xs ys = refl
more_more (Some zs) xs ys = ap (λ ws. Some ws) (append_assoc zs xs ys)
