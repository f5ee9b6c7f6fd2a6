use Rattle.std.proofs.Common.{ℕ, List, ap, ◌∙◌}
use Rattle.std.specs.Str.{bytes_eq}
use Rattle.std.specs.HashMap.{keys}
use Rattle.std.specs.Map.{lookup}
use Rattle.pv_asm.specs.Needs.{Pool, index_from}
use Rattle.pv_asm.proofs.Pools.{index_found}
use Rattle.pv_asm.proofs.pool.Pool.find.Goals as goal

pub returns : goal.returns
returns c =
    c.copied.ensures ∙ c.get.ensures.value ∙ ap (λ (es : List (List ℕ × ℕ)). lookup (bytes_eq c.args.text.now) es) c.self.invariant.0 ∙ index_found c.args.text.now 1 (keys c.self.inside.entries)
    ∙ ap (λ (pool : Pool). index_from 1 pool c.args.text.now) c.self.view_is
