use Rattle.std.proofs.Common.{◌≡◌, rules, ℕ, List, ◌++◌, map, ap, ◌∙◌}
use Rattle.std.specs.List.{flat_map}
use Rattle.std.specs.Map.{keys_of}
use Rattle.std.specs.Map.Iter.{deref_pair}
use Rattle.std.proofs.lemmas.Map.Iter.{iter_end}
use Rattle.pv_asm.specs.Needs.{Pool}
use Rattle.pv_asm.proofs.Pools.{shown}
use Rattle.pv_asm.proofs.pool.Pool.push_entries.Goals as goal

pub returns : goal.returns
returns c =
    let all : map deref_pair c.loop-text.yielded ≡ c.self.inside.entries.entries = search (rules, iter_end) in
    let texts : flat_map (λ e. e.0.now) c.loop-text.yielded ≡ flat_map (λ e. e) c.args.self.now =
    shown c.loop-text.yielded ∙ ap (λ (es : List (List ℕ × ℕ)). flat_map (λ e. e) (keys_of es)) all ∙ ap (λ (pool : Pool). flat_map (λ e. e) pool) c.self.view_is
    in
    c.loop-text.invariant ∙ ap (λ (text : List ℕ). c.args.out.now.items ++ text) texts
