use Rattle.std.proofs.Common.{◌≡◌, ℕ, ◌+◌, None, sym, ap, ◌∙◌}
use Rattle.std.specs.Str.{bytes_eq}
use Rattle.std.specs.HashMap.{keys}
use Rattle.indexmap.specs.IndexMap.{insert_entry}
use Rattle.pv_asm.specs.Needs.{Pool, width, after, index_from}
use Rattle.pv_asm.proofs.Pools.{added, after_more, needed_new, sum_fits}
use Rattle.pv_asm.proofs.pool.Pool.need.Goals as goal

pub invariant_of-self-2 : goal.invariant_of-self-2
invariant_of-self-2 c =
    let pool : Pool = keys c.self.inside.entries in
    let none : index_from 1 pool c.args.text ≡ None = ap (λ (p : Pool). index_from 1 p c.args.text) c.self.view_is ∙ sym c.find.ensures ∙ c.in_default.is in
    let grown = added c.self.inside.entries.entries c.insert.new.self.entries c.args.text c.self.invariant.0 none
    (c.in_ok-insert.ensures.entries ∙ ap (λ (n : ℕ). insert_entry bytes_eq c.self.inside.entries.entries c.args.text n) c.self.invariant.1)
    in (
      grown.1,
      ap (λ (n : ℕ). n + c.width.result) (c.from.ensures ∙ c.self.invariant.1) ∙ ap (λ (n : ℕ). after 1 pool + n) (c.width.ensures ∙ ap width c.bytes.ensures)
          ∙ sym (after_more 1 pool c.args.text) ∙ ap (after 1) (sym grown.0),
    )

pub returns : goal.returns
returns c =
    let pool : Pool = keys c.self.inside.entries in
    let absent : index_from 1 c.args.self.now c.args.text ≡ None = sym c.find.ensures ∙ c.in_default.is in
    let none : index_from 1 pool c.args.text ≡ None = ap (λ (p : Pool). index_from 1 p c.args.text) c.self.view_is ∙ absent in
    let grown = added c.self.inside.entries.entries c.insert.new.self.entries c.args.text c.self.invariant.0 none
    (c.in_ok-insert.ensures.entries ∙ ap (λ (n : ℕ). insert_entry bytes_eq c.self.inside.entries.entries c.args.text n) c.self.invariant.1)
    in
    needed_new pool c.args.self.now (keys c.insert.new.self) c.args.text c.self.inside.count c.self.view_is absent c.self.invariant.1
    (sum_fits c.from.result c.width.result c.self.inside.count (width c.args.text) c.from.ensures (c.width.ensures ∙ ap width c.bytes.ensures) c.if-count-gt-MOST.false) grown.0
