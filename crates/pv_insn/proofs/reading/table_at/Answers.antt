use Rattle.std.proofs.Common.{ap, sym, ◌∙◌, rules, w32}
use Rattle.std.proofs.lemmas.Int.{to_z-of_z}
use Rattle.pv_format.specs.Grammars.{bind}
use Rattle.pv_format.specs.GrammarReading.{read}
use Rattle.pv_format.proofs.Cited.{read_then, read_fails, ok_some, ok_none}
use Rattle.pv_insn.specs.Reading.{answer, integer, pair, offsets}
use Rattle.pv_insn.proofs.reading.table_at.Goals as goal

pub returns-in_default-i32_at : goal.returns-in_default-i32_at
returns-in_default-i32_at c =
    let head = ok_some (read (pair c.args.at) c.args.bytes.now) ((c.in-Some.default, c.in-Some.low), c.in-Some.rest.now) (sym c.in-Some.ensures) in
    let none = ok_none (read (integer w32) c.in-Some.rest.now) (sym c.in_default-i32_at.ensures) in
    ap answer (read_then (pair c.args.at) (λ p. bind (integer w32) (λ high. offsets p.0 p.1 high)) c.args.bytes.now (c.in-Some.default, c.in-Some.low) c.in-Some.rest.now head ∙ read_fails (integer w32) (λ high. offsets c.in-Some.default c.in-Some.low high) c.in-Some.rest.now none.0 none.1)

pub returns : goal.returns
returns c =
    let head = ok_some (read (pair c.args.at) c.args.bytes.now) ((c.in-Some.default, c.in-Some.low), c.in-Some.rest.now) (sym c.in-Some.ensures) in
    let last = ok_some (read (integer w32) c.in-Some.rest.now) (c.in-Some-i32_at.high, c.in-Some-i32_at.rest.now) (sym c.in-Some-i32_at.ensures) in
    rw (read_then (pair c.args.at) (λ p. bind (integer w32) (λ high. offsets p.0 p.1 high)) c.args.bytes.now (c.in-Some.default, c.in-Some.low) c.in-Some.rest.now head ∙ read_then (integer w32) (λ high. offsets c.in-Some.default c.in-Some.low high) c.in-Some.rest.now c.in-Some-i32_at.high c.in-Some-i32_at.rest.now last)
    (rw (to_z-of_z w32 c.in-Some.default (search rules), to_z-of_z w32 c.in-Some.low (search rules), to_z-of_z w32 c.in-Some-i32_at.high (search rules)) at c.offsets_at.ensures)
