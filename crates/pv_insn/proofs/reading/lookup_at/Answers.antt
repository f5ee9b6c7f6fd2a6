use Rattle.std.proofs.Common.{sym, rules, w32}
use Rattle.std.proofs.lemmas.Int.{to_z-of_z}
use Rattle.pv_format.specs.GrammarReading.{read}
use Rattle.pv_format.proofs.Cited.{read_then, ok_some}
use Rattle.pv_insn.specs.Reading.{pair, cases}
use Rattle.pv_insn.proofs.reading.lookup_at.Goals as goal

pub returns : goal.returns
returns c =
    let head = ok_some (read (pair c.args.at) c.args.bytes.now) ((c.in-Some.default, c.in-Some.count), c.in-Some.rest.now) (sym c.in-Some.ensures) in
    rw (read_then (pair c.args.at) (λ p. cases p.0 p.1) c.args.bytes.now (c.in-Some.default, c.in-Some.count) c.in-Some.rest.now head)
    (rw (to_z-of_z w32 c.in-Some.default (search rules), to_z-of_z w32 c.in-Some.count (search rules)) at c.cases_at.ensures)
