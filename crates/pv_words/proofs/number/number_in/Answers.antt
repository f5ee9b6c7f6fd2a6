use Rattle.std.proofs.Common.{rules, arith}
use Rattle.pv_words.proofs.Numbers.{no_number, number_between}
use Rattle.pv_words.proofs.number.number_in.Goals as goal

pub returns-in_err-n : goal.returns-in_err-n
returns-in_err-n c = rw c.from_residual.ensures (no_number c.args.least c.args.greatest c.args.text.now (omega arith) (search rules))

pub returns-else-least-n : goal.returns-else-least-n
returns-else-least-n c = λ n is.
    let same = number_between c.args.least c.args.greatest c.in_ok-n.n c.args.text.now n (omega arith) (search rules) is in
    omega (arith, same, is.at_least, is.at_most)
