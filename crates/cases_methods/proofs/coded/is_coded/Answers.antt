use Rattle.std.proofs.Common.{◌<◌, length, rules}
use Rattle.cases_methods.proofs.Placed.{code_there}
use Rattle.cases_methods.proofs.coded.is_coded.Goals as goal

pub returns-then-place-as_slice : goal.returns-then-place-as_slice
returns-then-place-as_slice c has =
    let lt : c.args.place < length c.args.class.now.methods = search rules in
    code_there c.args.class.now c.args.place c.requires lt (λ m at. c.has_code.ensures m at has)
