use Rattle.std.proofs.Common.{◌≡◌, true, rules}
use Rattle.pv_report.proofs.Cited.{code_there}
use Rattle.pv_differences.proofs.finding.programs.Goals as goal

pub new-requires-clause-code : goal.new-requires-clause-code
new-requires-clause-code c =
    let yes : c.has_code.result ≡ true = search rules in
    code_there c.args.pair.now.first c.args.method c.requires.read.0 c.requires.there (λ m at. (c.has_code.ensures m at).0 yes)

pub new-requires-2-clause-code : goal.new-requires-2-clause-code
new-requires-2-clause-code c =
    let yes : c.has_code-2.result ≡ true = search rules in
    code_there c.args.pair.now.second c.args.partner c.requires.read.1 c.requires.partner (λ m at. (c.has_code-2.ensures m at).0 yes)
