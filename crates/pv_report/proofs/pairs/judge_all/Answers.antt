use Rattle.std.proofs.Common.{rules, ◌≡◌, ℕ, List, length, subst, ap, ◌∙◌, arith}
use Rattle.std.specs.Prelude.{IfOk}
use Rattle.pv_class.specs.declared.file.Method.{Method}
use Rattle.pv_pieces.specs.Cut.{joined, nth_piece}
use Rattle.pv_pieces.proofs.Cited.{joined_pieces}
use Rattle.pv_report.specs.Pieces.{AreJudged}
use Rattle.pv_report.proofs.pairs.judge_all.Goals as goal

pub returns : goal.returns
returns g c =
    let all = c.args.pair.now.first.methods in
    let methods : ℕ → List Method = λ k. nth_piece all c.count-count.result k in
    let count : length c.in_ok-parts.parts.items ≡ c.count-count.result = search rules in
    let whole : joined methods (length c.in_ok-parts.parts.items) ≡ all = ap (λ k. joined methods k) count ∙ joined_pieces all c.count-count.result c.count-count.ensures.some in
    subst (λ l. IfOk c.put_together.result (AreJudged c.args.means c.args.pair.now l)) whole (c.put_together.ensures c.args.means c.args.pair.now methods (λ k d within. (c.in_ok-parts.ensures.each k d (omega (arith, within, count))).1.met))
