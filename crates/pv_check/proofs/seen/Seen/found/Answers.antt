use Rattle.std.proofs.Common.{Some, None, sym, inl, inr, ◌∙◌, arith}
use Rattle.pv_check.proofs.Finding.{no_fact, fact_by, inside_low}
use Rattle.pv_check.proofs.seen.Seen.found.Goals.{then-k-eq0-via-then-k-eq0, then-k-eq0-via-else-k-eq0+then-k-self}
use Rattle.pv_check.proofs.seen.Seen.found.Goals as goal

pub returns-then-k-eq0 : goal.returns-then-k-eq0
returns-then-k-eq0 c = elim c.then-k-eq0.branch [
  | then-k-eq0-via-then-k-eq0 w ↦ sym (no_fact c.args.self.now.steps.now c.args.fact (inl w.if-k-eq0.true))
  | then-k-eq0-via-else-k-eq0+then-k-self w ↦ sym (no_fact c.args.self.now.steps.now c.args.fact (inr w.if-k-self.true))
]

pub pair_of-requires : goal.pair_of-requires
pair_of-requires c = inside_low c.args.self.now.steps.now c.args.self.now.innermost.now c.args.self.now.opened.now c.args.self.now.kept _ (omega (arith, c.if-k-self.false))

pub returns-in-Some : goal.returns-in-Some
returns-in-Some c =
    fact_by c.args.self.now.steps.now c.args.self.now.innermost.now c.args.self.now.opened.now c.args.self.now.kept c.args.fact c.index-self-k.result c.if-k-eq0.false c.if-k-self.false
    (Some (c.in-Some.left, c.in-Some.right)) (sym c.in-Some.is ∙ c.pair_of.ensures)

pub returns-in-None : goal.returns-in-None
returns-in-None c =
    fact_by c.args.self.now.steps.now c.args.self.now.innermost.now c.args.self.now.opened.now c.args.self.now.kept c.args.fact c.index-self-k.result c.if-k-eq0.false c.if-k-self.false
    None (sym c.in-None.is ∙ c.pair_of.ensures)
