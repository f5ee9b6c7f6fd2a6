use Rattle.std.specs.Prelude.{Bool}
use Rattle.std.proofs.Common.{◌≡◌, ◌∙◌, ℕ, List, length, rules, subst}
use Rattle.pv_explain.specs.Marks.{IsMarked}
use Rattle.pv_explain.specs.Named.{IsMarkedWithKids}
use Rattle.pv_explain.proofs.NodeMarks.{block_rests}
use Rattle.pv_explain.proofs.named.block_nodes.Goals as goal

pub returns-clause-marked : goal.returns-clause-marked
returns-clause-marked c =
    let g = c.args.graph.now in
    let none = c.in_ok-named.named.items in
    let named = c.mark_block.new.marks.items in
    let marks = c.mark_all_with_kids.new.marks.items in
    let long : length none ≡ length g.nodes = search rules in
    block_rests g named marks c.args.block.now (c.mark_block.ensures.keeps.long ∙ long) c.mark_block.ensures.marked
    (subst (λ (ns : List Bool). (n : ℕ) → IsMarked ns n → IsMarkedWithKids g marks n) c.deref.ensures.value c.mark_all_with_kids.ensures.marked)
