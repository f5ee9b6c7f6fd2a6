use Rattle.std.specs.Prelude.{Bool}
use Rattle.std.proofs.Common.{◌≡◌, ◌∙◌, List, length, rules, subst}
use Rattle.pv_explain.specs.Named.{AreCitedMarked}
use Rattle.pv_explain.proofs.NodeMarks.{keeps_trans, named_marked}
use Rattle.pv_explain.proofs.named.needed_nodes.Goals as goal

pub returns : goal.returns
returns c =
    let s = c.args.search.now in
    let none = c.in_ok-marks.marks.items in
    let first = c.mark_joins.new.marks.items in
    let then = c.mark_cited.new.marks.items in
    let last = c.mark_all_kids.new.marks.items in
    let cited = subst (λ (ns : List Bool). AreCitedMarked ns s.blocks.now then) c.deref.ensures.value c.mark_cited.ensures.marked in
    let long : length none ≡ length s.graph.now.nodes = search rules in
    record {
      long = (keeps_trans none then last (keeps_trans none first then c.mark_joins.ensures.keeps c.mark_cited.ensures.keeps) c.mark_all_kids.ensures.keeps).long ∙ long;
      closed = c.mark_all_kids.ensures.closed;
      named = named_marked s c.in_ok-cited.cited.items first then last c.mark_joins.ensures.marked c.mark_cited.ensures.keeps c.mark_all_kids.ensures.keeps c.in_ok-cited.ensures.cited cited;
    }
