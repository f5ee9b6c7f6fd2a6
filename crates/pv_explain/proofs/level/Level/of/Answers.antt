use Rattle.std.proofs.Math.ListN.{get_or}
use Rattle.std.proofs.Common.{◌∷◌, ◌++◌, [], ◌∙◌, ℕ, ◌<◌, List, ap, sym, subst, take, take_all}
use Rattle.pv_paths.specs.Paths.{Joined}
use Rattle.pv_explain.specs.declared.follow.Line.{Line}
use Rattle.pv_explain.specs.Lines.{sides}
use Rattle.pv_explain.proofs.Linking.{sides_more}
use Rattle.pv_explain.proofs.Placing.{no_line}
use Rattle.pv_explain.proofs.Beginning.{read_in, take_at}
use Rattle.pv_explain.proofs.level.Level.of.Goals as goal

pub push-requires-clause-first : goal.push-requires-clause-first
push-requires-clause-first c =
    subst (λ (n : ℕ). (get_or c.args.lines.now c.loop-line.line-index no_line).first < n) (sym c.loop-line.invariant.nodes_) (c.requires (get_or c.args.lines.now c.loop-line.line-index no_line) (read_in c.args.lines.now c.loop-line.line-index no_line c.loop-line-test.true)).0

pub push-requires-clause-second : goal.push-requires-clause-second
push-requires-clause-second c =
    subst (λ (n : ℕ). (get_or c.args.lines.now c.loop-line.line-index no_line).second < n) (sym c.loop-line.invariant.nodes_) (c.requires (get_or c.args.lines.now c.loop-line.line-index no_line) (read_in c.args.lines.now c.loop-line.line-index no_line c.loop-line-test.true)).1

pub loop-line-preserved : goal.loop-line-preserved
loop-line-preserved c =
    let at = take_at c.args.lines.now c.loop-line.line-index no_line c.loop-line-test.true in
    let i = c.loop-line.invariant in
    record {
      nodes_ = c.in_ok-push.ensures.nodes ∙ i.nodes_;
      ends =
          c.in_ok-push.ensures.ends ∙ ap (λ (es : List (ℕ × ℕ)). es ++ ((get_or c.args.lines.now c.loop-line.line-index no_line).first, (get_or c.args.lines.now c.loop-line.line-index no_line).second) ∷ []) i.ends ∙ sym (sides_more (take c.loop-line.line-index c.args.lines.now) (get_or c.args.lines.now c.loop-line.line-index no_line))
          ∙ ap sides at;
      lines = c.in_ok-push.ensures.lines ∙ ap (λ (ls : List Line). ls ++ (get_or c.args.lines.now c.loop-line.line-index no_line) ∷ []) i.lines ∙ at;
      known = c.in_ok-push.ensures.known ∙ i.known;
    }

pub returns-clause-nodes : goal.returns-clause-nodes
returns-clause-nodes c = ap (λ (f : Joined). f.nodes) c.in_ok-learn.ensures.forest ∙ c.loop-line.invariant.nodes_

pub returns-clause-ends : goal.returns-clause-ends
returns-clause-ends c = ap (λ (f : Joined). f.ends) c.in_ok-learn.ensures.forest ∙ c.loop-line.invariant.ends ∙ ap sides (take_all c.loop-line.line-index c.args.lines.now c.loop-line-test.false)

pub returns-clause-lines : goal.returns-clause-lines
returns-clause-lines c = c.in_ok-learn.ensures.lines ∙ c.loop-line.invariant.lines ∙ take_all c.loop-line.line-index c.args.lines.now c.loop-line-test.false

pub returns-clause-known : goal.returns-clause-known
returns-clause-known c = c.in_ok-learn.ensures.known ∙ ap (λ (ls : List Line). ls ++ c.deref.result.now) c.loop-line.invariant.known ∙ c.deref.ensures.value
