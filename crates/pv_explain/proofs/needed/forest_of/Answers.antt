use Rattle.std.proofs.Common.{◌<◌, ◌++◌, ◌∷◌, [], ◌∙◌, ℕ, List, ap, sym, subst, take}
use Rattle.pv_classes.proofs.Elements.{contains_at}
use Rattle.pv_explain.specs.Levels.{ends_of}
use Rattle.pv_explain.proofs.Linking.{at_index, ends_more}
use Rattle.pv_explain.proofs.Placing.{take_next}
use Rattle.pv_explain.proofs.needed.forest_of.Goals as goal

pub push-requires-clause-first : goal.push-requires-clause-first
push-requires-clause-first c =
    let j = c.join-item.result in
    subst (λ (n : ℕ). j.first < n) (sym c.loop-join.invariant.nodes_)
    (c.requires j (contains_at c.args.joins.now j c.loop-join.join-index (at_index c.args.joins.now c.loop-join.join-index j c.loop-join-test.true c.join-item.is))).0

pub push-requires-clause-second : goal.push-requires-clause-second
push-requires-clause-second c =
    let j = c.join-item.result in
    subst (λ (n : ℕ). j.second < n) (sym c.loop-join.invariant.nodes_)
    (c.requires j (contains_at c.args.joins.now j c.loop-join.join-index (at_index c.args.joins.now c.loop-join.join-index j c.loop-join-test.true c.join-item.is))).1

pub loop-join-preserved : goal.loop-join-preserved
loop-join-preserved c =
    let j = c.join-item.result in
    let i = c.loop-join.join-index in
    record {
      nodes_ = c.in_ok-push.ensures.nodes ∙ c.loop-join.invariant.nodes_;
      ends =
          c.in_ok-push.ensures.ok ∙ ap (λ (es : List (ℕ × ℕ)). es ++ (j.first, j.second) ∷ []) c.loop-join.invariant.ends ∙ sym (ends_more (take i c.args.joins.now) j)
          ∙ ap ends_of (take_next c.args.joins.now i j c.loop-join-test.true c.join-item.is);
    }
