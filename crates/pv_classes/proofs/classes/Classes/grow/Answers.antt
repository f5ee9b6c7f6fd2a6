use Rattle.std.proofs.Common.{◌<◌, ◌≤◌, ℕ, List, length, take, sym, ◌∙◌, subst}
use Rattle.std.proofs.lemmas.Result.{on_ok_weaker}
use Rattle.pv_classes.specs.declared.join.Join.{Join}
use Rattle.pv_classes.specs.Index.{AreJoined, IsIndex, IsTracked}
use Rattle.pv_classes.specs.Calls.{Classes, Grows, KnowsFirst, classes_of}
use Rattle.pv_classes.specs.Congruence.{index_of}
use Rattle.pv_classes.proofs.Views.{grows_are}
use Rattle.pv_classes.proofs.classes.Classes.grow.Goals as goal

pub learn-requires-clause-few : goal.learn-requires-clause-few
learn-requires-clause-few c =
    let h = subst (λ (x : Classes). KnowsFirst c.args.g.now.nodes x) (sym c.self.view_is) c.requires in
    subst (λ (m : ℕ). m ≤ length c.args.g.now.nodes) c.self.invariant.parts.long h.0

pub learn-requires-clause-index : goal.learn-requires-clause-index
learn-requires-clause-index c =
    let h = subst (λ (x : Classes). KnowsFirst c.args.g.now.nodes x) (sym c.self.view_is) c.requires in
    subst (λ (m : ℕ). IsIndex (take m c.args.g.now.nodes) (index_of c.self.inside.congruence)) c.self.invariant.parts.long h.1.index

pub learn-requires-clause-tracked : goal.learn-requires-clause-tracked
learn-requires-clause-tracked c n lt =
    let h = subst (λ (x : Classes). KnowsFirst c.args.g.now.nodes x) (sym c.self.view_is) c.requires in
    subst (λ (m : ℕ). IsTracked (take m c.args.g.now.nodes) (index_of c.self.inside.congruence) n) c.self.invariant.parts.long
    (h.1.tracked n (subst (λ (m : ℕ). n < m) (sym c.self.invariant.parts.long ∙ h.1.long) lt))

pub returns : goal.returns
returns c =
    let old = index_of c.self.inside.congruence in
    let new = index_of c.learn.new.congruence in
    let joined = subst (λ (js : List Join). AreJoined c.learn.new.congruence.parts js) c.deref.ensures.value c.learn.ensures.joined in
    on_ok_weaker c.learn.result
    (λ h. subst (λ (x : Classes). Grows c.args.g.now.nodes x (classes_of new c.self.inside.joins.items c.self.inside.blocks.items)) c.self.view_is
    (grows_are c.args.g.now.nodes old new c.self.inside.joins.items c.self.inside.blocks.items joined h))
    c.learn.ensures.ok
