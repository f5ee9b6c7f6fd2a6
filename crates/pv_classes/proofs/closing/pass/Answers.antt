use Rattle.std.proofs.Common.{◌⊎◌, ◌<◌, ◌+◌, ℕ, List, length, get_or, take, sym, ◌∙◌, subst, true≢false, Vec}
use Rattle.std.specs.declared.alloc.Global.{Global}
use Rattle.std.specs.List.{Contains}
use Rattle.std.proofs.lemmas.List.{take_all}
use Rattle.std.proofs.lemmas.List.Elements.{All-contains}
use Rattle.std.proofs.lemmas.Option.{same_Some}
use Rattle.pv_graph.specs.declared.node.Node.{Node}
use Rattle.pv_classes.specs.declared.join.Join.{Join}
use Rattle.pv_classes.specs.declared.congruence.Congruence.{Congruence}
use Rattle.pv_classes.specs.Closest.{IsOutside}
use Rattle.pv_classes.specs.Index.{AreJoined, IsOutsideAt}
use Rattle.pv_classes.specs.Congruence.{index_of}
use Rattle.pv_classes.proofs.Passes.{IsPass, pass_none, pass_visits, pass_holds}
use Rattle.pv_classes.proofs.closing.pass.Goals as goal
use Rattle.pv_classes.proofs.closing.pass.Goals.{then-is_outside+in_ok-visit, else-is_outside+in_ok-push}

pub loop-n-init : goal.loop-n-init
loop-n-init c = record { joined = c.requires.joined; so_far = pass_none c.args.g.now.nodes c.args.fixed.now (index_of c.args.congruence.now) c.args.joins.now.items c.args.held.now.items c.requires.index }

pub loop-n-preserved : goal.loop-n-preserved
loop-n-preserved c =
    let nodes = c.args.g.now.nodes in
    let fixed = c.args.fixed.now in
    let work = c.args.work.now in
    let i = c.loop-n.n-index in
    let first = index_of c.args.congruence.now in
    let before = c.args.joins.now.items in
    let held = c.args.held.now.items in
    let now = index_of c.loop-n.congruence in
    let low : (n : ℕ) → Contains work n → n < length nodes = λ n there. All-contains (λ (m : ℕ). m < length nodes) work n c.requires.work there in
    elim c.if-is_outside.branch [
      | then-is_outside+in_ok-visit w ↦
          let out : IsOutsideAt nodes fixed (get_or work i 0) = λ node is. subst (λ (x : Node). IsOutside fixed x.op) (same_Some c.node.result.now node (sym c.node.ensures ∙ is)) (c.is_outside.ensures.0 w.if-is_outside.true) in
          let so_far = pass_visits nodes fixed work i c.loop-n-test.true first now before c.loop-n.joins.items held c.loop-n.held.items c.loop-n.invariant.so_far
          (index_of w.visit.new.congruence) w.visit.new.joins.items low (w.in_ok-visit.ensures.ok fixed out) w.in_ok-visit.ensures.tracked in
          record {
            joined = subst (λ (k : Congruence). AreJoined k.parts c.if-is_outside.joins.items) (sym w.congruence-is) (subst (λ (j : Vec Join Global). AreJoined w.visit.new.congruence.parts j.items) (sym w.joins-is) w.visit.ensures.joined);
            so_far =
                subst (λ (k : Congruence). IsPass nodes fixed (take (i + 1) work) first (index_of k) before c.if-is_outside.joins.items held c.if-is_outside.held.items) (sym w.congruence-is)
                (subst (λ (j : Vec Join Global). IsPass nodes fixed (take (i + 1) work) first (index_of w.visit.new.congruence) before j.items held c.if-is_outside.held.items) (sym w.joins-is)
                (subst (λ (h : Vec ℕ Global). IsPass nodes fixed (take (i + 1) work) first (index_of w.visit.new.congruence) before w.visit.new.joins.items held h.items) (sym w.held-is) so_far));
          }
      | else-is_outside+in_ok-push w ↦
          let inside : IsOutsideAt nodes fixed (get_or work i 0) → ⊥ = λ out. true≢false (sym (c.is_outside.ensures.1 (out c.node.result.now c.node.ensures)) ∙ w.if-is_outside.false) in
          let so_far = pass_holds nodes fixed work i c.loop-n-test.true first now before c.loop-n.joins.items held c.loop-n.held.items c.loop-n.invariant.so_far w.push.new.self.items w.in_ok-push.ensures.items inside in
          record {
            joined = subst (λ (k : Congruence). AreJoined k.parts c.if-is_outside.joins.items) (sym w.congruence-is) (subst (λ (j : Vec Join Global). AreJoined c.loop-n.congruence.parts j.items) (sym w.joins-is) c.loop-n.invariant.joined);
            so_far =
                subst (λ (k : Congruence). IsPass nodes fixed (take (i + 1) work) first (index_of k) before c.if-is_outside.joins.items held c.if-is_outside.held.items) (sym w.congruence-is)
                (subst (λ (j : Vec Join Global). IsPass nodes fixed (take (i + 1) work) first now before j.items held c.if-is_outside.held.items) (sym w.joins-is)
                (subst (λ (h : Vec ℕ Global). IsPass nodes fixed (take (i + 1) work) first now before c.loop-n.joins.items held h.items) (sym w.held-is) so_far));
          }
    ]

pub returns-clause-tracked : goal.returns-clause-tracked
returns-clause-tracked c n there =
    c.loop-n.invariant.so_far.tracked n (subst (λ (xs : List ℕ). Contains xs n) (sym (take_all c.loop-n.n-index c.args.work.now c.loop-n-test.false)) there)

pub returns-clause-held : goal.returns-clause-held
returns-clause-held c =
    subst (λ (xs : List ℕ). (n : ℕ) → Contains c.loop-n.held.items n → Contains c.args.held.now.items n ⊎ (Contains xs n × (IsOutsideAt c.args.g.now.nodes c.args.fixed.now n → ⊥)))
    (take_all c.loop-n.n-index c.args.work.now c.loop-n-test.false) c.loop-n.invariant.so_far.held
