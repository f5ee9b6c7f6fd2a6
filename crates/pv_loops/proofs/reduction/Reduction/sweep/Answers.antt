use Rattle.std.proofs.Common.{ℕ, List, ◌+◌, get_or, refl, sym, subst, ap, ◌∙◌, arith, Vec, Global}
use Rattle.pv_loops.proofs.Words.{Reduction, targets, Leads, IsOnlySource}
use Rattle.pv_loops.proofs.Sweeping.{sources_nodes, only_leads, Sweeping, sweeping_kept, sweeping_merged, swept_none, SweptTo}
use Rattle.pv_loops.proofs.reduction.Reduction.sweep.Goals as goal
use Rattle.pv_loops.proofs.reduction.Reduction.sweep.Goals.{in-None+in_ok-push-in-None, in-Some+in_ok-merge-in-Some}

pub only_source-requires : goal.only_source-requires
only_source-requires c = sources_nodes c.args.sources.now (get_or c.args.rest.now c.loop-n.n-index 0) _ c.get.result.now c.requires.shape (c.requires.size ∙ sym c.loop-n.invariant.size) c.get.ensures

pub loop-n-init : goal.loop-n-init
loop-n-init c = record { groups = c.requires.groups; size = refl; reduced = λ r. r; swept = subst (λ (l : List ℕ). SweptTo c.args.self.now.groups c.args.sources.now c.args.rest.now l 0) (sym c.new-kept.ensures.items) (swept_none c.args.self.now.groups c.args.sources.now c.args.rest.now c.requires.rest) }

pub loop-n-preserved : goal.loop-n-preserved
loop-n-preserved c =
    let n : ℕ = get_or c.args.rest.now c.loop-n.n-index 0 in
    elim c.match-only_source.branch [
      | in-None+in_ok-push-in-None w ↦
          subst (λ (r : Reduction). Sweeping c.args.self.now r c.args.sources.now c.args.rest.now c.match-only_source.kept.items (c.loop-n.n-index + 1)) (sym w.self-is)
          (sweeping_kept c.args.self.now c.loop-n.self c.args.sources.now c.args.rest.now c.loop-n.kept.items c.match-only_source.kept.items c.loop-n.n-index n (c.requires.rest.nonzero, c.requires.rest.distinct) c.loop-n-test.true refl
          (ap (λ (v : Vec ℕ Global). v.items) w.kept-is ∙ w.in_ok-push-in-None.ensures.items) (λ p only. w.in-None.ensures.none p (subst (λ (l : List ℕ). IsOnlySource c.loop-n.self.groups l n p) (sym c.get.ensures) only)) c.loop-n.invariant)
      | in-Some+in_ok-merge-in-Some w ↦
          let only : IsOnlySource c.loop-n.self.groups (targets c.args.sources.now n) n w.in-Some.p = subst (λ (l : List ℕ). IsOnlySource c.loop-n.self.groups l n w.in-Some.p) c.get.ensures w.in-Some.ensures.only in
          let leads : Leads c.loop-n.self.groups w.in-Some.p = only_leads c.loop-n.self.groups c.args.sources.now n w.in-Some.p c.loop-n.invariant.groups c.requires.shape (c.requires.size ∙ sym c.loop-n.invariant.size) only in
          subst (λ (r : Reduction). Sweeping c.args.self.now r c.args.sources.now c.args.rest.now c.match-only_source.kept.items (c.loop-n.n-index + 1)) (sym w.self-is)
          (subst (λ (l : List ℕ). Sweeping c.args.self.now w.merge.new.self c.args.sources.now c.args.rest.now l (c.loop-n.n-index + 1)) (sym (ap (λ (v : Vec ℕ Global). v.items) w.kept-is))
          (sweeping_merged c.args.self.now c.loop-n.self w.merge.new.self c.args.sources.now c.args.rest.now c.loop-n.kept.items c.loop-n.n-index n w.in-Some.p (c.requires.rest.nonzero, c.requires.rest.distinct) c.loop-n-test.true refl leads
          (λ e. only.other (sym e)) w.in_ok-merge-in-Some.ensures.merged w.in_ok-merge-in-Some.ensures.groups w.in_ok-merge-in-Some.ensures.reduced c.loop-n.invariant))
    ]

pub returns-clause-ends : goal.returns-clause-ends
returns-clause-ends c = λ e. c.loop-n.invariant.swept.ends (omega (arith, e, c.loop-n.kept.ok))
