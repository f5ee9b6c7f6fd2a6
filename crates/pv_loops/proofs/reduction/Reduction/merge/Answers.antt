use Rattle.std.proofs.Common.{ℕ, List, sym, subst, ◌≡◌, ◌↔◌, true}
use Rattle.pv_loops.proofs.Words.{Contains, leader_of}
use Rattle.pv_loops.proofs.Merging.{merged_groups}
use Rattle.pv_loops.proofs.Reducing.{reduced_merge}
use Rattle.pv_loops.proofs.Sweeping.{sources_nodes, only_leads}
use Rattle.pv_loops.proofs.reduction.Reduction.merge.Goals as goal

pub has_own_source-own-requires : goal.has_own_source-own-requires
has_own_source-own-requires c = sources_nodes c.args.sources.now c.args.n _ c.get.result.now c.requires.shape c.requires.size c.get.ensures

pub merge-requires-clause-into : goal.merge-requires-clause-into
merge-requires-clause-into c = only_leads c.args.self.now.groups c.args.sources.now c.args.n c.args.p c.requires.groups c.requires.shape c.requires.size c.requires.only

pub returns-clause-groups : goal.returns-clause-groups
returns-clause-groups c =
    merged_groups _ _ c.args.n c.args.p c.requires.groups c.requires.leader (only_leads c.args.self.now.groups c.args.sources.now c.args.n c.args.p c.requires.groups c.requires.shape c.requires.size c.requires.only)
    (λ e. c.requires.only.other (sym e)) c.in_ok-merge.ensures

pub returns-clause-reduced : goal.returns-clause-reduced
returns-clause-reduced c = λ R s rev.
    reduced_merge s c.args.sources.now c.args.self.now (record { groups = c.merge.new.self; steps = c.push_steps.new.steps }) c.has_own_source-own.result c.args.n c.args.p rev c.requires.groups c.requires.leader c.requires.nonzero c.requires.only
    (subst (λ (l : List ℕ). (c.has_own_source-own.result ≡ true) ↔ ((x : ℕ) × Contains l x × (leader_of c.args.self.now.groups x ≡ c.args.n))) c.get.ensures c.has_own_source-own.ensures) c.in_ok-push_steps.ensures c.in_ok-merge.ensures (R s rev)
