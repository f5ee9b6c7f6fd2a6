use Rattle.std.proofs.Common.{◌≡◌, ℕ, ◌<◌, length, ◌∙◌, subst, arith}
use Rattle.pv_loops.proofs.Words.{leader_of, AreOthers}
use Rattle.pv_loops.proofs.Sweeping.{first_rest, reduced_start}
use Rattle.pv_loops.proofs.reduction.Reduction.collapse.Goals as goal

pub sweeps-init : goal.sweeps-init
sweeps-init c =
    let g = c.in_ok-single.field-0 in
    let size : length g.leader.items ≡ length c.args.sources.now = omega (arith, c.in_ok-single.ensures.size, c.requires.count) in
    let own : (x : ℕ) → x < length g.leader.items → leader_of g x ≡ x = λ x h. c.in_ok-single.ensures.leaders x (omega (arith, h, c.in_ok-single.ensures.size)) in
    record {
      groups = c.in_ok-single.ensures.groups;
      size = size;
      reduced = λ s rev. reduced_start s c.args.sources.now _ c.requires.shape.entry size own (λ x h. c.in_ok-single.ensures.groups.first x (h, own x h)) c.new.ensures.items rev c.requires.shape;
      leaders = first_rest g c.args.others.items own (subst (λ n. AreOthers n c.args.others.items) (omega (arith, c.requires.count, size)) c.requires.others);
    }

pub returns-then-len-clause-ends : goal.returns-then-len-clause-ends
returns-then-len-clause-ends c = c.in_ok-kept.ensures.ends (omega (arith, c.len.ensures, c.len-in-sweeps.ensures, c.deref.ensures.len, c.if-len.true))

pub sweeps-preserved : goal.sweeps-preserved
sweeps-preserved c = record {
  groups = c.in_ok-kept.ensures.groups;
  size = c.in_ok-kept.ensures.size ∙ c.sweeps.invariant.size;
  reduced = c.in_ok-kept.ensures.reduced c.sweeps.invariant.reduced;
  leaders = c.in_ok-kept.ensures.rest;
}
