use Rattle.std.proofs.Common.{ℕ, List, ◌++◌, ap, ◌∙◌}
use Rattle.pv_chain.proofs.HeadSteps.{head_after}
use Rattle.pv_chain.proofs.head.push_head.Goals as goal

pub returns : goal.returns
returns c =
    head_after c.args.out.now.items _ _ _ _ _ c.args.middle.now c.args.count c.in_ok-extend_from_slice.ensures.items
    (c.in_ok-extend_from_slice-2.ensures.items ∙ ap (λ (t : List ℕ). c.extend_from_slice.new.self.items ++ t) (c.as_bytes.ensures.value ∙ c.in_ok-digits.ensures)) c.in_ok-extend_from_slice-3.ensures.items c.in_ok-push_decimal.ensures c.in_ok-extend_from_slice-4.ensures.items
