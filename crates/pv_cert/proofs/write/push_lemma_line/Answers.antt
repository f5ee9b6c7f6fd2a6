use Rattle.pv_cert.proofs.WrittenLaws.{lemma_after}
use Rattle.pv_cert.proofs.write.push_lemma_line.Goals as goal

pub returns : goal.returns
returns c =
    lemma_after _ _ _ _ _ c.args.number c.args.vars.now c.in_ok-extend_from_slice.ensures.items c.in_ok-push_decimal.ensures c.in_ok-push_each.ensures c.in_ok-extend_from_slice-2.ensures.items
