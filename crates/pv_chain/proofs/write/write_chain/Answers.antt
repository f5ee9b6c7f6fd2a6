use Rattle.std.proofs.Common.{◌∙◌, ap, arith, length}
use Rattle.pv_cert.specs.declared.cert.Version.TheVariants.{Two}
use Rattle.pv_chain.proofs.Written.{chain_after, few_lines}
use Rattle.pv_chain.proofs.write.write_chain.Goals as goal

pub count_lines-count-requires : goal.count_lines-count-requires
count_lines-count-requires c = omega (arith, few_lines Two c.args.c.now.first, c.len.ensures, ap length c.in_ok-first.ensures)

pub returns : goal.returns
returns c =
    chain_after _ _ _ _ c.deref.result.now c.deref-2.result.now c.as_slice.result.now c.count_lines-count.result c.args.c.now c.new-out.ensures.items c.in_ok-push_head.ensures c.in_ok-extend_from_slice.ensures.items c.in_ok-extend_from_slice-2.ensures.items c.as_slice.ensures c.count_lines-count.ensures (c.deref.ensures.value ∙ c.in_ok-first.ensures) (c.deref-2.ensures.value ∙ c.in_ok-second.ensures)
