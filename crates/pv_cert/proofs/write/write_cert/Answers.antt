use Rattle.pv_cert.specs.declared.cert.Version.TheVariants.{Two}
use Rattle.pv_cert.proofs.WrittenLaws.{cert_after}
use Rattle.pv_cert.proofs.write.write_cert.Goals as goal

pub returns : goal.returns
returns c =
    cert_after Two _ _ _ _ c.args.c.now c.as_slice.result.now c.as_slice-2.result.now c.new-out.ensures.items c.in_ok-push_header.ensures c.as_slice.ensures c.in_ok-push_lemmas.ensures c.as_slice-2.ensures c.in_ok-push_sections.ensures
