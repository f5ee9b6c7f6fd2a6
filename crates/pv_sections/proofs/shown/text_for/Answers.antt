use Rattle.std.proofs.Common.{refl}
use Rattle.pv_sections.proofs.Certifying.{text_is}
use Rattle.pv_sections.proofs.shown.text_for.Goals as goal

pub returns : goal.returns
returns c = text_is c.args.first.now c.args.second.now c.args.sections (record { first = c.digest_of-one.result; second = c.digest_of-two.result; lemmas = c.no_lemmas.result; sections = c.args.sections }) c.write_cert.result (tt, ((tt, c.law_digest.ensures), (tt, c.law_digest-2.ensures))) c.digest_of-one.ensures c.digest_of-two.ensures c.no_lemmas.ensures refl c.write_cert.ensures
