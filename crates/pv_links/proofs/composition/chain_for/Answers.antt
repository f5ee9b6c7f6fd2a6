use Rattle.std.proofs.Common.{Ok, Err, None, refl}
use Rattle.pv_links.specs.Made.{BadFetched, CertsFetched}
use Rattle.pv_links.proofs.Joined.{all_made, bad_text_made}
use Rattle.pv_links.proofs.composition.chain_for.Goals as goal

pub returns-in-Err : goal.returns-in-Err
returns-in-Err c =
    let classes : BadFetched c.args.first.now c.args.second.now c.args.third.now None = rw c.in_default.is at c.in_ok-bad.ensures in
    let bad : CertsFetched c.args.one.now c.args.two.now (Err c.in-Err.bad) = rw c.in-Err.is at c.in_ok-certs.ensures in
    bad_text_made c.args.first.now c.args.second.now c.args.third.now c.args.one.now c.args.two.now c.in-Err.bad classes bad

pub returns : goal.returns
returns c =
    let classes : BadFetched c.args.first.now c.args.second.now c.args.third.now None = rw c.in_default.is at c.in_ok-bad.ensures in
    let certs : CertsFetched c.args.one.now c.args.two.now (Ok c.in-Ok.certs) = rw c.in-Ok.is at c.in_ok-certs.ensures in
    all_made c.args.first.now c.args.second.now c.args.third.now c.args.one.now c.args.two.now c.in-Ok.certs c.bytes_of-a.result.now c.bytes_of-b.result.now c.bytes_of-c.result.now c.in_ok-joined.field-0 classes certs c.bytes_of-a.ensures c.bytes_of-b.ensures c.bytes_of-c.ensures (c.if-not-names.ensures.0 refl)
    (c.if-not-names-2.ensures.0 refl) c.in_ok-joined.ensures
