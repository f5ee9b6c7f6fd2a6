use Rattle.std.proofs.Common.{◌≡◌, ◌++◌, List, ℕ, ap, ◌∙◌}
use Rattle.pv_cert.specs.declared.cert.Version.TheVariants.{Two}
use Rattle.pv_cert.specs.declared.cert.Cert.{Cert}
use Rattle.pv_cert.specs.Certificates.{spelled}
use Rattle.pv_drawings.specs.Alone.{alone}
use Rattle.pv_drawings.proofs.Cutting.{alone_cut, alone_long}
use Rattle.pv_drawings.proofs.spelling.push_op.Goals as goal

pub cut-requires : goal.cut-requires
cut-requires c =
    let text : c.deref.result.now ≡ spelled Two (alone c.args.op.now) = c.deref.ensures.value ∙ c.in_ok-text.ensures ∙ ap (λ (k : Cert). spelled Two k) c.in_ok-cert.ensures in
    alone_long c.args.op.now c.deref.result.now text

pub returns : goal.returns
returns c =
    let text : c.deref.result.now ≡ spelled Two (alone c.args.op.now) = c.deref.ensures.value ∙ c.in_ok-text.ensures ∙ ap (λ (k : Cert). spelled Two k) c.in_ok-cert.ensures in
    c.in_ok-extend_from_slice.ensures.items ∙ ap (λ (r : List ℕ). c.args.out.now.items ++ r) (c.cut.ensures ∙ alone_cut c.args.op.now c.deref.result.now text)
