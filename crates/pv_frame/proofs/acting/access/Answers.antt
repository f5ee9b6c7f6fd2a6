use Rattle.std.proofs.Common.{List, ℕ, ◌≡◌, sym, subst}
use Rattle.pv_frame.proofs.Words.{IsFieldType, IsMethodType}
use Rattle.pv_frame.proofs.ActingLaws.{bad_text}
use Rattle.pv_frame.proofs.acting.access.Goals as goal

pub returns-in-None : goal.returns-in-None
returns-in-None c =
    let text : c.bytes-text.result.now ≡ c.args.member.now.sym.desc = c.bytes-text.ensures in
    let no_field = rw c.in_default.is at c.read_field_type.ensures in
    let no_method = rw c.in-None.is at c.in_ok-desc.ensures in
    bad_text c.args.opcode c.args.member.now (λ t is. no_field t (subst (λ (x : List ℕ). IsFieldType x t) (sym text) is)) (λ d is. no_method d (subst (λ (x : List ℕ). IsMethodType x d) (sym text) is))
