use Rattle.std.proofs.Common.{◌≡◌, ℕ, ap, ◌∙◌, inl, inr, Some, Ok, Err, Result, slice_get}
use Rattle.pv_machine.proofs.Words.{err_from_is_err_and, ClassFile, Method, Cause, Refused, Typed, AnswersOnly, IsRefusedAt, RefusesAs}
use Rattle.pv_frame.specs.declared.cause.Refused.TheVariants as refused
use Rattle.pv_machine.proofs.program.Program.new.Goals as goal

-- an error that says a cause says this one
only_error : {A : Type 0} (file : ClassFile) (place : ℕ) (m : Method) (e : Refused) (c : Cause) (r : Result A Refused) → slice_get file.methods place ≡ Some m → r ≡ Err e → AnswersOnly file place (Err e) → IsRefusedAt file place c → RefusesAs c r
only_error file place m (refused.Cause d) c r there is only h =
    let same : d ≡ c = (let one = only m there (Err c) (h m there) in cc (one)) in
    inl (is ∙ ap (λ (x : Cause). Err (refused.Cause x)) same)
only_error file place m refused.Memory c r there is only h = inr is

never_refused : {P : Type 0} (file : ClassFile) (place : ℕ) (m : Method) (t : Typed) (c : Cause) → slice_get file.methods place ≡ Some m → AnswersOnly file place (Ok t) → IsRefusedAt file place c → P
never_refused file place m t c there only h = absurd (let one = only m there (Err c) (h m there) in cc (one))

pub returns-in_err-typed-clause-only : goal.returns-in_err-typed-clause-only
returns-in_err-typed-clause-only c = λ cause h.
    let p = err_from_is_err_and c.from_residual.result c.from_residual.ensures.1 in
    only_error c.args.class.now c.args.method c.requires.code.method c.in_err-typed.field-0.0 cause c.from_residual.result c.requires.code.there (p.1 ∙ ap (λ (e : Refused). Err e) p.2) c.in_err-typed.ensures.only h

pub returns-clause-only : goal.returns-clause-only
returns-clause-only c = λ cause h. never_refused c.args.class.now c.args.method c.requires.code.method c.in_ok-typed.typed cause c.requires.code.there c.in_ok-typed.ensures.only h
