use Rattle.std.proofs.Common.{ap, sym, ◌∙◌, List}
use Rattle.std.specs.Prelude.{reverse}
use Rattle.std.specs.Option.{option_copied}
use Rattle.std.specs.FinMap.{FinMap, get}
use Rattle.pv_value.specs.CallOrder.{key_cmp}
use Rattle.pv_value.specs.declared.world.Call.{Call}
use Rattle.pv_value.specs.declared.world.CallKey.{CallKey}
use Rattle.pv_value.specs.declared.outcome.Outcome.{Outcome}
use Rattle.pv_value.proofs.Latest.{first_of, reply_of, latest_is}
use Rattle.pv_value.proofs.world.Calls.get.Goals as goal

pub returns-in_err-call : goal.returns-in_err-call
returns-in_err-call c =
    let key : CallKey = record { sym = c.args.s.now; heap = c.args.heap.now; args = c.args.args.now } in
    ap option_copied c.from_residual.ensures ∙ ap reply_of c.in_err-call.ensures
    ∙ ap (λ (calls : List Call). reply_of (first_of key (reverse calls))) c.deref.ensures.value
    ∙ sym (latest_is key (reverse c.self.inside.items.items)) ∙ ap (λ (m : FinMap key_cmp Outcome). get m key) c.self.view_is

pub returns : goal.returns
returns c =
    let key : CallKey = record { sym = c.args.s.now; heap = c.args.heap.now; args = c.args.args.now } in
    ap reply_of c.in_ok-call.ensures
    ∙ ap (λ (calls : List Call). reply_of (first_of key (reverse calls))) c.deref.ensures.value
    ∙ sym (latest_is key (reverse c.self.inside.items.items)) ∙ ap (λ (m : FinMap key_cmp Outcome). get m key) c.self.view_is
