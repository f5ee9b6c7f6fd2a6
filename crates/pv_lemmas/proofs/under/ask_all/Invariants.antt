use Rattle.std.proofs.Common.{◌≡◌, vec_len}
use Rattle.pv_lemmas.proofs.Asking.{AddsUpTo}
use Rattle.pv_lemmas.proofs.under.ask_all.Given as goal

abbrev pub invariant-loop-i : goal.invariant-loop-i
invariant-loop-i l = record { len : vec_len l.asked ≡ vec_len l.fn.asked; adds : AddsUpTo l.fn.asked.items l.asked.items l.kids l.are l.i }
