use Rattle.std.proofs.Common.{◌≡◌, ℕ, Bool, length, take, Some, slice_get}
use Rattle.pv_layout.proofs.Words.{list_any, Writes, Marks}
use Rattle.pv_layout.proofs.carrying.united.Given as goal

abbrev pub invariant-loop-member : goal.invariant-loop-member
invariant-loop-member l = record {
  size : length l.all.locals.items ≡ l.count;
  marks : (test : ℕ → ℕ → Bool) → ((n : ℕ) (x : Writes) → slice_get l.blocks n ≡ Some x → Marks l.count (test n) x) → Marks l.count (λ s. list_any (λ n. test n s) (take l.member-index l.members)) l.all;
}
