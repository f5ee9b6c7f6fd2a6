use Rattle.std.proofs.Common.{◌≡◌, ℕ, ◌<◌, ◌≤◌, false, length, get_or}
use Rattle.pv_layout.proofs.Words.{◌||◌}
use Rattle.pv_layout.proofs.carrying.Writes.add.Given as goal

abbrev pub invariant-loop-k : goal.invariant-loop-k
invariant-loop-k l = record {
  heap : l.self.heap ≡ (l.fn.self.heap || l.others.heap);
  size : length l.self.locals.items ≡ length l.fn.self.locals.items;
  done : (j : ℕ) → j < l.k → get_or l.self.locals.items j false ≡ (get_or l.fn.self.locals.items j false || get_or l.others.locals.items j false);
  left : (j : ℕ) → l.k ≤ j → get_or l.self.locals.items j false ≡ get_or l.fn.self.locals.items j false;
}
