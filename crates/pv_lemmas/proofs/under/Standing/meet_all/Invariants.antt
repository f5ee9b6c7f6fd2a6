use Rattle.std.proofs.Common.{◌≡◌, vec_len}
use Rattle.pv_lemmas.proofs.Asking.{MeetsUpTo}
use Rattle.pv_lemmas.proofs.under.Standing.meet_all.Given as goal

abbrev pub invariant-loop-n : goal.invariant-loop-n
invariant-loop-n l = record {
  len : vec_len l.asked ≡ vec_len l.fn.asked;
  meets : MeetsUpTo l.self.inner.now l.self.nodes.now l.self.graph.now l.fn.asked.items l.asked.items l.p l.n-items l.n-index;
}
