use Rattle.std.proofs.Common.{◌≡◌, ◌∷◌, ◌<◌, ℕ, [], map, get_or, length}
use Rattle.pv_loops.proofs.Words.{header_at, key_at, IsKey}
use Rattle.pv_loops.proofs.together.keys.Given as goal

abbrev pub invariant-loop-x : goal.invariant-loop-x
invariant-loop-x l = record {
  size : length l.keys.items ≡ l.x;
  keys : (x : ℕ) → x < l.x → IsKey l.place (x ∷ map (header_at l.loops) (get_or l.rows x [])) (key_at l.keys.items x);
}
