use Rattle.std.proofs.Common.{◌≡◌, ◌<◌, ℕ, map, Some, slice_get}
use Rattle.pv_graph.specs.Walks.{In}
use Rattle.pv_pattern.specs.Patterns.{Axiom, Head, Patterns, over}
use Rattle.pv_pattern.specs.Seen.{axiom_seen}
use Rattle.pv_match.specs.Bindings.{head_number, with_number}
use Rattle.pv_match.proofs.rules.rules_of.Given as goal

abbrev pub invariant-loop-i : goal.invariant-loop-i
invariant-loop-i l = (j : ℕ) (a : Axiom) (h : Head) (ps : Patterns) → j < l.i → slice_get (map axiom_seen l.table) j ≡ Some a → a.left ≡ over h ps → In (with_number l.rules.items (head_number h)) j
