-- Laws of the verdict on two roots.
use Rattle.std.specs.Prelude.{◌≡◌}
use Rattle.pv_alike.specs.Least.{Rooted}
use Rattle.pv_heights.specs.Verdicts.{Verdict, IsVerdict}
use Rattle.pv_prove.specs.declared.outcome.Limits.{Limits}
use Rattle.pv_prove.specs.Finding.{question}

-- the verdict looks at nodes and roots alone: two least graphs that have the same of both have one verdict
abbrev pub VerdictByNodes : Type 0
VerdictByNodes = (l m : Rooted) (limits : Limits) (v w : Verdict) → l.graph.nodes ≡ m.graph.nodes → l.first ≡ m.first → l.second ≡ m.second
    → IsVerdict (question l limits) v → IsVerdict (question m limits) w → v ≡ w
