-- One match more that is decoded.
use Rattle.std.specs.Prelude.{List, [], ◌∷◌, ◌++◌}
use Rattle.std.proofs.Common.{inl, inr, subst}
use Rattle.pv_graph.proofs.Cited.{in_cases}
use Rattle.pv_saturate.specs.declared.decoding.Decoded.{Decoded}
use Rattle.pv_rounds.specs.Decoded.{IsReady, AreReady}

pub ready_more : (ds : List Decoded) (d : Decoded) → AreReady ds → IsReady d → AreReady (ds ++ d ∷ [])
ready_more ds d all one x i = elim (in_cases ds d x i) [ inl old ↦ all x old | inr e ↦ subst IsReady e one ]
