use Rattle.std.proofs.Common.{◌≡◌, ◌+◌, ℕ, Bool, [], Some, length, slice_get, Vec}
use Rattle.std.specs.declared.alloc.Global.{Global}
use Rattle.pv_graph.specs.declared.reach.Look.TheVariants as look
use Rattle.pv_graph.specs.Reach.{IsSearched}
use Rattle.pv_graph.proofs.prepared.prepared_of.Given as goal

abbrev pub invariant-loop-d : goal.invariant-loop-d
invariant-loop-d l = record { depths : length l.free.items ≡ l.d; free : (d : ℕ) (marks : Vec Bool Global) → slice_get l.free.items d ≡ Some marks → IsSearched l.nodes [] (look.Free (d + 1)) marks.items }
