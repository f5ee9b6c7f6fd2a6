-- What holds of the least graph of the roots of two methods.
use Rattle.std.specs.Prelude.{◌≡◌, ℕ, ◌<◌, List, [], ◌∷◌, Some, Result, Ok, Err, IfOk, length, slice_get, refl}
use Rattle.std.proofs.Common.{arith}
use Rattle.pv_value.specs.declared.memory.Memory.{Memory}
use Rattle.pv_class.specs.declared.file.ClassFile.{ClassFile}
use Rattle.pv_class.specs.declared.file.Method.{Method}
use Rattle.pv_graph.specs.Graphs.{Graph}
use Rattle.pv_alike.specs.Least.{Rooted, IsLeastOf}
use Rattle.pv_report.specs.declared.verdict.Verdict.{Verdict}
use Rattle.pv_report.specs.Judging.{IsLeastOnPlaces}

first_of : (methods : List Method) → 0 < length methods → (m : Method) × (slice_get methods 0 ≡ Some m)
first_of [] low = absurd (omega (arith, low))
first_of (m ∷ methods) low = (m, refl)

-- what holds of each least graph
module _ (Is : Rooted → Type 0) (each : (g : Graph) (a b : ℕ) (l : Rooted) → IsLeastOf g a b l → Is l) where
  on_roots : (first second : ClassFile) → 0 < length first.methods → 0 < length second.methods → (found : Result Rooted Verdict) → IsLeastOnPlaces first 0 second 0 found → IfOk found Is
  on_roots first second low low' (Ok l) h =
      let m = first_of first.methods low in
      let p = first_of second.methods low' in
      let least = h m.0 p.0 m.1 p.1 in
      each least.roots.graph least.roots.root least.roots.other l least.least
  on_roots first second low low' (Err v) h = tt

  pub of_least : (first second : ClassFile) → 0 < length first.methods → 0 < length second.methods → (r : Result (Result Rooted Verdict) Memory)
      → IfOk r (λ found. IsLeastOnPlaces first 0 second 0 found) → IfOk r (λ found. IfOk found Is)
  of_least first second low low' (Ok found) h = on_roots first second low low' found h
  of_least first second low low' (Err e) h = tt
