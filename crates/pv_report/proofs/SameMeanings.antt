-- Methods whose roots have the same values have the same meaning.
use Rattle.std.proofs.Common.{◌≡◌, ◌↔◌, ℕ, suc, ◌<◌, List, [], ◌∷◌, sym, subst}
use Rattle.std.specs.List.{AllByRecursion}
use Rattle.pv_value.specs.declared.descriptor.Descriptor.{Descriptor}
use Rattle.pv_value.specs.declared.world.World.{World}
use Rattle.pv_value.specs.declared.outcome.Input.{Input}
use Rattle.pv_value.specs.declared.outcome.Outcome.{Outcome}
use Rattle.pv_value.specs.declared.outcome.Val.TheVariants as val
use Rattle.pv_value.specs.Descriptors.{IsMethodType}
use Rattle.pv_value.specs.Worlds.{IsWorld}
use Rattle.pv_value.specs.Inputs.{Fits, IsInput}
use Rattle.pv_value.specs.declared.outcome.Val.{Val}
use Rattle.pv_value.proofs.Cited.{fits_input, method_type_once}
use Rattle.pv_class.specs.declared.file.ClassFile.{ClassFile}
use Rattle.pv_class.specs.declared.file.Method.{Method}
use Rattle.pv_pool.proofs.Cited.{IsBytes}
use Rattle.pv_class.proofs.Cited.{HasBytes}
use Rattle.pv_machine.specs.Machine.{IsProgram, Ends}
use Rattle.pv_machine.specs.SameMeaning.{AreEquivalentMethods}
use Rattle.pv_graph.specs.Graphs.{Graph}
use Rattle.pv_denote.specs.Denote.{outside}
use Rattle.pv_denote.specs.Meaning.{Same, Value}
use Rattle.pv_equations.specs.Equations.{Values, AreEquations}
use Rattle.pv_equations.proofs.Cited.{solvable}
use Rattle.pv_alike.specs.Least.{Rooted}
use Rattle.pv_alike.proofs.Cited.{first_means, second_means}
use Rattle.pv_loops.specs.declared.forest.TheConstants.{MAX_DEPTH}
use Rattle.pv_runs.specs.Methods.{flow_of}
use Rattle.pv_runs.proofs.Cited.{method_ranked}
use Rattle.pv_outcomes.proofs.Cited.{method_converts}
use Rattle.pv_build.specs.Unfolded.{none_of}
use Rattle.pv_build.specs.Conversion.{Form, IsRootOf}
use Rattle.pv_report.specs.Roots.{HaveRoots, HaveLeast}

bytes_all : (bytes : List ℕ) → IsBytes bytes → AllByRecursion (λ b. b < 256) bytes
bytes_all [] h = tt
bytes_all (b ∷ bytes) h = (h 0, bytes_all bytes (λ i. h (suc i)))

program_of : (file : ClassFile) (m : Method) (a : Form file m) → IsProgram file m a.program
program_of file m a = record { of_method = a.accepted.of_method; typed = a.accepted.typed }

-- what solves the equations of a method that isn't refused
pub solved : (file : ClassFile) (m : Method) (a : Form file m) → (v : Values) × AreEquations (flow_of a.program a.frames a.blocks a.forest) v
solved file m a =
    let r = method_ranked file m a.program a.frames a.blocks a.forest a.shaped in
    solvable (flow_of a.program a.frames a.blocks a.forest) r.rank r.top MAX_DEPTH _ r.slots r.shape r.compact r.finite r.below r.deep

-- the root has the outcomes of the method
root_ends : (g : Graph) (root : ℕ) (file : ClassFile) (m : Method) (r : IsRootOf g root file m) (d : Descriptor) (w : World) (x : Input) (o : Outcome) → HasBytes m → IsMethodType m.desc d → IsWorld w → Fits d x
    → Value g w x root outside (val.End o) ↔ Ends file m w x o
root_ends g root file m r d w x o bytes is fine fits =
    let a = r.form in
    let same : d ≡ a.program.desc = method_type_once m.desc d a.program.desc is a.accepted.of_method.desc in
    let v = solved file m a in
    method_converts file m a.program a.frames a.blocks a.forest a.shaped (λ code has. bytes_all code.bytes (bytes code has)) v.0 v.1 g root (none_of a.program.desc.result) (r.built v.0 v.1) w x fine (subst (λ (e : Descriptor). Fits e x) same fits) outside o

-- two roots have the same values in every well-formed world, for every input
abbrev pub HaveSameValues : Graph → ℕ → ℕ → Type 0
HaveSameValues g a b = (w : World) (x : Input) → IsWorld w → IsInput x → (v : Val) → Value g w x a outside v ↔ Value g w x b outside v

-- methods whose roots have the same values have the same meaning
pub same_outcomes : (file : ClassFile) (m : Method) (other : ClassFile) (p : Method) (r : HaveRoots file m other p) → HaveSameValues r.graph r.root r.other → p.desc ≡ m.desc → HasBytes m → HasBytes p → AreEquivalentMethods file m other p
same_outcomes file m other p r same desc fm fp = record {
  first = (r.one.form.program, program_of file m r.one.form);
  second = (r.two.form.program, program_of other p r.two.form);
  same = λ d is w fine input fits o.
      let is_other : IsMethodType p.desc d = subst (λ (text : List ℕ). IsMethodType text d) (sym desc) is in
      let first = root_ends r.graph r.root file m r.one d w input o fm is fine fits in
      let second = root_ends r.graph r.other other p r.two d w input o fp is_other fine fits in
      let both = same w input fine (fits_input d input fits) (val.End o) in
      (λ e. second.0 (both.0 (first.1 e)), λ e. first.0 (both.1 (second.1 e)));
}

-- roots have the values of those of their least graph
least_values : (file : ClassFile) (m : Method) (other : ClassFile) (p : Method) (l : Rooted) (h : HaveLeast file m other p l) → Same l.graph l.first l.second → HaveSameValues h.roots.graph h.roots.root h.roots.other
least_values file m other p l h same w x world input v =
    let one = first_means h.least.least w x outside v in
    let two = second_means h.least.least w x outside v in
    let both = same w x world input outside v in
    (λ e. two.0 (both.0 (one.1 e)), λ e. one.0 (both.1 (two.1 e)))

-- .. so that methods have the same meaning where those have the same values
pub least_meaning : (file : ClassFile) (m : Method) (other : ClassFile) (p : Method) (l : Rooted) → HaveLeast file m other p l → Same l.graph l.first l.second → p.desc ≡ m.desc → HasBytes m → HasBytes p → AreEquivalentMethods file m other p
least_meaning file m other p l h same = same_outcomes file m other p h.roots (least_values file m other p l h same)
