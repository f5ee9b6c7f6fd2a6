-- When two methods have the same meaning.
use Rattle.std.specs.Prelude.{◌↔◌}
use Rattle.pv_value.specs.declared.descriptor.Descriptor.{Descriptor}
use Rattle.pv_value.specs.declared.world.World.{World}
use Rattle.pv_value.specs.declared.outcome.Input.{Input}
use Rattle.pv_value.specs.declared.outcome.Outcome.{Outcome}
use Rattle.pv_value.specs.Descriptors.{IsMethodType}
use Rattle.pv_value.specs.Inputs.{Fits}
use Rattle.pv_value.specs.Worlds.{IsWorld}
use Rattle.pv_class.specs.declared.file.ClassFile.{ClassFile}
use Rattle.pv_class.specs.declared.file.Method.{Method}
use Rattle.pv_frame.specs.declared.program.Program.{Program}
use Rattle.pv_machine.specs.Machine.{IsProgram, Ends}

-- in every world, and for every input that fits, one ends with an outcome exactly where the other does
abbrev pub HaveSameMeaning : ClassFile → Method → ClassFile → Method → Type 0
HaveSameMeaning file m file' m' =
    (d : Descriptor) → IsMethodType m.desc d → (w : World) → IsWorld w → (input : Input) → Fits d input → (o : Outcome) → Ends file m w input o ↔ Ends file' m' w input o

abbrev pub HasProgram : ClassFile → Method → Type 0
HasProgram file m = (p : Program) × IsProgram file m p

-- the same meaning, where both have a program: without one a method never ends
pub record AreEquivalentMethods (file : ClassFile) (m : Method) (file' : ClassFile) (m' : Method) : Type 0 where
  pub first : HasProgram file m
  pub second : HasProgram file' m'
  pub same : HaveSameMeaning file m file' m'
