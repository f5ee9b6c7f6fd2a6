-- Laws of tries.
use Rattle.std.specs.Prelude.{◌≡◌, ℕ, ◌<◌, Some}
use Rattle.std.specs.List.{AllByRecursion}
use Rattle.pv_value.specs.declared.descriptor.Descriptor.{Descriptor}
use Rattle.pv_value.specs.declared.outcome.Input.{Input}
use Rattle.pv_value.specs.declared.world.World.{World}
use Rattle.pv_value.specs.Descriptors.{IsMethodType}
use Rattle.pv_value.specs.Inputs.{Fits}
use Rattle.pv_value.specs.Worlds.{IsWorld}
use Rattle.pv_class.specs.declared.file.ClassFile.{ClassFile}
use Rattle.pv_class.specs.declared.file.Code.{Code}
use Rattle.pv_class.specs.declared.file.Method.{Method}
use Rattle.pv_frame.specs.Actions.{IsFloatlessMethod}
use Rattle.pv_machine.specs.Machine.{IsProgram}
use Rattle.pv_machine.specs.SameMeaning.{HaveSameMeaning}
use Rattle.pv_refute.specs.Tries.{try_world, try_input}
use Rattle.pv_refute.specs.Differences.{Trial, DifferOn, EndApart}

-- the input of each try fits its descriptor
abbrev pub TriesFit : Type 0
TriesFit = (d : Descriptor) (t : ℕ) → IsFloatlessMethod d → Fits d (try_input d t)

-- methods whose programs differ on a try end with different outcomes in the world of the tries, on the input of that try
abbrev pub TriesShow : Type 0
TriesShow =
    (q : Trial) (t : ℕ) → DifferOn q t → (file : ClassFile) (m : Method) (other : ClassFile) (p : Method) → IsProgram file m q.first → IsProgram other p q.second →
    EndApart file m other p try_world (try_input q.desc t)

-- methods that end with different outcomes, in a world and on an input that fits, don't have the same meaning
abbrev pub ApartInMeaning : Type 0
ApartInMeaning =
    (file : ClassFile) (m : Method) (other : ClassFile) (p : Method) → ((code : Code) → p.code ≡ Some code → AllByRecursion (λ b. b < 256) code.bytes) →
    (d : Descriptor) → IsMethodType m.desc d → (w : World) → IsWorld w → (input : Input) → Fits d input → EndApart file m other p w input → HaveSameMeaning file m other p → ⊥
