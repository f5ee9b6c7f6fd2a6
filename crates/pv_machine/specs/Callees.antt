-- Runs whose callees do anything: a world's table has finitely many replies, and what it says carries over to callees with infinitely many.
use Rattle.std.specs.Prelude.{◌≡◌, ◌↔◌, ℕ, zero, suc, Bool, ◌||◌, if◌then◌else◌, IsTrue, List, ◌∷◌, codes, bytes_eq, Option, Some, None, option_map, unwrap_or, slice_get}
use Rattle.std.specs.FinMap.{get}
use Rattle.pv_value.specs.declared.number.Num.{Num}
use Rattle.pv_value.specs.declared.number.Num.TheVariants as num
use Rattle.pv_value.specs.declared.descriptor.Descriptor.{Descriptor}
use Rattle.pv_value.specs.declared.name.Sym.{Sym}
use Rattle.pv_value.specs.declared.world.World.{World}
use Rattle.pv_value.specs.declared.world.CallKey.{CallKey}
use Rattle.pv_value.specs.declared.outcome.Input.{Input}
use Rattle.pv_value.specs.declared.outcome.Outcome.{Outcome}
use Rattle.pv_value.specs.Descriptors.{IsMethodType}
use Rattle.pv_value.specs.Inputs.{Fits}
use Rattle.pv_value.specs.Worlds.{IsWorld, IsCall}
use Rattle.pv_types.specs.Facts as types
use Rattle.pv_pool.specs.Readers.{◌>>=◌}
use Rattle.pv_class.specs.declared.file.ClassFile.{ClassFile}
use Rattle.pv_class.specs.declared.file.Method.{Method}
use Rattle.pv_frame.specs.declared.action.Action.{Action}
use Rattle.pv_frame.specs.declared.action.Action.TheVariants as act
use Rattle.pv_frame.specs.Stacks.{popped}
use Rattle.pv_frame.specs.Effects.{sort_of, takes}
use Rattle.pv_frame.specs.declared.program.Program.{Program}
use Rattle.pv_machine.specs.Machine.{State, Now, running, ended, start, called, done, RunEnds, IsProgram}
use Rattle.pv_machine.specs.SameMeaning.{HaveSameMeaning}

-- what callees do: any partial function from a call to how it ends; where it has no value the call never ends
abbrev pub Callees : Type 0
Callees = CallKey → Option Outcome

-- a symbol of facts about types, which are told by the world, and which no class file calls
abbrev pub is_fact : Sym → Bool
is_fact s = bytes_eq s.name (types.marked (codes "is")) || bytes_eq s.name (types.marked (codes "fits"))

-- what a call gets over these callees: facts are as the world tells them
abbrev pub answer : Callees → World → CallKey → Option Outcome
answer callees w key = if is_fact key.sym then get w.calls key else callees key

-- ---- the machine over callees

-- a call ends as the callees say, and every other action does what it does in the world, of whose own replies nothing but facts is asked
abbrev pub done_over : Callees → Program → World → State → Action → List Num → Option Now
done_over callees p w s (act.Call d f) args = option_map (called s) (answer callees w (record { sym = f; heap = s.heap; args = args }))
done_over callees p w s (act.CallOn d f) (num.Ref (suc r) ∷ args) = option_map (called s) (answer callees w (record { sym = f; heap = s.heap; args = num.Ref (suc r) ∷ args }))
done_over callees p w s a operands = done p w s a operands

-- from here on as in `Machine`
abbrev pub performed_over : Callees → Program → World → State → Action → Option Now
performed_over callees p w s a = do
  operands ← popped sort_of (takes a) s.stack
  done_over callees p w (record s { stack = operands.1 }) a operands.0

abbrev pub perform_at_over : Callees → Program → World → State → Option Action → Now
perform_at_over callees p w s (Some a) = unwrap_or (performed_over callees p w s a) (running s)
perform_at_over callees p w s None = running s

abbrev pub step_over : Callees → Program → World → State → Now
step_over callees p w s = perform_at_over callees p w s (slice_get p.actions s.at)

abbrev pub go_on_over : Callees → Program → World → Now → Now
go_on_over callees p w (running s) = step_over callees p w s
go_on_over callees p w (ended o) = ended o

unfoldable pub after_over : Callees → Program → World → State → ℕ → Now
after_over callees p w s zero = running s
after_over callees p w s (suc n) = go_on_over callees p w (after_over callees p w s n)

abbrev pub RunEndsOver : Callees → Program → World → Input → Outcome → Type 0
RunEndsOver callees p w input o = (n : ℕ) × (after_over callees p w (start p input) n ≡ ended o)

-- a method of a class ends so over these callees
pub record EndsOver (callees : Callees) (file : ClassFile) (m : Method) (w : World) (input : Input) (o : Outcome) : Type 0 where
  pub program : Program
  pub is : IsProgram file m program
  pub run : RunEndsOver callees program w input o

-- ---- callees and worlds

-- the callees of a world: its table of replies
abbrev pub callees_of : World → Callees
callees_of w key = get w.calls key

-- each reply of these callees is one of those
abbrev pub IsPartOf : Callees → Callees → Type 0
IsPartOf these those = (key : CallKey) (o : Outcome) → these key ≡ Some o → those key ≡ Some o

-- the second world is the first one but for its replies, and tells the same facts
pub record DifferInReplies (w v : World) : Type 0 where
  pub else_same : v ≡ record w { calls = v.calls }
  pub facts : (key : CallKey) → IsTrue (is_fact key.sym) → get v.calls key ≡ get w.calls key

-- a world whose replies are some of these callees', and else as this one
pub record HasRepliesOf (callees : Callees) (w v : World) : Type 0 where
  pub differ : DifferInReplies w v
  pub part : IsPartOf (callees_of v) callees

-- each reply is of a call whose heap and arguments are in range, and fits the symbol of its callee, as in a world
abbrev pub AreCallees : Callees → Type 0
AreCallees callees = (key : CallKey) (o : Outcome) → callees key ≡ Some o → IsCall key o

-- ---- laws

-- with more replies, a run that ends in a world ends so
abbrev pub MoreReplies : Type 0
MoreReplies =
    (p : Program) (w v : World) → DifferInReplies w v → IsPartOf (callees_of w) (callees_of v) → (input : Input) (o : Outcome) → RunEnds p w input o → RunEnds p v input o

-- over a world's own callees the machine's runs are those in the world
abbrev pub OverItsOwn : Type 0
OverItsOwn = (p : Program) (w : World) (input : Input) (o : Outcome) → RunEndsOver (callees_of w) p w input o ↔ RunEnds p w input o

-- over any callees that do what the world says, and more, a run ends exactly where it ends so in a world with the same facts, which has
-- finitely many replies, each of them theirs
abbrev pub FinitelyManyReplies : Type 0
FinitelyManyReplies =
    (callees : Callees) (p : Program) (w : World) → IsPartOf (callees_of w) callees → (input : Input) (o : Outcome) → RunEndsOver callees p w input o ↔ ((v : World) × HasRepliesOf callees w v × RunEnds p v input o)

-- methods with the same meaning in every world end in the same way over any callees that do what the world says, and more
abbrev pub SameOverCallees : Type 0
SameOverCallees =
    (file : ClassFile) (m : Method) (file' : ClassFile) (m' : Method) → HaveSameMeaning file m file' m' → (callees : Callees) → AreCallees callees →
    (d : Descriptor) → IsMethodType m.desc d → (w : World) → IsWorld w → IsPartOf (callees_of w) callees → (input : Input) → Fits d input → (o : Outcome) → EndsOver callees file m w input o ↔ EndsOver callees file' m' w input o
