-- Block after block; private to this crate.
use Rattle.std.specs.Prelude.{◌≡◌, ℕ, ◌+◌, [], Option, Some, None, replicate, slice_get}
use Rattle.std.specs.List.{Contains}
use Rattle.pv_loops.specs.declared.forest.Loop.{Loop}
use Rattle.pv_graph.specs.Graphs.{Graph}
use Rattle.pv_loops.specs.Ranks.{Heads}
use Rattle.pv_block.specs.declared.ran.Ran.{Ran}
use Rattle.pv_block.specs.declared.ran.State.{State}
use Rattle.pv_build.specs.declared.method.Method.{Method}
use Rattle.pv_build.specs.declared.method.Made.{Made}
use Rattle.pv_build.specs.declared.method.Stage.TheVariants as stage
use Rattle.pv_build.specs.Unfolded.{IsBuilt}
use Rattle.pv_build.specs.Stages.{loops_at, loops_around, HasRun, IsStage, AreDone}
use Rattle.pv_build.specs.Opening.{HeldAs, BeginsBlock, IsOuter}

-- the loop of which block b is the header, if it is one
abbrev pub IsOwnLoop : Method → ℕ → Option ℕ → Type 0
IsOwnLoop m b None = Heads (loops_around m b) b → ⊥
IsOwnLoop m b (Some i) = (l : Loop) × (slice_get m.forest.now.loops.items i ≡ Some l) × (l.header ≡ b)

-- there is a block, and the loop at this place has it
abbrev pub HasBlock : Method → ℕ → Option ℕ → Type 0
HasBlock m i None = ⊥
HasBlock m i (Some b) = (l : Loop) × (slice_get m.forest.now.loops.items i ≡ Some l) × Contains (loops_around m b) l.header

-- block b is next in the order
pub record IsNext (m : Method) (made : Made) (b : ℕ) : Type 0 where
  pub place : ℕ
  pub at : slice_get m.forest.now.order.items place ≡ Some b
  pub done : AreDone m made place

-- the blocks of the order up to b are done, and `next` is after it
pub record IsLast (m : Method) (made : Made) (b : ℕ) (next : Option ℕ) : Type 0 where
  pub place : ℕ
  pub at : slice_get m.forest.now.order.items place ≡ Some b
  pub after : slice_get m.forest.now.order.items (place + 1) ≡ next
  pub done : AreDone m made (place + 1)

-- what is made where block b comes next: the loops around it are open, but for its own
abbrev pub IsStageBefore : Method → Graph → Made → ℕ → Type 0
IsStageBefore m g made b = (at : Option ℕ) → IsOuter m b at → IsStage m g made (loops_at m at)

-- block b is begun: the loops around it are open, and what is held stands for its slots
pub record Begun (m : Method) (g : Graph) (made : Made) (b : ℕ) (c : State) : Type 0 where
  pub stage : IsStage m g made (loops_around m b)
  pub sorts : BeginsBlock m g b c
  pub reads : HeldAs m g made.names c (λ v. v.value b)

-- the loop at this place may be opened: no block with its header has run, the loops around it are open, and it is entered with this
pub record CanOpen (m : Method) (g : Graph) (made : Made) (i : ℕ) (c : State) : Type 0 where
  pub loop_ : Loop
  pub there : slice_get m.forest.now.loops.items i ≡ Some loop_
  pub ahead : HasRun made loop_.header → ⊥
  pub stage : IsStage m g made (loops_at m loop_.parent)
  pub sorts : BeginsBlock m g loop_.header c
  pub reads : HeldAs m g made.names c (λ v. v.entering loop_.header)

-- the stage where this block is next, or where none is
abbrev pub IsStageFor : Method → Graph → Made → Option ℕ → Type 0
IsStageFor m g made (Some b) = IsStageBefore m g made b
IsStageFor m g made None = IsStage m g made []

abbrev pub IsBuiltOf : Method → Graph → ℕ → Type 0
IsBuiltOf m g r = IsBuilt g m.typed.now.program m.typed.now.frames m.flow.now.blocks m.forest.now r

-- nothing is made of a method with these numbers of blocks and loops
pub record IsNothing (made : Made) (start blocks loops : ℕ) : Type 0 where
  pub start_ : made.start ≡ start
  pub names : made.names ≡ []
  pub blocks_ : made.blocks.items ≡ replicate {A = Option Ran} blocks None
  pub loops_ : made.loops.items ≡ replicate loops stage.Ahead
