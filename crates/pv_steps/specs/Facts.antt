-- What an equality says inside the blocks around it.
use Rattle.std.specs.Prelude.{◌≡◌, ℕ, List, [], ◌∷◌, Option, ⊤}
use Rattle.pv_value.specs.declared.world.World.{World}
use Rattle.pv_value.specs.declared.outcome.Input.{Input}
use Rattle.pv_value.specs.declared.outcome.Val.{Val}
use Rattle.pv_value.specs.Worlds.{IsWorld}
use Rattle.pv_value.specs.Inputs.{IsInput}
use Rattle.pv_graph.specs.Forms.{Form}
use Rattle.pv_denote.specs.Denote.{Index, Value, SameAt}
use Rattle.pv_graph.specs.Walks.{In}
use Rattle.pv_steps.specs.Steps.{Block, Loop, Ending}

-- the operations of nodes, by their numbers
abbrev pub View : Type 0
View = ℕ → Option (Form ℕ)

-- the index has the iterations `it` at the depths of the blocks
abbrev pub Keeps : List Block → Index → Index → Type 0
Keeps [] it i = ⊤
Keeps (Loop d pairs ∷ bs) it i = (i d ≡ it d) × Keeps bs it i
Keeps (Ending p nodes ∷ bs) it i = Keeps bs it i

-- these nodes have a value at every index
abbrev pub HaveValues : View → World → Input → List ℕ → Type 0
HaveValues view w x nodes = (e : ℕ) (i : Index) → In nodes e → (v : Val) × Value view w x e i v

-- a world, an input and the iterations `it` satisfy the blocks: the pairs of an induction are the same at every index that has
-- the iterations `it` at its depth and at those around it, and the nodes that an ending block assumes to end have values
abbrev pub Satisfies : View → World → Input → Index → List Block → Type 0
Satisfies view w x it [] = ⊤
Satisfies view w x it (Loop d pairs ∷ bs) =
    ((i : Index) → Keeps (Loop d pairs ∷ bs) it i → (a b : ℕ) → In pairs (a, b) → SameAt view w x i a b) × Satisfies view w x it bs
Satisfies view w x it (Ending p nodes ∷ bs) = HaveValues view w x nodes × Satisfies view w x it bs

-- a = b holds inside the blocks: in each world, input and iterations that satisfy them, at every index that has these iterations
abbrev pub Holds : View → List Block → ℕ → ℕ → Type 0
Holds view bs a b = (w : World) (x : Input) → IsWorld w → IsInput x → (it : Index) → Satisfies view w x it bs → (i : Index) → Keeps bs it i → SameAt view w x i a b
