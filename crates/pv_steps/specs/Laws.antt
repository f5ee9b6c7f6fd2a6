-- What an accepted section shows.
use Rattle.std.specs.Prelude.{◌≡◌, ℕ, ◌<◌, false, List, length}
use Rattle.pv_value.specs.declared.world.World.{World}
use Rattle.pv_value.specs.declared.outcome.Input.{Input}
use Rattle.pv_value.specs.Worlds.{IsWorld}
use Rattle.pv_value.specs.Inputs.{IsInput}
use Rattle.pv_graph.specs.Graphs.{Graph, form_at, IsWellMade}
use Rattle.pv_denote.specs.Denote.{Index, SameAt}
use Rattle.pv_denote.specs.Meaning.{Same}
use Rattle.pv_alike.specs.Least.{Rooted, IsLeastOf}
use Rattle.pv_steps.specs.Steps.{Step}
use Rattle.pv_steps.specs.Facts.{HaveValues}
use Rattle.pv_steps.specs.Right.{Rule, Instances}
use Rattle.pv_steps.specs.Accepted.{Derives, Rejects}

-- the two sides of an instance of a rule are nodes, and the same in each world and input in which the assumed nodes have values
pub record AreSound (Instance : Instances) : Type 0 where
  pub sides : (g : Graph) (assumed : List ℕ) (r : Rule) (nodes : List ℕ) (a b : ℕ) → IsWellMade g → Instance g assumed r nodes a b → (a < length g.nodes) × (b < length g.nodes)
  pub same : (g : Graph) (assumed : List ℕ) (r : Rule) (nodes : List ℕ) (a b : ℕ) → IsWellMade g → g.is_open ≡ false → Instance g assumed r nodes a b
      → (w : World) (x : Input) → IsWorld w → IsInput x → HaveValues (form_at g.nodes) w x assumed → (i : Index) → SameAt (form_at g.nodes) w x i a b

-- an accepted section makes its two roots the same
abbrev pub AcceptedSame : Instances → Type 0
AcceptedSame Instance = (g : Graph) (a b : ℕ) (steps : List Step) → IsWellMade g → g.is_open ≡ false → a < length g.nodes → b < length g.nodes
    → Derives Instance g a b steps → Same g a b

-- a section that is accepted over the least graph of two nodes makes these the same
abbrev pub AcceptedLeast : Instances → Type 0
AcceptedLeast Instance = (g : Graph) (a b : ℕ) (l : Rooted) (steps : List Step) → IsWellMade g → g.is_open ≡ false → IsLeastOf g a b l
    → Derives Instance l.graph l.first l.second steps → Same g a b

-- an accepted section isn't rejected
abbrev pub AcceptedNotRejected : Instances → Type 0
AcceptedNotRejected Instance = (g : Graph) (a b : ℕ) (steps : List Step) (n : ℕ) → Derives Instance g a b steps → Rejects Instance g a b steps n → ⊥

-- a section is rejected with one number
abbrev pub RejectedOnce : Instances → Type 0
RejectedOnce Instance = (g : Graph) (a b : ℕ) (steps : List Step) (m n : ℕ) → Rejects Instance g a b steps m → Rejects Instance g a b steps n → m ≡ n
