-- What nodes stand for in a block: the parts of the slots where the block begins.
use Rattle.std.specs.Prelude.{◌≡◌, ◌⊎◌, ℕ, List, [], ◌∷◌, Option, Some, ⊤}
use Rattle.std.specs.List.{AllZip}
use Rattle.pv_frame.specs.declared.sort.Sort.TheVariants as sort
use Rattle.pv_graph.specs.declared.node.Op.{Op}
use Rattle.pv_graph.specs.declared.node.Node.{Node}
use Rattle.pv_graph.specs.Ops.{plain, shape}
use Rattle.pv_equations.specs.Exp.{Exp}
use Rattle.pv_equations.specs.Flow.{Part, Parts, Slot, Of, NoPart, More, put}
use Rattle.pv_terms.specs.declared.names.Named.{Named}
use Rattle.pv_terms.specs.Reads.{Reads, AreNames, Stand}
use Rattle.pv_runs.specs.Held.{unit_part, clear_part}
use Rattle.pv_runs.specs.Held as parts
use Rattle.pv_block.specs.declared.held.Cell.{Cell}
use Rattle.pv_block.specs.declared.held.Held.{Held}

-- ---- where a block begins

-- the nodes of the graph when the block is begun, and which of them is the value of a slot, where that is known
pub record Entry : Type 0 where
  pub nodes : List Node
  pub slots : ℕ → Option ℕ

-- the node of each slot stands for the expression of the slot
pub record IsEntered (at : Entry) (depth : ℕ → ℕ) (names : List Named) (base : ℕ → Exp) : Type 0 where
  pub names_ : AreNames depth at.nodes names
  pub slots : (s n : ℕ) → at.slots s ≡ Some n → Reads at.nodes names n (base s)

-- ---- what a block computes

-- whatever the nodes of the slots stand for, the node stands for the part over that
abbrev pub StandsFor : Entry → List Node → ℕ → Part → Type 0
StandsFor at nodes n p = (depth : ℕ → ℕ) (names : List Named) (base : ℕ → Exp) → IsEntered at depth names base → Reads nodes names n (put base p)

abbrev pub AllStand : Entry → List Node → List ℕ → Parts → Type 0
AllStand at nodes [] NoPart = ⊤
AllStand at nodes (n ∷ ns) (More p ps) = StandsFor at nodes n p × AllStand at nodes ns ps
AllStand at nodes ns ps = ⊥

-- a cell with a node and one with a part, of one sort; where the sort is known the node stands for the part
abbrev pub CellStands : Entry → List Node → Cell → parts.Cell → Type 0
CellStands at nodes c d = (c.sort ≡ d.sort) × ((c.sort ≡ sort.Unknown) ⊎ StandsFor at nodes c.node d.part)

-- what is held in nodes stands for what is held in parts
pub record HoldsFor (at : Entry) (nodes : List Node) (c : Held) (h : parts.Held) : Type 0 where
  pub stand : Stand at.nodes nodes
  pub stack : AllZip (CellStands at nodes) c.stack h.stack
  pub locals : AllZip (CellStands at nodes) c.locals h.locals
  pub heap : StandsFor at nodes c.heap h.heap
  pub token : StandsFor at nodes c.token h.token
  pub unit : StandsFor at nodes c.unit unit_part
  pub clear : StandsFor at nodes c.clear clear_part
  pub start : StandsFor at nodes c.start (Slot 0)

-- whatever the kids stand for, the node stands for the operation over that
abbrev pub StandsOver : List Node → Op → List ℕ → List Node → ℕ → Type 0
StandsOver old o kids new n = (at : Entry) (ps : Parts) (p : shape o ≡ plain) → Stand at.nodes old → AllStand at old kids ps → StandsFor at new n (Of o p ps)
