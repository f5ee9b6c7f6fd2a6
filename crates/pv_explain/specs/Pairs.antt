-- Pairs of nodes that a search joined, and the reasons for them.
use Rattle.std.specs.Prelude.{ℕ, ◌<◌, List, [], ◌∷◌, length}
use Rattle.std.specs.List.{AllByRecursion}
use Rattle.pv_steps.specs.declared.step.Reason.{Reason}
use Rattle.pv_steps.specs.Right.{Gives}
use Rattle.pv_writer.specs.Written.{Written, inside}
use Rattle.pv_explain.specs.declared.source.Search.{Search}
use Rattle.pv_explain.specs.declared.source.Source.{Source}
use Rattle.pv_explain.specs.declared.level.Level.{Level}
use Rattle.pv_explain.specs.Sections.{HasLinked}
use Rattle.pv_explain.specs.Lines.{LinkedBy}

-- the search joined the two nodes, which lie in its graph's base
pub record HasLinkedPair (s : Search) (p : ℕ × ℕ) : Type 0 where
  pub first : p.0 < s.graph.now.base
  pub second : p.1 < s.graph.now.base
  pub linked : HasLinked s p.0 p.1

-- .. of each pair
abbrev pub HasLinkedPairs : Search → List (ℕ × ℕ) → Type 0
HasLinkedPairs s pairs = AllByRecursion (HasLinkedPair s) pairs

-- the level's lines link the two nodes, which lie in the graph's base
pub record LinksPair (s : Source) (level : Level) (p : ℕ × ℕ) : Type 0 where
  pub first : p.0 < s.graph.now.base
  pub second : p.1 < s.graph.now.base
  pub linked : LinkedBy (length s.graph.now.nodes) level p.0 p.1

-- .. of each pair
abbrev pub LinksPairs : Source → Level → List (ℕ × ℕ) → Type 0
LinksPairs s level pairs = AllByRecursion (LinksPair s level) pairs

-- one reason for each pair says that its two nodes are equal
abbrev pub GiveEach : Written → List Reason → List (ℕ × ℕ) → Type 0
GiveEach w [] [] = Unit {0}
GiveEach w (r ∷ rs) (p ∷ ps) = Gives w.before (inside w) [] r p.0 p.1 × GiveEach w rs ps
GiveEach w rs ps = ⊥
