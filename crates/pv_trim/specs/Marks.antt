-- The marks of steps and of nodes, as they are made from the last step back.
use Rattle.std.specs.Prelude.{◌≡◌, ◌⊎◌, ℕ, zero, suc, ◌<◌, ◌≤◌, Bool, true, false, List, [], ◌∷◌, length, Option, Some, None, slice_get, slice_set, slice_index_or, nat_le, if◌then◌else◌}
use Rattle.pv_graph.specs.declared.node.Op.{Op}
use Rattle.pv_graph.specs.Walks.{In}
use Rattle.pv_steps.specs.declared.step.Fact.{Fact}
use Rattle.pv_steps.specs.declared.step.Step.{Step}
use Rattle.pv_steps.specs.declared.step.Step.TheVariants as steps
use Rattle.pv_steps.specs.Steps.{OpenBlock, open_after}
use Rattle.pv_steps.specs.Accepted.{first_steps}
use Rattle.pv_trim.specs.Citing.{named, facts, is_end}
use Rattle.pv_trim.specs.Keeping.{is_node}

-- the number is marked
abbrev pub is_on : List Bool → ℕ → Bool
is_on marks n = slice_index_or marks n false

abbrev pub IsOn : List Bool → ℕ → Type 0
IsOn marks n = is_on marks n ≡ true

-- these nodes are marked
abbrev pub marking : List ℕ → List Bool → List Bool
marking [] marks = marks
marking (n ∷ ns) marks = marking ns (slice_set marks n true)

-- step number m is marked, where it is one of the first k
abbrev pub marking_step : ℕ → ℕ → List Bool → List Bool
marking_step k zero marks = marks
marking_step k (suc j) marks = if nat_le (suc j) k then slice_set marks j true else marks

-- the steps that state these facts are marked, where they are among the first k
abbrev pub marking_facts : ℕ → List Fact → List Bool → List Bool
marking_facts k [] marks = marks
marking_facts k (x ∷ xs) marks = marking_facts k xs (marking_step k x.step marks)

-- a step that makes a node has the mark of the node
abbrev pub own_mark : Step → ℕ → List Bool → List Bool → List Bool
own_mark (steps.Node n o kids) k marks nodes = slice_set marks k (is_on nodes n)
own_mark s k marks nodes = marks

-- the step with this number is marked, where there is a number
abbrev pub marking_end : ℕ → Option ℕ → List Bool → List Bool
marking_end k None marks = marks
marking_end k (Some number) marks = marking_step k number marks

-- after step number k + 1, which ends the block that step e opened, or none: where it is marked, what it cites is marked
abbrev pub steps_with : Step → ℕ → Option ℕ → List Bool → List Bool → List Bool
steps_with s k e marks nodes =
    if is_on (own_mark s k marks nodes) k then marking_end k e (marking_facts k (facts s) (own_mark s k marks nodes)) else own_mark s k marks nodes

abbrev pub nodes_with : Step → ℕ → List Bool → List Bool → List Bool
nodes_with s k marks nodes = if is_on (own_mark s k marks nodes) k then marking (named s) nodes else nodes

-- ---- which step opened the block that a step ends

-- the step that opened the innermost block
abbrev pub innermost : List OpenBlock → Option ℕ
innermost [] = None
innermost (p ∷ ps) = Some p.opened

abbrev pub ended : Step → List OpenBlock → Option ℕ
ended s inside = if is_end s then innermost inside else None

-- of each step the number of the step that opened the block which it ends, if it ends one
pub record AreEnds (section : List Step) (ends : List (Option ℕ)) : Type 0 where
  pub long : length ends ≡ length section
  pub each : (k : ℕ) (s : Step) → slice_get section k ≡ Some s → slice_get ends k ≡ Some (ended s (open_after (first_steps k section)))

-- ---- what the marks say

-- step k + 1 is marked and names the node
abbrev pub IsNaming : List Step → List Bool → ℕ → ℕ → Type 0
IsNaming section marks n k = (s : Step) × (slice_get section k ≡ Some s) × IsOn marks k × In (named s) n

-- step k + 1 is marked and cites step j + 1
abbrev pub IsCiting : List Step → List (Option ℕ) → List Bool → ℕ → ℕ → Type 0
IsCiting section ends marks j k =
    (s : Step) × (slice_get section k ≡ Some s) × IsOn marks k
    × (((x : Fact) × In (facts s) x × (x.step ≡ suc j)) ⊎ (slice_get ends k ≡ Some (Some (suc j))) ⊎ ((n : ℕ) × (o : Op) × (kids : List ℕ) × (slice_get section j ≡ Some (steps.Node n o kids)) × In (named s) n))

-- what a marked step cites is marked
pub record MarksCited (section : List Step) (ends : List (Option ℕ)) (bound : ℕ) (marks nodes : List Bool) (k : ℕ) (s : Step) : Type 0 where
  pub nodes_ : (n : ℕ) → In (named s) n → n < bound → IsOn nodes n
  pub facts_ : (x : Fact) (j : ℕ) (t : Step) → In (facts s) x → x.step ≡ suc j → j < k → slice_get section j ≡ Some t → is_node t ≡ false → IsOn marks j
  pub ends_ : (j : ℕ) (t : Step) → slice_get ends k ≡ Some (Some (suc j)) → j < k → slice_get section j ≡ Some t → is_node t ≡ false → IsOn marks j

-- the marks, once the steps from the last one back to number i + 1 were looked at; the nodes below `base` need no step
pub record AreMarks (section : List Step) (ends : List (Option ℕ)) (base bound i : ℕ) (marks nodes : List Bool) : Type 0 where
  pub steps_long : length marks ≡ length section
  pub nodes_long : length nodes ≡ bound
  pub first : (n : ℕ) → n < base → IsOn nodes n
  pub last : (k : ℕ) (s : Step) → suc k ≡ length section → slice_get section k ≡ Some s → is_node s ≡ false → IsOn marks k
  pub cited : (k : ℕ) (s : Step) → i ≤ k → slice_get section k ≡ Some s → IsOn marks k → MarksCited section ends bound marks nodes k s
  pub made : (k n : ℕ) (o : Op) (kids : List ℕ) → i ≤ k → slice_get section k ≡ Some (steps.Node n o kids) → IsOn marks k → IsOn nodes n
  pub needed : (k n : ℕ) (o : Op) (kids : List ℕ) → i ≤ k → slice_get section k ≡ Some (steps.Node n o kids) → IsOn nodes n
      → IsOn marks k ⊎ (n < base) ⊎ ((j : ℕ) × (i ≤ j) × (j < k) × IsNaming section marks n j)
  pub wanted : (k : ℕ) → IsOn marks k → (suc k ≡ length section) ⊎ ((j : ℕ) × (i ≤ j) × (k < j) × IsCiting section ends marks k j)
      ⊎ ((n : ℕ) × (o : Op) × (kids : List ℕ) × (slice_get section k ≡ Some (steps.Node n o kids)) × (n < base))
  pub named_ : (n : ℕ) → IsOn nodes n → (n < base) ⊎ ((j : ℕ) × (i ≤ j) × IsNaming section marks n j)
