-- Matches: an axiom, its parameters, and a class for each kid of its family and each variable, over which its
-- left side stands and its conditions hold.
use Rattle.std.specs.Prelude.{◌≡◌, ℕ, false, List, [], ◌++◌, map, length, Some, slice_get}
use Rattle.std.specs.List.{AllByRecursion}
use Rattle.pv_graph.specs.Forms.{form}
use Rattle.pv_graph.specs.Graphs.{Graph, form_at}
use Rattle.pv_pattern.specs.Patterns.{Pattern, over, Side, settled, not_free, Axiom, variables, is_family}
use Rattle.pv_pattern.specs.Instances.{Names, head_op}
use Rattle.pv_pattern.specs.Found.{Differs}
use Rattle.pv_marks.specs.Classes.{class_of, ClassHas, settled as is_settled, unfree}
use Rattle.pv_match.specs.declared.found.Param.{Param}
use Rattle.pv_match.specs.Parameters.{params_of}
use Rattle.pv_match.specs.Standing.{StandsIn, AllStandIn}

-- ---- conditions

-- a condition, of the class of its variable
abbrev pub HoldsIn : Graph → List ℕ → List ℕ → Names → Side → Type 0
HoldsIn g numbers assumed m (settled j) = (c : ℕ) × (slice_get m.vars j ≡ Some c) × ClassHas g numbers assumed is_settled c
HoldsIn g numbers assumed m (not_free j) = (c : ℕ) × (slice_get m.vars j ≡ Some c) × ClassHas g numbers assumed (unfree m.depth) c
HoldsIn g numbers assumed m s = Differs m s

-- ---- matches

-- what a left side names stands for these parameters and classes, and its conditions hold
pub record Fits (g : Graph) (numbers assumed : List ℕ) (a : Axiom) (params : List Param) (classes : List ℕ) (m : Names) : Type 0 where
  pub sides : AllByRecursion (HoldsIn g numbers assumed m) a.sides
  pub long : length m.vars ≡ variables a.left
  pub alone : is_family a.left ≡ false → m.kids ≡ []
  pub are : classes ≡ m.kids ++ m.vars
  pub params_ : params ≡ params_of m a.left

pub record IsMatch (g : Graph) (numbers assumed : List ℕ) (a : Axiom) (params : List Param) (classes : List ℕ) : Type 0 where
  pub names : Names
  pub at_ : ℕ
  pub stands : StandsIn g numbers names a.left at_
  pub fits : Fits g numbers assumed a params classes names

-- the left side has the operation of node n over parts that stand in the classes of its kids
abbrev pub StartsAt : Graph → List ℕ → Names → Pattern → ℕ → Type 0
StartsAt g numbers m (over h ps) n = (ks : List ℕ) × (form_at g.nodes n ≡ Some (form (head_op m h) ks)) × AllStandIn g numbers m ps (map (class_of numbers) ks)
StartsAt g numbers m p n = ⊥

-- a match whose left side starts at node n
pub record IsMatchAt (g : Graph) (numbers assumed : List ℕ) (a : Axiom) (n : ℕ) (params : List Param) (classes : List ℕ) : Type 0 where
  pub names : Names
  pub starts : StartsAt g numbers names a.left n
  pub fits : Fits g numbers assumed a params classes names
