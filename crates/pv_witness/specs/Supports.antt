-- The supports of a condition: for each class of which it holds a node by which it does, in an order in which each rests on earlier ones.
use Rattle.std.specs.Prelude.{◌≡◌, ◌≢◌, ◌⊎◌, ℕ, ◌<◌, Bool, false, List, [], ◌∷◌, ◌++◌, length, Some}
use Rattle.pv_graph.specs.declared.node.Op.{Op}
use Rattle.pv_graph.specs.Forms.{form}
use Rattle.pv_graph.specs.Ops.{shape, theta, may_not_end}
use Rattle.pv_graph.specs.Walks.{In, open_kids}
use Rattle.pv_graph.specs.Reach.{IsMarked}
use Rattle.pv_graph.specs.Graphs.{Graph, form_at}
use Rattle.pv_witness.specs.declared.condition.Condition.{Condition}
use Rattle.pv_witness.specs.declared.condition.Condition.TheVariants as condition
use Rattle.pv_marks.specs.Classes.{class_of}

-- where the condition holds of the kids that count, it holds of a node with this operation
abbrev pub HandsOn : Condition → Op → Type 0
HandsOn condition.Settled o = may_not_end o ≡ false
HandsOn (condition.NotFree d) o = shape o ≢ theta d

-- the kids that count
abbrev pub counted : Condition → Op → List ℕ → List ℕ
counted condition.Settled o ks = ks
counted (condition.NotFree d) o ks = open_kids d (shape o) ks

-- all but the first
abbrev pub rest_of : List ℕ → List ℕ
rest_of [] = []
rest_of (k ∷ ks) = ks

-- a node of the list is of the class c
abbrev pub Covers : List ℕ → List ℕ → ℕ → Type 0
Covers numbers list c = (b : ℕ) × In list b × (class_of numbers b ≡ c)

-- the node's operation hands the condition on, and each kid that counts is of the class of a node of the list
pub record IsReady (g : Graph) (numbers : List ℕ) (k : Condition) (list : List ℕ) (n : ℕ) : Type 0 where
  pub o : Op
  pub ks : List ℕ
  pub is : form_at g.nodes n ≡ Some (form o ks)
  pub passes : HandsOn k o
  pub kids : (j : ℕ) → In (counted k o ks) j → Covers numbers list (class_of numbers j)

-- the node is marked, or ready by the list
abbrev pub IsSupport : Graph → List ℕ → Condition → List Bool → List ℕ → ℕ → Type 0
IsSupport g numbers k starts list n = IsMarked starts n ⊎ IsReady g numbers k list n

-- each is a support by those before it
pub data AreSupports (g : Graph) (numbers : List ℕ) (k : Condition) (starts : List Bool) : List ℕ → Type 0 where
  none : AreSupports g numbers k starts []
  more : (list : List ℕ) (n : ℕ) → AreSupports g numbers k starts list → IsSupport g numbers k starts list n → AreSupports g numbers k starts (list ++ n ∷ [])

-- .. and there is one for each class that can have one
pub record AreAllSupports (g : Graph) (numbers : List ℕ) (k : Condition) (starts : List Bool) (list : List ℕ) : Type 0 where
  pub supports : AreSupports g numbers k starts list
  pub within : (n : ℕ) → In list n → n < length g.nodes
  pub started : (n : ℕ) → n < length g.nodes → IsMarked starts n → Covers numbers list (class_of numbers n)
  pub closed : (n : ℕ) → IsReady g numbers k list n → Covers numbers list (class_of numbers n)
