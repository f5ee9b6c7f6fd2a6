-- What the search for the least graph keeps: the numbers of the last pass, a node for each number, the order of
-- their first visits, and the copies of the nodes in that order.
use Rattle.std.specs.Prelude.{◌≡◌, ℕ, ◌<◌, true, List, [], ◌∷◌, length, Option, Some, slice_get}
use Rattle.pv_graph.specs.declared.node.Node.{Node}
use Rattle.pv_graph.specs.declared.node.Op.{Op}
use Rattle.pv_graph.specs.Forms.{Form}
use Rattle.pv_graph.specs.Graphs.{form_at}
use Rattle.pv_alike.specs.Partition.{IsA, IsPass, IsFiner, Classes, IsLast, IsRank, IsQuotient}
use Rattle.pv_alike.specs.Visits.{Visits}
use Rattle.pv_alike.specs.Renumbered.{IsRenumbered}

-- the passes, the last of which parts no class of thetas
pub record IsNumbered (g : List Node) (number : ℕ → ℕ) : Type 0 where
  pub rank : ℕ → ℕ
  pub falls : IsRank (form_at g) rank
  pub class : ℕ → ℕ
  pub next : ℕ → ℕ
  pub passes : Classes (form_at g) class
  pub pass : IsPass (form_at g) class number
  pub finer : IsFiner (form_at g) class number next
  pub last : IsLast (form_at g) class next

-- a node for each number
pub record IsByNumber (g : List Node) (number : ℕ → ℕ) (q : List Node) : Type 0 where
  pub forms : IsQuotient (form_at g) number (form_at q)
  pub onto : (m : ℕ) → m < length q → (n : ℕ) × (n < length g) × (number n ≡ m)

-- the copies of the nodes under the numbers of a and b, in the order of their first visits, and the places of the two
pub record IsLaidOut (number : ℕ → ℕ) (a b : ℕ) (q : List Node) (h : List Node) (r s : ℕ) : Type 0 where
  pub order : List ℕ
  pub visits : Visits q order [] (number a ∷ number b ∷ [])
  pub copies : IsRenumbered q order h
  pub first : slice_get order r ≡ Some (number a)
  pub second : slice_get order s ≡ Some (number b)

-- the classes of thetas are the numbers below m, each of some theta
pub record IsDense (view : ℕ → Option (Form ℕ)) (class : ℕ → ℕ) (m : ℕ) : Type 0 where
  pub low : (a : ℕ) (o : Op) (ks : List ℕ) → IsA view true a o ks → class a < m
  pub each : (c : ℕ) → c < m → (a : ℕ) × (o : Op) × (ks : List ℕ) × IsA view true a o ks × (class a ≡ c)
