-- How nodes that unfold equally are found: classes of thetas, made finer until nothing changes. In each pass all
-- nodes are numbered from below, a theta by its class and its first kid, and then the thetas by the numbers of both kids.
use Rattle.std.specs.Prelude.{◌≡◌, ◌↔◌, ℕ, ◌<◌, Bool, true, List, take, map, Option, Some, if◌then◌else◌}
use Rattle.std.specs.List.{AllZip}
use Rattle.pv_graph.specs.declared.node.Op.{Op}
use Rattle.pv_graph.specs.Ops.{shape, is_theta}
use Rattle.pv_graph.specs.Forms.{Form, form}
use Rattle.pv_graph.specs.Walks.{In}

-- the node is one, and whether it is a theta
abbrev pub IsA : (ℕ → Option (Form ℕ)) → Bool → ℕ → Op → List ℕ → Type 0
IsA view t n o ks = (view n ≡ Some (form o ks)) × (is_theta (shape o) ≡ t)

-- kids of equal numbers, place by place
abbrev pub Level : (ℕ → ℕ) → List ℕ → List ℕ → Type 0
Level number ks ls = AllZip (λ k l. number k ≡ number l) ks ls

-- the kids that a node comes after: all, but of a theta the first alone, since each cycle takes the second kid of some theta
abbrev pub earlier_kids : Op → List ℕ → List ℕ
earlier_kids o ks = if is_theta (shape o) then take 1 ks else ks

-- a pass: two nodes have one number where they have one operation, earlier kids of equal numbers, and one class if they are thetas
abbrev pub IsPass : (ℕ → Option (Form ℕ)) → (ℕ → ℕ) → (ℕ → ℕ) → Type 0
IsPass view class number = (a b : ℕ) (o p : Op) (ks ls : List ℕ) → view a ≡ Some (form o ks) → view b ≡ Some (form p ls)
    → (number a ≡ number b) ↔ ((o ≡ p) × (is_theta (shape o) ≡ true → class a ≡ class b) × Level number (earlier_kids o ks) (earlier_kids p ls))

-- the next classes of thetas: those that had one class, and have one depth and kids of equal numbers
pub record IsFiner (view : ℕ → Option (Form ℕ)) (class number next : ℕ → ℕ) : Type 0 where
  pub finer : (a b : ℕ) (o p : Op) (ks ls : List ℕ) → IsA view true a o ks → IsA view true b p ls → (next a ≡ next b) ↔ ((class a ≡ class b) × (o ≡ p) × Level number ks ls)

-- the classes after some passes, from one class of all thetas on
pub data Classes (view : ℕ → Option (Form ℕ)) : (ℕ → ℕ) → Type 0 where
  one : (class : ℕ → ℕ) → ((a b : ℕ) (o p : Op) (ks ls : List ℕ) → IsA view true a o ks → IsA view true b p ls → class a ≡ class b) → Classes view class
  more : (class number next : ℕ → ℕ) → Classes view class → IsPass view class number → IsFiner view class number next → Classes view next

-- the last pass: it parts no class
abbrev pub IsLast : (ℕ → Option (Form ℕ)) → (ℕ → ℕ) → (ℕ → ℕ) → Type 0
IsLast view class next = (a b : ℕ) (o p : Op) (ks ls : List ℕ) → IsA view true a o ks → IsA view true b p ls → class a ≡ class b → next a ≡ next b

-- a rank that falls along earlier kids, as the order of a pass has it
abbrev pub IsRank : (ℕ → Option (Form ℕ)) → (ℕ → ℕ) → Type 0
IsRank view rank = (n k : ℕ) (o : Op) (ks : List ℕ) → view n ≡ Some (form o ks) → In (earlier_kids o ks) k → rank k < rank n

-- a node for each number: the operation of its nodes, over the numbers of their kids
abbrev pub IsQuotient : (ℕ → Option (Form ℕ)) → (ℕ → ℕ) → (ℕ → Option (Form ℕ)) → Type 0
IsQuotient view number quotient = (n : ℕ) (o : Op) (ks : List ℕ) → view n ≡ Some (form o ks) → quotient (number n) ≡ Some (form o (map number ks))
