-- Classes that stayed as they were, and classes below which all stayed for some steps.
use Rattle.std.specs.Prelude.{◌≡◌, ◌⊎◌, ℕ, zero, suc, ◌<◌, Bool, false, List, length, Some, slice_get, slice_index}
use Rattle.pv_graph.specs.declared.node.Op.{Op}
use Rattle.pv_graph.specs.Forms.{form}
use Rattle.pv_graph.specs.Walks.{In}
use Rattle.pv_graph.specs.Graphs.{Graph, form_at}
use Rattle.pv_marks.specs.Classes.{class_of}
use Rattle.pv_match.specs.Kept.{IsKept}
use Rattle.pv_touched.specs.declared.since.Since.{Since}

-- each node of the class was in the class with this number, and its mark is as it was
pub record Stayed (s : Since) (c : ℕ) : Type 0 where
  pub members : (k : ℕ) → k < length s.numbers.now → class_of s.numbers.now k ≡ c → (k < length s.old_numbers.now) × (class_of s.old_numbers.now k ≡ c)
  pub mark : slice_index s.old_marks.now c ≡ slice_index s.marks.now c

-- it stayed, and so did each class to which at most d steps to kids lead from its nodes
abbrev pub IsFar : Graph → Since → ℕ → ℕ → Type 0
IsFar g s zero c = Stayed s c
IsFar g s (suc d) c = Stayed s c × ((n : ℕ) (o : Op) (ks : List ℕ) → form_at g.nodes n ≡ Some (form o ks) → class_of s.numbers.now n ≡ c → (k : ℕ) → In ks k → IsFar g s d (class_of s.numbers.now k))

-- the classes of all these nodes are so
abbrev pub AllFar : Graph → Since → ℕ → List ℕ → Type 0
AllFar g s d ks = (k : ℕ) → In ks k → IsFar g s d (class_of s.numbers.now k)

-- the node was there, and its kids' classes are so
abbrev pub IsUntouched : Graph → Since → ℕ → ℕ → Type 0
IsUntouched g s d n = (n < length s.old_numbers.now) × ((o : Op) (ks : List ℕ) → form_at g.nodes n ≡ Some (form o ks) → AllFar g s d ks)

-- ---- lists of classes

-- the list says that the class isn't near one that changed
abbrev pub IsClear : List Bool → ℕ → Type 0
IsClear near c = slice_get near c ≡ Some false

-- what it says is so
abbrev pub AreFar : Graph → Since → ℕ → List Bool → Type 0
AreFar g s d near = (c : ℕ) → IsClear near c → IsFar g s d c

-- the classes of all these nodes are clear
abbrev pub AllClear : List ℕ → List Bool → List ℕ → Type 0
AllClear numbers near ks = (k : ℕ) → In ks k → IsClear near (class_of numbers k)

-- a clear class is none of the first ones, or has the mark that it had
pub record HaveMarks (bound : ℕ) (s : Since) (changed : List Bool) : Type 0 where
  pub long : length changed ≡ bound
  pub same : (c : ℕ) → IsClear changed c → slice_index s.old_marks.now c ≡ slice_index s.marks.now c

-- a clear class has the mark that it had, and those of the first nodes that it has were in it
pub record StayedBelow (bound : ℕ) (s : Since) (changed : List Bool) : Type 0 where
  pub members : (c k : ℕ) → IsClear changed c → k < bound → class_of s.numbers.now k ≡ c → (k < length s.old_numbers.now) × (class_of s.old_numbers.now k ≡ c)
  pub mark : (c : ℕ) → IsClear changed c → slice_index s.old_marks.now c ≡ slice_index s.marks.now c

-- one step to kids further: what is clear was so before, and so are the kids of its nodes, of the first nodes
pub record SpreadsBelow (bound : ℕ) (g : Graph) (numbers : List ℕ) (old new : List Bool) : Type 0 where
  pub stay : (c : ℕ) → IsClear new c → IsClear old c
  pub kids : (c n : ℕ) (o : Op) (ks : List ℕ) → n < bound → IsClear new c → form_at g.nodes n ≡ Some (form o ks) → class_of numbers n ≡ c → AllClear numbers old ks

-- .. of all nodes
abbrev pub Spreads : Graph → List ℕ → List Bool → List Bool → Type 0
Spreads g numbers old new = SpreadsBelow (length g.nodes) g numbers old new

-- the node was there and has kids that are clear
abbrev pub IsOld : Graph → Since → List Bool → ℕ → Type 0
IsOld g s near n = (n < length s.old_numbers.now) × ((o : Op) (ks : List ℕ) → form_at g.nodes n ≡ Some (form o ks) → AllClear s.numbers.now near ks)

-- each of the first nodes that are kept is listed, or is so
abbrev pub ListsNearBelow : ℕ → Graph → Since → List Bool → List Bool → List ℕ → Type 0
ListsNearBelow bound g s kept near touched = (n : ℕ) → n < bound → IsKept kept n → In touched n ⊎ IsOld g s near n

-- each node that is kept is
abbrev pub ListsNear : Graph → Since → List Bool → List Bool → List ℕ → Type 0
ListsNear g s kept near touched = ListsNearBelow (length g.nodes) g s kept near touched

-- each node of the graph that is kept is listed or untouched
abbrev pub ListsTouched : Graph → Since → ℕ → List Bool → List ℕ → Type 0
ListsTouched g s d kept touched = (n : ℕ) → n < length g.nodes → IsKept kept n → In touched n ⊎ IsUntouched g s d n
