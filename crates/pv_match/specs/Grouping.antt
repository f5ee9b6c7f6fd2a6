-- How the members of classes are listed.
use Rattle.std.specs.Prelude.{◌≡◌, ◌≢◌, ◌↔◌, ℕ, Bool, ◌<◌, List, [], ◌∷◌, ◌++◌, Some, slice_get, Vec}
use Rattle.std.specs.declared.alloc.Global.{Global}
use Rattle.pv_graph.specs.declared.node.Op.{Op}
use Rattle.pv_graph.specs.Forms.{form}
use Rattle.pv_graph.specs.Walks.{In}
use Rattle.pv_graph.specs.Graphs.{Graph, form_at}
use Rattle.pv_pattern.specs.Numbers.{op_number}
use Rattle.pv_marks.specs.Classes.{class_of}
use Rattle.pv_match.specs.declared.members.Group.{Group}
use Rattle.pv_match.specs.Bindings.{with_number, members_of}
use Rattle.pv_match.specs.Kept.{IsKept}

abbrev pub HasNoGroup : List Group → ℕ → Type 0
HasNoGroup groups number = (i : ℕ) (x : Group) → slice_get groups i ≡ Some x → x.number ≢ number

-- the first group with the number
pub record IsGroupAt (groups : List Group) (number i : ℕ) : Type 0 where
  pub group : Group
  pub there : slice_get groups i ≡ Some group
  pub number_ : group.number ≡ number
  pub least : (k : ℕ) (x : Group) → k < i → slice_get groups k ≡ Some x → x.number ≢ number

-- one number has one more node
pub record Gains (old new : List Group) (number n : ℕ) : Type 0 where
  pub here : with_number new number ≡ with_number old number ++ n ∷ []
  pub other : (k : ℕ) → k ≢ number → with_number new k ≡ with_number old k

abbrev pub IsNoMember : List (Vec Group Global) → Type 0
IsNoMember lists = (c number n : ℕ) → In (members_of lists c number) n → ⊥

-- one of the first nodes, which is kept, is in the class and has the operation with the number
pub record IsListedAs (g : Graph) (numbers : List ℕ) (kept : List Bool) (bound c number n : ℕ) : Type 0 where
  pub low : n < bound
  pub kept_ : IsKept kept n
  pub o : Op
  pub ks : List ℕ
  pub is : form_at g.nodes n ≡ Some (form o ks)
  pub here : class_of numbers n ≡ c
  pub number_ : op_number o ≡ number

abbrev pub AreListed : Graph → List ℕ → List Bool → ℕ → List (Vec Group Global) → Type 0
AreListed g numbers kept bound lists = (c number n : ℕ) → In (members_of lists c number) n ↔ IsListedAs g numbers kept bound c number n
