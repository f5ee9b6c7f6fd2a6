-- How the matches of a left side are found: bindings, each of which says for some names at which node they are
-- shown, and for the first variables in which class they stand.
use Rattle.std.specs.Prelude.{◌≡◌, ◌⊎◌, ◌↔◌, ℕ, true, List, [], ◌∷◌, map, length, Option, Some, None, slice_get, if◌then◌else◌, nat_eq, Vec}
use Rattle.std.specs.declared.alloc.Global.{Global}
use Rattle.pv_value.specs.declared.name.Sym.{Sym}
use Rattle.pv_value.specs.declared.heap.Kind as kinds
use Rattle.pv_graph.specs.declared.node.Op.{Op}
use Rattle.pv_graph.specs.declared.node.Op.TheVariants as op
use Rattle.pv_graph.specs.Forms.{form}
use Rattle.pv_graph.specs.Walks.{In}
use Rattle.pv_graph.specs.Graphs.{Graph, form_at}
use Rattle.pv_pattern.specs.declared.names.NameId.{NameId}
use Rattle.pv_pattern.specs.declared.names.NameId.TheVariants.{Depth, Symbol, Kind, Constant, Operation}
use Rattle.pv_pattern.specs.Patterns.{Head, fixed, theta_d, eval_d, pass_d, shift_d, getstatic, putstatic, getfield, putfield, load, store, Pattern, Patterns, Axiom, variables}
use Rattle.pv_pattern.specs.Numbers.{op_number}
use Rattle.pv_pattern.specs.Instances.{Names, head_op, constant_of}
use Rattle.pv_pattern.specs.Binding.{names, listed_name}
use Rattle.pv_pattern.specs.Found.{head_name}
use Rattle.pv_marks.specs.Classes.{class_of, HasForm}
use Rattle.pv_match.specs.declared.binding.Named.{Named}
use Rattle.pv_match.specs.declared.binding.Binding.{Binding}
use Rattle.pv_match.specs.declared.members.Group.{Group}
use Rattle.pv_match.specs.declared.reader.Start.{Start}
use Rattle.pv_value.specs.declared.number.Num.{Num}
use Rattle.pv_match.specs.Parameters.{is_among, once_more}
use Rattle.pv_match.specs.Reading.{next_var, reads, reads_all}

-- ---- what an operation shows

abbrev pub depth_in : Op → Option ℕ
depth_in (op.Theta d) = Some d
depth_in (op.Eval d) = Some d
depth_in (op.Pass d) = Some d
depth_in (op.Shift d) = Some d
depth_in o = None

abbrev pub symbol_in : Op → Option Sym
symbol_in (op.GetStatic s) = Some s
symbol_in (op.PutStatic s) = Some s
symbol_in (op.GetField s) = Some s
symbol_in (op.PutField s) = Some s
symbol_in o = None

abbrev pub kind_in : Op → Option kinds.Kind
kind_in (op.Load k) = Some k
kind_in (op.Store k) = Some k
kind_in o = None

-- an operation over kids of these classes shows what the name stands for
abbrev pub IsNamed : Names → NameId → Op → List ℕ → Type 0
IsNamed m Depth o cs = depth_in o ≡ Some m.depth
IsNamed m (Symbol s) o cs = symbol_in o ≡ Some (m.symbols s)
IsNamed m (Kind k) o cs = kind_in o ≡ Some (m.kinds k)
IsNamed m (Constant j) o cs = constant_of o ≡ Some (m.constants j)
IsNamed m Operation o cs = (o ≡ m.op_) × (cs ≡ m.kids)

-- .. and so does a node
abbrev pub ShowsAt : Graph → List ℕ → Names → NameId → ℕ → Type 0
ShowsAt g numbers m name n = (o : Op) × (ks : List ℕ) × (form_at g.nodes n ≡ Some (form o ks)) × IsNamed m name o (map (class_of numbers) ks)

-- ---- bindings

-- the names stand for what the binding says
pub record Agrees (g : Graph) (numbers : List ℕ) (m : Names) (b : Binding) : Type 0 where
  pub shown : (x : Named) → In b.names.items x → ShowsAt g numbers m x.name x.node
  pub vars : (j c : ℕ) → slice_get b.vars.items j ≡ Some c → slice_get m.vars j ≡ Some c

abbrev pub SomeAgrees : Graph → List ℕ → Names → List Binding → Type 0
SomeAgrees g numbers m bs = (b : Binding) × In bs b × Agrees g numbers m b

-- the names that it binds, in order
abbrev pub bound : Binding → List NameId
bound b = map (λ x. x.name) b.names.items

-- the binding of nothing
pub record IsEmpty (b : Binding) : Type 0 where
  pub names : b.names.items ≡ []
  pub vars : b.vars.items ≡ []

-- a name is bound at a node: by those names alone that also stand for what it shows
pub record Binds (g : Graph) (numbers : List ℕ) (b : Binding) (name : NameId) (n : ℕ) (new : Binding) : Type 0 where
  pub exact : (m : Names) → Agrees g numbers m new ↔ (Agrees g numbers m b × ShowsAt g numbers m name n)
  pub bound_ : bound new ≡ once_more (bound b) (name ∷ [])
  pub vars : new.vars.items ≡ b.vars.items

abbrev pub NeverBinds : Graph → List ℕ → Binding → NameId → ℕ → Type 0
NeverBinds g numbers b name n = (m : Names) → Agrees g numbers m b → ShowsAt g numbers m name n → ⊥

-- ---- bindings of a left side

abbrev pub IsRead : ℕ → Pattern → Type 0
IsRead n p = (k : ℕ) × (reads n p ≡ Some k)

abbrev pub AreRead : ℕ → Patterns → Type 0
AreRead n ps = (k : ℕ) × (reads_all n ps ≡ Some k)

-- a binding of all that a left side names and of all its variables
pub record IsWhole (a : Axiom) (b : Binding) : Type 0 where
  pub bound_ : bound b ≡ once_more [] (names a.left)
  pub known : length b.vars.items ≡ variables a.left

-- ---- bindings that are added

-- added are exactly those that also make P hold; they bind further names and know further variables
pub record AddsWhere (g : Graph) (numbers : List ℕ) (old new : List Binding) (b : Binding) (P : Names → Type 0) (ns : List NameId) (known : Option ℕ) : Type 0 where
  pub sound : (m : Names) → SomeAgrees g numbers m new → SomeAgrees g numbers m old ⊎ (Agrees g numbers m b × P m)
  pub kept : (x : Binding) → In old x → In new x
  pub full : (m : Names) → Agrees g numbers m b → P m → SomeAgrees g numbers m new
  pub shape : (x : Binding) → In new x → In old x ⊎ ((bound x ≡ once_more (bound b) ns) × (known ≡ Some (length x.vars.items)))

-- ---- members of classes

abbrev pub AreMembers : Graph → List ℕ → ℕ → ℕ → List ℕ → Type 0
AreMembers g numbers c number list =
    ((n : ℕ) → In list n → (o : Op) × (ks : List ℕ) × (form_at g.nodes n ≡ Some (form o ks)) × (class_of numbers n ≡ c) × (op_number o ≡ number))
    × ((o : Op) (cs : List ℕ) → HasForm g numbers c o cs → op_number o ≡ number → (n : ℕ) × (ks : List ℕ) × In list n × (form_at g.nodes n ≡ Some (form o ks)) × (map (class_of numbers) ks ≡ cs))

-- the number of a head's operation
abbrev pub head_number : Head → ℕ
head_number (fixed o) = op_number o
head_number theta_d = 19
head_number eval_d = 20
head_number pass_d = 21
head_number shift_d = 22
head_number (getstatic s) = 70
head_number (putstatic s) = 71
head_number (getfield s) = 72
head_number (putfield s) = 73
head_number (load k) = 74
head_number (store k) = 75

-- an operation that a head may stand for
abbrev pub IsUnderHead : Head → Op → Type 0
IsUnderHead (fixed o) p = p ≡ o
IsUnderHead theta_d p = (d : ℕ) × (p ≡ op.Theta d)
IsUnderHead eval_d p = (d : ℕ) × (p ≡ op.Eval d)
IsUnderHead pass_d p = (d : ℕ) × (p ≡ op.Pass d)
IsUnderHead shift_d p = (d : ℕ) × (p ≡ op.Shift d)
IsUnderHead (getstatic s) p = (t : Sym) × (p ≡ op.GetStatic t)
IsUnderHead (putstatic s) p = (t : Sym) × (p ≡ op.PutStatic t)
IsUnderHead (getfield s) p = (t : Sym) × (p ≡ op.GetField t)
IsUnderHead (putfield s) p = (t : Sym) × (p ≡ op.PutField t)
IsUnderHead (load k) p = (t : kinds.Kind) × (p ≡ op.Load t)
IsUnderHead (store k) p = (t : kinds.Kind) × (p ≡ op.Store t)

abbrev pub with_number : List Group → ℕ → List ℕ
with_number [] number = []
with_number (group ∷ groups) number = if nat_eq group.number number then group.members.items else with_number groups number

abbrev pub groups_in : Option (Vec Group Global) → List Group
groups_in None = []
groups_in (Some v) = v.items

abbrev pub groups_at : List (Vec Group Global) → ℕ → List Group
groups_at lists c = groups_in (slice_get lists c)

abbrev pub members_of : List (Vec Group Global) → ℕ → ℕ → List ℕ
members_of lists c number = with_number (groups_at lists c) number

-- the members of all classes, by the numbers of their operations
abbrev pub IsMembers : Graph → List ℕ → List (Vec Group Global) → Type 0
IsMembers g numbers lists = (c number : ℕ) → AreMembers g numbers c number (members_of lists c number)

-- ---- steps

abbrev pub named : NameId → ℕ → Named
named name n = record { name = name; node = n }

-- the name is bound at this node
abbrev pub IsPlace : Binding → NameId → ℕ → Type 0
IsPlace b name n = (is_among (bound b) name ≡ true) × In b.names.items (named name n)

-- the node has the operation of the head
abbrev pub HasHead : Graph → Names → Head → ℕ → Type 0
HasHead g m h n = (ks : List ℕ) × (form_at g.nodes n ≡ Some (form (head_op m h) ks))

pub record BindsHead (g : Graph) (numbers : List ℕ) (b : Binding) (h : Head) (n : ℕ) (new : Binding) : Type 0 where
  pub exact : (m : Names) → Agrees g numbers m new ↔ (Agrees g numbers m b × HasHead g m h n)
  pub bound_ : bound new ≡ once_more (bound b) (listed_name (head_name h))
  pub vars : new.vars.items ≡ b.vars.items

abbrev pub NeverBindsHead : Graph → List ℕ → Binding → Head → ℕ → Type 0
NeverBindsHead g numbers b h n = (m : Names) → Agrees g numbers m b → HasHead g m h n → ⊥

pub record BindsVar (g : Graph) (numbers : List ℕ) (b : Binding) (j c : ℕ) (new : Binding) : Type 0 where
  pub exact : (m : Names) → Agrees g numbers m new ↔ (Agrees g numbers m b × (slice_get m.vars j ≡ Some c))
  pub bound_ : bound new ≡ bound b
  pub known : next_var (length b.vars.items) j ≡ Some (length new.vars.items)

abbrev pub NeverBindsVar : Graph → List ℕ → Binding → ℕ → ℕ → Type 0
NeverBindsVar g numbers b j c = (m : Names) → Agrees g numbers m b → slice_get m.vars j ≡ Some c → ⊥

-- the node is a constant
abbrev pub IsConstantNode : Graph → ℕ → Type 0
IsConstantNode g n = (o : Op) × (k : Num) × (form_at g.nodes n ≡ Some (form o [])) × (constant_of o ≡ Some k)

-- the variable stands for a constant that is one of these nodes
abbrev pub IsConstantOf : Graph → Names → ℕ → List ℕ → Type 0
IsConstantOf g m j nodes = (n : ℕ) × (o : Op) × In nodes n × (form_at g.nodes n ≡ Some (form o [])) × (constant_of o ≡ Some (m.constants j))

-- the nodes of a class with the operation of a head, and the bindings that take each
pub record AreStarts (g : Graph) (numbers : List ℕ) (h : Head) (c : ℕ) (b : Binding) (starts : List Start) : Type 0 where
  pub sound : (s : Start) → In starts s → (class_of numbers s.node ≡ c) × BindsHead g numbers b h s.node s.binding
  pub full : (m : Names) (cs : List ℕ) → Agrees g numbers m b → HasForm g numbers c (head_op m h) cs
      → (s : Start) × (ks : List ℕ) × In starts s × (form_at g.nodes s.node ≡ Some (form (head_op m h) ks)) × (map (class_of numbers) ks ≡ cs)
