-- Which nodes reach some nodes along kids, as it is found: the places of each kid, and the marks of nodes.
use Rattle.std.specs.Prelude.{◌≡◌, ◌⊎◌, ◌↔◌, ℕ, suc, ◌+◌, ◌<◌, ◌≤◌, Bool, true, false, not, ◌||◌, ◌==◌, IsTrue, List, [], ◌∷◌, ◌++◌, length, Some, slice_get, Vec}
use Rattle.std.specs.declared.alloc.Global.{Global}
use Rattle.pv_graph.specs.declared.node.Op.{Op}
use Rattle.pv_graph.specs.declared.node.Op.TheVariants as op
use Rattle.pv_graph.specs.declared.node.Node.{Node}
use Rattle.pv_graph.specs.declared.reach.Use.{Use}
use Rattle.pv_graph.specs.declared.reach.Look.{Look}
use Rattle.pv_graph.specs.declared.reach.Look.TheVariants as look
use Rattle.pv_graph.specs.Ops.{is_variable, may_not_end}
use Rattle.pv_graph.specs.SortCode.{is_source}
use Rattle.pv_graph.specs.Walks.{In, Free}
use Rattle.pv_graph.specs.Graphs.{form_at}

-- a node with the operation is one to be reached; for a sort these differ
abbrev pub begins : Look → Op → Bool
begins (look.Free d) (op.Theta e) = e == d
begins (look.Free d) o = false
begins (look.Variable d) o = is_variable o
begins look.All o = may_not_end o
begins look.Sort o = false

-- the kid at a place counts: for a depth that is free, or a variable, not the first kid of its eval, nor the kid of its
-- pass; for a sort the kid alone whose sort is taken
abbrev pub follows : Look → Op → ℕ → Bool
follows (look.Free d) (op.Eval e) place = not (e == d) || not (place == 0)
follows (look.Free d) (op.Pass e) place = not (e == d)
follows (look.Free d) o place = true
follows (look.Variable d) (op.Eval e) place = not (e == d) || not (place == 0)
follows (look.Variable d) (op.Pass e) place = not (e == d)
follows (look.Variable d) o place = true
follows look.All o place = true
follows look.Sort o place = is_source o place

-- for each node the places at which it is a kid
abbrev pub Uses : Type 0
Uses = List (Vec Use Global)

abbrev pub IsUse : Uses → ℕ → Use → Type 0
IsUse uses k u = (us : Vec Use Global) × (slice_get uses k ≡ Some us) × In us.items u

-- each kid is less than n
abbrev pub KidsWithin : List ℕ → ℕ → Type 0
KidsWithin kids n = (p k : ℕ) → slice_get kids p ≡ Some k → k < n

-- the kids of all nodes are less than n
abbrev pub AllKidsWithin : List Node → ℕ → Type 0
AllKidsWithin nodes n = (m : ℕ) (node : Node) → slice_get nodes m ≡ Some node → KidsWithin node.kids n

-- a place of the kid, and those that were there; the uses are those of the nodes from `first` on
abbrev pub Gains : ℕ → Uses → Uses → ℕ → Use → Type 0
Gains first old new kid v = (k : ℕ) (u : Use) → IsUse new k u ↔ (IsUse old k u ⊎ ((kid ≡ first + k) × (v ≡ u)))

-- the places of the kids of a node, and those that were there
abbrev pub Grows : ℕ → Uses → Uses → ℕ → List ℕ → Type 0
Grows first old new node kids = (k : ℕ) (u : Use) → IsUse new k u ↔ (IsUse old k u ⊎ ((u.node ≡ node) × (slice_get kids u.place ≡ Some (first + k))))

-- the places of the kids of these nodes, which stand from `first` on, but for those of nodes that are left out
abbrev pub AreUsesFrom : ℕ → List Node → List Bool → Uses → Type 0
AreUsesFrom first nodes out uses = (k : ℕ) (u : Use) → IsUse uses k u ↔ ((node : Node) × (slice_get nodes u.node ≡ Some node) × (slice_get out u.node ≡ Some false) × (slice_get node.kids u.place ≡ Some (first + k)))

-- .. of all nodes
abbrev pub AreUses : List Node → List Bool → Uses → Type 0
AreUses nodes out uses = (k : ℕ) (u : Use) → IsUse uses k u ↔ ((node : Node) × (slice_get nodes u.node ≡ Some node) × (slice_get out u.node ≡ Some false) × (slice_get node.kids u.place ≡ Some k))

-- a node is marked
abbrev pub IsMarked : List Bool → ℕ → Type 0
IsMarked marks n = slice_get marks n ≡ Some true

abbrev pub AreStarts : List Bool → List ℕ → Type 0
AreStarts starts work = (n : ℕ) → IsMarked starts n ↔ In work n

-- the kid at that place counts for the node that it is in
abbrev pub Passes : List Node → Look → Use → Type 0
Passes nodes l u = (node : Node) × (slice_get nodes u.node ≡ Some node) × (follows l node.op u.place ≡ true)

-- how many nodes are not marked
abbrev pub unmarked : List Bool → ℕ
unmarked [] = 0
unmarked (true ∷ marks) = unmarked marks
unmarked (false ∷ marks) = suc (unmarked marks)

-- the nodes that these places are in are marked; those that were not are noted as work
pub record Spreads (nodes : List Node) (l : Look) (uses : List Use) (old new : List Bool) (before after : List ℕ) : Type 0 where
  pub long : length new ≡ length old
  pub kept : (n : ℕ) → IsMarked old n → IsMarked new n
  pub only : (n : ℕ) → IsMarked new n → IsMarked old n ⊎ ((u : Use) × In uses u × Passes nodes l u × (u.node ≡ n))
  pub all : (u : Use) → In uses u → Passes nodes l u → IsMarked new u.node
  pub waits : (n : ℕ) → In before n → In after n
  pub noted : (n : ℕ) → IsMarked new n → IsMarked old n ⊎ In after n
  pub queued : (n : ℕ) → In after n → In before n ⊎ IsMarked new n
  pub count : length after + unmarked new ≡ length before + unmarked old

-- what reaches a node of the starts, through the kids that count
pub data Hits (nodes : List Node) (uses : Uses) (l : Look) (starts : List Bool) : ℕ → Type 0 where
  begin : (n : ℕ) → IsMarked starts n → Hits nodes uses l starts n
  along : (n k : ℕ) (u : Use) → IsUse uses k u → Passes nodes l u → u.node ≡ n → Hits nodes uses l starts k → Hits nodes uses l starts n

-- exactly the nodes that reach a node of the starts are marked
pub record AreReached (nodes : List Node) (uses : Uses) (l : Look) (starts marks : List Bool) : Type 0 where
  pub long : length marks ≡ length nodes
  pub says : (n : ℕ) → IsMarked marks n ↔ Hits nodes uses l starts n

-- a node to be reached that isn't left out
abbrev pub IsBegun : List Node → List Bool → Look → ℕ → Type 0
IsBegun nodes out l n = (node : Node) × (slice_get nodes n ≡ Some node) × (slice_get out n ≡ Some false) × (begins l node.op ≡ true)

pub record AreBegun (nodes : List Node) (out : List Bool) (l : Look) (starts : List Bool) : Type 0 where
  pub long : length starts ≡ length nodes
  pub says : (n : ℕ) → IsMarked starts n ↔ IsBegun nodes out l n

-- of `len` nodes the assumed ones are left out
pub record AreOut (len : ℕ) (assumed : List ℕ) (out : List Bool) : Type 0 where
  pub long : length out ≡ len
  pub only : (n : ℕ) → IsMarked out n → In assumed n
  pub has : (n : ℕ) → In assumed n → n < len → IsMarked out n

-- what reaches a node to be reached, along kids that count of nodes that aren't left out
pub data Leads (nodes : List Node) (out : List Bool) (l : Look) : ℕ → Type 0 where
  there : (n : ℕ) → IsBegun nodes out l n → Leads nodes out l n
  through : (n p k : ℕ) (node : Node) → slice_get nodes n ≡ Some node → slice_get out n ≡ Some false → slice_get node.kids p ≡ Some k → follows l node.op p ≡ true → Leads nodes out l k → Leads nodes out l n

pub record AreMarked (nodes : List Node) (out : List Bool) (l : Look) (marks : List Bool) : Type 0 where
  pub long : length marks ≡ length nodes
  pub says : (n : ℕ) → IsMarked marks n ↔ Leads nodes out l n

-- the marks of a search without the assumed nodes
pub record IsSearched (nodes : List Node) (assumed : List ℕ) (l : Look) (marks : List Bool) : Type 0 where
  pub out : List Bool
  pub are : AreOut (length nodes) assumed out
  pub marked : AreMarked nodes out l marks

-- ---- the nodes after the first ones, of which it is known whether they are marked

-- a kid that counts is one of the first nodes, and marked
abbrev pub IsMet : List Bool → Look → Op → List ℕ → Type 0
IsMet known l o kids = (p : ℕ) × (k : ℕ) × (slice_get kids p ≡ Some k) × IsMarked known k × (follows l o p ≡ true)

abbrev pub BeginsOrMeets : List Bool → Look → Node → Type 0
BeginsOrMeets known l node = (begins l node.op ≡ true) ⊎ IsMet known l node.op node.kids

abbrev pub IsBegunAfter : List Bool → List Node → Look → ℕ → Type 0
IsBegunAfter known nodes l n = (node : Node) × (slice_get nodes n ≡ Some node) × BeginsOrMeets known l node

pub record AreBegunAfter (known : List Bool) (nodes : List Node) (l : Look) (starts : List Bool) : Type 0 where
  pub long : length starts ≡ length nodes
  pub says : (n : ℕ) → IsMarked starts n ↔ IsBegunAfter known nodes l n

-- marks of the first nodes: whether the depth is free in each
pub record AreFree (nodes : List Node) (d : ℕ) (marks : List Bool) : Type 0 where
  pub low : length marks ≤ length nodes
  pub says : (n : ℕ) (b : Bool) → slice_get marks n ≡ Some b → IsTrue b ↔ Free (form_at nodes) d n

-- with these marks after those of the first nodes, all nodes are marked
abbrev pub AreFreeAfter : List Node → List Bool → ℕ → List Bool → Type 0
AreFreeAfter nodes known d found = AreFree nodes d known → (length (known ++ found) ≡ length nodes) × AreFree nodes d (known ++ found)
