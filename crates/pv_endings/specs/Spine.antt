-- The spine of a token, by a list of work.
use Rattle.std.specs.Prelude.{◌≡◌, ◌⊎◌, ◌↔◌, ℕ, ◌+◌, ◌<◌, Bool, true, List, [], ◌∷◌, length, Some, slice_set}
use Rattle.pv_graph.specs.declared.node.Op.{Op}
use Rattle.pv_graph.specs.declared.node.Op.TheVariants as op
use Rattle.pv_graph.specs.declared.node.Node.{Node}
use Rattle.pv_graph.specs.Ops.{shape, eval}
use Rattle.pv_graph.specs.Forms.{form}
use Rattle.pv_graph.specs.Walks.{In, Spine}
use Rattle.pv_graph.specs.Graphs.{form_at}
use Rattle.pv_graph.specs.Reach.{IsMarked, unmarked}
use Rattle.pv_endings.specs.declared.spine.Next.{Next}
use Rattle.pv_endings.specs.declared.spine.Next.TheVariants.{Tokens, Count, Nothing}
use Rattle.pv_endings.specs.declared.spine.Walk.{Walk}

-- where the spine goes on from a node
abbrev pub next_by : Op → List ℕ → Next
next_by op.Both (a ∷ b ∷ []) = Tokens a b
next_by (op.Eval d) (a ∷ p ∷ []) = Count p
next_by o ks = Nothing

abbrev pub next_of : Node → Next
next_of n = next_by n.op n.kids

-- exactly the nodes on the spine of the token are marked
pub record IsSpine (nodes : List Node) (token : ℕ) (marks : List Bool) : Type 0 where
  pub long : length marks ≡ length nodes
  pub says : (n : ℕ) → IsMarked marks n ↔ Spine (form_at nodes) token n

-- one mark more
abbrev pub SetMark : List Bool → List Bool → ℕ → Type 0
SetMark old new n = new ≡ slice_set old n true

-- the node is marked, and its turn is to come if it wasn't marked
pub record IsNoted (old new : List Bool) (before after : List ℕ) (n : ℕ) : Type 0 where
  pub long : length new ≡ length old
  pub kept : (m : ℕ) → IsMarked old m → IsMarked new m
  pub only : (m : ℕ) → IsMarked new m → IsMarked old m ⊎ (m ≡ n)
  pub there : IsMarked new n
  pub waits : (m : ℕ) → In before m → In after m
  pub noted : (m : ℕ) → IsMarked new m → IsMarked old m ⊎ In after m
  pub queued : (m : ℕ) → In after m → In before m ⊎ (n ≡ m)
  pub count : length after + unmarked new ≡ length before + unmarked old

-- what lies on the spine from a node lies on that of the token
abbrev pub LeadsOn : List Node → ℕ → ℕ → Type 0
LeadsOn nodes token n = (m : ℕ) → Spine (form_at nodes) n m → Spine (form_at nodes) token m

-- a node from which the spine has gone on
pub record IsDone (nodes : List Node) (spine walked : List Bool) (n : ℕ) : Type 0 where
  pub self_ : IsMarked spine n
  pub tokens : (a b : ℕ) → form_at nodes n ≡ Some (form op.Both (a ∷ b ∷ [])) → IsMarked walked a × IsMarked walked b
  pub count : (a p : ℕ) (o : Op) (d : ℕ) → form_at nodes n ≡ Some (form o (a ∷ p ∷ [])) → shape o ≡ eval d → IsMarked spine p

-- what a walk knows while there is work: what is marked lies on the spine, and a node from which it goes on is still to come or done
pub record IsWalk (nodes : List Node) (token : ℕ) (spine walked : List Bool) (work : List ℕ) : Type 0 where
  pub long : length spine ≡ length nodes
  pub wide : length walked ≡ length nodes
  pub start : IsMarked walked token
  pub found : (n : ℕ) → IsMarked spine n → Spine (form_at nodes) token n
  pub leads : (n : ℕ) → IsMarked walked n → LeadsOn nodes token n
  pub waits : (n : ℕ) → In work n → IsMarked walked n
  pub done : (n : ℕ) → IsMarked walked n → In work n ⊎ IsDone nodes spine walked n

-- they are numbers of nodes
abbrev pub AreWithin : Next → ℕ → Type 0
AreWithin (Tokens a b) len = (a < len) × (b < len)
AreWithin (Count p) len = p < len
AreWithin Nothing len = Unit {0}

-- what a step from node n changes: n is marked, and so is a count; the tokens are noted
abbrev pub Follows : Next → ℕ → Walk → Walk → Type 0
Follows (Tokens a b) n old new =
    SetMark old.spine.items new.spine.items n
    × ((mid : List Bool) × (half : List ℕ) × IsNoted old.walked.items mid old.work.items half a × IsNoted mid new.walked.items half new.work.items b)
Follows (Count p) n old new = (new.spine.items ≡ slice_set (slice_set old.spine.items n true) p true) × ((new.walked.items ≡ old.walked.items) × (new.work.items ≡ old.work.items))
Follows Nothing n old new = SetMark old.spine.items new.spine.items n × ((new.walked.items ≡ old.walked.items) × (new.work.items ≡ old.work.items))
