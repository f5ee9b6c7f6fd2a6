-- The conditions of axioms, over classes. The view has the nodes of the least graph.
use Rattle.std.specs.Prelude.{◌≡◌, ◌≢◌, ◌⊎◌, ℕ, false, List, Some, slice_get}
use Rattle.pv_value.specs.declared.heap.Kind.TheVariants as kind
use Rattle.pv_graph.specs.declared.node.Op.{Op}
use Rattle.pv_graph.specs.declared.node.Op.TheVariants as op
use Rattle.pv_graph.specs.Forms.{form}
use Rattle.pv_graph.specs.Ops.{shape, may_not_end}
use Rattle.pv_graph.specs.Walks.{open_kids, Free, IsSettled}
use Rattle.pv_pattern.specs.Patterns.{Side, settled, not_free, symbols_differ, kinds_differ, not_byte, constants_differ}
use Rattle.pv_steps.specs.Facts.{View}
use Rattle.pv_heights.specs.Systems.{System, Subset, Relation}
use Rattle.pv_heights.specs.Sides.{Match, ClassHas}

-- the class of t holds node n of the least graph
pub record ClassNode (view : View) (S : System) (Joins : Relation S) (t : S.Thing) (n : ℕ) : Type 0 where
  pub o : Op
  pub ks : List ℕ
  pub is : view n ≡ Some (form o ks)
  pub joins : Joins (S.node n) t

-- the class of t is settled, where the assumed nodes count as ending: it holds a settled node, or a member of another operation than
-- pass, callend and never whose kids all lie in settled classes. It is settled by these rules alone
pub data Settled (view : View) (assumed : List ℕ) (S : System) (Member : Subset S) (Joins : Relation S) : S.Thing → Type 0 where
  by_node : (n : ℕ) (t : S.Thing) → ClassNode view S Joins t n → IsSettled view assumed n → Settled view assumed S Member Joins t
  by_kids : (t : S.Thing) (o : Op) (ks : List S.Thing) → ClassHas S Member Joins t o ks → may_not_end o ≡ false
      → ((j : ℕ) (k : S.Thing) → slice_get ks j ≡ Some k → Settled view assumed S Member Joins k) → Settled view assumed S Member Joins t

-- depth d isn't free in the class of t: it holds a node in which d isn't free, or a member of another operation than theta d whose kids
-- all lie in classes in which d isn't free, where the first kid of an eval d and the kid of a pass d don't count. It is so by these
-- rules alone
pub data NotFree (view : View) (d : ℕ) (S : System) (Member : Subset S) (Joins : Relation S) : S.Thing → Type 0 where
  by_node : (n : ℕ) (t : S.Thing) → ClassNode view S Joins t n → (Free view d n → ⊥) → NotFree view d S Member Joins t
  by_kids : (t : S.Thing) (o : Op) (ks : List S.Thing) → ClassHas S Member Joins t o ks → o ≢ op.Theta d
      → ((j : ℕ) (k : S.Thing) → slice_get (open_kids d (shape o) ks) j ≡ Some k → NotFree view d S Member Joins k) → NotFree view d S Member Joins t

-- a condition of the axiom holds: of the classes of its variables, or of what its names stand for. Symbols differ in name or
-- descriptor
abbrev pub Holds : View → List ℕ → (S : System) → Subset S → Relation S → Match S.Thing → Side → Type 0
Holds view assumed S Member Joins m (settled j) = (x : S.Thing) × (slice_get m.vars j ≡ Some x) × Settled view assumed S Member Joins x
Holds view assumed S Member Joins m (not_free j) = (x : S.Thing) × (slice_get m.vars j ≡ Some x) × NotFree view m.params.depth S Member Joins x
Holds view assumed S Member Joins m (symbols_differ s t) = ((m.params.symbols s).name ≢ (m.params.symbols t).name) ⊎ ((m.params.symbols s).desc ≢ (m.params.symbols t).desc)
Holds view assumed S Member Joins m (kinds_differ k l) = m.params.kinds k ≢ m.params.kinds l
Holds view assumed S Member Joins m (not_byte k) = m.params.kinds k ≢ kind.Byte
Holds view assumed S Member Joins m (constants_differ j k) = m.params.constants j ≢ m.params.constants k
