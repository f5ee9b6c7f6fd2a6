-- When two nodes are the left and the right side of an axiom under a substitution.
use Rattle.std.specs.Prelude.{◌≡◌, ◌≢◌, ◌⊎◌, ℕ, pos, false, List, [], ◌∷◌, ◌++◌, map, length, Option, Some, None, slice_get}
use Rattle.std.specs.List.{AllZip, AllByRecursion}
use Rattle.pv_value.specs.Spelled.{bind, field_type}
use Rattle.pv_value.specs.Operations.{takes, gives}
use Rattle.pv_value.specs.declared.name.Sym.{Sym}
use Rattle.pv_value.specs.declared.heap.Kind.{Kind}
use Rattle.pv_value.specs.declared.heap.Kind.TheVariants as kind
use Rattle.pv_value.specs.declared.descriptor.JType.{JType}
use Rattle.pv_value.specs.declared.descriptor.JType.TheVariants as jtype
use Rattle.pv_value.specs.declared.operation.ScalarOp.{ScalarOp}
use Rattle.pv_value.specs.declared.operation.ScalarOp.TheVariants.{Iand, I2b, I2c, I2s}
use Rattle.pv_value.specs.declared.number.Num.{Num}
use Rattle.pv_value.specs.declared.number.Num.TheVariants as num
use Rattle.pv_value.specs.declared.outcome.Val.TheVariants as val
use Rattle.pv_graph.specs.declared.node.Op.{Op}
use Rattle.pv_graph.specs.declared.node.Op.TheVariants as op
use Rattle.pv_graph.specs.Forms.{Form, form}
use Rattle.pv_denote.specs.Denote.{scalar_on, num_of}
use Rattle.pv_graph.specs.Walks.{Free, MeetsVariable, IsSettled}
use Rattle.pv_graph.specs.Graphs.{Graph, form_at}
use Rattle.pv_pattern.specs.Patterns.{Atom, number, named, By, by_symbol, by_kind, Head, fixed, theta_d, eval_d, pass_d, shift_d, getstatic, putstatic, getfield, putfield, load, store, Each, bare, shifted, evaluated, Pattern, var, constant, fold, narrowed, over, over_each, Patterns, none, first, Side, settled, not_free, symbols_differ, kinds_differ, not_byte, constants_differ, Axiom, variables, is_family}
use Rattle.pv_pattern.specs.Numbers.{op_number}

-- what the names of an axiom stand for: its depth, symbols, kinds and constants; in a family the
-- operation and its kids; and a node for each variable
pub record Names : Type 0 where
  pub depth : ℕ
  pub symbols : ℕ → Sym
  pub kinds : ℕ → Kind
  pub constants : ℕ → Num
  pub op_ : Op
  pub kids : List ℕ
  pub vars : List ℕ

abbrev pub head_op : Names → Head → Op
head_op m (fixed o) = o
head_op m theta_d = op.Theta m.depth
head_op m eval_d = op.Eval m.depth
head_op m pass_d = op.Pass m.depth
head_op m shift_d = op.Shift m.depth
head_op m (getstatic s) = op.GetStatic (m.symbols s)
head_op m (putstatic s) = op.PutStatic (m.symbols s)
head_op m (getfield s) = op.GetField (m.symbols s)
head_op m (putfield s) = op.PutField (m.symbols s)
head_op m (load k) = op.Load (m.kinds k)
head_op m (store k) = op.Store (m.kinds k)

abbrev pub constant_of : Op → Option Num
constant_of (op.Int c) = Some (num.Int c)
constant_of (op.Long c) = Some (num.Long c)
constant_of o = None

-- the node is this constant
abbrev pub IsConstantAt : (ℕ → Option (Form ℕ)) → ℕ → Num → Type 0
IsConstantAt view n c = (o : Op) × (view n ≡ Some (form o [])) × (constant_of o ≡ Some c)

abbrev pub atom_of : Names → Atom → Num
atom_of m (number c) = c
atom_of m (named j) = m.constants j

-- the constant that an operation gives over constants
abbrev pub fold_of : ScalarOp → List Num → Option Num
fold_of o ns = bind (scalar_on o (takes o) (map val.Num ns)) (λ n. Some (num_of (gives o) n))

-- the number that an operation gives over these constants
abbrev pub folded : Names → ScalarOp → List Atom → Option Num
folded m o atoms = bind (scalar_on o (takes o) (map (λ a. val.Num (atom_of m a)) atoms)) (λ n. Some (num_of (gives o) n))

-- the type of an array's elements; a byte array may be a boolean one
abbrev pub kind_type : Kind → JType
kind_type kind.Int = jtype.I
kind_type kind.Long = jtype.J
kind_type kind.Ref = jtype.A
kind_type kind.Byte = jtype.B
kind_type kind.Char = jtype.C
kind_type kind.Short = jtype.S

abbrev pub type_by : Names → By → Option JType
type_by m (by_symbol s) = field_type (m.symbols s).desc
type_by m (by_kind k) = Some (kind_type (m.kinds k))

-- the node narrows to a type one of which Q holds, or is it where the type keeps all bits
abbrev pub Narrows : (ℕ → Option (Form ℕ)) → JType → (ℕ → Type 0) → ℕ → Type 0
Narrows view jtype.Z Q n = (k : ℕ) × (one : ℕ) × (view n ≡ Some (form (op.Scalar Iand) (k ∷ one ∷ []))) × Q k × (view one ≡ Some (form (op.Int (pos 1)) []))
Narrows view jtype.B Q n = (k : ℕ) × (view n ≡ Some (form (op.Scalar I2b) (k ∷ []))) × Q k
Narrows view jtype.C Q n = (k : ℕ) × (view n ≡ Some (form (op.Scalar I2c) (k ∷ []))) × Q k
Narrows view jtype.S Q n = (k : ℕ) × (view n ≡ Some (form (op.Scalar I2s) (k ∷ []))) × Q k
Narrows view t Q n = Q n

-- in a family the node is what its operation has in place of the kid k
abbrev pub IsEach : (ℕ → Option (Form ℕ)) → Names → Each → ℕ → ℕ → Type 0
IsEach view m bare k n = k ≡ n
IsEach view m shifted k n = view n ≡ Some (form (op.Shift m.depth) (k ∷ []))
IsEach view m (evaluated j) k n = (p : ℕ) × (slice_get m.vars j ≡ Some p) × (view n ≡ Some (form (op.Eval m.depth) (k ∷ p ∷ [])))

abbrev mutual
  -- the pattern stands at the node
  pub Stands : (ℕ → Option (Form ℕ)) → Names → Pattern → ℕ → Type 0
  Stands view m (var j) n = slice_get m.vars j ≡ Some n
  Stands view m (constant j) n = (slice_get m.vars j ≡ Some n) × IsConstantAt view n (m.constants j)
  Stands view m (fold o atoms) n = (c : Num) × (folded m o atoms ≡ Some c) × IsConstantAt view n c
  Stands view m (narrowed t p) n = (y : JType) × (type_by m t ≡ Some y) × Narrows view y (Stands view m p) n
  Stands view m (over h ps) n = (ks : List ℕ) × (view n ≡ Some (form (head_op m h) ks)) × StandAll view m ps ks
  Stands view m (over_each which e) n = (ks : List ℕ) × (view n ≡ Some (form m.op_ ks)) × (op_number m.op_ ≡ which) × AllZip (IsEach view m e) m.kids ks

  pub StandAll : (ℕ → Option (Form ℕ)) → Names → Patterns → List ℕ → Type 0
  StandAll view m none [] = Unit {0}
  StandAll view m none (k ∷ ks) = ⊥
  StandAll view m (first p ps) [] = ⊥
  StandAll view m (first p ps) (k ∷ ks) = Stands view m p k × StandAll view m ps ks

-- a condition; symbols differ in name or descriptor
abbrev pub Holds : Graph → List ℕ → Names → Side → Type 0
Holds g assumed m (settled j) = (n : ℕ) × (slice_get m.vars j ≡ Some n) × IsSettled (form_at g.nodes) assumed n
Holds g assumed m (not_free j) = (n : ℕ) × (slice_get m.vars j ≡ Some n) × (Free (form_at g.nodes) m.depth n → ⊥)
Holds g assumed m (symbols_differ s t) = ((m.symbols s).name ≢ (m.symbols t).name) ⊎ ((m.symbols s).desc ≢ (m.symbols t).desc)
Holds g assumed m (kinds_differ k l) = m.kinds k ≢ m.kinds l
Holds g assumed m (not_byte k) = m.kinds k ≢ kind.Byte
Holds g assumed m (constants_differ j k) = m.constants j ≢ m.constants k

-- a condition that asks for a depth not to be free holds whatever stands for the variables of the graph
abbrev pub HoldsForAll : Graph → Names → Side → Type 0
HoldsForAll g m (not_free j) = (n : ℕ) → slice_get m.vars j ≡ Some n → MeetsVariable (form_at g.nodes) m.depth n → ⊥
HoldsForAll g m s = Unit {0}

-- l is the left side and r the right side, node by node, and every condition holds; the substitution has
-- the kids of a family first, and then a node for each variable
pub record IsInstance (g : Graph) (assumed : List ℕ) (a : Axiom) (subst : List ℕ) (l r : ℕ) : Type 0 where
  pub names : Names
  pub are : subst ≡ names.kids ++ names.vars
  pub long : length names.vars ≡ variables a.left
  pub alone : is_family a.left ≡ false → names.kids ≡ []
  pub left : Stands (form_at g.nodes) names a.left l
  pub right : Stands (form_at g.nodes) names a.right r
  pub sides : AllByRecursion (Holds g assumed names) a.sides

-- .. whatever stands for the variables of the graph, if only settled nodes may stand for those that are assumed to end
pub record IsOpenInstance (g : Graph) (assumed : List ℕ) (a : Axiom) (subst : List ℕ) (l r : ℕ) : Type 0 where
  pub instance_ : IsInstance g assumed a subst l r
  pub for_all : AllByRecursion (HoldsForAll g instance_.names) a.sides
