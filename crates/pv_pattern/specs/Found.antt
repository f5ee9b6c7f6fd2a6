-- What an axiom names of an operation, and each name found at its first place in the left side, where a node stands for it.
use Rattle.std.specs.Prelude.{◌≡◌, ◌≢◌, ◌⊎◌, ℕ, length, pos, Bool, true, false, List, [], ◌∷◌, ◌++◌, map, Option, Some, None, ◌==◌, if◌then◌else◌}
use Rattle.pv_value.specs.Spelled.{bind}
use Rattle.pv_value.specs.declared.name.Sym.{Sym}
use Rattle.pv_value.specs.declared.heap.Kind as kinds
use Rattle.pv_value.specs.declared.heap.Kind.TheVariants as kind
use Rattle.pv_value.specs.declared.number.Num.{Num}
use Rattle.pv_value.specs.declared.number.Num.TheVariants as num
use Rattle.pv_graph.specs.declared.node.Op.{Op}
use Rattle.pv_graph.specs.declared.node.Op.TheVariants as op
use Rattle.pv_value.specs.Operations.{takes, gives}
use Rattle.pv_value.specs.declared.operation.ScalarOp.{ScalarOp}
use Rattle.pv_value.specs.declared.outcome.Val.TheVariants as val
use Rattle.pv_denote.specs.Denote.{scalar_on, num_of}
use Rattle.pv_graph.specs.Forms.{Form, form}
use Rattle.pv_graph.specs.Graphs.{Graph, form_at}
use Rattle.pv_pattern.specs.declared.names.NameId.{NameId}
use Rattle.pv_pattern.specs.declared.names.NameId.TheVariants.{Depth, Symbol, Kind, Constant, Operation}
use Rattle.pv_pattern.specs.declared.names.Reading.{Reading}
use Rattle.pv_pattern.specs.declared.pattern.Pattern as declared
use Rattle.pv_pattern.specs.Patterns.{Head, fixed, theta_d, eval_d, pass_d, shift_d, getstatic, putstatic, getfield, putfield, load, store, Pattern, var, constant, fold, narrowed, over, over_each, Patterns, none, first, Side, symbols_differ, kinds_differ, not_byte, constants_differ, variables, is_family}
use Rattle.pv_pattern.specs.Instances.{Names}
use Rattle.pv_pattern.specs.Seen.{seen}

-- what an axiom names of an operation
abbrev pub head_name : Head → Option NameId
head_name (fixed o) = None
head_name theta_d = Some Depth
head_name eval_d = Some Depth
head_name pass_d = Some Depth
head_name shift_d = Some Depth
head_name (getstatic s) = Some (Symbol s)
head_name (putstatic s) = Some (Symbol s)
head_name (getfield s) = Some (Symbol s)
head_name (putfield s) = Some (Symbol s)
head_name (load k) = Some (Kind k)
head_name (store k) = Some (Kind k)

abbrev pub same_name : NameId → NameId → Bool
same_name Depth Depth = true
same_name (Symbol s) (Symbol t) = s == t
same_name (Kind k) (Kind l) = k == l
same_name (Constant j) (Constant k) = j == k
same_name Operation Operation = true
same_name a b = false

abbrev pub is_name : Option NameId → NameId → Bool
is_name None m = false
is_name (Some n) m = same_name n m

abbrev pub kids_of : Option (Form ℕ) → List ℕ
kids_of None = []
kids_of (Some (form o ks)) = ks

abbrev pub op_of : Option (Form ℕ) → Option Op
op_of None = None
op_of (Some (form o ks)) = Some o

abbrev pub or_else : Option ℕ → Option ℕ → Option ℕ
or_else None b = b
or_else (Some a) b = Some a

abbrev mutual
  -- the node at the first place of a name, where the pattern is laid over a node and its kids
  pub place : (ℕ → Option (Form ℕ)) → NameId → Pattern → ℕ → Option ℕ
  place view m (var j) n = None
  place view m (constant j) n = if same_name (Constant j) m then Some n else None
  place view m (fold o atoms) n = None
  place view m (narrowed t p) n = None
  place view m (over h ps) n = if is_name (head_name h) m then Some n else place_in view m ps (kids_of (view n))
  place view m (over_each k e) n = if same_name Operation m then Some n else None

  pub place_in : (ℕ → Option (Form ℕ)) → NameId → Patterns → List ℕ → Option ℕ
  place_in view m none ks = None
  place_in view m (first p ps) [] = None
  place_in view m (first p ps) (k ∷ ks) = or_else (place view m p k) (place_in view m ps ks)

-- the operation at that node
abbrev pub shown : (ℕ → Option (Form ℕ)) → Pattern → ℕ → NameId → Option Op
shown view left l m = bind (place view m left l) (λ n. op_of (view n))

-- .. or unit, which has no depth, symbol, kind or constant
abbrev pub or_unit : Option Op → Op
or_unit None = op.Unit
or_unit (Some o) = o

abbrev pub depth_of : Op → ℕ
depth_of (op.Theta d) = d
depth_of (op.Eval d) = d
depth_of (op.Pass d) = d
depth_of (op.Shift d) = d
depth_of o = 0

abbrev pub empty_symbol : Sym
empty_symbol = record { class = []; name = []; desc = [] }

abbrev pub symbol_of : Op → Sym
symbol_of (op.GetStatic s) = s
symbol_of (op.PutStatic s) = s
symbol_of (op.GetField s) = s
symbol_of (op.PutField s) = s
symbol_of o = empty_symbol

abbrev pub kind_of : Op → kinds.Kind
kind_of (op.Load k) = k
kind_of (op.Store k) = k
kind_of o = kind.Int

abbrev pub constant_in : Op → Num
constant_in (op.Int c) = num.Int c
constant_in (op.Long c) = num.Long c
constant_in o = num.Int (pos 0)

-- the names as found, with these kids of a family and these variables
abbrev pub found : (ℕ → Option (Form ℕ)) → Pattern → ℕ → List ℕ → List ℕ → Names
found view left l kids vars = record {
  depth = depth_of (or_unit (shown view left l Depth));
  symbols = λ s. symbol_of (or_unit (shown view left l (Symbol s)));
  kinds = λ k. kind_of (or_unit (shown view left l (Kind k)));
  constants = λ j. constant_in (or_unit (shown view left l (Constant j)));
  op_ = or_unit (shown view left l Operation);
  kids = kids;
  vars = vars;
}

-- what the program reads
abbrev pub view_of : Reading → ℕ → Option (Form ℕ)
view_of r = form_at r.graph.now.nodes

abbrev pub shown_of : Reading → NameId → Option Op
shown_of r = shown (view_of r) (seen r.left.now) r.at

abbrev pub names_of : Reading → Names
names_of r = found (view_of r) (seen r.left.now) r.at r.kids.now r.vars.now

-- an operation whose parameter the axiom names
abbrev pub HasName : Head → Type 0
HasName (fixed o) = ⊥
HasName h = Unit {0}

-- the node isn't this operation
abbrev pub IsNotUnder : (ℕ → Option (Form ℕ)) → ScalarOp → ℕ → Type 0
IsNotUnder view o n = (ks : List ℕ) → view n ≡ Some (form (op.Scalar o) ks) → ⊥

-- the axiom's left side is read at a node of the graph, with a substitution
pub record IsReading (g : Graph) (left : declared.Pattern) (subst : List ℕ) (l : ℕ) (r : Reading) : Type 0 where
  pub graph_ : r.graph.now ≡ g
  pub left_ : r.left.now ≡ left
  pub at_ : r.at ≡ l
  pub are : subst ≡ r.kids.now ++ r.vars.now
  pub long : length r.vars.now ≡ variables (seen left)
  pub alone : is_family (seen left) ≡ false → r.kids.now ≡ []

-- the substitution has no nodes for the variables, or kids where there is no family
abbrev pub HasNoReading : Pattern → List ℕ → Type 0
HasNoReading left subst = (kids vars : List ℕ) → subst ≡ kids ++ vars → length vars ≡ variables left → (is_family left ≡ false → kids ≡ []) → ⊥

-- a condition that asks nothing of the graph
abbrev pub Differs : Names → Side → Type 0
Differs m (symbols_differ s t) = ((m.symbols s).name ≢ (m.symbols t).name) ⊎ ((m.symbols s).desc ≢ (m.symbols t).desc)
Differs m (kinds_differ k l) = m.kinds k ≢ m.kinds l
Differs m (not_byte k) = m.kinds k ≢ kind.Byte
Differs m (constants_differ j k) = m.constants j ≢ m.constants k
Differs m s = Unit {0}
