-- The words of an operation: its name and its parameters.
use Rattle.std.specs.Prelude.{◌≡◌, ℕ, List, [], ◌∷◌, codes, Option, refl}
use Rattle.pv_graph.specs.declared.node.Op.{Op}
use Rattle.pv_graph.specs.declared.node.Op.TheVariants as op
use Rattle.pv_cert.specs.declared.table.Head.{Head}
use Rattle.pv_cert.specs.declared.table.Head.TheVariants as head
use Rattle.pv_format.specs.Reading.{made}
use Rattle.pv_format.specs.Combinators.{nothing}
use Rattle.pv_format.specs.Choices.{Case, choice}
use Rattle.pv_token.specs.Words.{Phrase}
use Rattle.pv_cert.specs.Names.{scalar_name, head_name, head_token}
use Rattle.pv_cert.specs.Parameters.{number, int, long, text, kind, sym, variable, argument}

abbrev pub op_words : Op → List (List ℕ)
op_words (op.Int c) = codes "int" ∷ int.spells c
op_words (op.Long c) = codes "long" ∷ long.spells c
op_words op.Null = codes "null" ∷ []
op_words (op.Literal t) = codes "literal" ∷ text.spells t
op_words (op.Param j s) = codes "param" ∷ argument.spells (j, s)
op_words op.This = codes "this" ∷ []
op_words op.Heap0 = codes "heap0" ∷ []
op_words op.Unit = codes "unit" ∷ []
op_words op.Never = codes "never" ∷ []
op_words op.Clear = codes "clear" ∷ []
op_words op.FNull = codes "fnull" ∷ []
op_words op.FArith = codes "farith" ∷ []
op_words op.FIndex = codes "findex" ∷ []
op_words op.Zero = codes "zero" ∷ []
op_words op.Succ = codes "succ" ∷ []
op_words op.Thrown = codes "thrown" ∷ []
op_words op.IsClear = codes "isclear" ∷ []
op_words op.Both = codes "both" ∷ []
op_words op.Phi = codes "phi" ∷ []
op_words (op.Theta d) = codes "theta" ∷ number.spells d
op_words (op.Eval d) = codes "eval" ∷ number.spells d
op_words (op.Pass d) = codes "pass" ∷ number.spells d
op_words (op.Shift d) = codes "shift" ∷ number.spells d
op_words op.Root = codes "root" ∷ []
op_words (op.Scalar o) = scalar_name o ∷ []
op_words op.Aeq = codes "aeq" ∷ []
op_words (op.GetStatic s) = codes "getstatic" ∷ sym.spells s
op_words (op.PutStatic s) = codes "putstatic" ∷ sym.spells s
op_words (op.GetField s) = codes "getfield" ∷ sym.spells s
op_words (op.PutField s) = codes "putfield" ∷ sym.spells s
op_words (op.Load k) = codes "load" ∷ kind.spells k
op_words (op.Store k) = codes "store" ∷ kind.spells k
op_words op.Length = codes "length" ∷ []
op_words (op.CallEnd s) = codes "callend" ∷ sym.spells s
op_words (op.CallRes s) = codes "callres" ∷ sym.spells s
op_words (op.CallFault s) = codes "callfault" ∷ sym.spells s
op_words (op.CallHeap s) = codes "callheap" ∷ sym.spells s
op_words (op.Var j s) = codes "var" ∷ variable.spells (j, s)

-- the numbers and the texts of an operation that are those of its types
abbrev pub OpFits : Op → Type 0
OpFits (op.Int c) = int.fits c
OpFits (op.Long c) = long.fits c
OpFits (op.Literal t) = text.fits t
OpFits (op.Param j s) = argument.fits (j, s)
OpFits (op.Theta d) = number.fits d
OpFits (op.Eval d) = number.fits d
OpFits (op.Pass d) = number.fits d
OpFits (op.Shift d) = number.fits d
OpFits (op.GetStatic s) = sym.fits s
OpFits (op.PutStatic s) = sym.fits s
OpFits (op.GetField s) = sym.fits s
OpFits (op.PutField s) = sym.fits s
OpFits (op.Load k) = kind.fits k
OpFits (op.Store k) = kind.fits k
OpFits (op.CallEnd s) = sym.fits s
OpFits (op.CallRes s) = sym.fits s
OpFits (op.CallFault s) = sym.fits s
OpFits (op.CallHeap s) = sym.fits s
OpFits (op.Var j s) = variable.fits (j, s)
OpFits _ = Unit {0}

-- ---- how they are read

-- with parameters, and without
abbrev with : {X : Type 0} → (X → Op) → Phrase X → Case Phrase Op
with {X} make words = record { Held = X; make = make; words = words }

abbrev alone : Op → Case Phrase Op
alone o = record { Held = Unit {0}; make = λ x. o; words = nothing }

-- what follows the name of an operation
abbrev pub op_case : Head → Case Phrase Op
op_case head.Int = with op.Int int
op_case head.Long = with op.Long long
op_case head.Null = alone op.Null
op_case head.Literal = with op.Literal text
op_case head.Param = with (λ p. op.Param p.0 p.1) argument
op_case head.This = alone op.This
op_case head.Heap0 = alone op.Heap0
op_case head.Unit = alone op.Unit
op_case head.Never = alone op.Never
op_case head.Clear = alone op.Clear
op_case head.FNull = alone op.FNull
op_case head.FArith = alone op.FArith
op_case head.FIndex = alone op.FIndex
op_case head.Zero = alone op.Zero
op_case head.Succ = alone op.Succ
op_case head.Thrown = alone op.Thrown
op_case head.IsClear = alone op.IsClear
op_case head.Both = alone op.Both
op_case head.Phi = alone op.Phi
op_case head.Theta = with op.Theta number
op_case head.Eval = with op.Eval number
op_case head.Pass = with op.Pass number
op_case head.Shift = with op.Shift number
op_case head.Root = alone op.Root
op_case (head.Scalar o) = alone (op.Scalar o)
op_case head.Aeq = alone op.Aeq
op_case head.GetStatic = with op.GetStatic sym
op_case head.PutStatic = with op.PutStatic sym
op_case head.GetField = with op.GetField sym
op_case head.PutField = with op.PutField sym
op_case head.Load = with op.Load kind
op_case head.Store = with op.Store kind
op_case head.Length = alone op.Length
op_case head.CallEnd = with op.CallEnd sym
op_case head.CallRes = with op.CallRes sym
op_case head.CallFault = with op.CallFault sym
op_case head.CallHeap = with op.CallHeap sym
op_case head.Var = with (λ p. op.Var p.0 p.1) variable

-- each operation has a name
pub each_op : (o : Op) → (h : Head) × (x : (op_case h).Held) × ((op_case h).make x ≡ o)
each_op (op.Int x) = (head.Int, x, refl)
each_op (op.Long x) = (head.Long, x, refl)
each_op op.Null = (head.Null, tt, refl)
each_op (op.Literal x) = (head.Literal, x, refl)
each_op (op.Param j s) = (head.Param, (j, s), refl)
each_op op.This = (head.This, tt, refl)
each_op op.Heap0 = (head.Heap0, tt, refl)
each_op op.Unit = (head.Unit, tt, refl)
each_op op.Never = (head.Never, tt, refl)
each_op op.Clear = (head.Clear, tt, refl)
each_op op.FNull = (head.FNull, tt, refl)
each_op op.FArith = (head.FArith, tt, refl)
each_op op.FIndex = (head.FIndex, tt, refl)
each_op op.Zero = (head.Zero, tt, refl)
each_op op.Succ = (head.Succ, tt, refl)
each_op op.Thrown = (head.Thrown, tt, refl)
each_op op.IsClear = (head.IsClear, tt, refl)
each_op op.Both = (head.Both, tt, refl)
each_op op.Phi = (head.Phi, tt, refl)
each_op (op.Theta x) = (head.Theta, x, refl)
each_op (op.Eval x) = (head.Eval, x, refl)
each_op (op.Pass x) = (head.Pass, x, refl)
each_op (op.Shift x) = (head.Shift, x, refl)
each_op op.Root = (head.Root, tt, refl)
each_op (op.Scalar o) = (head.Scalar o, tt, refl)
each_op op.Aeq = (head.Aeq, tt, refl)
each_op (op.GetStatic x) = (head.GetStatic, x, refl)
each_op (op.PutStatic x) = (head.PutStatic, x, refl)
each_op (op.GetField x) = (head.GetField, x, refl)
each_op (op.PutField x) = (head.PutField, x, refl)
each_op (op.Load x) = (head.Load, x, refl)
each_op (op.Store x) = (head.Store, x, refl)
each_op op.Length = (head.Length, tt, refl)
each_op (op.CallEnd x) = (head.CallEnd, x, refl)
each_op (op.CallRes x) = (head.CallRes, x, refl)
each_op (op.CallFault x) = (head.CallFault, x, refl)
each_op (op.CallHeap x) = (head.CallHeap, x, refl)
each_op (op.Var j s) = (head.Var, (j, s), refl)

pub op_spelled : (h : Head) (x : (op_case h).Held) → op_words ((op_case h).make x) ≡ head_name h ∷ (op_case h).words.spells x
op_spelled head.Int x = refl
op_spelled _ x = refl

pub op_fits : (h : Head) (x : (op_case h).Held) → OpFits ((op_case h).make x) → (op_case h).words.fits x
op_fits head.Int x fits = fits
op_fits _ x fits = fits

pub op_fitted : (h : Head) (x : (op_case h).Held) → (op_case h).words.fits x → OpFits ((op_case h).make x)
op_fitted head.Int x fits = fits
op_fitted _ x fits = fits

abbrev pub op_phrase : Phrase Op
op_phrase = choice head_token op_case OpFits op_words (record { each = each_op; known = λ h. tt; spelled = op_spelled; fitting = op_fits; fitted = op_fitted })

-- the operation whose parameters stand at the front
abbrev pub params_of : Head → List (List ℕ) → Option (Op × List (List ℕ))
params_of head.Int words = made op.Int int.takes words
params_of h words = made (op_case h).make (op_case h).words.takes words

pub params_are : (h : Head) (words : List (List ℕ)) → params_of h words ≡ made (op_case h).make (op_case h).words.takes words
params_are head.Int words = refl
params_are _ words = refl
