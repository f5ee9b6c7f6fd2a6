-- The names of operations, and the words of their parameters that are one of a few.
use Rattle.std.specs.Prelude.{◌≡◌, ℕ, List, [], ◌∷◌, Some, codes, refl}
use Rattle.pv_value.specs.declared.operation.ScalarOp.{ScalarOp}
use Rattle.pv_value.specs.declared.operation.ScalarOp.TheVariants as scalar
use Rattle.pv_value.specs.declared.heap.Kind.{Kind}
use Rattle.pv_value.specs.declared.heap.Kind.TheVariants as kind
use Rattle.pv_graph.specs.declared.node.OpSort.{OpSort}
use Rattle.pv_graph.specs.declared.node.OpSort.TheVariants as sort
use Rattle.pv_format.specs.Reading.{find_named}
use Rattle.pv_format.specs.Combinators.{named}
use Rattle.pv_token.specs.Words.{Token, IsWord}
use Rattle.pv_cert.specs.declared.table.Row.{Row}
use Rattle.pv_cert.specs.declared.table.Row.TheVariants as row
use Rattle.pv_cert.specs.declared.table.Head.{Head}
use Rattle.pv_cert.specs.declared.table.Head.TheVariants as head

abbrev pub scalar_name : ScalarOp → List ℕ
scalar_name scalar.Iadd = codes "iadd"
scalar_name scalar.Isub = codes "isub"
scalar_name scalar.Imul = codes "imul"
scalar_name scalar.Idiv = codes "idiv"
scalar_name scalar.Irem = codes "irem"
scalar_name scalar.Ishl = codes "ishl"
scalar_name scalar.Ishr = codes "ishr"
scalar_name scalar.Iushr = codes "iushr"
scalar_name scalar.Iand = codes "iand"
scalar_name scalar.Ior = codes "ior"
scalar_name scalar.Ixor = codes "ixor"
scalar_name scalar.Ieq = codes "ieq"
scalar_name scalar.Ilt = codes "ilt"
scalar_name scalar.Ineg = codes "ineg"
scalar_name scalar.I2b = codes "i2b"
scalar_name scalar.I2c = codes "i2c"
scalar_name scalar.I2s = codes "i2s"
scalar_name scalar.I2l = codes "i2l"
scalar_name scalar.Ladd = codes "ladd"
scalar_name scalar.Lsub = codes "lsub"
scalar_name scalar.Lmul = codes "lmul"
scalar_name scalar.Ldiv = codes "ldiv"
scalar_name scalar.Lrem = codes "lrem"
scalar_name scalar.Lshl = codes "lshl"
scalar_name scalar.Lshr = codes "lshr"
scalar_name scalar.Lushr = codes "lushr"
scalar_name scalar.Land = codes "land"
scalar_name scalar.Lor = codes "lor"
scalar_name scalar.Lxor = codes "lxor"
scalar_name scalar.Leq = codes "leq"
scalar_name scalar.Lcmp = codes "lcmp"
scalar_name scalar.Lneg = codes "lneg"
scalar_name scalar.L2i = codes "l2i"

abbrev pub head_name : Head → List ℕ
head_name head.Int = codes "int"
head_name head.Long = codes "long"
head_name head.Null = codes "null"
head_name head.Literal = codes "literal"
head_name head.Param = codes "param"
head_name head.This = codes "this"
head_name head.Heap0 = codes "heap0"
head_name head.Unit = codes "unit"
head_name head.Never = codes "never"
head_name head.Clear = codes "clear"
head_name head.FNull = codes "fnull"
head_name head.FArith = codes "farith"
head_name head.FIndex = codes "findex"
head_name head.Zero = codes "zero"
head_name head.Succ = codes "succ"
head_name head.Thrown = codes "thrown"
head_name head.IsClear = codes "isclear"
head_name head.Both = codes "both"
head_name head.Phi = codes "phi"
head_name head.Theta = codes "theta"
head_name head.Eval = codes "eval"
head_name head.Pass = codes "pass"
head_name head.Shift = codes "shift"
head_name head.Root = codes "root"
head_name (head.Scalar o) = scalar_name o
head_name head.Aeq = codes "aeq"
head_name head.GetStatic = codes "getstatic"
head_name head.PutStatic = codes "putstatic"
head_name head.GetField = codes "getfield"
head_name head.PutField = codes "putfield"
head_name head.Load = codes "load"
head_name head.Store = codes "store"
head_name head.Length = codes "length"
head_name head.CallEnd = codes "callend"
head_name head.CallRes = codes "callres"
head_name head.CallFault = codes "callfault"
head_name head.CallHeap = codes "callheap"
head_name head.Var = codes "var"

abbrev pub sort_name : OpSort → List ℕ
sort_name sort.I = codes "I"
sort_name sort.L = codes "L"
sort_name sort.A = codes "A"
sort_name sort.N = codes "N"
sort_name sort.F = codes "F"
sort_name sort.T = codes "T"
sort_name sort.H = codes "H"
sort_name sort.R = codes "R"

-- `Byte` is also the kind of booleans
abbrev pub kind_name : Kind → List ℕ
kind_name kind.Int = codes "Int"
kind_name kind.Long = codes "Long"
kind_name kind.Ref = codes "Ref"
kind_name kind.Byte = codes "Byte"
kind_name kind.Char = codes "Char"
kind_name kind.Short = codes "Short"

-- the first word of a step
abbrev pub row_name : Row → List ℕ
row_name row.Node = codes "node"
row_name row.Axiom = codes "axiom"
row_name row.Use = codes "use"
row_name row.Flip = codes "flip"
row_name row.Chain = codes "chain"
row_name row.Set = codes "set"
row_name row.Open = codes "open"
row_name row.Close = codes "close"
row_name row.Assume = codes "assume"
row_name row.Finish = codes "finish"

abbrev pub heads : List Head
heads =
    head.Int
    ∷ head.Long
    ∷ head.Null
    ∷ head.Literal
    ∷ head.Param
    ∷ head.This
    ∷ head.Heap0
    ∷ head.Unit
    ∷ head.Never
    ∷ head.Clear
    ∷ head.FNull
    ∷ head.FArith
    ∷ head.FIndex
    ∷ head.Zero
    ∷ head.Succ
    ∷ head.Thrown
    ∷ head.IsClear
    ∷ head.Both
    ∷ head.Phi
    ∷ head.Theta
    ∷ head.Eval
    ∷ head.Pass
    ∷ head.Shift
    ∷ head.Root
    ∷ head.Scalar scalar.Iadd
    ∷ head.Scalar scalar.Isub
    ∷ head.Scalar scalar.Imul
    ∷ head.Scalar scalar.Idiv
    ∷ head.Scalar scalar.Irem
    ∷ head.Scalar scalar.Ishl
    ∷ head.Scalar scalar.Ishr
    ∷ head.Scalar scalar.Iushr
    ∷ head.Scalar scalar.Iand
    ∷ head.Scalar scalar.Ior
    ∷ head.Scalar scalar.Ixor
    ∷ head.Scalar scalar.Ieq
    ∷ head.Scalar scalar.Ilt
    ∷ head.Scalar scalar.Ineg
    ∷ head.Scalar scalar.I2b
    ∷ head.Scalar scalar.I2c
    ∷ head.Scalar scalar.I2s
    ∷ head.Scalar scalar.I2l
    ∷ head.Scalar scalar.Ladd
    ∷ head.Scalar scalar.Lsub
    ∷ head.Scalar scalar.Lmul
    ∷ head.Scalar scalar.Ldiv
    ∷ head.Scalar scalar.Lrem
    ∷ head.Scalar scalar.Lshl
    ∷ head.Scalar scalar.Lshr
    ∷ head.Scalar scalar.Lushr
    ∷ head.Scalar scalar.Land
    ∷ head.Scalar scalar.Lor
    ∷ head.Scalar scalar.Lxor
    ∷ head.Scalar scalar.Leq
    ∷ head.Scalar scalar.Lcmp
    ∷ head.Scalar scalar.Lneg
    ∷ head.Scalar scalar.L2i
    ∷ head.Aeq
    ∷ head.GetStatic
    ∷ head.PutStatic
    ∷ head.GetField
    ∷ head.PutField
    ∷ head.Load
    ∷ head.Store
    ∷ head.Length
    ∷ head.CallEnd
    ∷ head.CallRes
    ∷ head.CallFault
    ∷ head.CallHeap
    ∷ head.Var
    ∷ []

abbrev pub sorts : List OpSort
sorts = sort.I ∷ sort.L ∷ sort.A ∷ sort.N ∷ sort.F ∷ sort.T ∷ sort.H ∷ sort.R ∷ []

abbrev pub kinds : List Kind
kinds = kind.Int ∷ kind.Long ∷ kind.Ref ∷ kind.Byte ∷ kind.Char ∷ kind.Short ∷ []

abbrev pub rows : List Row
rows = row.Node ∷ row.Axiom ∷ row.Use ∷ row.Flip ∷ row.Chain ∷ row.Set ∷ row.Open ∷ row.Close ∷ row.Assume ∷ row.Finish ∷ []

-- ---- as words

pub head_rows : (h : Head) → (find_named head_name heads (head_name h) ≡ Some h) × IsWord (head_name h)
head_rows head.Int = (refl, refl)
head_rows (head.Scalar scalar.Iadd) = (refl, refl)
head_rows _ = (refl, refl)

abbrev pub head_token : Token Head
head_token = named head_name heads head_rows

pub sort_rows : (s : OpSort) → (find_named sort_name sorts (sort_name s) ≡ Some s) × IsWord (sort_name s)
sort_rows sort.I = (refl, refl)
sort_rows _ = (refl, refl)

abbrev pub sort_token : Token OpSort
sort_token = named sort_name sorts sort_rows

pub kind_rows : (k : Kind) → (find_named kind_name kinds (kind_name k) ≡ Some k) × IsWord (kind_name k)
kind_rows kind.Int = (refl, refl)
kind_rows _ = (refl, refl)

abbrev pub kind_token : Token Kind
kind_token = named kind_name kinds kind_rows

pub row_rows : (r : Row) → (find_named row_name rows (row_name r) ≡ Some r) × IsWord (row_name r)
row_rows row.Node = (refl, refl)
row_rows _ = (refl, refl)

abbrev pub row_token : Token Row
row_token = named row_name rows row_rows
