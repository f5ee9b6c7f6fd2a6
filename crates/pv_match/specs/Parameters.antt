-- The parameters of a match: what its left side names stands for, in the order in which it names it.
use Rattle.std.specs.Prelude.{Bool, false, ◌||◌, List, [], ◌∷◌, ◌++◌, flat_map, if◌then◌else◌}
use Rattle.pv_value.specs.declared.number.Num.{Num}
use Rattle.pv_value.specs.declared.number.Num.TheVariants as num
use Rattle.pv_graph.specs.declared.node.Op.{Op}
use Rattle.pv_graph.specs.declared.node.Op.TheVariants as op
use Rattle.pv_pattern.specs.declared.names.NameId.{NameId}
use Rattle.pv_pattern.specs.declared.names.NameId.TheVariants.{Depth, Symbol, Kind, Constant, Operation}
use Rattle.pv_pattern.specs.Patterns.{Pattern}
use Rattle.pv_pattern.specs.Instances.{Names}
use Rattle.pv_pattern.specs.Binding.{names}
use Rattle.pv_pattern.specs.Found.{same_name}
use Rattle.pv_match.specs.declared.found.Param.{Param}
use Rattle.pv_match.specs.declared.found.Param.TheVariants as param

-- the parameter of an operation
abbrev pub params_in : Op → List Param
params_in (op.Int c) = param.Int c ∷ []
params_in (op.Long c) = param.Long c ∷ []
params_in (op.Theta d) = param.Depth d ∷ []
params_in (op.Eval d) = param.Depth d ∷ []
params_in (op.Pass d) = param.Depth d ∷ []
params_in (op.Shift d) = param.Depth d ∷ []
params_in (op.GetStatic s) = param.Symbol s ∷ []
params_in (op.PutStatic s) = param.Symbol s ∷ []
params_in (op.GetField s) = param.Symbol s ∷ []
params_in (op.PutField s) = param.Symbol s ∷ []
params_in (op.Load k) = param.Kind k ∷ []
params_in (op.Store k) = param.Kind k ∷ []
params_in (op.CallEnd s) = param.Symbol s ∷ []
params_in (op.CallRes s) = param.Symbol s ∷ []
params_in (op.CallFault s) = param.Symbol s ∷ []
params_in (op.CallHeap s) = param.Symbol s ∷ []
params_in o = []

abbrev pub number_param : Num → List Param
number_param (num.Int c) = param.Int c ∷ []
number_param (num.Long c) = param.Long c ∷ []
number_param n = []

-- what a name stands for, as parameters; the operation of a family by its own parameter
abbrev pub name_params : Names → NameId → List Param
name_params m Depth = param.Depth m.depth ∷ []
name_params m (Symbol s) = param.Symbol (m.symbols s) ∷ []
name_params m (Kind k) = param.Kind (m.kinds k) ∷ []
name_params m (Constant j) = number_param (m.constants j)
name_params m Operation = params_in m.op_

abbrev pub is_among : List NameId → NameId → Bool
is_among [] n = false
is_among (m ∷ ms) n = same_name m n || is_among ms n

-- the names after others, each once, at its first place
abbrev pub once_more : List NameId → List NameId → List NameId
once_more seen [] = seen
once_more seen (n ∷ ns) = once_more (if is_among seen n then seen else seen ++ n ∷ []) ns

-- the parameters in the order in which the left side names them
abbrev pub params_of : Names → Pattern → List Param
params_of m left = flat_map (name_params m) (once_more [] (names left))
