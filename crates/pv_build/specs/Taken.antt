-- What is taken out of loops, the innermost first; private to this crate.
use Rattle.std.specs.Prelude.{◌≡◌, ℕ, zero, suc, ◌<◌, true, List, [], ◌∷◌, Some}
use Rattle.std.specs.List.{AllZip, AllByRecursion}
use Rattle.pv_graph.specs.declared.node.Node.{Node}
use Rattle.pv_graph.specs.declared.node.OpSort.TheVariants.{I, T}
use Rattle.pv_graph.specs.Ops.{is_depth}
use Rattle.pv_graph.specs.Graphs.{Graph}
use Rattle.pv_equations.specs.Exp.{Exp}
use Rattle.pv_equations.specs.Flow.{Flow}
use Rattle.pv_equations.specs.Equations.{Values, outs, token_out}
use Rattle.pv_terms.specs.declared.names.Named.{Named}
use Rattle.pv_terms.specs.Reads.{Reads}
use Rattle.pv_terms.specs.Terms.{IsOfSort}
use Rattle.pv_terms.specs.Laws.{depths, Making}
use Rattle.pv_block.specs.declared.ran.Leaving.{Leaving}
use Rattle.pv_block.specs.Ran.{slot_at}
use Rattle.pv_build.specs.declared.method.Closed.{Closed}

-- slots, taken out of the loop of a header; slot 0 is the token
abbrev pub out_slots : Values → Flow → ℕ → (ℕ → Exp) → ℕ → Exp
out_slots v f h slots zero = token_out v f h (slots 0)
out_slots v f h slots (suc s) = v.out h (slots (suc s))

abbrev pub outs_slots : Values → Flow → List ℕ → (ℕ → Exp) → ℕ → Exp
outs_slots v f [] slots = slots
outs_slots v f (h ∷ F) slots = outs_slots v f F (out_slots v f h slots)

-- the node of each slot stands for what `slots` has
abbrev pub ReadsExit : List Node → List Named → Leaving → (ℕ → Exp) → Type 0
ReadsExit nodes names x slots = (s n : ℕ) → slot_at x s ≡ Some n → Reads nodes names n (slots s)

-- for a solution of the equations of a flow, the nodes of a closed loop stand for what they are in the equations, and all names of
-- deeper loops have their kids
pub record IsLeft (f : Flow) (v : Values) (nodes : List Node) (names : List Named) (h : ℕ) (c : Closed) : Type 0 where
  pub outer : List ℕ
  pub around_ : f.around h ≡ h ∷ outer
  pub depth : depths f h ≡ c.depth
  pub making : Making f v nodes names c.depth
  pub enters : Reads nodes names c.token (v.entering h 0)
  pub ends : Reads nodes names c.ending (v.ending h)

abbrev pub AreLeft : Flow → Values → List Node → List Named → List ℕ → List Closed → Type 0
AreLeft f v nodes names F left = AllZip (IsLeft f v nodes names) F left

-- the depth of a closed loop may be one, and its nodes have their sorts
pub record IsSortedLoop (g : Graph) (c : Closed) : Type 0 where
  pub depth : is_depth c.depth ≡ true
  pub token : IsOfSort g c.token T
  pub ending : IsOfSort g c.ending I

abbrev pub AreSortedLoops : Graph → List Closed → Type 0
AreSortedLoops g left = AllByRecursion (IsSortedLoop g) left

-- all are deeper than d
abbrev pub AreDeeper : ℕ → List Closed → Type 0
AreDeeper d left = AllByRecursion (λ (c : Closed). d < c.depth) left

-- y is the exit x, taken out of one loop
abbrev pub ReadsOutOf : Graph → Closed → Leaving → Graph → Leaving → Type 0
ReadsOutOf old c x new y = (f : Flow) (v : Values) (names : List Named) (h : ℕ) (slots : ℕ → Exp) → IsLeft f v old.nodes names h c → ReadsExit old.nodes names x slots → ReadsExit new.nodes names y (out_slots v f h slots)

-- .. out of loops
abbrev pub ReadsOutOfAll : Graph → List Closed → Leaving → Graph → Leaving → Type 0
ReadsOutOfAll old left x new y = (f : Flow) (v : Values) (names : List Named) (F : List ℕ) (slots : ℕ → Exp) → AreLeft f v old.nodes names F left → ReadsExit old.nodes names x slots → ReadsExit new.nodes names y (outs_slots v f F slots)

-- r is the value n, taken out of loops
abbrev pub ReadsValueOut : Graph → List Closed → ℕ → Graph → ℕ → Type 0
ReadsValueOut old left n new r = (f : Flow) (v : Values) (names : List Named) (F : List ℕ) (x : Exp) → AreLeft f v old.nodes names F left → Reads old.nodes names n x → Reads new.nodes names r (outs v F x)
