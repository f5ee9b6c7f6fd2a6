-- What is asked of rules.
use Rattle.std.specs.Prelude.{ℕ, Bool, List}
use Rattle.pv_graph.specs.Graphs.{Graph}
use Rattle.pv_steps.specs.Right.{Instances, Rule}

-- an instance of a rule is one whether the graph is prepared or not
abbrev pub KeepPrepared : Instances → Type 0
KeepPrepared R = (g : Graph) (p : Bool) (assumed : List ℕ) (rule : Rule) (nodes : List ℕ) (a b : ℕ) → R g assumed rule nodes a b → R (record g { is_prepared = p }) assumed rule nodes a b
