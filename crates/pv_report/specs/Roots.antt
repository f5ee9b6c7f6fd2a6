-- The roots of two methods in one graph.
use Rattle.std.specs.Prelude.{ℕ}
use Rattle.pv_class.specs.declared.file.ClassFile.{ClassFile}
use Rattle.pv_class.specs.declared.file.Method.{Method}
use Rattle.pv_graph.specs.Graphs.{Graph, IsWellMade}
use Rattle.pv_graph.specs.Calls.{IsFinished}
use Rattle.pv_build.specs.Conversion.{IsRootOf}
use Rattle.pv_alike.specs.Least.{Rooted, IsLeastOf}

-- both methods have their roots in a graph
pub record HaveRoots (first : ClassFile) (m : Method) (second : ClassFile) (p : Method) : Type 0 where
  pub graph : Graph
  pub root : ℕ
  pub other : ℕ
  pub one : IsRootOf graph root first m
  pub two : IsRootOf graph other second p

-- a well-made graph in which no theta is left without kids
pub record IsWhole (g : Graph) : Type 0 where
  pub made : IsWellMade g
  pub finished : IsFinished g

-- the least graph of both roots
pub record HaveLeast (first : ClassFile) (m : Method) (second : ClassFile) (p : Method) (l : Rooted) : Type 0 where
  pub roots : HaveRoots first m second p
  pub least : IsLeastOf roots.graph roots.root roots.other l

-- .. of which this is so
abbrev pub OnLeast : ClassFile → Method → ClassFile → Method → (Rooted → Type 0) → Type 0
OnLeast first m second p Is = (l : Rooted) × HaveLeast first m second p l × Is l
