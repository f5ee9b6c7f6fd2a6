-- What is known of an earlier look at the matches of a table.
use Rattle.std.specs.Prelude.{◌≡◌, ℕ, ◌<◌, List, length}
use Rattle.pv_graph.specs.Graphs.{Graph, IsGraph, Extends}
use Rattle.pv_pattern.specs.Patterns.{Axiom}
use Rattle.pv_marks.specs.Classes.{class_of}
use Rattle.pv_marks.specs.Marks.{AreClassMarks}
use Rattle.pv_match.specs.declared.found.Match.{Match}
use Rattle.pv_match.specs.Agreeing.{AreLeast}
use Rattle.pv_match.specs.Rematching.{AreKnown}
use Rattle.pv_touched.specs.declared.since.Since.{Since}

-- what was seen at a look: the number of each node's class, the mark of each class, and all matches
pub record Look : Type 0 where
  pub numbers : List ℕ
  pub marks_ : List ℕ
  pub known : List Match

abbrev pub look_of : Since → List Match → Look
look_of s known = record { numbers = s.old_numbers.now; marks_ = s.old_marks.now; known = known }

-- this was seen of an earlier graph, from which that of now grew over the same base; since then classes were joined, and none was split
pub record WasSeen (earlier g : Graph) (numbers assumed : List ℕ) (table : List Axiom) (look : Look) : Type 0 where
  pub graph : IsGraph earlier
  pub grown : Extends earlier g
  pub base : g.base ≡ earlier.base
  pub least : AreLeast earlier look.numbers
  pub marks_ : AreClassMarks earlier look.numbers assumed look.marks_
  pub known_ : AreKnown earlier look.numbers assumed table look.known
  pub joined : (a b : ℕ) → a < length earlier.nodes → b < length earlier.nodes → class_of look.numbers a ≡ class_of look.numbers b → class_of numbers a ≡ class_of numbers b

-- the class numbers and the marks of now are those of the graph
pub record IsNow (g : Graph) (numbers assumed marks : List ℕ) : Type 0 where
  pub least : AreLeast g numbers
  pub marks_ : AreClassMarks g numbers assumed marks
