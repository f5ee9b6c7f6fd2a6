-- What a search keeps of its last round.
use Rattle.std.specs.Prelude.{◌≡◌, ℕ, List}
use Rattle.pv_graph.specs.Walks.{In}
use Rattle.pv_graph.specs.Graphs.{Graph}
use Rattle.pv_marks.specs.Marks.{AreNodeMarks, AreClassMarks}
use Rattle.pv_match.specs.declared.found.Match.{Match}
use Rattle.pv_match.specs.Orders.{AreOne}
use Rattle.pv_touched.specs.Earlier.{Look}
use Rattle.pv_rounds.specs.declared.last.Last.{Last}

-- it as a look
abbrev pub look_in : Last → Look
look_in l = record { numbers = l.numbers.items; marks_ = l.marks.items; known = l.list.items }

-- the same matches
pub record AreCopies (list copies : List Match) : Type 0 where
  pub each : (y : Match) → In copies y → (x : Match) × In list x × AreOne y x
  pub all : (x : Match) → In list x → (y : Match) × In copies y × AreOne y x

-- these matches, with these class numbers, and with the marks of the classes where these are the marks of the nodes of the base
pub record Keeps (g : Graph) (numbers base : List ℕ) (list : List Match) (l : Last) : Type 0 where
  pub list_ : AreCopies list l.list.items
  pub numbers_ : l.numbers.items ≡ numbers
  pub marks_ : (assumed : List ℕ) → AreNodeMarks g assumed base → AreClassMarks g numbers assumed l.marks.items
