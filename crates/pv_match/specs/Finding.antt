-- What a finder is given, and what it finds at some nodes.
use Rattle.std.specs.Prelude.{◌≡◌, ℕ, List, map}
use Rattle.pv_graph.specs.Graphs.{Graph, IsGraph}
use Rattle.pv_pattern.specs.declared.pattern.Axiom as declared
use Rattle.pv_pattern.specs.Patterns.{Axiom}
use Rattle.pv_pattern.specs.Seen.{axiom_seen}
use Rattle.pv_marks.specs.Marks.{AreNodeMarks, AreClassMarks}
use Rattle.pv_match.specs.declared.all.Lookups.{Lookups}
use Rattle.pv_match.specs.declared.finder.Finder.{Finder}
use Rattle.pv_match.specs.declared.found.Match.{Match}
use Rattle.pv_match.specs.declared.found.Matches.{Matches}
use Rattle.pv_match.specs.declared.gathered.Gathered.{Gathered}
use Rattle.pv_match.specs.Bindings.{IsMembers}
use Rattle.pv_match.specs.Reading.{AreReadable}
use Rattle.pv_match.specs.Rules.{AreRules}
use Rattle.pv_match.specs.Gathering.{Finds, IsFound, IsFoundAll}
use Rattle.pv_match.specs.Agreeing.{AreLeast}
use Rattle.pv_match.specs.Kept.{KeepsForms}
use Rattle.pv_match.specs.Rematching.{CanTakeOver}

-- its members are those of the classes, its axioms are read, and its rules are theirs
pub record IsReady (f : Finder) : Type 0 where
  pub graph : IsGraph f.reader.graph.now
  pub members : IsMembers f.reader.graph.now f.reader.numbers.now f.reader.members.now.groups.items
  pub readable : AreReadable (map axiom_seen f.table.now)
  pub rules : AreRules (map axiom_seen f.table.now) f.rules.now

-- where its marks are those of the classes, with some nodes assumed to end, this is gathered at the items
abbrev pub HasGathered : Finder → List ℕ → Gathered → Type 0
HasGathered f items got = (assumed : List ℕ) → AreClassMarks f.reader.graph.now f.reader.numbers.now assumed f.marks.now
    → Finds f.reader.graph.now f.reader.numbers.now assumed (map axiom_seen f.table.now) f.limit items got.is_over got.list.items

-- .. and this is the answer about them
abbrev pub HasFound : Finder → List ℕ → Matches → Type 0
HasFound f items answer = (assumed : List ℕ) → AreClassMarks f.reader.graph.now f.reader.numbers.now assumed f.marks.now
    → IsFound f.reader.graph.now f.reader.numbers.now assumed (map axiom_seen f.table.now) f.limit items answer

-- .. and all matches of the table, where these are known and the items were touched
abbrev pub HasFoundAll : Finder → List ℕ → List Match → Matches → Type 0
HasFoundAll f items known answer = (assumed : List ℕ) → AreClassMarks f.reader.graph.now f.reader.numbers.now assumed f.marks.now
    → CanTakeOver f.reader.graph.now f.reader.numbers.now assumed (map axiom_seen f.table.now) known items
    → IsFoundAll f.reader.graph.now f.reader.numbers.now assumed (map axiom_seen f.table.now) f.limit answer

-- ---- what a finder looks up

-- it is that of these classes and axioms, where these are the marks of the nodes of the base
pub record AreLookups (g : Graph) (numbers base : List ℕ) (table : List Axiom) (l : Lookups) : Type 0 where
  pub least : AreLeast g numbers
  pub numbers_ : l.numbers.items ≡ numbers
  pub kept : KeepsForms g numbers l.kept.items
  pub members : IsMembers g numbers l.members.groups.items
  pub marks_ : (assumed : List ℕ) → AreNodeMarks g assumed base → AreClassMarks g numbers assumed l.marks.items
  pub rules : AreRules table l.rules.items

-- a finder of the matches of these axioms that goes by it
pub record IsFinderBy (l : Lookups) (g : Graph) (table : List declared.Axiom) (limit : ℕ) (f : Finder) : Type 0 where
  pub graph : f.reader.graph.now ≡ g
  pub numbers_ : f.reader.numbers.now ≡ l.numbers.items
  pub members : f.reader.members.now.groups.items ≡ l.members.groups.items
  pub marks_ : f.marks.now ≡ l.marks.items
  pub table_ : f.table.now ≡ table
  pub rules : f.rules.now ≡ l.rules.items
  pub limit_ : f.limit ≡ limit
