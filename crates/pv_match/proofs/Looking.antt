-- A finder that goes by what was looked up.
use Rattle.std.proofs.Common.{◌≡◌, ℕ, Bool, List, map, sym, ◌∙◌, subst}
use Rattle.pv_graph.specs.Graphs.{Graph, IsGraph}
use Rattle.pv_pattern.specs.declared.pattern.Axiom as declared
use Rattle.pv_pattern.specs.Seen.{axiom_seen}
use Rattle.pv_axioms.specs.Entries.{NumbersOnce}
use Rattle.pv_heights.specs.SameClasses.{IsCongruence}
use Rattle.pv_heights.specs.Searches.{nodes, IsNode, OneClass, base_view}
use Rattle.pv_marks.specs.Marks.{AreNodeMarks, AreClassMarks}
use Rattle.pv_match.specs.declared.all.Lookups.{Lookups}
use Rattle.pv_match.specs.declared.finder.Finder.{Finder}
use Rattle.pv_match.specs.declared.found.Match.{Match}
use Rattle.pv_match.specs.declared.found.Matches.{Matches}
use Rattle.pv_match.specs.declared.members.Group.{Group}
use Rattle.pv_match.specs.AllMatches.{IsAnswer}
use Rattle.pv_match.specs.Bindings.{IsMembers}
use Rattle.pv_match.specs.Finding.{IsReady, HasFound, HasFoundAll, AreLookups, IsFinderBy}
use Rattle.pv_match.specs.Gathering.{IsFound, IsFoundAll}
use Rattle.pv_match.specs.Reading.{AreReadable}
use Rattle.pv_match.specs.Rematching.{CanTakeOver}
use Rattle.pv_match.specs.Rules.{AreRules, AreItems}
use Rattle.pv_match.proofs.Answering.{answer_by, answer_of}

module _ (g : Graph) (numbers base : List ℕ) (rows : List declared.Axiom) (limit : ℕ) (l : Lookups) (f : Finder) (are : AreLookups g numbers base (map axiom_seen rows) l) (by : IsFinderBy l g rows limit f) where
  pub finder_ready : AreReadable (map axiom_seen rows) → IsReady f
  finder_ready readable = record {
    graph = subst (λ (h : Graph). IsGraph h) (sym by.graph) are.least.graph;
    members = subst (λ (h : Graph). IsMembers h f.reader.numbers.now f.reader.members.now.groups.items) (sym by.graph)
        (subst (λ (ns : List ℕ). IsMembers g ns f.reader.members.now.groups.items) (sym (by.numbers_ ∙ are.numbers_)) (subst (IsMembers g numbers) (sym by.members) are.members));
    readable = subst (λ (t : List declared.Axiom). AreReadable (map axiom_seen t)) (sym by.table_) readable;
    rules = subst (λ (t : List declared.Axiom). AreRules (map axiom_seen t) f.rules.now) (sym by.table_) (subst (AreRules (map axiom_seen rows)) (sym by.rules) are.rules);
  }

  marks_here : (ends : List ℕ) → AreNodeMarks g ends base → AreClassMarks f.reader.graph.now f.reader.numbers.now ends f.marks.now
  marks_here ends base_marks =
      subst (λ (h : Graph). AreClassMarks h f.reader.numbers.now ends f.marks.now) (sym by.graph)
      (subst (λ (ns : List ℕ). AreClassMarks g ns ends f.marks.now) (sym (by.numbers_ ∙ are.numbers_)) (subst (AreClassMarks g numbers ends) (sym by.marks_) (are.marks_ ends base_marks)))

  -- what is said of the finder's graph, class numbers, axioms and limit is said of these
  moved : (P : Graph → List ℕ → List declared.Axiom → ℕ → Type 0) → P f.reader.graph.now f.reader.numbers.now f.table.now f.limit → P g numbers rows limit
  moved P h =
      subst (λ (x : Graph). P x numbers rows limit) by.graph
      (subst (λ (x : List ℕ). P f.reader.graph.now x rows limit) (by.numbers_ ∙ are.numbers_) (subst (λ (x : List declared.Axiom). P f.reader.graph.now f.reader.numbers.now x limit) by.table_ (subst (λ (x : ℕ). P f.reader.graph.now f.reader.numbers.now f.table.now x) by.limit_ h)))

  moved_back : (P : Graph → List ℕ → List declared.Axiom → Type 0) → P g numbers rows → P f.reader.graph.now f.reader.numbers.now f.table.now
  moved_back P h =
      subst (λ (x : Graph). P x f.reader.numbers.now f.table.now) (sym by.graph)
      (subst (λ (x : List ℕ). P g x f.table.now) (sym (by.numbers_ ∙ are.numbers_)) (subst (λ (x : List declared.Axiom). P g numbers x) (sym by.table_) h))

  module _ (congruence : IsCongruence (base_view g) (nodes g) (IsNode g) (OneClass numbers)) (readable : AreReadable (map axiom_seen rows)) (once : NumbersOnce (map axiom_seen rows)) (ends : List ℕ) (base_marks : AreNodeMarks g ends base) (answer : Matches) where
    pub answer_at : (kept : List Bool) (rules : List Group) (items : List ℕ) → kept ≡ l.kept.items → rules ≡ l.rules.items → AreItems g.nodes kept rules items → HasFound f items answer → IsAnswer g numbers ends (map axiom_seen rows) limit answer
    answer_at kept rules items e d w has =
        answer_of g numbers ends (map axiom_seen rows) are.least congruence readable once l.kept.items l.rules.items items limit answer are.kept are.rules
        (subst (λ (ks : List Bool). AreItems g.nodes ks l.rules.items items) e (subst (λ (rs : List Group). AreItems g.nodes kept rs items) d w))
        (moved (λ h ns t k. IsFound h ns ends (map axiom_seen t) k items answer) (has ends (marks_here ends base_marks)))

    pub answer_beside : (known : List Match) (items : List ℕ) → CanTakeOver g numbers ends (map axiom_seen rows) known items → HasFoundAll f items known answer → IsAnswer g numbers ends (map axiom_seen rows) limit answer
    answer_beside known items can has =
        answer_by g numbers ends (map axiom_seen rows) are.least congruence readable once limit answer
        (moved (λ h ns t k. IsFoundAll h ns ends (map axiom_seen t) k answer) (has ends (marks_here ends base_marks) (moved_back (λ h ns t. CanTakeOver h ns ends (map axiom_seen t) known items) can)))
