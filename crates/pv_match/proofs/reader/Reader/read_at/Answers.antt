use Rattle.std.proofs.Common.{ℕ, List, Vec, Option, MatchOption, length, map, sym, ap, ◌∙◌, subst}
use Rattle.std.specs.declared.alloc.Global.{Global}
use Rattle.pv_graph.specs.Graphs.{form_at}
use Rattle.pv_pattern.specs.Patterns.{over, variables_of}
use Rattle.pv_pattern.specs.Binding.{names_in}
use Rattle.pv_pattern.specs.Found.{kids_of}
use Rattle.pv_pattern.specs.Seen.{head_seen, listed, seen}
use Rattle.pv_marks.specs.Classes.{class_of}
use Rattle.pv_match.specs.declared.binding.Binding.{Binding}
use Rattle.pv_match.specs.Standing.{AllStandIn}
use Rattle.pv_match.specs.Bindings.{AddsWhere, BindsHead, NeverBindsHead}
use Rattle.pv_match.specs.Reading.{reads_all}
use Rattle.pv_match.specs.Finishing.{AreReadAt}
use Rattle.pv_match.proofs.Finish.{read_some, read_none}
use Rattle.pv_match.proofs.reader.Reader.read_at.Goals as goal
use Rattle.pv_match.proofs.reader.Reader.read_at.Goals.{in-Some+in_ok-extend_all, in_default}

pub returns : goal.returns
returns c = elim c.match-branch-2.branch [
  | in-Some+in_ok-extend_all w ↦
      subst (λ (bs : List Binding). AreReadAt c.args.self.now.graph.now c.args.self.now.numbers.now (over (head_seen c.args.head) (listed (map seen c.args.patterns.now))) c.args.n bs) (sym (ap (λ (v : Vec Binding Global). v.items) w.found-is))
      (read_some c.args.self.now.graph.now c.args.self.now.numbers.now (head_seen c.args.head) (listed (map seen c.args.patterns.now)) c.args.n c.empty.result w.in-Some.b w.extend_all.new.found.items c.empty.ensures
      (subst (λ (o : Option Binding). MatchOption o (NeverBindsHead c.args.self.now.graph.now c.args.self.now.numbers.now c.empty.result (head_seen c.args.head) c.args.n) (λ new. BindsHead c.args.self.now.graph.now c.args.self.now.numbers.now c.empty.result (head_seen c.args.head) c.args.n new)) w.in-Some.is c.in_ok-b.ensures) c.requires.read
      (subst (λ (old : List Binding). AddsWhere c.args.self.now.graph.now c.args.self.now.numbers.now old w.extend_all.new.found.items w.in-Some.b (λ m. AllStandIn c.args.self.now.graph.now c.args.self.now.numbers.now m (listed (map seen c.args.patterns.now)) (map (class_of c.args.self.now.numbers.now) (kids_of (form_at c.args.self.now.graph.now.nodes c.args.n)))) (names_in (listed (map seen c.args.patterns.now))) (reads_all (length w.in-Some.b.vars.items) (listed (map seen c.args.patterns.now)))) c.new-found.ensures.items
      (subst (λ (ks : List ℕ). AddsWhere c.args.self.now.graph.now c.args.self.now.numbers.now c.new-found.result.items w.extend_all.new.found.items w.in-Some.b (λ m. AllStandIn c.args.self.now.graph.now c.args.self.now.numbers.now m (listed (map seen c.args.patterns.now)) (map (class_of c.args.self.now.numbers.now) ks)) (names_in (listed (map seen c.args.patterns.now))) (reads_all (length w.in-Some.b.vars.items) (listed (map seen c.args.patterns.now)))) w.kids_at.ensures w.in_ok-extend_all.ensures)))
  | in_default w ↦
      subst (λ (bs : List Binding). AreReadAt c.args.self.now.graph.now c.args.self.now.numbers.now (over (head_seen c.args.head) (listed (map seen c.args.patterns.now))) c.args.n bs) (sym (ap (λ (v : Vec Binding Global). v.items) w.found-is ∙ c.new-found.ensures.items))
      (read_none c.args.self.now.graph.now c.args.self.now.numbers.now (head_seen c.args.head) (listed (map seen c.args.patterns.now)) c.args.n c.empty.result c.empty.ensures
      (subst (λ (o : Option Binding). MatchOption o (NeverBindsHead c.args.self.now.graph.now c.args.self.now.numbers.now c.empty.result (head_seen c.args.head) c.args.n) (λ new. BindsHead c.args.self.now.graph.now c.args.self.now.numbers.now c.empty.result (head_seen c.args.head) c.args.n new)) w.in_default.is c.in_ok-b.ensures))
]

pub extend_all-requires-clause-read : goal.extend_all-requires-clause-read
extend_all-requires-clause-read c =
    let binds : BindsHead c.args.self.now.graph.now c.args.self.now.numbers.now c.empty.result (head_seen c.args.head) c.args.n c.in-Some.b = subst (λ (o : Option Binding). MatchOption o (NeverBindsHead c.args.self.now.graph.now c.args.self.now.numbers.now c.empty.result (head_seen c.args.head) c.args.n) (λ new. BindsHead c.args.self.now.graph.now c.args.self.now.numbers.now c.empty.result (head_seen c.args.head) c.args.n new)) c.in-Some.is c.in_ok-b.ensures in
    (variables_of (listed (map seen c.args.patterns.now)), ap (λ (xs : List ℕ). reads_all (length xs) (listed (map seen c.args.patterns.now))) (binds.vars ∙ c.empty.ensures.vars) ∙ c.requires.read)
