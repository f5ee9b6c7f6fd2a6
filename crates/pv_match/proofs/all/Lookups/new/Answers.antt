use Rattle.std.proofs.Common.{◌<◌, ℕ, List, sym, ◌∙◌, subst}
use Rattle.pv_marks.specs.Marks.{AreClassMarks}
use Rattle.pv_match.specs.Bindings.{IsMembers}
use Rattle.pv_match.specs.Kept.{KeepsForms}
use Rattle.pv_match.proofs.Forms.{firsts_keep}
use Rattle.pv_match.proofs.all.Lookups.new.Goals as goal

pub new-requires-clause-kept : goal.new-requires-clause-kept
new-requires-clause-kept c =
    subst (λ (ns : List ℕ). KeepsForms c.args.graph.now ns c.deref-2.result.now) (sym (c.deref.ensures.value ∙ c.in_ok-numbers.ensures))
    (subst (KeepsForms c.args.graph.now c.args.classes.now.numbers) (sym c.deref-2.ensures.value)
    (firsts_keep c.args.graph.now c.args.classes.now.numbers c.in_ok-kept.kept.items c.in_ok-kept.ensures))

pub returns : goal.returns
returns c =
    let g = c.args.graph.now in
    let numbers = c.args.classes.now.numbers in
    let long = c.requires.knows.long in
    record {
      least = record {
        graph = c.in_ok-members.ensures.graph;
        long = long;
        low = λ k l. c.len-count.ensures.classes.low k (subst (λ (m : ℕ). k < m) (sym long) l);
        least = λ k l. c.len-count.ensures.classes.least k (subst (λ (m : ℕ). k < m) (sym long) l);
      };
      numbers_ = c.in_ok-numbers.ensures;
      kept = firsts_keep g numbers c.in_ok-kept.kept.items c.in_ok-kept.ensures;
      members = subst (λ (ns : List ℕ). IsMembers g ns c.in_ok-members.members.groups.items) (c.deref.ensures.value ∙ c.in_ok-numbers.ensures) c.in_ok-members.ensures.members;
      marks_ = λ assumed base. subst (λ (ns : List ℕ). AreClassMarks g ns assumed c.in_ok-marks.marks.items) (c.deref-3.ensures.value ∙ c.in_ok-numbers.ensures) (c.in_ok-marks.ensures assumed base);
      rules = c.in_ok-rules.ensures;
    }
