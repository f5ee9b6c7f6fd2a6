use Rattle.std.proofs.Common.{ℕ, List, None, refl, subst}
use Rattle.pv_marks.specs.Marks.{AreNodeMarks}
use Rattle.pv_rounds.proofs.Searching.{begun}
use Rattle.pv_rounds.proofs.search.Search.new.Goals as goal

pub returns : goal.returns
returns c = record {
  is = begun c.args.least.now (record { graph = c.in_ok-graph.graph; classes = c.induct.new.c; table = c.args.table; endings = c.args.endings; marks = c.in_ok-marks.marks; budget = c.args.budget; last = None }) c.in_ok-classes.classes c.in_ok-induct.field-0 c.requires.least c.in_ok-graph.ensures c.len-count.ensures.graph c.requires.table (subst (λ (es : List ℕ). AreNodeMarks c.args.least.now es c.in_ok-marks.marks.items) c.deref.ensures.value c.in_ok-marks.ensures) c.in_ok-classes.ensures c.in_ok-induct.ensures refl;
  first = c.in_ok-classes.classes;
  found = c.in_ok-induct.field-0;
  fresh = c.in_ok-classes.ensures;
  inducts = c.in_ok-induct.ensures;
  table_ = refl;
  endings_ = refl;
  budget_ = refl;
}
