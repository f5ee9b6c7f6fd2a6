-- What a whole table of witnesses is.
use Rattle.std.specs.Prelude.{◌≡◌, ℕ, Bool, List, length, Option}
use Rattle.std.proofs.Common.{inl, inr, sym, ◌∙◌, arith}
use Rattle.pv_graph.specs.Graphs.{Graph}
use Rattle.pv_witness.specs.declared.condition.Condition.{Condition}
use Rattle.pv_marks.specs.Classes.{class_of}
use Rattle.pv_witness.specs.Numbered.{AreNumbered, numbered}
use Rattle.pv_witness.specs.Supports.{AreAllSupports}
use Rattle.pv_witness.specs.Witnesses.{AreWitnesses}
use Rattle.pv_witness.specs.Table.{AreWitnessed}
use Rattle.pv_witness.proofs.Numbering.{numbered_long}
use Rattle.pv_witness.proofs.Complete.{covered}

pub all_witnesses : (old new : Graph) (numbers : List ℕ) (k : Condition) (starts : List Bool) (list : List ℕ) (table : List (Option ℕ)) → AreNumbered old numbers → AreAllSupports (numbered old numbers) numbers k starts list
    → AreWitnessed (numbered old numbers) old new numbers k starts list table → AreWitnesses (numbered old numbers) old new numbers k starts table
all_witnesses old new numbers k starts list table is all w = record {
  grows = record {
    extends_ = w.kept;
    sealed = w.grows.sealed;
    base = w.grows.base;
    news = λ n low high. elim (w.grows.news n (omega (arith, low, same, is.few)) high) [ inl before ↦ absurd (omega (arith, low, before)) | inr copied ↦ copied ];
  };
  distinct = w.distinct;
  long = w.long ∙ same;
  each = w.each;
  hold = λ view assumed known c v e. w.has assumed c v known.hold e;
  all = λ view assumed known n holds. w.all (class_of numbers n) (covered view assumed (numbered old numbers) numbers starts list (sym same) k known all n holds);
}
  where
    same : length (numbered old numbers).nodes ≡ length numbers
    same = numbered_long old numbers is
