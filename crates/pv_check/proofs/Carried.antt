-- A step is right over a graph whether the graph is prepared or not.
use Rattle.std.specs.Prelude.{ℕ, Bool, List, [], ◌∷◌}
use Rattle.std.specs.List.{AllZip}
use Rattle.pv_graph.specs.declared.node.Op.{Op}
use Rattle.pv_graph.specs.Graphs.{Graph}
use Rattle.pv_steps.specs.declared.step.Step.TheVariants as steps
use Rattle.pv_steps.specs.declared.step.Fact.{Fact}
use Rattle.pv_steps.specs.declared.step.Step.{Step}
use Rattle.pv_steps.specs.declared.step.Step.TheVariants.{Axiom, Use, Flip, Chain, Set, Open, Close, Assume, Finish}
use Rattle.pv_steps.specs.Steps.{OpenBlock, assumed_in, open_after}
use Rattle.pv_steps.specs.Right.{AddsNode, ClosesPair, Instances, RightOver, by_axiom, by_lemma}
use Rattle.pv_check.specs.Rules.{KeepPrepared}

abbrev pub prepared_as : Graph → Bool → Graph
prepared_as g p = record { nodes = g.nodes; sorts = g.sorts; is_open = g.is_open; base = g.base; is_prepared = p }

closes : (g : Graph) (p : Bool) (before : List Step) (d : ℕ) (inside outer : List OpenBlock) (pairs : List (ℕ × ℕ)) (fs : List (Fact × Fact)) → AllZip (ClosesPair g before d inside outer) pairs fs → AllZip (ClosesPair (prepared_as g p) before d inside outer) pairs fs
closes g p before d inside outer [] [] h = h
closes g p before d inside outer [] (f ∷ fs) h = absurd h
closes g p before d inside outer (q ∷ qs) [] h = absurd h
closes g p before d inside outer (q ∷ qs) (f ∷ fs) h = (
  let r = h.0 in record {
    zero_ = r.zero_;
    first_left = r.first_left;
    first_right = r.first_right;
    next_left = r.next_left;
    next_right = r.next_right;
    is_zero = r.is_zero;
    is_first_left = r.is_first_left;
    is_first_right = r.is_first_right;
    is_next_left = r.is_next_left;
    is_next_right = r.is_next_right;
    starts = r.starts;
    goes_on = r.goes_on;
  },
  closes g p before d inside outer qs fs h.1,
)

pub adds_same : (g new : Graph) (p : Bool) (n : ℕ) → (o : Op) (kids : List ℕ) → AddsNode g n o kids new → AddsNode (prepared_as g p) n o kids new
adds_same g new p n o kids a = record { number = a.number; room = a.room; smaller = a.smaller; fits = (a.fits.0, record { sorts = a.fits.1.sorts; kids_have = a.fits.1.kids_have; over = a.fits.1.over }); ranged = a.ranged; plain_ = a.plain_; absent = a.absent; grown = a.grown }

pub right_same : (R : Instances) → KeepPrepared R → (g : Graph) (p : Bool) (before : List Step) (s : Step) → RightOver R g before s → RightOver R (prepared_as g p) before s
right_same R keep g p before (steps.Node n o kids) h = (h.0, adds_same g h.0 p n o kids h.1)
right_same R keep g p before (Axiom n a b nodes) h = keep g p (assumed_in (open_after before)) (by_axiom n) nodes a b h
right_same R keep g p before (Use n a b nodes) h = keep g p (assumed_in (open_after before)) (by_lemma n) nodes a b h
right_same R keep g p before (Flip a b f) h = h
right_same R keep g p before (Chain a b f k) h = h
right_same R keep g p before (Set cs) h = λ c m. let r = h c m in record { o = r.o; lefts = r.lefts; rights = r.rights; left = r.left; right = r.right; kids = r.kids; depth = r.depth }
right_same R keep g p before (Open d pairs) h = h
right_same R keep g p before (Close d fs) h = record { opened = h.opened; pairs = h.pairs; outer = h.outer; innermost = h.innermost; each = closes g p before d (open_after before) h.outer h.pairs fs h.each }
right_same R keep g p before (Assume q nodes) h = record {
  outside = h.outside;
  root = record { token = h.root.token; fault_ = h.root.fault_; result = h.root.result; heap = h.root.heap; is = h.root.is };
  each = λ n m. let r = h.each n m in record { o = r.o; kids = r.kids; is = r.is; waits = r.waits; closed = r.closed; spine = r.spine };
}
right_same R keep g p before (Finish q r t f u k) h = record {
  opened = h.opened;
  nodes = h.nodes;
  outer = h.outer;
  innermost = h.innermost;
  left = record { token = h.left.token; fault_ = h.left.fault_; result = h.left.result; heap = h.left.heap; is = h.left.is };
  right = record { token = h.right.token; fault_ = h.right.fault_; result = h.right.result; heap = h.right.heap; is = h.right.is };
  tokens = h.tokens;
  faults = h.faults;
  results = h.results;
  heaps = h.heaps;
}
