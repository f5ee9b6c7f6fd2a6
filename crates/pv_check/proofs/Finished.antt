-- The beginning and the end of an ending block.
use Rattle.std.specs.Prelude.{◌≡◌, ◌↔◌, ℕ, List, []}
use Rattle.std.proofs.Common.{sym, ap, subst}
use Rattle.pv_graph.specs.Graphs.{Graph}
use Rattle.pv_steps.specs.declared.step.Step.{Step}
use Rattle.pv_steps.specs.Steps.{OpenBlock, outer_of, open_after}
use Rattle.pv_steps.specs.Right.{Gives, RightAssume, RightFinish}
use Rattle.pv_endings.specs.Endings.{WaitsFor}
use Rattle.pv_check.specs.declared.endings.RootReasons.{RootReasons}
use Rattle.pv_check.specs.Endings.{IsInnermost, AreEqualRoots}

-- where no block is open a step may begin one for a root that waits for the nodes
pub assume_is : (g : Graph) (before : List Step) (p : ℕ) (nodes : List ℕ) → open_after before ≡ [] → WaitsFor g p nodes ↔ RightAssume g before p nodes
assume_is g before p nodes none = (λ h. record { outside = none; root = h.root; each = h.each }, λ r. record { root = r.root; each = r.each })

pub finish_parts : (g : Graph) (before : List Step) (p q : ℕ) (by : RootReasons)
    → (IsInnermost (open_after before) p × AreEqualRoots g before (open_after before) p q by) ↔ RightFinish g before p q by.token by.fault by.result by.heap
finish_parts g before p q by = (
  λ h.
      let i = h.0 in
      let r = h.1 in record {
        opened = i.opened;
        nodes = i.nodes;
        outer = i.outer;
        innermost = i.is;
        left = record { token = r.left.token; fault_ = r.left.fault; result = r.left.result; heap = r.left.heap; is = r.is_left };
        right = record { token = r.right.token; fault_ = r.right.fault; result = r.right.result; heap = r.right.heap; is = r.is_right };
        tokens = subst (λ (o : List OpenBlock). Gives before o [] by.token r.left.token r.right.token) (ap outer_of i.is) r.kids.tokens;
        faults = r.kids.faults;
        results = r.kids.results;
        heaps = r.kids.heaps;
      },
  λ f. (
    record { opened = f.opened; nodes = f.nodes; outer = f.outer; is = f.innermost },
    record {
      left = record { token = f.left.token; fault = f.left.fault_; result = f.left.result; heap = f.left.heap };
      right = record { token = f.right.token; fault = f.right.fault_; result = f.right.result; heap = f.right.heap };
      is_left = f.left.is;
      is_right = f.right.is;
      kids = record {
        tokens = subst (λ (o : List OpenBlock). Gives before o [] by.token f.left.token f.right.token) (ap outer_of (sym f.innermost)) f.tokens;
        faults = f.faults;
        results = f.results;
        heaps = f.heaps;
      };
    },
  ),
)
