use Rattle.std.proofs.Common.{◌++◌, [], ℕ, List, ap, ◌∙◌}
use Rattle.pv_graph.specs.declared.node.Node.{Node}
use Rattle.pv_classes.specs.declared.congruence.Known.{Known}
use Rattle.pv_classes.specs.Partition.{Parts}
use Rattle.pv_classes.specs.Congruence.{index_with}
use Rattle.pv_classes.proofs.Views.{waits_both}
use Rattle.pv_classes.proofs.congruence.Congruence.copy.Goals as goal

pub returns : goal.returns
returns c =
    let k = c.args.self.now in
    let w = c.extend_from_slice.new.self.items in
    record {
      rest =
          ap (λ (p : Parts). index_with p c.in_ok-clone.field-0.value c.new.result w c.new-2.result.items) c.in_ok-copy.ensures.copy
          ∙ ap (λ (v : Known). index_with k.parts v c.new.result w c.new-2.result.items) c.in_ok-clone.ensures.cases
          ∙ ap (λ (o : List (Node × ℕ)). index_with k.parts k.known.value o w c.new-2.result.items) c.new.ensures
          ∙ ap (λ (s : List ℕ). index_with k.parts k.known.value [] w s) c.new-2.ensures.items;
      waits = waits_both k.waiting.items k.by_own.items w
          (c.in_ok-extend_from_slice.ensures.items ∙ ap (λ (xs : List ℕ). xs ++ c.deref-2.result.now) (c.in_ok-waiting.ensures.items ∙ c.deref.ensures.value)
          ∙ ap (λ (xs : List ℕ). k.waiting.items ++ xs) c.deref-2.ensures.value);
    }
