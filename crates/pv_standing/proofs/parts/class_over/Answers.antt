use Rattle.std.proofs.Common.{ℕ, Option}
use Rattle.pv_classes.specs.Forms.{IsClassWith}
use Rattle.pv_instances.proofs.Cited.{if_ok_more}
use Rattle.pv_standing.specs.Parts.{IsClassOver}
use Rattle.pv_standing.proofs.Numbers.{class_found}
use Rattle.pv_standing.proofs.parts.class_over.Goals as goal

pub returns : goal.returns
returns c =
    let g = c.args.graph.now in let k = c.args.classes.now in let o = c.args.op.now in let over = c.args.over.now in
    if_ok_more c.class_with.result (λ (found : Option ℕ). IsClassWith g.nodes k.numbers o over found) (λ (found : Option ℕ). IsClassOver g k.numbers o over found)
    (λ found h. class_found g k c.requires.knows o over c.len-count.ensures.classes c.requires.over found h) c.class_with.ensures
