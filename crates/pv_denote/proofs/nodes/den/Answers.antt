use Rattle.std.proofs.Common.{sym, ◌∙◌}
use Rattle.pv_graph.specs.Graphs.{form_at}
use Rattle.pv_denote.specs.Meaning.{index_of}
use Rattle.pv_denote.proofs.Counting.{count_low}
use Rattle.pv_denote.proofs.Evaluating.{none_of}
use Rattle.pv_denote.proofs.Alike.{den_index, may_start}
use Rattle.pv_denote.proofs.nodes.den.Goals as goal

pub value-requires : goal.value-requires
value-requires c =
    may_start c.args.g.now c.args.n c.args.fuel _ c.args.index.now c.len-len.ensures.graph c.requires.sealed c.requires.there c.requires.small c.requires.fuel c.new.ensures

pub returns-in-Ok-clause-value : goal.returns-in-Ok-clause-value
returns-in-Ok-clause-value c =
    sym c.in-Ok.ensures
    ∙ den_index c.args.g.now c.len-len.ensures.graph c.requires.sealed c.args.world.now c.args.input.now c.args.fuel c.args.n _ c.args.index.now c.new.ensures

pub returns-in-Ok-clause-count : goal.returns-in-Ok-clause-count
returns-in-Ok-clause-count c = λ k e. count_low (form_at c.args.g.now.nodes) c.args.world.now c.args.input.now c.args.fuel c.args.n (index_of c.new.result.from_depth_1) k (c.in-Ok.ensures ∙ e)

pub returns-in-Err-NoValue-clause-value : goal.returns-in-Err-NoValue-clause-value
returns-in-Err-NoValue-clause-value c =
    sym (none_of c.in-Err-NoValue.field-0 _ c.in-Err-NoValue.field-0-is c.in-Err-NoValue.ensures)
    ∙ den_index c.args.g.now c.len-len.ensures.graph c.requires.sealed c.args.world.now c.args.input.now c.args.fuel c.args.n _ c.args.index.now c.new.ensures
