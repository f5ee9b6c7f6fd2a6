use Rattle.std.proofs.Common.{◌≡◌, ℕ, ◌+◌, ◌-◌, ◌*◌, suc, drop}
use Rattle.pv_graph.specs.declared.node.Op.TheVariants.{Pass}
use Rattle.pv_graph.specs.Graphs.{form_at}
use Rattle.pv_denote.specs.Denote.{looks, values}
use Rattle.pv_denote.specs.Meaning.{index_of}
use Rattle.pv_denote.specs.Given.{over_kids, value_of}
use Rattle.pv_denote.proofs.Readings.{Rest}
use Rattle.pv_denote.proofs.setting.Setting.+evaluation.Given as goal

abbrev pub decreases-value : goal.decreases-value
decreases-value l = 3 * l.fuel

abbrev pub decreases-values : goal.decreases-values
decreases-values l = 3 * l.fuel + 1

abbrev pub decreases-plain : goal.decreases-plain
decreases-plain l = 3 * l.fuel + 2

abbrev pub decreases-phi : goal.decreases-phi
decreases-phi l = 3 * l.fuel + 2

abbrev pub decreases-theta : goal.decreases-theta
decreases-theta l = 3 * l.fuel + 2

abbrev pub decreases-eval : goal.decreases-eval
decreases-eval l = 3 * l.fuel + 2

abbrev pub decreases-pass : goal.decreases-pass
decreases-pass l = 3 * l.fuel + 2

abbrev pub decreases-shift : goal.decreases-shift
decreases-shift l = 3 * l.fuel + 2

abbrev pub decreases-root : goal.decreases-root
decreases-root l = 3 * l.fuel + 2

-- all kids have their values once those that are left have them
abbrev pub invariant-values-loop-kid : goal.invariant-values-loop-kid
invariant-values-loop-kid l =
    let kid = λ (k : ℕ). value_of l.self l.fuel k (index_of l.at.from_depth_1) in
    Rest (values kid) l.kids l.values.items (drop l.kid-index l.kids)

-- the looks that are left give what all give
abbrev pub invariant-pass-loop-k : goal.invariant-pass-loop-k
invariant-pass-loop-k l =
    over_kids l.self l.fuel (Pass l.depth) l.kids (index_of l.at.from_depth_1)
    ≡ looks (form_at l.self.graph.now.nodes) l.self.world.now l.self.input.now (suc (l.fuel - l.k)) l.depth l.test (index_of l.at.from_depth_1) l.k
