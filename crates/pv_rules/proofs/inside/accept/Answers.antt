use Rattle.std.proofs.Common.{◌<◌, Some, length, reverse, refl, arith}
use Rattle.std.specs.List.{AllByRecursion}
use Rattle.pv_lemmas.specs.Lemmas.{InLemma, IsOutsideBlocks, Uses, settled_from}
use Rattle.pv_rules.specs.Known.{IsShown}
use Rattle.pv_rules.proofs.Accepting.{is_accepted, is_known, left_past, right_past}
use Rattle.pv_rules.proofs.inside.accept.Goals.{then-lemma-len-via-then-lemma-len, then-lemma-len-via-else-lemma-len+then-lemma-len-2}
use Rattle.pv_rules.proofs.inside.accept.Goals as goal

pub returns-then-lemma-len : goal.returns-then-lemma-len
returns-then-lemma-len g c =
    let shown : IsShown (InLemma (Uses (reverse c.args.before.now)) (settled_from 0 c.args.lemma.now.vars)) c.args.lemma.now (Some c.in-Some.graph) =
    rw (c.in-Some.is, c.as_slice-3.ensures.value, c.in_ok-settled.ensures, c.as_slice-2.ensures) at c.in_ok-graph.ensures in
    elim c.then-lemma-len.branch [
      | then-lemma-len-via-then-lemma-len w ↦ left_past (reverse c.args.before.now) c.args.lemma.now c.in-Some.graph shown (omega (arith, w.if-lemma-len.true, c.len.ensures.len))
      | then-lemma-len-via-else-lemma-len+then-lemma-len-2 w ↦ right_past (reverse c.args.before.now) c.args.lemma.now c.in-Some.graph shown (omega (arith, w.if-lemma-len-2.true, w.len-else-lemma-len.ensures.len))
    ]

pub returns : goal.returns
returns g c =
    let shown : IsShown (InLemma (Uses (reverse c.args.before.now)) (settled_from 0 c.args.lemma.now.vars)) c.args.lemma.now (Some c.in-Some.graph) =
    rw (c.in-Some.is, c.as_slice-3.ensures.value, c.in_ok-settled.ensures, c.as_slice-2.ensures) at c.in_ok-graph.ensures in
    let outside : AllByRecursion IsOutsideBlocks c.args.lemma.now.steps = rw c.as_slice.ensures at (c.are_outside_blocks.ensures.0 c.if-not-are_outside_blocks.false) in
    let left : c.args.lemma.now.left < length c.in-Some.graph.nodes = omega (arith, c.if-lemma-len.false, c.len.ensures.len) in
    let right : c.args.lemma.now.right < length c.in-Some.graph.nodes = omega (arith, c.if-lemma-len-2.false, c.len-else-lemma-len.ensures.len) in
    (is_accepted (reverse c.args.before.now) c.args.lemma.now c.in-Some.graph outside shown left right, refl, is_known (reverse c.args.before.now) c.args.lemma.now c.in-Some.graph shown left right)
