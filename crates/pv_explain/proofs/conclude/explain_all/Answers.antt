use Rattle.std.specs.Prelude.{Bool}
use Rattle.std.specs.List.{AllByRecursion}
use Rattle.std.proofs.Common.{◌∙◌, List, [], ap, length, sym, subst}
use Rattle.pv_steps.specs.Steps.{OpenBlock, assumed_in}
use Rattle.pv_classes.specs.declared.join.Join.{Join}
use Rattle.pv_classes.specs.Grounds.{JoinsGround}
use Rattle.pv_writer.specs.Written.{inside}
use Rattle.pv_writer.proofs.Pushing.{goes_trans}
use Rattle.pv_explain.specs.Copying.{AreFirstCopies}
use Rattle.pv_explain.proofs.Copying.{source_later}
use Rattle.pv_explain.proofs.Concluding.{outside_goes}
use Rattle.pv_explain.specs.Sections.{IsGiven, IsGrounded}
use Rattle.pv_explain.specs.Needed.{StayLinked}
use Rattle.pv_explain.specs.Named.{AreClosed, IsMarkedNode, OfCited}
use Rattle.pv_explain.proofs.NodeMarks.{named_ready}
use Rattle.pv_explain.proofs.Marked.{pairs_stay}
use Rattle.pv_explain.proofs.Pairing.{links_pairs}
use Rattle.pv_explain.proofs.conclude.explain_all.Goals as goal

pub needed_nodes-requires-clause-grounds : goal.needed_nodes-requires-clause-grounds
needed_nodes-requires-clause-grounds c =
    let s = c.args.search.now in
    let g = s.graph.now in
    let w = c.args.writer.now in
    let assumed = assumed_in (inside w) in
    (assumed, subst (λ (js : List Join). JoinsGround g.nodes (IsGiven g assumed) [] [] s.blocks.now js) (sym c.deref.ensures.value) (c.in_ok-joins.ensures.grounds assumed c.requires.grounds))

pub copy_nodes-requires-clause-long : goal.copy_nodes-requires-clause-long
copy_nodes-requires-clause-long c = ap length c.deref-2.ensures.value ∙ c.in_ok-marks.ensures.long

pub copy_nodes-requires-clause-closed : goal.copy_nodes-requires-clause-closed
copy_nodes-requires-clause-closed c = subst (AreClosed c.args.search.now.graph.now) (sym c.deref-2.ensures.value) c.in_ok-marks.ensures.closed

pub state_all-requires-clause-source : goal.state_all-requires-clause-source
state_all-requires-clause-source c =
    let g = c.args.search.now.graph.now in
    let h = subst (AreFirstCopies c.copy_nodes.new.writer g c.deref-2.result.now (length g.nodes)) (sym c.deref-3.ensures.value) c.in_ok-map.ensures.copies in
    record { made = c.requires.made; sealed = c.requires.sealed; copies = h.copies }

pub state_all-requires-clause-named : goal.state_all-requires-clause-named
state_all-requires-clause-named c =
    let s = c.args.search.now in
    let g = s.graph.now in
    let marks = c.deref-2.result.now in
    let h = subst (AreFirstCopies c.copy_nodes.new.writer g marks (length g.nodes)) (sym c.deref-3.ensures.value) c.in_ok-map.ensures.copies in
    let named = subst (λ (ms : List Bool). AllByRecursion (OfCited (IsMarkedNode ms) s.blocks.now) c.deref.result.now) (sym c.deref-2.ensures.value) c.in_ok-marks.ensures.named in
    named_ready c.copy_nodes.new.writer (record { graph = s.graph; map = c.deref-3.result }) marks s.blocks.now c.deref.result.now h (ap length c.deref-2.ensures.value ∙ c.in_ok-marks.ensures.long) named

pub state_all-requires-clause-outside : goal.state_all-requires-clause-outside
state_all-requires-clause-outside c = outside_goes c.args.writer.now c.copy_nodes.new.writer c.args.search.now.graph.now c.in_ok-map.ensures.goes c.requires.outside

pub state_all-requires-clause-grounds : goal.state_all-requires-clause-grounds
state_all-requires-clause-grounds c =
    let s = c.args.search.now in
    let g = s.graph.now in
    let w = c.copy_nodes.new.writer in
    let grounds = subst (λ (ps : List OpenBlock). IsGrounded s (assumed_in ps)) (sym c.in_ok-map.ensures.goes.blocks) c.requires.grounds in
    subst (λ (js : List Join). JoinsGround g.nodes (IsGiven g (assumed_in (inside w))) [] [] s.blocks.now js) (sym c.deref.ensures.value) (c.in_ok-joins.ensures.grounds (assumed_in (inside w)) grounds)

pub needed_joins-requires-clause-grounds : goal.needed_joins-requires-clause-grounds
needed_joins-requires-clause-grounds c = (assumed_in (inside c.args.writer.now), c.requires.grounds)

pub pair_reasons-requires-clause-source : goal.pair_reasons-requires-clause-source
pair_reasons-requires-clause-source c =
    let g = c.args.search.now.graph.now in
    let h = subst (AreFirstCopies c.copy_nodes.new.writer g c.deref-2.result.now (length g.nodes)) (sym c.deref-3.ensures.value) c.in_ok-map.ensures.copies in
    source_later c.copy_nodes.new.writer c.state_all.new.writer (record { graph = c.args.search.now.graph; map = c.deref-3.result }) c.in_ok-level.ensures.goes.later
    (record { made = c.requires.made; sealed = c.requires.sealed; copies = h.copies })

pub pair_reasons-requires-clause-linked : goal.pair_reasons-requires-clause-linked
pair_reasons-requires-clause-linked c =
    let s = c.args.search.now in
    let kept = c.deref.result in
    let linked = subst (λ (js : List Join). StayLinked s js c.args.pairs.now) (sym c.deref.ensures.value) c.in_ok-joins.ensures.linked in
    links_pairs (record { graph = s.graph; blocks = s.blocks; joins = kept }) c.deref-3.result c.in_ok-level.level c.args.pairs.now c.requires.made c.in_ok-level.ensures.lines.ends (pairs_stay s kept c.args.pairs.now c.requires.linked linked)

pub returns-clause-goes : goal.returns-clause-goes
returns-clause-goes c =
    goes_trans c.args.writer.now c.state_all.new.writer c.pair_reasons.new.writer (goes_trans c.args.writer.now c.copy_nodes.new.writer c.state_all.new.writer c.in_ok-map.ensures.goes c.in_ok-level.ensures.goes) c.in_ok-reasons.ensures.goes
