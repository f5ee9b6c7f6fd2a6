use Rattle.std.proofs.Common.{subst}
use Rattle.pv_prove.specs.Finding.{ending_of}
use Rattle.pv_certify.proofs.Explaining.{IsMadeBy, has_linked, kids_are}
use Rattle.pv_certify.proofs.steps.steps_for_kids.Goals as goal

pub ending_section-requires-clause-ends : goal.ending_section-requires-clause-ends
ending_section-requires-clause-ends c n there = rw (c.graph.ensures, c.root_pair-roots.ensures.first) ((c.requires.made.2.ends.are n).0 (rw (c.deref.ensures.value, c.ending-ending.ensures) at there))

pub ending_section-requires-clause-tokens : goal.ending_section-requires-clause-tokens
ending_section-requires-clause-tokens c =
    let l = c.args.least.now in
    let s = c.args.searches.now in
    let e = ending_of s in
    let roots = c.root_pair-roots.result in
    let by : IsMadeBy c.made_by.result s.plain = record { graph_ = c.made_by.ensures.graph; blocks_ = c.made_by.ensures.blocks; joins_ = c.made_by.ensures.joins } in
    let met = kids_are l.graph l.first l.second s.plain.classes.numbers e.classes.numbers roots.left roots.right c.requires.met.1 c.root_pair-roots.ensures.left c.root_pair-roots.ensures.right in
    has_linked l.graph c.requires.made.1 c.made_by.result s.plain c.requires.made.2.plain_ by roots.left.token roots.right.token met.0

pub ending_section-requires-clause-faults : goal.ending_section-requires-clause-faults
ending_section-requires-clause-faults c =
    let l = c.args.least.now in
    let s = c.args.searches.now in
    let e = ending_of s in
    let roots = c.root_pair-roots.result in
    let by = subst (IsMadeBy c.made_by-2.result) c.ending-ending.ensures (record { graph_ = c.made_by-2.ensures.graph; blocks_ = c.made_by-2.ensures.blocks; joins_ = c.made_by-2.ensures.joins }) in
    let met = kids_are l.graph l.first l.second s.plain.classes.numbers e.classes.numbers roots.left roots.right c.requires.met.1 c.root_pair-roots.ensures.left c.root_pair-roots.ensures.right in
    has_linked l.graph c.requires.made.1 c.made_by-2.result e c.requires.made.2.ending_ by roots.left.fault roots.right.fault met.1.0

pub ending_section-requires-clause-results : goal.ending_section-requires-clause-results
ending_section-requires-clause-results c =
    let l = c.args.least.now in
    let s = c.args.searches.now in
    let e = ending_of s in
    let roots = c.root_pair-roots.result in
    let by = subst (IsMadeBy c.made_by-2.result) c.ending-ending.ensures (record { graph_ = c.made_by-2.ensures.graph; blocks_ = c.made_by-2.ensures.blocks; joins_ = c.made_by-2.ensures.joins }) in
    let met = kids_are l.graph l.first l.second s.plain.classes.numbers e.classes.numbers roots.left roots.right c.requires.met.1 c.root_pair-roots.ensures.left c.root_pair-roots.ensures.right in
    has_linked l.graph c.requires.made.1 c.made_by-2.result e c.requires.made.2.ending_ by roots.left.result roots.right.result met.1.1.0

pub ending_section-requires-clause-heaps : goal.ending_section-requires-clause-heaps
ending_section-requires-clause-heaps c =
    let l = c.args.least.now in
    let s = c.args.searches.now in
    let e = ending_of s in
    let roots = c.root_pair-roots.result in
    let by = subst (IsMadeBy c.made_by-2.result) c.ending-ending.ensures (record { graph_ = c.made_by-2.ensures.graph; blocks_ = c.made_by-2.ensures.blocks; joins_ = c.made_by-2.ensures.joins }) in
    let met = kids_are l.graph l.first l.second s.plain.classes.numbers e.classes.numbers roots.left roots.right c.requires.met.1 c.root_pair-roots.ensures.left c.root_pair-roots.ensures.right in
    has_linked l.graph c.requires.made.1 c.made_by-2.result e c.requires.made.2.ending_ by roots.left.heap roots.right.heap met.1.1.1
