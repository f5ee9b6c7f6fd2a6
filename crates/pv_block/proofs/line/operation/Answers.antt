use Rattle.std.proofs.Common.{◌≡◌, ◌≢◌, ap, sym, subst, length, arith}
use Rattle.pv_block.proofs.Words.{IfOk-weaker, Op, FitsOver, HasItsSort, ReadsOver, StandsOver}
use Rattle.pv_graph.specs.declared.node.Op.TheVariants as op
use Rattle.pv_block.proofs.Standing.{both_two, stands_two, sort_of_two, stands_over}
use Rattle.pv_block.proofs.line.operation.Goals as goal
use Rattle.pv_block.proofs.line.operation.Goals.{in-Both, in_default}

pub bounds-kids-0 : goal.bounds-kids-0
bounds-kids-0 c =
    let is : c.args.op.now ≡ op.Both = elim c.match-matches.branch [ in-Both w ↦ w.in-Both.is | in_default w ↦ absurd (let t = c.if-matches.true in let e = w.matches-is in cc) ] in
    let two = both_two c.args.g.now c.args.kids.now (subst (λ (o : Op). FitsOver c.args.g.now o c.args.kids.now) is c.requires.fits) in
    let long : length c.args.kids.now ≡ 2 = ap length two.are in
    omega (arith, long)

pub bounds-kids-1 : goal.bounds-kids-1
bounds-kids-1 c =
    let is : c.args.op.now ≡ op.Both = elim c.match-matches.branch [ in-Both w ↦ w.in-Both.is | in_default w ↦ absurd (let t = c.if-matches.true in let e = w.matches-is in cc) ] in
    let two = both_two c.args.g.now c.args.kids.now (subst (λ (o : Op). FitsOver c.args.g.now o c.args.kids.now) is c.requires.fits) in
    let long : length c.args.kids.now ≡ 2 = ap length two.are in
    omega (arith, long)

pub returns-then-matches-clause-stands : goal.returns-then-matches-clause-stands
returns-then-matches-clause-stands c =
    let is : c.args.op.now ≡ op.Both = elim c.match-matches.branch [ in-Both w ↦ w.in-Both.is | in_default w ↦ absurd (let t = c.if-matches.true in let e = w.matches-is in cc) ] in
    let two = both_two c.args.g.now c.args.kids.now (subst (λ (o : Op). FitsOver c.args.g.now o c.args.kids.now) is c.requires.fits) in
    IfOk-weaker c.both.result _ _
    (λ n reads. subst (λ (o : Op). StandsOver c.args.g.now.nodes o c.args.kids.now c.both.new.g.nodes n) (sym is) (stands_two c.args.g.now c.both.new.g c.args.kids.now n two reads))
    c.both.ensures.reads

pub returns-then-matches-clause-sort : goal.returns-then-matches-clause-sort
returns-then-matches-clause-sort c =
    let is : c.args.op.now ≡ op.Both = elim c.match-matches.branch [ in-Both w ↦ w.in-Both.is | in_default w ↦ absurd (let t = c.if-matches.true in let e = w.matches-is in cc) ] in
    IfOk-weaker c.both.result _ _
    (λ n sort. subst (λ (o : Op). HasItsSort c.args.g.now o c.args.kids.now c.both.new.g n) (sym is) (sort_of_two c.args.g.now c.both.new.g c.args.kids.now n sort))
    c.both.ensures.sort

pub returns-clause-stands : goal.returns-clause-stands
returns-clause-stands c =
    let other : c.args.op.now ≢ op.Both = elim c.match-matches.branch [ in-Both w ↦ absurd (let t = c.if-matches.false in let e = w.matches-is in cc) | in_default w ↦ w.in_default.not-Both ] in
    IfOk-weaker c.over.result _ _
    (λ n reads. stands_over c.args.g.now c.over.new.g c.args.op.now c.args.kids.now n other (subst (λ (o : Op). ReadsOver c.args.g.now o c.args.kids.now c.over.new.g n) c.in_ok-op.ensures reads)) c.over.ensures.reads
