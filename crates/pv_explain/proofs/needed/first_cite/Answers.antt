use Rattle.std.proofs.Common.{arith}
use Rattle.pv_explain.proofs.Linking.{at_index}
use Rattle.pv_explain.proofs.Marked.{cite_low, no_cite_next}
use Rattle.pv_explain.proofs.needed.first_cite.Goals as goal

pub bounds-joins-first : goal.bounds-joins-first
bounds-joins-first c = let z = cite_low c.args.joins.now c.args.block c.loop-first.first c.requires.0 c.loop-first.invariant c.requires.1 in let p = z.0 in let q = z.1 in omega (arith, p, q)

pub loop-first-preserved : goal.loop-first-preserved
loop-first-preserved c =
    let js = c.args.joins.now in
    let i = c.loop-first.first in
    let d = c.index-joins-first.result in
    let z = cite_low js c.args.block i c.requires.0 c.loop-first.invariant c.requires.1 in
    let p = z.0 in
    let q = z.1 in
    no_cite_next js c.args.block i d (at_index js i d (omega (arith, p, q)) c.index-joins-first.is) (c.is_cite.ensures.no c.loop-first-test.true) c.loop-first.invariant

pub returns : goal.returns
returns c =
    let js = c.args.joins.now in
    let i = c.loop-first.first in
    let d = c.index-joins-first.result in
    let z = cite_low js c.args.block i c.requires.0 c.loop-first.invariant c.requires.1 in
    let p = z.0 in
    let q = z.1 in
    record {
      cite = record { j = d; there = at_index js i d (omega (arith, p, q)) c.index-joins-first.is; why = c.is_cite.ensures.yes c.loop-first-test.false };
      first = λ k cite. (cite_low js c.args.block i k c.loop-first.invariant cite).0;
    }
