use Rattle.std.proofs.Math.ListN.{get_or}
use Rattle.std.proofs.Common.{List, ◌∷◌, ◌++◌, [], ◌≡◌, suc, length, ap, arith, sym, subst, take, take_all}
use Rattle.pv_explain.specs.declared.follow.Line.{Line}
use Rattle.pv_explain.specs.declared.induction.Begun.{Begun}
use Rattle.pv_explain.specs.Iterations.{AreLinesOf, line_of}
use Rattle.pv_explain.proofs.Beginning.{lines_more, no_begun, no_lines, take_at}
use Rattle.pv_explain.proofs.induction.lines_of.Goals as goal

pub loop-pair-init : goal.loop-pair-init
loop-pair-init c = subst (AreLinesOf c.args.step []) (sym c.new-lines.ensures.items) (no_lines c.args.step)

pub loop-pair-preserved : goal.loop-pair-preserved
loop-pair-preserved c =
    let i = c.loop-pair.pair-index in
    let b = (get_or c.args.begun.now c.loop-pair.pair-index no_begun) in
    let lines = c.loop-pair.lines.items in
    let place : c.in_ok-place.place ≡ suc (length lines) = omega (arith, c.in_ok-place.ensures, c.loop-pair.lines.ok, c.len.ensures) in
    subst (λ (bs : List Begun). AreLinesOf c.args.step bs c.push.new.self.items) (take_at c.args.begun.now i no_begun c.loop-pair-test.true)
    (subst (λ (ls : List Line). AreLinesOf c.args.step (take i c.args.begun.now ++ b ∷ []) ls) (sym c.in_ok-push.ensures.items)
    (lines_more c.args.step (take i c.args.begun.now) lines b (line_of b (record { step = c.args.step; place = c.in_ok-place.place })) c.loop-pair.invariant (ap (λ n. line_of b (record { step = c.args.step; place = n })) place)))

pub returns : goal.returns
returns c = subst (λ (bs : List Begun). AreLinesOf c.args.step bs c.loop-pair.lines.items) (take_all c.loop-pair.pair-index c.args.begun.now c.loop-pair-test.false) c.loop-pair.invariant
