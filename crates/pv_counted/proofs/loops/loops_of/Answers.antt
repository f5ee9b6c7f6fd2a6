use Rattle.std.proofs.Common.{◌≡◌, ◌+◌, ◌++◌, ◌∷◌, [], ◌∙◌, Vec, ap, sym, subst}
use Rattle.std.specs.declared.alloc.Global.{Global}
use Rattle.std.proofs.lemmas.Option.{MatchOption-at_none}
use Rattle.pv_counted.specs.declared.loops.Loop.{Loop}
use Rattle.pv_counted.specs.Rounds.{AreLoops}
use Rattle.pv_counted.proofs.Recognizing.{counts_up_once, parts_low}
use Rattle.pv_counted.proofs.Finding.{loops_more, loops_same}
use Rattle.pv_counted.proofs.loops.loops_of.Goals as goal
use Rattle.pv_counted.proofs.loops.loops_of.Goals.{in-Some+in_ok-push, in_default}

pub loop-p-preserved : goal.loop-p-preserved
loop-p-preserved c =
    elim c.match-loop_of.branch [
      | in-Some+in_ok-push w ↦
          let l = w.in-Some.found in
          let g = c.args.g.now in
          let p = c.loop-p.p in
          let items : c.match-loop_of.loops.items ≡ c.loop-p.loops.items ++ l ∷ [] = ap (λ (v : Vec Loop Global). v.items) w.loops-is ∙ w.in_ok-push.ensures.items in
          subst (AreLoops g.nodes (p + 1)) (sym items)
          (loops_more g.nodes p c.loop-p.loops.items l w.in-Some.ensures.0 w.in-Some.ensures.1 (λ s b h. counts_up_once g p l.start l.bound s b w.in-Some.ensures.1 h)
          (parts_low g p l.start l.bound c.len-p-end.ensures.graph w.in-Some.ensures.1) c.loop-p.invariant)
      | in_default w ↦
          let items : c.match-loop_of.loops.items ≡ c.loop-p.loops.items = ap (λ (v : Vec Loop Global). v.items) w.loops-is in
          subst (AreLoops c.args.g.now.nodes (c.loop-p.p + 1)) (sym items) (loops_same c.args.g.now.nodes c.loop-p.p c.loop-p.loops.items (MatchOption-at_none _ _ w.in_default.is c.loop_of.ensures) c.loop-p.invariant)
    ]
