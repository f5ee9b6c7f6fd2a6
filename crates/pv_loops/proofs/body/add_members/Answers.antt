use Rattle.std.proofs.Common.{ℕ, ◌+◌, List, get_or, set, refl, sym, ◌∙◌, ap, subst, arith, Option, Some, None, Vec, Global}
use Rattle.pv_loops.proofs.Gathering.{Adding, adding_skip, adding_more, adding_all, same_home, other_home}
use Rattle.pv_loops.proofs.body.add_members.Goals as goal
use Rattle.pv_loops.proofs.body.add_members.Goals.{then-place-h+then-ne+in_ok-push, else-place-h, else-place-h-via-then-place-h+else-ne, else-place-h-via-else-place-h}

pub loop-x-preserved : goal.loop-x-preserved
loop-x-preserved c =
    let x : ℕ = get_or c.args.nodes.now c.loop-x.x-index 0 in
    elim c.if-place-h.branch [
      | then-place-h+then-ne+in_ok-push w ↦
          subst (λ (m : List (Option ℕ)). Adding c.args.i c.args.place.now c.args.h c.args.nodes.now (c.loop-x.x-index + 1) c.args.home.now m c.args.members.now.items c.if-place-h.members.items) (sym w.home-is)
          (subst (λ (m : List ℕ). Adding c.args.i c.args.place.now c.args.h c.args.nodes.now (c.loop-x.x-index + 1) c.args.home.now (set c.loop-x.home x (Some c.args.i)) c.args.members.now.items m) (sym (ap (λ (v : Vec ℕ Global). v.items) w.members-is ∙ w.in_ok-push.ensures.items))
          (adding_more c.args.i c.args.place.now c.args.h c.args.nodes.now c.loop-x.x-index x c.args.home.now c.loop-x.home c.args.members.now.items c.loop-x.members.items refl c.loop-x-test.true
          (omega (arith, c.requires.nodes c.loop-x.x-index 0 c.loop-x-test.true, c.requires.homes, c.loop-x.invariant.keeps.size)) w.if-place-h.true (other_home (get_or c.loop-x.home x None) c.args.i (sym w.ne.ensures ∙ w.if-ne.true)) c.loop-x.invariant))
      | else-place-h w ↦
          subst (λ (m : List (Option ℕ)). Adding c.args.i c.args.place.now c.args.h c.args.nodes.now (c.loop-x.x-index + 1) c.args.home.now m c.args.members.now.items c.if-place-h.members.items) (sym w.home-is)
          (subst (λ (m : List ℕ). Adding c.args.i c.args.place.now c.args.h c.args.nodes.now (c.loop-x.x-index + 1) c.args.home.now c.loop-x.home c.args.members.now.items m) (sym (ap (λ (v : Vec ℕ Global). v.items) w.members-is))
          (adding_skip c.args.i c.args.place.now c.args.h c.args.nodes.now c.loop-x.x-index c.args.home.now c.loop-x.home c.args.members.now.items c.loop-x.members.items
          (elim w.else-place-h.branch [
            | else-place-h-via-then-place-h+else-ne v ↦ λ le. same_home (get_or c.loop-x.home x None) c.args.i (sym v.ne.ensures ∙ v.if-ne.false)
            | else-place-h-via-else-place-h v ↦ λ le. absurd (omega (arith, le, v.if-place-h.false))
          ])
          c.loop-x.invariant))
    ]

pub returns-clause-added : goal.returns-clause-added
returns-clause-added c = adding_all c.args.i c.args.place.now c.args.h c.args.nodes.now c.loop-x.x-index c.args.home.now c.loop-x.home c.args.members.now.items c.loop-x.members.items (omega arith) c.loop-x.invariant
