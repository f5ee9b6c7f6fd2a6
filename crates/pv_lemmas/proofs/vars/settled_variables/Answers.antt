use Rattle.std.proofs.Common.{◌≡◌, ◌<◌, ◌+◌, ◌++◌, ◌∷◌, [], ℕ, List, Vec, false, length, take, get_or, sym, ap, ◌∙◌, arith}
use Rattle.std.specs.declared.alloc.Global.{Global}
use Rattle.std.proofs.lemmas.List.{take_more, length-take-le, append-nil}
use Rattle.pv_graph.specs.declared.node.OpSort.TheVariants.{I}
use Rattle.pv_steps.specs.declared.step.Var.{Var}
use Rattle.pv_lemmas.specs.Lemmas.{settled_from}
use Rattle.pv_lemmas.proofs.Starting.{settled_push, settled_one, settled_none}
use Rattle.pv_lemmas.proofs.vars.settled_variables.Goals.{then-var+in_ok-push, else-var}
use Rattle.pv_lemmas.proofs.vars.settled_variables.Goals as goal

pub loop-j-preserved : goal.loop-j-preserved
loop-j-preserved c =
    let low : c.loop-j.j < length c.args.vars.now = omega (arith, c.loop-j-test.true) in
    let vs = take c.loop-j.j c.args.vars.now in
    let v : Var = get_or c.args.vars.now c.loop-j.j (record { sort = I; settled = false }) in
    let place : 0 + length vs ≡ c.loop-j.j = (let z = length-take-le c.loop-j.j c.args.vars.now (omega (arith, low)) in omega (arith, z)) in
    let all : settled_from 0 (take (c.loop-j.j + 1) c.args.vars.now) ≡ settled_from 0 vs ++ settled_from c.loop-j.j (v ∷ []) =
    ap (settled_from 0) (take_more c.args.vars.now c.loop-j.j (record { sort = I; settled = false }) low) ∙ settled_push 0 vs v ∙ ap (λ (k : ℕ). settled_from 0 vs ++ settled_from k (v ∷ [])) place in
    elim c.if-var.branch [
      | then-var+in_ok-push w ↦
          ap (λ (s : Vec ℕ Global). s.items) w.settled-is
          ∙ w.in_ok-push.ensures.items
          ∙ ap (λ (js : List ℕ). js ++ c.loop-j.j ∷ []) c.loop-j.invariant
          ∙ ap (λ (js : List ℕ). settled_from 0 vs ++ js) (sym (settled_one c.loop-j.j v w.if-var.true))
          ∙ sym all
      | else-var w ↦
          ap (λ (s : Vec ℕ Global). s.items) w.settled-is
          ∙ c.loop-j.invariant
          ∙ sym (append-nil (settled_from 0 vs))
          ∙ ap (λ (js : List ℕ). settled_from 0 vs ++ js) (sym (settled_none c.loop-j.j v w.if-var.false))
          ∙ sym all
    ]
