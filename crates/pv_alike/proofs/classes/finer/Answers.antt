use Rattle.std.proofs.Common.{◌≡◌, ◌∷◌, ◌++◌, [], ◌∙◌, ◌+◌, ℕ, List, Vec, length, sym, ap, subst, arith}
use Rattle.std.specs.declared.alloc.Global.{Global}
use Rattle.pv_graph.specs.declared.node.Node.{Node}
use Rattle.pv_graph.specs.Graphs.{form_at}
use Rattle.pv_alike.specs.Algorithm.{IsDense}
use Rattle.pv_alike.specs.Keys.{Keyed, number_at, theta_key}
use Rattle.pv_alike.proofs.Classing.{IsClassing, classing_same, classing_more, classing_finer, classing_dense}
use Rattle.pv_alike.proofs.classes.finer.Goals as goal
use Rattle.pv_alike.proofs.classes.finer.Goals.{then-is_theta+in_ok-key+in_ok-number+in_ok-push, else-is_theta+in_ok-push-2}

pub loop-n-preserved : goal.loop-n-preserved
loop-n-preserved c =
    let class = number_at c.args.classes.now in
    let number = number_at c.args.numbers.now in
    let g = c.args.g.now.nodes in
    let node = c.node-node.result.now in
    elim c.if-is_theta.branch [
      | then-is_theta+in_ok-key+in_ok-number+in_ok-push w ↦
          let put : Keyed c.loop-n.keys w.number.new.self (theta_key class number c.loop-n.n node) w.in_ok-number.field-0 =
          subst (λ (k : Node). Keyed c.loop-n.keys w.number.new.self k w.in_ok-number.field-0) w.in_ok-key.ensures w.in_ok-number.ensures in
          let more = classing_more g class number c.loop-n.n node c.loop-n.next.items c.loop-n.keys c.node-node.ensures c.loop-n.invariant (sym c.is_theta.ensures ∙ w.if-is_theta.true) w.number.new.self w.in_ok-number.field-0 put in
          subst (λ (xs : List ℕ). IsClassing g class number (c.loop-n.n + 1) xs c.if-is_theta.keys) (sym (ap (λ (v : Vec ℕ Global). v.items) w.next-is ∙ w.in_ok-push.ensures.items))
          (subst (λ (ks : List Node). IsClassing g class number (c.loop-n.n + 1) (c.loop-n.next.items ++ w.in_ok-number.field-0 ∷ []) ks) (sym w.keys-is) more)
      | else-is_theta+in_ok-push-2 w ↦
          let same = classing_same g class number c.loop-n.n node c.loop-n.next.items c.loop-n.keys c.node-node.ensures c.loop-n.invariant 0 (sym c.is_theta.ensures ∙ w.if-is_theta.false) in
          subst (λ (xs : List ℕ). IsClassing g class number (c.loop-n.n + 1) xs c.if-is_theta.keys) (sym (ap (λ (v : Vec ℕ Global). v.items) w.next-is ∙ w.in_ok-push-2.ensures.items))
          (subst (λ (ks : List Node). IsClassing g class number (c.loop-n.n + 1) (c.loop-n.next.items ++ 0 ∷ []) ks) (sym w.keys-is) same)
    ]

pub returns-clause-finer : goal.returns-clause-finer
returns-clause-finer c =
    let class = number_at c.args.classes.now in
    let number = number_at c.args.numbers.now in
    let all : c.loop-n.n ≡ length c.args.g.now.nodes = omega (arith, c.loop-n-test.false, c.loop-n.auto.n-end, c.len-n-end.ensures.len) in
    classing_finer c.args.g.now.nodes class number c.loop-n.next.items c.loop-n.keys (subst (λ (i : ℕ). IsClassing c.args.g.now.nodes class number i c.loop-n.next.items c.loop-n.keys) all c.loop-n.invariant)

pub returns-clause-dense : goal.returns-clause-dense
returns-clause-dense c =
    let class = number_at c.args.classes.now in
    let number = number_at c.args.numbers.now in
    let all : c.loop-n.n ≡ length c.args.g.now.nodes = omega (arith, c.loop-n-test.false, c.loop-n.auto.n-end, c.len-n-end.ensures.len) in
    subst (λ (n : ℕ). IsDense (form_at c.args.g.now.nodes) (number_at c.loop-n.next.items) n) (sym c.len.ensures)
    (classing_dense c.args.g.now.nodes class number c.loop-n.next.items c.loop-n.keys (subst (λ (i : ℕ). IsClassing c.args.g.now.nodes class number i c.loop-n.next.items c.loop-n.keys) all c.loop-n.invariant))
