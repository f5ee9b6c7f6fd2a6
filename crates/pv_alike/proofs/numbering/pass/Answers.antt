use Rattle.std.proofs.Common.{◌≡◌, ◌<◌, ◌≤◌, ◌^◌, ◌∙◌, ℕ, List, length, get_or, sym, ap, subst, arith}
use Rattle.pv_graph.specs.declared.node.Node.{Node}
use Rattle.pv_alike.specs.Keys.{Keyed, number_at, key_of, IsOnto}
use Rattle.pv_alike.proofs.Places.{read_at}
use Rattle.pv_alike.proofs.Upward.{upward_low, upward_few}
use Rattle.pv_alike.proofs.Keying.{passing_more, passing_end, passing_onto, keyed_pass}
use Rattle.pv_alike.proofs.numbering.pass.Goals as goal

pub number-requires : goal.number-requires
number-requires c =
    let few : length c.args.g.now.nodes < 2 ^ 32 = (let range = c.len.type_inv in let long = c.len.ensures.len in omega (arith, range, long)) in
    omega (arith, c.loop-n.invariant.few, c.loop-n.invariant.reached, upward_few c.args.g.now.nodes c.args.order.now c.requires.order.up, few)

pub returns-clause-few : goal.returns-clause-few
returns-clause-few c =
    let few : length c.args.g.now.nodes < 2 ^ 32 = (let range = c.len.type_inv in let long = c.len.ensures.len in omega (arith, range, long)) in
    omega (arith, c.len-2.ensures, c.loop-n.invariant.few, c.loop-n.invariant.reached, upward_few c.args.g.now.nodes c.args.order.now c.requires.order.up, few)

pub index_mut-requires : goal.index_mut-requires
index_mut-requires c =
    let n = get_or c.as_slice-n-items.result.now c.loop-n.n-index 0 in
    let at = read_at c.args.order.now c.as_slice-n-items.result.now c.loop-n.n-index c.as_slice-n-items.ensures c.loop-n-test.true in
    let low : n < length c.args.g.now.nodes = upward_low c.args.g.now.nodes c.args.order.now c.loop-n.n-index n c.requires.order.up at in
    omega (arith, low, c.loop-n.invariant.long, c.loop-n.numbers.ok.0)

pub loop-n-preserved : goal.loop-n-preserved
loop-n-preserved c =
    let n = get_or c.as_slice-n-items.result.now c.loop-n.n-index 0 in
    let at = read_at c.args.order.now c.as_slice-n-items.result.now c.loop-n.n-index c.as_slice-n-items.ensures c.loop-n-test.true in
    let class = number_at c.args.classes.now in
    let key : c.in_ok-key.key ≡ key_of class (number_at c.loop-n.numbers.items) n c.node.result.now =
    c.in_ok-key.ensures ∙ ap (λ (xs : List ℕ). key_of class (number_at xs) n c.node.result.now) c.deref.ensures.value in
    passing_more c.args.g.now.nodes class c.args.order.now c.requires.order c.loop-n.n-index n c.node.result.now c.loop-n.numbers.items c.loop-n.keys c.number.new.self c.in_ok-numbers-2.field-0 at c.node.ensures c.loop-n.invariant
    (subst (λ (k : Node). Keyed c.loop-n.keys c.number.new.self k c.in_ok-numbers-2.field-0) key c.in_ok-numbers-2.ensures)

pub returns-clause-pass : goal.returns-clause-pass
returns-clause-pass c =
    let class = number_at c.args.classes.now in
    let all : length c.args.order.now ≤ c.loop-n.n-index = omega (arith, c.loop-n-test.false, ap length c.as_slice-n-items.ensures) in
    keyed_pass c.args.g.now.nodes class (number_at c.loop-n.numbers.items) c.loop-n.keys (passing_end c.args.g.now.nodes class c.args.order.now c.requires.order c.loop-n.n-index c.loop-n.numbers.items c.loop-n.keys c.loop-n.invariant all)

pub returns-clause-onto : goal.returns-clause-onto
returns-clause-onto c =
    let class = number_at c.args.classes.now in
    let all : length c.args.order.now ≤ c.loop-n.n-index = omega (arith, c.loop-n-test.false, ap length c.as_slice-n-items.ensures) in
    subst (λ (n : ℕ). IsOnto c.args.g.now.nodes (number_at c.loop-n.numbers.items) n) (sym c.len-2.ensures)
    (passing_onto c.args.g.now.nodes class c.args.order.now c.requires.order c.loop-n.n-index c.loop-n.numbers.items c.loop-n.keys c.loop-n.invariant all)
