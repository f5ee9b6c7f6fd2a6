use Rattle.std.proofs.Common.{◌≡◌, ◌-◌, ◌+◌, ℕ, length, refl, sym, subst, arith, true≢false}
use Rattle.pv_lemmas.proofs.Asking.{AreSought, true_of, false_of, sought_first, sought_next, sought_all, not_sides}
use Rattle.pv_lemmas.proofs.under.Standing.are_sides.Goals as goal

pub loop-k-init : goal.loop-k-init
loop-k-init c =
    let inner = c.args.self.now.inner.now in
    let all : length inner.nodes ≡ c.len-len.result - 0 = omega (arith, c.len-len.ensures.len) in
    let long : length c.ask-2.new.asked.items ≡ length inner.nodes = omega (arith, c.ask-2.new.asked.ok.0, c.in_ok-ask-2.ensures.len, c.in_ok-ask.ensures.len, c.in_ok-asked.ensures.len, c.len-len.ensures.len) in
    subst (AreSought inner c.args.self.now.nodes.now c.args.self.now.graph.now c.args.sides c.args.at c.ask-2.new.asked.items) all
    (sought_first inner c.args.self.now.nodes.now c.args.self.now.graph.now c.args.sides c.args.at c.in_ok-asked.asked.items c.ask.new.asked.items c.ask-2.new.asked.items c.in_ok-asked.ensures.none c.in_ok-ask.ensures.adds c.in_ok-ask-2.ensures.adds long)

pub loop-k-preserved : goal.loop-k-preserved
loop-k-preserved c =
    let inner = c.args.self.now.inner.now in
    let p : ℕ = c.len-len.result - 1 - c.loop-k.k in
    let Is : ℕ → Type 0 = AreSought inner c.args.self.now.nodes.now c.args.self.now.graph.now c.args.sides c.args.at c.loop-k.asked.items in
    let before : c.len-len.result - c.loop-k.k ≡ p + 1 = omega (arith, c.loop-k-test.true) in
    let after : p ≡ c.len-len.result - (c.loop-k.k + 1) = omega (arith, c.loop-k-test.true) in
    let long : length c.meet_all.new.asked.items ≡ length c.loop-k.asked.items = omega (arith, c.meet_all.new.asked.ok.0, c.loop-k.asked.ok.0, c.in_ok-meet_all.ensures.len) in
    subst (AreSought inner c.args.self.now.nodes.now c.args.self.now.graph.now c.args.sides c.args.at c.meet_all.new.asked.items) after
    (sought_next inner c.args.self.now.nodes.now c.args.self.now.graph.now c.args.sides c.args.at c.loop-k.asked.items c.meet_all.new.asked.items p long (subst Is before c.loop-k.invariant)
    (true_of c.in_ok-meet_all.field-0 c.if-not-branch.false c.in_ok-meet_all.ensures.yes))

pub returns-then-not-branch : goal.returns-then-not-branch
returns-then-not-branch c = (
  λ e. absurd (true≢false (sym e)),
  λ are. absurd
      (not_sides c.args.self.now.inner.now c.args.self.now.nodes.now c.args.self.now.graph.now c.args.sides c.args.at c.loop-k.asked.items (c.len-len.result - 1 - c.loop-k.k) (c.len-len.result - c.loop-k.k) c.loop-k.invariant
      (false_of c.in_ok-meet_all.field-0 c.if-not-branch.true c.in_ok-meet_all.ensures.no) are),
)

pub returns : goal.returns
returns c =
    let inner = c.args.self.now.inner.now in
    let none : c.len-len.result - c.loop-k.k ≡ 0 = omega (arith, c.loop-k-test.false) in
    let Is : ℕ → Type 0 = AreSought inner c.args.self.now.nodes.now c.args.self.now.graph.now c.args.sides c.args.at c.loop-k.asked.items in
    let all = sought_all inner c.args.self.now.nodes.now c.args.self.now.graph.now c.args.sides c.args.at c.requires.inner c.loop-k.asked.items (subst Is none c.loop-k.invariant) in
    (λ e. all, λ are. refl)
