use Rattle.std.proofs.Common.{◌≡◌, ℕ, ◌+◌, [], ◌↔◌, true, length, get_or, sym, ◌∙◌, ap, subst, arith, List, Vec, Global}
use Rattle.pv_loops.proofs.Words.{false≢true, Contains, TStep, leader_of}
use Rattle.pv_loops.proofs.Sweeping.{sources_nodes}
use Rattle.pv_loops.proofs.Sticking.{AreLeaders, leaders_from_rest, Dropping, dropped_more, dropped_same, dropped_all}
use Rattle.pv_loops.proofs.reduction.Reduction.into_stuck.Goals as goal
use Rattle.pv_loops.proofs.reduction.Reduction.into_stuck.Goals.{then-has_own_source+in_ok-push-2, else-has_own_source}

pub has_own_source-requires : goal.has_own_source-requires
has_own_source-requires c = sources_nodes c.args.sources.now (get_or c.deref-n-items.result.now c.loop-n.n-index 0) _ c.get.result.now c.requires.shape c.requires.size c.get.ensures

pub loop-n-preserved : goal.loop-n-preserved
loop-n-preserved c =
    let leaders : List ℕ = c.deref-n-items.result.now in
    let n : ℕ = get_or leaders c.loop-n.n-index 0 in
    let own : (c.has_own_source.result ≡ true) ↔ ((x : ℕ) × Contains (get_or c.args.sources.now n []) x × (leader_of c.args.self.groups x ≡ n)) =
    subst (λ (l : List ℕ). (c.has_own_source.result ≡ true) ↔ ((x : ℕ) × Contains l x × (leader_of c.args.self.groups x ≡ n))) c.get.ensures c.has_own_source.ensures in
    let all : leader_of c.args.self.groups 0 ≡ 0 → AreLeaders c.args.self.groups leaders = λ e. subst (λ (l : List ℕ). AreLeaders c.args.self.groups l) (sym (c.deref-n-items.ensures.value ∙ c.in_ok-push.ensures.items))
    (leaders_from_rest c.args.self.groups c.args.rest.items ((let s = c.requires.shape.entry in omega (arith, s, c.requires.size)), e) c.requires.rest) in
    elim c.if-has_own_source.branch [
      | then-has_own_source+in_ok-push-2 w ↦
          subst (λ (ts : List TStep). Dropping c.args.sources.now c.args.self ts leaders (c.loop-n.n-index + 1)) (sym (ap (λ (v : Vec TStep Global). v.items) w.steps-is ∙ w.in_ok-push-2.ensures.items))
          (dropped_more c.args.sources.now c.args.self c.loop-n.steps.items leaders c.loop-n.n-index all c.loop-n-test.true (own.0 w.if-has_own_source.true) c.loop-n.invariant)
      | else-has_own_source w ↦
          subst (λ (ts : List TStep). Dropping c.args.sources.now c.args.self ts leaders (c.loop-n.n-index + 1)) (sym (ap (λ (v : Vec TStep Global). v.items) w.steps-is))
          (dropped_same c.args.sources.now c.args.self c.loop-n.steps.items leaders c.loop-n.n-index (λ x. false≢true (sym w.if-has_own_source.false ∙ own.1 x)) c.loop-n.invariant)
    ]

pub returns : goal.returns
returns c =
    let leaders : List ℕ = c.deref-n-items.result.now in
    let all : leader_of c.args.self.groups 0 ≡ 0 → AreLeaders c.args.self.groups leaders = λ e. subst (λ (l : List ℕ). AreLeaders c.args.self.groups l) (sym (c.deref-n-items.ensures.value ∙ c.in_ok-push.ensures.items))
    (leaders_from_rest c.args.self.groups c.args.rest.items ((let s = c.requires.shape.entry in omega (arith, s, c.requires.size)), e) c.requires.rest) in
    let at : c.loop-n.n-index ≡ length leaders = omega arith in
    dropped_all c.args.sources.now c.args.self c.loop-n.steps.items c.args.rest.items leaders c.requires.shape c.requires.size c.requires.groups c.requires.rest (omega (arith, c.requires.some, c.args.rest.ok)) c.requires.ends all
    (subst (λ i. Dropping c.args.sources.now c.args.self c.loop-n.steps.items leaders i) at c.loop-n.invariant)
