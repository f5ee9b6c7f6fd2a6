use Rattle.std.proofs.Common.{Bool, List, sym, ◌∙◌, subst, subst₂}
use Rattle.pv_decide.proofs.Words.{Scope, Site, IsScope, AreSo, KnowAhead, IsWalk, scope_of}
use Rattle.pv_decide.proofs.Reached.{ends_so}
use Rattle.pv_decide.proofs.OfFlow.{scope_low, tree_is}
use Rattle.pv_decide.proofs.trees.Trees.walk.Goals as goal

pub ahead-ahead-requires-clause-known : goal.ahead-ahead-requires-clause-known
ahead-ahead-requires-clause-known c =
    subst₂ (λ (sites : List Site) (ends : List Bool). AreSo sites c.scope.result c.args.target ends) (sym c.deref-2.ensures.value) (sym (c.in_ok-ends.ensures.items ∙ c.deref.ensures.value))
    (ends_so c.args.self.now.sites.items c.scope.result c.args.target c.args.self.now.ends.items c.requires.ready.ends)

pub walk-requires-clause-scope : goal.walk-requires-clause-scope
walk-requires-clause-scope c =
    subst₂ (λ (sites : List Site) (r : Scope). IsScope sites r) (sym c.deref-3.ensures.value) (sym c.scope.ensures) (scope_low c.args.self.now c.args.region c.requires.ready c.requires.region)

pub returns-clause-gives : goal.returns-clause-gives
returns-clause-gives c =
    let know : KnowAhead c.args.self.now.sites.items (scope_of c.args.self.now c.args.region) c.args.target c.ahead-ahead.result.items =
    subst₂ (λ (sites : List Site) (r : Scope). KnowAhead sites r c.args.target c.ahead-ahead.result.items) c.deref-2.ensures.value c.scope.ensures c.ahead-ahead.ensures in
    let walk : IsWalk c.args.self.now.sites.items (scope_of c.args.self.now c.args.region) c.args.target c.ahead-ahead.result.items c.in_ok-nodes.nodes.items =
    subst₂ (λ (sites : List Site) (r : Scope). IsWalk sites r c.args.target c.ahead-ahead.result.items c.in_ok-nodes.nodes.items) c.deref-3.ensures.value c.scope.ensures
    (subst (λ (known : List Bool). IsWalk c.deref-3.result.now c.scope.result c.args.target known c.in_ok-nodes.nodes.items) c.deref-5.ensures.value c.in_ok-nodes.ensures.gives) in
    tree_is c.args.self.now c.args.region c.args.target c.ahead-ahead.result.items (record { nodes = c.in_ok-nodes.nodes }) know walk
