use Rattle.std.proofs.Common.{List, ℕ, inl, inr, get_or, sym, subst}
use Rattle.std.specs.List.{Contains}
use Rattle.std.proofs.lemmas.List.{take_all}
use Rattle.std.proofs.lemmas.List.Elements.{Contains-get_or}
use Rattle.pv_classes.specs.Keyed.{HasKey}
use Rattle.pv_classes.proofs.Elements.{none_in, take_cases}
use Rattle.pv_classes.proofs.Keying.{has_key, lacks_key}
use Rattle.pv_classes.proofs.forms.with_key.Goals as goal

pub key_of-requires : goal.key_of-requires
key_of-requires c k d lt = c.requires.kids (get_or c.args.list.now c.loop-n.n-index 0) (get_or c.node.result.now.kids k d) c.node.result.now c.node.ensures (Contains-get_or c.node.result.now.kids k d lt)

pub loop-n-init : goal.loop-n-init
loop-n-init c = λ m here has. none_in m here

pub loop-n-preserved : goal.loop-n-preserved
loop-n-preserved c =
    let nodes = c.args.g.now.nodes in let labels = c.args.parts.now.labels in let key = c.args.key.now in
    let list = c.args.list.now in let i = c.loop-n.n-index in
    λ m here has. elim (take_cases list i m c.loop-n-test.true here) [
      | inl before ↦ c.loop-n.invariant m before has
      | inr same ↦ lacks_key nodes labels key c.in_ok-key_of.field-0 c.node.result.now (get_or list i 0) c.eq.result c.node.ensures c.in_ok-key_of.ensures c.eq.ensures c.if-eq.false (subst (λ (n : ℕ). HasKey nodes labels key n) (sym same) has)
    ]

pub returns-then-eq : goal.returns-then-eq
returns-then-eq c =
    has_key c.args.g.now.nodes c.args.parts.now.labels c.args.key.now c.in_ok-key_of.field-0 c.node.result.now (get_or c.args.list.now c.loop-n.n-index 0) c.eq.result c.node.ensures c.in_ok-key_of.ensures c.eq.ensures c.if-eq.true

pub returns : goal.returns
returns c = λ n here has. c.loop-n.invariant n (subst (λ (ns : List ℕ). Contains ns n) (sym (take_all c.loop-n.n-index c.args.list.now c.loop-n-test.false)) here) has
