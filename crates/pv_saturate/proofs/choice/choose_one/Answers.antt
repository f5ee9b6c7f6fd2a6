use Rattle.std.proofs.Common.{List, map, sym, ◌∙◌, subst, true≢false}
use Rattle.pv_value.specs.declared.number.Num.{Num}
use Rattle.pv_graph.specs.Walks.{In}
use Rattle.pv_pattern.specs.Patterns.{settled, not_free}
use Rattle.pv_pattern.specs.Seen.{side_seen}
use Rattle.pv_pattern.specs.declared.names.NameId.TheVariants.{Constant}
use Rattle.pv_instances.specs.Seen.{instance_seen}
use Rattle.pv_instances.proofs.Cited.{if_ok_more}
use Rattle.pv_witness.specs.Numbered.{numbered}
use Rattle.pv_saturate.specs.Choice.{HasConstant, IsConstantNode, IsChosenFor}
use Rattle.pv_saturate.proofs.Choosing.{low, settled_chosen, free_chosen, itself_chosen, has_it, constant_chosen}
use Rattle.pv_saturate.proofs.choice.choose_one.Goals as goal

pub witness-requires-clause-there : goal.witness-requires-clause-there
witness-requires-clause-there c = low c.args.graph.now c.args.numbers.now (instance_seen c.args.matched.now) c.args.witnesses.now c.len-count.ensures.graph c.requires.sealed c.requires.numbered c.requires.sorts c.requires.can c.args.j c.args.v c.requires.variable

pub witness-requires-then-asks_not_free-clause-there : goal.witness-requires-then-asks_not_free-clause-there
witness-requires-then-asks_not_free-clause-there c = low c.args.graph.now c.args.numbers.now (instance_seen c.args.matched.now) c.args.witnesses.now c.len-count.ensures.graph c.requires.sealed c.requires.numbered c.requires.sorts c.requires.can c.args.j c.args.v c.requires.variable

pub returns-then-asks_settled-clause-chosen : goal.returns-then-asks_settled-clause-chosen
returns-then-asks_settled-clause-chosen c =
    let asks = subst (λ (xs : List _). In (map side_seen xs) (settled c.args.j)) c.deref.ensures.value (c.asks_settled.ensures.0 c.if-asks_settled.true) in
    settled_chosen c.args.graph.now c.args.numbers.now (instance_seen c.args.matched.now) c.args.witnesses.now c.len-count.ensures.graph c.requires.sealed c.requires.numbered c.requires.sorts c.requires.can c.args.j c.args.v c.requires.variable c.witness.result asks c.witness.ensures

pub returns-then-asks_not_free-clause-chosen : goal.returns-then-asks_not_free-clause-chosen
returns-then-asks_not_free-clause-chosen c =
    let asks = subst (λ (xs : List _). In (map side_seen xs) (not_free c.args.j)) c.deref-2.ensures.value (c.asks_not_free.ensures.0 c.if-asks_not_free.true) in
    free_chosen c.args.graph.now c.args.numbers.now (instance_seen c.args.matched.now) c.args.witnesses.now c.len-count.ensures.graph c.requires.sealed c.requires.numbered c.requires.sorts c.requires.can c.args.j c.args.v c.requires.variable c.witness-then-asks_not_free.result asks c.witness-then-asks_not_free.ensures

pub constant_node-requires-clause-has : goal.constant_node-requires-clause-has
constant_node-requires-clause-has c =
    let i = (c.requires.names (Constant c.args.j)).0 (c.has_constant.ensures.0 c.if-has_constant.true) in
    subst (λ (n : Num). HasConstant c.args.graph.now n) (sym c.constant.ensures) (has_it c.args.graph.now c.args.numbers.now (instance_seen c.args.matched.now) c.args.witnesses.now c.len-count.ensures.graph c.requires.sealed c.requires.numbered c.requires.sorts c.requires.can c.args.j c.args.v c.requires.variable i)

pub returns-then-has_constant-clause-chosen : goal.returns-then-has_constant-clause-chosen
returns-then-has_constant-clause-chosen c =
    let i = (c.requires.names (Constant c.args.j)).0 (c.has_constant.ensures.0 c.if-has_constant.true) in
    let no_settled : In (map side_seen c.args.matched.now.entry.now.sides.items) (settled c.args.j) → ⊥ =
    λ a. true≢false (sym (c.asks_settled.ensures.1 (subst (λ (xs : List _). In (map side_seen xs) (settled c.args.j)) (sym c.deref.ensures.value) a)) ∙ c.if-asks_settled.false) in
    let no_free : In (map side_seen c.args.matched.now.entry.now.sides.items) (not_free c.args.j) → ⊥ =
    λ a. true≢false (sym (c.asks_not_free.ensures.1 (subst (λ (xs : List _). In (map side_seen xs) (not_free c.args.j)) (sym c.deref-2.ensures.value) a)) ∙ c.if-asks_not_free.false) in
    if_ok_more c.constant_node.result (λ w. IsConstantNode c.args.graph.now c.constant.result w)
    (λ w. IsChosenFor (numbered c.args.graph.now c.args.numbers.now) c.args.graph.now c.args.numbers.now (instance_seen c.args.matched.now) c.args.witnesses.now c.args.j c.args.v w)
    (λ w is. constant_chosen c.args.graph.now c.args.numbers.now (instance_seen c.args.matched.now) c.args.witnesses.now c.len-count.ensures.graph c.requires.sealed c.requires.numbered c.requires.sorts c.requires.can c.args.j c.args.v c.requires.variable w i no_settled no_free (subst (λ (n : Num). IsConstantNode c.args.graph.now n w) c.constant.ensures is))
    c.constant_node.ensures.is

pub returns-clause-chosen : goal.returns-clause-chosen
returns-clause-chosen c =
    let no_settled : In (map side_seen c.args.matched.now.entry.now.sides.items) (settled c.args.j) → ⊥ =
    λ a. true≢false (sym (c.asks_settled.ensures.1 (subst (λ (xs : List _). In (map side_seen xs) (settled c.args.j)) (sym c.deref.ensures.value) a)) ∙ c.if-asks_settled.false) in
    let no_free : In (map side_seen c.args.matched.now.entry.now.sides.items) (not_free c.args.j) → ⊥ =
    λ a. true≢false (sym (c.asks_not_free.ensures.1 (subst (λ (xs : List _). In (map side_seen xs) (not_free c.args.j)) (sym c.deref-2.ensures.value) a)) ∙ c.if-asks_not_free.false) in
    itself_chosen c.args.graph.now c.args.numbers.now (instance_seen c.args.matched.now) c.args.witnesses.now c.len-count.ensures.graph c.requires.sealed c.requires.numbered c.requires.sorts c.requires.can c.args.j c.args.v c.requires.variable no_settled no_free (λ i. true≢false (sym (c.has_constant.ensures.1 ((c.requires.names (Constant c.args.j)).1 i)) ∙ c.if-has_constant.false))
