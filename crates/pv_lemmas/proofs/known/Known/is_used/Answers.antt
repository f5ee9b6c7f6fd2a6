use Rattle.std.proofs.Common.{List, map, sym, subst, ◌∙◌, true≢false}
use Rattle.pv_graph.specs.Ops.{HaveSorts}
use Rattle.pv_steps.specs.declared.step.Var.{Var}
use Rattle.pv_pattern.proofs.Cited.{if_ok_weaker}
use Rattle.pv_lemmas.proofs.Using.{AreSettled, inner_of, use_of, sides_of}
use Rattle.pv_lemmas.proofs.known.Known.is_used.Goals as goal

pub are_sides-requires-clause-inner : goal.are_sides-requires-clause-inner
are_sides-requires-clause-inner c = inner_of c.args.self.now.lemma.now c.args.self.now.graph c.requires

pub returns-then-not-have_sorts : goal.returns-then-not-have_sorts
returns-then-not-have_sorts c = (
  λ e. absurd (true≢false (sym e)),
  λ u. absurd
      (true≢false
      (sym (c.have_sorts.ensures.1 (subst (λ (vs : List Var). HaveSorts c.args.at.now.graph.now.sorts c.args.at.now.nodes.now (map (λ v. v.sort) vs)) (sym c.as_slice-vars.ensures) u.sorts)) ∙ c.if-not-have_sorts.true)),
)

pub returns-then-not-branch : goal.returns-then-not-branch
returns-then-not-branch c =
    let at = c.args.at.now in (
      λ e. absurd (true≢false (sym e)),
      λ u. absurd
          (true≢false
          (sym (c.in_ok-are_sides.ensures.1 (sides_of c.args.self.now.lemma.now c.args.self.now.graph c.requires at.graph.now at.assumed.now at.nodes.now at.left at.right u)) ∙ c.if-not-branch.true)),
    )

pub returns : goal.returns
returns c =
    let at = c.args.at.now in
    let lemma = c.args.self.now.lemma.now in
    let sorts =
    subst (λ (vs : List Var). HaveSorts at.graph.now.sorts at.nodes.now (map (λ v. v.sort) vs)) c.as_slice-vars.ensures (c.have_sorts.ensures.0 c.if-not-have_sorts.false) in
    let sides = c.in_ok-are_sides.ensures.0 c.if-not-branch.false in
    if_ok_weaker c.are_settled.result
    (λ yes same. (
      λ t. use_of lemma c.args.self.now.graph c.requires at.graph.now at.assumed.now at.nodes.now at.left at.right sorts (subst (λ (vs : List Var). AreSettled vs at.graph.now at.assumed.now at.nodes.now) c.as_slice-vars.ensures (same.0 t)) sides,
      λ u. same.1 (subst (λ (vs : List Var). AreSettled vs at.graph.now at.assumed.now at.nodes.now) (sym c.as_slice-vars.ensures) u.settled),
    )) c.are_settled.ensures
