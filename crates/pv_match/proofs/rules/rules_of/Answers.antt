use Rattle.std.proofs.Common.{◌≡◌, ℕ, map, Some, slice_get, option_map, length, inl, inr, refl, sym, ap, ◌∙◌, subst, arith}
use Rattle.std.proofs.lemmas.Option.{slice_get-map, slice_get_read, slice_get_within, same_Some}
use Rattle.std.proofs.lemmas.List.{length-map}
use Rattle.pv_graph.specs.Walks.{In}
use Rattle.pv_pattern.specs.Patterns.{Axiom}
use Rattle.pv_pattern.specs.Seen.{axiom_seen}
use Rattle.pv_match.specs.Bindings.{head_number, with_number}
use Rattle.pv_match.proofs.Listing.{below_or_at}
use Rattle.pv_match.proofs.rules.rules_of.Goals as goal

pub loop-i-preserved : goal.loop-i-preserved
loop-i-preserved c j a h ps low at left = elim (below_or_at j c.loop-i.i low) [
  | inl l ↦ c.in_ok-add_rule.ensures.kept (head_number h) j (c.loop-i.invariant j a h ps l at left)
  | inr e ↦
      let here : slice_get (map axiom_seen c.args.table.now) c.loop-i.i ≡ Some (axiom_seen c.index-table-i.result) =
      slice_get-map axiom_seen c.args.table.now c.loop-i.i ∙ ap (option_map axiom_seen) (slice_get_read c.args.table.now (length c.args.table.now) c.loop-i.i c.index-table-i.result refl c.loop-i-test.true c.index-table-i.is) in
      let same : axiom_seen c.index-table-i.result ≡ a = same_Some (axiom_seen c.index-table-i.result) a (sym here ∙ (ap (slice_get (map axiom_seen c.args.table.now)) (sym e) ∙ at)) in
      subst (λ (k : ℕ). In (with_number c.add_rule.new.rules.items (head_number h)) k) (sym e) (c.in_ok-add_rule.ensures.has h ps (ap (λ (b : Axiom). b.left) same ∙ left))
]

pub returns : goal.returns
returns c j a h ps at left =
    let low = slice_get_within (map axiom_seen c.args.table.now) j a at in
    c.loop-i.invariant j a h ps (omega (arith, low, length-map c.args.table.now axiom_seen, c.loop-i-test.false)) at left
