use Rattle.std.proofs.Common.{rules, ◌≡◌, ℕ, map, ◌∙◌, subst}
use Rattle.pv_graph.specs.Walks.{In}
use Rattle.pv_pattern.specs.declared.pattern.Pattern.{the_lemmas}
use Rattle.pv_pattern.specs.Patterns.{Head, Patterns, over}
use Rattle.pv_pattern.specs.Seen.{head_seen, listed, seen}
use Rattle.pv_match.specs.Bindings.{head_number, with_number}
use Rattle.pv_match.specs.Grouping.{Gains}
use Rattle.pv_match.proofs.Listing.{gains_kept, gains_has}
use Rattle.pv_match.proofs.rules.add_rule.Goals as goal

same_head : (h k : Head) (ps qs : Patterns) → over h ps ≡ over k qs → h ≡ k
same_head h k ps qs e = cc

pub returns : goal.returns
returns c =
    let gains : Gains c.args.rules.now.items c.put.new.groups.items (head_number (head_seen c.in-Over.head)) c.args.i =
    subst (λ (k : ℕ). Gains c.args.rules.now.items c.put.new.groups.items k c.args.i) c.head_number.ensures (subst (Gains c.args.rules.now.items c.put.new.groups.items c.head_number.result) c.in-Ok.ensures.1 c.in_ok-put.ensures) in
    let left : over (head_seen c.in-Over.head) (listed (map seen c.in-Over.field-1.items)) ≡ seen c.args.rule.now.left = rw c.in-Over.is (search (rules, the_lemmas)) in
    record {
      kept = gains_kept c.args.rules.now.items c.put.new.groups.items (head_number (head_seen c.in-Over.head)) c.args.i gains;
      has = λ h ps e. subst (λ (k : Head). In (with_number c.put.new.groups.items (head_number k)) c.args.i) (same_head (head_seen c.in-Over.head) h (listed (map seen c.in-Over.field-1.items)) ps (left ∙ e)) (gains_has c.args.rules.now.items c.put.new.groups.items (head_number (head_seen c.in-Over.head)) c.args.i gains);
    }
