use Rattle.std.proofs.Common.{ℕ, ◌++◌, length, map, sym, ap, ◌∙◌}
use Rattle.std.specs.List.{flat_map}
use Rattle.pv_class.specs.Items.{u2, member_text}
use Rattle.pv_asm.specs.Classes.{member_of}
use Rattle.pv_asm.proofs.Appends.{put_before, count_mapped}
use Rattle.pv_asm.proofs.class.push_methods.Goals as goal

pub returns : goal.returns
returns c =
    put_before c.push_each.new.out.items c.push_count.new.out.items c.args.out.now.items (flat_map member_text (map member_of c.args.methods.now)) (u2 (length (map member_of c.args.methods.now))) c.in_ok-push_each.ensures
    (c.in_ok-push_count.ensures ∙ ap (λ (n : ℕ). c.args.out.now.items ++ u2 n) (sym (count_mapped member_of c.args.methods.now)))
