use Rattle.std.proofs.Common.{◌≡◌, ◌++◌, drop, map}
use Rattle.std.specs.List.{flat_map}
use Rattle.pv_class.specs.Items.{member_text}
use Rattle.pv_asm.specs.Classes.{member_of}
use Rattle.pv_asm.proofs.class.push_each.Given as goal

abbrev pub invariant-loop-method : goal.invariant-loop-method
invariant-loop-method l = l.out.items ++ flat_map member_text (map member_of (drop l.method-index l.methods)) ≡ l.initial.out.items ++ flat_map member_text (map member_of l.methods)
