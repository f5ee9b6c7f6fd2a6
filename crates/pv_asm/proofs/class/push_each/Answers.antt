use Rattle.std.proofs.Common.{◌++◌, map, arith}
use Rattle.std.specs.List.{flat_map}
use Rattle.pv_class.specs.Items.{member_text}
use Rattle.pv_asm.specs.Classes.{member_of}
use Rattle.pv_asm.proofs.Appends.{flat_more}
use Rattle.pv_asm.proofs.class.push_each.Goals as goal

pub loop-method-preserved : goal.loop-method-preserved
loop-method-preserved c =
    flat_more member_text member_of c.loop-method.out.items c.push_method.new.out.items (c.args.out.now.items ++ flat_map member_text (map member_of c.args.methods.now)) c.args.methods.now c.loop-method.method-index c.method-item.result (omega arith)
    c.method-item.is c.in_ok-push_method.ensures c.loop-method.invariant
