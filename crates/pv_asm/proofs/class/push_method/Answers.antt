use Rattle.std.proofs.Common.{◌≡◌, ℕ, List, [], ◌++◌, length, ap, ◌∙◌}
use Rattle.pv_class.specs.Items.{u2, u4, code_text}
use Rattle.pv_asm.specs.Classes.{code_of, member_of}
use Rattle.pv_asm.proofs.Appends.{put_before, put_last}
use Rattle.pv_asm.proofs.class.push_method.Goals as goal

pub returns : goal.returns
returns c =
    let m = c.args.method.now in
    let text : List ℕ = code_text (code_of m) in
    let whole : List ℕ = c.push_run.new.out.items in
    let run : List ℕ = u4 (length text) ++ text in
    let contents : c.deref.result.now ≡ text = c.deref.ensures.value ∙ c.in_ok-contents.ensures in
    let flags : c.push_u2.new.out.items ≡ c.args.out.now.items ++ u2 (member_of m).flags = c.in_ok-push_u2.ensures ∙ ap (λ (n : ℕ). c.args.out.now.items ++ u2 n) c.flags_of.ensures in
    let one = put_last whole c.push_u2-5.new.out.items (u4 (length c.deref.result.now) ++ c.deref.result.now) run c.in_ok-push_run.ensures (ap (λ (bytes : List ℕ). u4 (length bytes) ++ bytes) contents) in
    let two = put_before whole c.push_u2-5.new.out.items c.push_u2-4.new.out.items (run ++ []) (u2 m.head.code) one c.in_ok-push_u2-5.ensures in
    let three = put_before whole c.push_u2-4.new.out.items c.push_u2-3.new.out.items (u2 m.head.code ++ (run ++ [])) (u2 1) two c.in_ok-push_u2-4.ensures in
    let four = put_before whole c.push_u2-3.new.out.items c.push_u2-2.new.out.items (u2 1 ++ (u2 m.head.code ++ (run ++ []))) (u2 m.head.desc) three c.in_ok-push_u2-3.ensures in
    let five = put_before whole c.push_u2-2.new.out.items c.push_u2.new.out.items (u2 m.head.desc ++ (u2 1 ++ (u2 m.head.code ++ (run ++ [])))) (u2 m.head.name) four c.in_ok-push_u2-2.ensures in
    put_before whole c.push_u2.new.out.items c.args.out.now.items (u2 m.head.name ++ (u2 m.head.desc ++ (u2 1 ++ (u2 m.head.code ++ (run ++ []))))) (u2 (member_of m).flags) five flags
