use Rattle.std.proofs.Common.{◌≡◌, ℕ, List, ◌++◌, map, ap, ◌∙◌}
use Rattle.pv_class.specs.Items.{u2, u4, table, member_text}
use Rattle.pv_asm.specs.declared.draft.Method.{Method}
use Rattle.pv_asm.specs.Classes.{member_of}
use Rattle.pv_asm.specs.Needs.{pool_text}
use Rattle.pv_asm.proofs.Appends.{put_before, put_first}
use Rattle.pv_asm.proofs.class.class_bytes.Goals as goal

pub returns : goal.returns
returns c =
    let d = c.args.draft.now in
    let whole : List ℕ = c.push_u2-8.new.out.items in
    let end0 : List ℕ = u2 0 in
    let magic : c.extend_from_slice.new.self.items ≡ c.new-out.result.items ++ u4 0xCAFEBABE =
    c.in_ok-extend_from_slice.ensures.items ∙ ap (λ (bytes : List ℕ). c.new-out.result.items ++ bytes) c.to_be_bytes.ensures
    in
    let methods : c.push_methods.new.out.items ≡ c.push_u2-7.new.out.items ++ table member_text (map member_of d.methods) =
    c.in_ok-push_methods.ensures ∙ ap (λ (ms : List Method). c.push_u2-7.new.out.items ++ table member_text (map member_of ms)) c.as_slice.ensures
    in
    let end1 : List ℕ = table member_text (map member_of d.methods) ++ end0 in
    let step1 : whole ≡ c.push_u2-7.new.out.items ++ end1 = put_before whole c.push_methods.new.out.items c.push_u2-7.new.out.items end0 (table member_text (map member_of d.methods)) c.in_ok-push_u2-8.ensures methods in
    let end2 : List ℕ = u2 0 ++ end1 in
    let step2 : whole ≡ c.push_u2-6.new.out.items ++ end2 = put_before whole c.push_u2-7.new.out.items c.push_u2-6.new.out.items end1 (u2 0) step1 c.in_ok-push_u2-7.ensures in
    let end3 : List ℕ = u2 0 ++ end2 in
    let step3 : whole ≡ c.push_u2-5.new.out.items ++ end3 = put_before whole c.push_u2-6.new.out.items c.push_u2-5.new.out.items end2 (u2 0) step2 c.in_ok-push_u2-6.ensures in
    let end4 : List ℕ = u2 d.superclass ++ end3 in
    let step4 : whole ≡ c.push_u2-4.new.out.items ++ end4 = put_before whole c.push_u2-5.new.out.items c.push_u2-4.new.out.items end3 (u2 d.superclass) step3 c.in_ok-push_u2-5.ensures in
    let end5 : List ℕ = u2 d.class ++ end4 in
    let step5 : whole ≡ c.push_u2-3.new.out.items ++ end5 = put_before whole c.push_u2-4.new.out.items c.push_u2-3.new.out.items end4 (u2 d.class) step4 c.in_ok-push_u2-4.ensures in
    let end6 : List ℕ = u2 0x0021 ++ end5 in
    let step6 : whole ≡ c.push.new.out.items ++ end6 = put_before whole c.push_u2-3.new.out.items c.push.new.out.items end5 (u2 0x0021) step5 c.in_ok-push_u2-3.ensures in
    let end7 : List ℕ = pool_text d.pool ++ end6 in
    let step7 : whole ≡ c.push_u2-2.new.out.items ++ end7 = put_before whole c.push.new.out.items c.push_u2-2.new.out.items end6 (pool_text d.pool) step6 c.in_ok-push.ensures in
    let end8 : List ℕ = u2 52 ++ end7 in
    let step8 : whole ≡ c.push_u2.new.out.items ++ end8 = put_before whole c.push_u2-2.new.out.items c.push_u2.new.out.items end7 (u2 52) step7 c.in_ok-push_u2-2.ensures in
    let end9 : List ℕ = u2 0 ++ end8 in
    let step9 : whole ≡ c.extend_from_slice.new.self.items ++ end9 = put_before whole c.push_u2.new.out.items c.extend_from_slice.new.self.items end8 (u2 0) step8 c.in_ok-push_u2.ensures in
    let end10 : List ℕ = u4 0xCAFEBABE ++ end9 in
    let step10 : whole ≡ c.new-out.result.items ++ end10 = put_before whole c.extend_from_slice.new.self.items c.new-out.result.items end9 (u4 0xCAFEBABE) step9 magic in
    put_first whole c.new-out.result.items end10 step10 c.new-out.ensures.items
