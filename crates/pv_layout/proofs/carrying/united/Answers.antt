use Rattle.std.proofs.Common.{◌≡◌, ℕ, ◌<◌, length, take, take_all, get_or, Some, slice_get, sym, ap, ◌∙◌}
use Rattle.pv_layout.proofs.Words.{list_any, Contains-get_or}
use Rattle.pv_layout.proofs.Uniting.{block_at, marks_as, union_more}
use Rattle.pv_layout.proofs.carrying.united.Goals as goal

pub bounds-blocks-member : goal.bounds-blocks-member
bounds-blocks-member c = c.requires.below (get_or c.args.members.now c.loop-member.member-index 0) (Contains-get_or c.args.members.now c.loop-member.member-index 0 c.loop-member-test.true)

pub add-requires : goal.add-requires
add-requires c =
    let m : ℕ = get_or c.args.members.now c.loop-member.member-index 0 in
    let low : m < length c.args.blocks.now = c.requires.below m (Contains-get_or c.args.members.now c.loop-member.member-index 0 c.loop-member-test.true) in
    c.loop-member.invariant.size ∙ sym (c.requires.size m c.index-blocks-member.result (block_at c.args.blocks.now m _ c.index-blocks-member.result low c.index-blocks-member.is))

pub loop-member-preserved : goal.loop-member-preserved
loop-member-preserved c =
    let m : ℕ = get_or c.args.members.now c.loop-member.member-index 0 in
    let low : m < length c.args.blocks.now = c.requires.below m (Contains-get_or c.args.members.now c.loop-member.member-index 0 c.loop-member-test.true) in
    let at : slice_get c.args.blocks.now m ≡ Some c.index-blocks-member.result = block_at c.args.blocks.now m _ c.index-blocks-member.result low c.index-blocks-member.is in
    record {
      size = c.add.ensures.size ∙ c.loop-member.invariant.size;
      marks = λ test each.
          union_more c.args.count test c.args.members.now c.loop-member.member-index c.loop-member.all c.index-blocks-member.result c.add.new.self c.loop-member-test.true (c.loop-member.invariant.marks test each)
          (each m c.index-blocks-member.result at) c.add.ensures;
    }

pub returns : goal.returns
returns c test each =
    marks_as c.args.count (λ s. list_any (λ n. test n s) (take c.loop-member.member-index c.args.members.now)) (λ s. list_any (λ n. test n s) c.args.members.now) c.loop-member.all
    (λ s. ap (list_any (λ n. test n s)) (take_all c.loop-member.member-index c.args.members.now c.loop-member-test.false)) (c.loop-member.invariant.marks test each)
