use Rattle.std.proofs.Common.{◌++◌}
use Rattle.pv_frame.proofs.Words.{constant_rows, load_rows, element_load_rows, store_rows, element_store_rows, move_rows, arithmetic_rows, end_rows}
use Rattle.pv_frame.proofs.ActingLaws.{more_rows}
use Rattle.pv_frame.proofs.plain.plain.Goals as goal

pub returns : goal.returns
returns c =
    let o = c.args.opcode in
    let two = more_rows constant_rows load_rows o c.constant.result c.load.result c.or.result c.constant.ensures c.load.ensures c.or.ensures in
    let three = more_rows (constant_rows ++ load_rows) element_load_rows o c.or.result c.element_load.result c.or-2.result two c.element_load.ensures c.or-2.ensures in
    let four = more_rows (constant_rows ++ load_rows ++ element_load_rows) store_rows o c.or-2.result c.store.result c.or-3.result three c.store.ensures c.or-3.ensures in
    let five = more_rows (constant_rows ++ load_rows ++ element_load_rows ++ store_rows) element_store_rows o c.or-3.result c.element_store.result c.or-4.result four c.element_store.ensures c.or-4.ensures in
    let six = more_rows (constant_rows ++ load_rows ++ element_load_rows ++ store_rows ++ element_store_rows) move_rows o c.or-4.result c.stack_move.result c.or-5.result five c.stack_move.ensures c.or-5.ensures in
    let seven = more_rows (constant_rows ++ load_rows ++ element_load_rows ++ store_rows ++ element_store_rows ++ move_rows) arithmetic_rows o c.or-5.result c.arithmetic.result c.or-6.result six c.arithmetic.ensures c.or-6.ensures in
    more_rows (constant_rows ++ load_rows ++ element_load_rows ++ store_rows ++ element_store_rows ++ move_rows ++ arithmetic_rows) end_rows o c.or-6.result c.ending.result c.or-7.result seven c.ending.ensures c.or-7.ensures
