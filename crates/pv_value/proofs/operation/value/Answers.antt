use Rattle.std.proofs.Common.{ℤ, pos}
use Rattle.pv_value.specs.declared.operation.ScalarOp.TheVariants.{Iadd, Isub, Imul, Idiv, Irem, Ishl, Ishr, Iushr, Iand, Ior, Ixor, Ieq, Ilt, Ineg, I2b, I2c, I2s, Ladd, Lsub, Lmul, Ldiv, Lrem, Lshl, Lshr, Lushr, Land, Lor, Lxor, Leq, Lcmp, Lneg, L2i}
use Rattle.pv_value.specs.Operations.{scalar_of}
use Rattle.pv_value.proofs.Choices.{of_ints, of_int, of_itself, of_longs, of_long, of_count, int_of_longs, int_of_long}
use Rattle.pv_value.proofs.operation.value.Goals as goal

pub returns-in-Iadd : goal.returns-in-Iadd
returns-in-Iadd c = rw c.in-Iadd.is (of_ints (scalar_of Iadd) c.args.a c.args.b c.to_int-x.result c.to_int-y.result c.add.result c.from.result (rw c.in-Iadd.is at c.requires) c.to_int-x.ensures c.to_int-y.ensures c.add.type_inv c.add.ensures c.from.ensures)

pub returns-in-Isub : goal.returns-in-Isub
returns-in-Isub c = rw c.in-Isub.is (of_ints (scalar_of Isub) c.args.a c.args.b c.to_int-x.result c.to_int-y.result c.sub.result c.from-in-Isub.result (rw c.in-Isub.is at c.requires) c.to_int-x.ensures c.to_int-y.ensures c.sub.type_inv c.sub.ensures c.from-in-Isub.ensures)

pub returns-in-Imul : goal.returns-in-Imul
returns-in-Imul c = rw c.in-Imul.is (of_ints (scalar_of Imul) c.args.a c.args.b c.to_int-x.result c.to_int-y.result c.mul.result c.from-in-Imul.result (rw c.in-Imul.is at c.requires) c.to_int-x.ensures c.to_int-y.ensures c.mul.type_inv c.mul.ensures c.from-in-Imul.ensures)

pub returns-in-Idiv : goal.returns-in-Idiv
returns-in-Idiv c = rw c.in-Idiv.is (of_ints (scalar_of Idiv) c.args.a c.args.b c.to_int-x.result c.to_int-y.result c.div.result c.from-in-Idiv.result (rw c.in-Idiv.is at c.requires) c.to_int-x.ensures c.to_int-y.ensures c.div.type_inv c.div.ensures c.from-in-Idiv.ensures)

pub returns-in-Irem : goal.returns-in-Irem
returns-in-Irem c = rw c.in-Irem.is (of_ints (scalar_of Irem) c.args.a c.args.b c.to_int-x.result c.to_int-y.result c.rem.result c.from-in-Irem.result (rw c.in-Irem.is at c.requires) c.to_int-x.ensures c.to_int-y.ensures c.rem.type_inv c.rem.ensures c.from-in-Irem.ensures)

pub returns-in-Ishl : goal.returns-in-Ishl
returns-in-Ishl c = rw c.in-Ishl.is (of_ints (scalar_of Ishl) c.args.a c.args.b c.to_int-x.result c.to_int-y.result c.shl.result c.from-in-Ishl.result (rw c.in-Ishl.is at c.requires) c.to_int-x.ensures c.to_int-y.ensures c.shl.type_inv c.shl.ensures c.from-in-Ishl.ensures)

pub returns-in-Ishr : goal.returns-in-Ishr
returns-in-Ishr c = rw c.in-Ishr.is (of_ints (scalar_of Ishr) c.args.a c.args.b c.to_int-x.result c.to_int-y.result c.shr.result c.from-in-Ishr.result (rw c.in-Ishr.is at c.requires) c.to_int-x.ensures c.to_int-y.ensures c.shr.type_inv c.shr.ensures c.from-in-Ishr.ensures)

pub returns-in-Iushr : goal.returns-in-Iushr
returns-in-Iushr c = rw c.in-Iushr.is (of_ints (scalar_of Iushr) c.args.a c.args.b c.to_int-x.result c.to_int-y.result c.ushr.result c.from-in-Iushr.result (rw c.in-Iushr.is at c.requires) c.to_int-x.ensures c.to_int-y.ensures c.ushr.type_inv c.ushr.ensures c.from-in-Iushr.ensures)

pub returns-in-Iand : goal.returns-in-Iand
returns-in-Iand c = rw c.in-Iand.is (of_ints (scalar_of Iand) c.args.a c.args.b c.to_int-x.result c.to_int-y.result c.and.result c.from-in-Iand.result (rw c.in-Iand.is at c.requires) c.to_int-x.ensures c.to_int-y.ensures c.and.type_inv c.and.ensures c.from-in-Iand.ensures)

pub returns-in-Ior : goal.returns-in-Ior
returns-in-Ior c = rw c.in-Ior.is (of_ints (scalar_of Ior) c.args.a c.args.b c.to_int-x.result c.to_int-y.result c.or.result c.from-in-Ior.result (rw c.in-Ior.is at c.requires) c.to_int-x.ensures c.to_int-y.ensures c.or.type_inv c.or.ensures c.from-in-Ior.ensures)

pub returns-in-Ixor : goal.returns-in-Ixor
returns-in-Ixor c = rw c.in-Ixor.is (of_ints (scalar_of Ixor) c.args.a c.args.b c.to_int-x.result c.to_int-y.result c.xor.result c.from-in-Ixor.result (rw c.in-Ixor.is at c.requires) c.to_int-x.ensures c.to_int-y.ensures c.xor.type_inv c.xor.ensures c.from-in-Ixor.ensures)

pub returns-in-Ieq : goal.returns-in-Ieq
returns-in-Ieq c = rw c.in-Ieq.is (of_ints (scalar_of Ieq) c.args.a c.args.b c.to_int-x.result c.to_int-y.result c.eq.result c.from-in-Ieq.result (rw c.in-Ieq.is at c.requires) c.to_int-x.ensures c.to_int-y.ensures c.eq.type_inv c.eq.ensures c.from-in-Ieq.ensures)

pub returns-in-Ilt : goal.returns-in-Ilt
returns-in-Ilt c = rw c.in-Ilt.is (of_ints (scalar_of Ilt) c.args.a c.args.b c.to_int-x.result c.to_int-y.result c.lt.result c.from-in-Ilt.result (rw c.in-Ilt.is at c.requires) c.to_int-x.ensures c.to_int-y.ensures c.lt.type_inv c.lt.ensures c.from-in-Ilt.ensures)

pub returns-in-Ineg : goal.returns-in-Ineg
returns-in-Ineg c = rw c.in-Ineg.is (of_int (λ (z : ℤ). scalar_of Ineg z (pos 0)) c.args.a c.to_int-x.result c.neg.result c.from-in-Ineg.result (rw c.in-Ineg.is at c.requires) c.to_int-x.ensures c.neg.type_inv c.neg.ensures c.from-in-Ineg.ensures)

pub returns-in-I2b : goal.returns-in-I2b
returns-in-I2b c = rw c.in-I2b.is (of_int (λ (z : ℤ). scalar_of I2b z (pos 0)) c.args.a c.to_int-x.result c.to_byte.result c.from-in-I2b.result (rw c.in-I2b.is at c.requires) c.to_int-x.ensures c.to_byte.type_inv c.to_byte.ensures c.from-in-I2b.ensures)

pub returns-in-I2c : goal.returns-in-I2c
returns-in-I2c c = rw c.in-I2c.is (of_int (λ (z : ℤ). scalar_of I2c z (pos 0)) c.args.a c.to_int-x.result c.to_char.result c.from-in-I2c.result (rw c.in-I2c.is at c.requires) c.to_int-x.ensures c.to_char.type_inv c.to_char.ensures c.from-in-I2c.ensures)

pub returns-in-I2s : goal.returns-in-I2s
returns-in-I2s c = rw c.in-I2s.is (of_int (λ (z : ℤ). scalar_of I2s z (pos 0)) c.args.a c.to_int-x.result c.to_short.result c.from-in-I2s.result (rw c.in-I2s.is at c.requires) c.to_int-x.ensures c.to_short.type_inv c.to_short.ensures c.from-in-I2s.ensures)

pub returns-in-I2l : goal.returns-in-I2l
returns-in-I2l c = rw c.in-I2l.is (of_itself c.args.a c.to_int-x.result c.from-in-I2l.result (rw c.in-I2l.is at c.requires) c.to_int-x.ensures c.from-in-I2l.ensures)

pub returns-in-Ladd : goal.returns-in-Ladd
returns-in-Ladd c = rw c.in-Ladd.is (of_longs (scalar_of Ladd) c.args.a c.args.b c.add-in-Ladd.result (rw c.in-Ladd.is at c.requires) c.add-in-Ladd.type_inv c.add-in-Ladd.ensures)

pub returns-in-Lsub : goal.returns-in-Lsub
returns-in-Lsub c = rw c.in-Lsub.is (of_longs (scalar_of Lsub) c.args.a c.args.b c.sub-in-Lsub.result (rw c.in-Lsub.is at c.requires) c.sub-in-Lsub.type_inv c.sub-in-Lsub.ensures)

pub returns-in-Lmul : goal.returns-in-Lmul
returns-in-Lmul c = rw c.in-Lmul.is (of_longs (scalar_of Lmul) c.args.a c.args.b c.mul-in-Lmul.result (rw c.in-Lmul.is at c.requires) c.mul-in-Lmul.type_inv c.mul-in-Lmul.ensures)

pub returns-in-Ldiv : goal.returns-in-Ldiv
returns-in-Ldiv c = rw c.in-Ldiv.is (of_longs (scalar_of Ldiv) c.args.a c.args.b c.div-in-Ldiv.result (rw c.in-Ldiv.is at c.requires) c.div-in-Ldiv.type_inv c.div-in-Ldiv.ensures)

pub returns-in-Lrem : goal.returns-in-Lrem
returns-in-Lrem c = rw c.in-Lrem.is (of_longs (scalar_of Lrem) c.args.a c.args.b c.rem-in-Lrem.result (rw c.in-Lrem.is at c.requires) c.rem-in-Lrem.type_inv c.rem-in-Lrem.ensures)

pub returns-in-Lshl : goal.returns-in-Lshl
returns-in-Lshl c = rw c.in-Lshl.is (of_count (scalar_of Lshl) c.args.a c.args.b c.to_int-y.result c.shl-in-Lshl.result (rw c.in-Lshl.is at c.requires) c.to_int-y.ensures c.shl-in-Lshl.type_inv c.shl-in-Lshl.ensures)

pub returns-in-Lshr : goal.returns-in-Lshr
returns-in-Lshr c = rw c.in-Lshr.is (of_count (scalar_of Lshr) c.args.a c.args.b c.to_int-y.result c.shr-in-Lshr.result (rw c.in-Lshr.is at c.requires) c.to_int-y.ensures c.shr-in-Lshr.type_inv c.shr-in-Lshr.ensures)

pub returns-in-Lushr : goal.returns-in-Lushr
returns-in-Lushr c = rw c.in-Lushr.is (of_count (scalar_of Lushr) c.args.a c.args.b c.to_int-y.result c.ushr-in-Lushr.result (rw c.in-Lushr.is at c.requires) c.to_int-y.ensures c.ushr-in-Lushr.type_inv c.ushr-in-Lushr.ensures)

pub returns-in-Land : goal.returns-in-Land
returns-in-Land c = rw c.in-Land.is (of_longs (scalar_of Land) c.args.a c.args.b c.and-in-Land.result (rw c.in-Land.is at c.requires) c.and-in-Land.type_inv c.and-in-Land.ensures)

pub returns-in-Lor : goal.returns-in-Lor
returns-in-Lor c = rw c.in-Lor.is (of_longs (scalar_of Lor) c.args.a c.args.b c.or-in-Lor.result (rw c.in-Lor.is at c.requires) c.or-in-Lor.type_inv c.or-in-Lor.ensures)

pub returns-in-Lxor : goal.returns-in-Lxor
returns-in-Lxor c = rw c.in-Lxor.is (of_longs (scalar_of Lxor) c.args.a c.args.b c.xor-in-Lxor.result (rw c.in-Lxor.is at c.requires) c.xor-in-Lxor.type_inv c.xor-in-Lxor.ensures)

pub returns-in-Leq : goal.returns-in-Leq
returns-in-Leq c = rw c.in-Leq.is (int_of_longs (scalar_of Leq) c.args.a c.args.b c.eq-in-Leq.result c.from-in-Leq.result (rw c.in-Leq.is at c.requires) c.eq-in-Leq.type_inv c.eq-in-Leq.ensures c.from-in-Leq.ensures)

pub returns-in-Lcmp : goal.returns-in-Lcmp
returns-in-Lcmp c = rw c.in-Lcmp.is (int_of_longs (scalar_of Lcmp) c.args.a c.args.b c.cmp.result c.from-in-Lcmp.result (rw c.in-Lcmp.is at c.requires) c.cmp.type_inv c.cmp.ensures c.from-in-Lcmp.ensures)

pub returns-in-Lneg : goal.returns-in-Lneg
returns-in-Lneg c = rw c.in-Lneg.is (of_long (λ (z : ℤ). scalar_of Lneg z (pos 0)) c.args.a c.neg-in-Lneg.result (rw c.in-Lneg.is at c.requires) c.neg-in-Lneg.type_inv c.neg-in-Lneg.ensures)

pub returns-in-L2i : goal.returns-in-L2i
returns-in-L2i c = rw c.in-L2i.is (int_of_long (λ (z : ℤ). scalar_of L2i z (pos 0)) c.args.a c.to_int.result c.from-in-L2i.result (rw c.in-L2i.is at c.requires) c.to_int.type_inv c.to_int.ensures c.from-in-L2i.ensures)
