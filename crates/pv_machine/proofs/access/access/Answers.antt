use Rattle.pv_machine.proofs.Accessing.{read, reads_same, if_read}
use Rattle.pv_machine.proofs.access.access.Goals as goal

pub returns-in-PutStatic-clause-reads : goal.returns-in-PutStatic-clause-reads
returns-in-PutStatic-clause-reads c = if_read c.args.world.now c.args.heap.now _ _ c.args.operands.now c.put_static.result c.in-PutStatic.is c.put_static.ensures

pub returns-in-PutField-clause-reads : goal.returns-in-PutField-clause-reads
returns-in-PutField-clause-reads c = if_read c.args.world.now c.args.heap.now _ _ c.args.operands.now c.put_field.result c.in-PutField.is c.put_field.ensures

pub returns-in-LoadElement-clause-reads : goal.returns-in-LoadElement-clause-reads
returns-in-LoadElement-clause-reads c = reads_same c.args.world.now c.args.heap.now _ _ c.args.operands.now c.load_element.result c.in-LoadElement.is c.load_element.ensures.reads

pub returns-in-StoreElement-clause-reads : goal.returns-in-StoreElement-clause-reads
returns-in-StoreElement-clause-reads c = read c.args.world.now c.args.heap.now _ _ c.args.operands.now c.store_element.result c.in-StoreElement.is c.store_element.ensures

pub returns-in-Length-clause-reads : goal.returns-in-Length-clause-reads
returns-in-Length-clause-reads c = read c.args.world.now c.args.heap.now _ _ c.args.operands.now c.array_length.result c.in-Length.is c.array_length.ensures.accesses
