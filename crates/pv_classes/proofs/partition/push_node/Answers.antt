use Rattle.std.proofs.Common.{rules, arith}
use Rattle.pv_classes.proofs.OneMore.{kept_more, has_one_more}
use Rattle.pv_classes.proofs.partition.push_node.Goals as goal

pub returns-clause-kept : goal.returns-clause-kept
returns-clause-kept c =
    kept_more c.args.labels.now.items c.args.least.now.items c.args.others.now c.requires.kept (omega (arith, c.if-len-ge-MOST_NODES.false, c.len.ensures, c.args.labels.now.ok.0)) c.push.new.self.items c.push-2.new.self.items c.add_list.new.self (search rules) (search rules) c.in_ok-add_list.ensures.ok

pub returns-clause-more : goal.returns-clause-more
returns-clause-more c =
    has_one_more c.args.labels.now.items c.args.least.now.items c.args.others.now c.requires.kept (omega (arith, c.if-len-ge-MOST_NODES.false, c.len.ensures, c.args.labels.now.ok.0)) c.push.new.self.items c.push-2.new.self.items c.add_list.new.self (search rules) (search rules) c.in_ok-add_list.ensures.ok
