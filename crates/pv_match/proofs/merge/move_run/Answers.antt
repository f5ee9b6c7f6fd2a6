use Rattle.std.proofs.Common.{rules, ◌<◌, length}
use Rattle.pv_match.proofs.Merging.{first_moved, second_moved, sorted_rest, on_both}
use Rattle.pv_match.proofs.merge.move_run.Goals as goal

pub returns-in-Less-clause-whole : goal.returns-in-Less-clause-whole
returns-in-Less-clause-whole g c =
    let run = c.move_front-in-Less in
    let some : 0 < length c.args.second.now.items = search rules in
    on_both run.result run.ensures.moved run.ensures.rest
    (first_moved g.T.Ord.cmp c.count_before.result c.args.list.now.items run.new.list.items c.args.first.now.items run.new.queue.items c.in-Some-front.y.now c.args.second.now.items some c.in-Some-front.ensures.lookup c.count_before.ensures.before)

pub returns-in-Less-clause-first : goal.returns-in-Less-clause-first
returns-in-Less-clause-first g c =
    let run = c.move_front-in-Less in
    on_both run.result run.ensures.rest run.ensures.rest (λ rest _. sorted_rest g.T.Ord.cmp c.count_before.result c.args.first.now.items run.new.queue.items rest c.requires.first)

pub returns-in-Equal-clause-first : goal.returns-in-Equal-clause-first
returns-in-Equal-clause-first g c =
    let run = c.move_front-in-Equal in
    on_both run.result run.ensures.rest run.ensures.rest (λ rest _. sorted_rest g.T.Ord.cmp 1 c.args.first.now.items run.new.queue.items rest c.requires.first)

pub returns-in-Equal-clause-second : goal.returns-in-Equal-clause-second
returns-in-Equal-clause-second g c =
    let run = c.move_front-in-Equal in
    on_both run.result run.ensures.rest run.ensures.rest (λ _ _. sorted_rest g.T.Ord.cmp 1 c.args.second.now.items c.pop_front.new.self.items c.pop_front.ensures.rest c.requires.second)

pub returns-in-Greater-clause-whole : goal.returns-in-Greater-clause-whole
returns-in-Greater-clause-whole g c =
    let run = c.move_front-in-Greater in
    let some : 0 < length c.args.first.now.items = search rules in
    on_both run.result run.ensures.moved run.ensures.rest
    (second_moved g.T.Ord.cmp g.met.T.Ord.total c.count_before-in-Greater.result c.args.list.now.items run.new.list.items c.in-Some.x.now c.args.first.now.items c.args.second.now.items run.new.queue.items some c.in-Some.ensures.lookup c.count_before-in-Greater.ensures.before)

pub returns-in-Greater-clause-second : goal.returns-in-Greater-clause-second
returns-in-Greater-clause-second g c =
    let run = c.move_front-in-Greater in
    on_both run.result run.ensures.rest run.ensures.rest (λ rest _. sorted_rest g.T.Ord.cmp c.count_before-in-Greater.result c.args.second.now.items run.new.queue.items rest c.requires.second)
