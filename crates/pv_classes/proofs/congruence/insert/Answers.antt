use Rattle.std.proofs.Common.{sym, ap, subst}
use Rattle.pv_classes.specs.declared.congruence.Known.{Known}
use Rattle.pv_classes.specs.Index.{Index, Enters, Inserts}
use Rattle.pv_classes.specs.Congruence.{index_with}
use Rattle.pv_classes.proofs.Inserting.{inserts_shared, inserts_own}
use Rattle.pv_classes.proofs.congruence.insert.Goals as goal

pub returns-in_ok-insert-in-Some : goal.returns-in_ok-insert-in-Some
returns-in_ok-insert-in-Some c p w =
    let old = index_with p c.args.known.now.value c.args.own.now w c.args.by_own.now.items in
    let e = c.in-Some.ensures.value in
    let h = subst (λ (k : Known). Enters k.table c.insert.new.self c.args.key c.args.n) e c.in_ok-insert-in-Some.ensures in
    subst (λ (i : Index). Inserts old i c.args.key c.args.n)
    (ap (λ (k : Known). record old { parents = k.parents; by_number = k.by_number; shared = c.insert.new.self }) (sym e))
    (inserts_shared old c.insert.new.self c.args.key c.args.n h c.requires)

pub returns-in_ok-push-in-None : goal.returns-in_ok-push-in-None
returns-in_ok-push-in-None c p w =
    inserts_own (index_with p c.args.known.now.value c.args.own.now w c.args.by_own.now.items) c.insert-in-None.new.self c.push.new.self.items c.args.key c.args.n c.in_ok-insert-in-None.ensures c.in_ok-push-in-None.ensures.items
