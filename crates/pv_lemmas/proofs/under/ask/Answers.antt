use Rattle.std.proofs.Common.{◌<◌, ℕ, List, length, subst, refl, arith}
use Rattle.std.proofs.lemmas.Option.{slice_get_read}
use Rattle.pv_graph.specs.Walks.{In}
use Rattle.pv_lemmas.proofs.Asking.{adds_none, adds_push}
use Rattle.pv_lemmas.proofs.under.ask.Goals as goal

pub returns-then-is_in-clause-adds : goal.returns-then-is_in-clause-adds
returns-then-is_in-clause-adds c =
    let asked = c.args.asked.now.items in
    let low : c.args.p < length asked = omega (arith, c.requires, c.args.asked.now.ok.0) in
    adds_none asked c.args.p c.args.n c.index.result.now (slice_get_read asked (length asked) c.args.p c.index.result.now refl low c.index.ensures)
    (subst (λ (xs : List ℕ). In xs c.args.n) c.deref.ensures.value (c.is_in.ensures.0 c.if-is_in.true))

pub returns-clause-adds : goal.returns-clause-adds
returns-clause-adds c =
    let asked = c.args.asked.now.items in
    let low : c.args.p < length asked = omega (arith, c.requires, c.args.asked.now.ok.0) in
    adds_push asked c.args.p c.args.n c.index_mut.result.now c.push.new.self (slice_get_read asked (length asked) c.args.p c.index_mut.result.now refl low c.index_mut.ensures.value) c.in_ok-push.ensures.items
