use Rattle.std.proofs.Common.{◌<◌, length, refl, ◌∙◌, arith}
use Rattle.std.proofs.lemmas.Option.{slice_get_read, slice_get-get_or}
use Rattle.pv_lemmas.proofs.Asking.{true_of, false_of, noted, meets_none, meets_one, meets_all}
use Rattle.pv_lemmas.proofs.under.Standing.meet_all.Goals as goal

pub loop-n-init : goal.loop-n-init
loop-n-init c = record { len = refl; meets = meets_none c.args.self.now.inner.now c.args.self.now.nodes.now c.args.self.now.graph.now c.args.asked.now.items c.args.p c.deref-n-items.result.now }

pub returns-then-not-branch-clause-no : goal.returns-then-not-branch-clause-no
returns-then-not-branch-clause-no c under =
    let asked = c.args.asked.now.items in
    let low : c.args.p < length asked = omega (arith, c.requires.there, c.requires.long, c.args.asked.now.ok.0) in
    let at = slice_get_read asked (length asked) c.args.p c.index.result.now refl low c.index.ensures in
    let is = c.deref-n-items.ensures.value ∙ c.in_ok-are.ensures.items ∙ c.deref.ensures.value in
    false_of c.in_ok-meet.field-0 c.if-not-branch.true c.in_ok-meet.ensures.no
    (under _ (noted c.args.self.now.inner.now c.args.self.now.nodes.now c.args.self.now.graph.now asked c.args.p c.index.result.now c.deref-n-items.result.now at is _ c.loop-n.n-index
    (slice_get-get_or c.deref-n-items.result.now c.loop-n.n-index 0 (omega (arith, c.loop-n-test.true)))))

pub loop-n-preserved : goal.loop-n-preserved
loop-n-preserved c =
    let asked = c.args.asked.now.items in
    let low : c.args.p < length asked = omega (arith, c.requires.there, c.requires.long, c.args.asked.now.ok.0) in
    let at = slice_get_read asked (length asked) c.args.p c.index.result.now refl low c.index.ensures in
    let is = c.deref-n-items.ensures.value ∙ c.in_ok-are.ensures.items ∙ c.deref.ensures.value in
    record {
      len = c.in_ok-meet.ensures.len ∙ c.loop-n.invariant.len;
      meets = meets_one c.args.self.now.inner.now c.args.self.now.nodes.now c.args.self.now.graph.now asked c.args.p c.index.result.now c.deref-n-items.result.now at is c.loop-n.asked.items c.meet.new.asked.items _ c.loop-n.n-index
          (slice_get-get_or c.deref-n-items.result.now c.loop-n.n-index 0 (omega (arith, c.loop-n-test.true))) c.loop-n.invariant.meets (true_of c.in_ok-meet.field-0 c.if-not-branch.false c.in_ok-meet.ensures.yes);
    }

pub returns-clause-yes : goal.returns-clause-yes
returns-clause-yes c =
    let asked = c.args.asked.now.items in
    let low : c.args.p < length asked = omega (arith, c.requires.there, c.requires.long, c.args.asked.now.ok.0) in
    let at = slice_get_read asked (length asked) c.args.p c.index.result.now refl low c.index.ensures in
    let is = c.deref-n-items.ensures.value ∙ c.in_ok-are.ensures.items ∙ c.deref.ensures.value in
    meets_all c.args.self.now.inner.now c.args.self.now.nodes.now c.args.self.now.graph.now asked c.args.p c.index.result.now c.deref-n-items.result.now at is c.loop-n.asked.items c.loop-n.n-index (omega (arith, c.loop-n-test.false)) c.loop-n.invariant.meets
