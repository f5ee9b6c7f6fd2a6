use Rattle.std.proofs.Common.{◌≡◌, ℕ, List, Some, get_or, slice_get, refl, sym, subst, ◌∙◌, arith, true≢false}
use Rattle.std.proofs.lemmas.Option.{slice_get-get_or}
use Rattle.pv_graph.specs.Graphs.{form_at}
use Rattle.pv_graph.specs.Walks.{In, IsSettled}
use Rattle.pv_lemmas.proofs.Asking.{in_place}
use Rattle.pv_lemmas.proofs.Using.{up_to_more, up_to_all}
use Rattle.pv_lemmas.proofs.known.Place.are_settled.Goals as goal

pub returns-then-not-is_settled_for : goal.returns-then-not-is_settled_for
returns-then-not-is_settled_for c =
    let js = c.deref-j-items.result.now in
    let at = slice_get-get_or js c.loop-j.j-index 0 (omega (arith, c.loop-j-test.true)) in
    let there = subst (λ (xs : List ℕ). In xs (get_or js c.loop-j.j-index 0)) (c.deref-j-items.ensures.value ∙ c.in_ok-settled.ensures) (in_place js c.loop-j.j-index (get_or js c.loop-j.j-index 0) at) in
    (λ e. absurd (true≢false (sym e)), λ all. absurd (true≢false (sym (c.is_settled_for.ensures.1 (λ n get. all _ n there get)) ∙ c.if-not-is_settled_for.true)))

pub loop-j-preserved : goal.loop-j-preserved
loop-j-preserved c =
    let js = c.deref-j-items.result.now in
    let at = slice_get-get_or js c.loop-j.j-index 0 (omega (arith, c.loop-j-test.true)) in
    up_to_more (λ (j : ℕ). (n : ℕ) → slice_get c.args.self.now.nodes.now j ≡ Some n → IsSettled (form_at c.args.self.now.graph.now.nodes) c.args.self.now.assumed.now n) js c.loop-j.j-index _ at
    (c.is_settled_for.ensures.0 c.if-not-is_settled_for.false) c.loop-j.invariant

pub returns : goal.returns
returns c =
    let js = c.deref-j-items.result.now in
    let all = up_to_all (λ (j : ℕ). (n : ℕ) → slice_get c.args.self.now.nodes.now j ≡ Some n → IsSettled (form_at c.args.self.now.graph.now.nodes) c.args.self.now.assumed.now n) js c.loop-j.j-index (omega (arith, c.loop-j-test.false)) c.loop-j.invariant in
    (λ e j n there get. all j (subst (λ (xs : List ℕ). In xs j) (sym (c.deref-j-items.ensures.value ∙ c.in_ok-settled.ensures)) there) n get, λ h. refl)
