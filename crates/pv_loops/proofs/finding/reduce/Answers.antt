use Rattle.std.proofs.Common.{◌≡◌, ◌<◌, ℕ, List, [], length, get_or, sym, ◌∙◌, ap, subst, arith, None, slice_get, Some}
use Rattle.pv_loops.proofs.Words.{Vec, All, IsSortedByKey, slice_cmp, nat_cmp, slice_get_within, MAX_DEPTH, Loop, IsHead, key_at, AreKeys, IsNested, AreHeaders}
use Rattle.pv_loops.proofs.Bodies.{head_of}
use Rattle.pv_loops.proofs.Orders.{reversed_shape}
use Rattle.pv_loops.proofs.Foresting.{forest_is, nests_up_to}
use Rattle.pv_loops.proofs.Leading.{rows_long, row_within}
use Rattle.pv_loops.proofs.Surrounding.{surrounds, at_most}
use Rattle.pv_loops.proofs.Ordering.{ordered_is, arranged_is}
use Rattle.pv_loops.proofs.Ranking.{ranking_from}
use Rattle.pv_loops.proofs.finding.reduce.Goals as goal

pub find-requires-clause-shape : goal.find-requires-clause-shape
find-requires-clause-shape c = reversed_shape c.args.shape.now c.in_ok-sources.sources c.requires c.in_ok-sources.ensures

pub fill-requires-clause-shape : goal.fill-requires-clause-shape
fill-requires-clause-shape c = reversed_shape c.args.shape.now c.in_ok-sources.sources c.requires c.in_ok-sources.ensures

pub fill-requires-clause-headers : goal.fill-requires-clause-headers
fill-requires-clause-headers c = subst (λ (l : List ℕ). AreHeaders c.in_ok-sources.sources l c.in_ok-headers.headers) c.deref.ensures.value c.in_ok-headers.ensures

pub fill-requires-clause-bare : goal.fill-requires-clause-bare
fill-requires-clause-bare c = subst (λ (l : List ℕ). IsNested c.in_ok-sources.sources c.in_ok-order.order.place.items l MAX_DEPTH 0 c.in_ok-nest.nest) c.deref-2.ensures.value
    (c.in_ok-nest.ensures c.in_ok-sources.sources c.in_ok-order.order.place.items (c.in_ok-sources.ensures.size ∙ sym c.len-2.ensures))

pub keys-requires-clause-headers : goal.keys-requires-clause-headers
keys-requires-clause-headers c i l e =
    let N = c.in_ok-fill.ensures.filled in
    let O = c.in_ok-order.ensures.order in
    let H = subst (λ (k : List ℕ). AreHeaders c.in_ok-sources.sources k c.in_ok-headers.headers) c.deref.ensures.value c.in_ok-headers.ensures in
    let S = reversed_shape c.args.shape.now c.in_ok-sources.sources c.requires c.in_ok-sources.ensures in
    let at : slice_get c.fill.new.self.loops.items i ≡ Some l = ap (λ (k : List Loop). slice_get k i) (sym c.deref-5.ensures.value) ∙ e in
    let lt = head_of c.in_ok-sources.sources c.in_ok-order.order.nodes.items c.in_ok-order.order.place.items S O l.header
    (subst (λ h. IsHead c.in_ok-sources.sources c.in_ok-order.order.place.items h) (sym (N.header i l at)) (H.heads i (let low = slice_get_within c.fill.new.self.loops.items i l at in omega (arith, low, N.size)))) in
    let long = ap length c.deref-6.ensures.value in
    omega (arith, lt, O.places, long)

pub keys-requires-clause-rows : goal.keys-requires-clause-rows
keys-requires-clause-rows c x lt =
    let long = rows_long c.deref-3.result.now c.deref-4.result.now c.in_ok-rows.rows c.in_ok-rows.ensures in
    subst (λ (k : List Loop). All (λ i. i < length k) (get_or c.in_ok-rows.rows x [])) (c.deref-3.ensures.value ∙ sym c.deref-5.ensures.value)
    (row_within c.deref-3.result.now c.deref-4.result.now c.in_ok-rows.rows c.in_ok-rows.ensures x (omega (arith, lt, long)))

pub returns : goal.returns
returns c =
    let shape = c.args.shape.now in
    let sources = c.in_ok-sources.sources in
    let order = c.in_ok-order.order.nodes.items in
    let place = c.in_ok-order.order.place.items in
    let rev = c.in_ok-sources.ensures in
    let S = reversed_shape shape sources c.requires rev in
    let O = c.in_ok-order.ensures.order in
    let headers = c.in_ok-headers.headers in
    let H = subst (λ (l : List ℕ). AreHeaders sources l headers) c.deref.ensures.value c.in_ok-headers.ensures in
    let N = c.in_ok-fill.ensures.filled in
    let around = surrounds shape sources order place rev S O headers H _ N in
    let keys = subst (λ (p : List ℕ). AreKeys c.fill.new.self.loops.items p c.in_ok-rows.rows c.in_ok-keys.keys.items) c.deref-6.ensures.value
    (subst (λ (k : List Loop). AreKeys k c.deref-6.result.now c.in_ok-rows.rows c.in_ok-keys.keys.items) c.deref-5.ensures.value c.in_ok-keys.ensures) in
    let sorted = subst (λ (k : List (Vec ℕ)). IsSortedByKey (key_at k) (slice_cmp nat_cmp) c.sorted_by_key.result.items) c.deref-7.ensures.value c.sorted_by_key.ensures.sorted in record {
      reducible = c.in_ok-order.ensures.reducible;
      forest = forest_is shape sources order place rev S O headers H MAX_DEPTH _ N;
      ordered = ordered_is shape sources order place rev S O _ around N.homes c.sorted_by_key.ensures.permutation c.in_ok-keys.keys.items keys sorted;
      arranged = arranged_is shape sources order place rev S O _ around N.homes c.sorted_by_key.ensures.permutation c.in_ok-keys.keys.items keys sorted;
      ranked = ranking_from shape sources order place rev S O _ around (λ x. at_most MAX_DEPTH c.fill.new.self.loops.items (get_or c.fill.new.self.home.items x None));
      shallow = nests_up_to shape sources order place rev S O headers H MAX_DEPTH _ N;
      irreducible = tt;
      deep = tt;
    }
