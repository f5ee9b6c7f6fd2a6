use Rattle.std.proofs.Common.{ℕ, List, Option, Some, ◌<◌, refl, sym, ◌∙◌, subst, take, get_or, length, slice_set, arith}
use Rattle.std.proofs.lemmas.List.{take_more}
use Rattle.std.proofs.lemmas.Option.{slice_get-get_or}
use Rattle.pv_graph.proofs.Cited.{in_at}
use Rattle.pv_marks.specs.Classes.{class_of}
use Rattle.pv_witness.specs.Numbered.{numbered}
use Rattle.pv_witness.specs.Table.{AreWitnessed, FitsAgain, HasNumberedKids, IsTaken}
use Rattle.pv_witness.proofs.Copies.{longer}
use Rattle.pv_witness.proofs.Numbering.{numbered_long, numbered_extends, numbered_graph}
use Rattle.pv_witness.proofs.Stepping.{none_witnessed, kids_numbered, fits_again, witnessed_more, support_at}
use Rattle.pv_witness.proofs.making.fill_table.Goals as goal

pub loop-n-init : goal.loop-n-init
loop-n-init c = record {
  made = none_witnessed (numbered c.args.graph.now c.args.numbers.now) c.args.graph.now c.args.numbers.now c.args.condition c.args.starts.now c.in_ok-table.table.items (numbered_extends c.args.graph.now c.args.numbers.now) refl refl
      (c.in_ok-table.ensures.long ∙ sym (numbered_long c.args.graph.now c.args.numbers.now c.requires.numbered)) c.in_ok-table.ensures.none;
  graph_ = c.len-count.ensures.graph;
}

pub witness_of-requires : goal.witness_of-requires
witness_of-requires c =
    let g = numbered c.args.graph.now c.args.numbers.now in
    let n : ℕ = get_or c.args.list.now c.loop-n.n-index 0 in
    let is_graph = numbered_graph c.args.graph.now c.args.numbers.now c.len-count.ensures.graph c.requires.sealed c.requires.numbered in
    let same = numbered_long c.args.graph.now c.args.numbers.now c.requires.numbered in
    let low = c.requires.supports.within n (in_at c.args.list.now c.loop-n.n-index 0 c.loop-n-test.true) in
    let made = c.loop-n.invariant.made in
    let within : (k : ℕ) → k < length g.nodes → class_of c.args.numbers.now k < length g.nodes = λ k lt. (let z = c.requires.numbered.within k (omega (arith, lt, same)) in omega (arith, z, same)) in
    record {
      sealed = made.grows.sealed ∙ c.requires.sealed;
      there = (let more = longer g c.loop-n.graph made.grows.extends_ in omega (arith, low, more));
      starts = omega (arith, low, same, c.requires.starts);
      kids = subst (λ (table : List (Option ℕ)). HasNumberedKids c.loop-n.graph c.args.numbers.now table n) (sym c.deref.ensures.value)
          (kids_numbered g c.args.graph.now c.loop-n.graph c.args.numbers.now c.args.condition c.args.starts.now (take c.loop-n.n-index c.args.list.now) c.loop-n.table.items is_graph c.requires.sealed (sym same) c.requires.sorts
          c.loop-n.invariant.graph_ made n low within);
      fits = subst (λ (table : List (Option ℕ)). FitsAgain c.loop-n.graph c.args.numbers.now table n) (sym c.deref.ensures.value)
          (fits_again g c.args.graph.now c.loop-n.graph c.args.numbers.now c.args.condition c.args.starts.now (take c.loop-n.n-index c.args.list.now) c.loop-n.table.items is_graph c.requires.sealed (sym same) c.requires.sorts
          c.loop-n.invariant.graph_ made n low);
    }

pub bounds-numbers-n : goal.bounds-numbers-n
bounds-numbers-n c =
    let low = c.requires.supports.within _ (in_at c.args.list.now c.loop-n.n-index 0 c.loop-n-test.true) in
    let same = numbered_long c.args.graph.now c.args.numbers.now c.requires.numbered in
    omega (arith, low, same)

pub index_mut-requires : goal.index_mut-requires
index_mut-requires c =
    let n : ℕ = get_or c.args.list.now c.loop-n.n-index 0 in
    let same = numbered_long c.args.graph.now c.args.numbers.now c.requires.numbered in
    let low = c.requires.supports.within n (in_at c.args.list.now c.loop-n.n-index 0 c.loop-n-test.true) in
    let class = c.requires.numbered.within n (omega (arith, low, same)) in
    omega (arith, class, same, c.loop-n.invariant.made.long, c.loop-n.table.ok.0)

pub loop-n-preserved : goal.loop-n-preserved
loop-n-preserved c =
    let g = numbered c.args.graph.now c.args.numbers.now in
    let n : ℕ = get_or c.args.list.now c.loop-n.n-index 0 in
    let is_graph = numbered_graph c.args.graph.now c.args.numbers.now c.len-count.ensures.graph c.requires.sealed c.requires.numbered in
    let same = numbered_long c.args.graph.now c.args.numbers.now c.requires.numbered in
    let low = c.requires.supports.within n (in_at c.args.list.now c.loop-n.n-index 0 c.loop-n-test.true) in
    let class : class_of c.args.numbers.now n < length c.loop-n.table.items = (let z = c.requires.numbered.within n (omega (arith, low, same)) in omega (arith, z, same, c.loop-n.invariant.made.long)) in
    let support = support_at g c.args.numbers.now c.args.condition c.args.starts.now c.args.list.now c.loop-n.n-index n c.requires.supports.supports (slice_get-get_or c.args.list.now c.loop-n.n-index 0 c.loop-n-test.true) in
    let taken = subst (λ (table : List (Option ℕ)). IsTaken c.loop-n.graph c.witness_of.new.graph c.args.numbers.now c.args.starts.now table n c.in_ok-witness.witness) c.deref.ensures.value c.in_ok-witness.ensures in
    let made = witnessed_more g c.args.graph.now c.loop-n.graph c.args.numbers.now c.args.condition c.args.starts.now (take c.loop-n.n-index c.args.list.now) c.loop-n.table.items is_graph c.requires.sealed (sym same) c.requires.sorts
    c.loop-n.invariant.graph_ c.loop-n.invariant.made n low c.witness_of.new.graph c.in_ok-witness.witness class support taken in
    record {
      made = subst (λ (xs : List ℕ). AreWitnessed g c.args.graph.now c.witness_of.new.graph c.args.numbers.now c.args.condition c.args.starts.now xs (slice_set c.loop-n.table.items (class_of c.args.numbers.now n) (Some c.in_ok-witness.witness)))
          (sym (take_more c.args.list.now c.loop-n.n-index 0 c.loop-n-test.true)) made.0;
      graph_ = made.1;
    }
