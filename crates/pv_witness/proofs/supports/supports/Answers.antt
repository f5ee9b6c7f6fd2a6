use Rattle.std.proofs.Common.{ℕ, List, Vec, ◌≡◌, ◌<◌, sym, ◌∙◌, subst, get_or, length, arith, vec_len}
use Rattle.std.specs.declared.alloc.Global.{Global}
use Rattle.std.proofs.lemmas.Option.{slice_get_read, same_Some}
use Rattle.pv_graph.specs.Walks.{In}
use Rattle.pv_graph.proofs.Cited.{in_at}
use Rattle.pv_marks.specs.Classes.{class_of}
use Rattle.pv_witness.specs.Numbered.{numbered}
use Rattle.pv_marks.specs.Parents.{IsListed, AreParents}
use Rattle.pv_witness.specs.Found.{Begins}
use Rattle.pv_witness.proofs.Numbering.{numbered_long, numbered_parents, first_numbered, numbered_graph}
use Rattle.pv_witness.proofs.Supporting.{swept_none, swept_more, swept_all}
use Rattle.pv_witness.proofs.supports.supports.Goals as goal

there : (list : List ℕ) (next b n : ℕ) → n ≡ length list → next < n → b ≡ get_or list next b → In list b
there list next b n long lt e = subst (In list) (sym e) (in_at list next b (omega (arith, lt, long)))

pub bounds-numbers-index : goal.bounds-numbers-index
bounds-numbers-index c =
    let low = c.loop-next.invariant.within c.index.result.now (there c.loop-next.found.list.items c.loop-next.next c.index.result.now c.len.result (c.len.ensures ∙ c.loop-next.found.list.ok.0) c.loop-next-test.true c.index.ensures) in
    let long = numbered_long c.args.graph.now c.args.numbers.now c.requires.numbered in
    omega (arith, low, long)

pub spread-requires-clause-nodes : goal.spread-requires-clause-nodes
spread-requires-clause-nodes c n i =
    let long = numbered_long c.args.graph.now c.args.numbers.now c.requires.numbered in
    let low = c.loop-next.invariant.within c.index.result.now (there c.loop-next.found.list.items c.loop-next.next c.index.result.now c.len.result (c.len.ensures ∙ c.loop-next.found.list.ok.0) c.loop-next-test.true c.index.ensures) in
    let class = c.requires.numbered.within c.index.result.now (omega (arith, low, long)) in
    let at_ = slice_get_read c.in_ok-parents.parents.items (vec_len c.in_ok-parents.parents) (class_of c.args.numbers.now c.index.result.now) c.index-in-loop-next.result.now c.in_ok-parents.parents.ok.0
    (omega (arith, class, c.in_ok-parents.ensures.len)) c.index-in-loop-next.ensures in
    let within = c.in_ok-parents.ensures.parents.within (class_of c.args.numbers.now c.index.result.now) n (c.index-in-loop-next.result.now, at_, subst (λ (xs : List ℕ). In xs n) c.deref.ensures.value i) in
    omega (arith, within, long)

pub loop-next-preserved : goal.loop-next-preserved
loop-next-preserved c =
    let g = numbered c.args.graph.now c.args.numbers.now in
    let long = numbered_long c.args.graph.now c.args.numbers.now c.requires.numbered in
    let low = c.loop-next.invariant.within c.index.result.now (there c.loop-next.found.list.items c.loop-next.next c.index.result.now c.len.result (c.len.ensures ∙ c.loop-next.found.list.ok.0) c.loop-next-test.true c.index.ensures) in
    let class = c.requires.numbered.within c.index.result.now (omega (arith, low, long)) in
    let at_ = slice_get_read c.in_ok-parents.parents.items (vec_len c.in_ok-parents.parents) (class_of c.args.numbers.now c.index.result.now) c.index-in-loop-next.result.now c.in_ok-parents.parents.ok.0
    (omega (arith, class, c.in_ok-parents.ensures.len)) c.index-in-loop-next.ensures in
    let nodes_are : (n : ℕ) → IsListed c.in_ok-parents.parents.items (class_of c.args.numbers.now c.index.result.now) n → In c.deref.result.now n =
    λ n (v, there_v, i). (let same = same_Some v c.index-in-loop-next.result.now (sym there_v ∙ at_) in
    subst (λ (xs : List ℕ). In xs n) (sym c.deref.ensures.value) (subst (λ (x : Vec ℕ Global). In x.items n) same i)) in
    swept_more g c.args.numbers.now c.args.condition c.args.starts.now c.in_ok-parents.parents.items c.loop-next.next c.index.result.now c.loop-next.found.list.items c.spread.new.found.list.items c.deref.result.now
    c.loop-next.found.has.items c.spread.new.found.has.items
    (subst (λ (n : ℕ). AreParents g c.args.numbers.now n c.in_ok-parents.parents.items) (sym long) (numbered_parents c.args.graph.now c.args.numbers.now c.in_ok-parents.parents.items c.in_ok-parents.ensures.parents)) nodes_are
    (omega (arith, c.loop-next-test.true, c.len.ensures, c.loop-next.found.list.ok.0)) c.index.ensures c.loop-next.invariant c.in_ok-spread.ensures

pub parents_of-requires : goal.parents_of-requires
parents_of-requires c = first_numbered c.args.graph.now c.args.numbers.now c.len-count.ensures.graph c.requires.sealed c.requires.numbered

pub loop-next-init : goal.loop-next-init
loop-next-init c =
    let g = numbered c.args.graph.now c.args.numbers.now in
    let long = numbered_long c.args.graph.now c.args.numbers.now c.requires.numbered in
    swept_none g c.args.numbers.now c.args.condition c.args.starts.now c.in_ok-found.found.list.items c.in_ok-found.found.has.items
    (numbered_graph c.args.graph.now c.args.numbers.now c.len-count.ensures.graph c.requires.sealed c.requires.numbered)
    (subst (λ (n : ℕ). Begins g c.args.numbers.now c.args.condition c.args.starts.now n c.in_ok-found.found.list.items c.in_ok-found.found.has.items) (sym long) c.in_ok-found.ensures)

pub returns : goal.returns
returns c =
    swept_all (numbered c.args.graph.now c.args.numbers.now) c.args.numbers.now c.args.condition c.args.starts.now c.loop-next.next c.loop-next.found.list.items c.loop-next.found.has.items
    (omega (arith, c.loop-next-test.false, c.len.ensures, c.loop-next.found.list.ok.0)) c.loop-next.invariant
