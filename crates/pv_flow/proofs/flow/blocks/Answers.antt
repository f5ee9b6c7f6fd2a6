use Rattle.std.proofs.Common.{rules, ℕ, ◌<◌, List, length, get_or, refl, sym, ap, subst, arith}
use Rattle.pv_flow.specs.declared.block.Block.{Block}
use Rattle.pv_flow.specs.Blocks.{IsFlow}
use Rattle.pv_flow.specs.Finding.{IsMade}
use Rattle.pv_flow.proofs.Making.{zip_more, heads_are, head_at, flow_of}
use Rattle.pv_flow.proofs.flow.blocks.Goals as goal

pub loop-first-init : goal.loop-first-init
loop-first-init c = rw c.new-blocks.ensures.items tt

pub block-requires-clause-head : goal.block-requires-clause-head
block-requires-clause-head c =
    let frames = c.args.typed.now.frames in
    let begins = c.in_ok-begins.begins.items in
    let places = c.in_ok-places.field-0.places.items in
    let numbers = c.in_ok-places.field-0.numbers.items in
    let heads = heads_are begins c.deref.result.now frames c.as_slice-2.result.now places numbers c.in_ok-places.ensures c.deref.ensures.value c.as_slice-2.ensures in
    let i = c.loop-first.first-index in
    let within : i < length places = omega (arith, c.loop-first-test.true, ap length c.deref-first-items.ensures.value) in
    rw (c.deref-in-loop-first.ensures.value, c.deref-first-items.ensures.value) (head_at begins frames (length frames) places numbers i heads within)

pub loop-first-preserved : goal.loop-first-preserved
loop-first-preserved c =
    let first = get_or c.deref-first-items.result.now c.loop-first.first-index 0 in
    let made = subst (λ (numbers : List ℕ). IsMade c.args.typed.now.program numbers first c.in_ok-block.field-0) c.deref-in-loop-first-2.ensures.value c.in_ok-block.ensures in
    zip_more (IsMade c.args.typed.now.program c.in_ok-places.field-0.numbers.items) c.deref-first-items.result.now c.loop-first.blocks.items c.push.new.self.items c.loop-first.first-index 0 c.in_ok-block.field-0
    c.loop-first-test.true c.loop-first.invariant made c.in_ok-push.ensures.items

pub returns-then-len-gt-MOST_BLOCKS : goal.returns-then-len-gt-MOST_BLOCKS
returns-then-len-gt-MOST_BLOCKS c =
    let frames = c.args.typed.now.frames in
    let begins = c.in_ok-begins.begins.items in
    let places = c.in_ok-places.field-0.places.items in
    let numbers = c.in_ok-places.field-0.numbers.items in
    let heads = heads_are begins c.deref.result.now frames c.as_slice-2.result.now places numbers c.in_ok-places.ensures c.deref.ensures.value c.as_slice-2.ensures in
    let flow = flow_of c.args.typed.now.program frames begins places c.deref-first-items.result.now numbers c.loop-first.first-index c.loop-first.blocks.items c.requires c.in_ok-begins.ensures heads c.deref-first-items.ensures.value c.loop-first-test.false c.loop-first.invariant in
    (refl, (c.loop-first.blocks.items, flow, search rules))

pub returns : goal.returns
returns c =
    let frames = c.args.typed.now.frames in
    let begins = c.in_ok-begins.begins.items in
    let places = c.in_ok-places.field-0.places.items in
    let numbers = c.in_ok-places.field-0.numbers.items in
    let heads = heads_are begins c.deref.result.now frames c.as_slice-2.result.now places numbers c.in_ok-places.ensures c.deref.ensures.value c.as_slice-2.ensures in
    let flow = flow_of c.args.typed.now.program frames begins places c.deref-first-items.result.now numbers c.loop-first.first-index c.loop-first.blocks.items c.requires c.in_ok-begins.ensures heads c.deref-first-items.ensures.value c.loop-first-test.false c.loop-first.invariant in
    (subst (λ (l : List Block). IsFlow c.args.typed.now.program l) (sym c.into.ensures) flow, search rules)
