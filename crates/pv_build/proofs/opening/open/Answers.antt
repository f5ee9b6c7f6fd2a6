use Rattle.std.proofs.Common.{ℕ, List, Option, refl, sym, subst, arith}
use Rattle.pv_build.proofs.Words.{Loop, T, with_item, Method, Made, Writes, Opened, State, AreFirstKids, CanBegin, AreBegun, IsHeaderState}
use Rattle.pv_build.specs.declared.method.Stage.TheVariants as stage
use Rattle.pv_build.proofs.Begun.{keeps_then}
use Rattle.pv_build.proofs.Opened.{head_of}
use Rattle.pv_build.proofs.Headed.{keeps_first, keeps_grown, unit_has, there_low, carried_low, listed_at, loop_is, writes_at, can_begin, opening, begun_open}
use Rattle.pv_build.proofs.opening.open.Goals as goal

pub index-l-requires : goal.index-l-requires
index-l-requires c =
    let low = there_low c.args.method.now c.requires.method c.args.g.now c.args.made.now c.args.i c.args.entering c.requires.can in
    omega (arith, low, c.args.method.now.forest.now.loops.ok)

pub index-carried-requires : goal.index-carried-requires
index-carried-requires c =
    let low = carried_low c.args.method.now c.requires.method c.args.g.now c.args.made.now c.args.i c.args.entering c.requires.can in
    omega (arith, low, c.args.method.now.carried.ok)

pub over-requires-clause-graph : goal.over-requires-clause-graph
over-requires-clause-graph c = c.requires.can.stage.well.graph

pub over-requires-clause-fits : goal.over-requires-clause-fits
over-requires-clause-fits c = (T, unit_has c.args.g.now)

pub begin_all-requires : goal.begin_all-requires
begin_all-requires c =
    let can = c.requires.can in
    let same = loop_is c.args.method.now c.requires.method c.args.g.now c.args.made.now c.args.i c.args.entering can c.index-l.result.now c.index-l.ensures in
    let w : Writes = c.index-carried.result.now in
    let first : State = record { stack = c.args.entering.stack; locals = c.args.entering.locals; heap = c.args.entering.heap; token = c.in_ok-unit.unit } in
    let firsts : AreFirstKids w first c.deref.result.now = subst (AreFirstKids w first) (sym c.deref.ensures.value) c.in_ok-kids.ensures in
    record {
      can = subst (λ (l : Loop). CanBegin (head_of l) c.deref.result.now c.over.new.g c.args.made.now.names) same
          (can_begin c.args.method.now c.requires.method c.args.g.now c.args.made.now c.args.i c.args.entering can c.over.new.g c.in_ok-unit.unit c.over.ensures.grows c.in_ok-unit.ensures.reads c.in_ok-unit.ensures.sort w c.deref.result.now firsts);
    }

pub returns-in_err-begun-clause-keeps : goal.returns-in_err-begun-clause-keeps
returns-in_err-begun-clause-keeps c =
    keeps_first c.args.made.now.start c.args.g.now c.begin_all.new.g (keeps_then c.args.g.now c.over.new.g c.begin_all.new.g (keeps_grown c.args.g.now c.over.new.g c.over.ensures.grows) c.begin_all.ensures.keeps)

pub returns-in_err-held-clause-keeps : goal.returns-in_err-held-clause-keeps
returns-in_err-held-clause-keeps c =
    keeps_first c.args.made.now.start c.args.g.now c.begin_all.new.g (keeps_then c.args.g.now c.over.new.g c.begin_all.new.g (keeps_grown c.args.g.now c.over.new.g c.over.ensures.grows) c.begin_all.ensures.keeps)

pub index_mut-requires : goal.index_mut-requires
index_mut-requires c =
    let low = listed_at c.args.method.now c.requires.method c.args.g.now c.args.made.now c.args.i c.args.entering c.requires.can in
    omega (arith, low, c.args.made.now.loops.ok)

pub returns-clause-begun : goal.returns-clause-begun
returns-clause-begun c =
    let m : Method = c.args.method.now in
    let made : Made = c.args.made.now in
    let can = c.requires.can in
    let w : Writes = c.index-carried.result.now in
    let same = loop_is m c.requires.method c.args.g.now made c.args.i c.args.entering can c.index-l.result.now c.index-l.ensures in
    let kids : List (Option ℕ) = c.deref.result.now in
    let first : State = record { stack = c.args.entering.stack; locals = c.args.entering.locals; heap = c.args.entering.heap; token = c.in_ok-unit.unit } in
    let firsts : AreFirstKids w first kids = subst (AreFirstKids w first) (sym c.deref.ensures.value) c.in_ok-kids.ensures in
    let begun : AreBegun (head_of can.loop_) kids c.over.new.g made.names c.begin_all.new.g c.begin_all.new.names c.in_ok-begun.begun.listed.items c.in_ok-begun.begun.nodes.items =
    subst (λ (l : Loop). AreBegun (head_of l) kids c.over.new.g made.names c.begin_all.new.g c.begin_all.new.names c.in_ok-begun.begun.listed.items c.in_ok-begun.begun.nodes.items) (sym same) c.in_ok-begun.ensures.begun in
    let o = opening m c.requires.method c.args.g.now made c.args.i c.args.entering can c.over.new.g c.in_ok-unit.unit c.over.ensures.grows c.in_ok-unit.ensures.reads c.in_ok-unit.ensures.sort w kids firsts c.begin_all.new.g c.begin_all.new.names
    c.in_ok-begun.begun.listed.items c.in_ok-begun.begun.nodes.items begun in
    let held : IsHeaderState c.in_ok-begun.begun.nodes.items first c.in_ok-held.held = subst (λ (ns : List (Option ℕ)). IsHeaderState ns first c.in_ok-held.held) c.deref-2.ensures.value c.in_ok-held.ensures in
    let x : Opened = record { token = c.args.entering.token; base = c.len-base.result; thetas = c.in_ok-begun.begun.listed } in
    begun_open m c.requires.method c.args.i can.loop_ can.there made can.ahead o (writes_at m c.requires.method c.args.g.now made c.args.i c.args.entering can w c.index-carried.ensures) (with_item made.loops c.args.i (stage.Open x)) x refl refl c.len-base.ensures.len refl c.in_ok-held.held held

pub returns-clause-keeps : goal.returns-clause-keeps
returns-clause-keeps c =
    keeps_first c.args.made.now.start c.args.g.now c.begin_all.new.g (keeps_then c.args.g.now c.over.new.g c.begin_all.new.g (keeps_grown c.args.g.now c.over.new.g c.over.ensures.grows) c.begin_all.ensures.keeps)
