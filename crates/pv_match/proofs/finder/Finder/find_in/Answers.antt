use Rattle.std.proofs.Common.{◌≡◌, ◌≤◌, ℕ, Bool, true, false, List, [], map, length, take, take_all, sym, subst, arith}
use Rattle.std.specs.Bool.{OnTrue, OnFalse}
use Rattle.std.proofs.lemmas.List.{take_more}
use Rattle.pv_graph.specs.Walks.{In}
use Rattle.pv_pattern.specs.Seen.{axiom_seen}
use Rattle.pv_match.specs.declared.found.Match.{Match}
use Rattle.pv_match.specs.All.{AreMatchesOf}
use Rattle.pv_match.specs.Gathering.{AreTooMany}
use Rattle.pv_match.proofs.AllOf.{where_none}
use Rattle.pv_match.proofs.Parts.{finds_over, finds_within}
use Rattle.pv_match.proofs.finder.Finder.find_in.Goals as goal

on_true : (b : Bool) (P : Type 0) → b ≡ true → OnTrue b P → P
on_true b P e h = subst (λ (v : Bool). OnTrue v P) e h

on_false : (b : Bool) (P : Type 0) → b ≡ false → OnFalse b P → P
on_false b P e h = subst (λ (v : Bool). OnFalse v P) e h

pub loop-n-init : goal.loop-n-init
loop-n-init g c = record {
  few = subst (λ (ks : List Match). length ks ≤ c.args.self.now.limit) (sym c.new-set.ensures.empty) (omega arith);
  found = λ assumed marks. subst (λ (ks : List Match). AreMatchesOf c.args.self.now.reader.graph.now c.args.self.now.reader.numbers.now assumed (map axiom_seen c.args.self.now.table.now) [] ks) (sym c.new-set.ensures.empty)
      (where_none c.args.self.now.reader.graph.now c.args.self.now.reader.numbers.now assumed (λ a n. In (map axiom_seen c.args.self.now.table.now) a × In [] n) (λ a n h. h.1));
}

pub returns-then-is_over : goal.returns-then-is_over
returns-then-is_over g c assumed marks =
    let it = c.args.self.now in
    let table = map axiom_seen it.table.now in
    let here = c.in_ok-is_over.ensures.found assumed (take c.loop-n.n-index c.args.items.now) marks (c.loop-n.invariant.found assumed marks) in
    let many : AreTooMany it.reader.graph.now it.reader.numbers.now assumed table it.limit c.find_at.new.found.keys = on_true c.in_ok-is_over.is_over _ c.if-is_over.true here.0 in
    finds_over it.reader.graph.now it.reader.numbers.now assumed table it.limit c.args.items.now c.in_ok-many.many.is_over c.in_ok-many.many.list.items c.in_ok-many.ensures.over
    (subst (AreTooMany it.reader.graph.now it.reader.numbers.now assumed table it.limit) (sym c.in_ok-many.ensures.list) many)

pub loop-n-preserved : goal.loop-n-preserved
loop-n-preserved g c = record {
  few = on_false c.in_ok-is_over.is_over _ c.if-is_over.false c.in_ok-is_over.ensures.few;
  found = λ assumed marks. subst (λ (ns : List ℕ). AreMatchesOf c.args.self.now.reader.graph.now c.args.self.now.reader.numbers.now assumed (map axiom_seen c.args.self.now.table.now) ns c.find_at.new.found.keys) (sym (take_more c.args.items.now c.loop-n.n-index 0 c.loop-n-test.true))
      (on_false c.in_ok-is_over.is_over _ c.if-is_over.false (c.in_ok-is_over.ensures.found assumed (take c.loop-n.n-index c.args.items.now) marks (c.loop-n.invariant.found assumed marks)).1);
}

pub returns : goal.returns
returns g c assumed marks =
    let it = c.args.self.now in
    let table = map axiom_seen it.table.now in
    let are : AreMatchesOf it.reader.graph.now it.reader.numbers.now assumed table c.args.items.now c.loop-n.set.keys =
    subst (λ (ns : List ℕ). AreMatchesOf it.reader.graph.now it.reader.numbers.now assumed table ns c.loop-n.set.keys) (take_all c.loop-n.n-index c.args.items.now c.loop-n-test.false) (c.loop-n.invariant.found assumed marks) in
    finds_within it.reader.graph.now it.reader.numbers.now assumed table it.limit c.args.items.now c.in_ok-got.got.is_over c.in_ok-got.got.list.items c.in_ok-got.ensures.over
    (subst (AreMatchesOf it.reader.graph.now it.reader.numbers.now assumed table c.args.items.now) (sym c.in_ok-got.ensures.list) are)
