use Rattle.std.proofs.Common.{◌≡◌, ◌<◌, ◌+◌, ◌++◌, ◌∷◌, [], ℕ, Bool, true, List, Some, length, get_or, take, slice_get, slice_set, refl, sym, ap, ◌∙◌, subst, arith, Vec}
use Rattle.std.specs.declared.alloc.Global.{Global}
use Rattle.std.proofs.lemmas.Option.{slice_get_read}
use Rattle.pv_graph.specs.declared.node.Node.{Node}
use Rattle.pv_graph.specs.declared.reach.Use.{Use}
use Rattle.pv_graph.specs.Reach.{follows, IsMarked, Passes, Spreads}
use Rattle.pv_graph.proofs.Reaching.{in_at, spread_stays, spread_marks, passes_by, stops_by}
use Rattle.pv_graph.proofs.reach.spread.Goals as goal
use Rattle.pv_graph.proofs.reach.spread.Goals.{then-not-index+then-follows+in_ok-push, else-not-index, else-not-index-via-then-not-index+else-follows, else-not-index-via-else-not-index}

pub index-requires : goal.index-requires
index-requires c = omega (arith, c.requires.within _ (in_at c.args.uses.now c.loop-u.u-index (record { node = 0; place = 0 }) c.loop-u-test.true), c.requires.long, c.loop-u.invariant.long, c.loop-u.marks.ok.0, c.args.marks.now.ok.0)

pub bounds-nodes-n : goal.bounds-nodes-n
bounds-nodes-n c = c.requires.within _ (in_at c.args.uses.now c.loop-u.u-index (record { node = 0; place = 0 }) c.loop-u-test.true)

pub index_mut-requires : goal.index_mut-requires
index_mut-requires c = omega (arith, c.requires.within _ (in_at c.args.uses.now c.loop-u.u-index (record { node = 0; place = 0 }) c.loop-u-test.true), c.requires.long, c.loop-u.invariant.long, c.loop-u.marks.ok.0, c.args.marks.now.ok.0)

module _ (c : goal.Joined-not-index) where
  abbrev d : Use
  d = record { node = 0; place = 0 }

  abbrev u : Use
  u = get_or c.args.uses.now c.loop-u.u-index d

  within : u.node < length c.args.nodes.now
  within = c.requires.within u (in_at c.args.uses.now c.loop-u.u-index d c.loop-u-test.true)

  marks_within : u.node < length c.loop-u.marks.items
  marks_within = omega (arith, within, c.requires.long, c.loop-u.invariant.long, c.args.marks.now.ok.0)

  mark : slice_get c.loop-u.marks.items u.node ≡ Some c.index.result.now
  mark = slice_get_read c.loop-u.marks.items (length c.loop-u.marks.items) u.node c.index.result.now refl marks_within c.index.ensures

  abbrev Goal : List Bool → List ℕ → Type 0
  Goal marks work = Spreads c.args.nodes.now c.args.look (take (c.loop-u.u-index + 1) c.args.uses.now) c.args.marks.now.items marks c.args.work.now.items work

  by : (marks : List Bool) (work : List ℕ) → c.if-not-index.marks.items ≡ marks → c.if-not-index.work.items ≡ work → Goal marks work → Goal c.if-not-index.marks.items c.if-not-index.work.items
  by marks work e f h = subst (λ (m : List Bool). Goal m c.if-not-index.work.items) (sym e) (subst (λ (w : List ℕ). Goal marks w) (sym f) h)

  -- all stays, where the place needs no mark
  stays : c.if-not-index.marks ≡ c.loop-u.marks → c.if-not-index.work ≡ c.loop-u.work → (Passes c.args.nodes.now c.args.look u → IsMarked c.loop-u.marks.items u.node) → Goal c.if-not-index.marks.items c.if-not-index.work.items
  stays e f done =
      by c.loop-u.marks.items c.loop-u.work.items (ap (λ (v : Vec Bool Global). v.items) e) (ap (λ (v : Vec ℕ Global). v.items) f)
      (spread_stays c.args.nodes.now c.args.look c.args.uses.now c.loop-u.u-index d c.loop-u-test.true c.args.marks.now.items c.loop-u.marks.items c.args.work.now.items c.loop-u.work.items c.loop-u.invariant done)

pub loop-u-preserved : goal.loop-u-preserved
loop-u-preserved c =
    elim c.if-not-index.branch [
      | then-not-index+then-follows+in_ok-push w ↦
          by c (slice_set c.loop-u.marks.items (u c).node true) (c.loop-u.work.items ++ (u c).node ∷ []) (ap (λ (v : Vec Bool Global). v.items) w.marks-is) (ap (λ (v : Vec ℕ Global). v.items) w.work-is ∙ w.in_ok-push.ensures.items)
          (spread_marks c.args.nodes.now c.args.look c.args.uses.now c.loop-u.u-index (d c) c.loop-u-test.true c.args.marks.now.items c.loop-u.marks.items c.args.work.now.items c.loop-u.work.items c.loop-u.invariant (mark c ∙ ap Some w.if-not-index.true)
          (passes_by c.args.nodes.now c.args.look (u c) w.index-nodes-n.result w.follows.result (within c) w.index-nodes-n.is (w.follows.ensures ∙ ap (λ (x : Node). follows c.args.look x.op (u c).place) (sym w.index-nodes-n.is)) w.if-follows.true))
      | else-not-index w ↦ elim w.else-not-index.branch [
        | else-not-index-via-then-not-index+else-follows v ↦ stays c w.marks-is w.work-is (λ p. stops_by c.args.nodes.now c.args.look (u c) v.index-nodes-n.result v.follows.result (within c) v.index-nodes-n.is (v.follows.ensures ∙ ap (λ (x : Node). follows c.args.look x.op (u c).place) (sym v.index-nodes-n.is)) v.if-follows.false p)
        | else-not-index-via-else-not-index v ↦ stays c w.marks-is w.work-is (λ p. mark c ∙ ap Some v.if-not-index.false)
      ]
    ]
