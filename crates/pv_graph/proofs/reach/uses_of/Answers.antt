use Rattle.std.proofs.Common.{◌≡◌, ◌+◌, ℕ, List, Some, false, get_or, length, slice_get, vec_len, refl, sym, ◌∙◌, subst, arith, Vec}
use Rattle.std.specs.declared.alloc.Global.{Global}
use Rattle.std.proofs.lemmas.Option.{slice_get-get_or, slice_get_read}
use Rattle.pv_graph.specs.declared.reach.Use.{Use}
use Rattle.pv_graph.specs.Reach.{Grows}
use Rattle.pv_graph.proofs.Reaching.{AreUsesOf, uses_begin, uses_more, uses_same, uses_end}
use Rattle.pv_graph.proofs.reach.uses_of.Goals as goal
use Rattle.pv_graph.proofs.reach.uses_of.Goals.{then-not-out-n+in_ok-add_uses, else-not-out-n}

pub loop-n-init : goal.loop-n-init
loop-n-init c = record { len = c.in_ok-uses.ensures.len; uses = uses_begin c.args.first c.args.nodes.now c.args.out.now c.in_ok-uses.uses.items c.in_ok-uses.ensures.none }

module _ (c : goal.Joined-not-out-n) where
  at : slice_get c.args.nodes.now c.loop-n.n ≡ Some c.index-nodes-n.result
  at = slice_get_read c.args.nodes.now (length c.args.nodes.now) c.loop-n.n c.index-nodes-n.result refl c.loop-n-test.true c.index-nodes-n.is

  out_at : slice_get c.args.out.now c.loop-n.n ≡ Some (get_or c.args.out.now c.loop-n.n false)
  out_at = slice_get-get_or c.args.out.now c.loop-n.n false (omega (arith, c.loop-n-test.true, c.requires.out))

  abbrev Kept : Vec (Vec Use Global) Global → Type 0
  Kept uses = record { len : vec_len uses ≡ length c.args.nodes.now; uses : AreUsesOf c.args.first c.args.nodes.now c.args.out.now (c.loop-n.n + 1) uses.items }

pub loop-n-preserved : goal.loop-n-preserved
loop-n-preserved c =
    elim c.if-not-out-n.branch [
      | then-not-out-n+in_ok-add_uses w ↦
          let kids : w.as_slice.result.now ≡ c.index-nodes-n.result.kids = w.as_slice.ensures in
          subst (Kept c) (sym w.uses-is)
          (record {
            len = w.add_uses.ensures.len ∙ c.loop-n.invariant.len;
            uses = uses_more c.args.first c.args.nodes.now c.args.out.now c.loop-n.n c.index-nodes-n.result (get_or c.args.out.now c.loop-n.n false) (at c) (out_at c) c.loop-n.uses.items w.add_uses.new.uses.items w.if-not-out-n.true c.loop-n.invariant.uses
                (subst (λ (ks : List ℕ). Grows c.args.first c.loop-n.uses.items w.add_uses.new.uses.items c.loop-n.n ks) kids w.in_ok-add_uses.ensures.grows);
          })
      | else-not-out-n w ↦
          subst (Kept c) (sym w.uses-is)
          (record { len = c.loop-n.invariant.len; uses = uses_same c.args.first c.args.nodes.now c.args.out.now c.loop-n.n c.index-nodes-n.result (get_or c.args.out.now c.loop-n.n false) (at c) (out_at c) c.loop-n.uses.items w.if-not-out-n.false c.loop-n.invariant.uses })
    ]

pub returns-clause-uses : goal.returns-clause-uses
returns-clause-uses c = uses_end c.args.first c.args.nodes.now c.args.out.now c.loop-n.n c.loop-n.uses.items c.loop-n-test.false c.loop-n.invariant.uses
