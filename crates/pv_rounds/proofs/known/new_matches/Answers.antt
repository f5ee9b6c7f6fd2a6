use Rattle.std.proofs.Common.{◌+◌, List, Vec, map, take, sym, ap, ◌∙◌, subst}
use Rattle.std.specs.declared.alloc.Global.{Global}
use Rattle.pv_graph.proofs.Cited.{in_at}
use Rattle.pv_pattern.specs.Seen.{axiom_seen}
use Rattle.pv_saturate.specs.declared.decoding.Decoded.{Decoded}
use Rattle.pv_saturate.specs.Decoding.{ShowsMatch, decoded_seen}
use Rattle.pv_touched.proofs.Clear.{on_true}
use Rattle.pv_rounds.specs.Decoded.{AreReady}
use Rattle.pv_rounds.specs.Known.{IsKnown, LeavesKnown}
use Rattle.pv_rounds.proofs.Deciding.{ready_more}
use Rattle.pv_rounds.proofs.Leaving.{leaves_known, leaves_other}
use Rattle.pv_rounds.proofs.known.new_matches.Goals.{then-not-is_at+in_ok-one+in_ok-push, else-not-is_at}
use Rattle.pv_rounds.proofs.known.new_matches.Goals as goal

pub decode_one-requires-clause-shown : goal.decode_one-requires-clause-shown
decode_one-requires-clause-shown c =
    subst (ShowsMatch (map axiom_seen c.args.table.now)) (sym c.found-item.is) (c.requires.shown _ (in_at c.args.list.now c.loop-found.found-index c.found-item.result c.loop-found-test.true))

pub loop-found-preserved : goal.loop-found-preserved
loop-found-preserved c =
    let table = map axiom_seen c.args.table.now in
    let known = c.args.known.now in
    let list = c.args.list.now in
    let i = c.loop-found.found-index in
    let x = c.found-item.result in
    let new = c.loop-found.new.items in
    elim c.if-not-is_at.branch [
      | then-not-is_at+in_ok-one+in_ok-push w ↦
          let are = ap (λ (v : Vec Decoded Global). v.items) w.new-is ∙ w.in_ok-push.ensures.items in
          record {
            ready_ = subst AreReady (sym are) (ready_more new w.in_ok-one.one c.loop-found.invariant.ready_ w.in_ok-one.ensures.ready);
            leaves = subst (λ (ds : List Decoded). LeavesKnown table known (take (i + 1) list) (map decoded_seen ds)) (sym are)
                (leaves_other table known list i x c.loop-found-test.true c.found-item.is new w.in_ok-one.one c.loop-found.invariant.leaves w.in_ok-one.ensures.same);
          }
      | else-not-is_at w ↦
          let are = ap (λ (v : Vec Decoded Global). v.items) w.new-is in
          record {
            ready_ = subst AreReady (sym are) c.loop-found.invariant.ready_;
            leaves = subst (λ (ds : List Decoded). LeavesKnown table known (take (i + 1) list) (map decoded_seen ds)) (sym are)
                (leaves_known table known list i x c.loop-found-test.true c.found-item.is (map decoded_seen new) c.loop-found.invariant.leaves (on_true c.is_at.result (IsKnown known x) w.if-not-is_at.false c.is_at.ensures));
          }
    ]
