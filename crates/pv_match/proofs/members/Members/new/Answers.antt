use Rattle.std.proofs.Common.{◌≡◌, ◌<◌, ◌+◌, ℕ, Vec, length, vec_len, true≢false, sym, ap, ◌∙◌, subst, arith}
use Rattle.std.specs.declared.alloc.Global.{Global}
use Rattle.std.proofs.lemmas.Option.{slice_get_read}
use Rattle.pv_marks.specs.Classes.{class_of}
use Rattle.pv_match.specs.declared.members.Group.{Group}
use Rattle.pv_match.specs.Grouping.{AreListed, Gains}
use Rattle.pv_match.proofs.Groups.{listed_none, listed_more, listed_skip, members_all}
use Rattle.pv_match.proofs.members.Members.new.Goals.{then-is_kept+in_ok-put, else-is_kept}
use Rattle.pv_match.proofs.members.Members.new.Goals as goal

pub loop-n-init : goal.loop-n-init
loop-n-init c = record { len = c.in_ok-groups.ensures.len ∙ c.len.ensures.len; listed = listed_none c.args.graph.now c.args.numbers.now c.args.kept.now c.in_ok-groups.groups.items c.in_ok-groups.ensures.none }

pub loop-n-preserved : goal.loop-n-preserved
loop-n-preserved c = elim c.if-is_kept.branch [
  | then-is_kept+in_ok-put w ↦
      let low : c.loop-n.n < length c.args.graph.now.nodes = omega (arith, c.loop-n-test.true, c.len-n-end.ensures.len) in
      let within : class_of c.args.numbers.now c.loop-n.n < vec_len c.loop-n.groups = omega (arith, c.requires.classes.within c.loop-n.n low, c.loop-n.invariant.len) in
      record {
        len = ap (λ (v : Vec (Vec Group Global) Global). vec_len v) w.groups-is ∙ c.loop-n.invariant.len;
        listed = subst (λ (v : Vec (Vec Group Global) Global). AreListed c.args.graph.now c.args.numbers.now c.args.kept.now (c.loop-n.n + 1) v.items) (sym w.groups-is)
            (listed_more c.args.graph.now c.args.numbers.now c.args.kept.now c.loop-n.groups.items c.loop-n.n w.node.result.now w.index_mut.result.now w.put.new.groups (c.is_kept.ensures.0 w.if-is_kept.true) w.node.ensures
            (slice_get_read c.loop-n.groups.items (vec_len c.loop-n.groups) (class_of c.args.numbers.now c.loop-n.n) w.index_mut.result.now c.loop-n.groups.ok.0 within w.index_mut.ensures.value)
            (subst (λ (k : ℕ). Gains w.index_mut.result.now.items w.put.new.groups.items k c.loop-n.n) w.op_number-number.ensures.number w.in_ok-put.ensures) c.loop-n.invariant.listed);
      }
  | else-is_kept w ↦ record {
    len = ap (λ (v : Vec (Vec Group Global) Global). vec_len v) w.groups-is ∙ c.loop-n.invariant.len;
    listed = subst (λ (v : Vec (Vec Group Global) Global). AreListed c.args.graph.now c.args.numbers.now c.args.kept.now (c.loop-n.n + 1) v.items) (sym w.groups-is)
        (listed_skip c.args.graph.now c.args.numbers.now c.args.kept.now c.loop-n.groups.items c.loop-n.n (λ k. true≢false (sym (c.is_kept.ensures.1 k) ∙ w.if-is_kept.false)) c.loop-n.invariant.listed);
  }
]

pub returns-clause-members : goal.returns-clause-members
returns-clause-members c =
    let e : c.loop-n.n ≡ length c.args.graph.now.nodes = omega (arith, c.loop-n-test.false, c.loop-n.auto.n-end, c.len-n-end.ensures.len) in
    members_all c.args.graph.now c.args.numbers.now c.args.kept.now c.loop-n.groups.items c.requires.kept
    (subst (λ (n : ℕ). AreListed c.args.graph.now c.args.numbers.now c.args.kept.now n c.loop-n.groups.items) e c.loop-n.invariant.listed)
