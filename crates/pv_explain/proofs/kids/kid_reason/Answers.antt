use Rattle.std.proofs.Common.{ℕ, List, sym, subst}
use Rattle.pv_paths.specs.declared.forest.Way.{Way}
use Rattle.pv_paths.specs.Paths.{Leads}
use Rattle.pv_explain.specs.declared.follow.Line.{Line}
use Rattle.pv_explain.specs.Lines.{AreFacts, ReachBy}
use Rattle.pv_explain.proofs.Following.{leads_reach, gives_copies, stated_facts}
use Rattle.pv_explain.proofs.kids.kid_reason.Goals as goal

pub follow-requires-clause-known : goal.follow-requires-clause-known
follow-requires-clause-known c =
    subst (AreFacts c.args.writer.now) (sym c.deref.ensures.value) (stated_facts c.args.writer.now c.args.source.now.map.now c.args.level.now.lines.items c.requires.level.stated)

pub follow-requires-clause-path : goal.follow-requires-clause-path
follow-requires-clause-path c =
    let leads = subst (λ (es : List (ℕ × ℕ)). Leads es c.len.result c.in_ok-path.path.items c.args.k c.args.l) c.requires.level.ends c.in_ok-path.ensures in
    let r = leads_reach c.args.writer.now c.args.source.now.map.now c.args.level.now.lines.items c.len.result c.requires.level.stated c.in_ok-path.path.items c.args.k c.args.l c.copy_of.result leads c.copy_of.ensures in (
      r.0,
      subst (λ (ls : List Line). ReachBy ls c.deref-2.result.now c.copy_of.result r.0) (sym c.deref.ensures.value)
          (subst (λ (ws : List Way). ReachBy c.args.level.now.lines.items ws c.copy_of.result r.0) (sym c.deref-2.ensures.value) r.1),
    )

pub returns-clause-reason : goal.returns-clause-reason
returns-clause-reason c =
    let leads = subst (λ (es : List (ℕ × ℕ)). Leads es c.len.result c.in_ok-path.path.items c.args.k c.args.l) c.requires.level.ends c.in_ok-path.ensures in
    gives_copies c.args.writer.now c.follow.new.writer c.args.source.now.map.now c.args.level.now.lines.items c.len.result c.requires.level.stated c.in_ok-path.path.items c.args.k c.args.l c.copy_of.result c.in_ok-reached.reached leads c.copy_of.ensures
    (subst (λ (ls : List Line). ReachBy ls c.in_ok-path.path.items c.copy_of.result c.in_ok-reached.reached.node) c.deref.ensures.value
    (subst (λ (ws : List Way). ReachBy c.deref.result.now ws c.copy_of.result c.in_ok-reached.reached.node) c.deref-2.ensures.value c.in_ok-reached.ensures.path))
    c.in_ok-reached.ensures.reached
