use Rattle.std.proofs.Common.{refl, inl, inr}
use Rattle.pv_decide.proofs.Folding.{joined_same, joined_left, joined_right, pushed_ok, made_ok}
use Rattle.pv_decide.proofs.walking.test.Goals as goal
use Rattle.pv_decide.proofs.walking.test.Goals.{then-yes-no-via-then-yes-no, then-yes-no-via-else-yes-no+then-yes-eq-NOTHING}

pub returns-then-yes-no : goal.returns-then-yes-no
returns-then-yes-no c = elim c.then-yes-no.branch [
  | then-yes-no-via-then-yes-no w ↦ record { gives = joined_same c.args.nodes.now.items c.args.b c.args.t c.args.yes c.args.no w.if-yes-no.true; made = inl (refl, inr refl) }
  | then-yes-no-via-else-yes-no+then-yes-eq-NOTHING w ↦ record { gives = joined_left c.args.nodes.now.items c.args.b c.args.t c.args.yes c.args.no c.requires w.if-yes-eq-NOTHING.true; made = inl (refl, inr refl) }
]

pub returns-then-no-eq-NOTHING : goal.returns-then-no-eq-NOTHING
returns-then-no-eq-NOTHING c = record { gives = joined_right c.args.nodes.now.items c.args.b c.args.t c.args.yes c.args.no c.requires c.if-no-eq-NOTHING.true; made = inl (refl, inl refl) }

pub returns : goal.returns
returns c = record {
  gives = pushed_ok c.args.nodes.now.items c.push.new.nodes.items c.args.b c.args.t c.args.yes c.args.no c.push.result c.push.ensures;
  made = made_ok c.args.nodes.now.items c.push.new.nodes.items c.args.b c.args.t c.args.yes c.args.no c.push.result c.if-yes-no.false c.if-yes-eq-NOTHING.false c.if-no-eq-NOTHING.false c.push.ensures;
}
