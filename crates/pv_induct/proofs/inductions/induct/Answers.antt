use Rattle.std.proofs.Common.{◌≡◌, not, eqb, List, length, sym, ◌∙◌, ap}
use Rattle.pv_classes.specs.declared.join.Join.{Join}
use Rattle.pv_induct.proofs.Bounded.{inducts, moved}
use Rattle.pv_induct.proofs.inductions.induct.Goals as goal

pub returns : goal.returns
returns c =
    let m = moved (length c.joins.result.now) (length c.joins-before.result.now) in
    let a : length c.joins.result.now ≡ length c.close_level.new.c.joins = ap (λ (l : List Join). length l) c.joins.ensures in
    let b : length c.joins-before.result.now ≡ length c.args.c.now.joins = ap (λ (l : List Join). length l) c.joins-before.ensures in
    inducts c.args.g.now c.requires.graph c.args.c.now c.close_level.new.c (not (eqb (length c.joins.result.now) (length c.joins-before.result.now))) c.requires.classes c.requires.knows c.in_ok-close_level.ensures
    (λ e f. m.0 e (a ∙ f ∙ sym b)) (λ e. sym a ∙ m.1 e ∙ b)
