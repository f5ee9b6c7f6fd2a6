use Rattle.std.proofs.Common.{◌<◌, None, Some, length, sym, subst}
use Rattle.std.specs.List.{All}
use Rattle.pv_classes.specs.Forms.{IsClassWith}
use Rattle.pv_classes.specs.Keyed.{IsNodeWith}
use Rattle.pv_classes.specs.Calls.{Classes, Knows}
use Rattle.pv_classes.specs.Congruence.{index_of}
use Rattle.pv_classes.proofs.Keying.{class_none, class_some, over_labels}
use Rattle.pv_classes.proofs.classes.Classes.class_with.Goals as goal

pub returns-in-Some : goal.returns-in-Some
returns-in-Some c =
    let i = index_of c.self.inside.congruence in let nodes = c.args.g.now.nodes in let op = c.args.op.now in let over = c.args.over.now in
    let index = (subst (λ (x : Classes). Knows nodes x) (sym c.self.view_is) c.requires.knows).index in
    let all = over_labels i.parts over index.parts (subst (λ (x : Classes). All (λ k. k < length x.numbers) over) (sym c.self.view_is) c.requires.over) in
    subst (λ (x : Classes). IsClassWith nodes x.numbers op over (Some c.number.result)) c.self.view_is
    (class_some nodes i index op over all c.in-Some.n c.number.result (subst (IsNodeWith nodes i.parts.labels op over) c.in-Some.is c.in_ok-n.ensures) c.number.ensures)

pub returns-in-None : goal.returns-in-None
returns-in-None c =
    let i = index_of c.self.inside.congruence in let nodes = c.args.g.now.nodes in let op = c.args.op.now in let over = c.args.over.now in
    let index = (subst (λ (x : Classes). Knows nodes x) (sym c.self.view_is) c.requires.knows).index in
    let all = over_labels i.parts over index.parts (subst (λ (x : Classes). All (λ k. k < length x.numbers) over) (sym c.self.view_is) c.requires.over) in
    subst (λ (x : Classes). IsClassWith nodes x.numbers op over None) c.self.view_is
    (class_none nodes i index op over all (subst (IsNodeWith nodes i.parts.labels op over) c.in-None.is c.in_ok-n.ensures))
