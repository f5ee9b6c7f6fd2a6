use Rattle.std.proofs.Common.{◌<◌, ℕ, Bool, Vec, sym, subst}
use Rattle.std.specs.declared.alloc.Global.{Global}
use Rattle.std.proofs.lemmas.Result.{IfOk-weaker}
use Rattle.pv_classes.specs.Forms.{AreFirst}
use Rattle.pv_classes.specs.Calls.{Classes, Knows}
use Rattle.pv_classes.specs.Congruence.{index_of}
use Rattle.pv_classes.proofs.Keying.{first_forms}
use Rattle.pv_classes.proofs.classes.Classes.first_of_forms.Goals as goal

pub first_keys-requires : goal.first_keys-requires
first_keys-requires c =
    let index = (subst (λ (x : Classes). Knows c.args.g.now.nodes x) (sym c.self.view_is) c.requires).index in
    record { long = index.long; kids = λ n k node there has. subst (λ (m : ℕ). k < m) (sym index.long) (index.kids n k node there has) }

pub returns : goal.returns
returns c =
    let index = (subst (λ (x : Classes). Knows c.args.g.now.nodes x) (sym c.self.view_is) c.requires).index in
    IfOk-weaker c.first_keys.result _ _
    (λ (firsts : Vec Bool Global) h. subst (λ (x : Classes). AreFirst c.args.g.now.nodes x.numbers firsts.items) c.self.view_is (first_forms c.args.g.now.nodes (index_of c.self.inside.congruence) index firsts.items h))
    c.first_keys.ensures
