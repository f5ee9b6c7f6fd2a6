use Rattle.std.proofs.Common.{ℕ, length, get_or}
use Rattle.std.proofs.lemmas.List.Elements.{Contains-get_or}
use Rattle.pv_classes.proofs.Keying.{all_first}
use Rattle.pv_classes.proofs.forms.is_first.Goals as goal

pub class_key-requires : goal.class_key-requires
class_key-requires c =
    let kids = c.node.result.now.kids in
    all_first c.args.n (length c.args.parts.now.labels) kids c.requires.there (λ k d lt. c.requires.kids c.args.n (get_or kids k d) c.node.result.now c.node.ensures (Contains-get_or kids k d lt))
