use Rattle.std.proofs.lemmas.Bool.Decides.{Decides-eqb}
use Rattle.std.proofs.lemmas.List.Elements.{Decides-contains, contains_decides}
use Rattle.std.proofs.Math.Dec.{eqb}
use Rattle.std.specs.Bool.{Decides}
use Rattle.std.specs.List.{Contains}
use Rattle.pv_build.proofs.Around.{home_low}
use Rattle.pv_build.proofs.Outwards.{has_block}
use Rattle.pv_build.proofs.building.has_block.Goals as goal

pub around-requires : goal.around-requires
around-requires c = home_low c.args.method.now c.requires.method c.args.b c.requires.block

pub returns : goal.returns
returns c =
    let row = c.around.result.now in
    let has = has_block c.args.method.now c.requires.method c.args.b row c.around.ensures.headers c.around.ensures.within c.args.i c.requires.loop_ in
    let d : Decides c.contains.result (Contains row c.args.i) = Decides-contains row c.args.i c.contains.result (contains_decides eqb Decides-eqb row c.args.i c.contains.result c.contains.ensures.cases) in
    (λ t. has.0 (d.0 t), λ b. d.1 (has.1 b))
