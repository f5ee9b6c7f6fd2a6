use Rattle.std.proofs.Common.{◌≡◌, false, is_some, ap}
use Rattle.std.specs.Str.{bytes_eq}
use Rattle.std.specs.Map.{lookup}
use Rattle.indexmap.specs.IndexMap.{insert_entry}
use Rattle.pv_asm.proofs.LabelSteps.{put_new}
use Rattle.pv_asm.proofs.labels.Labels.put.Goals as goal

pub returns : goal.returns
returns c =
    let absent : is_some (lookup (bytes_eq c.args.label.now) c.args.self.now) ≡ false = cc (ap is_some c.address_of.ensures) in
    let later : c.insert.new.self.entries ≡ insert_entry bytes_eq c.args.self.now c.args.label.now c.args.at = cc (c.in_ok-insert.ensures.entries, c.in_ok-clone.ensures.cases) in
    put_new c.args.self.now c.insert.new.self.entries c.args.label.now c.args.at absent later
