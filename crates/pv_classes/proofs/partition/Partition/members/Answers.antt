use Rattle.std.proofs.Common.{◌≡◌, ◌<◌, [], ℕ, List, length, slice_index_or, sym, ◌∙◌, ap, subst}
use Rattle.pv_classes.specs.Forms.{AreMembers}
use Rattle.pv_classes.specs.Partition.{Parts, at}
use Rattle.pv_classes.proofs.Parts.{read_at}
use Rattle.pv_classes.proofs.Keying.{part_members}
use Rattle.pv_classes.proofs.partition.Partition.members.Goals as goal

pub returns : goal.returns
returns c =
    let labels = c.self.inside.labels.items in let least = c.self.inside.least.items in let others = c.self.inside.others in let n = c.args.n in
    let there : n < length labels = subst (λ (p : Parts). n < length p.labels) (sym c.self.view_is) c.requires in
    let label : c.index-label.result.now ≡ at labels n = sym (read_at labels n c.index-label.result.now there c.index-label.ensures) in
    let rest : c.at.result.now ≡ slice_index_or others (at labels n) [] = c.at.ensures ∙ ap (λ (l : ℕ). slice_index_or others l []) label in
    subst (λ (p : Parts). AreMembers p.labels n c.index-label.result.now c.at.result.now) c.self.view_is
    (subst (λ (one : ℕ). AreMembers labels n one c.at.result.now) (sym label)
    (subst (λ (ks : List ℕ). AreMembers labels n (at labels n) ks) (sym rest)
    (part_members labels least others n there c.self.invariant)))
