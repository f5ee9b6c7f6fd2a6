use Rattle.std.proofs.Common.{◌≡◌, ◌++◌, ◌∷◌, [], ℕ, List, Some, length, slice_get, sym, ap, ◌∙◌, subst, refl}
use Rattle.std.proofs.lemmas.Option.{slice_get_read, slice_get_within, same_Some}
use Rattle.pv_match.specs.declared.members.Group.{Group}
use Rattle.pv_match.specs.Grouping.{HasNoGroup, IsGroupAt, Gains}
use Rattle.pv_match.proofs.Groups.{gains_set, gains_pushed}
use Rattle.pv_match.proofs.members.put.Goals as goal

pub returns-in_ok-push-in-Some : goal.returns-in_ok-push-in-Some
returns-in_ok-push-in-Some c =
    let at : IsGroupAt c.args.groups.now.items c.args.number c.in-Some.i = subst (λ (gs : List Group). IsGroupAt gs c.args.number c.in-Some.i) c.deref.ensures.value c.in-Some.ensures in
    let low = slice_get_within c.args.groups.now.items c.in-Some.i at.group at.there in
    let there : slice_get c.args.groups.now.items c.in-Some.i ≡ Some c.index_mut.result.now = slice_get_read c.args.groups.now.items (length c.args.groups.now.items) c.in-Some.i c.index_mut.result.now refl low c.index_mut.ensures.value in
    let same : c.index_mut.result.now ≡ at.group = same_Some c.index_mut.result.now at.group (sym there ∙ at.there) in
    gains_set c.args.groups.now.items c.args.number c.in-Some.i c.args.n (record { number = c.index_mut.result.now.number; members = c.push.new.self }) at (ap (λ (g : Group). g.number) same) (c.in_ok-push-in-Some.ensures.items ∙ ap (λ (g : Group). g.members.items ++ c.args.n ∷ []) same)

pub returns-in_ok-push-in-None-2 : goal.returns-in_ok-push-in-None-2
returns-in_ok-push-in-None-2 c =
    let none_ : HasNoGroup c.args.groups.now.items c.args.number = subst (λ (gs : List Group). HasNoGroup gs c.args.number) c.deref.ensures.value c.in-None.ensures in
    subst (λ (gs : List Group). Gains c.args.groups.now.items gs c.args.number c.args.n) (sym c.in_ok-push-in-None-2.ensures.items)
    (gains_pushed c.args.groups.now.items (record { number = c.args.number; members = c.push-in-None.new.self }) c.args.number c.args.n none_ refl (c.in_ok-push-in-None.ensures.items ∙ ap (λ (xs : List ℕ). xs ++ c.args.n ∷ []) c.new-members.ensures.items))
