use Rattle.std.proofs.Common.{◌≡◌, ◌≢◌, ℕ, List, [], ◌++◌, length, set, get_or, refl, subst, sym, ap, ◌∙◌, get_or-set_other}
use Rattle.pv_loops.proofs.Words.{Groups, group_of, Relabels}
use Rattle.pv_loops.proofs.Merging.{merges}
use Rattle.pv_loops.proofs.groups.Groups.merge.Goals as goal

pub returns : goal.returns
returns c =
    let old : Groups = c.args.self.now in
    let n : ℕ = c.args.n in
    let p : ℕ = c.args.p in
    let mid : Groups = record { leader = old.leader; place = old.place; members = c.append.new.self } in
    let apart : p ≢ n = λ e. c.requires.other (sym e) in
    let row_p : get_or c.take-moved.new.self p [] ≡ group_of old p = ap (λ (m : List (List ℕ)). get_or m p []) c.take-moved.ensures.left ∙ get_or-set_other old.members n p [] [] apart in
    let moved : c.deref.result.now ≡ group_of old n = c.deref.ensures.value ∙ c.take-moved.ensures.taken in
    let moved_2 : c.deref-2.result.now ≡ group_of old n = c.deref-2.ensures.value ∙ c.take-moved.ensures.taken in
    let from : length c.get-from.result.now ≡ length (group_of old p) = ap (λ (l : List ℕ). length l) (c.get-from.ensures ∙ row_p) in
    let members : c.append.new.self ≡ set (set old.members n []) p (group_of old p ++ group_of old n) =
    c.in_ok-append.ensures ∙ ap (λ (m : List (List ℕ)). set m p (get_or c.take-moved.new.self p [] ++ c.deref.result.now)) c.take-moved.ensures.left
    ∙ ap (λ (l : List ℕ). set (set old.members n []) p (l ++ c.deref.result.now)) row_p ∙ ap (λ (l : List ℕ). set (set old.members n []) p (group_of old p ++ l)) moved in
    let relabels : Relabels mid c.relabel.new.self (group_of old n) (length (group_of old n)) p (length c.get-from.result.now) =
    subst (λ (q : List ℕ). Relabels mid c.relabel.new.self q (length q) p (length c.get-from.result.now)) moved_2 c.relabel.ensures in
    merges old c.relabel.new.self n p c.requires.groups c.requires.merged c.requires.into c.requires.other mid refl refl members
    (subst (λ (f : ℕ). Relabels mid c.relabel.new.self (group_of old n) (length (group_of old n)) p f) from relabels)
