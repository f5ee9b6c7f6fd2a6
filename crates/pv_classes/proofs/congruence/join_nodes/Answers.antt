use Rattle.std.proofs.Common.{rules, [], ◌↔◌, ◌⊎◌, ℕ, List, get_or, refl, sym, subst}
use Rattle.std.specs.List.{Contains}
use Rattle.std.proofs.lemmas.Result.{on_ok_weaker}
use Rattle.pv_classes.specs.declared.join.Join.{Join}
use Rattle.pv_classes.specs.declared.congruence.Known.{Known}
use Rattle.pv_classes.specs.Index.{AreJoined}
use Rattle.pv_classes.proofs.Links.{joined_more}
use Rattle.pv_classes.proofs.congruence.join_nodes.Goals as goal

pub returns-clause-joined : goal.returns-clause-joined
returns-clause-joined c =
    subst (λ (xs : List Join). AreJoined c.merge.new.self xs) (sym (search rules))
    (joined_more c.args.congruence.now.parts c.merge.new.self c.args.joins.now.items c.args.join c.in_ok-moved.moved.items c.requires.joined c.requires.first c.requires.second c.in_ok-moved.ensures.ok)

pub returns-clause-ok : goal.returns-clause-ok
returns-clause-ok c =
    on_ok_weaker c.wake.result
    (λ w. record {
      moved = c.in_ok-moved.moved.items;
      merges = c.in_ok-moved.ensures.ok;
      woken = λ n.
          subst (λ (xs : List ℕ). Contains c.wake.new.waiting.items n ↔ (Contains c.args.congruence.now.waiting.items n ⊎ ((k : ℕ) × Contains xs k × Contains (get_or c.args.congruence.now.known.value.parents k []) n))) c.deref-2.ensures.value
          (subst (λ (v : Known). Contains c.wake.new.waiting.items n ↔ (Contains c.args.congruence.now.waiting.items n ⊎ ((k : ℕ) × Contains c.deref-2.result.now k × Contains (get_or v.parents k []) n))) c.deref.ensures (w n));
      rest = refl;
      joins = search rules;
    })
    c.wake.ensures
