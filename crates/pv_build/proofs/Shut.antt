-- A loop whose thetas are tied is closed.
use Rattle.std.proofs.Common.{◌≡◌, ℕ, ◌<◌, length, Some, slice_get, sym, ap, ◌∙◌, subst}
use Rattle.pv_build.proofs.Words.{with_item, slice_get_within, same_Some, Loop, Graph, I, T, set_same, set_other, set_length, Reads, IsOfSort, Method, Made, Closed, IsMethod, loops_at, IsStage, IsClosed, IsBeyond, StandsAs, AllHaveRun, TiesLoop}
use Rattle.pv_build.specs.declared.method.Stage.TheVariants as stage
use Rattle.pv_build.proofs.Persisting.{Persists, grown, sort_on, stands_on}
use Rattle.pv_layout.proofs.Cited.{depth_is}
use Rattle.pv_build.proofs.Staged.{stage_grown}
use Rattle.pv_build.proofs.Looped.{deep}
use Rattle.pv_build.proofs.Closed.{closed_enters, closed_token, stage_closed}

module _ (m : Method) (is : IsMethod m) (g : Graph) (made : Made) (i : ℕ) (stage_is : IsStage m g made (loops_at m (Some i))) (run : AllHaveRun m made i) (new : Graph) (token : ℕ) (t : TiesLoop m g made i new token) where
  abbrev l : Loop
  l = t.loop_

  stage_mid : IsStage m t.mid made (loops_at m (Some i))
  stage_mid = stage_grown m g t.mid made (loops_at m (Some i)) (length (loops_at m (Some i))) (deep m is i l t.there) t.grows stage_is

  grown_mid : Persists g t.mid
  grown_mid = grown (IsBeyond (length (loops_at m (Some i)))) g t.mid t.grows

  tied : Persists t.mid new
  tied = record { stand = t.tied.stand; sorts = t.tied.sorts }

  module _ (ending depth : ℕ) (ends : StandsAs m g made.names ending (λ v. v.ending l.header)) (sorted : IsOfSort g ending I) (deep_is : depth ≡ l.depth) where
    abbrev c : Closed
    c = record { depth = depth; token = token; ending = ending }

    is_closed : IsClosed m new made.names l.header c
    is_closed = record {
      depth = deep_is ∙ depth_is m.typed.now.program m.typed.now.frames m.flow.now.blocks m.forest.now is.routine i l t.there;
      token = subst (λ (n : ℕ). IsOfSort new n T) t.token_is (closed_token m is t.mid made i l t.there stage_mid t.opened t.at t.may.0 t.may.1 t.may.2 new t.tied);
      enters = λ v eqs. subst (λ (n : ℕ). Reads new.nodes made.names n (v.entering l.header 0)) t.token_is (closed_enters m is t.mid made i l t.there stage_mid t.opened t.at t.may.0 t.may.1 t.may.2 new t.tied v eqs);
      ending_sort = sort_on t.mid new tied ending I (sort_on g t.mid grown_mid ending I sorted);
      ends = stands_on t.mid new tied made.names made.names (λ h s n i. i) m ending (λ v. v.ending l.header) (stands_on g t.mid grown_mid made.names made.names (λ h s n i. i) m ending (λ v. v.ending l.header) ends);
    }

    low : i < length made.loops.items
    low = slice_get_within made.loops.items i (stage.Open t.opened) t.at

    shut : IsStage m new (record { start = made.start; names = made.names; blocks = made.blocks; loops = with_item made.loops i (stage.Closed c) }) (loops_at m l.parent)
    shut = stage_closed m is t.mid made i l t.there stage_mid t.opened t.at t.may.0 t.may.1 t.may.2 new t.tied c is_closed run (with_item made.loops i (stage.Closed c))
        (set_same made.loops.items i (stage.Closed c) low) (λ j ne. set_other made.loops.items i (stage.Closed c) j ne) (set_length made.loops.items i (stage.Closed c))

-- WHAT IS MADE WHERE A LOOP IS CLOSED
pub stage_shut : (m : Method) → IsMethod m → (g : Graph) (made : Made) (i : ℕ) → IsStage m g made (loops_at m (Some i)) → AllHaveRun m made i → (new : Graph) (token : ℕ) → TiesLoop m g made i new token → (l : Loop) → slice_get m.forest.now.loops.items i ≡ Some l
    → (ending depth : ℕ) → StandsAs m g made.names ending (λ v. v.ending l.header) → IsOfSort g ending I → depth ≡ l.depth
    → IsStage m new (record { start = made.start; names = made.names; blocks = made.blocks; loops = with_item made.loops i (stage.Closed (record { depth = depth; token = token; ending = ending })) }) (loops_at m l.parent)
stage_shut m is g made i stage_is run new token t l there ending depth ends sorted deep_is =
    let same : l ≡ t.loop_ = same_Some l t.loop_ (sym there ∙ t.there) in
    subst (λ (k : Loop). IsStage m new (record { start = made.start; names = made.names; blocks = made.blocks; loops = with_item made.loops i (stage.Closed (record { depth = depth; token = token; ending = ending })) }) (loops_at m k.parent)) (sym same)
    (shut m is g made i stage_is run new token t ending depth (subst (λ (k : Loop). StandsAs m g made.names ending (λ v. v.ending k.header)) same ends) sorted (deep_is ∙ ap (λ (k : Loop). k.depth) same))
