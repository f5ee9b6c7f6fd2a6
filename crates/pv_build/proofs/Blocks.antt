-- A block is begun and run.
use Rattle.std.proofs.Common.{◌≡◌, ℕ, ◌+◌, ◌<◌, ◌∷◌, length, set, Option, Some, None, slice_get, sym, subst}
use Rattle.pv_build.proofs.Words.{Block, Graph, Chain, place_chain, Grows, State, Ran, entry_of, RanFor, IsSortedRan, Method, Made, IsMethod, IsLoopAt, HasRun, AreDone, IsStage, GrowsIn, loops_at, loops_around, HeldAs, BeginsBlock, IsOuter, IsEnteredBy, IsOwnLoop, IsNext, IsStageBefore, CanOpen, Begun}
use Rattle.pv_build.proofs.Staged.{flat_beyond, stage_grown}
use Rattle.pv_build.proofs.Around.{deep_at, deep_around, header_own, outer_own, outer_plain}
use Rattle.pv_build.proofs.Turns.{next_ahead}
use Rattle.pv_build.proofs.Restaged.{is_done, stage_ran, done_ran}

-- ---- a block is begun

module _ (m : Method) (is : IsMethod m) (made : Made) (b : ℕ) (at : Option ℕ) (in_ : IsLoopAt m at) (outer : IsOuter m b at) (old g : Graph) (before : IsStageBefore m old made b) (grows : GrowsIn (length (loops_at m at)) old g) where
  stage_entered : IsStage m g made (loops_at m at)
  stage_entered = stage_grown m old g made (loops_at m at) (length (loops_at m at)) (deep_at m is at in_) grows (before at outer)

  -- one that heads no loop
  pub begun_plain : (c : State) → IsOwnLoop m b None → IsEnteredBy m g made.names b c → BeginsBlock m g b c → Begun m g made b c
  begun_plain c none enters sorts = record {
    stage = subst (IsStage m g made) (sym (outer_plain m is b at none outer)) stage_entered;
    sorts = sorts;
    reads = enters.other none;
  }

  -- one that heads a loop, which may be opened
  pub can_open : (i : ℕ) → IsOwnLoop m b (Some i) → IsNext m made b → (c : State) → IsEnteredBy m g made.names b c → BeginsBlock m g b c → CanOpen m g made i c
  can_open i own next c enters sorts = record {
    loop_ = own.0;
    there = own.1;
    ahead = λ run. next_ahead m is made b next.place next.at next.done (subst (HasRun made) own.2 run);
    stage = subst (IsStage m g made) (outer_own m is b i own.0 at own.1 own.2 outer) stage_entered;
    sorts = subst (λ (h : ℕ). BeginsBlock m g h c) (sym own.2) sorts;
    reads = subst (λ (h : ℕ). HeldAs m g made.names c (λ v. v.entering h)) (sym own.2)
        (enters.header (loops_at m own.0.parent, subst (λ (h : ℕ). loops_around m h ≡ h ∷ loops_at m own.0.parent) own.2 (header_own m is i own.0 own.1)));
  }

-- ---- .. and run

module _ (m : Method) (is : IsMethod m) (g new : Graph) (made more : Made) (b : ℕ) (block : Block) (here : slice_get m.flow.now.blocks b ≡ Some block) (c : State) (begun : Begun m g made b c) (ran : Ran) (grows : Grows g new)
    (stands : (x : Chain) → place_chain m.typed.now.program m.typed.now.frames block ≡ Some x → RanFor (entry_of g c) new.nodes ran x) (sorted : IsSortedRan new m.typed.now.program m.typed.now.frames ran) where
  stage_grows : IsStage m new made (loops_around m b)
  stage_grows = stage_grown m g new made (loops_around m b) (length (loops_around m b)) (deep_around m is b) (flat_beyond (length (loops_around m b)) g new grows) begun.stage

  module _ (low : b < length made.blocks.items) (items : more.blocks.items ≡ set made.blocks.items b (Some ran)) (same : more ≡ record made { blocks = more.blocks }) where
    pub left_stage : IsStage m new more (loops_around m b)
    left_stage = stage_ran m new made more b ran low items same (loops_around m b) stage_grows (is_done m is g new made.names b block c ran here begun.stage.names begun.reads stands sorted) (λ h i. i)

    pub left_done : (k : ℕ) → AreDone m made k → slice_get m.forest.now.order.items k ≡ Some b → AreDone m more (k + 1)
    left_done k done at = done_ran m new made more b ran low items same k at done
