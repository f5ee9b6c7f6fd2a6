-- Edges from one instruction, followed one after the other.
use Rattle.std.proofs.Common.{◌≡◌, ℕ, ◌+◌, ◌≤◌, ◌<◌, List, [], ◌∷◌, ◌++◌, length, get_or, set, take, drop, Option, Some, None, refl, sym, ap, ◌∙◌, subst, inl, inr, arith, length-append, ◌⊎◌, slice_get, Contains, Err, take-append-drop}
use Rattle.pv_frame.proofs.Words.{AllByRecursion, take_more, drop_more, sum_by-set, Contains-append_left, Contains-append_right, Contains-push, slice_get_within, get_or_from_slice_get, length-set, all_push, all_map, Frame, Untyped, Flows, IsFrameAt, LeadsTo, FoundOr, weight_of, weight, HaveLocals, Below, Follows, Clashes, merged, SameStack}
use Rattle.pv_frame.specs.declared.stop.Untyped.TheVariants as untyped
use Rattle.pv_frame.proofs.FrameLaws.{flows_flows, some_of}
use Rattle.pv_frame.proofs.Lists.{all_parts, equal_or_not, get_set, get_set_other, contains_first}
use Rattle.pv_frame.proofs.Meeting.{Meets, flows_itself, merged_meets}

-- ---- edges and the frames that they lead to

pub leads_from : (frames : List (Option Frame)) (f g : Frame) (k : ℕ) → Flows f g → LeadsTo frames g k → LeadsTo frames f k
leads_from frames f g k flows edge = record { target = edge.target; there = edge.there; flows = flows_flows f g edge.target flows edge.flows }

pub leads_below : (frames others : List (Option Frame)) (f : Frame) (k : ℕ) → Below frames others → LeadsTo frames f k → LeadsTo others f k
leads_below frames others f k below edge = leads_from others f edge.target k edge.flows (below k edge.target edge.there)

pub below_itself : (frames : List (Option Frame)) → Below frames frames
below_itself frames k f at = record { target = f; there = at; flows = flows_itself f }

below_below : (a b c : List (Option Frame)) → Below a b → Below b c → Below a c
below_below a b c p q k f at = leads_below b c f k q (p k f at)

-- ---- no edge, one edge, one more edge

pub follows_none : (frames : List (Option Frame)) (work : List ℕ) (source : Frame) → HaveLocals (length source.locals) frames → Follows frames work source [] frames work
follows_none frames work source locals = record {
  long = refl;
  stays = below_itself frames;
  leads = tt;
  changed = λ k g at. inl at;
  kept = λ k c. c;
  needed = λ others below edges. below;
  locals = locals;
  lighter = omega arith;
}

-- the frame is there already
pub follows_same : (frames : List (Option Frame)) (work : List ℕ) (source target : Frame) (j : ℕ) → HaveLocals (length source.locals) frames → IsFrameAt frames j target → Flows source target → Follows frames work source (j ∷ []) frames work
follows_same frames work source target j locals at flows = record {
  long = refl;
  stays = below_itself frames;
  leads = (record { target = target; there = at; flows = flows }, tt);
  changed = λ k g here. inl here;
  kept = λ k c. c;
  needed = λ others below edges. below;
  locals = locals;
  lighter = omega arith;
}

-- the frame is there now
pub follows_set : (frames : List (Option Frame)) (work : List ℕ) (source : Frame) (slot : Option Frame) (j : ℕ) → HaveLocals (length source.locals) frames → slice_get frames j ≡ Some slot → SameStack source slot
    → ((f : Frame) → slot ≡ Some f → Flows source f → ⊥) → Follows frames work source (j ∷ []) (set frames j (Some (merged source slot))) (work ++ j ∷ [])
follows_set frames work source slot j locals at same no_flow = record {
  long = length-set frames j (Some next);
  stays = stays;
  leads = (record { target = next; there = here; flows = meets.from_source }, tt);
  changed = changed;
  kept = λ k c. Contains-append_left work (j ∷ []) k c;
  needed = needed;
  locals = next_locals;
  lighter = lighter;
}
  where
    next : Frame
    next = merged source slot

    now : List (Option Frame)
    now = set frames j (Some next)

    within : j < length frames
    within = slice_get_within frames j slot at

    here : IsFrameAt (set frames j (Some (merged source slot))) j (merged source slot)
    here = get_set frames j (Some (merged source slot)) within

    slot_at : (f : Frame) → slot ≡ Some f → IsFrameAt frames j f
    slot_at f e = at ∙ ap Some e

    meets : Meets source slot (merged source slot)
    meets = merged_meets source slot same (λ f e. locals j f (slot_at f e))

    stays : Below frames (set frames j (Some (merged source slot)))
    stays k f was = elim (equal_or_not k j) [
      | inl e ↦
          let slot_is : slot ≡ Some f = some_of _ _ (sym at ∙ ap (slice_get frames) (sym e) ∙ was) in
          record { target = merged source slot; there = subst (λ (i : ℕ). IsFrameAt (set frames j (Some (merged source slot))) i (merged source slot)) (sym e) here; flows = meets.from_slot f slot_is }
      | inr other ↦ record { target = f; there = get_set_other frames j k (Some (merged source slot)) other ∙ was; flows = flows_itself f }
    ]

    frame_is : (k : ℕ) (g : Frame) → IsFrameAt (set frames j (Some (merged source slot))) k g → ((k ≡ j) × (g ≡ merged source slot)) ⊎ IsFrameAt frames k g
    frame_is k g is = elim (equal_or_not k j) [
      | inl e ↦ inl (e, some_of _ _ (some_of _ _ (sym is ∙ ap (slice_get (set frames j (Some (merged source slot)))) e ∙ here)))
      | inr other ↦ inr (sym (get_set_other frames j k (Some (merged source slot)) other) ∙ is)
    ]

    changed : (k : ℕ) (g : Frame) → IsFrameAt (set frames j (Some (merged source slot))) k g → IsFrameAt frames k g ⊎ (Contains (work ++ j ∷ []) k × Contains (j ∷ []) k)
    changed k g is = elim (frame_is k g is) [
      | inl p ↦ inr (subst (λ (i : ℕ). Contains (work ++ j ∷ []) i) (sym p.0) (Contains-push work j), subst (λ (i : ℕ). Contains (j ∷ []) i) (sym p.0) (contains_first j []))
      | inr was ↦ inl was
    ]

    needed : (others : List (Option Frame)) → Below frames others → AllByRecursion (LeadsTo others source) (j ∷ []) → Below (set frames j (Some (merged source slot))) others
    needed others below edges k g is = elim (frame_is k g is) [
      | inr was ↦ below k g was
      | inl p ↦
          let edge : LeadsTo others source j = edges.0 in
          let most : Flows (merged source slot) edge.target =
          meets.greatest edge.target edge.flows (λ f e. let up = below j f (slot_at f e) in subst (λ (x : Frame). Flows f x) (some_of _ _ (some_of _ _ (sym up.there ∙ edge.there))) up.flows) in
          let leads : LeadsTo others (merged source slot) j = record { target = edge.target; there = edge.there; flows = most } in
          subst (λ (i : ℕ). LeadsTo others g i) (sym p.0) (subst (λ (x : Frame). LeadsTo others x j) (sym p.1) leads)
    ]

    next_locals : HaveLocals (length source.locals) (set frames j (Some (merged source slot)))
    next_locals k g is = elim (frame_is k g is) [
      | inl p ↦ ap (λ (x : Frame). length x.locals) p.1 ∙ meets.locals
      | inr was ↦ locals k g was
    ]

    lighter : weight (length source.locals) (set frames j (Some (merged source slot))) + length (work ++ j ∷ []) ≤ weight (length source.locals) frames + length work
    lighter =
        let n = length source.locals in
        let sums = sum_by-set (weight_of n) frames j (Some (merged source slot)) slot within in
        let slot_is : get_or frames j slot ≡ slot = get_or_from_slice_get frames j slot slot at in
        let old = ap (weight_of n) slot_is in
        let less = meets.lighter no_flow in
        omega (arith, length-append work (j ∷ []))

-- one more edge
pub follows_more : (frames mid now : List (Option Frame)) (work wait left : List ℕ) (source : Frame) (places : List ℕ) (j : ℕ) → Follows frames work source places mid wait → Follows mid wait source (j ∷ []) now left → Follows frames work source (places ++ j ∷ []) now left
follows_more frames mid now work wait left source places j a b = record {
  long = b.long ∙ a.long;
  stays = below_below frames mid now a.stays b.stays;
  leads = all_push (LeadsTo now source) places j (all_map (LeadsTo mid source) (LeadsTo now source) (λ i edge. leads_below mid now source i b.stays edge) places a.leads) b.leads.0;
  changed = λ k g at. elim (b.changed k g at) [
    | inr p ↦ inr (p.0, Contains-append_right places (j ∷ []) k p.1)
    | inl mid_at ↦ elim (a.changed k g mid_at) [
      | inl was ↦ inl was
      | inr p ↦ inr (b.kept k p.0, Contains-append_left places (j ∷ []) k p.1)
    ]
  ];
  kept = λ k c. b.kept k (a.kept k c);
  needed = λ others below edges. let parts = all_parts (LeadsTo others source) places j [] edges in b.needed others (a.needed others below parts.0) (parts.1, tt);
  locals = b.locals;
  lighter = omega (arith, a.lighter, b.lighter);
}

-- ---- edges that lead nowhere

pub clashes_past : (frames : List (Option Frame)) (source : Frame) (j : ℕ) → length frames ≤ j → Clashes frames source (j ∷ [])
clashes_past frames source j past others within below edges =
    let edge : LeadsTo others source j = edges.0 in
    let inside = within j edge.target edge.there in
    omega arith

-- the stacks differ
pub clashes_stack : (frames : List (Option Frame)) (source : Frame) (slot : Option Frame) (j : ℕ) → slice_get frames j ≡ Some slot → (SameStack source slot → ⊥) → Clashes frames source (j ∷ [])
clashes_stack frames source None j at differ others within below edges = absurd (differ tt)
clashes_stack frames source (Some target) j at differ others within below edges =
    let edge : LeadsTo others source j = edges.0 in
    let up = below j target at in
    let same : up.target ≡ edge.target = some_of _ _ (some_of _ _ (sym up.there ∙ edge.there)) in
    differ (sym up.flows.stack ∙ ap (λ (x : Frame). x.stack) same ∙ edge.flows.stack)

-- one edge of more
pub clashes_more : (frames mid : List (Option Frame)) (work wait : List ℕ) (source : Frame) (places others : List ℕ) (j : ℕ) → Follows frames work source places mid wait → Clashes mid source (j ∷ []) → Clashes frames source (places ++ j ∷ others)
clashes_more frames mid work wait source places rest j a clash others within below edges =
    let parts = all_parts (LeadsTo others source) places j rest edges in
    clash others (λ k f at. let inside = within k f at in let long = a.long in omega arith) (a.needed others below parts.0) (parts.1, tt)

-- what is said of a frame that can't be merged is said of its edge
pub clash_answers : {A B : Type 0} (frames : List (Option Frame)) (source : Frame) (slot : Option Frame) (j : ℕ) (e : Untyped) (P : A → Type 0) (Q : B → Type 0) → slice_get frames j ≡ Some slot → FoundOr (Err e) P (¬ SameStack source slot) → FoundOr (Err e) Q (Clashes frames source (j ∷ []))
clash_answers frames source slot j untyped.Types P Q at differ = clashes_stack frames source slot j at differ
clash_answers frames source slot j untyped.Memory P Q at differ = tt

-- some edges, and one more
pub follows_next : (frames mid now : List (Option Frame)) (work wait left : List ℕ) (source : Frame) (places : List ℕ) (i : ℕ) → i < length places → Follows frames work source (take i places) mid wait → Follows mid wait source (get_or places i 0 ∷ []) now left → Follows frames work source (take (i + 1) places) now left
follows_next frames mid now work wait left source places i lt a b =
    subst (λ (l : List ℕ). Follows frames work source l now left) (sym (take_more places i 0 lt)) (follows_more frames mid now work wait left source (take i places) (get_or places i 0) a b)

-- some edges, and one that leads nowhere
pub clashes_next : {A B : Type 0} (frames mid : List (Option Frame)) (work wait : List ℕ) (source : Frame) (places : List ℕ) (i : ℕ) (e : Untyped) (P : A → Type 0) (Q : B → Type 0) → i < length places → Follows frames work source (take i places) mid wait → FoundOr (Err e) P (Clashes mid source (get_or places i 0 ∷ [])) → FoundOr (Err e) Q (Clashes frames source places)
clashes_next frames mid work wait source places i untyped.Memory P Q lt a clash = tt
clashes_next frames mid work wait source places i untyped.Types P Q lt a clash =
    let parts : take i places ++ get_or places i 0 ∷ drop (i + 1) places ≡ places = ap (λ (l : List ℕ). take i places ++ l) (sym (drop_more places i 0 lt)) ∙ take-append-drop i places in
    subst (λ (l : List ℕ). Clashes frames source l) parts (clashes_more frames mid work wait source (take i places) (drop (i + 1) places) (get_or places i 0) a clash)
