-- The loops around a block by their places, the innermost first.
use Rattle.std.proofs.Common.{◌≡◌, ℕ, suc, ◌+◌, ◌<◌, ◌≤◌, List, ◌∷◌, ◌++◌, length, map, get_or, take, drop, Option, Some, None, slice_get, ◌↔◌, inl, ⊎_elim, refl, sym, ap, ◌∙◌, subst, arith}
use Rattle.std.specs.List.{All, Contains}
use Rattle.std.proofs.lemmas.List.{length-map, get_or-map, get_or_default, take-append-drop}
use Rattle.std.proofs.lemmas.Option.{slice_get_within, slice_get_read, slice_get_cases, get_or_from_slice_get}
use Rattle.std.proofs.Math.ListN.{drop_of_length-le}
use Rattle.std.proofs.Math.Seq.{drop-cons}
use Rattle.pv_loops.specs.declared.forest.Loop.{Loop}
use Rattle.pv_loops.specs.Outwards.{header_at}
use Rattle.pv_graph.proofs.Cited.{found}
use Rattle.pv_graph.specs.Walks.{In}
use Rattle.pv_graph.specs.Graphs.{Graph}
use Rattle.pv_build.specs.declared.method.Method.{Method}
use Rattle.pv_build.specs.declared.method.Made.{Made}
use Rattle.pv_build.specs.Stages.{IsMethod, IsLoopAt, HasRun, IsStage, loops_at, loops_around}
use Rattle.pv_build.specs.Building.{HasBlock, IsLast, IsStageFor}
use Rattle.pv_layout.proofs.Cited.{one_loop}
use Rattle.pv_build.proofs.Around.{in_of, of_in, in_right, ranks, no_loops, loops_own, header_is, header_around, outward}
use Rattle.pv_build.proofs.Turns.{done_same, loop_done}
use Rattle.pv_build.proofs.Restaged.{stage_before, stage_for}

module _ (m : Method) (is : IsMethod m) (b : ℕ) (row : List ℕ) (heads : map (header_at m.forest.now.loops.items) row ≡ loops_around m b) (within : All (λ i. i < length m.forest.now.loops.items) row) where
  abbrev L : List ℕ
  L = loops_around m b

  pub row_long : length row ≡ length L
  row_long = sym (length-map row (header_at m.forest.now.loops.items)) ∙ ap length heads

  -- the loop at place k: it has k of the loops around the block inside it
  pub record IsIn (k i : ℕ) : Type 0 where
    pub listed : Loop
    pub there : slice_get m.forest.now.loops.items i ≡ Some listed
    pub header : get_or L k 0 ≡ listed.header
    pub rest : loops_at m (Some i) ≡ drop k L

  pub loop_in : (k i : ℕ) → slice_get row k ≡ Some i → IsIn k i
  loop_in k i at = record { listed = l.0; there = l.1; header = header; rest = sym (header_around m is i l.0 l.1) ∙ ((ranks m is).shape.headers b l.0.header (take k L) (drop (suc k) L) (sym (take-append-drop k L) ∙ ap (λ (xs : List ℕ). take k L ++ xs) cut)).0 ∙ sym cut }
    where
      less : k < length row
      less = slice_get_within row k i at

      is_i : get_or row k 0 ≡ i
      is_i = get_or_from_slice_get row k i 0 at

      l : (l : Loop) × (slice_get m.forest.now.loops.items i ≡ Some l)
      l = found m.forest.now.loops.items i (subst (λ (n : ℕ). n < length m.forest.now.loops.items) is_i (within k 0 less))

      header : get_or L k 0 ≡ l.0.header
      header = ap (λ (xs : List ℕ). get_or xs k 0) (sym heads) ∙ get_or-map (header_at m.forest.now.loops.items) row k 0 0 less ∙ ap (header_at m.forest.now.loops.items) is_i ∙ header_is m.forest.now.loops.items i l.0 l.1

      cut : drop k L ≡ l.0.header ∷ drop (suc k) L
      cut = drop-cons L k 0 (let long = row_long in omega (arith, less, long)) ∙ ap (λ (h : ℕ). h ∷ drop (suc k) L) header

  -- from the loop at place k outwards, if there is one
  pub rest_at : (k : ℕ) (o : Option ℕ) → o ≡ slice_get row k → loops_at m o ≡ drop k L
  rest_at k None e = ⊎_elim
      (λ (q : (i : ℕ) × (k < length row) × (slice_get row k ≡ Some i) × (get_or row k i ≡ i)). absurd (let z : None ≡ Some q.0 = e ∙ q.2 in cc))
      (λ (q : (length row ≤ k) × (slice_get row k ≡ None)). no_loops m is ∙ sym (drop_of_length-le L (let long = row_long in let le = q.0 in omega (arith, le, long))))
      (slice_get_cases row k).1
  rest_at k (Some i) e = (loop_in k i (sym e)).rest

  pub low_at : (k : ℕ) (o : Option ℕ) → o ≡ slice_get row k → IsLoopAt m o
  low_at k None e = tt
  low_at k (Some i) e = let q = loop_in k i (sym e) in slice_get_within m.forest.now.loops.items i q.listed q.there

  -- ---- whether a loop has a block

  pub has_block : (i : ℕ) → i < length m.forest.now.loops.items → Contains row i ↔ HasBlock m i (Some b)
  has_block i low = (to, from)
    where
      to : Contains row i → HasBlock m i (Some b)
      to (k, less, e) =
          let q = loop_in k i (slice_get_read row (length row) k i refl less (sym e)) in
          (q.listed, q.there, (k, (let long = row_long in omega (arith, less, long)), get_or_default L k q.listed.header 0 (let long = row_long in omega (arith, less, long)) ∙ q.header))

      from : HasBlock m i (Some b) → Contains row i
      from (l, there, (k, less, e)) =
          let low_k : k < length row = (let long = row_long in omega (arith, less, long)) in
          let j = found row k low_k in
          let q = loop_in k j.0 j.1 in
          let same : q.listed.header ≡ l.header = sym q.header ∙ get_or_default L k 0 l.header less ∙ e in
          let one : j.0 ≡ i = one_loop m.typed.now.program m.typed.now.frames m.flow.now.blocks m.forest.now is.routine j.0 i q.listed l q.there there same in
          (k, low_k, get_or_from_slice_get row k j.0 i j.1 ∙ one)

  -- ---- the loops that are closed

  -- the loops from one outwards are around the block
  in_rest : (k i h : ℕ) → IsIn k i → In (loops_at m (Some i)) h → In L h
  in_rest k i h q j = subst (λ (A : List ℕ). In A h) (take-append-drop k L) (in_right (take k L) (drop k L) h (subst (λ (A : List ℕ). In A h) q.rest j))

  -- where no loop is left open
  pub closed_none : (g : Graph) (made : Made) (next : Option ℕ) (k : ℕ) → IsLast m made b next → length row ≤ k → IsStage m g made (drop k L) → IsStageFor m g made next
  closed_none g made next k last all at_stage = stage_for m is g made b next last (drop k L) (drop_of_length-le L (let long = row_long in omega (arith, all, long))) at_stage

  -- where the next block is in the innermost open loop
  pub closed_here : (g : Graph) (made : Made) (k i : ℕ) (next : Option ℕ) → IsLast m made b next → IsIn k i → HasBlock m i next → IsStage m g made (drop k L) → IsStageFor m g made next
  closed_here g made k i None last q has at_stage = absurd has
  closed_here g made k i (Some x) last q (l, there, among) at_stage =
      stage_before m is g made b x last (loops_at m (Some i)) (subst (IsStage m g made) (sym q.rest) at_stage)
      (λ h j. (in_rest k i h q j, outward m is x l.header h (in_of (loops_around m x) l.header among) (subst (λ (A : List ℕ). In A h) (sym (header_around m is i l there)) j)))

  -- where it isn't, all blocks of the loop are done
  pub closed_done : (made : Made) (k i : ℕ) (next : Option ℕ) → IsLast m made b next → IsIn k i → (HasBlock m i next → ⊥) → (l : Loop) (x : ℕ) → slice_get m.forest.now.loops.items i ≡ Some l → x < length m.flow.now.blocks → Contains (loops_around m x) l.header → HasRun made x
  closed_done made k i next last q out l x there low among =
      loop_done m is made b next last i l there
      (of_in L l.header (in_rest k i l.header q (subst (λ (A : List ℕ). In A l.header) (sym (loops_own m is i l there)) (inl refl))))
      out x low among

  -- after it is closed the loops outside it are open
  pub closed_one : (g : Graph) (made : Made) (k i : ℕ) (q : IsIn k i) → ((l : Loop) → slice_get m.forest.now.loops.items i ≡ Some l → IsStage m g made (loops_at m l.parent)) → k < length row → IsStage m g made (drop (k + 1) L)
  closed_one g made k i q staged less =
      let cut : drop k L ≡ get_or L k 0 ∷ drop (suc k) L = drop-cons L k 0 (let long = row_long in omega (arith, less, long)) in
      let own : q.listed.header ∷ loops_at m q.listed.parent ≡ get_or L k 0 ∷ drop (suc k) L = sym (loops_own m is i q.listed q.there) ∙ q.rest ∙ cut in
      let same : loops_at m q.listed.parent ≡ drop (suc k) L = cc in
      let one : suc k ≡ k + 1 = omega arith in
      subst (IsStage m g made) (same ∙ ap (λ (n : ℕ). drop n L) one) (staged q.listed q.there)

pub last_same : (m : Method) (is : IsMethod m) (made more : Made) (b : ℕ) (next : Option ℕ) → more.blocks ≡ made.blocks → IsLast m made b next → IsLast m more b next
last_same m is made more b next same last = record { place = last.place; at = last.at; after = last.after; done = done_same m made more (last.place + 1) same last.done }
