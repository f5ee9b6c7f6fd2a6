-- Open blocks and the steps that opened them.
use Rattle.std.specs.Prelude.{◌≡◌, ℕ, suc, ◌≤◌, ◌<◌, List, [], ◌∷◌, ◌++◌, length, Some, slice_get, refl}
use Rattle.std.proofs.Common.{inl, inr, sym, ap, ◌∙◌, subst, arith, length-append}
use Rattle.std.proofs.lemmas.Option.{same_Some}
use Rattle.pv_steps.specs.declared.step.Step.TheVariants as steps
use Rattle.pv_steps.specs.declared.step.Step.{Step}
use Rattle.pv_steps.specs.declared.step.Step.TheVariants.{Axiom, Use, Flip, Chain, Set, Open, Close, Assume, Finish}
use Rattle.pv_steps.specs.Steps.{Block, Loop, Ending, OpenBlock, outer_of, states, open_after, AreOpen}
use Rattle.pv_steps.specs.Accepted.{first_steps}
use Rattle.pv_check.specs.Kept.{blocks_at}
use Rattle.pv_check.specs.Inductions.{block_of}
use Rattle.pv_check.proofs.Fronts.{IsFront, front_tail, front_of, first_front, front_is, front_last, has_at, next_first, count_first}

-- a step opened p, when these blocks were open
pub record IsOpened (before : List Step) (p : OpenBlock) (outer : List OpenBlock) : Type 0 where
  pub later : List Step
  pub step : Step
  pub earlier : List Step
  pub split : before ≡ later ++ step ∷ earlier
  pub number : p.opened ≡ suc (length earlier)
  pub block : block_of step ≡ Some p.block
  pub outer_ : outer ≡ open_after earlier

more : (s : Step) (before : List Step) (p : OpenBlock) (ps : List OpenBlock) → IsOpened before p ps → IsOpened (s ∷ before) p ps
more s before p ps h = record { later = s ∷ h.later; step = h.step; earlier = h.earlier; split = ap (λ (q : List Step). s ∷ q) h.split; number = h.number; block = h.block; outer_ = h.outer_ }

heads : (p q : OpenBlock) (ps qs : List OpenBlock) → p ∷ ps ≡ q ∷ qs → (p ≡ q) × (ps ≡ qs)
heads p q ps qs e = (cc, cc)

newly : (s : Step) (before : List Step) (b : Block) → block_of s ≡ Some b → (p : OpenBlock) (ps : List OpenBlock) → p ∷ ps ≡ record { opened = suc (length before); block = b } ∷ open_after before → IsOpened (s ∷ before) p ps
newly s before b h p ps e =
    let z = heads p (record { opened = suc (length before); block = b }) ps (open_after before) e in
    record { later = []; step = s; earlier = before; split = refl; number = ap (λ (q : OpenBlock). q.opened) z.0; block = h ∙ ap (λ (q : OpenBlock). Some q.block) (sym z.0); outer_ = z.1 }

pub outer_open : (r ps : List OpenBlock) → AreOpen r (outer_of ps) → AreOpen r ps
outer_open r [] h = h
outer_open r (p ∷ ps) h = inr h

-- each open block was opened so
pub are_opened : (before : List Step) (p : OpenBlock) (ps : List OpenBlock) → AreOpen (p ∷ ps) (open_after before) → IsOpened before p ps
are_opened [] p ps h = absurd (cc)
are_opened (steps.Node n o kids ∷ before) p ps h = more (steps.Node n o kids) before p ps (are_opened before p ps h)
are_opened (Axiom n a b nodes ∷ before) p ps h = more (Axiom n a b nodes) before p ps (are_opened before p ps h)
are_opened (Use n a b nodes ∷ before) p ps h = more (Use n a b nodes) before p ps (are_opened before p ps h)
are_opened (Flip a b f ∷ before) p ps h = more (Flip a b f) before p ps (are_opened before p ps h)
are_opened (Chain a b f g ∷ before) p ps h = more (Chain a b f g) before p ps (are_opened before p ps h)
are_opened (Set cs ∷ before) p ps h = more (Set cs) before p ps (are_opened before p ps h)
are_opened (Open d pairs ∷ before) p ps (inl e) = newly (Open d pairs) before (Loop d pairs) refl p ps e
are_opened (Open d pairs ∷ before) p ps (inr h) = more (Open d pairs) before p ps (are_opened before p ps h)
are_opened (Close d fs ∷ before) p ps h = more (Close d fs) before p ps (are_opened before p ps (outer_open (p ∷ ps) (open_after before) h))
are_opened (Assume r nodes ∷ before) p ps (inl e) = newly (Assume r nodes) before (Ending r nodes) refl p ps e
are_opened (Assume r nodes ∷ before) p ps (inr h) = more (Assume r nodes) before p ps (are_opened before p ps h)
are_opened (Finish r q t f u g ∷ before) p ps h = more (Finish r q t f u g) before p ps (are_opened before p ps (outer_open (p ∷ ps) (open_after before) h))

pub self_open : (ps : List OpenBlock) → AreOpen ps ps
self_open [] = refl
self_open (p ∷ ps) = inl refl

pub nil_open : (ps : List OpenBlock) → AreOpen [] ps
nil_open [] = refl
nil_open (p ∷ ps) = inr (nil_open ps)

-- ---- in a section

-- step k + 1 of the section opened p, when these blocks were open
pub record OpenedAt (section : List Step) (n : ℕ) (p : OpenBlock) (outer : List OpenBlock) : Type 0 where
  pub k : ℕ
  pub step : Step
  pub number : p.opened ≡ suc k
  pub low : k < n
  pub there : slice_get section k ≡ Some step
  pub block : block_of step ≡ Some p.block
  pub outer_ : outer ≡ blocks_at section k

opens_around : (s : Step) (k : ℕ) (ps : List OpenBlock) (b : Block) → block_of s ≡ Some b → (states s k ps).around ≡ record { opened = k; block = b } ∷ ps
opens_around (Open d pairs) k ps b e = ap (λ (c : Block). record { opened = k; block = c } ∷ ps) (same_Some _ _ e)
opens_around (Assume p nodes) k ps b e = ap (λ (c : Block). record { opened = k; block = c } ∷ ps) (same_Some _ _ e)
opens_around s k ps b e = absurd (cc)

pub opened_at : (before section : List Step) → IsFront before section → (p : OpenBlock) (ps : List OpenBlock) → IsOpened before p ps → OpenedAt section (length before) p ps
opened_at before section front p ps h =
    let f = front_of h.later (h.step ∷ h.earlier) section (subst (λ (q : List Step). IsFront q section) h.split front) in
    let e = front_is h.earlier section (front_tail h.step h.earlier section f) in
    let n : length before ≡ length (h.later ++ h.step ∷ h.earlier) = ap length h.split in
    record {
      k = length h.earlier;
      step = h.step;
      number = h.number;
      low = longer h.later (h.step ∷ h.earlier) n;
      there = front_last h.step h.earlier section f;
      block = h.block;
      outer_ = h.outer_ ∙ ap open_after (sym e);
    }
  where
    longer : (xs ys : List Step) → length before ≡ length (xs ++ ys) → length ys ≤ length before
    longer xs ys e = let z = length-append xs ys in omega (arith, e, z)

-- the blocks after the step that opened the innermost are those
pub after_opened : (section : List Step) (n : ℕ) (p : OpenBlock) (ps : List OpenBlock) → OpenedAt section n p ps → blocks_at section p.opened ≡ p ∷ ps
after_opened section n p ps h =
    ap (blocks_at section) h.number
    ∙ ap open_after (next_first section h.k h.step h.there)
    ∙ opens_around h.step (suc (length (first_steps h.k section))) (blocks_at section h.k) p.block h.block
    ∙ ap (λ (q : OpenBlock). q ∷ blocks_at section h.k) (same_place h.k (has_at section h.k h.step h.there).count)
    ∙ ap (λ (q : List OpenBlock). p ∷ q) (sym h.outer_)
  where
    same_place : (k : ℕ) → length (first_steps h.k section) ≡ h.k → record { opened = suc (length (first_steps h.k section)); block = p.block } ≡ p
    same_place k e = ap (λ (j : ℕ). record { opened = suc j; block = p.block }) e ∙ ap (λ (j : ℕ). record { opened = j; block = p.block }) (sym h.number)

pub first_opened : (section : List Step) (n : ℕ) → n ≤ length section → (p : OpenBlock) (ps : List OpenBlock) → AreOpen (p ∷ ps) (blocks_at section n) → OpenedAt section n p ps
first_opened section n low p ps h =
    subst (λ (m : ℕ). OpenedAt section m p ps) (count_first n section low)
    (opened_at (first_steps n section) section (first_front n section) p ps (are_opened (first_steps n section) p ps h))
