-- What is asked of the step that ends a block.
use Rattle.std.specs.Prelude.{◌≡◌, ◌≢◌, ◌↔◌, ℕ, suc, ◌-◌, ◌<◌, Bool, true, false, List, [], ◌∷◌, length, reverse, Option, Some, None, slice_get, IsTrue, refl, ◌==◌, if◌then◌else◌}
use Rattle.std.specs.List.{AllZip}
use Rattle.std.proofs.Math.ListN.{get_or}
use Rattle.std.proofs.Math.Seq.{drop-cons}
use Rattle.std.proofs.Common.{drop, sym, ap, ◌∙◌, subst, arith}
use Rattle.std.proofs.lemmas.Bool.Decides.{nat_tests}
use Rattle.std.proofs.lemmas.Option.{same_Some, slice_get-get_or}
use Rattle.pv_graph.specs.Graphs.{Graph}
use Rattle.pv_steps.specs.declared.step.Fact.{Fact}
use Rattle.pv_steps.specs.declared.step.Step.{Step}
use Rattle.pv_steps.specs.declared.step.Step.TheVariants.{Open, Assume}
use Rattle.pv_steps.specs.Steps.{Block, Loop, OpenBlock, outer_of, open_after, AreOpen, Shows}
use Rattle.pv_steps.specs.Right.{ClosesPair, RightClose}
use Rattle.pv_check.specs.declared.seen.Within.{Within}
use Rattle.pv_check.specs.Kept.{number_of, open_now, region, IsVisible}
use Rattle.pv_check.specs.Inductions.{block_of, Opens, loop_pairs, HasStart, HasNext}
use Rattle.pv_check.proofs.Placed.{OpenedAt, first_opened, self_open}
use Rattle.pv_check.proofs.Visible.{pair_are, now_is}

-- ---- the innermost block

innermost_at : (section : List Step) (p : OpenBlock) (ps : List OpenBlock) → open_now section ≡ p ∷ ps → OpenedAt section (length section) p ps
innermost_at section p ps e = first_opened section (length section) (omega arith) p ps (subst (AreOpen (p ∷ ps)) (sym (now_is section ∙ e)) (self_open (p ∷ ps)))

pub none_open : (section : List Step) → number_of (open_now section) ≡ 0 → open_now section ≡ []
none_open section z = go (open_now section) refl z
  where
    go : (ps : List OpenBlock) → open_now section ≡ ps → number_of ps ≡ 0 → ps ≡ []
    go [] e z = refl
    go (p ∷ ps) e z = let o = innermost_at section p ps e in let n = o.number in absurd (omega (arith, n, z))

pub opens_now : (section : List Step) (d : Step) → number_of (open_now section) ≢ 0 → Opens (open_now section) (get_or section (number_of (open_now section) - 1) d)
opens_now section d some = go (open_now section) refl some
  where
    go : (ps : List OpenBlock) → open_now section ≡ ps → number_of ps ≢ 0 → Opens ps (get_or section (number_of ps - 1) d)
    go [] e some = absurd (some refl)
    go (p ∷ ps) e some =
        let o = innermost_at section p ps e in
        let at : o.k ≡ p.opened - 1 = (let n = o.number in omega (arith, n)) in
        let step : o.step ≡ get_or section (p.opened - 1) d = same_Some _ _ (sym o.there ∙ ap (slice_get section) at ∙ slice_get-get_or section (p.opened - 1) d (let l = o.low in omega (arith, l, at))) in
        record { opened = p.opened; block = p.block; outer = ps; is = refl; by = ap block_of (sym step) ∙ o.block }

-- ---- a fact of two nodes

pub visible_some : (o : Option (ℕ × ℕ)) (w : Within) (section : List Step) (f : Fact) (l r : ℕ) → IsVisible o w section f → o ≡ Some (l, r) → (P : ℕ → ℕ → Type 0) (t : Bool) → (IsTrue t ↔ P l r)
    → IsTrue t ↔ ((a b : ℕ) × Shows (reverse section) (region w section) f a b × P a b)
visible_some o w section f l r v e P t h = (
  λ yes. (l, r, (v l r).0 e, h.0 yes),
  λ s. let z = pair_are l r s.0 s.1 (sym e ∙ (v s.0 s.1).1 s.2) in h.1 (subst (λ (n : ℕ). P n r) (sym z.0) (subst (P s.0) (sym z.1) s.3)),
)

pub visible_none : (o : Option (ℕ × ℕ)) (w : Within) (section : List Step) (f : Fact) → IsVisible o w section f → o ≡ None → (P : ℕ → ℕ → Type 0) → IsTrue false ↔ ((a b : ℕ) × Shows (reverse section) (region w section) f a b × P a b)
visible_none o w section f v e P = (λ yes. absurd (cc), λ s. absurd (let z = sym e ∙ (v s.0 s.1).1 s.2 in cc))

-- ---- induction

pub closes_parts : (g : Graph) (before : List Step) (d : ℕ) (inside outer : List OpenBlock) (p : ℕ × ℕ) (f : Fact × Fact)
    → (HasStart g before d outer p f.0 × HasNext g before d inside p f.1) ↔ ClosesPair g before d inside outer p f
closes_parts g before d inside outer p f = (
  λ h. let s = h.0 in let n = h.1 in let i = s.3 in record {
    zero_ = i.zero_;
    first_left = s.0;
    first_right = s.1;
    next_left = n.0;
    next_right = n.1;
    is_zero = i.is_zero;
    is_first_left = i.is_left;
    is_first_right = i.is_right;
    is_next_left = n.3.0;
    is_next_right = n.3.1;
    starts = s.2;
    goes_on = n.2;
  },
  λ q. ((q.first_left, q.first_right, q.starts, record { zero_ = q.zero_; is_left = q.is_first_left; is_zero = q.is_zero; is_right = q.is_first_right }), (q.next_left, q.next_right, q.goes_on, (q.is_next_left, q.is_next_right))),
)

heads : (p q : OpenBlock) (ps qs : List OpenBlock) → p ∷ ps ≡ q ∷ qs → (p ≡ q) × (ps ≡ qs)
heads p q ps qs e = (cc, cc)

loops : (d e : ℕ) (ps qs : List (ℕ × ℕ)) → Loop d ps ≡ Loop e qs → (d ≡ e) × (ps ≡ qs)
loops d e ps qs h = (cc, cc)

-- the step opened an induction of this depth with these pairs
pub close_some : (g : Graph) (before : List Step) (s : Step) (d : ℕ) (pairs : List (ℕ × ℕ)) (fs : List (Fact × Fact)) → Opens (open_after before) s → loop_pairs d s ≡ Some pairs
    → AllZip (ClosesPair g before d (open_after before) (outer_of (open_after before))) pairs fs ↔ RightClose g before d fs
close_some g before s d pairs fs o e = (
  λ h. record { opened = o.opened; pairs = pairs; outer = o.outer; innermost = o.is ∙ ap (λ (b : Block). record { opened = o.opened; block = b } ∷ o.outer) (is_loop s o.block o.by e); each = subst (λ (q : List OpenBlock). AllZip (ClosesPair g before d (open_after before) q) pairs fs) (ap outer_of o.is) h },
  λ r.
      let same = heads _ _ _ _ (sym o.is ∙ r.innermost) in
      let both = loops _ _ _ _ (sym (is_loop s o.block o.by e) ∙ ap (λ (b : OpenBlock). b.block) same.0) in
      subst (λ (q : List OpenBlock). AllZip (ClosesPair g before d (open_after before) q) pairs fs) (ap outer_of (sym r.innermost)) (subst (λ (q : List (ℕ × ℕ)). AllZip (ClosesPair g before d (open_after before) r.outer) q fs) (sym both.1) r.each),
)
  where
    is_loop : (s : Step) (b : Block) → block_of s ≡ Some b → loop_pairs d s ≡ Some pairs → b ≡ Loop d pairs
    is_loop (Open x ps) b h e = go (x == d) (grind (arith, nat_tests)) e
      where
        go : (t : Bool) → (t ≡ true → x ≡ d) → (if t then Some ps else None) ≡ Some pairs → b ≡ Loop d pairs
        go true f z = sym (same_Some _ _ h) ∙ ap (λ (k : ℕ). Loop k ps) (f refl) ∙ ap (Loop d) (same_Some _ _ z)
        go false f z = absurd (cc)
    is_loop s b h e = absurd (cc)

pub close_none : (g : Graph) (before : List Step) (s : Step) (d : ℕ) (fs : List (Fact × Fact)) → Opens (open_after before) s → loop_pairs d s ≡ None → RightClose g before d fs → ⊥
close_none g before s d fs o e r = no_loop s o.block o.by e r.pairs (ap (λ (b : OpenBlock). b.block) (heads _ _ _ _ (sym o.is ∙ r.innermost)).0)
  where
    no_loop : (s : Step) (b : Block) → block_of s ≡ Some b → loop_pairs d s ≡ None → (ps : List (ℕ × ℕ)) → b ≡ Loop d ps → ⊥
    no_loop (Open x qs) b h e ps z = go (x == d) (let y = (loops x d qs ps (same_Some _ _ h ∙ z)).0 in grind (arith, nat_tests, y)) e
      where
        go : (t : Bool) → t ≡ true → (if t then Some qs else None) ≡ None → ⊥
        go true f y = absurd (cc)
        go false f y = absurd (cc)
    no_loop (Assume q nodes) b h e ps z = let y = same_Some _ _ h ∙ z in absurd (cc)
    no_loop s b h e ps z = absurd (cc)

pub close_nothing : (g : Graph) (before : List Step) (d : ℕ) (fs : List (Fact × Fact)) → open_after before ≡ [] → RightClose g before d fs → ⊥
close_nothing g before d fs e r = let z = sym e ∙ r.innermost in absurd (cc)

-- ---- too few facts

none_left : (R : ℕ × ℕ → Fact × Fact → Type 0) (p : ℕ × ℕ) (ps : List (ℕ × ℕ)) (fs : List (Fact × Fact)) → length fs < 1 → AllZip R (p ∷ ps) fs → ⊥
none_left R p ps [] low h = h
none_left R p ps (f ∷ fs) low h = absurd (omega (arith, low))

pub more_pairs : (R : ℕ × ℕ → Fact × Fact → Type 0) (ps : List (ℕ × ℕ)) (i : ℕ) (fs : List (Fact × Fact)) → i < length ps → length fs < 1 → AllZip R (drop i ps) fs → ⊥
more_pairs R ps i fs low none h = none_left R (get_or ps i (0, 0)) (drop (suc i) ps) fs none (subst (λ (q : List (ℕ × ℕ)). AllZip R q fs) (drop-cons ps i (0, 0) low) h)
