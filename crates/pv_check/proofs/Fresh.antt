-- The depths of the blocks around a fact.
use Rattle.std.specs.Prelude.{◌≡◌, ◌≢◌, ◌⊎◌, ◌↔◌, ℕ, suc, ◌-◌, ◌≤◌, ◌<◌, Bool, List, [], ◌∷◌, length, reverse, Option, Some, None, slice_get, refl}
use Rattle.std.proofs.Math.ListN.{get_or}
use Rattle.std.proofs.Math.Seq.{drop-cons}
use Rattle.std.proofs.Common.{inl, inr, drop, sym, ap, ◌∙◌, subst, arith}
use Rattle.std.proofs.lemmas.Option.{same_Some, slice_get-get_or}
use Rattle.pv_steps.specs.declared.step.Fact.{Fact}
use Rattle.pv_steps.specs.declared.step.Step.{Step}
use Rattle.pv_steps.specs.declared.step.Step.TheVariants.{Open, Assume}
use Rattle.pv_steps.specs.Steps.{Block, OpenBlock, blocks, AreOpen, Equality, equality_at}
use Rattle.pv_steps.specs.declared.step.Reason.{Reason}
use Rattle.pv_steps.specs.declared.step.Reason.TheVariants.{Same}
use Rattle.pv_steps.specs.Right.{IsFresh, GiveAll}
use Rattle.pv_check.specs.declared.seen.Found.{Found}
use Rattle.pv_check.specs.Kept.{number_of, blocks_at, open_now, AreKept, found_in, found_at}
use Rattle.pv_check.specs.Depths.{IsOfDepth}
use Rattle.pv_check.specs.Inductions.{block_of}
use Rattle.pv_check.proofs.Placed.{first_opened, self_open}
use Rattle.pv_check.proofs.Finding.{number_low, same_blocks, inside_at}
use Rattle.pv_check.proofs.Visible.{cited, now_is, now_same}

-- the number is that of a block, or 0
pub record IsBlock (section : List Step) (n : ℕ) : Type 0 where
  pub known : n ≤ length section
  pub number : number_of (blocks_at section n) ≡ n

pub block_at : (section : List Step) (n : ℕ) → n ≤ length section → IsBlock section (number_of (blocks_at section n))
block_at section n low = record {
  known = let z = number_low section n low in omega (arith, z, low);
  number = ap number_of (same_blocks section n low (blocks_at section n) (self_open (blocks_at section n)));
}

-- the block of a step has its depth
by_step : (d : ℕ) (s : Step) (b : Block) (bs : List Block) → block_of s ≡ Some b → IsFresh d (b ∷ bs) ↔ ((IsOfDepth d s → ⊥) × IsFresh d bs)
by_step d (Open e pairs) b bs h = subst (λ (c : Block). IsFresh d (c ∷ bs) ↔ ((e ≡ d → ⊥) × IsFresh d bs)) (same_Some _ _ h)
    (λ z. (λ f. z.0 (sym f), z.1), λ z. (λ f. z.0 (sym f), z.1))
by_step d (Assume p nodes) b bs h = subst (λ (c : Block). IsFresh d (c ∷ bs) ↔ ((⊥ → ⊥) × IsFresh d bs)) (same_Some _ _ h) (λ z. (λ f. f, z), λ z. z.1)
by_step d s b bs h = absurd (cc)

-- around a block there are those that were open before it
pub outwards : (section : List Step) (d n : ℕ) (s : Step) → IsBlock section n → n ≢ 0 → slice_get section (n - 1) ≡ Some s
    → IsFresh d (blocks (blocks_at section n)) ↔ ((IsOfDepth d s → ⊥) × IsFresh d (blocks (blocks_at section (number_of (blocks_at section (n - 1))))))
outwards section d n s h some there = go (blocks_at section n) refl (self_open (blocks_at section n))
  where
    low : n - 1 ≤ length section
    low = let z = h.known in omega (arith, z)

    outer : blocks_at section (number_of (blocks_at section (n - 1))) ≡ blocks_at section (n - 1)
    outer = same_blocks section (n - 1) low (blocks_at section (n - 1)) (self_open (blocks_at section (n - 1)))

    go : (ps : List OpenBlock) → blocks_at section n ≡ ps → AreOpen ps (blocks_at section n) → IsFresh d (blocks ps) ↔ ((IsOfDepth d s → ⊥) × IsFresh d (blocks (blocks_at section (number_of (blocks_at section (n - 1))))))
    go [] e a = absurd (some (sym h.number ∙ ap number_of e))
    go (p ∷ ps) e a =
        let o = first_opened section n h.known p ps a in
        let at : o.k ≡ n - 1 = (let x = sym h.number ∙ ap number_of e ∙ o.number in omega (arith, x)) in
        let step : o.step ≡ s = same_Some _ _ (sym o.there ∙ ap (slice_get section) at ∙ there) in
        let rest : ps ≡ blocks_at section (number_of (blocks_at section (n - 1))) = o.outer_ ∙ ap (blocks_at section) at ∙ sym outer in
        subst (λ (qs : List OpenBlock). IsFresh d (blocks (p ∷ ps)) ↔ ((IsOfDepth d s → ⊥) × IsFresh d (blocks qs))) rest
        (by_step d s p.block (blocks ps) (ap block_of (sym step) ∙ o.block))

-- the blocks around a found fact
pub outside_found : (section : List Step) (f : Fact) (r : Found) (d : ℕ) → found_at section f ≡ Some r
    → IsBlock section r.around × (IsFresh d (blocks (blocks_at section r.around)) ↔ ((e : Equality) → equality_at (reverse section) f ≡ Some e → IsFresh d (blocks e.around)))
outside_found section f r d is = go (equality_at (reverse section) f) refl
  where
    go : (o : Option Equality) → equality_at (reverse section) f ≡ o → IsBlock section r.around × (IsFresh d (blocks (blocks_at section r.around)) ↔ ((e : Equality) → equality_at (reverse section) f ≡ Some e → IsFresh d (blocks e.around)))
    go None e = absurd (let z = ap found_in e in let y = sym z ∙ is in cc)
    go (Some q) e =
        let same : record { around = number_of q.around; left = q.left; right = q.right } ≡ r = same_Some _ _ (sym (ap found_in e) ∙ is) in
        let c = cited section f q e in
        let number : number_of (blocks_at section c.n) ≡ r.around = ap number_of (sym c.around) ∙ ap (λ (x : Found). x.around) same in
        let around : blocks_at section r.around ≡ q.around = ap (blocks_at section) (sym number) ∙ same_blocks section c.n c.low (blocks_at section c.n) (self_open (blocks_at section c.n)) ∙ sym c.around in (
          subst (IsBlock section) number (block_at section c.n c.low),
          (
            λ h x y. subst (λ (z : Equality). IsFresh d (blocks z.around)) (same_Some _ _ (sym e ∙ y)) (subst (λ (z : List OpenBlock). IsFresh d (blocks z)) around h),
            λ h. subst (λ (z : List OpenBlock). IsFresh d (blocks z)) (sym around) (h q e),
          ),
        )

pub outside_none : (section : List Step) (f : Fact) (d : ℕ) → found_at section f ≡ None → (e : Equality) → equality_at (reverse section) f ≡ Some e → IsFresh d (blocks e.around)
outside_none section f d is e h = let z = ap found_in h in let y = sym z ∙ is in absurd (cc)

-- ---- reasons for no kids

too_many : (before : List Step) (inside : List OpenBlock) (pairs : List (ℕ × ℕ)) (r : Reason) (rs : List Reason) (ks ls : List ℕ) → ((length ks < 1) ⊎ (length ls < 1)) → GiveAll before inside pairs (r ∷ rs) ks ls → ⊥
too_many before inside pairs r rs [] ls h g = g
too_many before inside pairs r rs (k ∷ ks) [] h g = g
too_many before inside pairs r rs (k ∷ ks) (l ∷ ls) (inl h) g = absurd (omega (arith, h))
too_many before inside pairs r rs (k ∷ ks) (l ∷ ls) (inr h) g = absurd (omega (arith, h))

pub more_reasons : (before : List Step) (inside : List OpenBlock) (pairs : List (ℕ × ℕ)) (rs : List Reason) (i : ℕ) (ks ls : List ℕ) → i < length rs → ((length ks < 1) ⊎ (length ls < 1)) → GiveAll before inside pairs (drop i rs) ks ls → ⊥
more_reasons before inside pairs rs i ks ls low h g =
    too_many before inside pairs (get_or rs i Same) (drop (suc i) rs) ks ls h (subst (λ (q : List Reason). GiveAll before inside pairs q ks ls) (drop-cons rs i Same low) g)

-- ---- what is read outwards

pub step_before : (section : List Step) (n : ℕ) (d : Step) → IsBlock section n → n ≢ 0 → slice_get section (n - 1) ≡ Some (get_or section (n - 1) d)
step_before section n d h some = let z = h.known in slice_get-get_or section (n - 1) d (omega (arith, z, some))

pub next_number : (section : List Step) (innermost : List ℕ) (opened : List Bool) → AreKept section innermost opened → (n : ℕ) → IsBlock section n → n ≢ 0 → get_or innermost (n - 1) 0 ≡ number_of (blocks_at section (n - 1))
next_number section innermost opened kept n h some = inside_at section innermost opened kept (n - 1) (let z = h.known in omega (arith, z))

pub next_smaller : (section : List Step) (innermost : List ℕ) (opened : List Bool) → AreKept section innermost opened → (n : ℕ) → IsBlock section n → n ≢ 0 → get_or innermost (n - 1) 0 < n
next_smaller section innermost opened kept n h some =
    let e = next_number section innermost opened kept n h some in
    let z = number_low section (n - 1) (let y = h.known in omega (arith, y)) in
    omega (arith, e, z, some)

pub next_block : (section : List Step) (innermost : List ℕ) (opened : List Bool) → AreKept section innermost opened → (n : ℕ) → IsBlock section n → n ≢ 0 → IsBlock section (get_or innermost (n - 1) 0)
next_block section innermost opened kept n h some =
    subst (IsBlock section) (sym (next_number section innermost opened kept n h some)) (block_at section (n - 1) (let y = h.known in omega (arith, y)))

pub next_fresh : (section : List Step) (innermost : List ℕ) (opened : List Bool) → AreKept section innermost opened → (n d : ℕ) (s : Step) → IsBlock section n → n ≢ 0 → (IsOfDepth d (get_or section (n - 1) s) → ⊥)
    → IsFresh d (blocks (blocks_at section n)) ↔ IsFresh d (blocks (blocks_at section (get_or innermost (n - 1) 0)))
next_fresh section innermost opened kept n d s h some other =
    let o = outwards section d n (get_or section (n - 1) s) h some (step_before section n s h some) in
    let e = next_number section innermost opened kept n h some in
    (λ z. subst (λ (m : ℕ). IsFresh d (blocks (blocks_at section m))) (sym e) (o.0 z).1, λ z. o.1 (other, subst (λ (m : ℕ). IsFresh d (blocks (blocks_at section m))) e z))

pub not_fresh : (section : List Step) (n d : ℕ) (s : Step) → IsBlock section n → n ≢ 0 → IsOfDepth d (get_or section (n - 1) s) → IsFresh d (blocks (blocks_at section n)) → ⊥
not_fresh section n d s h some deep fresh = ((outwards section d n (get_or section (n - 1) s) h some (step_before section n s h some)).0 fresh).0 deep

pub now_block : (section : List Step) → IsBlock section (number_of (open_now section))
now_block section = subst (λ (ps : List OpenBlock). IsBlock section (number_of ps)) (now_is section) (block_at section (length section) (omega arith))

pub now_around : (section : List Step) (n : ℕ) → n ≡ number_of (open_now section) → blocks_at section n ≡ open_now section
now_around section n e = ap (blocks_at section) e ∙ now_same section (open_now section) (self_open (open_now section))
