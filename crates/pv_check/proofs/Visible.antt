-- Whether a cited equality is visible, by the number of the innermost block around it.
use Rattle.std.specs.Prelude.{◌≡◌, ◌≢◌, ◌⊎◌, ◌↔◌, ℕ, zero, suc, ◌≤◌, ◌<◌, Bool, true, List, [], ◌∷◌, length, reverse, Option, Some, None, slice_get, refl}
use Rattle.std.specs.Bool.{Decides}
use Rattle.std.proofs.Common.{inl, inr, sym, ap, ◌∙◌, subst, arith, take_all}
use Rattle.std.proofs.lemmas.List.{length-reverse}
use Rattle.std.proofs.lemmas.Option.{same_Some}
use Rattle.pv_value.specs.Spelled.{bind}
use Rattle.pv_steps.specs.declared.step.Fact.{Fact}
use Rattle.pv_steps.specs.declared.step.Step.{Step}
use Rattle.pv_steps.specs.Steps.{OpenBlock, numbered, outer_of, Stated, states, open_after, stated_at, Equality, equality_of, equality_at, AreOpen, Shows}
use Rattle.pv_steps.specs.Accepted.{first_steps}
use Rattle.pv_check.specs.declared.seen.Found.{Found}
use Rattle.pv_check.specs.declared.seen.Within.{Within}
use Rattle.pv_check.specs.declared.seen.Within.TheVariants.{Here, Outside}
use Rattle.pv_check.specs.Kept.{number_of, blocks_at, open_now, has_opened, is_among, region, IsSeen, IsVisible, AreKept, found_in, found_at}
use Rattle.pv_check.proofs.Deciding.{bind_some, decides_nat, decides_true, decides_map, decides_or}
use Rattle.pv_check.proofs.Placed.{self_open, nil_open}
use Rattle.pv_check.proofs.Finding.{stated_is, not_stated, around_is, number_low, same_blocks}

pub all_first : (section : List Step) → first_steps (length section) section ≡ reverse section
all_first section = ap reverse (take_all (length section) section (omega arith))

pub now_is : (section : List Step) → blocks_at section (length section) ≡ open_now section
now_is section = ap open_after (all_first section)

-- an open block, by its number
pub now_same : (section : List Step) (ps : List OpenBlock) → AreOpen ps (open_now section) → blocks_at section (number_of ps) ≡ ps
now_same section ps h = same_blocks section (length section) (omega arith) ps (subst (AreOpen ps) (sym (now_is section)) h)

by_number : (section : List Step) (p : OpenBlock) (ps inside : List OpenBlock) → blocks_at section p.opened ≡ p ∷ ps → ((r : List OpenBlock) → AreOpen r inside → blocks_at section (number_of r) ≡ r)
    → Decides (has_opened p.opened inside) (AreOpen (p ∷ ps) inside)
by_number section p ps [] e all = (λ z. absurd (cc), λ z. absurd (cc))
by_number section p ps (q ∷ qs) e all = decides_map
    (decides_or (decides_nat q.opened p.opened) (by_number section p ps qs e (λ r z. all r (inr z))))
    (λ z. elim z [ inl f ↦ inl (sym e ∙ ap (blocks_at section) (sym f) ∙ all (q ∷ qs) (inl refl)) | inr f ↦ inr f ])
    (λ z. elim z [ inl f ↦ inl (sym (ap number_of f)) | inr f ↦ inr f ])

pub decides_among : (section : List Step) (n : ℕ) → n ≤ length section → Decides (is_among (number_of (blocks_at section n)) (open_now section)) (AreOpen (blocks_at section n) (open_now section))
decides_among section n low = go (blocks_at section n) (same_blocks section n low) (self_open (blocks_at section n))
  where
    go : (ps : List OpenBlock) → ((r : List OpenBlock) → AreOpen r (blocks_at section n) → blocks_at section (number_of r) ≡ r) → AreOpen ps (blocks_at section n) → Decides (is_among (number_of ps) (open_now section)) (AreOpen ps (open_now section))
    go [] all h = decides_true (nil_open (open_now section))
    go (p ∷ ps) all h = at_ p.opened refl
      where
        at_ : (k : ℕ) → p.opened ≡ k → Decides (is_among p.opened (open_now section)) (AreOpen (p ∷ ps) (open_now section))
        at_ zero e = absurd (let z = ap (blocks_at section) e in let y = sym z ∙ all (p ∷ ps) h in cc)
        at_ (suc k) e = subst (λ (j : ℕ). Decides (is_among j (open_now section)) (AreOpen (p ∷ ps) (open_now section))) (sym e)
            (subst (λ (j : ℕ). Decides (has_opened j (open_now section)) (AreOpen (p ∷ ps) (open_now section))) e (by_number section p ps (open_now section) (all (p ∷ ps) h) (now_same section)))

-- ---- outside the innermost block

open_shorter : (xs ys : List OpenBlock) → AreOpen xs ys → length xs ≤ length ys
open_shorter xs [] e = let z = ap length e in omega (arith, z)
open_shorter xs (y ∷ ys) (inl e) = let z = ap length e in omega (arith, z)
open_shorter xs (y ∷ ys) (inr h) = let z = open_shorter xs ys h in omega (arith, z)

pub outside_is : (section : List Step) (ps : List OpenBlock) → blocks_at section (number_of ps) ≡ ps
    → AreOpen ps (outer_of (open_now section)) ↔ (AreOpen ps (open_now section) × ((number_of ps ≡ 0) ⊎ (number_of ps ≢ number_of (open_now section))))
outside_is section ps placed = go (open_now section) (now_same section)
  where
    other : (q : OpenBlock) (qs : List OpenBlock) → ((r : List OpenBlock) → AreOpen r (q ∷ qs) → blocks_at section (number_of r) ≡ r) → AreOpen ps qs → number_of ps ≢ q.opened
    other q qs all h e =
        let same : ps ≡ q ∷ qs = sym placed ∙ ap (blocks_at section) e ∙ all (q ∷ qs) (inl refl) in
        let low = open_shorter ps qs h in
        let long = ap length same in
        omega (arith, low, long)

    back : (q : OpenBlock) (qs : List OpenBlock) → ((r : List OpenBlock) → AreOpen r (q ∷ qs) → blocks_at section (number_of r) ≡ r) → AreOpen ps (q ∷ qs) → ((number_of ps ≡ 0) ⊎ (number_of ps ≢ q.opened)) → AreOpen ps qs
    back q qs all (inr h) z = h
    back q qs all (inl e) (inr n) = absurd (n (ap number_of e))
    back q qs all (inl e) (inl n) = absurd (let y = sym placed ∙ ap (blocks_at section) n in let x = sym y ∙ e in cc)

    go : (inside : List OpenBlock) → ((r : List OpenBlock) → AreOpen r inside → blocks_at section (number_of r) ≡ r) → AreOpen ps (outer_of inside) ↔ (AreOpen ps inside × ((number_of ps ≡ 0) ⊎ (number_of ps ≢ number_of inside)))
    go [] all = (λ h. (h, inl (ap number_of h)), λ h. h.0)
    go (q ∷ qs) all = (λ h. (inr h, inr (other q qs all h)), λ h. back q qs all h.0 h.1)

-- ---- a cited equality

pub record Cited (section : List Step) (f : Fact) (e : Equality) : Type 0 where
  pub n : ℕ
  pub low : n ≤ length section
  pub around : e.around ≡ blocks_at section n

pub some_at : {A : Type 0} (xs : List A) (k : ℕ) → k < length xs → (x : A) × (slice_get xs k ≡ Some x)
some_at [] k low = absurd (omega (arith, low))
some_at (x ∷ xs) zero low = (x, refl)
some_at (x ∷ xs) (suc k) low = some_at xs k (omega (arith, low))

pub cited : (section : List Step) (f : Fact) (e : Equality) → equality_at (reverse section) f ≡ Some e → Cited section f e
cited section f e is = go f.step refl (split f.step)
  where
    split : (n : ℕ) → ((n ≡ 0) ⊎ (length (reverse section) < n)) ⊎ (n ≤ length section)
    split n = let z = length-reverse section in grind (arith, z)

    none : ((f.step ≡ 0) ⊎ (length (reverse section) < f.step)) → ⊥
    none h = let z = ap (λ (o : Option Stated). bind o (λ s. equality_of s f.place)) (not_stated (reverse section) f.step h) in let y = sym z ∙ is in absurd (cc)

    go : (n : ℕ) → f.step ≡ n → ((f.step ≡ 0) ⊎ (length (reverse section) < f.step)) ⊎ (f.step ≤ length section) → Cited section f e
    go n z (inl h) = absurd (none h)
    go zero z (inr low) = absurd (none (inl z))
    go (suc k) z (inr low) =
        let s = some_at section k (omega (arith, z, low)) in
        let st : Stated = states s.0 (suc k) (blocks_at section k) in
        let a = bind_some (stated_at (reverse section) f.step) _ e is in
        let same : a.0 ≡ st = same_Some _ _ (sym a.1 ∙ ap (stated_at (reverse section)) z ∙ stated_is section k s.0 s.1) in
        let b = bind_some (numbered a.0.pairs f.place) _ e a.2 in
        record {
          n = suc k;
          low = omega (arith, z, low);
          around = sym (ap (λ (q : Equality). q.around) (same_Some _ _ b.2)) ∙ ap (λ (q : Stated). q.around) same ∙ around_is section k s.0 s.1;
        }

-- its innermost block is seen where all its blocks are open
pub seen_open : (section : List Step) (innermost : List ℕ) (opened : List Bool) → AreKept section innermost opened → (w : Within) (n : ℕ) → n ≤ length section
    → IsSeen w section opened (number_of (blocks_at section n)) ↔ AreOpen (blocks_at section n) (region w section)
seen_open section innermost opened kept w n low = by w
  where
    small : number_of (blocks_at section n) ≤ length section
    small = let z = number_low section n low in omega (arith, z, low)

    here : (slice_get opened (number_of (blocks_at section n)) ≡ Some true) ↔ AreOpen (blocks_at section n) (open_now section)
    here =
        let d = decides_among section n low in
        let k = kept.opened_ (number_of (blocks_at section n)) small in
        (λ e. d.0 (same_Some _ _ (sym k ∙ e)), λ h. k ∙ ap Some (d.1 h))

    by : (v : Within) → IsSeen v section opened (number_of (blocks_at section n)) ↔ AreOpen (blocks_at section n) (region v section)
    by Here = here
    by Outside =
        let o = outside_is section (blocks_at section n) (same_blocks section n low (blocks_at section n) (self_open (blocks_at section n))) in
        (λ h. o.1 (here.0 h.0, h.1), λ h. let z = o.0 h in (here.1 z.0, z.1))

sides : (e : Equality) (a b : ℕ) → e.left ≡ a → e.right ≡ b → e ≡ record { around = e.around; left = a; right = b }
sides e a b p q = ap (λ (n : ℕ). record { around = e.around; left = n; right = e.right }) p ∙ ap (λ (n : ℕ). record { around = e.around; left = a; right = n }) q

-- a fact that is found is visible where its innermost block is seen
pub shows_found : (section : List Step) (innermost : List ℕ) (opened : List Bool) → AreKept section innermost opened → (w : Within) (f : Fact) (r : Found) → found_at section f ≡ Some r
    → (a b : ℕ) → Shows (reverse section) (region w section) f a b ↔ ((r.left ≡ a) × (r.right ≡ b) × IsSeen w section opened r.around)
shows_found section innermost opened kept w f r is a b = go (equality_at (reverse section) f) refl
  where
    go : (o : Option Equality) → equality_at (reverse section) f ≡ o → Shows (reverse section) (region w section) f a b ↔ ((r.left ≡ a) × (r.right ≡ b) × IsSeen w section opened r.around)
    go None e = absurd (let z = ap found_in e in let y = sym z ∙ is in cc)
    go (Some q) e =
        let same : record { around = number_of q.around; left = q.left; right = q.right } ≡ r = same_Some _ _ (sym (ap found_in e) ∙ is) in
        let c = cited section f q e in
        let seen = seen_open section innermost opened kept w c.n c.low in
        let number : number_of (blocks_at section c.n) ≡ r.around = ap number_of (sym c.around) ∙ ap (λ (x : Found). x.around) same in (
          λ s.
              let eq : q ≡ record { around = s.around; left = a; right = b } = same_Some _ _ (sym e ∙ s.stated) in (
                sym (ap (λ (x : Found). x.left) same) ∙ ap (λ (x : Equality). x.left) eq,
                sym (ap (λ (x : Found). x.right) same) ∙ ap (λ (x : Equality). x.right) eq,
                subst (IsSeen w section opened) number (seen.1 (subst (λ (x : List OpenBlock). AreOpen x (region w section)) (sym (ap (λ (x : Equality). x.around) eq) ∙ c.around) s.visible)),
              ),
          λ h. record {
            around = q.around;
            stated = e ∙ ap Some (sides q a b (ap (λ (x : Found). x.left) same ∙ h.0) (ap (λ (x : Found). x.right) same ∙ h.1));
            visible = subst (λ (x : List OpenBlock). AreOpen x (region w section)) (sym c.around) (seen.0 (subst (IsSeen w section opened) (sym number) h.2));
          },
        )

pub not_found : (section : List Step) (w : Within) (f : Fact) → found_at section f ≡ None → (a b : ℕ) → Shows (reverse section) (region w section) f a b → ⊥
not_found section w f is a b s = let z = ap found_in s.stated in let y = sym z ∙ is in absurd (cc)

pair_is : (p q a b : ℕ) → p ≡ a → q ≡ b → ◌≡◌ {A = Option (ℕ × ℕ)} (Some (p, q)) (Some (a, b))
pair_is p q a b e f = ap (λ (n : ℕ). Some (n, q)) e ∙ ap (λ (n : ℕ). Some (a, n)) f

pub pair_are : (p q a b : ℕ) → ◌≡◌ {A = Option (ℕ × ℕ)} (Some (p, q)) (Some (a, b)) → (p ≡ a) × (q ≡ b)
pair_are p q a b e = let z = same_Some _ _ e in (ap (λ (x : ℕ × ℕ). x.0) z, ap (λ (x : ℕ × ℕ). x.1) z)

pub visible_found : (section : List Step) (innermost : List ℕ) (opened : List Bool) → AreKept section innermost opened → (w : Within) (f : Fact) (r : Found) → found_at section f ≡ Some r
    → IsSeen w section opened r.around → IsVisible (Some (r.left, r.right)) w section f
visible_found section innermost opened kept w f r is seen a b =
    let h = shows_found section innermost opened kept w f r is a b in
    (λ e. let z = pair_are r.left r.right a b e in h.1 (z.0, z.1, seen), λ s. let z = h.0 s in pair_is r.left r.right a b z.0 z.1)

pub hidden_found : (section : List Step) (innermost : List ℕ) (opened : List Bool) → AreKept section innermost opened → (w : Within) (f : Fact) (r : Found) → found_at section f ≡ Some r
    → (IsSeen w section opened r.around → ⊥) → IsVisible None w section f
hidden_found section innermost opened kept w f r is hidden a b =
    (λ e. absurd (cc), λ s. absurd (hidden ((shows_found section innermost opened kept w f r is a b).0 s).2))

pub none_found : (section : List Step) (w : Within) (f : Fact) → found_at section f ≡ None → IsVisible None w section f
none_found section w f is a b = (λ e. absurd (cc), λ s. absurd (not_found section w f is a b s))
