-- The places of instructions by their addresses, as a loop fills a table of them, and where offsets lead by them.
use Rattle.std.proofs.Common.{◌≡◌, ◌⊎◌, inl, inr, ℕ, zero, suc, ℤ, pos, negsuc, ◌+◌, ◌+ℤ◌, ◌≤◌, ◌<◌, List, [], ◌∷◌, length, get_or, set, cond, eqb, Option, Some, None, refl, sym, ap, ◌∙◌, arith}
use Rattle.std.specs.Prelude.{slice_get}
use Rattle.std.specs.List.{AllByRecursion}
use Rattle.std.proofs.lemmas.Bool.{cases_eq, eq-eqb, ne_eqb}
use Rattle.std.proofs.lemmas.List.{length-append, get_or-set_same, get_or-set_other}
use Rattle.pv_insn.specs.declared.raw.RawPlaced.{RawPlaced}
use Rattle.pv_insn.specs.Codes.{IsInstruction, AreFrom, Leads}
use Rattle.pv_insn.specs.Targets.{place_from, place_in, place_at, place_of}
use Rattle.pv_insn.proofs.Each.{Finds}

-- ---- addresses

pub some_text : (at : ℕ) (r : RawPlaced) (text : List ℕ) → IsInstruction at r text → 0 < length text
some_text at r text is = omega (arith, ap length is.spells.parts)

at_least : (n : ℕ) (raws : List RawPlaced) (at : ℕ) (bytes : List ℕ) → AreFrom at raws bytes → n ≤ at → AllByRecursion (λ r. n ≤ r.at) raws
at_least n [] at bytes h le = tt
at_least n (r ∷ raws) at bytes h le = (omega (arith, h.3.here), at_least n raws (at + length h.0) h.1 h.4 (omega arith))

pub at_below : (raws : List RawPlaced) (at : ℕ) (bytes : List ℕ) → AreFrom at raws bytes → (k : ℕ) (r : RawPlaced) → slice_get raws k ≡ Some r → r.at < at + length bytes
at_below [] at bytes h k r e = absurd (cc)
at_below (q ∷ raws) at bytes h zero r e =
    let same : q ≡ r = cc in
    omega (arith, h.3.here, ap (λ (x : RawPlaced). x.at) same, some_text at q h.0 h.3, ap length h.2, length-append h.0 h.1)
at_below (q ∷ raws) at bytes h (suc k) r e = omega (arith, at_below raws (at + length h.0) h.1 h.4 k r e, ap length h.2, length-append h.0 h.1)

pub few : (raws : List RawPlaced) (at : ℕ) (bytes : List ℕ) → AreFrom at raws bytes → length raws ≤ length bytes
few [] at bytes h = omega arith
few (q ∷ raws) at bytes h = omega (arith, few raws (at + length h.0) h.1 h.4, some_text at q h.0 h.3, ap length h.2, length-append h.0 h.1)

-- ---- a table of places

pub place_more : (places : List (Option ℕ)) (i k a : ℕ) → i < length places → get_or (set places i (Some k)) a None ≡ cond (eqb i a) (Some k) (get_or places a None)
place_more places i k a lt =
    elim (cases_eq i a) [
      | inl is ↦ rw (eq-eqb i a is, ← is) (get_or-set_same places i (Some k) None lt)
      | inr ne ↦ rw (ne_eqb i a ne) (get_or-set_other places i a (Some k) None (λ e. ne (sym e)))
    ]

-- ---- the place of an address

unplaced : (raws : List RawPlaced) (o : Option ℕ) (k a : ℕ) → AllByRecursion (λ r. a + 1 ≤ r.at) raws → place_from o k raws a ≡ o
unplaced [] o k a later = refl
unplaced (r ∷ raws) o k a later = rw (ne_eqb r.at a (λ e. let lt = later.0 in omega arith)) (unplaced raws o (k + 1) a later.1)

place_there : (raws : List RawPlaced) (at : ℕ) (bytes : List ℕ) → AreFrom at raws bytes → (o : Option ℕ) (j k : ℕ) (r : RawPlaced) → slice_get raws k ≡ Some r → place_from o j raws r.at ≡ Some (j + k)
place_there [] at bytes h o j k r e = absurd (cc)
place_there (q ∷ raws) at bytes h o j zero r e =
    let same : q ≡ r = cc in
    let far : q.at ≡ r.at = ap (λ (x : RawPlaced). x.at) same in
    rw (eq-eqb q.at r.at far) (unplaced raws (Some j) (j + 1) r.at (at_least (r.at + 1) raws (at + length h.0) h.1 h.4 (omega (arith, h.3.here, some_text at q h.0 h.3))) ∙ ap (λ (n : ℕ). Some n) (omega arith))
place_there (q ∷ raws) at bytes h o j (suc k) r e = place_there raws (at + length h.0) h.1 h.4 (cond (eqb q.at r.at) (Some j) o) (j + 1) k r e ∙ ap (λ (n : ℕ). Some n) (omega arith)

there_placed : (raws : List RawPlaced) (o : Option ℕ) (j a k : ℕ) → place_from o j raws a ≡ Some k → (o ≡ Some k) ⊎ ((i : ℕ) × (r : RawPlaced) × (k ≡ j + i) × (slice_get raws i ≡ Some r) × (r.at ≡ a))
there_placed [] o j a k e = inl e
there_placed (q ∷ raws) o j a k e =
    elim (there_placed raws (cond (eqb q.at a) (Some j) o) (j + 1) a k e) [
      | inl h ↦
          elim (cases_eq q.at a) [
            | inl is ↦ let here = rw (eq-eqb q.at a is) at h in let same : j ≡ k = cc (here) in inr (0, q, omega arith, refl, is)
            | inr ne ↦ inl (rw (ne_eqb q.at a ne) at h)
          ]
      | inr (i, r, same, stands, far) ↦ inr (suc i, r, omega arith, stands, far)
    ]

pub leads : (raws : List RawPlaced) (code : List ℕ) → AreFrom 0 raws code → (at : ℕ) → Finds (place_of (place_in raws) at) (Leads raws at)
leads raws code read at offset k = (λ e. go (pos at +ℤ offset) refl e, λ l. ap (place_at (place_in raws)) (sym l.reaches) ∙ place_there raws 0 code read None 0 k l.target l.stands ∙ ap (λ (n : ℕ). Some n) (omega arith)) where
  go : (z : ℤ) → pos at +ℤ offset ≡ z → place_at (place_in raws) z ≡ Some k → Leads raws at offset k
  go (pos a) is e =
      elim (there_placed raws None 0 a k e) [
        | inl none ↦ absurd (cc (none))
        | inr (i, r, same, stands, far) ↦ record { target = r; stands = ap (slice_get raws) (omega arith) ∙ stands; reaches = ap (λ (n : ℕ). pos n) far ∙ sym is }
      ]
  go (negsuc n) is e = absurd (cc)
