-- Reads and writes one after another, where the bytes are known.
use Rattle.std.proofs.Common.{◌≡◌, ℕ, ◌+◌, ◌-◌, ◌≤◌, List, ◌++◌, length, take, drop, Option, Some, None, Result, sym, subst, ◌∙◌, ap, append_assoc, arith}
use Rattle.std.proofs.Math.Seq.{take-append_seam}
use Rattle.std.proofs.lemmas.List.{take-append-drop, length-drop, length-append, length-take, take_all}
use Rattle.std.specs.Prelude.{OnErr, Ok, Err}
use Rattle.std.specs.Io.KnownBytes.{Appends, Consumes, Keeps}
use Rattle.pv_base.specs.Host.{AppendsPart, TakesWithin}

-- one write after another
pub Appends-then : (a b c : Option (List ℕ)) (xs ys : List ℕ) → Appends a b xs → Appends b c ys → Appends a c (xs ++ ys)
Appends-then None b c xs ys p q = tt
Appends-then (Some u) None c xs ys p q = absurd p
Appends-then (Some u) (Some v) None xs ys p q = absurd q
Appends-then (Some u) (Some v) (Some w) xs ys p q = q ∙ ap (λ (t : List ℕ). t ++ ys) p ∙ append_assoc u xs ys

-- a write, and then a step that changes nothing
pub Appends-kept : (a b c : Option (List ℕ)) (xs : List ℕ) → Appends a b xs → Keeps b c → Appends a c xs
Appends-kept None b c xs p q = tt
Appends-kept (Some u) None c xs p q = absurd p
Appends-kept (Some u) (Some v) None xs p q = absurd q
Appends-kept (Some u) (Some v) (Some w) xs p q = q ∙ p

-- one read after another
pub Consumes-then : (a b c : Option (List ℕ)) (xs ys : List ℕ) → Consumes a b xs → Consumes b c ys → Consumes a c (xs ++ ys)
Consumes-then None b c xs ys p q = tt
Consumes-then (Some u) None c xs ys p q = absurd p
Consumes-then (Some u) (Some v) None xs ys p q = absurd q
Consumes-then (Some u) (Some v) (Some w) xs ys p q = p ∙ ap (λ (t : List ℕ). xs ++ t) q ∙ sym (append_assoc xs ys w)

-- what was taken of the bytes so far is a first part of them
pub part_of : (a b : Option (List ℕ)) (bytes front rest : List ℕ) → bytes ≡ front ++ rest → Appends a b front → AppendsPart a b bytes
part_of a b bytes front rest e p =
    (length front, subst (λ (xs : List ℕ). Appends a b xs) (sym (ap (take (length front)) e ∙ take-append_seam front rest)) p)

-- what is left of a slice after its first bytes, as the code has it
rest_of : (n : ℕ) (rest : List ℕ) → take n rest ++ take (length rest - n) (drop n rest) ≡ rest
rest_of n rest =
    ap (λ (xs : List ℕ). take n rest ++ xs) (take_all (length rest - n) (drop n rest) (omega (arith, length-drop n rest))) ∙ take-append-drop n rest

-- one write more
pub one_more : (a b c : Option (List ℕ)) (bytes front rest : List ℕ) (n : ℕ) → bytes ≡ front ++ rest → Appends a b front → Appends b c (take n rest) → (x : List ℕ) × (bytes ≡ x ++ take (length rest - n) (drop n rest)) × Appends a c x
one_more a b c bytes front rest n e p q =
    (front ++ take n rest, e ∙ ap (λ (xs : List ℕ). front ++ xs) (sym (rest_of n rest)) ∙ sym (append_assoc front (take n rest) _), Appends-then a b c front (take n rest) p q)

-- one read more, within the limit
pub taken_more : (a b c : Option (List ℕ)) (front piece : List ℕ) (n most : ℕ) → Consumes a b front → Consumes b c (take n piece) → length front + n ≤ most → TakesWithin most a c
taken_more a b c front piece n most p q few =
    (front ++ take n piece, simp (length-append, length-take) (omega arith), Consumes-then a b c front (take n piece) p q)

-- a fact that holds anyway
pub on_err : {T E : Type 0} (r : Result T E) (P : Type 0) → P → OnErr r P
on_err (Ok x) P p = tt
on_err (Err e) P p = p

-- a write that took nothing
pub none_more : (a b c : Option (List ℕ)) (bytes front rest : List ℕ) (n : ℕ) → n ≡ 0 → bytes ≡ front ++ rest → Appends a b front → Appends b c (take n rest) → AppendsPart a c bytes
none_more a b c bytes front rest n zero e p q =
    let more : bytes ≡ (front ++ take n rest) ++ drop n rest = e ∙ ap (λ (xs : List ℕ). front ++ xs) (sym (take-append-drop n rest)) ∙ sym (append_assoc front (take n rest) (drop n rest)) in
    part_of a c bytes (front ++ take n rest) (drop n rest) more (Appends-then a b c front (take n rest) p q)
