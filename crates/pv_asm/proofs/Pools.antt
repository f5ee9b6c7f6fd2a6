-- The entries of a pool with their indices: how one is found, and how one is added.
use Rattle.std.proofs.Common.{◌≡◌, ℕ, ◌+◌, ◌≤◌, Bool, true, false, cond, leb, List, [], ◌∷◌, ◌++◌, map, Option, Some, None, refl, sym, ap, subst, ◌∙◌, arith}
use Rattle.std.specs.Str.{bytes_eq}
use Rattle.std.specs.Borrow.{Bor}
use Rattle.std.specs.List.{flat_map}
use Rattle.std.specs.Map.{keys_of, lookup}
use Rattle.std.specs.Map.Iter.{deref_pair}
use Rattle.std.proofs.lemmas.Bool.{cond-true, cond-false, le-leb}
use Rattle.indexmap.specs.IndexMap.{insert_entry}
use Rattle.pv_asm.specs.Needs.{Pool, needed, width, after, index_from, need_at, need_bytes}
use Rattle.pv_asm.specs.Numbered.{numbered}

-- an entry is found with its index
pub index_found : (text : List ℕ) (i : ℕ) (pool : Pool) → lookup (bytes_eq text) (numbered i pool) ≡ index_from i pool text
index_found text i [] = refl
index_found text i (e ∷ pool) = ap (λ (o : Option ℕ). cond (bytes_eq text e) (Some i) o) (index_found text (i + width e) pool)

keys_numbered : (i : ℕ) (pool : Pool) → keys_of (numbered i pool) ≡ pool
keys_numbered i [] = refl
keys_numbered i (e ∷ pool) = ap (λ (p : Pool). e ∷ p) (keys_numbered (i + width e) pool)

numbered_more : (i : ℕ) (pool : Pool) (text : List ℕ) → numbered i (pool ++ text ∷ []) ≡ numbered i pool ++ (text, after i pool) ∷ []
numbered_more i [] text = refl
numbered_more i (e ∷ pool) text = ap (λ (p : List (List ℕ × ℕ)). (e, i) ∷ p) (numbered_more (i + width e) pool text)

pub after_more : (i : ℕ) (pool : Pool) (text : List ℕ) → after i (pool ++ text ∷ []) ≡ after i pool + width text
after_more i [] text = refl
after_more i (e ∷ pool) text = after_more (i + width e) pool text

-- one that isn't there is put after the others
inserted : (i : ℕ) (pool : Pool) (text : List ℕ) (v : ℕ) → index_from i pool text ≡ None → insert_entry bytes_eq (numbered i pool) text v ≡ numbered i pool ++ (text, v) ∷ []
inserted i [] text v none = refl
inserted i (e ∷ pool) text v none = by_test (bytes_eq text e) refl (inserted (i + width e) pool text v)
  where
    by_test : (b : Bool) → bytes_eq text e ≡ b
        → (index_from (i + width e) pool text ≡ None → insert_entry bytes_eq (numbered (i + width e) pool) text v ≡ numbered (i + width e) pool ++ (text, v) ∷ [])
        → insert_entry bytes_eq (numbered i (e ∷ pool)) text v ≡ numbered i (e ∷ pool) ++ (text, v) ∷ []
    by_test true is more = let some = sym (cond-true (bytes_eq text e) (Some i) (index_from (i + width e) pool text) is) ∙ none in absurd (cc)
    by_test false is more =
        cond-false (bytes_eq text e) ((e, v) ∷ numbered (i + width e) pool) ((e, i) ∷ insert_entry bytes_eq (numbered (i + width e) pool) text v) is
        ∙ ap (λ (p : List (List ℕ × ℕ)). (e, i) ∷ p) (more (sym (cond-false (bytes_eq text e) (Some i) (index_from (i + width e) pool text) is) ∙ none))

-- so the entries stay numbered
pub added : (entries later : List (List ℕ × ℕ)) (text : List ℕ) → entries ≡ numbered 1 (keys_of entries) → index_from 1 (keys_of entries) text ≡ None → later ≡ insert_entry bytes_eq entries text (after 1 (keys_of entries))
    → (keys_of later ≡ keys_of entries ++ text ∷ []) × (later ≡ numbered 1 (keys_of later))
added entries later text are none is =
    let pool : Pool = keys_of entries in
    let whole : later ≡ numbered 1 (pool ++ text ∷ []) = is ∙ ap (λ (es : List (List ℕ × ℕ)). insert_entry bytes_eq es text (after 1 pool)) are ∙ inserted 1 pool text (after 1 pool) none ∙ sym (numbered_more 1 pool text) in
    let names : keys_of later ≡ pool ++ text ∷ [] = ap (λ (es : List (List ℕ × ℕ)). keys_of es) whole ∙ keys_numbered 1 (pool ++ text ∷ []) in
    (names, whole ∙ ap (numbered 1) (sym names))

-- and one for which there is room is needed so
pub needed_new : (pool now later : Pool) (text : List ℕ) (count : ℕ) → pool ≡ now → index_from 1 now text ≡ None → count ≡ after 1 pool → count + width text ≤ 65535 → later ≡ pool ++ text ∷ [] → need_bytes now text ≡ Some (needed count later)
needed_new pool now later text count same none is fits more =
    let counted : count ≡ after 1 now = is ∙ ap (after 1) same in
    let room : after 1 now + width text ≤ 65535 = subst (λ (n : ℕ). n + width text ≤ 65535) counted fits in
    ap (need_at now text) none ∙ cond-true (leb (after 1 now + width text) 65535) (Some (needed (after 1 now) (now ++ text ∷ []))) None (le-leb (after 1 now + width text) 65535 room)
    ∙ ap (λ (n : ℕ). Some (needed n (now ++ text ∷ []))) (sym counted)
    ∙ ap (λ (p : Pool). Some (needed count p)) (ap (λ (p : Pool). p ++ text ∷ []) (sym same) ∙ sym more)

pub sum_fits : (a b n w : ℕ) → a ≡ n → b ≡ w → a + b ≤ 65535 → n + w ≤ 65535
sum_fits a b n w first second fits = omega arith

-- ---- the bytes of a pool

pub shown : (ys : List (Bor (List ℕ) × Bor ℕ)) → flat_map (λ y. y.0.now) ys ≡ flat_map (λ e. e) (keys_of (map deref_pair ys))
shown [] = refl
shown (y ∷ ys) = ap (λ (rest : List ℕ). y.0.now ++ rest) (shown ys)
