-- No two methods of a listing have the same name and descriptor.
use Rattle.std.proofs.Common.{◌≡◌, ◌⊎◌, inl, inr, ℕ, zero, suc, Bool, true, false, ◌&&◌, ◌||◌, List, [], ◌∷◌, ◌++◌, length, map, Option, Some, None, refl, sym, ap, ◌∙◌}
use Rattle.std.specs.List.{slice_get, list_any}
use Rattle.std.specs.Str.{bytes_eq}
use Rattle.std.proofs.lemmas.Slice.Eq.{bytes_eq-Decides}
use Rattle.pv_listing.specs.declared.line.Title.{Title}
use Rattle.pv_asm.specs.declared.seen.Signature.{Signature}
use Rattle.pv_asm.specs.Listings.{alike}

abbrev pub signature : Title → Signature
signature t = record { name = t.name; desc = t.desc }

pub record AreApart (titles : List Title) : Type 0 where
  pub same : (i j : ℕ) (t u : Title) → slice_get titles i ≡ Some t → slice_get titles j ≡ Some u → t.name ≡ u.name → t.desc ≡ u.desc → i ≡ j

pub none_apart : AreApart []
none_apart = record { same = λ i j t u at other name desc. absurd (none t at) }
  where
    none : (t : Title) → ◌≡◌ {A = Option Title} None (Some t) → ⊥
    none t e = cc

-- one of a list, or the one after it
pub last_or : {X : Type 0} (xs : List X) (u : X) (i : ℕ) (x : X) → slice_get (xs ++ u ∷ []) i ≡ Some x → (slice_get xs i ≡ Some x) ⊎ ((i ≡ length xs) × (x ≡ u))
last_or [] u zero x at = inr (refl, cc)
last_or [] u (suc i) x at = absurd (cc)
last_or (y ∷ xs) u zero x at = inl at
last_or (y ∷ xs) u (suc i) x at = by (last_or xs u i x at)
  where
    by : (slice_get xs i ≡ Some x) ⊎ ((i ≡ length xs) × (x ≡ u)) → (slice_get xs i ≡ Some x) ⊎ ((suc i ≡ suc (length xs)) × (x ≡ u))
    by (inl there) = inl there
    by (inr last) = inr (ap suc last.0, last.1)

-- one that is alike is told from the others
any_alike : (titles : List Title) (u : Title) (i : ℕ) (t : Title) → slice_get titles i ≡ Some t → t.name ≡ u.name → t.desc ≡ u.desc → list_any (alike (signature u)) (map signature titles) ≡ true
any_alike [] u i t at name desc = absurd (cc)
any_alike (x ∷ titles) u zero t at name desc =
    let is : x ≡ t = cc in
    let names : bytes_eq u.name x.name ≡ true = (bytes_eq-Decides u.name x.name).1 (sym name ∙ sym (ap (λ (v : Title). v.name) is)) in
    let descs : bytes_eq u.desc x.desc ≡ true = (bytes_eq-Decides u.desc x.desc).1 (sym desc ∙ sym (ap (λ (v : Title). v.desc) is)) in
    either (bytes_eq u.name x.name) (bytes_eq u.desc x.desc) (list_any (alike (signature u)) (map signature titles)) names descs
  where
    either : (a b c : Bool) → a ≡ true → b ≡ true → ((a && b) || c) ≡ true
    either true true c one two = refl
    either a b c one two = absurd (cc)
any_alike (x ∷ titles) u (suc i) t at name desc = more (alike (signature u) (signature x)) (list_any (alike (signature u)) (map signature titles)) (any_alike titles u i t at name desc)
  where
    more : (a b : Bool) → b ≡ true → (a || b) ≡ true
    more true b is = refl
    more false b is = is

pub more_apart : (titles : List Title) (u : Title) → AreApart titles → list_any (alike (signature u)) (map signature titles) ≡ false → AreApart (titles ++ u ∷ [])
more_apart titles u apart new = record { same = λ i j t v at other name desc. by i j t v name desc (last_or titles u i t at) (last_or titles u j v other) }
  where
    not_there : (i : ℕ) (t : Title) → slice_get titles i ≡ Some t → t.name ≡ u.name → t.desc ≡ u.desc → ⊥
    not_there i t at name desc = let there = any_alike titles u i t at name desc in cc

    by : (i j : ℕ) (t v : Title) → t.name ≡ v.name → t.desc ≡ v.desc → (slice_get titles i ≡ Some t) ⊎ ((i ≡ length titles) × (t ≡ u)) → (slice_get titles j ≡ Some v) ⊎ ((j ≡ length titles) × (v ≡ u)) → i ≡ j
    by i j t v name desc (inl at) (inl other) = apart.same i j t v at other name desc
    by i j t v name desc (inl at) (inr last) = absurd (not_there i t at (name ∙ ap (λ (x : Title). x.name) last.1) (desc ∙ ap (λ (x : Title). x.desc) last.1))
    by i j t v name desc (inr last) (inl other) = absurd (not_there j v other (sym name ∙ ap (λ (x : Title). x.name) last.1) (sym desc ∙ ap (λ (x : Title). x.desc) last.1))
    by i j t v name desc (inr last) (inr end) = last.0 ∙ sym end.0
