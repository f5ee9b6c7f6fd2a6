-- The lines of a text, of which the last part has none where it is empty.
use Rattle.std.proofs.Common.{◌≡◌, ◌==◌, ℕ, suc, true, false, length, arith, List, [], ◌∷◌, ◌++◌, map, Option, None, refl, sym, ap, ◌∙◌, append-nil}
use Rattle.std.specs.Borrow.{Bor}
use Rattle.std.proofs.lemmas.Bool.{eqb-true}
use Rattle.std.proofs.lemmas.List.{map-append}
use Rattle.pv_format.specs.Seen.{texts}
use Rattle.pv_listing.specs.declared.line.Line.{Line}
use Rattle.pv_listing.specs.Lines.{line_text}
use Rattle.pv_asm.specs.Classes.{last_line, lines_of}

lines_cut : (front : List (List ℕ)) (last : List ℕ) → lines_of (front ++ last ∷ []) ≡ map line_text.reads front ++ last_line last
lines_cut [] last = refl
lines_cut (body ∷ []) last = refl
lines_cut (body ∷ next ∷ front) last = ap (λ (lines : List (Option Line)). line_text.reads body ∷ lines) (lines_cut (next ∷ front) last)

cut_at : (parts front : List (Bor (List ℕ))) (last : Bor (List ℕ)) → parts ≡ front ++ last ∷ [] → lines_of (texts parts) ≡ map line_text.reads (texts front) ++ last_line last.now
cut_at parts front last is =
    ap (λ (p : List (Bor (List ℕ))). lines_of (texts p)) is ∙ ap lines_of (map-append (λ (w : Bor (List ℕ)). w.now) front (last ∷ [])) ∙ lines_cut (texts front) last.now

none_last : (bytes : List ℕ) → (length bytes == 0) ≡ true → [] ≡ last_line bytes
none_last [] empty = refl
none_last (b ∷ bytes) empty = let none : suc (length bytes) ≡ 0 = eqb-true (suc (length bytes)) 0 empty in absurd (omega arith)

pub none_after : (parts front : List (Bor (List ℕ))) (last : Bor (List ℕ)) (lines : List (Option Line)) → parts ≡ front ++ last ∷ [] → lines ≡ map line_text.reads (texts front) → (length last.now == 0) ≡ true → lines ≡ lines_of (texts parts)
none_after parts front last lines is read empty =
    read ∙ sym (append-nil (map line_text.reads (texts front))) ∙ ap (λ (more : List (Option Line)). map line_text.reads (texts front) ++ more) (none_last last.now empty) ∙ sym (cut_at parts front last is)

some_last : (bytes : List ℕ) → (length bytes == 0) ≡ false → None ∷ [] ≡ last_line bytes
some_last [] some = absurd (cc)
some_last (b ∷ bytes) some = refl

pub one_after : (parts front : List (Bor (List ℕ))) (last : Bor (List ℕ)) (lines later : List (Option Line)) → parts ≡ front ++ last ∷ [] → lines ≡ map line_text.reads (texts front) → (length last.now == 0) ≡ false → later ≡ lines ++ None ∷ []
    → later ≡ lines_of (texts parts)
one_after parts front last lines later is read some more =
    more ∙ ap (λ (front : List (Option Line)). front ++ None ∷ []) read ∙ ap (λ (end : List (Option Line)). map line_text.reads (texts front) ++ end) (some_last last.now some) ∙ sym (cut_at parts front last is)
