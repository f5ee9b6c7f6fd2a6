-- The words of the line on a certificate that was migrated: no line feed is in them, and they don't end with ` equivalent`.
use Rattle.std.proofs.Common.{◌≡◌, ℕ, List, [], ◌∷◌, ◌++◌, refl}
use Rattle.std.specs.Prelude.{codes, decimal}
use Rattle.pv_report.specs.Lines.{in_words}
use Rattle.pv_report.proofs.Cited.{AreOther, Lacks, ends_other, known, number_other, other_parts, whole_words}

count_other : (count : ℕ) → AreOther (decimal count ∷ codes "sections" ∷ [])
count_other count = (number_other count, (known (codes "sections") refl, tt))

pub migrated_whole : (count : ℕ) → Lacks 10 (in_words (codes "migrated" ∷ decimal count ∷ codes "sections" ∷ []))
migrated_whole count = whole_words (codes "migrated" ∷ decimal count ∷ codes "sections" ∷ []) ((known (codes "migrated") refl).part, other_parts (decimal count ∷ codes "sections" ∷ []) (count_other count))

pub migrated_other : (count : ℕ) (front : List ℕ) → in_words (codes "migrated" ∷ decimal count ∷ codes "sections" ∷ []) ≡ front ++ codes " equivalent" → ⊥
migrated_other count front e = ends_other (codes "migrated") (decimal count ∷ codes "sections" ∷ []) front (count_other count) e
