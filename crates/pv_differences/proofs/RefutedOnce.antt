-- There is one report on two files: one text and one status.
use Rattle.std.proofs.Common.{◌≡◌, ◌≢◌, ◌⊎◌, ℕ, List, [], ◌∷◌, Result, Ok, Err, inl, inr, refl, sym, ap, subst, ◌∙◌}
use Rattle.std.specs.List.{AllByRecursion, AllZip, flat_map}
use Rattle.pv_base.specs.Stored.{AreBytes}
use Rattle.pv_pool.proofs.Cited.{IsBytes}
use Rattle.pv_class.specs.declared.file.ClassFile.{ClassFile}
use Rattle.pv_class.specs.declared.file.Method.{Method}
use Rattle.pv_class.specs.declared.fault.ClassFault.{ClassFault}
use Rattle.pv_class.specs.ClassFaults.{IsBad}
use Rattle.pv_class.specs.ClassFiles.{AreDistinct, IsClass}
use Rattle.pv_class.proofs.Cited.{HasBytes, answer_once, class_bytes}
use Rattle.pv_report.specs.declared.status.Status.{Status}
use Rattle.pv_report.specs.declared.status.Status.TheVariants as status
use Rattle.pv_report.specs.Lines.{line_text}
use Rattle.pv_report.specs.Listed.{lines_by}
use Rattle.pv_report.specs.Report.{IsBadPair}
use Rattle.pv_report.proofs.Cited.{bad_twice, by_index, classes_not_bad, file_once}
use Rattle.pv_differences.specs.declared.finding.Finding.{Finding}
use Rattle.pv_differences.specs.declared.finding.RunLimits.{RunLimits}
use Rattle.pv_differences.specs.Findings.{IsFinding}
use Rattle.pv_differences.specs.Lines.{line_of}
use Rattle.pv_differences.specs.Refuted.{IsReport, IsStatusOf, Refuted}
use Rattle.pv_differences.specs.Laws.{RefutedOnce}
use Rattle.pv_differences.proofs.FindingOnce.{finding_once}

-- ---- one report

findings_once : (limits : RunLimits) (f g : ClassFile) (methods : List Method) (xs ys : List Finding) → AreDistinct g.methods → AllByRecursion HasBytes methods → AllByRecursion HasBytes g.methods → AllZip (IsFinding limits f g) methods xs → AllZip (IsFinding limits f g) methods ys
    → xs ≡ ys
findings_once limits f g [] [] [] distinct b all h k = refl
findings_once limits f g (m ∷ methods) (x ∷ xs) (y ∷ ys) distinct b all h k =
    let one = finding_once limits f g m x y distinct b.0 all h.0 k.0 in
    let rest = findings_once limits f g methods xs ys distinct b.1 all h.1 k.1 in
    cc (one, rest)
findings_once limits f g [] [] _ distinct b all h k = absurd k
findings_once limits f g (m ∷ methods) (x ∷ xs) _ distinct b all h k = absurd k
findings_once limits f g _ _ ys distinct b all h k = absurd h

report_once : (limits : RunLimits) (a b t u : List ℕ) (xs ys : List Finding) → IsBytes a → IsBytes b → IsReport limits a b xs t → IsReport limits a b ys u → (xs ≡ ys) × (t ≡ u)
report_once limits a b t u xs ys m n r s =
    let first : s.first ≡ r.first = file_once a s.first r.first m s.first_is r.first_is in
    let second : s.second ≡ r.second = file_once b s.second r.second n s.second_is r.second_is in
    let methods : s.first.methods ≡ r.first.methods = ap (λ (f : ClassFile). f.methods) first in
    let each : AllZip (IsFinding limits r.first r.second) r.first.methods ys = subst (λ (g : ClassFile). AllZip (IsFinding limits r.first g) r.first.methods ys) second (subst (λ (f : ClassFile). AllZip (IsFinding limits f s.second) f.methods ys) first s.lines.each) in
    let one = findings_once limits r.first r.second r.first.methods xs ys r.second_is.describes.distinct (class_bytes a r.first m r.first_is) (class_bytes b r.second n r.second_is) r.lines.each each in
    (one, r.lines.text_is ∙ ap (λ (zs : List Finding). flat_map line_text (lines_by line_of r.first.methods zs)) one ∙ ap (λ (ms : List Method). flat_map line_text (lines_by line_of ms ys)) (sym methods) ∙ sym s.lines.text_is)

-- what is said, by what was read
data Reading (limits : RunLimits) (a b t : List ℕ) (s : Status) : Type 0 where
  bad : s ≡ status.BadClass → IsBadPair a b t → Reading limits a b t s
  report : (xs : List Finding) → IsReport limits a b xs t → IsStatusOf xs s → Reading limits a b t s

reading_of : (limits : RunLimits) (a b t : List ℕ) (s : Status) → Refuted limits a b t s → Reading limits a b t s
reading_of limits a b t status.AllEquivalent (xs, r, is) = report xs r is
reading_of limits a b t status.Others (xs, r, is) = report xs r is
reading_of limits a b t status.BadClass h = bad refl h
reading_of limits a b t _ (xs, r, is) = absurd is

-- one status goes with findings
which : (xs : List Finding) (s : Status) → IsStatusOf xs s → ((s ≡ status.AllEquivalent) × (xs ≡ [])) ⊎ ((s ≡ status.Others) × (xs ≢ []))
which xs status.AllEquivalent is = inl (refl, is)
which xs status.Others is = inr (refl, is)
which xs _ is = absurd is

status_once : (xs : List Finding) (s t : Status) → IsStatusOf xs s → IsStatusOf xs t → s ≡ t
status_once xs s t is is_too =
    elim (which xs s is) [
      | inl a ↦
          elim (which xs t is_too) [
            | inl b ↦ a.0 ∙ sym b.0
            | inr b ↦ absurd (b.1 a.1)
          ]
      | inr a ↦
          elim (which xs t is_too) [
            | inl b ↦ absurd (a.1 b.1)
            | inr b ↦ a.0 ∙ sym b.0
          ]
    ]

not_bad : (limits : RunLimits) (a b t u : List ℕ) (xs : List Finding) → IsBytes a → IsBytes b → IsReport limits a b xs t → IsBadPair a b u → ⊥
not_bad limits a b t u xs p q r k = classes_not_bad a b u r.first r.second p q r.first_is r.second_is k

pub refuted_once : RefutedOnce
refuted_once limits a b t u r s m n h k = go (reading_of limits a b t r h) (reading_of limits a b u s k)
  where
    go : Reading limits a b t r → Reading limits a b u s → (t ≡ u) × (r ≡ s)
    go (bad p x) (bad q y) = (bad_twice a b t u (by_index a m) (by_index b n) x y, p ∙ sym q)
    go (bad p x) (report ys y is) = absurd (not_bad limits a b u t ys (by_index a m) (by_index b n) y x)
    go (report xs x is) (bad q y) = absurd (not_bad limits a b t u xs (by_index a m) (by_index b n) x y)
    go (report xs x is) (report ys y is_too) =
        let one = report_once limits a b t u xs ys (by_index a m) (by_index b n) x y in
        (one.1, status_once ys r s (subst (λ (zs : List Finding). IsStatusOf zs r) one.0 is) is_too)
