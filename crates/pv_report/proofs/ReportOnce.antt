-- There is one report on two files: one text and one status.
use Rattle.std.proofs.Common.{◌≡◌, ◌⊎◌, ℕ, List, [], ◌∷◌, Result, Ok, Err, inl, inr, refl, sym, ap, subst, ◌∙◌}
use Rattle.std.specs.List.{AllByRecursion, AllZip, flat_map}
use Rattle.pv_class.specs.declared.file.Method.{Method}
use Rattle.pv_class.specs.declared.file.ClassFile.{ClassFile}
use Rattle.pv_class.specs.ClassFiles.{AreDistinct}
use Rattle.pv_pool.proofs.Cited.{IsBytes}
use Rattle.pv_class.specs.declared.fault.ClassFault.{ClassFault}
use Rattle.pv_class.specs.ClassFiles.{IsClass}
use Rattle.pv_class.specs.ClassFaults.{IsBad}
use Rattle.pv_class.proofs.Cited.{answer_once, HasBytes, class_bytes}
use Rattle.pv_report.specs.Options.{Options}
use Rattle.pv_report.specs.declared.verdict.Side.{Side}
use Rattle.pv_report.specs.declared.verdict.Side.TheVariants as side
use Rattle.pv_report.specs.declared.verdict.Verdict.{Verdict}
use Rattle.pv_report.specs.declared.status.Status.{Status}
use Rattle.pv_report.specs.declared.status.Status.TheVariants as status
use Rattle.pv_report.specs.Verdicts.{IsVerdict}
use Rattle.pv_report.specs.Lines.{line_text, bad_class}
use Rattle.pv_report.specs.Report.{IsReport, IsBadText, IsBadPair, IsStatusOf, Judged, AreEquivalent, lines_of}
use Rattle.pv_report.specs.Laws.{JudgedOnce}
use Rattle.pv_report.proofs.Places.{by_index}
use Rattle.pv_report.proofs.VerdictOnce.{line_once}

-- ---- one reading of a file

pub file_once : (bytes : List ℕ) (f g : ClassFile) → IsBytes bytes → IsClass bytes f → IsClass bytes g → f ≡ g
file_once bytes f g fits p q =
    let same : ◌≡◌ {A = Result ClassFile ClassFault} (Ok f) (Ok g) = answer_once bytes (Ok f) (Ok g) fits p q in
    cc same

bad_once : (bytes : List ℕ) (b c : ClassFault) → IsBytes bytes → IsBad bytes b → IsBad bytes c → b ≡ c
bad_once bytes b c fits p q =
    let same : ◌≡◌ {A = Result ClassFile ClassFault} (Err b) (Err c) = answer_once bytes (Err b) (Err c) fits p q in
    cc same

not_both : (bytes : List ℕ) (f : ClassFile) (b : ClassFault) → IsBytes bytes → IsClass bytes f → IsBad bytes b → ⊥
not_both bytes f b fits p q =
    let same : ◌≡◌ {A = Result ClassFile ClassFault} (Ok f) (Err b) = answer_once bytes (Ok f) (Err b) fits p q in
    absurd (cc same)

-- ---- one report

verdicts_once : (options : Options) (f g : ClassFile) (methods : List Method) (vs ws : List Verdict) → AreDistinct g.methods → AllByRecursion HasBytes methods → AllByRecursion HasBytes g.methods → AllZip (IsVerdict options f g) methods vs → AllZip (IsVerdict options f g) methods ws → vs ≡ ws
verdicts_once options f g [] [] [] distinct x all h k = refl
verdicts_once options f g (m ∷ methods) (v ∷ vs) (w ∷ ws) distinct x all h k =
    let one = line_once options f g m v w distinct x.0 all h.0 k.0 in
    let rest = verdicts_once options f g methods vs ws distinct x.1 all h.1 k.1 in
    cc (one, rest)
verdicts_once options f g [] [] _ distinct x all h k = absurd k
verdicts_once options f g (m ∷ methods) (v ∷ vs) _ distinct x all h k = absurd k
verdicts_once options f g _ _ ws distinct x all h k = absurd h

report_once : (options : Options) (a b t u : List ℕ) (vs ws : List Verdict) → IsBytes a → IsBytes b → IsReport options a b vs t → IsReport options a b ws u → (vs ≡ ws) × (t ≡ u)
report_once options a b t u vs ws m n r s =
    let first : s.first ≡ r.first = file_once a s.first r.first m s.first_is r.first_is in
    let second : s.second ≡ r.second = file_once b s.second r.second n s.second_is r.second_is in
    let methods : s.first.methods ≡ r.first.methods = ap (λ (f : ClassFile). f.methods) first in
    let each : AllZip (IsVerdict options r.first r.second) r.first.methods ws = subst (λ (g : ClassFile). AllZip (IsVerdict options r.first g) r.first.methods ws) second (subst (λ (f : ClassFile). AllZip (IsVerdict options f s.second) f.methods ws) first s.each) in
    let one = verdicts_once options r.first r.second r.first.methods vs ws r.second_is.describes.distinct (class_bytes a r.first m r.first_is) (class_bytes b r.second n r.second_is) r.each each in
    (one, r.text_is ∙ ap (λ (xs : List Verdict). flat_map line_text (lines_of r.first.methods xs)) one ∙ ap (λ (ms : List Method). flat_map line_text (lines_of ms ws)) (sym methods) ∙ sym s.text_is)

-- what is said, by what was read
data Reading (options : Options) (a b t : List ℕ) (s : Status) : Type 0 where
  bad : s ≡ status.BadClass → IsBadPair a b t → Reading options a b t s
  report : (vs : List Verdict) → IsReport options a b vs t → IsStatusOf vs s → Reading options a b t s

reading_of : (options : Options) (a b t : List ℕ) (s : Status) → Judged options a b t s → Reading options a b t s
reading_of options a b t status.AllEquivalent (vs, r, is) = report vs r is
reading_of options a b t status.Others (vs, r, is) = report vs r is
reading_of options a b t status.BadClass h = bad refl h
reading_of options a b t _ (vs, r, is) = absurd is

-- one status goes with verdicts
which : (vs : List Verdict) (s : Status) → IsStatusOf vs s → ((s ≡ status.AllEquivalent) × AreEquivalent vs) ⊎ ((s ≡ status.Others) × (AreEquivalent vs → ⊥))
which vs status.AllEquivalent is = inl (refl, is)
which vs status.Others is = inr (refl, is)
which vs _ is = absurd is

status_once : (vs : List Verdict) (s t : Status) → IsStatusOf vs s → IsStatusOf vs t → s ≡ t
status_once vs s t is is_too =
    elim (which vs s is) [
      | inl a ↦
          elim (which vs t is_too) [
            | inl b ↦ a.0 ∙ sym b.0
            | inr b ↦ absurd (b.1 a.1)
          ]
      | inr a ↦
          elim (which vs t is_too) [
            | inl b ↦ absurd (a.1 b.1)
            | inr b ↦ a.0 ∙ sym b.0
          ]
    ]

-- two class files are no pair of which one has no reading
pub classes_not_bad : (a b text : List ℕ) (f g : ClassFile) → IsBytes a → IsBytes b → IsClass a f → IsClass b g → IsBadPair a b text → ⊥
classes_not_bad a b text f g p q first second (inl k) = not_both a f k.0 p first k.1
classes_not_bad a b text f g p q first second (inr k) = not_both b g k.1.0 q second k.1.1

one_bad : (s : Side) (bytes t u : List ℕ) → IsBytes bytes → IsBadText s bytes t → IsBadText s bytes u → t ≡ u
one_bad s bytes t u fits h k = h.2 ∙ ap (bad_class s) (bad_once bytes h.0 k.0 fits h.1 k.1) ∙ sym k.2

-- two texts on a file without a reading are one
pub bad_twice : (a b t u : List ℕ) → IsBytes a → IsBytes b → IsBadPair a b t → IsBadPair a b u → t ≡ u
bad_twice a b t u p q (inl h) (inl k) = one_bad side.First a t u p h k
bad_twice a b t u p q (inl h) (inr k) = absurd (not_both a k.0.0 h.0 p k.0.1 h.1)
bad_twice a b t u p q (inr h) (inl k) = absurd (not_both a h.0.0 k.0 p h.0.1 k.1)
bad_twice a b t u p q (inr h) (inr k) = one_bad side.Second b t u q h.1 k.1

not_bad : (options : Options) (a b t u : List ℕ) (vs : List Verdict) → IsBytes a → IsBytes b → IsReport options a b vs t → IsBadPair a b u → ⊥
not_bad options a b t u vs p q r k = classes_not_bad a b u r.first r.second p q r.first_is r.second_is k

of_bytes : (options : Options) (a b t u : List ℕ) (r s : Status) → IsBytes a → IsBytes b → Judged options a b t r → Judged options a b u s → (t ≡ u) × (r ≡ s)
of_bytes options a b t u r s m n h k = go (reading_of options a b t r h) (reading_of options a b u s k)
  where
    go : Reading options a b t r → Reading options a b u s → (t ≡ u) × (r ≡ s)
    go (bad p x) (bad q y) = (bad_twice a b t u m n x y, p ∙ sym q)
    go (bad p x) (report ws y is) = absurd (not_bad options a b u t ws m n y x)
    go (report vs x is) (bad q y) = absurd (not_bad options a b t u vs m n x y)
    go (report vs x is) (report ws y is_too) =
        let one = report_once options a b t u vs ws m n x y in
        (one.1, status_once ws r s (subst (λ (vs : List Verdict). IsStatusOf vs r) one.0 is) is_too)

pub judged_once : JudgedOnce
judged_once options a b t u r s p q h k = of_bytes options a b t u r s (by_index a p) (by_index b q) h k
