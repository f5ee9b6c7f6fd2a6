-- Of a section that shows that two methods are equivalent, nothing else is said.
use Rattle.std.proofs.Common.{◌≡◌, ℕ, suc, ◌+◌, List, [], ◌∷◌, Some, refl, sym, subst, arith}
use Rattle.std.specs.Prelude.{slice_get}
use Rattle.std.specs.List.{AllByRecursion, AllZip, Contains}
use Rattle.pv_graph.specs.Graphs.{Graph}
use Rattle.pv_alike.specs.Least.{Rooted}
use Rattle.pv_axioms.specs.Entries.{ByAxioms}
use Rattle.pv_lemmas.specs.Lemmas.{ByLemmas}
use Rattle.pv_lemmas.proofs.Cited.{without_lemmas}
use Rattle.pv_steps.specs.Accepted.{Derives}
use Rattle.pv_steps.proofs.Cited.{accepted_not_rejected}
use Rattle.pv_pool.proofs.Cited.{IsBytes}
use Rattle.pv_class.specs.declared.file.ClassFile.{ClassFile}
use Rattle.pv_class.specs.declared.file.Method.{Method}
use Rattle.pv_class.specs.ClassFiles.{IsClass}
use Rattle.pv_class.proofs.Cited.{HasBytes, class_bytes}
use Rattle.pv_cert.specs.declared.cert.Section.{Section}
use Rattle.pv_report.specs.declared.verdict.Verdict.{Verdict}
use Rattle.pv_report.specs.declared.verdict.Verdict.TheVariants as verdict
use Rattle.pv_report.specs.Partners.{IsPartner}
use Rattle.pv_report.specs.Roots.{HaveLeast}
use Rattle.pv_report.specs.Shown.{IsSectionOf, equivalent_of}
use Rattle.pv_report.proofs.Cited.{all_at, contains_here, no_lack, one_rooted, partner_once, place_of}
use Rattle.pv_sections.specs.declared.finding.Finding.{Finding}
use Rattle.pv_sections.specs.declared.finding.Finding.TheVariants as finding
use Rattle.pv_sections.specs.Findings.{AreOf, IsFinding, IsFindingOn}
use Rattle.pv_sections.specs.Ruled.{SaysEquivalent}
use Rattle.pv_sections.proofs.Found.{named_once}
use Rattle.pv_sections.proofs.Prepared.{derives_prepared}

module _ (a b : List ℕ) (first second : ClassFile) (bytes_a : IsBytes a) (bytes_b : IsBytes b) (first_is : IsClass a first) (second_is : IsClass b second) where
  module _ (m p : Method) (s : Section) (among : Contains first.methods m) (shown : IsSectionOf first second m s) (partner : IsPartner m second.methods p) where
    m_bytes : HasBytes m
    m_bytes = all_at HasBytes first.methods m (class_bytes a first bytes_a first_is) among

    p_bytes : HasBytes p
    p_bytes = all_at HasBytes second.methods p (class_bytes b second bytes_b second_is) partner.among

    -- its steps derive over the least graph of the two methods
    least : (l : Rooted) × HaveLeast first m second p l × Derives (ByLemmas []) l.graph l.first l.second s.steps
    least =
        let there = subst (λ (q : Method). (l : Rooted) × HaveLeast first m second q l × Derives ByAxioms l.graph l.first l.second s.steps)
        (partner_once m second.methods shown.partner p second_is.describes.distinct shown.partner_is partner) shown.shows in
        (there.0, there.1, without_lemmas there.0.graph there.0.first there.0.second s.steps there.2)

    -- .. and over each of them
    derives_over : (k : Rooted) → HaveLeast first m second p k → Derives (ByLemmas []) k.graph k.first k.second s.steps
    derives_over k h =
        let l = least.0 in
        let same = one_rooted first m second p l k m_bytes p_bytes least.1 h in
        let there = subst (λ (g : Graph). Derives (ByLemmas []) g l.first l.second s.steps) (sym same.graph) (derives_prepared [] l.graph k.graph.is_prepared l.first l.second s.steps least.2) in
        subst (λ (n : ℕ). Derives (ByLemmas []) k.graph k.first n s.steps) same.second (subst (λ (n : ℕ). Derives (ByLemmas []) k.graph n l.second s.steps) same.first there)

    -- so that it isn't rejected, and the methods lack no root
    on_methods : (f : Finding) → IsFindingOn [] first m second p s f → f ≡ finding.Verdict verdict.Equivalent
    on_methods (finding.Verdict verdict.Equivalent) on = refl
    on_methods (finding.Rejected n) (k, h, rejects) = absurd (accepted_not_rejected (ByLemmas []) k.graph k.first k.second s.steps n (derives_over k h) rejects)
    on_methods (finding.Verdict v) on = absurd (no_lack first m second p v least.0 m_bytes p_bytes least.1 on)

  -- what is found of a section of a method
  found_equivalent : (m : Method) (s : Section) (f : Finding) → Contains first.methods m → IsSectionOf first second m s → IsFinding [] first second s f → f ≡ finding.Verdict verdict.Equivalent
  found_equivalent m s f among shown is = by f is
    where
      by_methods : (n p : Method) (f : Finding) → AreOf first second s n p → IsFindingOn [] first n second p s f → f ≡ finding.Verdict verdict.Equivalent
      by_methods n p f are on =
          let at = place_of first.methods m among in
          let same : n ≡ m = named_once first s.name s.desc n m at.0 (a, first_is) are.named at.1 (sym shown.name) (sym shown.desc) in
          on_methods m p s among shown (subst (λ (q : Method). IsPartner q second.methods p) same are.partner) f (subst (λ (q : Method). IsFindingOn [] first q second p s f) same on)

      by : (f : Finding) → IsFinding [] first second s f → f ≡ finding.Verdict verdict.Equivalent
      by (finding.Verdict verdict.Missing) none =
          absurd (none m shown.partner (record { named = record { among = among; name_is = sym shown.name; desc_is = sym shown.desc }; partner = shown.partner_is }))
      by f (n, p, are, on) = by_methods n p f are on

  -- .. of those of some methods
  pub all_equivalent : (methods : List Method) (sections : List Section) (findings : List Finding) → AllByRecursion (Contains first.methods) methods
      → AllZip (IsSectionOf first second) methods sections → AllZip (IsFinding [] first second) sections findings → AllByRecursion SaysEquivalent findings
  all_equivalent [] [] [] among shown found = tt
  all_equivalent (m ∷ methods) (s ∷ sections) (f ∷ findings) among shown found =
      (found_equivalent m s f among.0 shown.0 found.0, all_equivalent methods sections findings among.1 shown.1 found.1)
  all_equivalent [] (s ∷ sections) findings among shown found = absurd shown
  all_equivalent (m ∷ methods) [] findings among shown found = absurd shown
  all_equivalent [] [] (f ∷ findings) among shown found = absurd found
  all_equivalent (m ∷ methods) (s ∷ sections) [] among shown found = absurd found

-- the methods that are equivalent are among those of the class
pub equivalent_among : (P : Method → Type 0) (methods : List Method) (verdicts : List Verdict) → AllByRecursion P methods → AllByRecursion P (equivalent_of methods verdicts)
equivalent_among P [] verdicts all = tt
equivalent_among P (m ∷ methods) [] all = tt
equivalent_among P (m ∷ methods) (verdict.Equivalent ∷ verdicts) all = (all.0, equivalent_among P methods verdicts all.1)
equivalent_among P (m ∷ methods) (v ∷ verdicts) all = equivalent_among P methods verdicts all.1

-- each method is one of a list
pub each_among : (methods : List Method) → AllByRecursion (Contains methods) methods
each_among methods = go methods 0 (λ i m at. subst (λ (j : ℕ). slice_get methods j ≡ Some m) (omega arith) at)
  where
    go : (rest : List Method) (k : ℕ) → ((i : ℕ) (m : Method) → slice_get rest i ≡ Some m → slice_get methods (k + i) ≡ Some m) → AllByRecursion (Contains methods) rest
    go [] k there = tt
    go (m ∷ rest) k there = (contains_here methods (k + 0) m (there 0 m refl), go rest (suc k) (λ i n at. subst (λ (j : ℕ). slice_get methods j ≡ Some n) (omega arith) (there (suc i) n at)))
