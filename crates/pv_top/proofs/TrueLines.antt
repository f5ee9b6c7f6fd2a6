-- Each whole line of an answer that says `equivalent` is true.
use Rattle.std.proofs.Common.{◌≡◌, ℕ, List, [], ◌∷◌, ◌++◌, length, Option, inl, inr, refl, sym, ap, subst, ◌∙◌}
use Rattle.std.specs.Prelude.{codes, decimal}
use Rattle.pv_base.specs.Stored.{Stored}
use Rattle.pv_differences.specs.declared.finding.Finding.{Finding as Difference}
use Rattle.pv_differences.specs.declared.finding.RunLimits.{RunLimits}
use Rattle.pv_differences.specs.Findings as differences
use Rattle.pv_differences.specs.Lines as difference
use Rattle.pv_differences.specs.Refuted as refuted
use Rattle.pv_differences.proofs.Cited.{no_equivalent, whole_finding}
use Rattle.pv_report.specs.Options.{Options}
use Rattle.pv_report.specs.declared.status.Status.{Status}
use Rattle.pv_report.specs.declared.status.Status.TheVariants as status
use Rattle.pv_report.specs.declared.verdict.Side.{Side}
use Rattle.pv_report.specs.declared.verdict.Side.TheVariants as side
use Rattle.pv_report.specs.declared.verdict.Verdict.{Verdict}
use Rattle.pv_report.specs.declared.verdict.Verdict.TheVariants.{Equivalent}
use Rattle.pv_report.specs.Lines.{fault_words, in_words, line_of, line_text, method_line, side_word, verdict_words}
use Rattle.pv_report.specs.Report.{IsBadPair, IsBadText, IsReport, Judged}
use Rattle.pv_report.specs.Verdicts.{IsVerdict}
use Rattle.pv_report.proofs.Cited.{AreOther, Lacks, bad_class_other, bad_class_whole, ends_other, known, least_meaning, number_other, only_equivalent, other_parts, whole_line, whole_words}
use Rattle.pv_sections.specs.declared.finding.Finding.{Finding}
use Rattle.pv_sections.specs.declared.finding.Finding.TheVariants as finding
use Rattle.pv_sections.specs.Findings.{IsFinding}
use Rattle.pv_sections.specs.Lines.{bad_certificate, flaw_words, section_line}
use Rattle.pv_sections.specs.Ruled.{IsCertReport, Ruled}
use Rattle.pv_sections.proofs.Cited.{accepted_meaning, bad_certificate_other, bad_certificate_whole, only_accepted, whole_section}
use Rattle.pv_sections.specs.declared.flaw.Flaw.{Flaw}
use Rattle.pv_links.specs.declared.finding.LinkFinding.{LinkFinding}
use Rattle.pv_links.specs.Composed.{Composed}
use Rattle.pv_links.specs.Findings as links
use Rattle.pv_links.specs.Lines.{bad_link_words, chain_flaw_words, link_line}
use Rattle.pv_links.specs.Stages.{ordinal_word}
use Rattle.pv_links.specs.Ruled.{ChainRuled, IsChainReport}
use Rattle.pv_links.proofs.Cited.{bad_chain_other, bad_chain_whole, bad_link_other, bad_link_whole, bad_stage_other, bad_stage_whole, equivalent_means, composed_other, composed_whole, only_link, whole_link}
use Rattle.pv_migrate.specs.Migrated.{Migrated}
use Rattle.pv_migrate.proofs.Cited.{migrated_other, migrated_whole}
use Rattle.pv_top.specs.Promise.{IsLineOf}
use Rattle.pv_top.specs.Words.{made_line}
use Rattle.pv_top.proofs.Files.{HoldsBoth, has_bytes}
use Rattle.pv_top.proofs.Saying.{IsTrueOf}
use Rattle.pv_top.proofs.WholeLines.{line_among, line_only}

-- a text is one line, which doesn't say `equivalent`
one_other : (held : Option Stored) (a b text said : List ℕ) → text ≡ line_text said → Lacks 10 said → ((front : List ℕ) → said ≡ front ++ codes " equivalent" → ⊥) → IsTrueOf held a b text
one_other held a b text said e whole other line l ends = absurd (other ends.0 (sym (line_only said line whole (subst (λ (t : List ℕ). IsLineOf t line) e l)) ∙ ends.1))

bad_text : (held : Option Stored) (a b bytes text : List ℕ) (s : Side) → IsBadText s bytes text → IsTrueOf held a b text
bad_text held a b bytes text s (f, bad, e) = one_other held a b text (in_words (codes "bad" ∷ codes "class" ∷ side_word s ∷ fault_words f)) e (bad_class_whole s f) (bad_class_other s f)

bad_pair : (held : Option Stored) (a b first second text : List ℕ) → IsBadPair first second text → IsTrueOf held a b text
bad_pair held a b first second text (inl bad) = bad_text held a b first text side.First bad
bad_pair held a b first second text (inr bad) = bad_text held a b second text side.Second bad.1

-- ---- a report

report_line : (held : Option Stored) (options : Options) (a b first second text : List ℕ) (verdicts : List Verdict) → HoldsBoth held a b first second → IsReport options first second verdicts text → IsTrueOf held a b text
report_line held options a b first second text verdicts h r line l ends =
    let found = line_among (IsVerdict options r.first r.second) line_of whole_line r.first.methods verdicts line r.each (subst (λ (t : List ℕ). IsLineOf t line) r.text_is l) in
    let m = found.thing in
    let is = only_equivalent m found.answer ends.0 (sym found.says ∙ ends.1) in
    let equal : IsVerdict options r.first r.second m Equivalent = subst (λ (v : Verdict). IsVerdict options r.first r.second m v) is found.is in
    let on = equal.2 in
    record {
      first = first;
      second = second;
      first_held = h.first_held;
      second_held = h.second_held;
      first_file = r.first;
      second_file = r.second;
      first_is = r.first_is;
      second_is = r.second_is;
      method = m;
      among = found.among;
      partner = equal.0;
      partner_is = equal.1;
      says = found.says ∙ ap (line_of m) is;
      equivalent = least_meaning r.first m r.second equal.0 on.0 on.1 on.2.1 equal.1.like.desc (has_bytes first r.first m h.first_bytes r.first_is found.among) (has_bytes second r.second equal.0 h.second_bytes r.second_is equal.1.among);
    }

pub judged_line : (held : Option Stored) (options : Options) (a b first second text : List ℕ) (s : Status) → HoldsBoth held a b first second → Judged options first second text s → IsTrueOf held a b text
judged_line held options a b first second text status.BadClass h bad = bad_pair held a b first second text bad
judged_line held options a b first second text status.AllEquivalent h (vs, r, is) = report_line held options a b first second text vs h r
judged_line held options a b first second text status.Others h (vs, r, is) = report_line held options a b first second text vs h r
judged_line held options a b first second text _ h (vs, r, is) = absurd is

-- ---- a report on a certificate

finding_line : (held : Option Stored) (a b first second cert text : List ℕ) (findings : List Finding) → HoldsBoth held a b first second → IsCertReport first second cert findings text → IsTrueOf held a b text
finding_line held a b first second cert text findings h r line l ends =
    let found = line_among (IsFinding r.certificate.lemmas r.first r.second) section_line whole_section r.certificate.sections findings line r.lines.each (subst (λ (t : List ℕ). IsLineOf t line) r.lines.text_is l) in
    let s = found.thing in
    let is = only_accepted s found.answer ends.0 (sym found.says ∙ ends.1) in
    let equal : IsFinding r.certificate.lemmas r.first r.second s (finding.Verdict Equivalent) = subst (λ (f : Finding). IsFinding r.certificate.lemmas r.first r.second s f) is found.is in
    let m = equal.0 in
    let p = equal.1 in
    let named = equal.2.named in
    let partner = equal.2.partner in
    record {
      first = first;
      second = second;
      first_held = h.first_held;
      second_held = h.second_held;
      first_file = r.first;
      second_file = r.second;
      first_is = r.first_is;
      second_is = r.second_is;
      method = m;
      among = named.among;
      partner = p;
      partner_is = partner;
      says = found.says ∙ ap (section_line s) is ∙ ap (λ (n : List ℕ). method_line n s.desc (verdict_words Equivalent)) (sym named.name_is) ∙ ap (λ (d : List ℕ). method_line m.name d (verdict_words Equivalent)) (sym named.desc_is);
      equivalent = accepted_meaning r.certificate.lemmas r.first m r.second p s equal.3 partner.like.desc (has_bytes first r.first m h.first_bytes r.first_is named.among) (has_bytes second r.second p h.second_bytes r.second_is partner.among);
    }

flaw_line : (held : Option Stored) (a b text : List ℕ) (f : Flaw) → text ≡ bad_certificate f → IsTrueOf held a b text
flaw_line held a b text f e = one_other held a b text (in_words (codes "bad" ∷ codes "certificate" ∷ flaw_words f)) e (bad_certificate_whole f) (bad_certificate_other f)

pub ruled_line : (held : Option Stored) (a b first second cert text : List ℕ) (s : Status) → HoldsBoth held a b first second → Ruled first second cert text s → IsTrueOf held a b text
ruled_line held a b first second cert text status.BadClass h bad = bad_pair held a b first second text bad
ruled_line held a b first second cert text status.BadCert h bad = flaw_line held a b text bad.2 bad.4
ruled_line held a b first second cert text status.AllEquivalent h (fs, r, is) = finding_line held a b first second cert text fs h r
ruled_line held a b first second cert text status.Others h (fs, r, is) = finding_line held a b first second cert text fs h r
ruled_line held a b first second cert text _ h (fs, r, is) = absurd is

-- ---- a composition

pub composed_line : (held : Option Stored) (a c first second third one two text : List ℕ) (s : Status) → Composed first second third one two text s → IsTrueOf held a c text
composed_line held a c first second third one two text status.BadClass (s, f, bad, e) = one_other held a c text (in_words (codes "bad" ∷ codes "class" ∷ ordinal_word s ∷ fault_words f)) e (bad_stage_whole s f) (bad_stage_other s f)
composed_line held a c first second third one two text status.BadCert (classes, (l, bad, e)) = one_other held a c text (in_words (codes "bad" ∷ codes "link" ∷ bad_link_words l)) e (bad_link_whole l) (bad_link_other l)
composed_line held a c first second third one two text status.AllEquivalent (made, e) = one_other held a c text (codes "composed") e composed_whole composed_other
composed_line held a c first second third one two text _ none = absurd none

-- ---- a report on a chain

links_line : (held : Option Stored) (a c first last chain text : List ℕ) (findings : List LinkFinding) → HoldsBoth held a c first last → IsChainReport first last chain findings text → IsTrueOf held a c text
links_line held a c first last chain text findings h r line l ends =
    let found = line_among (links.IsFinding (links.lemmas_of r.chain) r.first r.middle r.last) link_line whole_link (links.links r.chain.first.sections r.chain.second.sections) findings line r.lines.each (subst (λ (t : List ℕ). IsLineOf t line) r.lines.text_is l) in
    let x = found.thing in
    let is = only_link x found.answer ends.0 (sym found.says ∙ ends.1) in
    let equal = equivalent_means first last chain text findings r x h.first_bytes h.second_bytes (subst (λ (f : LinkFinding). links.IsFinding (links.lemmas_of r.chain) r.first r.middle r.last x f) is found.is) in
    let m = equal.0 in
    let named = equal.2 in
    record {
      first = first;
      second = last;
      first_held = h.first_held;
      second_held = h.second_held;
      first_file = r.first;
      second_file = r.last;
      first_is = r.first_is;
      second_is = r.last_is;
      method = m;
      among = named.among;
      partner = equal.1;
      partner_is = equal.3;
      says = found.says ∙ ap (link_line x) is ∙ ap (λ (n : List ℕ). method_line n x.0.desc (verdict_words Equivalent)) (sym named.name_is) ∙ ap (λ (d : List ℕ). method_line m.name d (verdict_words Equivalent)) (sym named.desc_is);
      equivalent = equal.4;
    }

pub chain_line : (held : Option Stored) (a c first last chain text : List ℕ) (s : Status) → HoldsBoth held a c first last → ChainRuled first last chain text s → IsTrueOf held a c text
chain_line held a c first last chain text status.BadClass h bad = bad_pair held a c first last text bad
chain_line held a c first last chain text status.BadCert h (one, two, (f, bad, e)) = one_other held a c text (in_words (codes "bad" ∷ codes "chain" ∷ chain_flaw_words f)) e (bad_chain_whole f) (bad_chain_other f)
chain_line held a c first last chain text status.AllEquivalent h (fs, r, is) = links_line held a c first last chain text fs h r
chain_line held a c first last chain text status.Others h (fs, r, is) = links_line held a c first last chain text fs h r
chain_line held a c first last chain text _ h (fs, r, is) = absurd is

-- ---- a certificate of version 1

pub migrated_true : (held : Option Stored) (a b old text : List ℕ) (s : Status) → Migrated old text s → IsTrueOf held a b text
migrated_true held a b old text status.AllEquivalent (c, is, e) = one_other held a b text (in_words (codes "migrated" ∷ decimal (length c.sections) ∷ codes "sections" ∷ [])) e (migrated_whole (length c.sections)) (migrated_other (length c.sections))
migrated_true held a b old text status.BadCert (f, bad, e) = flaw_line held a b text f e
migrated_true held a b old text _ none = absurd none

-- ---- a report on differences

-- no line of it says `equivalent`
difference_line : (held : Option Stored) (limits : RunLimits) (a b first second text : List ℕ) (findings : List Difference) → refuted.IsReport limits first second findings text → IsTrueOf held a b text
difference_line held limits a b first second text findings r line l ends =
    let found = line_among (differences.IsFinding limits r.first r.second) difference.line_of whole_finding r.first.methods findings line r.lines.each (subst (λ (t : List ℕ). IsLineOf t line) r.lines.text_is l) in
    absurd (no_equivalent found.thing found.answer ends.0 (sym found.says ∙ ends.1))

pub refuted_line : (held : Option Stored) (limits : RunLimits) (a b first second text : List ℕ) (s : Status) → refuted.Refuted limits first second text s → IsTrueOf held a b text
refuted_line held limits a b first second text status.BadClass bad = bad_pair held a b first second text bad
refuted_line held limits a b first second text status.AllEquivalent (fs, r, is) = difference_line held limits a b first second text fs r
refuted_line held limits a b first second text status.Others (fs, r, is) = difference_line held limits a b first second text fs r
refuted_line held limits a b first second text _ (fs, r, is) = absurd is

-- ---- two classes that were made

pub made_true : (held : Option Stored) (a b : List ℕ) (count : ℕ) (text : List ℕ) → text ≡ made_line count → IsTrueOf held a b text
made_true held a b count text e =
    let words : List (List ℕ) = decimal count ∷ codes "methods" ∷ [] in
    let other : AreOther words = (number_other count, (known (codes "methods") refl, tt)) in
    one_other held a b text (in_words (codes "made" ∷ words)) e (whole_words (codes "made" ∷ words) ((known (codes "made") refl).part, other_parts words other)) (λ front same. ends_other (codes "made") words front other same)
