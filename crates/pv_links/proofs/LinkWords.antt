-- The words of the lines on chains: no line feed is in them, and only one finding ends a line with ` equivalent`.
use Rattle.std.proofs.Common.{◌≡◌, ◌⊎◌, ℕ, ◌+◌, List, ◌∷◌, ◌++◌, length, inl, inr, refl, ap, subst, sym, ◌∙◌, arith, length-append}
use Rattle.std.specs.Prelude.{codes}
use Rattle.std.specs.List.{AllByRecursion}
use Rattle.pv_cert.specs.declared.cert.CertFault.{CertFault}
use Rattle.pv_cert.specs.declared.cert.CertFault.TheVariants as cert_fault
use Rattle.pv_chain.specs.declared.chain.ChainFault.{ChainFault}
use Rattle.pv_chain.specs.declared.chain.ChainFault.TheVariants as chain_fault
use Rattle.pv_class.specs.declared.fault.ClassFault.{ClassFault}
use Rattle.pv_class.specs.declared.fault.ClassFault.TheVariants as fault
use Rattle.pv_class.specs.declared.fault.PoolWord.{PoolWord}
use Rattle.pv_class.specs.declared.fault.PoolWord.TheVariants as pool
use Rattle.pv_frame.specs.declared.cause.Cause.{Cause}
use Rattle.pv_report.specs.declared.verdict.Side.{Side}
use Rattle.pv_report.specs.declared.verdict.Side.TheVariants as side
use Rattle.pv_report.specs.declared.verdict.Verdict.TheVariants as verdict
use Rattle.pv_report.specs.Lines.{fault_words, in_words, kind_word, pool_word, word_at}
use Rattle.pv_report.proofs.Cited.{AreOther, AreParts, IsOther, Lacks, ends_other, known, method_other, number_other, other_parts, side_other, verdict_other, verdict_parts, whole_method, whole_words}
use Rattle.pv_sections.specs.Lines.{cert_fault_words}
use Rattle.pv_links.specs.declared.finding.LinkFinding.{LinkFinding}
use Rattle.pv_links.specs.declared.finding.LinkFinding.TheVariants.{Missing, NoCode, Refused, Rejected, Equivalent}
use Rattle.pv_links.specs.declared.flaw.TextFlaw.{TextFlaw}
use Rattle.pv_links.specs.declared.flaw.TextFlaw.TheVariants as text_flaw
use Rattle.pv_links.specs.declared.flaw.BadLink.{BadLink}
use Rattle.pv_links.specs.declared.flaw.BadLink.TheVariants as link
use Rattle.pv_links.specs.declared.flaw.ChainFlaw.{ChainFlaw}
use Rattle.pv_links.specs.declared.flaw.ChainFlaw.TheVariants as chain
use Rattle.pv_links.specs.declared.stage.Stage.{Stage}
use Rattle.pv_links.specs.declared.stage.Stage.TheVariants as stage
use Rattle.pv_links.specs.Findings.{Link}
use Rattle.pv_links.specs.Lines.{bad_link_words, chain_fault_words, chain_flaw_words, finding_words, link_line, link_word, text_flaw_words}
use Rattle.pv_links.specs.Stages.{ordinal_word, stage_word}

-- ---- findings

stage_other : (s : Stage) → IsOther (stage_word s)
stage_other stage.First = known (codes "first") refl
stage_other stage.Middle = known (codes "middle") refl
stage_other stage.Last = known (codes "second") refl

cause_other : (cause : Cause) → AllByRecursion IsOther (word_at (kind_word cause.kind) cause.at)
cause_other cause =
    elim (verdict_other (verdict.Refused side.First cause)) [
      | inl e ↦ absurd (cc e)
      | inr all ↦ all.1.1
    ]

finding_other : (f : LinkFinding) → (f ≡ Equivalent) ⊎ AreOther (finding_words f)
finding_other Missing = inr (known (codes "missing") refl, tt)
finding_other (NoCode s) = inr (known (codes "nocode") refl, (stage_other s, tt))
finding_other (Refused s cause) = inr (known (codes "refused") refl, (stage_other s, cause_other cause))
finding_other (Rejected s n) = inr (known (codes "rejected") refl, (side_other s, (number_other n, tt)))
finding_other Equivalent = inl refl

finding_parts : (f : LinkFinding) → AreParts (finding_words f)
finding_parts f =
    elim (finding_other f) [
      | inl e ↦ subst (λ (x : LinkFinding). AreParts (finding_words x)) (sym e) (verdict_parts verdict.Equivalent)
      | inr all ↦ other_parts (finding_words f) all
    ]

pub whole_link : (l : Link) (f : LinkFinding) → Lacks 10 (link_line l f)
whole_link l f = whole_method l.0.name l.0.desc (finding_words f) (finding_parts f)

pub only_link : (l : Link) (f : LinkFinding) (front : List ℕ) → link_line l f ≡ front ++ codes " equivalent" → f ≡ Equivalent
only_link l f front e =
    elim (finding_other f) [
      | inl is ↦ is
      | inr all ↦ absurd (method_other l.0.name l.0.desc (finding_words f) front all e)
    ]

-- ---- one line

-- a line of words of which none is `equivalent`
whole_other : (one two : List ℕ) (words : List (List ℕ)) → IsOther one → IsOther two → AreOther words → Lacks 10 (in_words (one ∷ two ∷ words))
whole_other one two words p q all = whole_words (one ∷ two ∷ words) (p.part, (q.part, other_parts words all))

chain_fault_other : (f : ChainFault) → AreOther (chain_fault_words f)
chain_fault_other chain_fault.Truncated = (known (codes "truncated") refl, tt)
chain_fault_other chain_fault.Header = (known (codes "header") refl, tt)
chain_fault_other chain_fault.First = (known (codes "first") refl, tt)
chain_fault_other chain_fault.Second = (known (codes "second") refl, tt)
chain_fault_other chain_fault.Memory = (known (codes "out") refl, (known (codes "of") refl, (known (codes "memory") refl, tt)))

chain_flaw_other : (f : ChainFlaw) → AreOther (chain_flaw_words f)
chain_flaw_other chain.TooLong = (known (codes "too-long") refl, tt)
chain_flaw_other (chain.Unread f) = chain_fault_other f
chain_flaw_other chain.Digest = (known (codes "digest") refl, tt)

pub bad_chain_whole : (f : ChainFlaw) → Lacks 10 (in_words (codes "bad" ∷ codes "chain" ∷ chain_flaw_words f))
bad_chain_whole f = whole_other (codes "bad") (codes "chain") (chain_flaw_words f) (known (codes "bad") refl) (known (codes "chain") refl) (chain_flaw_other f)

pub bad_chain_other : (f : ChainFlaw) (front : List ℕ) → in_words (codes "bad" ∷ codes "chain" ∷ chain_flaw_words f) ≡ front ++ codes " equivalent" → ⊥
bad_chain_other f front e = ends_other (codes "bad chain") (chain_flaw_words f) front (chain_flaw_other f) e

cert_fault_other : (f : CertFault) → AllByRecursion IsOther (cert_fault_words f)
cert_fault_other cert_fault.Truncated = (known (codes "truncated") refl, tt)
cert_fault_other cert_fault.Header = (known (codes "header") refl, tt)
cert_fault_other (cert_fault.Step n) = (known (codes "line") refl, (number_other n, tt))
cert_fault_other cert_fault.Memory = (known (codes "out") refl, (known (codes "of") refl, (known (codes "memory") refl, tt)))

text_flaw_other : (f : TextFlaw) → AllByRecursion IsOther (text_flaw_words f)
text_flaw_other text_flaw.TooLong = (known (codes "too-long") refl, tt)
text_flaw_other (text_flaw.Unread f) = cert_fault_other f

link_word_other : (s : Side) → IsOther (link_word s)
link_word_other side.First = known (codes "1") refl
link_word_other side.Second = known (codes "2") refl

bad_link_words_other : (l : BadLink) → AreOther (bad_link_words l)
bad_link_words_other (link.Text s f) = (link_word_other s, text_flaw_other f)
bad_link_words_other (link.Digest s) = (link_word_other s, (known (codes "digest") refl, tt))

pub bad_link_whole : (l : BadLink) → Lacks 10 (in_words (codes "bad" ∷ codes "link" ∷ bad_link_words l))
bad_link_whole l = whole_other (codes "bad") (codes "link") (bad_link_words l) (known (codes "bad") refl) (known (codes "link") refl) (bad_link_words_other l)

pub bad_link_other : (l : BadLink) (front : List ℕ) → in_words (codes "bad" ∷ codes "link" ∷ bad_link_words l) ≡ front ++ codes " equivalent" → ⊥
bad_link_other l front e = ends_other (codes "bad link") (bad_link_words l) front (bad_link_words_other l) e

pool_other : (w : PoolWord) → IsOther (pool_word w)
pool_other pool.Tag = known (codes "pool-tag") refl
pool_other pool.Utf8 = known (codes "pool-utf8") refl
pool_other pool.Reference = known (codes "pool-reference") refl

at_other : (word : List ℕ) (at : ℕ) → IsOther word → AllByRecursion IsOther (word_at word at)
at_other word at is = (is, (known (codes "at") refl, (number_other at, tt)))

fault_other : (f : ClassFault) → AllByRecursion IsOther (fault_words f)
fault_other (fault.Truncated at) = at_other (codes "truncated") at (known (codes "truncated") refl)
fault_other (fault.Magic at) = at_other (codes "magic") at (known (codes "magic") refl)
fault_other (fault.Version at) = at_other (codes "version") at (known (codes "version") refl)
fault_other (fault.Pool w at) = at_other (pool_word w) at (pool_other w)
fault_other (fault.Descriptor at) = at_other (codes "descriptor") at (known (codes "descriptor") refl)
fault_other (fault.Code at) = at_other (codes "code") at (known (codes "code") refl)
fault_other (fault.Duplicate at) = at_other (codes "duplicate") at (known (codes "duplicate") refl)
fault_other (fault.Trailing at) = at_other (codes "trailing") at (known (codes "trailing") refl)
fault_other (fault.TooLong at) = at_other (codes "too-long") at (known (codes "too-long") refl)
fault_other fault.Memory = (known (codes "out") refl, (known (codes "of") refl, (known (codes "memory") refl, tt)))

ordinal_other : (s : Stage) → IsOther (ordinal_word s)
ordinal_other stage.First = known (codes "first") refl
ordinal_other stage.Middle = known (codes "second") refl
ordinal_other stage.Last = known (codes "third") refl

pub bad_stage_whole : (s : Stage) (f : ClassFault) → Lacks 10 (in_words (codes "bad" ∷ codes "class" ∷ ordinal_word s ∷ fault_words f))
bad_stage_whole s f = whole_other (codes "bad") (codes "class") (ordinal_word s ∷ fault_words f) (known (codes "bad") refl) (known (codes "class") refl) (ordinal_other s, fault_other f)

pub bad_stage_other : (s : Stage) (f : ClassFault) (front : List ℕ) → in_words (codes "bad" ∷ codes "class" ∷ ordinal_word s ∷ fault_words f) ≡ front ++ codes " equivalent" → ⊥
bad_stage_other s f front e = ends_other (codes "bad class") (ordinal_word s ∷ fault_words f) front (ordinal_other s, fault_other f) e

pub composed_whole : Lacks 10 (codes "composed")
composed_whole = (known (codes "composed") refl).part.feed

pub composed_other : (front : List ℕ) → codes "composed" ≡ front ++ codes " equivalent" → ⊥
composed_other front e = absurd (let long : length (codes "composed") ≡ length front + length (codes " equivalent") = ap length e ∙ length-append front (codes " equivalent") in omega (arith, long))
