-- The lines on chains.
use Rattle.std.specs.Prelude.{ℕ, List, [], ◌∷◌, codes, decimal}
use Rattle.pv_class.specs.declared.fault.ClassFault.{ClassFault}
use Rattle.pv_chain.specs.declared.chain.ChainFault.{ChainFault}
use Rattle.pv_chain.specs.declared.chain.ChainFault.TheVariants as fault
use Rattle.pv_report.specs.declared.verdict.Side.{Side}
use Rattle.pv_report.specs.declared.verdict.Side.TheVariants as side
use Rattle.pv_report.specs.Lines.{fault_words, in_words, kind_word, line_text, method_line, side_word, word_at}
use Rattle.pv_sections.specs.Lines.{cert_fault_words}
use Rattle.pv_links.specs.declared.finding.LinkFinding.{LinkFinding}
use Rattle.pv_links.specs.declared.finding.LinkFinding.TheVariants.{Missing, NoCode, Refused, Rejected, Equivalent}
use Rattle.pv_links.specs.declared.flaw.TextFlaw.{TextFlaw}
use Rattle.pv_links.specs.declared.flaw.TextFlaw.TheVariants as text_flaw
use Rattle.pv_links.specs.declared.flaw.BadLink.{BadLink}
use Rattle.pv_links.specs.declared.flaw.BadLink.TheVariants as link
use Rattle.pv_links.specs.declared.flaw.ChainFlaw.{ChainFlaw}
use Rattle.pv_links.specs.declared.flaw.ChainFlaw.TheVariants as chain
use Rattle.pv_links.specs.declared.stage.Stage.{Stage}
use Rattle.pv_links.specs.Findings.{Link}
use Rattle.pv_links.specs.Stages.{ordinal_word, stage_word}

-- ---- where a chain is made

-- one of three files that has no reading, with its fault
abbrev pub bad_stage : Stage → ClassFault → List ℕ
bad_stage s f = line_text (in_words (codes "bad" ∷ codes "class" ∷ ordinal_word s ∷ fault_words f))

-- the first or the second certificate
abbrev pub link_word : Side → List ℕ
link_word side.First = codes "1"
link_word side.Second = codes "2"

abbrev pub text_flaw_words : TextFlaw → List (List ℕ)
text_flaw_words text_flaw.TooLong = codes "too-long" ∷ []
text_flaw_words (text_flaw.Unread f) = cert_fault_words f

abbrev pub bad_link_words : BadLink → List (List ℕ)
bad_link_words (link.Text s f) = link_word s ∷ text_flaw_words f
bad_link_words (link.Digest s) = link_word s ∷ codes "digest" ∷ []

-- the line on certificates that are no links
abbrev pub bad_link : BadLink → List ℕ
bad_link l = line_text (in_words (codes "bad" ∷ codes "link" ∷ bad_link_words l))

abbrev pub composed : List ℕ
composed = line_text (codes "composed")

-- ---- where a chain is checked

-- no text is answered out of memory
abbrev pub chain_fault_words : ChainFault → List (List ℕ)
chain_fault_words fault.Truncated = codes "truncated" ∷ []
chain_fault_words fault.Header = codes "header" ∷ []
chain_fault_words fault.First = codes "first" ∷ []
chain_fault_words fault.Second = codes "second" ∷ []
chain_fault_words fault.Memory = codes "out" ∷ codes "of" ∷ codes "memory" ∷ []

abbrev pub chain_flaw_words : ChainFlaw → List (List ℕ)
chain_flaw_words chain.TooLong = codes "too-long" ∷ []
chain_flaw_words (chain.Unread f) = chain_fault_words f
chain_flaw_words chain.Digest = codes "digest" ∷ []

-- the line on a chain that is not one for the two files
abbrev pub bad_chain : ChainFlaw → List ℕ
bad_chain f = line_text (in_words (codes "bad" ∷ codes "chain" ∷ chain_flaw_words f))

abbrev pub finding_words : LinkFinding → List (List ℕ)
finding_words Missing = codes "missing" ∷ []
finding_words (NoCode s) = codes "nocode" ∷ stage_word s ∷ []
finding_words (Refused s cause) = codes "refused" ∷ stage_word s ∷ word_at (kind_word cause.kind) cause.at
finding_words (Rejected s k) = codes "rejected" ∷ side_word s ∷ decimal k ∷ []
finding_words Equivalent = codes "equivalent" ∷ []

-- what is said of a link, without the line feed
abbrev pub link_line : Link → LinkFinding → List ℕ
link_line link f = method_line link.0.name link.0.desc (finding_words f)
