use Rattle.std.proofs.Common.{◌≡◌, ◌≢◌, ◌≤◌, List, ℕ, Err, length, refl, subst, ◌∙◌, arith}
use Rattle.std.specs.Global.{Vec}
use Rattle.pv_chain.specs.declared.chain.ChainFault.{ChainFault}
use Rattle.pv_chain.specs.declared.chain.ChainFault.TheVariants as fault
use Rattle.pv_chain.specs.Answers.{Answers}
use Rattle.pv_chain.specs.BadChains.{BadChain}
use Rattle.pv_report.specs.declared.pair.Fetched.{Fetched}
use Rattle.pv_report.specs.declared.pair.Fetched.TheVariants.{Bytes}
use Rattle.pv_report.specs.Judging.{IsFetchedWithin}
use Rattle.pv_links.specs.declared.chain.TheConstants.{LONGEST_CHAIN}
use Rattle.pv_links.proofs.chain.chain_in.Goals as goal

-- with memory, the fault is that of the text
bad_text : (text : List ℕ) (f : ChainFault) → f ≢ fault.Memory → Answers text (Err f) → BadChain text f
bad_text text fault.Memory has h = absurd (has refl)
bad_text text _ has h = h

unread : (fetched : Fetched) (v : Vec ℕ) (now : List ℕ) (f : ChainFault) → fetched ≡ Bytes v → now ≡ v.items → length now ≤ LONGEST_CHAIN → f ≢ fault.Memory → Answers now (Err f) → (text : List ℕ) → IsFetchedWithin LONGEST_CHAIN fetched text → (length text ≤ LONGEST_CHAIN) × BadChain text f
unread fetched v now f e same short has bad text is =
    let all : now ≡ text = same ∙ subst (λ (x : Fetched). IsFetchedWithin LONGEST_CHAIN x text) e is in
    (subst (λ (t : List ℕ). length t ≤ LONGEST_CHAIN) all short, subst (λ (t : List ℕ). BadChain t f) all (bad_text now f has bad))

pub returns-in_default-fault-clause-reads : goal.returns-in_default-fault-clause-reads
returns-in_default-fault-clause-reads c = λ text is a d. unread c.args.fetched.now c.in-Bytes.text c.deref.result.now c.in-Err.fault c.in-Bytes.is c.deref.ensures.value (omega (arith, c.if-len-gt-LONGEST_CHAIN.false, c.len.ensures, c.deref.ensures.len)) c.in_default-fault.not-Memory c.in-Err.ensures.exact text is
