-- Each text is the spelling of one chain at most, or has one fault at most.
use Rattle.std.proofs.Common.{◌≡◌, ◌⊎◌, ℕ, List, Some, None, Result, Ok, Err, refl, sym, ap, subst, ◌∙◌, inl, inr}
use Rattle.pv_format.specs.Splits.{text_of}
use Rattle.pv_cert.specs.declared.cert.Version.TheVariants.{Two}
use Rattle.pv_cert.specs.declared.cert.Cert.{Cert}
use Rattle.pv_cert.specs.declared.cert.CertFault.{CertFault}
use Rattle.pv_cert.specs.declared.cert.CertFault.TheVariants as cert_fault
use Rattle.pv_cert.specs.BadCerts.{BadCert, IsCut}
use Rattle.pv_cert.specs.Answers as cert
use Rattle.pv_cert.proofs.Cited as cert_laws
use Rattle.pv_chain.specs.declared.chain.Chain.{Chain}
use Rattle.pv_chain.specs.declared.chain.ChainFault.{ChainFault}
use Rattle.pv_chain.specs.declared.chain.ChainFault.TheVariants as fault
use Rattle.pv_chain.specs.declared.parts.Parts.{Parts as Held}
use Rattle.pv_chain.specs.Answers.{IsAnswer, UnlessMemory, Answers, Tells}
use Rattle.pv_chain.specs.BadChains.{BadChain, IsCertText, IsHeaded, IsNoCert, Parts}
use Rattle.pv_chain.specs.Chains.{spelled}
use Rattle.pv_chain.specs.FedReading.{IsEnded}
use Rattle.pv_chain.specs.Laws.{SpelledOnce, FaultsOnce}
use Rattle.pv_chain.specs.Reading.{AreParts, IsCertOr, Texts}
use Rattle.pv_chain.proofs.Parted.{chain_ended, chain_fits, chain_headed, chain_of, parts_for, parts_once}

-- ---- certificates

no_both : (text : List ℕ) (c : Cert) → IsCertText text c → IsNoCert text → ⊥
no_both text c is (f, bad) = cert_laws.faults_once.none Two c f is.0 (subst (λ (t : List ℕ). BadCert Two t f) is.1 bad)

one_cert : (text : List ℕ) (c d : Cert) → IsCertText text c → IsCertText text d → c ≡ d
one_cert text c d is other = cert_laws.spelled_once Two c d is.0 other.0 (sym is.1 ∙ other.1)

-- ---- how far reading comes, and to what

data Comes (text : List ℕ) (answer : Result Chain ChainFault) : Type 0 where
  cut_off : IsCut text → answer ≡ Err fault.Truncated → Comes text answer
  to_head : IsEnded text → ((p : Parts) → IsHeaded text p → ⊥) → answer ≡ Err fault.Header → Comes text answer
  to_first : IsEnded text → (p : Parts) → IsHeaded text p → IsNoCert (text_of p.lines) → answer ≡ Err fault.First → Comes text answer
  to_second : IsEnded text → (p : Parts) → IsHeaded text p → (c : Cert) → IsCertText (text_of p.lines) c → IsNoCert p.second → answer ≡ Err fault.Second → Comes text answer
  to_end : IsEnded text → (p : Parts) → IsHeaded text p → (c : Cert) → IsCertText (text_of p.lines) c → (d : Cert) → IsCertText p.second d → answer ≡ Ok (chain_of p c d) → Comes text answer

is_comes : (text : List ℕ) (answer : Result Chain ChainFault) → IsAnswer text answer → Comes text answer
is_comes text (Ok c) (fits, e) =
    to_end (subst IsEnded (sym e) (chain_ended c)) (parts_for c) (subst (λ (t : List ℕ). IsHeaded t (parts_for c)) (sym e) (chain_headed c fits)) c.first (fits.first, refl) c.second (fits.second, refl) refl
is_comes text (Err fault.Truncated) bad = cut_off bad refl
is_comes text (Err fault.Header) (ended, none) = to_head ended none refl
is_comes text (Err fault.First) (ended, (p, h, none)) = to_first ended p h none refl
is_comes text (Err fault.Second) (ended, (p, h, c, none)) = to_second ended p h c.0 c.1 none refl
is_comes text (Err fault.Memory) bad = absurd bad

comes_ended : (text : List ℕ) (a : Result Chain ChainFault) → Comes text a → (a ≡ Err fault.Truncated) ⊎ IsEnded text
comes_ended text a (cut_off h e) = inl e
comes_ended text a (to_head ended none e) = inr ended
comes_ended text a (to_first ended p h none e) = inr ended
comes_ended text a (to_second ended p h c is none e) = inr ended
comes_ended text a (to_end ended p h c is d js e) = inr ended

-- the parts are the same
moved : (text : List ℕ) (p q : Parts) (P : Parts → Type 0) → IsHeaded text p → IsHeaded text q → P p → P q
moved text p q P h k is = subst P (parts_once text p q h.parts k.parts) is

comes_once : (text : List ℕ) (a b : Result Chain ChainFault) → Comes text a → Comes text b → a ≡ b
comes_once text a b (cut_off cut e) y =
    elim (comes_ended text b y) [
      | inl f ↦ e ∙ sym f
      | inr ended ↦ absurd (cut ended.0 ended.1)
    ]
comes_once text a b x (cut_off cut f) =
    elim (comes_ended text a x) [
      | inl e ↦ e ∙ sym f
      | inr ended ↦ absurd (cut ended.0 ended.1)
    ]
comes_once text a b (to_head _ none e) (to_head _ _ f) = e ∙ sym f
comes_once text a b (to_head _ none e) (to_first _ q k _ f) = absurd (none q k)
comes_once text a b (to_head _ none e) (to_second _ q k _ _ _ f) = absurd (none q k)
comes_once text a b (to_head _ none e) (to_end _ q k _ _ _ _ f) = absurd (none q k)
comes_once text a b (to_first _ p h _ e) (to_head _ none f) = absurd (none p h)
comes_once text a b (to_second _ p h _ _ _ e) (to_head _ none f) = absurd (none p h)
comes_once text a b (to_end _ p h _ _ _ _ e) (to_head _ none f) = absurd (none p h)
comes_once text a b (to_first _ p h none e) (to_first _ q k _ f) = e ∙ sym f
comes_once text a b (to_first _ p h none e) (to_second _ q k c is _ f) = absurd (no_both (text_of q.lines) c is (moved text p q (λ (x : Parts). IsNoCert (text_of x.lines)) h k none))
comes_once text a b (to_first _ p h none e) (to_end _ q k c is _ _ f) = absurd (no_both (text_of q.lines) c is (moved text p q (λ (x : Parts). IsNoCert (text_of x.lines)) h k none))
comes_once text a b (to_second _ p h c is _ e) (to_first _ q k none f) = absurd (no_both (text_of p.lines) c is (moved text q p (λ (x : Parts). IsNoCert (text_of x.lines)) k h none))
comes_once text a b (to_end _ p h c is _ _ e) (to_first _ q k none f) = absurd (no_both (text_of p.lines) c is (moved text q p (λ (x : Parts). IsNoCert (text_of x.lines)) k h none))
comes_once text a b (to_second _ p h _ _ none e) (to_second _ q k _ _ _ f) = e ∙ sym f
comes_once text a b (to_second _ p h _ _ none e) (to_end _ q k _ _ d is f) = absurd (no_both q.second d is (moved text p q (λ (x : Parts). IsNoCert x.second) h k none))
comes_once text a b (to_end _ p h _ _ d is e) (to_second _ q k _ _ none f) = absurd (no_both p.second d is (moved text q p (λ (x : Parts). IsNoCert x.second) k h none))
comes_once text a b (to_end _ p h c is d js e) (to_end _ q k c' is' d' js' f) =
    let one = one_cert (text_of q.lines) c c' (moved text p q (λ (x : Parts). IsCertText (text_of x.lines) c) h k is) is' in
    let two = one_cert q.second d d' (moved text p q (λ (x : Parts). IsCertText x.second d) h k js) js' in
    e ∙ ap (λ (x : Parts). Ok (chain_of x c d)) (parts_once text p q h.parts k.parts) ∙ ap (λ (x : Cert). Ok (chain_of q x d)) one ∙ ap (λ (x : Cert). Ok (chain_of q c' x)) two ∙ sym f

pub answer_once : (text : List ℕ) (a b : Result Chain ChainFault) → IsAnswer text a → IsAnswer text b → a ≡ b
answer_once text a b is other = comes_once text a b (is_comes text a is) (is_comes text b other)

-- ---- laws

pub spelled_once : SpelledOnce
spelled_once c d fits other e = let both = answer_once (spelled c) (Ok c) (Ok d) (fits, refl) (other, e) in cc both

pub faults_once : FaultsOnce
faults_once = record {
  one = λ text e f p q. let both = answer_once text (Err e) (Err f) p q in cc both;
  none = λ c f fits bad. absurd (let both = answer_once (spelled c) (Ok c) (Err f) (fits, refl) bad in cc both);
}

-- ---- what is read

pub certificate : (text : List ℕ) (c : Cert) → cert.Answers Two text (Ok c) → IsCertOr text (Some c)
certificate text c is = is

pub no_certificate : (text : List ℕ) (f : CertFault) → (f ≡ cert_fault.Memory → ⊥) → cert.Answers Two text (Err f) → IsCertOr text None
no_certificate text cert_fault.Memory has is = absurd (has refl)
no_certificate text f has is = (f, is)

unless : (P : Type 0) (r : Result Chain ChainFault) → P → UnlessMemory r P
unless P (Err fault.Memory) h = tt
unless P r h = h

pub exact_of : (text : List ℕ) (r : Result Chain ChainFault) → IsAnswer text r → Answers text r
exact_of text r is = unless (IsAnswer text r) r is

pub only_of : (text : List ℕ) (r : Result Chain ChainFault) → IsAnswer text r → Tells text r
only_of text r is answer other = unless (r ≡ answer) r (answer_once text r answer is other)

pub bad_first : (text : List ℕ) (h : Held) → IsEnded text → AreParts text (Some h) → IsNoCert h.first.now → BadChain text fault.First
bad_first text h ended (p, headed, same) none = (ended, (p, headed, subst IsNoCert (ap (λ (t : Texts). t.1.0) same) none))

pub bad_second : (text : List ℕ) (h : Held) (c : Cert) → IsEnded text → AreParts text (Some h) → IsCertText h.first.now c → IsNoCert h.second.now → BadChain text fault.Second
bad_second text h c ended (p, headed, same) is none =
    (ended, (p, headed, (c, subst (λ (t : List ℕ). IsCertText t c) (ap (λ (t : Texts). t.1.0) same) is), subst IsNoCert (ap (λ (t : Texts). t.1.1) same) none))

pub good : (text : List ℕ) (h : Held) (c d : Cert) (middle : List ℕ) → AreParts text (Some h) → middle ≡ h.middle.items → IsCertText h.first.now c → IsCertText h.second.now d → IsAnswer text (Ok (record { middle = middle; first = c; second = d }))
good text h c d middle (p, headed, same) e is js =
    let fits = chain_fits text p c d headed (subst (λ (t : List ℕ). IsCertText t c) (ap (λ (t : Texts). t.1.0) same) is) (subst (λ (t : List ℕ). IsCertText t d) (ap (λ (t : Texts). t.1.1) same) js) in
    let one : p.middle ≡ middle = sym (e ∙ ap (λ (t : Texts). t.0) same) in
    subst (λ (m : List ℕ). IsAnswer text (Ok (record { middle = m; first = c; second = d }))) one fits
