-- The certificate for two files that were fetched.
use Rattle.std.proofs.Common.{◌≡◌, ◌↔◌, true, List, ℕ, [], ◌∷◌, Option, Some, None, Result, Ok, Err, refl, subst, sym}
use Rattle.std.specs.Global.{Vec}
use Rattle.std.specs.Prelude.{IfOk}
use Rattle.std.specs.List.{AllByRecursion, AllZip}
use Rattle.pv_cert.specs.declared.cert.Cert.{Cert}
use Rattle.pv_cert.specs.declared.cert.Section.{Section}
use Rattle.pv_cert.specs.declared.cert.Version.TheVariants.{Two}
use Rattle.pv_cert.specs.Certificates.{header, spelled}
use Rattle.pv_cert.specs.Reading.{LemmasFit, MayBeIn, SectionFits, in_section}
use Rattle.pv_steps.specs.declared.step.Lemma.{Lemma}
use Rattle.pv_steps.specs.declared.step.Step.{Step}
use Rattle.pv_value.specs.declared.memory.Memory.{Memory}
use Rattle.pv_class.specs.declared.file.Method.{Method}
use Rattle.pv_class.specs.declared.file.ClassFile.{ClassFile}
use Rattle.pv_report.specs.Options.{Limits}
use Rattle.pv_report.specs.declared.pair.Fetched.{Fetched}
use Rattle.pv_report.specs.Judging.{IsFetched}
use Rattle.pv_report.specs.Proving.{ShowsFetched}
use Rattle.pv_report.specs.Shown.{AreShown, IsSectionOf, equivalent_of}
use Rattle.pv_sections.specs.Certified.{CertifiesFetched, HasTextFor, IsCertificateFor, IsTextFor}
use Rattle.pv_sections.specs.Reading.{IsDigestOf}
use Rattle.pv_sections.proofs.Rulings.{digest_is}

-- each section that is shown has a spelling
all_fit : (first second : ClassFile) (methods : List Method) (sections : List Section) → AllZip (IsSectionOf first second) methods sections → AllByRecursion SectionFits sections
all_fit first second [] [] all = tt
all_fit first second (m ∷ methods) (s ∷ sections) all = (all.0.fits, all_fit first second methods sections all.1)
all_fit first second _ _ all = absurd all

-- .. in version 2, where any step may be in a section
each_may : (steps : List Step) → AllByRecursion (λ (s : Step). in_section Two s ≡ true) steps
each_may [] = tt
each_may (s ∷ steps) = (refl, each_may steps)

all_may : (sections : List Section) → AllByRecursion (MayBeIn Two) sections
all_may [] = tt
all_may (s ∷ sections) = (each_may s.steps, all_may sections)

pub certifies : (limits : Limits) (first second : Fetched) (sections : List Section) (text : List ℕ) → ShowsFetched limits first second (Some sections) → IsTextFor first second sections text
    → (a b : List ℕ) → IsFetched first a → IsFetched second b → IsCertificateFor limits a b text
certifies limits first second sections text shows is a b p q =
    let shown = shows a b p q in
    let c = is.certificate in
    let there : AreShown limits a b c.sections = subst (AreShown limits a b) (sym is.sections_are) shown in
    record {
      certificate = c;
      fits = record {
        digests = is.digests;
        body_ = record {
          lemmas_ = subst (λ (lemmas : List Lemma). LemmasFit 1 lemmas) (sym is.no_lemmas) tt;
          sections_ = all_fit there.first there.second (equivalent_of there.first.methods there.verdicts) c.sections there.sections_are;
          may_have = tt;
          may = all_may c.sections;
        };
      };
      spelled_ = is.spelled_;
      names_first = digest_is first c.first a is.first_is p there.first_is.small;
      names_second = digest_is second c.second b is.second_is q there.second_is.small;
      no_lemmas = is.no_lemmas;
      shown = there;
    }

-- the text that is written
pub text_is : (first second : Fetched) (sections : List Section) (c : Cert) (r : Result (Vec ℕ) Memory) → (header Two).fits (c.first, c.second) → IsDigestOf first c.first → IsDigestOf second c.second → c.lemmas ≡ [] → c.sections ≡ sections → IfOk r (λ text. text.items ≡ spelled Two c)
    → IfOk r (λ text. IsTextFor first second sections text.items)
text_is first second sections c (Ok text) fits p q none same is = record { certificate = c; digests = fits; spelled_ = is; first_is = p; second_is = q; no_lemmas = none; sections_are = same }
text_is first second sections c (Err e) fits p q none same is = tt

-- where there are sections
pub certifies_fetched : (limits : Limits) (first second : Fetched) (sections : Option (List Section)) (text : Option (Vec ℕ)) → ShowsFetched limits first second sections → HasTextFor first second sections text → CertifiesFetched limits first second text
certifies_fetched limits first second None None shows has = tt
certifies_fetched limits first second (Some sections) (Some text) shows has = certifies limits first second sections text.items shows has
certifies_fetched limits first second None (Some text) shows has = absurd has
certifies_fetched limits first second (Some sections) None shows has = absurd has

pub no_text : (first second : Fetched) (sections : Option (List Section)) (text : Option (Vec ℕ)) (A : Type 0) → HasTextFor first second sections text → (sections ≡ None) ↔ A → (text ≡ None) ↔ A
no_text first second None None A has same = (λ e. same.0 refl, λ a. refl)
no_text first second (Some sections) (Some text) A has same = (λ e. absurd (cc e), λ a. absurd (let e = same.1 a in cc e))
no_text first second None (Some text) A has same = absurd has
no_text first second (Some sections) None A has same = absurd has
