-- What the report on a chain says of two sections that are both accepted.
use Rattle.std.proofs.Common.{◌≡◌, ℕ, zero, suc, Bool, true, List, [], ◌∷◌, ◌++◌, Option, Some, refl, sym, ap, subst, ◌∙◌, arith, inl, inr}
use Rattle.std.specs.Prelude.{find, slice_get, option_map, option_to_list}
use Rattle.std.specs.Str.{bytes_eq}
use Rattle.std.specs.List.{AllZip}
use Rattle.std.proofs.lemmas.Bool.{and_parts, cases_Bool, cond-true, cond-false}
use Rattle.std.proofs.lemmas.Slice.Eq.{bytes_eq-Decides}
use Rattle.pv_base.specs.Stored.{AreBytes}
use Rattle.pv_class.specs.declared.file.ClassFile.{ClassFile}
use Rattle.pv_class.specs.ClassFiles.{IsClass}
use Rattle.pv_cert.specs.declared.cert.Cert.{Cert}
use Rattle.pv_cert.specs.declared.cert.Section.{Section}
use Rattle.pv_chain.specs.declared.chain.Chain.{Chain}
use Rattle.pv_chain.specs.BadChains.{BadChain}
use Rattle.pv_chain.proofs.Cited as chain
use Rattle.pv_report.specs.declared.status.Status.{Status}
use Rattle.pv_report.specs.declared.status.Status.TheVariants as status
use Rattle.pv_report.specs.declared.verdict.Verdict.TheVariants as verdict
use Rattle.pv_report.proofs.Cited.{by_index, classes_not_bad, file_once}
use Rattle.pv_sections.specs.declared.finding.Finding.{Finding}
use Rattle.pv_sections.specs.declared.finding.Finding.TheVariants.{Verdict}
use Rattle.pv_sections.specs.Findings as section
use Rattle.pv_links.specs.declared.finding.LinkFinding.{LinkFinding}
use Rattle.pv_links.specs.declared.flaw.ChainFlaw.{ChainFlaw}
use Rattle.pv_links.specs.declared.flaw.ChainFlaw.TheVariants as flaw
use Rattle.pv_links.specs.Composed.{IsChainFor}
use Rattle.pv_links.specs.Findings.{IsFinding, Link, is_like, is_titled, lemmas_of, links, links_of}
use Rattle.pv_links.specs.Flaws.{IsBetween, IsChain, IsChainFlaw, Names}
use Rattle.pv_links.specs.Laws.{ComposedEquivalent, SaysEquivalent, SaysLinked}
use Rattle.pv_links.specs.Ruled.{ChainRuled, IsChainReport}
use Rattle.pv_links.proofs.ChainSize.{chain_short}
use Rattle.pv_links.proofs.LinkOnce.{found_once, linked}
use Rattle.pv_links.proofs.Linking.{one_cert}
use Rattle.pv_links.proofs.Meaning.{has_bytes}

-- ---- what is found in lists

found_true : {A : Type 0} (p : A → Bool) (xs : List A) (x : A) → find p xs ≡ Some x → p x ≡ true
found_true p [] x e = absurd (cc e)
found_true {A} p (y ∷ xs) x e =
    elim (cases_Bool (p y)) [
      | inl holds ↦ let same : y ≡ x = (let both : ◌≡◌ {A = Option A} (Some y) (Some x) = sym (cond-true (p y) (Some y) (find p xs) holds) ∙ e in cc both) in subst (λ (z : A). p z ≡ true) same holds
      | inr fails ↦ found_true p xs x (sym (cond-false (p y) (Some y) (find p xs) fails) ∙ e)
    ]

titles : (name desc : List ℕ) (s : Section) → is_titled name desc s ≡ true → (s.name ≡ name) × (s.desc ≡ desc)
titles name desc s e =
    let both = and_parts (bytes_eq s.name name) (bytes_eq s.desc desc) e in
    ((bytes_eq-Decides s.name name).0 both.0, (bytes_eq-Decides s.desc desc).0 both.1)

after_all : {A : Type 0} (xs ys : List A) (k : ℕ) (y : A) → slice_get ys k ≡ Some y → (j : ℕ) × (slice_get (xs ++ ys) j ≡ Some y)
after_all [] ys k y at = (k, at)
after_all (x ∷ xs) ys k y at = let more = after_all xs ys k y at in (suc more.0, more.1)

-- the first section with a title, and the first like it among the others, are a link
link_there : (name desc : List ℕ) (sections others : List Section) (s t : Section) → find (is_titled name desc) sections ≡ Some s → find (is_like s) others ≡ Some t → (k : ℕ) × (slice_get (links sections others) k ≡ Some (s, t))
link_there name desc [] others s t e like = absurd (cc e)
link_there name desc (x ∷ sections) others s t e like =
    elim (cases_Bool (is_titled name desc x)) [
      | inl holds ↦
          let same : x ≡ s = (let both : ◌≡◌ {A = Option Section} (Some x) (Some s) = sym (cond-true (is_titled name desc x) (Some x) (find (is_titled name desc) sections) holds) ∙ e in cc both) in
          let here : links_of others x ≡ (s, t) ∷ [] = ap (links_of others) same ∙ ap (λ (o : Option Section). option_to_list (option_map (λ (y : Section). (s, y)) o)) like in
          (0, ap (λ (l : List Link). slice_get (l ++ links sections others) 0) here)
      | inr fails ↦
          let more = link_there name desc sections others s t (sym (cond-false (is_titled name desc x) (Some x) (find (is_titled name desc) sections) fails) ∙ e) like in
          after_all (links_of others x) (links sections others) more.0 (s, t) more.1
    ]

zip_there : {X Y : Type 0} (Is : X → Y → Type 0) (xs : List X) (ys : List Y) (k : ℕ) (x : X) → AllZip Is xs ys → slice_get xs k ≡ Some x → (y : Y) × (slice_get ys k ≡ Some y) × Is x y
zip_there Is [] [] k x all at = absurd (cc at)
zip_there {X} Is (z ∷ xs) (y ∷ ys) zero x all at = let same : z ≡ x = cc at in (y, refl, subst (λ (q : X). Is q y) same all.0)
zip_there Is (z ∷ xs) (y ∷ ys) (suc k) x all at = zip_there Is xs ys k x all.1 at
zip_there Is _ _ k x all at = absurd all

-- ---- the report on a chain that was made

module _ (a b c x y text said name desc : List ℕ) (bytes_a : AreBytes a) (bytes_b : AreBytes b) (bytes_c : AreBytes c) (is : IsChainFor a b c x y text) (one : SaysEquivalent a b x name desc) (two : SaysEquivalent b c y name desc) where
  one_chain : (h : Chain) → IsChain text h → h ≡ is.chain
  one_chain h reads = chain.spelled_once h is.chain reads.fits is.fits (sym reads.spelled_ ∙ is.spelled_)

  no_flaw : (f : ChainFlaw) → IsChainFlaw a c text f → ⊥
  no_flaw flaw.TooLong long = omega (arith, chain_short a b c x y text is, long)
  no_flaw (flaw.Unread f) bad = chain.faults_once.none is.chain f is.fits (subst (λ (t : List ℕ). BadChain t f) is.spelled_ bad.1)
  no_flaw flaw.Digest (h, reads, none) =
      let same = sym (one_chain h reads) in
      none (subst (λ (k : Chain). IsBetween k a c) same (record { first = subst (λ (m : List ℕ). Names is.chain.first a m) (sym is.middle_is) is.first_names; second = subst (λ (m : List ℕ). Names is.chain.second m c) (sym is.middle_is) is.second_names }))

  module _ (findings : List LinkFinding) (r : IsChainReport a c text findings said) where
    middle_is : r.chain.middle ≡ b
    middle_is = ap (λ (h : Chain). h.middle) (one_chain r.chain r.chain_is) ∙ is.middle_is

    g_is : IsClass b r.middle
    g_is = subst (λ (m : List ℕ). IsClass m r.middle) middle_is r.middle_is

    first_cert : one.report.certificate ≡ r.chain.first
    first_cert = one_cert x one.report.certificate is.chain.first one.report.certificate_is is.first_is ∙ ap (λ (h : Chain). h.first) (sym (one_chain r.chain r.chain_is))

    second_cert : two.report.certificate ≡ r.chain.second
    second_cert = one_cert y two.report.certificate is.chain.second two.report.certificate_is is.second_is ∙ ap (λ (h : Chain). h.second) (sym (one_chain r.chain r.chain_is))

    -- of the first section
    first_found : section.IsFinding r.chain.first.lemmas r.first r.middle one.section (Verdict verdict.Equivalent)
    first_found =
        let q = one.report in
        let z = zip_there (section.IsFinding q.certificate.lemmas q.first q.second) q.certificate.sections one.findings one.place one.section q.lines.each one.there in
        let v : z.0 ≡ Verdict verdict.Equivalent = (let both : ◌≡◌ {A = Option Finding} (Some z.0) (Some (Verdict verdict.Equivalent)) = sym z.1 ∙ one.says in cc both) in
        let first : q.first ≡ r.first = file_once a q.first r.first (by_index a bytes_a) q.first_is r.first_is in
        let second : q.second ≡ r.middle = file_once b q.second r.middle (by_index b bytes_b) q.second_is g_is in
        let found = subst (λ (d : Cert). section.IsFinding d.lemmas q.first q.second one.section (Verdict verdict.Equivalent)) first_cert (subst (section.IsFinding q.certificate.lemmas q.first q.second one.section) v z.2) in
        subst (λ (g : ClassFile). section.IsFinding r.chain.first.lemmas r.first g one.section (Verdict verdict.Equivalent)) second
        (subst (λ (f : ClassFile). section.IsFinding r.chain.first.lemmas f q.second one.section (Verdict verdict.Equivalent)) first found)

    -- .. and of the second
    second_found : section.IsFinding r.chain.second.lemmas r.middle r.last two.section (Verdict verdict.Equivalent)
    second_found =
        let q = two.report in
        let z = zip_there (section.IsFinding q.certificate.lemmas q.first q.second) q.certificate.sections two.findings two.place two.section q.lines.each two.there in
        let v : z.0 ≡ Verdict verdict.Equivalent = (let both : ◌≡◌ {A = Option Finding} (Some z.0) (Some (Verdict verdict.Equivalent)) = sym z.1 ∙ two.says in cc both) in
        let first : q.first ≡ r.middle = file_once b q.first r.middle (by_index b bytes_b) q.first_is g_is in
        let second : q.second ≡ r.last = file_once c q.second r.last (by_index c bytes_c) q.second_is r.last_is in
        let found = subst (λ (d : Cert). section.IsFinding d.lemmas q.first q.second two.section (Verdict verdict.Equivalent)) second_cert (subst (section.IsFinding q.certificate.lemmas q.first q.second two.section) v z.2) in
        subst (λ (g : ClassFile). section.IsFinding r.chain.second.lemmas r.middle g two.section (Verdict verdict.Equivalent)) second
        (subst (λ (f : ClassFile). section.IsFinding r.chain.second.lemmas f q.second two.section (Verdict verdict.Equivalent)) first found)

    one_title : (one.section.name ≡ name) × (one.section.desc ≡ desc)
    one_title = titles name desc one.section (found_true (is_titled name desc) one.report.certificate.sections one.section one.first_of)

    two_title : (two.section.name ≡ name) × (two.section.desc ≡ desc)
    two_title = titles name desc two.section (found_true (is_titled name desc) two.report.certificate.sections two.section two.first_of)

    here : (k : ℕ) × (slice_get (links r.chain.first.sections r.chain.second.sections) k ≡ Some (one.section, two.section))
    here =
        let in_first : find (is_titled name desc) r.chain.first.sections ≡ Some one.section = subst (λ (d : Cert). find (is_titled name desc) d.sections ≡ Some one.section) first_cert one.first_of in
        let in_second : find (is_titled name desc) r.chain.second.sections ≡ Some two.section = subst (λ (d : Cert). find (is_titled name desc) d.sections ≡ Some two.section) second_cert two.first_of in
        let by_name : find (is_titled one.section.name desc) r.chain.second.sections ≡ Some two.section = subst (λ (n : List ℕ). find (is_titled n desc) r.chain.second.sections ≡ Some two.section) (sym one_title.0) in_second in
        let like : find (is_like one.section) r.chain.second.sections ≡ Some two.section = subst (λ (d : List ℕ). find (is_titled one.section.name d) r.chain.second.sections ≡ Some two.section) (sym one_title.1) by_name in
        link_there name desc r.chain.first.sections r.chain.second.sections one.section two.section in_first like

    says_linked : SaysLinked a c text said name desc
    says_linked =
        let z = zip_there (IsFinding (lemmas_of r.chain) r.first r.middle r.last) (links r.chain.first.sections r.chain.second.sections) findings here.0 (one.section, two.section) r.lines.each here.1 in
        let l = linked (lemmas_of r.chain) a b c r.first r.middle r.last r.first_is g_is r.last_is one.section two.section (two_title.0 ∙ sym one_title.0) (two_title.1 ∙ sym one_title.1) first_found second_found in
        let m_bytes = has_bytes a r.first l.m bytes_a r.first_is l.are.named.among in
        let n_bytes = has_bytes b r.middle l.n bytes_b g_is l.are.partner.among in
        let p_bytes = has_bytes c r.last l.p bytes_c r.last_is l.are.last_partner.among in
        let v = found_once (lemmas_of r.chain) a b c r.first r.middle r.last r.first_is g_is r.last_is one.section two.section l z.0 m_bytes n_bytes p_bytes z.2 in
        record {
          findings = findings;
          report = r;
          place = here.0;
          link = (one.section, two.section);
          name_is = one_title.0;
          desc_is = one_title.1;
          there = here.1;
          says = z.1 ∙ ap (λ (f : LinkFinding). Some f) v;
        }

  ruled_linked : (s : Status) → ChainRuled a c text said s → SaysLinked a c text said name desc
  ruled_linked status.BadClass bad =
      absurd (classes_not_bad a c said one.report.first two.report.second (by_index a bytes_a) (by_index c bytes_c) one.report.first_is two.report.second_is bad)
  ruled_linked status.BadCert bad = absurd (no_flaw bad.2.0 bad.2.1)
  ruled_linked status.AllEquivalent (findings, r, said_is) = says_linked findings r
  ruled_linked status.Others (findings, r, said_is) = says_linked findings r
  ruled_linked _ (findings, r, said_is) = absurd said_is

pub composed_equivalent : ComposedEquivalent
composed_equivalent a b c x y chain said name desc s bytes_a bytes_b bytes_c is one two ruled = ruled_linked a b c x y chain said name desc bytes_a bytes_b bytes_c is one two s ruled
