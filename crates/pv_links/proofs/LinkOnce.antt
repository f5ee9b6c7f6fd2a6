-- Of two sections that are both accepted nothing but `equivalent` is said.
use Rattle.std.proofs.Common.{◌≡◌, ℕ, List, sym, subst, refl, ◌∙◌}
use Rattle.pv_graph.specs.Graphs.{Graph}
use Rattle.pv_lemmas.specs.Lemmas.{ByLemmas}
use Rattle.pv_steps.specs.declared.step.Lemma.{Lemma}
use Rattle.pv_steps.specs.Accepted.{Derives}
use Rattle.pv_steps.proofs.Cited.{accepted_not_rejected}
use Rattle.pv_class.specs.declared.file.ClassFile.{ClassFile}
use Rattle.pv_class.specs.declared.file.Method.{Method}
use Rattle.pv_class.specs.ClassFiles.{IsClass}
use Rattle.pv_class.proofs.Cited.{HasBytes}
use Rattle.pv_cert.specs.declared.cert.Section.{Section}
use Rattle.pv_report.specs.declared.verdict.Side.TheVariants as side
use Rattle.pv_report.specs.declared.verdict.Verdict.TheVariants as verdict
use Rattle.pv_report.specs.Partners.{IsPartner}
use Rattle.pv_report.proofs.Cited.{no_lack, one_rooted, partner_once, place_of}
use Rattle.pv_sections.specs.declared.finding.Finding.TheVariants.{Verdict}
use Rattle.pv_sections.specs.Findings as section
use Rattle.pv_sections.proofs.Found.{named_once}
use Rattle.pv_sections.proofs.Prepared.{derives_prepared}
use Rattle.pv_links.specs.declared.finding.LinkFinding.{LinkFinding}
use Rattle.pv_links.specs.declared.finding.LinkFinding.TheVariants.{Missing, NoCode, Refused, Rejected, Equivalent}
use Rattle.pv_links.specs.declared.stage.Stage.TheVariants as stage
use Rattle.pv_links.specs.Findings.{AreOf, IsFinding, IsFindingOn, LinkLemmas}

not_rejected : (lemmas : List Lemma) (f : ClassFile) (m : Method) (g : ClassFile) (n : Method) (s : Section) (k : ℕ) → HasBytes m → HasBytes n → section.IsAccepted lemmas f m g n s → section.IsRejected lemmas f m g n s k → ⊥
not_rejected lemmas f m g n s k x y (l, h, derives) (j, i, rejects) =
    let same = one_rooted f m g n l j x y h i in
    let there = subst (λ (q : Graph). Derives (ByLemmas lemmas) q l.first l.second s.steps) (sym same.graph) (derives_prepared lemmas l.graph j.graph.is_prepared l.first l.second s.steps derives) in
    let over = subst (λ (r : ℕ). Derives (ByLemmas lemmas) j.graph j.first r s.steps) same.second (subst (λ (r : ℕ). Derives (ByLemmas lemmas) j.graph r l.second s.steps) same.first there) in
    accepted_not_rejected (ByLemmas lemmas) j.graph j.first j.second s.steps k over rejects

-- on three methods
link_once : (lemmas : LinkLemmas) (f : ClassFile) (m : Method) (g : ClassFile) (n : Method) (h : ClassFile) (p : Method) (s t : Section) (x : LinkFinding) → HasBytes m → HasBytes n → HasBytes p → section.IsAccepted lemmas.0 f m g n s → section.IsAccepted lemmas.1 g n h p t
    → IsFindingOn lemmas f m g n h p (s, t) x → x ≡ Equivalent
link_once lemmas f m g n h p s t (NoCode stage.First) bm bn bp (l, i, d) (k, j, e) on = absurd (no_lack f m g n (verdict.NoCode side.First) l bm bn i on)
link_once lemmas f m g n h p s t (NoCode stage.Middle) bm bn bp (l, i, d) (k, j, e) on = absurd (no_lack f m g n (verdict.NoCode side.Second) l bm bn i on)
link_once lemmas f m g n h p s t (NoCode stage.Last) bm bn bp (l, i, d) (k, j, e) on = absurd (no_lack g n h p (verdict.NoCode side.Second) k bn bp j (on.1, on.2))
link_once lemmas f m g n h p s t (Refused stage.First cause) bm bn bp (l, i, d) (k, j, e) on = absurd (no_lack f m g n (verdict.Refused side.First cause) l bm bn i (on.0, on.2))
link_once lemmas f m g n h p s t (Refused stage.Middle cause) bm bn bp (l, i, d) (k, j, e) on = absurd (no_lack g n h p (verdict.Refused side.First cause) k bn bp j (on.1, on.2))
link_once lemmas f m g n h p s t (Refused stage.Last cause) bm bn bp (l, i, d) (k, j, e) on = absurd (no_lack g n h p (verdict.Refused side.Second cause) k bn bp j (on.1, on.2))
link_once lemmas f m g n h p s t (Rejected side.First q) bm bn bp one two on = absurd (not_rejected lemmas.0 f m g n s q bm bn one on.1)
link_once lemmas f m g n h p s t (Rejected side.Second q) bm bn bp one two on = absurd (not_rejected lemmas.1 g n h p t q bn bp two on.1)
link_once lemmas f m g n h p s t Equivalent bm bn bp one two on = refl
link_once lemmas f m g n h p s t Missing bm bn bp one two on = absurd on

-- .. which are those of the sections
module _ (lemmas : LinkLemmas) (a b c : List ℕ) (f g h : ClassFile) (f_is : IsClass a f) (g_is : IsClass b g) (h_is : IsClass c h) (s t : Section) where
  -- the three methods
  pub record Linked : Type 0 where
    pub m : Method
    pub n : Method
    pub p : Method
    pub are : AreOf f g h s m n p
    pub first : section.IsAccepted lemmas.0 f m g n s
    pub second : section.IsAccepted lemmas.1 g n h p t

  pub linked : t.name ≡ s.name → t.desc ≡ s.desc → section.IsFinding lemmas.0 f g s (Verdict verdict.Equivalent) → section.IsFinding lemmas.1 g h t (Verdict verdict.Equivalent) → Linked
  linked name desc (m, n, one, accepts) (q, p, two, more) =
      let at = place_of g.methods n one.partner.among in
      let named = one.partner.like.name ∙ one.named.name_is ∙ sym name in
      let typed = one.partner.like.desc ∙ one.named.desc_is ∙ sym desc in
      let same : q ≡ n = named_once g t.name t.desc q n at.0 (b, g_is) two.named at.1 named typed in
      record {
        m = m;
        n = n;
        p = p;
        are = record { named = one.named; partner = one.partner; last_partner = subst (λ (x : Method). IsPartner x h.methods p) same two.partner };
        first = accepts;
        second = subst (λ (x : Method). section.IsAccepted lemmas.1 g x h p t) same more;
      }

  pub found_once : (l : Linked) (x : LinkFinding) → HasBytes l.m → HasBytes l.n → HasBytes l.p → IsFinding lemmas f g h (s, t) x → x ≡ Equivalent
  found_once l x bm bn bp is = by x is
    where
      on_methods : (m n p : Method) (x : LinkFinding) → AreOf f g h s m n p → IsFindingOn lemmas f m g n h p (s, t) x → x ≡ Equivalent
      on_methods m n p x are on =
          let at = place_of f.methods l.m l.are.named.among in
          let one : m ≡ l.m = named_once f s.name s.desc m l.m at.0 (a, f_is) are.named at.1 l.are.named.name_is l.are.named.desc_is in
          let two : n ≡ l.n = partner_once l.m g.methods n l.n g_is.describes.distinct (subst (λ (q : Method). IsPartner q g.methods n) one are.partner) l.are.partner in
          let three : p ≡ l.p = partner_once l.n h.methods p l.p h_is.describes.distinct (subst (λ (q : Method). IsPartner q h.methods p) two are.last_partner) l.are.last_partner in
          link_once lemmas f l.m g l.n h l.p s t x bm bn bp l.first l.second (subst (λ (q : Method). IsFindingOn lemmas f l.m g l.n h q (s, t) x) three (subst (λ (q : Method). IsFindingOn lemmas f l.m g q h p (s, t) x) two (subst (λ (q : Method). IsFindingOn lemmas f q g n h p (s, t) x) one on)))

      by : (x : LinkFinding) → IsFinding lemmas f g h (s, t) x → x ≡ Equivalent
      by Missing none = absurd (none l.m l.n l.p l.are)
      by x (m, n, p, are, on) = on_methods m n p x are on
