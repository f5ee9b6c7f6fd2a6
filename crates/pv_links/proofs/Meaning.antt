-- Where both sections of a link are accepted, the methods of the first and of the last class have the same meaning.
use Rattle.std.proofs.Common.{◌≡◌, ℕ, List, subst, sym, ◌∙◌}
use Rattle.std.specs.List.{Contains}
use Rattle.pv_base.specs.Stored.{AreBytes}
use Rattle.pv_value.specs.Descriptors.{IsMethodType}
use Rattle.pv_class.specs.declared.file.ClassFile.{ClassFile}
use Rattle.pv_class.specs.declared.file.Method.{Method}
use Rattle.pv_class.specs.ClassFiles.{IsClass}
use Rattle.pv_class.proofs.Cited.{HasBytes, class_bytes}
use Rattle.pv_machine.specs.SameMeaning.{AreEquivalentMethods}
use Rattle.pv_report.specs.Partners.{IsNamed, IsPartner}
use Rattle.pv_report.proofs.Cited.{all_at, by_index}
use Rattle.pv_sections.proofs.Cited.{accepted_meaning}
use Rattle.pv_links.specs.declared.finding.LinkFinding.TheVariants.{Equivalent}
use Rattle.pv_links.specs.Findings.{IsFinding, Link, LinkLemmas, lemmas_of}
use Rattle.pv_links.specs.Laws.{EquivalentMeans}

-- the code of a method of a class file holds bytes
pub has_bytes : (bytes : List ℕ) (file : ClassFile) (m : Method) → AreBytes bytes → IsClass bytes file → Contains file.methods m → HasBytes m
has_bytes bytes file m fits is among = all_at HasBytes file.methods m (class_bytes bytes file (by_index bytes fits) is) among

-- the same meaning as the same method
equivalent_trans : (f : ClassFile) (m : Method) (g : ClassFile) (n : Method) (h : ClassFile) (p : Method) → n.desc ≡ m.desc → AreEquivalentMethods f m g n → AreEquivalentMethods g n h p → AreEquivalentMethods f m h p
equivalent_trans f m g n h p desc x y = record {
  first = x.first;
  second = y.second;
  same = λ d typed w world input fits o.
      let one = x.same d typed w world input fits o in
      let two = y.same d (subst (λ (t : List ℕ). IsMethodType t d) (sym desc) typed) w world input fits o in
      (λ ends. two.0 (one.0 ends), λ ends. one.1 (two.1 ends));
}

pub link_meaning : (lemmas : LinkLemmas) (a b c : List ℕ) (f g h : ClassFile) (link : Link) → AreBytes a → AreBytes b → AreBytes c → IsClass a f → IsClass b g → IsClass c h → IsFinding lemmas f g h link Equivalent
    → (m p : Method) × IsNamed link.0.name link.0.desc f.methods m × IsPartner m h.methods p × AreEquivalentMethods f m h p
link_meaning lemmas a b c f g h link bytes_a bytes_b bytes_c f_is g_is h_is (m, n, p, are, on) =
    let one = are.partner in
    let two = are.last_partner in
    let m_bytes = has_bytes a f m bytes_a f_is are.named.among in
    let n_bytes = has_bytes b g n bytes_b g_is one.among in
    let p_bytes = has_bytes c h p bytes_c h_is two.among in
    let last : IsPartner m h.methods p = record { among = two.among; like = record { name = two.like.name ∙ one.like.name; desc = two.like.desc ∙ one.like.desc; static = two.like.static ∙ one.like.static } } in
    (m, p, are.named, last, equivalent_trans f m g n h p one.like.desc (accepted_meaning lemmas.0 f m g n link.0 on.0 one.like.desc m_bytes n_bytes) (accepted_meaning lemmas.1 g n h p link.1 on.1 two.like.desc n_bytes p_bytes))

pub equivalent_means : EquivalentMeans
equivalent_means a c text said findings r link bytes_a bytes_c is =
    link_meaning (lemmas_of r.chain) a r.chain.middle c r.first r.middle r.last link bytes_a r.chain_is.fits.headed.1.0.1 bytes_c r.first_is r.middle_is r.last_is is
