-- The bytes of two files determine what is said of two methods, and the status.
use Rattle.std.proofs.Common.{◌≡◌, ◌⊎◌, ℕ, List, Some, inl, inr, refl, sym, ap, subst, ◌∙◌}
use Rattle.std.specs.Prelude.{slice_get}
use Rattle.std.specs.List.{AllByRecursion}
use Rattle.pv_base.specs.Stored.{AreBytes}
use Rattle.pv_alike.specs.Laws.{IsSameRooted}
use Rattle.pv_alike.specs.Least.{Rooted}
use Rattle.pv_class.specs.declared.file.ClassFile.{ClassFile}
use Rattle.pv_class.specs.declared.file.Method.{Method}
use Rattle.pv_class.specs.ClassFiles.{IsClass}
use Rattle.pv_class.proofs.Cited.{HasBytes, class_bytes}
use Rattle.pv_graph.specs.Graphs.{Graph}
use Rattle.pv_drawings.specs.Dots.{dot_of}
use Rattle.pv_drawings.specs.Listings.{listing_of}
use Rattle.pv_report.specs.declared.status.Status.{Status}
use Rattle.pv_report.specs.declared.status.Status.TheVariants as status
use Rattle.pv_report.specs.declared.verdict.Graphs.TheVariants.{Least}
use Rattle.pv_report.specs.declared.verdict.Verdict.{Verdict}
use Rattle.pv_report.specs.declared.verdict.Verdict.TheVariants as verdict
use Rattle.pv_report.specs.Options.{Core, Options}
use Rattle.pv_report.specs.Partners.{IsPartner}
use Rattle.pv_report.specs.Report.{IsBadPair}
use Rattle.pv_report.specs.Roots.{HaveLeast}
use Rattle.pv_report.specs.Verdicts.{IsVerdict, LackRoots}
use Rattle.pv_report.proofs.VerdictOnce.{line_once}
use Rattle.pv_report.proofs.Cited.{all_at, bad_twice, by_index, classes_not_bad, file_once, no_lack, one_rooted, partner_once, place_of, slice_once}
use Rattle.pv_draw.specs.declared.answer.Signature.{Signature}
use Rattle.pv_draw.specs.declared.request.Form.{Form}
use Rattle.pv_draw.specs.declared.request.Form.TheVariants.{Listing, Dot}
use Rattle.pv_draw.specs.Drawn.{AreNamed, Drawn, IsLack, HasLeast, drawing, lack_line}
use Rattle.pv_draw.specs.Laws.{DrawnOnce}

-- ---- one drawing

same_drawing : (form : Form) (l k : Rooted) → IsSameRooted l k → drawing form l ≡ drawing form k
same_drawing Listing l k same =
    ap (λ (g : Graph). listing_of g.nodes l.first l.second) (sym same.graph)
    ∙ ap (λ (n : ℕ). listing_of k.graph.nodes n l.second) same.first
    ∙ ap (listing_of k.graph.nodes k.first) same.second
same_drawing Dot l k same =
    ap (λ (g : Graph). dot_of g.nodes l.first l.second) (sym same.graph)
    ∙ ap (λ (n : ℕ). dot_of k.graph.nodes n l.second) same.first
    ∙ ap (dot_of k.graph.nodes k.first) same.second

-- ---- one reason why there is none

-- there are no two such methods, or they don't both have a root
lacking_by : (f g : ClassFile) (s : Signature) (v : Verdict) → IsLack f g s v → ((v ≡ verdict.Missing) × ((m p : Method) → AreNamed f g s m p → ⊥)) ⊎ ((m p : Method) × AreNamed f g s m p × LackRoots f m g p v)
lacking_by f g s verdict.Missing h = inl (refl, h)
lacking_by f g s _ h = inr h

-- what a report says of such methods, with whatever options
some_options : Options
some_options = record { limits = record { axioms = Core; rounds = 0; budget = 0 }; graphs = Least }

as_verdict : (f g : ClassFile) (m p : Method) (v : Verdict) → IsPartner m g.methods p → LackRoots f m g p v → IsVerdict some_options f g m v
as_verdict f g m p (verdict.NoCode s) partner lack = (p, partner, lack)
as_verdict f g m p (verdict.Refused s cause) partner lack = (p, partner, lack)
as_verdict f g m p _ partner lack = absurd lack

-- ---- two classes that were read

module _ (a b : List ℕ) (f g : ClassFile) (a_bytes : AreBytes a) (b_bytes : AreBytes b) (first : IsClass a f) (second : IsClass b g) (s : Signature) where
  f_bytes : AllByRecursion HasBytes f.methods
  f_bytes = class_bytes a f (by_index a a_bytes) first

  g_bytes : AllByRecursion HasBytes g.methods
  g_bytes = class_bytes b g (by_index b b_bytes) second

  one_method : (m n p q : Method) → AreNamed f g s m p → AreNamed f g s n q → m ≡ n
  one_method m n p q h k =
      let here = place_of f.methods m h.named.among in
      let there = place_of f.methods n k.named.among in
      let same : here.0 ≡ there.0 = first.describes.distinct here.0 there.0 m n here.1 there.1 (h.named.name_is ∙ sym k.named.name_is) (h.named.desc_is ∙ sym k.named.desc_is) in
      slice_once f.methods there.0 m n (subst (λ (i : ℕ). slice_get f.methods i ≡ Some m) same here.1) there.1

  -- what holds of one pair of methods holds of the other
  on_pair : (P : Method → Method → Type 0) (m n p q : Method) → AreNamed f g s m p → AreNamed f g s n q → P n q → P m p
  on_pair P m n p q h k is =
      let same = sym (one_method m n p q h k) in
      let other = partner_once m g.methods q p second.describes.distinct (subst (λ (x : Method). IsPartner x g.methods q) same k.partner) h.partner in
      subst (P m) other (subst (λ (x : Method). P x q) same is)

  m_bytes : (m p : Method) → AreNamed f g s m p → HasBytes m
  m_bytes m p are = all_at HasBytes f.methods m f_bytes are.named.among

  p_bytes : (m p : Method) → AreNamed f g s m p → HasBytes p
  p_bytes m p are = all_at HasBytes g.methods p g_bytes are.partner.among

  least_once : (l k : Rooted) → HasLeast f g s l → HasLeast f g s k → IsSameRooted l k
  least_once l k h j =
      one_rooted f h.method g h.partner l k (m_bytes h.method h.partner h.are) (p_bytes h.method h.partner h.are) h.least
      (on_pair (λ (m p : Method). HaveLeast f m g p k) h.method j.method h.partner j.partner h.are j.are j.least)

  lack_once : (v w : Verdict) → IsLack f g s v → IsLack f g s w → v ≡ w
  lack_once v w h k =
      elim (lacking_by f g s v h) [
        | inl x ↦
            elim (lacking_by f g s w k) [
              | inl y ↦ x.0 ∙ sym y.0
              | inr y ↦ absurd (x.1 y.0 y.1 y.2)
            ]
        | inr x ↦
            elim (lacking_by f g s w k) [
              | inl y ↦ absurd (y.1 x.0 x.1 x.2)
              | inr y ↦
                  line_once some_options f g x.0 v w second.describes.distinct (m_bytes x.0 x.1 x.2) g_bytes
                  (as_verdict f g x.0 x.1 v x.2.partner x.3)
                  (as_verdict f g x.0 x.1 w x.2.partner (on_pair (λ (m p : Method). LackRoots f m g p w) x.0 y.0 x.1 y.1 x.2 y.2 y.3))
            ]
      ]

  not_both : (l : Rooted) (v : Verdict) → HasLeast f g s l → IsLack f g s v → ⊥
  not_both l v h k =
      elim (lacking_by f g s v k) [
        | inl y ↦ y.1 h.method h.partner h.are
        | inr y ↦
            no_lack f h.method g h.partner v l (m_bytes h.method h.partner h.are) (p_bytes h.method h.partner h.are) h.least
            (on_pair (λ (m p : Method). LackRoots f m g p v) h.method y.0 h.partner y.1 h.are y.2 y.3)
      ]

-- ---- one answer

-- what is said, by what was read
data Saying (form : Form) (s : Signature) (a b t : List ℕ) (x : Status) : Type 0 where
  bad : x ≡ status.BadClass → IsBadPair a b t → Saying form s a b t x
  drawn : x ≡ status.AllEquivalent → (f g : ClassFile) → IsClass a f → IsClass b g → (l : Rooted) → HasLeast f g s l → t ≡ drawing form l → Saying form s a b t x
  lacking : x ≡ status.Others → (f g : ClassFile) → IsClass a f → IsClass b g → (v : Verdict) → IsLack f g s v → t ≡ lack_line s v → Saying form s a b t x

saying_of : (form : Form) (s : Signature) (a b t : List ℕ) (x : Status) → Drawn form s a b t x → Saying form s a b t x
saying_of form s a b t status.AllEquivalent (f, g, p, q, (l, is, e)) = drawn refl f g p q l is e
saying_of form s a b t status.Others (f, g, p, q, (v, is, e)) = lacking refl f g p q v is e
saying_of form s a b t status.BadClass h = bad refl h
saying_of form s a b t _ h = absurd h

module _ (form : Form) (s : Signature) (a b t u : List ℕ) (x y : Status) (a_bytes : AreBytes a) (b_bytes : AreBytes b) where
  -- what holds of the classes of two files holds of them, however they were read
  on_classes : (P : ClassFile → ClassFile → Type 0) (f g h k : ClassFile) → IsClass a f → IsClass b g → IsClass a h → IsClass b k → P h k → P f g
  on_classes P f g h k p q i j is =
      subst (P f) (file_once b k g (by_index b b_bytes) j q) (subst (λ (c : ClassFile). P c k) (file_once a h f (by_index a a_bytes) i p) is)

  not_bad : (text : List ℕ) (f g : ClassFile) → IsClass a f → IsClass b g → IsBadPair a b text → ⊥
  not_bad text f g p q h = classes_not_bad a b text f g (by_index a a_bytes) (by_index b b_bytes) p q h

  both : Saying form s a b t x → Saying form s a b u y → (t ≡ u) × (x ≡ y)
  both (bad e h) (bad d k) = (bad_twice a b t u (by_index a a_bytes) (by_index b b_bytes) h k, e ∙ sym d)
  both (bad e h) (drawn d f g p q l is c) = absurd (not_bad t f g p q h)
  both (bad e h) (lacking d f g p q v is c) = absurd (not_bad t f g p q h)
  both (drawn e f g p q l is c) (bad d k) = absurd (not_bad u f g p q k)
  both (drawn e f g p q l is c) (drawn d h k i j m it o) =
      (c ∙ same_drawing form l m (least_once a b f g a_bytes b_bytes p q s l m is (on_classes (λ v w. HasLeast v w s m) f g h k p q i j it)) ∙ sym o, e ∙ sym d)
  both (drawn e f g p q l is c) (lacking d h k i j v it o) = absurd (not_both a b f g a_bytes b_bytes p q s l v is (on_classes (λ c d. IsLack c d s v) f g h k p q i j it))
  both (lacking e f g p q v is c) (bad d k) = absurd (not_bad u f g p q k)
  both (lacking e f g p q v is c) (drawn d h k i j l it o) = absurd (not_both a b f g a_bytes b_bytes p q s l v (on_classes (λ c d. HasLeast c d s l) f g h k p q i j it) is)
  both (lacking e f g p q v is c) (lacking d h k i j w it o) =
      (c ∙ ap (lack_line s) (lack_once a b f g a_bytes b_bytes p q s v w is (on_classes (λ c d. IsLack c d s w) f g h k p q i j it)) ∙ sym o, e ∙ sym d)

pub drawn_once : DrawnOnce
drawn_once form s a b t u x y a_bytes b_bytes h k = both form s a b t u x y a_bytes b_bytes (saying_of form s a b t x h) (saying_of form s a b u y k)
