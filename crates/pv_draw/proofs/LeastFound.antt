-- The least graph of the methods with a name and a descriptor, by their places.
use Rattle.std.proofs.Common.{◌≡◌, ℕ, Some, None, Result, Ok, Err, sym, subst, ◌∙◌}
use Rattle.std.specs.Prelude.{slice_get, IfOk}
use Rattle.pv_value.specs.declared.memory.Memory.{Memory}
use Rattle.pv_alike.specs.Least.{Rooted}
use Rattle.pv_class.specs.declared.file.ClassFile.{ClassFile}
use Rattle.pv_class.specs.declared.file.Method.{Method}
use Rattle.pv_class.specs.Places.{IsNamedAt, IsPlaceOf}
use Rattle.pv_report.specs.declared.verdict.Verdict.{Verdict}
use Rattle.pv_report.specs.declared.verdict.Verdict.TheVariants as verdict
use Rattle.pv_report.specs.Judging.{IsLeastOnPlaces, IsLikeAt, IsRead}
use Rattle.pv_report.specs.Partners.{IsNamed, IsPartner}
use Rattle.pv_report.specs.Verdicts.{LackRoots}
use Rattle.pv_report.proofs.Cited.{contains_here, place_of, slice_once}
use Rattle.pv_draw.specs.declared.answer.Signature.{Signature}
use Rattle.pv_draw.specs.Drawn.{AreNamed, IsLack}
use Rattle.pv_draw.specs.Reading.{IsLeastFor}

-- no method has them
pub none_named : (f g : ClassFile) (s : Signature) → IsPlaceOf f.methods s.name s.desc None → IsLack f g s verdict.Missing
none_named f g s none m p are =
    let here = place_of f.methods m are.named.among in
    none here.0 (m, here.1, are.named.name_is, are.named.desc_is)

module _ (f g : ClassFile) (s : Signature) (k : ℕ) (x : Method) (read : IsRead f) (found : IsNamedAt f.methods s.name s.desc k) (at : slice_get f.methods k ≡ Some x) where
  -- the method at the place that was found has them, and no other
  named_here : IsNamed s.name s.desc f.methods x
  named_here =
      let same = slice_once f.methods k found.0 x found.1 at in
      subst (IsNamed s.name s.desc f.methods) same (record { among = contains_here f.methods k found.0 found.1; name_is = found.2; desc_is = found.3 })

  named_once : (m : Method) → IsNamed s.name s.desc f.methods m → m ≡ x
  named_once m named =
      let here = place_of f.methods m named.among in
      let same : here.0 ≡ k = read.1.describes.distinct here.0 k m x here.1 at (named.name_is ∙ sym named_here.name_is) (named.desc_is ∙ sym named_here.desc_is) in
      slice_once f.methods k m x (subst (λ (i : ℕ). slice_get f.methods i ≡ Some m) same here.1) at

  -- it has no partner
  pub no_partner : ((p : Method) → IsPartner x g.methods p → ⊥) → IsLack f g s verdict.Missing
  no_partner none m p are = none p (subst (λ (n : Method). IsPartner n g.methods p) (named_once m are.named) are.partner)

  lacking : (p : Method) (v : Verdict) → AreNamed f g s x p → LackRoots f x g p v → IsLack f g s v
  lacking p verdict.Missing are lack = absurd lack
  lacking p _ are lack = (x, p, are, lack)

  by_places : (p : Method) (r : Result Rooted Verdict) → AreNamed f g s x p → (j : ℕ) → slice_get g.methods j ≡ Some p → IsLeastOnPlaces f k g j r → IsLeastFor f g s r
  by_places p (Ok l) are j there h = record { method = x; partner = p; are = are; least = h x p at there }
  by_places p (Err v) are j there h = lacking p v are (h x p at there)

  -- the least graph by places is that of the methods
  pub least_for : (j : ℕ) (r : Result (Result Rooted Verdict) Memory) → IsLikeAt x g.methods j → IfOk r (λ found. IsLeastOnPlaces f k g j found) → IfOk r (λ found. IsLeastFor f g s found)
  least_for j (Ok r) like h = by_places like.0 r (record { named = named_here; partner = record { among = contains_here g.methods j like.0 like.1; like = like.2 } }) j like.1 h
  least_for j (Err e) like h = tt
