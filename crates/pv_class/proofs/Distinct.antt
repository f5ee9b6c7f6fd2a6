-- No two methods are the same where each is new after those before it.
use Rattle.std.proofs.Common.{◌≡◌, ℕ, ◌<◌, List, [], ◌∷◌, ◌++◌, length, map, get_or, refl, sym, ap, ◌∙◌, arith}
use Rattle.std.specs.List.{Contains, AllPairs}
use Rattle.std.proofs.lemmas.List.{length-append, length-map, get_or-map, get_or_append_left}
use Rattle.std.proofs.lemmas.List.Quantifiers.{all_pairs_push}
use Rattle.std.proofs.lemmas.Option.{slice_get_within, get_or_from_slice_get, slice_get-get_or}
use Rattle.std.proofs.Math.Seq.{get_or-append_seam}
use Rattle.pv_class.specs.declared.file.Method.{Method}
use Rattle.pv_class.specs.declared.signature.Signature.{Signature}
use Rattle.pv_class.specs.ClassGrammar.{signature, signatures}
use Rattle.pv_class.specs.ClassFiles.{AreDistinct}
use Rattle.pv_class.specs.CheckLaws.{same_signature}

abbrev Differ : Method → Method → Type 0
Differ m n = ¬ (signature m ≡ signature n)

-- no two have the same signature, by pairs
pairs_distinct : (ms : List Method) → AllPairs Differ ms → AreDistinct ms
pairs_distinct ms pairs i j m n ei ej names descs =
    let same : signature m ≡ signature n = same_signature (signature m) (signature n) names descs in
    let at : get_or ms i m ≡ m = get_or_from_slice_get ms i m m ei in
    let at' : get_or ms j m ≡ n = get_or_from_slice_get ms j n m ej in
    let below : i < j → ⊥ = λ lt. pairs i j m lt (slice_get_within ms j n ej) (rw (at, at') same) in
    let above : j < i → ⊥ = λ lt. pairs j i m lt (slice_get_within ms i m ei) (rw (at, at') (sym same)) in
    omega arith

distinct_pairs : (ms : List Method) → AreDistinct ms → AllPairs Differ ms
distinct_pairs ms distinct i j d lt within same =
    let e = distinct i j (get_or ms i d) (get_or ms j d) (slice_get-get_or ms i d (omega arith)) (slice_get-get_or ms j d within) (ap (λ (s : Signature). s.name) same) (ap (λ (s : Signature). s.desc) same) in
    absurd (omega arith)

signatures_map : (ms : List Method) → signatures ms ≡ map signature ms
signatures_map [] = refl
signatures_map (m ∷ ms) = ap (λ (others : List Signature). signature m ∷ others) (signatures_map ms)

pub new_distinct : (ms : List Method) (y : Method) → AreDistinct ms → ¬ Contains (signatures ms) (signature y) → AreDistinct (ms ++ y ∷ [])
new_distinct ms y distinct new =
    let others : (k : ℕ) (d : Method) → k < length ms → Differ (get_or ms k d) y = λ k d lt same. new (rw signatures_map (k, rw length-map lt, get_or-map signature ms k d (signature y) lt ∙ same)) in
    pairs_distinct (ms ++ y ∷ []) (all_pairs_push Differ ms y (distinct_pairs ms distinct) others)

pub distinct_new : (ms : List Method) (y : Method) (later : List Method) → AreDistinct (ms ++ y ∷ later) → ¬ Contains (signatures ms) (signature y)
distinct_new ms y later distinct there =
    let all = ms ++ y ∷ later in
    let (k, lt, same) = rw signatures_map at there in
    let within : k < length ms = rw length-map at lt in
    let one : signature (get_or ms k y) ≡ signature y = sym (get_or-map signature ms k y (signature y) within) ∙ same in
    distinct_pairs all distinct k (length ms) y within (omega (arith, length-append ms (y ∷ later))) (rw (get_or_append_left ms (y ∷ later) y k within, get_or-append_seam) one)
